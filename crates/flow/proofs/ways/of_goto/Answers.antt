-- `flow::ways::of_goto` meets its contract. Assumes nothing.
use mathlib.Core.Path.{ap}
use Rattle.lines.specs.Texts.{bare_listing}
use Rattle.reference.specs.Options.{option_of}
use Rattle.flow.proofs.Tables.{table_tokens}
use Rattle.flow.proofs.Nexts.{goto_none, goto_guarded, goto_plain}
use Rattle.flow.proofs.ways.of_goto.Goals as goal

pub returns-in-None : goal.returns-in-None
returns-in-None c = let g = c.args.g.now in
    goto_none (bare_listing g.listing) c.args.k (table_tokens g c.args.k c.requires.1) c.jump.ensures c.args.guarded (ap option_of c.in-None.is)

pub returns-in-Some : goal.returns-in-Some
returns-in-Some c = let g = c.args.g.now in
    goto_guarded (bare_listing g.listing) c.args.k (table_tokens g c.args.k c.requires.1) c.jump.ensures (ap option_of c.in-Some.is) c.if-guarded.true

pub returns-in-Some-2 : goal.returns-in-Some-2
returns-in-Some-2 c = let g = c.args.g.now in
    goto_plain (bare_listing g.listing) c.args.k (table_tokens g c.args.k c.requires.1) c.jump.ensures (ap option_of c.in-Some.is) c.if-guarded.false
