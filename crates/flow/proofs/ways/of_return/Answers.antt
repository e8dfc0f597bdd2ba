-- `flow::ways::of_return` meets its contract. Assumes nothing.
use mathlib.Core.Path.{sym}
use Rattle.lines.specs.Texts.{bare_listing}
use Rattle.flow.proofs.Tables.{table_tokens, lines_long}
use Rattle.flow.proofs.Nexts.{return_guarded, return_plain, value_guarded, value_plain}
use Rattle.flow.proofs.ways.of_return.Goals as goal

pub returns-then-guarded : goal.returns-then-guarded
returns-then-guarded c = let g = c.args.g.now in
    return_guarded (bare_listing g.listing) c.args.k (table_tokens g c.args.k c.requires.1) c.gives_back.ensures (sym (lines_long g)) c.if-gives_back.true c.if-guarded.true

pub returns-else-guarded : goal.returns-else-guarded
returns-else-guarded c = let g = c.args.g.now in
    return_plain (bare_listing g.listing) c.args.k (table_tokens g c.args.k c.requires.1) c.gives_back.ensures (sym (lines_long g)) c.if-gives_back.true c.if-guarded.false

pub returns-then-guarded-2 : goal.returns-then-guarded-2
returns-then-guarded-2 c = let g = c.args.g.now in
    value_guarded (bare_listing g.listing) c.args.k (table_tokens g c.args.k c.requires.1) c.gives_back.ensures c.if-gives_back.false c.if-guarded-2.true

pub returns-else-guarded-2 : goal.returns-else-guarded-2
returns-else-guarded-2 c = let g = c.args.g.now in
    value_plain (bare_listing g.listing) c.args.k (table_tokens g c.args.k c.requires.1) c.gives_back.ensures c.if-gives_back.false c.if-guarded-2.false
