-- `sources::copying::put_copied` meets its contract. Assumes nothing.
use mathlib.Core.Path.{refl, ap, ◌∙◌}
use lib.Dec.{eqb}
use Rattle.reference.specs.Options.{option_of}
use Rattle.text.proofs.Cursors.{puts_none}
use Rattle.sources.specs.Calls.{copied}
use Rattle.sources.proofs.Putting.{picked-address}
use Rattle.sources.proofs.copying.put_copied.Goals as goal

pub put_line-requires : goal.put_line-requires
unfolding copied
put_line-requires c = let r = rw c.in-Line.is at c.requires in
    rw (ap option_of c.then_some.ensures ∙ picked-address (eqb c.args.n c.args.k)) (r.0, r.1)

pub put_token-requires : goal.put_token-requires
unfolding copied
put_token-requires c = let r = rw c.in-Token.is at c.requires in (r.0, r.1)

pub returns-in-Line : goal.returns-in-Line
unfolding copied
returns-in-Line c =
    rw c.in-Line.is ((rw (ap option_of c.then_some.ensures ∙ picked-address (eqb c.args.n c.args.k)) at c.put_line.ensures), refl)

pub returns-in-Marks : goal.returns-in-Marks
unfolding copied
returns-in-Marks c = rw c.in-Marks.is (puts_none, refl)

pub returns-in-Token : goal.returns-in-Token
unfolding copied
returns-in-Token c = rw c.in-Token.is (c.put_token.ensures, refl)
