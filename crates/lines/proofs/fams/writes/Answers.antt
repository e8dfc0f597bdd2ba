-- `lines::fams::writes` meets its contract. Assumes nothing.
use borrow.Author.Rules.{rules}
use native.Mathlib.Omega.{arith}
use mathlib.Core.Path.{◌∙◌}
use lib.ListN.{length, get_or}
use Rattle.std.proofs.lemmas.Iterator.{YieldsList-from_range}
use Rattle.std.proofs.lemmas.Iterator.Search.{any_from_yields_List}
use Rattle.reference.specs.Control.{◌and◌}
use Rattle.reference.specs.Names.{of_family}
use Rattle.reference.specs.Shapes.{is_written}
use Rattle.lines.proofs.fams.Writing.{written_any}
use Rattle.lines.specs.Texts.{token_of, tokens_of, fam_text}
use Rattle.lines.proofs.fams.writes.Goals as goal

pub returns : goal.returns
returns c =
    let a = c.args in
    let n = length a.line.now in
    let of = of_family (fam_text a.texts.now a.f) in
    any_from_yields_List (λ k. of (token_of a.texts.now (get_or a.line.now k 0)) and is_written (tokens_of a.texts.now a.line.now) k) _ _ _ c.any.ensures.ran
    (YieldsList-from_range 0 n n (cc) (omega arith)) (λ x b q k. search rules)
    ∙ written_any _ _ (fam_text a.texts.now a.f) a.line.now
