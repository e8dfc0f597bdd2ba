-- `lines::fams::mentions` meets its contract. Assumes nothing.
use borrow.Author.Rules.{rules}
use Rattle.lines.proofs.words.Chains.{serves_places, any_at_places}
use Rattle.reference.specs.Names.{of_family}
use native.Mathlib.Omega.{arith}
use Rattle.lines.proofs.shapes.Right.{expr-length, expr-points}
use mathlib.Core.Path.{◌≡◌}
use Prim.Native.Nat.{ℕ, ◌<◌}
use Rattle.lines.specs.Shapes.{expr_words}
use lib.ListN.{get_or}
use Rattle.lines.specs.Texts.{Points, token_of, fam_text}
use Rattle.lines.proofs.fams.mentions.Goals as goal

pub any-requires-clause-callable : goal.any-requires-clause-callable
any-requires-clause-callable c =
    let a = c.args in
    serves_places 0 a.x.count a.x.count (cc) (omega arith) (λ x q k. search rules)
    (λ x b.
    let l : x < a.x.count = omega arith in
    let p : (w : ℕ) → w ≡ get_or (expr_words a.line.now a.x) x 0 → Points a.texts.now w = λ w e. expr-points c.requires.0 c.requires.1 l e in
    search (rules, p) depth 8)

pub returns : goal.returns
returns c =
    let a = c.args in
    any_at_places (of_family (fam_text a.texts.now a.f)) (token_of a.texts.now) (expr_words a.line.now a.x) a.x.count _ _ _ c.any.ensures.ran (cc) (expr-length c.requires.1)
    (λ x b q k. search rules)
