-- Whether a plan changes a line: one after the line that is joined, up to the plan's last, that uses the family. Assumes nothing.
use Prim.Native.Nat.{ℕ, ◌≤◌, ◌<◌}
use mathlib.Core.Logic.{◌⊎◌, inl, inr}
use mathlib.Core.Path.{◌≡◌, sym, ◌∙◌}
use mathlib.Core.Bool.{Bool, false}
use mathlib.Core.List.{List}
use borrow.Author.Tests.{le-ltb, le-leb, lt-leb}
use Rattle.reference.specs.Text.{Text}
use Rattle.reference.specs.Listing.{Line}
use Rattle.reference.specs.Life.{touch, is_use}
use Rattle.laws.proofs.Scans.{and_true, and_false}
use Rattle.joining.specs.Plan.{Plan, changes}
use Rattle.joining.proofs.Acting.{changes-later}

module _ (vol : List Text) (i : ℕ) (p : Plan) (k : ℕ) (l : Line) where
  pub not-later : k ≤ i → false ≡ changes vol i p k l
  unfolding changes
  not-later h = sym (and_false _ (le-ltb i k h))

  pub past_last : i < k → p.last < k → false ≡ changes vol i p k l
  past_last h g = sym (changes-later vol i p k l h ∙ and_false _ (lt-leb k p.last g))

  pub unchanged : (k ≤ i) ⊎ ((i < k) × (p.last < k)) → false ≡ changes vol i p k l
  unchanged e = elim e [ inl h ↦ not-later h | inr h ↦ past_last h.0 h.1 ]

  pub by_use : {b : Bool} → i < k → k ≤ p.last → b ≡ is_use (touch l p.fam vol) → b ≡ changes vol i p k l
  by_use h g e = e ∙ sym (changes-later vol i p k l h ∙ and_true _ (le-leb k p.last g))
