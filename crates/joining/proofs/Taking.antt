-- To test the lines that use a family, by their places, is one scan over the lines. Assumes nothing.
use Prim.Native.Nat.{ℕ, suc, ◌-◌}
use native.Mathlib.Omega.{arith}
use native.Mathlib.Decide.{dec_le}
use mathlib.Core.Path.{◌≡◌, refl, ap}
use mathlib.Core.Logic.{by_cases}
use mathlib.Core.Bool.{Bool, true, false}
use mathlib.Core.List.{List, [], ◌∷◌}
use lib.ListN.{take, drop}
use lib.Seq.{slice, take-nil}
use borrow.Author.Tests.{le-leb}
use Rattle.reference.specs.Control.{◌and◌, ◌or◌, when◌then◌else◌}
use Rattle.reference.specs.Lists.{any}
use Rattle.reference.specs.Text.{Text}
use Rattle.reference.specs.Listing.{Line, Listing, ◌at◌}
use Rattle.reference.specs.Life.{touch, is_use}
use Rattle.reference.specs.Join.{bad_use}
use Rattle.reference.proofs.Lines.{drop-step}
use Rattle.laws.proofs.Parts.{drop-take}
use Rattle.joining.specs.Plan.{refuses}
use Rattle.joining.proofs.Uses.{uses_upto, uses_past}

module _ (fam : Text) (volatile : List Text) (q : Line → Bool) (lines : Listing) (last : ℕ) where
  any_uses : (j : ℕ) (ls : Listing) → drop j lines ≡ ls
      → any (λ k. q (lines at k)) (uses_upto fam volatile last j ls) ≡ any (λ l. is_use (touch l fam volatile) and q l) (take (suc last - j) ls)
  unfolding uses_upto when◌then◌else◌ ◌and◌ ◌or◌
  any_uses j [] e = rw (take-nil {A = Line} (suc last - j))
  any_uses j (l ∷ ls) e =
      let d = drop-step j lines l ls e in
      by_cases (dec_le j last)
      (λ h.
      (let less : suc last - suc j ≡ last - j = omega arith in
      let more : suc last - j ≡ suc (last - j) = omega arith in
      rw (more, le-leb j last h)
      (step (is_use (touch l fam volatile)) (q l) (ap q d.0) (rw less at (any_uses (suc j) ls d.1)))))
      (λ h.
      (let zero_left : suc last - j ≡ 0 = omega arith in
      rw zero_left (ap (any (λ k. q (lines at k))) (uses_past fam volatile last j (l ∷ ls) (omega arith)))))
    where
      step : (b c : Bool) → q (lines at j) ≡ c
          → any (λ k. q (lines at k)) (uses_upto fam volatile last (suc j) ls) ≡ any (λ l. is_use (touch l fam volatile) and q l) (take (last - j) ls)
          → any (λ k. q (lines at k)) (when true and b then j ∷ uses_upto fam volatile last (suc j) ls else uses_upto fam volatile last (suc j) ls)
          ≡ (b and c or any (λ l. is_use (touch l fam volatile) and q l) (take (last - j) ls))
      step true c same ih = rw (same, ih)
      step false c same ih = ih

-- the constant may go where no line up to `last` refuses it
pub refused : (fam : Text) (volatile : List Text) (lines : Listing) (i last : ℕ)
    → any (λ j. bad_use fam (lines at j).tokens) (uses_upto fam volatile last (suc i) (drop (suc i) lines))
    ≡ any (refuses fam volatile) (slice (suc i) (suc last) lines)
unfolding refuses
refused fam volatile lines i last =
    rw (drop-take (suc i) (suc last) lines)
    (any_uses fam volatile (λ l. bad_use fam l.tokens) lines last (suc i) (drop (suc i) lines) refl)
