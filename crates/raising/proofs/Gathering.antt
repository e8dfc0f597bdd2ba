-- The table of forms: of a listing whose lines are read, and after one line has changed. Assumes nothing.
use Prim.Native.Nat.{ℕ, ◌<◌}
use native.Mathlib.Omega.{arith}
use mathlib.Core.Path.{◌≡◌, refl, sym, ap, ◌∙◌}
use mathlib.Core.List.{List, [], ◌∷◌, map}
use mathlib.Core.Bool.{false≢true}
use lib.Dec.{eqb}
use lib.ListN.{length, set, replicate, length-map}
use lib.Seq.{get_or-set_same, get_or-set_other}
use borrow.Author.Tests.{eq-eqb}
use Rattle.std.proofs.Common.{eqb-true}
use Rattle.laws.proofs.Scans.{by_test}
use Rattle.reference.specs.Lists.{modify}
use Rattle.reference.specs.Listing.{Line, Listing, ◌at◌}
use Rattle.reference.proofs.Lines.{at_modify, length-modify}
use Rattle.lines.specs.Texts.{bare_in, bare_listing}
use Rattle.lines.specs.declared.texts.Listing as held
use Rattle.flow.specs.Blocks.{no_form}
use Rattle.flow.specs.LineForms.{Formed}
use Rattle.flow.specs.declared.lineforms.LineForm.{LineForm}
use Rattle.raising.specs.Tables.{Gathered}

pub held_long : (h : held.Listing) → length (bare_listing h) ≡ length h.lines.now
held_long h = length-map h.lines.now (bare_in h.texts h.tokens.now)

-- one line is changed, and its form asked anew
pub gathered_again : (g : Line → Line) (i : ℕ) (lines : Listing) (forms : List LineForm) (f : LineForm) → i < length forms → Gathered lines forms
    → Formed (modify i g lines at i).tokens f → Gathered (modify i g lines) (set forms i f)
gathered_again g i lines forms f h was now = λ k b.
    by_test (eqb k i)
    (λ t. let e = eqb-true k i t in rw (e, get_or-set_same forms i f no_form h) now)
    (λ t.
    let n : k ≡ i → ⊥ = λ e. false≢true (sym t ∙ eq-eqb k i e) in
    rw (get_or-set_other forms i k f no_form n, at_modify g k i lines n) (was k (omega (arith, length-modify g i lines))))

-- no kinds
pub zeros : {A : Type 0} (xs : List A) → replicate {A = ℕ} (length xs) 0 ≡ map (λ x. 0) xs
zeros [] = refl
zeros (x ∷ xs) = ap (λ l. 0 ∷ l) (zeros xs)
