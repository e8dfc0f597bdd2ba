-- A family's name has a byte. Assumes nothing.
use Prim.Native.Nat.{◌≤◌}
use native.Mathlib.Omega.{arith}
use mathlib.Core.Path.{◌≡◌, refl, ◌∙◌, subst}
use mathlib.Core.Bool.{true, false≢true}
use mathlib.Core.List.{List, [], ◌∷◌}
use mathlib.Core.Option.{Option, some}
use lib.Dec.{leb}
use lib.ListN.{length, get_or}
use borrow.Author.Tests.{leb-true}
use Rattle.reference.specs.Control.{◌and◌}
use Rattle.reference.specs.Text.{Text, bytes, starts_with}
use Rattle.reference.specs.Names.{Fam, LEGACY, legacy, stack_slot, numbered, high_byte, family}
use Rattle.reference.proofs.Cases.{by-if, by-some, both, some_inj, none-some}
use Rattle.names.proofs.Searches.{all}

-- what the answer o names
abbrev Named : Option Fam → Type 0
Named o = (f : Fam) → o ≡ some f → 1 ≤ length f.name

named : (f : Fam) → 1 ≤ length f.name → Named (some f)
named f b g e = subst (λ (x : Fam). 1 ≤ length x.name) (some_inj e) b

module _ (s : Text) where
  in_rows : (l : List (List Text)) → all (λ names. leb 1 (length (get_or names 0 []))) l ≡ true → Named (legacy l s)
  unfolding legacy
  in_rows [] e = λ f h. absurd (none-some h)
  in_rows (names ∷ rest) e = by-some Named (λ q. in_rows rest (both e).1) (λ i q. named _ (leb-true 1 (length (get_or names 0 [])) (both e).0))

  of_slot : Named (stack_slot s)
  unfolding stack_slot
  of_slot = by-if Named (λ e. named _ (begun s e)) (λ e f h. absurd (none-some h))
    where
      begun : (s : Text) → starts_with s (bytes "var_") ≡ true → 1 ≤ length s
      begun [] e = absurd (false≢true e)
      begun (x ∷ s) e = omega arith

  of_number : Named (numbered s)
  unfolding numbered
  of_number =
      by-some Named (λ e. of_slot)
      (λ rest e. by-if Named (λ t. of_slot) (λ t. by-some Named (λ q f h. absurd (none-some h)) (λ w q. named _ (omega arith))))

  pub some_byte : (f : Fam) → family s ≡ some f → 1 ≤ length f.name
  unfolding family high_byte ◌and◌
  some_byte =
      by-some Named (λ e. by-if Named (λ t. named _ (omega arith)) (λ t. of_number))
      (λ g e f h. in_rows LEGACY refl f (e ∙ h))
