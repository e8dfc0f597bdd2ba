-- No text has a family but the manual's names, `r` with digits, and `var_` with anything. Assumes nothing.
use Prim.Native.Nat.{ℕ, suc}
use mathlib.Core.Path.{◌≡◌, refl, ap, ◌∙◌}
use mathlib.Core.Bool.{true, false, true≢false, false≢true}
use mathlib.Core.List.{List, [], ◌∷◌, ◌++◌, map}
use mathlib.Core.Option.{Option, some}
use lib.ListN.{get_or, drop, length}
use lib.Seq.{get_or-drop}
use Rattle.reference.specs.Lists.{position, get, is_empty}
use Rattle.reference.specs.Text.{Text, bytes, has, ◌≟◌, starts_with, strip_prefix}
use Rattle.reference.specs.Names.{Fam, LEGACY, legacy, high_byte, numbered, stack_slot, digits_of, is_digit, family}
use Rattle.reference.proofs.Opened.{opened}
use Rattle.reference.proofs.Cases.{by-if, by-some, either, none-some}
use Rattle.reference.proofs.Shapes.{same_text}
use Rattle.books.specs.Tables.{◌∈◌}
use Rattle.books.specs.Registers.{register, by_the_manual}
use Rattle.books.specs.Agreement.{Known, in_the_manual, with_number, stack}
use Rattle.books.proofs.Entries.{at_each, aligned}

-- a search among names finds the name at its place
found : (s : Text) (names : List Text) {i : ℕ} → position (◌≟ s) names ≡ some i → get names i ≡ some s
found s [] e = cc
found s (n ∷ ns) {i} e =
    by-if (λ o. o ≡ some i → get (n ∷ ns) i ≡ some s)
    (λ t w. let z : 0 ≡ i = cc in rw (← z) (ap some (same_text n s t)))
    (λ t w.
    by-some (λ o. o ≡ some i → get (n ∷ ns) i ≡ some s) (λ q v. cc) (λ j q v. let z : suc j ≡ i = cc in rw (← z) (found s ns q)) w)
    e

listed : (s : Text) (names : List Text) → has names s ≡ true → s ∈ names
listed s [] e = absurd (false≢true e)
listed s (n ∷ ns) e = either (s ∈ (n ∷ ns)) e (λ t. (0, ap some (same_text n s t))) (λ t. let q = listed s ns t in (suc q.0, q.1))

-- ---- the table

module _ (s : Text) (f : Fam) where
  abbrev Says : Option Fam → Type 0
  Says o = o ≡ some f → by_the_manual s ≡ some f

  abbrev in_row : List Text → ℕ → Option Fam
  in_row names w = some (record { name = get_or names 0 []; width = w; lowest = 0 })

  abbrev widths : List ℕ
  widths = 64 ∷ 32 ∷ 16 ∷ 8 ∷ []

  rows : (l : List (List Text)) → map (map by_the_manual) l ≡ map (λ names. map (in_row names) widths) l → legacy l s ≡ some f → by_the_manual s ≡ some f
  unfolding legacy
  rows [] e h = cc
  rows (names ∷ rest) e h =
      by-some Says (λ q w. rows rest (cc) w)
      (λ i q w. aligned by_the_manual (in_row names) names widths (cc) i (found s names q) 0 ∙ w)
      h

  every_row : map (map by_the_manual) LEGACY ≡ map (λ names. map (in_row names) widths) LEGACY
  unfolding opened register by_the_manual
  every_row = refl

  -- ---- high bytes, numbered names and stack slots

  abbrev highs : List Text
  highs = bytes "ah" ∷ bytes "bh" ∷ bytes "ch" ∷ bytes "dh" ∷ []

  abbrev high : Text → Option Fam
  high n = some (record { name = bytes "r" ++ (get_or n 0 0 ∷ []) ++ bytes "x"; width = 8; lowest = 8 })

  every_high : map by_the_manual highs ≡ map high highs
  unfolding opened register by_the_manual
  every_high = refl

  abbrev Tells : Option Fam → Type 0
  Tells o = o ≡ some f → Known s f

  of_slot : Tells (stack_slot s)
  unfolding stack_slot
  of_slot = by-if Tells (λ e w. stack e) (λ e w. absurd (none-some w))

  first-digit : (rest : Text) → is_empty (digits_of rest) ≡ false → is_digit (get_or rest 0 0) ≡ true
  first-digit [] e = absurd (true≢false e)
  first-digit (c ∷ cs) e =
      by-if (λ l. is_empty l ≡ false → is_digit c ≡ true) (λ t w. t) (λ t w. absurd (true≢false w)) e

  stripped : (p : Text) {rest : Text} → strip_prefix p s ≡ some rest → (starts_with s p ≡ true) × (rest ≡ drop (length p) s)
  unfolding strip_prefix
  stripped p {rest} e =
      by-if (λ o. o ≡ some rest → (starts_with s p ≡ true) × (rest ≡ drop (length p) s)) (λ t w. (t, cc)) (λ t w. absurd (none-some w)) e

  of_number : Tells (numbered s)
  unfolding numbered
  of_number =
      by-some Tells (λ e. of_slot)
      (λ rest e.
      by-if Tells (λ t. of_slot)
      (λ t w.
      let q = stripped (bytes "r") e in
      with_number q.0 (rw (← get_or-drop 1 s 0 0, ← q.1) (first-digit rest t))))

  of_high : Tells (high_byte s)
  unfolding high_byte
  of_high = by-if Tells (λ t w. in_the_manual (at_each by_the_manual high highs every_high (listed s highs t) ∙ w)) (λ t. of_number)

  pub known : Tells (family s)
  unfolding family
  known = by-some Tells (λ e. of_high) (λ g e w. in_the_manual (rows LEGACY every_row (e ∙ w)))
