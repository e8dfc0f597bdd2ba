-- Families of tokens: the cases of `name_of`, `fam_of`, `same_family`, `is_of`, `is_narrow_of` and `is_volatile`. Assumes nothing.
use Prim.Native.Nat.{ℕ, ◌≤◌, ◌<◌}
use native.Mathlib.Omega.{arith}
use native.Mathlib.Decide.{dec_lt}
use mathlib.Core.Logic.{◌⊎◌, inl, inr, by_cases}
use mathlib.Core.Path.{◌≡◌, refl, sym, ap, ◌∙◌}
use mathlib.Core.Bool.{Bool, false}
use mathlib.Core.Option.{Option, none, some}
use lib.Dec.{eqb}
use lib.ListN.{length, take}
use borrow.Author.Tests.{eq-eqb, ne_eqb, lt-ltb, le-ltb}
use Rattle.reference.specs.Control.{let_some◌else◌then◌}
use Rattle.reference.specs.Text.{Text, ◌≟◌, has}
use Rattle.reference.specs.Listing.{Token, is, Register}
use Rattle.reference.specs.Names.{family, fam_of, of_family, volatile_of}
use Rattle.reference.specs.Names as N
use Rattle.reference.specs.Join.{is_narrow}
use Rattle.laws.proofs.Scans.{if-true, if-false, and_kept, and_last}
use Rattle.names.specs.Families.{row_name, is_row, Spells}
use Rattle.names.specs.Volatile.{name_numbered, number_of}
use Rattle.names.specs.declared.families.Spelled.{Spelled}
use Rattle.names.specs.declared.families.Spelled.TheVariants.{Row as InRow, Front}
use Rattle.names.proofs.Same.{same_row, row-not_text, text_not_row}
use Rattle.names.proofs.Bytes.{some_byte}
use Rattle.names.proofs.Volatiles.{row_overwritten, text_overwritten}
use Rattle.lines.specs.Words.{kind_of, len_of, first_bytes, text_of, token_of, Points}
use Rattle.lines.specs.declared.fams.Named.{Named}
use Rattle.lines.specs.Fams.{Fam, fam_text, fam_number, Known, Names}
use Rattle.lines.proofs.words.Tokens.{text_length, first-bytes-means, first-bytes-points}
use Rattle.std.specs.Prelude as std
use Rattle.std.specs.Prelude.{Some, None, MatchOption}

-- ---- a family: a row below 8, else a name

pub row_or-name : (f : Fam) {X : Type 0} → (f < 8 → X) → (8 ≤ f → X) → X
row_or-name f row name = by_cases (dec_lt f 8) row (λ n. name (omega (arith, n)))

module _ (tape area : Text) {f : Fam} where
  pub fam-row : f < 8 → fam_text tape area f ≡ row_name f
  unfolding fam_text
  fam-row h = if-true _ _ (lt-ltb f 8 h)

  pub fam-name : 8 ≤ f → fam_text tape area f ≡ text_of tape area f
  unfolding fam_text
  fam-name h = if-false _ _ (le-ltb f 8 h)

  pub number_row : f < 8 → some f ≡ fam_number tape area f
  unfolding fam_number
  number_row h = sym (if-true _ _ (lt-ltb f 8 h))

  pub number_name : {x : Option ℕ} {s : Text} → 8 ≤ f → s ≡ text_of tape area f → x ≡ number_of s → x ≡ fam_number tape area f
  unfolding fam_number
  number_name h es e = e ∙ ap number_of es ∙ sym (if-false _ _ (le-ltb f 8 h))

  pub row-known : f < 8 → Known tape area f
  row-known h = record { points = λ n. absurd (omega arith); no_row = λ n. absurd (omega arith) }

-- a word of a text that is not empty is no row
pub name-least : (w : ℕ) → 1 ≤ len_of w → 8 ≤ w
unfolding len_of
name-least w h = omega arith

module _ (tape area : Text) {f g : Fam} (kf : Known tape area f) (kg : Known tape area g) where
  pub same_as_row : f < 8 → eqb f g ≡ (fam_text tape area f ≟ fam_text tape area g)
  same_as_row h = row_or-name g
      (λ i. rw (fam-row tape area {f = f} h, fam-row tape area {f = g} i) (sym (same_row f g h i)))
      (λ i. ne_eqb f g (λ e. omega arith) ∙ sym (rw (fam-row tape area {f = f} h, fam-name tape area {f = g} i) (row-not_text f (text_of tape area g) h (kg.no_row i))))

  name-not-row : 8 ≤ f → g < 8 → false ≡ (fam_text tape area f ≟ fam_text tape area g)
  name-not-row h i = rw (fam-name tape area {f = f} h, fam-row tape area {f = g} i) (sym (text_not_row g (text_of tape area f) i (kf.no_row h)))

  -- where one of the two is a row, their numbers tell
  pub same_with_row : (f < 8) ⊎ ((8 ≤ f) × (g < 8)) → eqb f g ≡ (fam_text tape area f ≟ fam_text tape area g)
  same_with_row (inl h) = same_as_row h
  same_with_row (inr h) = ne_eqb f g (λ e. omega arith) ∙ name-not-row h.0 h.1

  pub same_as_name : {x : Bool} → 8 ≤ f → 8 ≤ g → x ≡ (text_of tape area f ≟ text_of tape area g) → x ≡ (fam_text tape area f ≟ fam_text tape area g)
  same_as_name h i e = rw (fam-name tape area {f = f} h, fam-name tape area {f = g} i) e

pub fam_overwritten : (tape area : Text) (c : ℕ) (f : Fam) → Known tape area f
    → (let_some (fam_number tape area f) else false then λ n. has (volatile_of c) (name_numbered n)) ≡ has (volatile_of c) (fam_text tape area f)
unfolding let_some◌else◌then◌
fam_overwritten tape area c f k = row_or-name f
    (λ h. rw (← number_row tape area {f = f} h, fam-row tape area {f = f} h) (row_overwritten c f h))
    (λ h. rw (← number_name tape area {f = f} h refl refl, fam-name tape area {f = f} h) (text_overwritten c (text_of tape area f) (k.no_row h)))

-- what `is_volatile` answers: of a family that no list can name, and of one with a number
module _ (tape area : Text) (c : ℕ) (f : Fam) (k : Known tape area f) where
  pub not_listed : none ≡ fam_number tape area f → false ≡ has (volatile_of c) (fam_text tape area f)
  unfolding let_some◌else◌then◌
  not_listed e = rw (← fam_overwritten tape area c f k, ← e) refl

  pub listed_as : {n : ℕ} {x : Bool} → some n ≡ fam_number tape area f → x ≡ has (volatile_of c) (name_numbered n) → x ≡ has (volatile_of c) (fam_text tape area f)
  unfolding let_some◌else◌then◌
  listed_as e ex = rw (← fam_overwritten tape area c f k, ← e) ex

-- ---- names

same_as : {m n : Named} → ◌≡◌ {A = std.Option Named} (Some m) (Some n) → m ≡ n
same_as e = cc

never_as : {n : Named} {X : Type 0} → ◌≡◌ {A = std.Option Named} None (Some n) → X
never_as e = absurd (let z : ◌≡◌ {A = ℕ} 0 1 = cc in omega arith)

-- what a caller knows of the answer
module _ {tape area : Text} {o : Option N.Fam} {r : std.Option Named} (h : Names tape area o r) where
  pub named_as : {n : Named} → r ≡ Some n → o ≡ some (record { name = fam_text tape area n.family; width = n.width; lowest = n.lowest })
  named_as e = rw (← h.is, e)

  pub named-not : r ≡ None → o ≡ none
  named-not e = rw (← h.is, e)

  pub as_known : {n : Named} → r ≡ Some n → Known tape area n.family
  as_known {n} e = h.known n e

-- and the answers that are made
module _ (tape area : Text) where
  no_name : Names tape area none None
  no_name = record { is = refl; known = λ m e. never_as e }

  pub row-names : {r k l : ℕ} {o : Option N.Fam} → r < 8 → some (record { name = row_name r; width = k; lowest = l }) ≡ o → Names tape area o (Some (record { family = r; width = k; lowest = l }))
  row-names {r} h e = record { is = rw (fam-row tape area {f = r} h) e; known = λ m i. rw (← ap (λ (x : Named). x.family) (same_as i)) (row-known tape area h) }

  pub word-names : {w k l : ℕ} (s : Text) → Points tape area w → is_row (text_of tape area w) ≡ false
      → some (record { name = text_of tape area w; width = k; lowest = l }) ≡ family s → Names tape area (family s) (Some (record { family = w; width = k; lowest = l }))
  word-names {w} s p n e =
      let h = name-least w (omega (arith, text_length p, some_byte s _ (sym e))) in
      record { is = rw (fam-name tape area {f = w} h) e; known = λ m i. rw (← ap (λ (x : Named). x.family) (same_as i)) (record { points = λ _. p; no_row = λ _. n }) }

-- s is the token's text, q what its bytes say
module _ (tape area : Text) (w : ℕ) {s : Text} (es : s ≡ text_of tape area w) {q : std.Option Spelled} (h : Spells s (family s) q) where
  pub named-row : {r k l : ℕ} → q ≡ Some (InRow r k l) → Names tape area (family (text_of tape area w)) (Some (record { family = r; width = k; lowest = l }))
  named-row e = let g = rw e at h in row-names tape area g.sound (g.is ∙ ap family es)

  module _ (p : Points tape area w) {n k : ℕ} (e : q ≡ Some (Front n k)) where
    front : Spells s (family s) (Some (Front n k))
    front = rw e at h

    pub front-inside : n ≤ len_of w
    front-inside = omega (arith, front.sound.0, ap length es, text_length p)

    pub named-front : {v : ℕ} → v ≡ first_bytes w n → Names tape area (family (text_of tape area w)) (Some (record { family = v; width = k; lowest = 0 }))
    named-front i =
        let t : text_of tape area (first_bytes w n) ≡ take n s = ap (λ (x : Token). x.text) (first-bytes-means tape area w n p front-inside) ∙ rw es in
        rw i (word-names tape area _ (first-bytes-points tape area w n p front-inside) (rw t front.sound.1) (rw t (front.is ∙ ap family es)))

-- k is the kind of the token
module _ (tape area : Text) (w : ℕ) {k : ℕ} (ek : k ≡ kind_of w) where
  pub fam-other : (k ≡ Register → ⊥) → Names tape area (fam_of (token_of tape area w)) None
  unfolding fam_of is
  fam-other n = rw (if-false {A = Option N.Fam} (family (text_of tape area w)) none (ne_eqb (kind_of w) Register (λ f. n (ek ∙ f)))) (no_name tape area)

  pub fam-register : {r : std.Option Named} → k ≡ Register → Names tape area (family (text_of tape area w)) r → Names tape area (fam_of (token_of tape area w)) r
  unfolding fam_of is
  fam-register e h = rw (if-true {A = Option N.Fam} (family (text_of tape area w)) none (eq-eqb (kind_of w) Register (sym ek ∙ e))) h

-- ---- a token of the family

module _ (tape area : Text) (w : ℕ) {r : std.Option Named} (h : Names tape area (fam_of (token_of tape area w)) r) (fam : Text) where
  pub of_none : r ≡ None → false ≡ of_family fam (token_of tape area w)
  unfolding of_family let_some◌else◌then◌
  of_none e = rw (← h.is, e)

  pub narrow_none : r ≡ None → false ≡ is_narrow fam (token_of tape area w)
  unfolding is_narrow let_some◌else◌then◌
  narrow_none e = rw (← h.is, e)

  module _ {n : Named} (e : r ≡ Some n) where
    pub narrow_wide : 32 ≤ n.width → false ≡ is_narrow fam (token_of tape area w)
    unfolding is_narrow let_some◌else◌then◌
    narrow_wide l = rw (← h.is, e, le-ltb n.width 32 l) (sym (and_last (fam_text tape area n.family ≟ fam)))

    -- x is whether the token's family is this one
    module _ {x : Bool} (ex : x ≡ (fam_text tape area n.family ≟ fam)) where
      pub of_as : x ≡ of_family fam (token_of tape area w)
      unfolding of_family let_some◌else◌then◌
      of_as = rw (← h.is, e) ex

      pub narrow_as : n.width < 32 → x ≡ is_narrow fam (token_of tape area w)
      unfolding is_narrow let_some◌else◌then◌
      narrow_as l = rw (← h.is, e, lt-ltb n.width 32 l) (ex ∙ sym (and_kept (fam_text tape area n.family ≟ fam)))

pub of_other : (tape area : Text) (w : ℕ) (fam : Text) {k : ℕ} → k ≡ kind_of w → (k ≡ Register → ⊥) → false ≡ of_family fam (token_of tape area w)
of_other tape area w fam ek n = of_none tape area w (fam-other tape area w ek n) fam refl

-- what the functions on one token leave
pub ruleset families = (same_as_name, number_row, number_name, named-row, front-inside, named-front, fam-other, fam-register, of_none, of_other, of_as, narrow_none, narrow_wide, narrow_as)
