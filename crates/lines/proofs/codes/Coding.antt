-- What a code says: families' numbers, the family of a word that has a code, texts whose codes differ, and the codes that are made.
-- Assumes nothing.
use Prim.Native.Nat.{ℕ, zero, suc, ◌+◌, ◌-◌, ◌*◌, ◌/◌, ◌%◌, ◌^◌, ◌≤◌, ◌<◌}
use native.Mathlib.Omega.{arith}
use native.Mathlib.Decide.{ℕ_discrete}
use mathlib.Core.Logic.{◌⊎◌, inl, inr, by_cases}
use mathlib.Core.Path.{◌≡◌, refl, sym, ap, ◌∙◌}
use mathlib.Core.Bool.{Bool, true, false, false≢true}
use mathlib.Core.List.{[]}
use mathlib.Core.Option.{Option, none, some}
use lib.Dec.{eqb, ltb}
use lib.ListN.{length, take, get_or}
use lib.Seq.{take-length}
use borrow.Author.Tests.{eqb-true, eq-eqb, ne_eqb, lt-ltb, le-ltb}
use Rattle.reference.specs.Control.{◌and◌, when◌then◌else◌, let_some◌else◌then◌}
use Rattle.reference.specs.Lists.{position}
use Rattle.reference.specs.Text.{Text, ◌≟◌}
use Rattle.reference.specs.Listing.{Token, is, Register}
use Rattle.reference.specs.Names.{Fam as NFam, family, fam_of, of_family}
use Rattle.reference.proofs.Cases.{some_inj, fails}
use Rattle.laws.proofs.Scans.{if-true, if-false}
use Rattle.names.specs.Families.{ROWS, row_name, is_row, Spells}
use Rattle.names.specs.declared.families.Spelled.{Spelled}
use Rattle.names.specs.declared.families.Spelled.TheVariants.{Row as InRow, Front}
use Rattle.names.proofs.Searches.{position_none, position_at, any_at, all-below, below_at}
use Rattle.names.proofs.Texts.{same_true}
use Rattle.names.proofs.Same.{same_row}
use Rattle.lines.specs.Codes.{bucket, family_number, WIDTHS, coded_width, coded_name, Says, Codes, Placed}
use Rattle.lines.specs.Words.{kind_of, len_of, coding_of, code_of, traits_of, first_bytes, text_of, token_of, Describes, Coded, CodeIs, Points}
use Rattle.lines.specs.Traits.{traits}
use Rattle.lines.specs.Fams.{fam_text, Names}
use Rattle.lines.proofs.words.Tokens.{text_length, first-bytes-means, first-bytes-points}
use Rattle.lines.proofs.fams.Families.{fam-row, row-names, word-names}
use Rattle.std.specs.Prelude.{Some, None}
use Rattle.std.specs.Prelude as std

-- ---- the numbers of families

pub bucket-short : (s : Text) → length s < 2 → 0 ≡ bucket s
unfolding bucket
bucket-short s h = sym (if-true _ _ (lt-ltb (length s) 2 h))

pub bucket-long : (s : Text) {x : ℕ} → 2 ≤ length s → x ≡ (get_or s (length s - 1) 0 + 3 * get_or s (length s - 2) 0) % 7 → x ≡ bucket s
unfolding bucket
bucket-long s h e = e ∙ sym (if-false _ _ (le-ltb (length s) 2 h))

pub bucket-below : (s : Text) → bucket s < 7
unfolding bucket when◌then◌else◌
bucket-below s = step (ltb (length s) 2)
  where
    step : (b : Bool) → (when b then 0 else (get_or s (length s - 1) 0 + 3 * get_or s (length s - 2) 0) % 7) < 7
    step true = omega arith
    step false = omega arith

pub bucket-small : {x : ℕ} (s : Text) → x ≡ bucket s → x < 7
bucket-small s e = rw e (bucket-below s)

-- one test of all rows
rows_numbered : all-below 8 (λ r. eqb (family_number (row_name r)) r) ≡ true
unfolding all-below family_number let_some◌else◌then◌ when◌then◌else◌ ◌and◌
rows_numbered = refl

pub row-numbered : (r : ℕ) → r < 8 → family_number (row_name r) ≡ r
row-numbered r h = eqb-true (family_number (row_name r)) r (below_at 8 (λ r. eqb (family_number (row_name r)) r) r rows_numbered h)

numbered_by : (name : Text) (o : Option ℕ) → position (◌≟ name) ROWS ≡ o → family_number name ≡ (let_some o else 8 + bucket name then λ r. r)
unfolding family_number
numbered_by name o e = rw e

-- a name that is no row's
pub text_numbered : (s : Text) → is_row s ≡ false → family_number s ≡ 8 + bucket s
unfolding is_row let_some◌else◌then◌
text_numbered s e = step (position (◌≟ s) ROWS) refl
  where
    step : (o : Option ℕ) → position (◌≟ s) ROWS ≡ o → family_number s ≡ 8 + bucket s
    step none f = numbered_by s none f
    step (some r) f = let g = position_at (◌≟ s) ROWS [] f in absurd (false≢true (sym e ∙ any_at (◌≟ s) ROWS [] r g.0 g.1))

-- a number from 8 on is no row's
pub no_row : (s : Text) → 8 ≤ family_number s → is_row s ≡ false
unfolding is_row let_some◌else◌then◌
no_row s h = step (position (◌≟ s) ROWS) refl
  where
    step : (o : Option ℕ) → position (◌≟ s) ROWS ≡ o → is_row s ≡ false
    step none f = position_none (◌≟ s) ROWS f
    step (some r) f = absurd (let g : r < 8 = (position_at (◌≟ s) ROWS [] f).0 in omega (arith, numbered_by s (some r) f))

pub number_below : (s : Text) → family_number s < 15
unfolding let_some◌else◌then◌
number_below s = step (position (◌≟ s) ROWS) refl
  where
    step : (o : Option ℕ) → position (◌≟ s) ROWS ≡ o → family_number s < 15
    step none f = omega (arith, numbered_by s none f, bucket-below s)
    step (some r) f = let g : r < 8 = (position_at (◌≟ s) ROWS [] f).0 in omega (arith, numbered_by s (some r) f)

-- ---- the name that a code says

module _ (c : ℕ) (s : Text) where
  pub name-row : c < 36 → coded_name c s ≡ row_name (c / 4 - 1)
  unfolding coded_name
  name-row h = if-true _ _ (lt-ltb c 36 h)

  pub name-whole : 36 ≤ c → c % 4 ≡ 0 → coded_name c s ≡ s
  unfolding coded_name
  name-whole h e = if-false _ _ (le-ltb c 36 h) ∙ if-true _ _ (eq-eqb (c % 4) 0 e)

  pub name-front : 36 ≤ c → (c % 4 ≡ 0 → ⊥) → coded_name c s ≡ take (length s - 1) s
  unfolding coded_name
  name-front h n = if-false _ _ (le-ltb c 36 h) ∙ if-false _ _ (ne_eqb (c % 4) 0 n)

-- ---- a word with a code

module _ (tape area : Text) (w : ℕ) (p : Points tape area w) where
  -- what `code` answers is true of the text
  pub says : {o : std.Option ℕ} {c : ℕ} → CodeIs w o → o ≡ Some c → Says c (text_of tape area w)
  unfolding Coded code_of
  says {c = c} h e = let t = h.some c e in step t.0 t.1 p.coded
    where
      either : c ≡ code_of w → (c ≡ 0 → ⊥) → (code_of w ≡ 0) ⊎ Says (code_of w) (text_of tape area w) → Says c (text_of tape area w)
      either ec n (inl z) = absurd (n (ec ∙ z))
      either ec n (inr q) = rw ec q

      step : c ≡ code_of w → (c ≡ 0 → ⊥) → (coding_of w ≡ 0) ⊎ Describes (code_of w) (traits_of w) (kind_of w) (text_of tape area w) → Says c (text_of tape area w)
      step ec n (inl z) = absurd (n (ec ∙ omega arith))
      step ec n (inr d) = either ec n d.code

  -- and so are the traits that it keeps
  pub kept_traits : {m : ℕ} → m ≡ traits_of w → (m ≡ 0 → ⊥) → m ≡ traits (token_of tape area w)
  unfolding Coded traits_of
  kept_traits {m} e n = e ∙ step p.coded
    where
      step : (coding_of w ≡ 0) ⊎ Describes (code_of w) (traits_of w) (kind_of w) (text_of tape area w) → traits_of w ≡ traits (token_of tape area w)
      step (inl z) = absurd (n (omega arith))
      step (inr d) = d.traits

  module _ {c : ℕ} (q : Says c (text_of tape area w)) where
    pub has_byte : 1 ≤ len_of w
    has_byte = omega (arith, q.some_byte, text_length p)

    text_number : 36 ≤ c → is_row (coded_name c (text_of tape area w)) ≡ false
    text_number h = no_row (coded_name c (text_of tape area w)) (omega (arith, q.number_is))

    module _ {k : ℕ} (ek : k ≡ coded_width c) where
      pub decoded_row : c < 36 → Names tape area (family (text_of tape area w)) (Some (record { family = (c / 4 - 1); width = k; lowest = 0 }))
      decoded_row h = row-names tape area (omega (arith, q.least)) (rw (ek, ← name-row c (text_of tape area w) h) (sym q.family_is))

      pub decoded_whole : 36 ≤ c → c % 4 ≡ 0 → Names tape area (family (text_of tape area w)) (Some (record { family = w; width = k; lowest = 0 }))
      decoded_whole h e =
          let t : coded_name c (text_of tape area w) ≡ text_of tape area w = name-whole c (text_of tape area w) h e in
          word-names tape area _ p (ap is_row (sym t) ∙ text_number h) (rw ek (ap (λ (x : Text). some (record { name = x; width = coded_width c; lowest = 0 })) (sym t) ∙ sym q.family_is))

      pub decoded_front : 36 ≤ c → (c % 4 ≡ 0 → ⊥) → {v : ℕ} → v ≡ first_bytes w (len_of w - 1) → Names tape area (family (text_of tape area w)) (Some (record { family = v; width = k; lowest = 0 }))
      decoded_front h m {v} ev =
          let b : len_of w - 1 ≤ len_of w = omega arith in
          let l : length (text_of tape area w) - 1 ≡ len_of w - 1 = ap (λ (x : ℕ). x - 1) (text_length p) in
          let t : text_of tape area (first_bytes w (len_of w - 1)) ≡ coded_name c (text_of tape area w) =
          ap (λ (x : Token). x.text) (first-bytes-means tape area w (len_of w - 1) p b) ∙ ap (λ (x : ℕ). take x (text_of tape area w)) (sym l) ∙ sym (name-front c (text_of tape area w) h m) in
          rw ev (word-names tape area _ (first-bytes-points tape area w (len_of w - 1) p b) (rw t (text_number h)) (rw (ek, t) (sym q.family_is)))

-- ---- a row's code

pub row-coded : (c : ℕ) (s : Text) (f : ℕ) → Says c s → f < 8 → eqb (c / 4) (f + 1) ≡ (coded_name c s ≟ row_name f)
row-coded c s f q h =
    by_cases (ℕ_discrete (c / 4) (f + 1))
    (λ e.
    let i : c / 4 - 1 ≡ f = omega arith in
    eq-eqb (c / 4) (f + 1) e ∙ sym (rw (name-row c s (omega arith), i) (same_row f f h h ∙ eq-eqb f f refl)))
    (λ n.
    let i = q.least in
    ne_eqb (c / 4) (f + 1) n ∙ sym (fails (λ t. n (omega (arith, q.number_is, ap family_number (same_true (coded_name c s) (row_name f) t), row-numbered f h)))))

pub of_coded : (tape area : Text) (w f : ℕ) {k : ℕ} → k ≡ kind_of w → {c : ℕ}
    → Says c (text_of tape area w) → k ≡ Register → f < 8 → eqb (c / 4) (f + 1) ≡ of_family (fam_text tape area f) (token_of tape area w)
unfolding of_family fam_of is let_some◌else◌then◌
of_coded tape area w f ek {c} q e h =
    rw (eq-eqb (kind_of w) Register (sym ek ∙ e), fam-row tape area {f = f} h)
    (rw (if-true {A = Option NFam} (family (text_of tape area w)) none refl, q.family_is) (row-coded c (text_of tape area w) f q h))

-- ---- the widths

pub width_shifted : (k : ℕ) → k < 4 → 64 / 2 ^ k ≡ get_or WIDTHS k 0
width_shifted zero h = refl
width_shifted (suc zero) h = refl
width_shifted (suc (suc zero)) h = refl
width_shifted (suc (suc (suc zero))) h = refl
width_shifted (suc (suc (suc (suc k)))) h = absurd (omega arith)

-- ---- codes that differ

-- the place of a width, back from the width
back : ℕ → ℕ
back k = when eqb k 64 then 0 else when eqb k 32 then 1 else when eqb k 16 then 2 else 3

places : all-below 4 (λ k. eqb (back (get_or WIDTHS k 0)) k) ≡ true
unfolding all-below back when◌then◌else◌ ◌and◌
places = refl

width_back : (k : ℕ) → k < 4 → back (get_or WIDTHS k 0) ≡ k
width_back k h = eqb-true (back (get_or WIDTHS k 0)) k (below_at 4 (λ k. eqb (back (get_or WIDTHS k 0)) k) k places h)

width_place : (a b : ℕ) → a < 4 → b < 4 → get_or WIDTHS a 0 ≡ get_or WIDTHS b 0 → a ≡ b
width_place a b h k e = sym (width_back a h) ∙ ap back e ∙ width_back b k

-- a text has one code

pub one_code : {a b : ℕ} {s : Text} → Says a s → Says b s → a ≡ b
unfolding coded_width
one_code {a} {b} {s} f g =
    let e : ◌≡◌ {A = NFam} (record { name = coded_name a s; width = coded_width a; lowest = 0 })
    (record { name = coded_name b s; width = coded_width b; lowest = 0 }) = some_inj (sym f.family_is ∙ g.family_is) in
    let n : coded_name a s ≡ coded_name b s = ap (λ (x : NFam). x.name) e in
    let m : a / 4 - 1 ≡ b / 4 - 1 = f.number_is ∙ ap family_number n ∙ sym g.number_is in
    let k : a % 4 ≡ b % 4 = width_place (a % 4) (b % 4) (omega arith) (omega arith) (ap (λ (x : NFam). x.width) e) in
    omega (arith, f.least, g.least)

pub codes_differ : {a b : ℕ} {s t : Text} → Says a s → Says b t → (a ≡ b → ⊥) → false ≡ (s ≟ t)
codes_differ {s = s} {t = t} f g d = sym (fails (λ e. d (one_code (rw (same_true s t e) at f) g)))

pub same_by : (tape area : Text) (v w : ℕ) {x : Bool} {s t : Text} → s ≡ text_of tape area v → t ≡ text_of tape area w → x ≡ (s ≟ t) → x ≡ (text_of tape area v ≟ text_of tape area w)
same_by tape area v w es et e = rw (← es, ← et) e

-- ---- the codes that are made

pub spelled-wide : {s : Text} {q : std.Option Spelled} {n w : ℕ} → Spells s (family s) q → q ≡ Some (Front n w) → w ≡ 64 → Spells s (family s) (Some (Front n 64))
spelled-wide h e f = rw (e, f) at h

pub spelled-low : {s : Text} {q : std.Option Spelled} {r w l : ℕ} → Spells s (family s) q → q ≡ Some (InRow r w l) → l ≡ 0 → Spells s (family s) (Some (InRow r w 0))
spelled-low h e f = rw (e, f) at h

-- what `place_of` tells of a place
pub placed : {w : ℕ} {o : std.Option ℕ} → Placed w o → {k : ℕ} → o ≡ Some k → (k < 4) × (w ≡ get_or WIDTHS k 0)
placed h {k} e = (h.small k e, h.is k e)

-- a place that is not that of 64 bits
pub front-place : {w k : ℕ} → w ≡ get_or WIDTHS k 0 → (w ≡ 64 → ⊥) → 1 ≤ k
front-place {k = zero} e n = absurd (n e)
front-place {k = suc k} e n = omega arith

some_code : {s : Text} {x : ℕ} → x < 64 → Says x s → Codes s (Some x)
some_code {s} {x} h q = record { small = λ c e. let i : x ≡ c = cc in omega arith; true = λ c e. let i : x ≡ c = cc in rw i at q }

module _ {s : Text} where
  pub code_row : {r w x : ℕ} (k : ℕ) → Spells s (family s) (Some (InRow r w 0)) → (length s ≡ 0 → ⊥) → k < 4 → w ≡ get_or WIDTHS k 0 → x ≡ 4 + 4 * r + k → Codes s (Some x)
  unfolding coded_width
  code_row {r} {w} k h n b e ex = rw ex (
      let i : r < 8 = h.sound in
      let q : (4 + 4 * r + k) / 4 - 1 ≡ r = omega arith in
      let m : (4 + 4 * r + k) % 4 ≡ k = omega arith in
      let t : coded_name (4 + 4 * r + k) s ≡ row_name r = name-row (4 + 4 * r + k) s (omega arith) ∙ ap row_name q in
      some_code (omega arith) (record { least = omega arith; some_byte = omega (arith, n); family_is = sym h.is ∙ rw (t, m, e); number_is = q ∙ sym (ap family_number t ∙ row-numbered r i) }))

  pub code-whole : {n x : ℕ} → Spells s (family s) (Some (Front n 64)) → (n ≡ 0 → ⊥) → n ≡ length s → x ≡ bucket s → Codes s (Some (36 + 4 * x))
  unfolding coded_width
  code-whole {n} h z e ex = rw ex (
      let b = bucket-below s in
      let m : (36 + 4 * bucket s) % 4 ≡ 0 = omega arith in
      let t : coded_name (36 + 4 * bucket s) s ≡ s = name-whole (36 + 4 * bucket s) s (omega arith) m in
      let u : take n s ≡ s = ap (λ (x : ℕ). take x s) e ∙ take-length s in
      some_code (omega arith)
      (record {
        least = omega arith;
        some_byte = omega (arith, z);
        family_is = sym h.is ∙ rw (t, m, u);
        number_is = let q : (36 + 4 * bucket s) / 4 - 1 ≡ 8 + bucket s = omega arith in q ∙ sym (ap family_number t ∙ text_numbered s (ap is_row (sym u) ∙ h.sound.1));
      }))

  pub code-front : {n w x y : ℕ} (k : ℕ) → Spells s (family s) (Some (Front n w))
      → n + 1 ≡ length s → x ≡ bucket (take n s) → 1 ≤ k → k < 4 → w ≡ get_or WIDTHS k 0 → y ≡ 36 + 4 * x + k → Codes s (Some y)
  unfolding coded_width
  code-front {n} {w} {x} {y} k h z ex l b e ey = rw ey (
      let below : x < 7 = rw ex (bucket-below (take n s)) in
      let m : (36 + 4 * x + k) % 4 ≡ k = omega arith in
      let j : length s - 1 ≡ n = omega arith in
      let t : coded_name (36 + 4 * x + k) s ≡ take n s = name-front (36 + 4 * x + k) s (omega arith) (λ o. omega arith) ∙ ap (λ (i : ℕ). take i s) j in
      some_code (omega arith)
      (record {
        least = omega arith;
        some_byte = omega arith;
        family_is = sym h.is ∙ rw (t, m, e);
        number_is = let q : (36 + 4 * x + k) / 4 - 1 ≡ 8 + x = omega arith in q ∙ ap (λ (i : ℕ). 8 + i) ex ∙ sym (ap family_number t ∙ text_numbered (take n s) h.sound.1);
      }))

-- what the functions on codes leave
pub ruleset coding = (bucket-short, bucket-long, same_by, code-whole, spelled-wide, spelled-low)
