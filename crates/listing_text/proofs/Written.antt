-- Fields of the exact form, as they are written, read back as their commands; and a line with a field more. Assumes nothing.
use Prim.Native.Nat.{ℕ, zero, suc, ◌^◌, ◌≤◌, ◌<◌}
use native.Mathlib.Omega.{arith}
use mathlib.Core.Path.{◌≡◌, refl, sym, ap, ◌∙◌}
use mathlib.Core.Bool.{Bool, true, false, false≢true}
use mathlib.Core.List.{List, [], ◌∷◌, ◌++◌, append_assoc, append-nil}
use mathlib.Core.Option.{Option, none, some}
use lib.Dec.{eqb, ltb}
use lib.ListN.{length, take, drop, get_or, length-append}
use lib.Seq.{take_at, drop_at}
use borrow.Author.Tests.{eq-eqb, le-ltb, ltb-false}
use Rattle.reference.specs.Control.{when◌then◌else◌, let_some◌else◌then◌, ◌and◌}
use Rattle.reference.specs.Lists.{any, position}
use Rattle.reference.specs.Listing.{token}
use Rattle.reference.specs.Text.{Text, bytes, ◌≟◌}
use Rattle.reference.specs.Tape.{Command, new_line, marked, new_token, write_command}
use Rattle.reference.specs.Questions.{is_offending}
use Rattle.reference.proofs.Cases.{neither}
use Rattle.laws.proofs.Scans.{by_test}
use Rattle.words.specs.Splitting.{onto}
use Rattle.printing.specs.Decimals.{decimal}
use Rattle.listing_text.specs.Forms.{hexadecimal, letters, exact_address}
use Rattle.listing_text.specs.Exact.{apart, address_in, indent_in, line_command, span_command, token_command, field_command}
use Rattle.listing_text.specs.Exact.{Read, then_read, fields_read, line_read}
use Rattle.listing_text.proofs.Parts.{Without, apart_then, apart-only}
use Rattle.listing_text.proofs.Numerals.{Above, above_append, above_without, Avoids, avoids_append, above_avoids, sixteen-long, sixteen-above, sixteen-reads, indent-reads, indent-above}

-- ---- fields

-- a token's letter
letter_back : (k : ℕ) → k < 8
    → (eqb (get_or letters k 0) 109 ≡ false) × (position (eqb (get_or letters k 0)) letters ≡ some k) × (11 ≤ get_or letters k 0)
unfolding when◌then◌else◌ let_some◌else◌then◌
letter_back zero h = (refl, refl, omega arith)
letter_back (suc zero) h = (refl, refl, omega arith)
letter_back (suc (suc zero)) h = (refl, refl, omega arith)
letter_back (suc (suc (suc zero))) h = (refl, refl, omega arith)
letter_back (suc (suc (suc (suc zero)))) h = (refl, refl, omega arith)
letter_back (suc (suc (suc (suc (suc zero))))) h = (refl, refl, omega arith)
letter_back (suc (suc (suc (suc (suc (suc zero)))))) h = (refl, refl, omega arith)
letter_back (suc (suc (suc (suc (suc (suc (suc zero))))))) h = (refl, refl, omega arith)
letter_back (suc (suc (suc (suc (suc (suc (suc (suc k)))))))) h = absurd (omega arith)

unfoldable pub token-field : ℕ → Text → Text
token-field kind t = get_or letters kind 0 ∷ 58 ∷ t

unfoldable pub span_field : ℕ → ℕ → Text
span_field low high = 109 ∷ 58 ∷ (hexadecimal 16 low ++ bytes ".." ++ hexadecimal 16 high)

module _ (kind : ℕ) (t : Text) (h : kind < 8) where
  pub token_back : length t < 2 ^ 16 → field_command (token-field kind t) ≡ some (new_token (token kind t))
  unfolding token-field field_command token_command when◌then◌else◌ let_some◌else◌then◌
  token_back l =
      let b = letter_back kind h in
      rw (le-ltb (suc (suc (length t))) 2 (omega arith), b.0, b.1, le-ltb 65535 (length t) (omega arith))

  pub token-above : Above t → Above (token-field kind t)
  unfolding token-field
  token-above a = ((letter_back kind h).2, (omega arith, a))

module _ (low high : ℕ) where
  span_long : length (hexadecimal 16 low ++ bytes ".." ++ hexadecimal 16 high) ≡ 34
  span_long =
      length-append (hexadecimal 16 low ++ bytes "..") (hexadecimal 16 high)
      ∙ omega (arith, length-append (hexadecimal 16 low) (bytes ".."), sixteen-long low, sixteen-long high)

  pub span_back : low < 16 ^ 16 → high < 16 ^ 16 → field_command (span_field low high) ≡ some (marked (record { lowest = low; highest = high }))
  unfolding span_field field_command span_command when◌then◌else◌ let_some◌else◌then◌ ◌and◌
  span_back l h =
      let a : Text = hexadecimal 16 low in
      let b : Text = hexadecimal 16 high in
      let t : Text = a ++ bytes ".." ++ b in
      let whole : t ≡ a ++ (bytes ".." ++ b) = append_assoc a (bytes "..") b in
      let first : take 16 t ≡ a = ap (take 16) whole ∙ take_at a (bytes ".." ++ b) 16 (sixteen-long low) in
      let middle : take 2 (drop 16 t) ≡ bytes ".." = ap (λ (s : Text). take 2 (drop 16 s)) whole ∙ ap (take 2) (drop_at a (bytes ".." ++ b) 16 (sixteen-long low)) in
      let two : length (a ++ bytes "..") ≡ 18 = length-append a (bytes "..") ∙ omega (arith, sixteen-long low) in
      let last : drop 18 t ≡ b = drop_at (a ++ bytes "..") b 18 two in
      rw (le-ltb (suc (suc (length t))) 2 (omega arith), eq-eqb (length t) 34 span_long, middle, first, last, sixteen-reads low l, sixteen-reads high h)

  pub span_above : Above (span_field low high)
  unfolding span_field
  span_above = (
    omega arith,
    (
      omega arith,
      above_append (hexadecimal 16 low ++ bytes "..") (hexadecimal 16 high)
          (above_append (hexadecimal 16 low) (bytes "..") (sixteen-above low) (omega arith, (omega arith, tt))) (sixteen-above high),
    ),
  )

-- ---- the front of a line

not_dash : (s : Text) → 2 ≤ length s → (s ≟ bytes "-") ≡ false
unfolding ◌and◌
not_dash [] h = absurd (omega arith)
not_dash (x ∷ []) h = absurd (omega arith)
not_dash (x ∷ y ∷ s) h = step (eqb x 45)
  where
    step : (b : Bool) → (b and false) ≡ false
    step true = refl
    step false = refl

abbrev pub Fits : Option ℕ → Type 0
Fits none = Unit {0}
Fits (some n) = n < 16 ^ 16

pub address-back : (a : Option ℕ) → Fits a → address_in (exact_address a) ≡ some a
unfolding address_in exact_address when◌then◌else◌ let_some◌else◌then◌ ◌and◌
address-back none f = refl
address-back (some n) f = rw (not_dash (hexadecimal 16 n) (omega (arith, sixteen-long n)), sixteen-reads n f)

pub address_above : (a : Option ℕ) → Above (exact_address a)
unfolding exact_address
address_above none = (omega arith, tt)
address_above (some n) = sixteen-above n

pub indent-back : (n : ℕ) → n ≤ 63 → indent_in (decimal n) ≡ some n
unfolding indent_in when◌then◌else◌ let_some◌else◌then◌
indent-back n h = rw (indent-reads n (omega arith), le-ltb 255 n (omega arith))

unfoldable pub front_text : Option ℕ → ℕ → Text
front_text a indent = exact_address a ++ (9 ∷ decimal indent)

-- ---- a line

-- what is read is right, and these bytes
abbrev pub Right : Read → List ℕ → Type 0
Right r b = r ≡ record { bytes = b; right = true }

module _ (a : Option ℕ) (indent : ℕ) (f : Fits a) (h : indent ≤ 63) where
  pub front-right : Right (line_read (apart 9 (front_text a indent))) (write_command (new_line a indent))
  unfolding front_text line_read fields_read then_read line_command let_some◌else◌then◌
  front-right =
      let no : Without 9 (exact_address a) = above_without 9 (exact_address a) (omega arith) (address_above a) in
      let nor : Without 9 (decimal indent) = above_without 9 (decimal indent) (omega arith) (indent-above indent (omega arith)) in
      rw (apart_then 9 (exact_address a) (decimal indent) no, apart-only 9 (decimal indent) nor, address-back a f, indent-back indent h)
      (λ i. record { bytes = append-nil (write_command (new_line a indent)) i; right = true })

  -- no newline in it
  pub front_one : Avoids 10 (front_text a indent)
  unfolding front_text
  front_one =
      avoids_append 10 (exact_address a) (9 ∷ decimal indent) (above_avoids 10 (exact_address a) (omega arith) (address_above a))
      (λ e. omega arith, above_avoids 10 (decimal indent) (omega arith) (indent-above indent (omega arith)))

-- ---- a field more, behind a tab

apart_some : (t : Text) → (p : Text) × (ps : List Text) × (apart 9 t ≡ p ∷ ps)
unfolding apart onto when◌then◌else◌
apart_some [] = ([], [], refl)
apart_some (x ∷ t) =
    let k = apart_some t in
    by_test (eqb x 9) (λ e. ([], apart 9 t, rw e)) (λ e. (x ∷ k.0, k.1, rw (e, k.2)))

apart_more : (t f : Text) → Without 9 f → apart 9 (t ++ (9 ∷ f)) ≡ apart 9 t ++ (f ∷ [])
unfolding apart onto when◌then◌else◌
apart_more [] f n = ap (λ (r : List Text). [] ∷ r) (apart-only 9 f n)
apart_more (x ∷ t) f n =
    let k = apart_some t in
    by_test (eqb x 9) (λ e. rw (e, apart_more t f n)) (λ e. rw (e, apart_more t f n, k.2))

then_more : (o : Option Command) (r r' : Read) (w b : List ℕ) → ((b' : List ℕ) → Right r b' → Right r' (b' ++ w)) → Right (then_read o r) b
    → Right (then_read o r') (b ++ w)
unfolding then_read
then_more none r r' w b f e = absurd (false≢true (ap (λ (k : Read). k.right) e))
then_more (some c) r r' w b f e =
    let same : write_command c ++ r.bytes ≡ b = ap (λ (k : Read). k.bytes) e in
    let right : r.right ≡ true = ap (λ (k : Read). k.right) e in
    let k : Right r' (r.bytes ++ w) = f r.bytes (λ i. record { bytes = r.bytes; right = right i }) in
    let long : write_command c ++ r'.bytes ≡ b ++ w =
    ap (λ (m : Read). write_command c ++ m.bytes) k ∙ sym (append_assoc (write_command c) r.bytes w) ∙ ap (λ (s : List ℕ). s ++ w) same in
    λ i. record { bytes = long i; right = ap (λ (m : Read). m.right) k i }

module _ (f : Text) (c : Command) (known : field_command f ≡ some c) where
  fields_more : (fs : List Text) (b : List ℕ) → Right (fields_read fs) b → Right (fields_read (fs ++ (f ∷ []))) (b ++ write_command c)
  unfolding fields_read then_read
  fields_more [] b e =
      let none : [] ≡ b = ap (λ (k : Read). k.bytes) e in
      let long : write_command c ++ [] ≡ b ++ write_command c = append-nil (write_command c) ∙ ap (λ (s : List ℕ). s ++ write_command c) none in
      rw known (λ i. record { bytes = long i; right = true })
  fields_more (g ∷ fs) b e = then_more (field_command g) (fields_read fs) (fields_read (fs ++ (f ∷ []))) (write_command c) b (fields_more fs) e

  line_more : (fs : List Text) (b : List ℕ) → Right (line_read fs) b → Right (line_read (fs ++ (f ∷ []))) (b ++ write_command c)
  unfolding line_read
  line_more [] b e = absurd (false≢true (ap (λ (k : Read). k.right) e))
  line_more (a ∷ []) b e = absurd (false≢true (ap (λ (k : Read). k.right) e))
  line_more (a ∷ i ∷ fs) b e = then_more (line_command a i) (fields_read fs) (fields_read (fs ++ (f ∷ []))) (write_command c) b (fields_more fs) e

-- a line, read so far
pub record Line (l : Text) (b : List ℕ) : Type 0 where
  pub one : Avoids 10 l
  pub right : Right (line_read (apart 9 l)) b

pub front_line : (a : Option ℕ) (indent : ℕ) → Fits a → indent ≤ 63 → Line (front_text a indent) (write_command (new_line a indent))
front_line a indent f h = record { one = front_one a indent f h; right = front-right a indent f h }

pub longer_line : (l : Text) (b : List ℕ) (f : Text) (c : Command) → field_command f ≡ some c → Above f → Line l b
    → Line (l ++ (9 ∷ f)) (b ++ write_command c)
longer_line l b f c known a k =
    record {
      one = avoids_append 10 l (9 ∷ f) k.one (λ e. omega arith, above_avoids 10 f (omega arith) a);
      right = ap line_read (apart_more l f (above_without 9 f (omega arith) a)) ∙ line_more f c known (apart 9 l) b k.right;
    }

-- ---- printable texts

pub printable-above : (t : Text) → any is_offending t ≡ false → Above t
printable-above [] e = tt
printable-above (x ∷ t) e =
    let n = neither {a = is_offending x} {b = any is_offending t} e in
    let low = neither {a = ltb x 0x20} {b = ltb 0x7E x} n.0 in
    (omega (arith, ltb-false x 0x20 low.0), printable-above t n.1)
