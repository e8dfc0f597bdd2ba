-- One command: what its first byte says of the bytes after it, and that it reads back as it was written and writes back as it was read.
-- Assumes nothing.
use Prim.Native.Nat.{ℕ, suc, ◌+◌, ◌-◌, ◌^◌, ◌<◌, ◌≤◌}
use native.Mathlib.Omega.{arith}
use mathlib.Core.Path.{◌≡◌, refl, ap, ◌∙◌}
use mathlib.Core.Bool.{true, false, false≢true}
use mathlib.Core.List.{List, [], ◌∷◌, ◌++◌}
use mathlib.Core.Option.{Option, none, some}
use lib.Dec.{eqb}
use lib.ListN.{length, get_or, take, drop, length-drop}
use lib.Seq.{take-suc, take-add, take-append_seam, length-take-le}
use borrow.Author.Tests.{ne_eqb, eqb-true, leb-true, le-leb}
use Rattle.reference.specs.Control.{◌and◌, ◌or◌, when◌then◌else◌}
use Rattle.reference.specs.Listing.{token}
use Rattle.reference.specs.Spans.{Span}
use Rattle.reference.specs.Tape.{to_le_bytes, from_le_bytes, TapeForm, old, offsets, line_byte, marks_byte, width, Command, new_line, marked, new_token, end, write_command_by, text_length}
use Rattle.reference.specs.Tape.{command_size_by, command_by}
use Rattle.reference.specs.Questions.{is_command_by}
use Rattle.reference.proofs.Cases.{either, both}
use Rattle.reference.proofs.LittleEndian.{Bytes, bytes_drop, bytes_take, from_to, from-below, to_take}

-- ---- by the first byte

-- the bytes of a form are apart from each other and from all other commands' bytes
pub record Apart (form : TapeForm) : Type 0 where
  pub line_plain : eqb 0x02 (line_byte form) ≡ false
  pub line_end : eqb 0xFF (line_byte form) ≡ false
  pub marks_line : eqb (marks_byte form) (line_byte form) ≡ false
  pub marks_plain : eqb (marks_byte form) 0x02 ≡ false
  pub marks_end : eqb 0xFF (marks_byte form) ≡ false
  pub line_low : line_byte form < 0x10
  pub marks_low : marks_byte form < 0x10
  pub line_some : 0 < line_byte form
  pub marks_some : 0 < marks_byte form
  pub same_line : eqb (line_byte form) (line_byte form) ≡ true
  pub same_marks : eqb (marks_byte form) (marks_byte form) ≡ true

pub apart : (form : TapeForm) → Apart form
apart old =
    record {
      line_plain = refl;
      line_end = refl;
      marks_line = refl;
      marks_plain = refl;
      marks_end = refl;
      line_low = omega arith;
      marks_low = omega arith;
      line_some = omega arith;
      marks_some = omega arith;
      same_line = refl;
      same_marks = refl;
    }
apart offsets =
    record {
      line_plain = refl;
      line_end = refl;
      marks_line = refl;
      marks_plain = refl;
      marks_end = refl;
      line_low = omega arith;
      marks_low = omega arith;
      line_some = omega arith;
      marks_some = omega arith;
      same_line = refl;
      same_marks = refl;
    }

module _ (form : TapeForm) (rest : List ℕ) where
  -- a command's size, and what it says
  abbrev pub SaysBy : ℕ → Command → Type 0
  SaysBy n c = (command_size_by form rest ≡ n) × (command_by form rest ≡ c)

  pub address_form_by : get_or rest 0 0 ≡ line_byte form
      → SaysBy (2 + width form) (new_line (some (from_le_bytes (take (width form) (drop 1 rest)))) (get_or rest (1 + width form) 0))
  unfolding command_size_by command_by when◌then◌else◌
  address_form_by e = let a = (apart form).same_line in (rw (e, a), rw (e, a))

  pub plain_form_by : get_or rest 0 0 ≡ 0x02 → SaysBy 2 (new_line none (get_or rest 1 0))
  unfolding command_size_by command_by when◌then◌else◌
  plain_form_by e = let a = (apart form).line_plain in (rw (e, a), rw (e, a))

  pub marks_form_by : get_or rest 0 0 ≡ marks_byte form
      → SaysBy (1 + width form + width form)
      (marked (record { lowest = from_le_bytes (take (width form) (drop 1 rest)); highest = from_le_bytes (take (width form) (drop (1 + width form) rest)) }))
  unfolding command_size_by command_by when◌then◌else◌
  marks_form_by e =
      let a = apart form in
      (rw (e, a.marks_line, a.marks_plain, a.same_marks), rw (e, a.marks_line, a.marks_plain, a.same_marks))

  pub end_form_by : get_or rest 0 0 ≡ 0xFF → SaysBy 1 end
  unfolding command_size_by command_by when◌then◌else◌
  end_form_by e = let a = apart form in (rw (e, a.line_end, a.marks_end), rw (e, a.line_end, a.marks_end))

  pub token_form_by : 0x10 ≤ get_or rest 0 0 → get_or rest 0 0 ≤ 0x17
      → SaysBy (3 + text_length rest) (new_token (token (get_or rest 0 0 - 0x10) (take (text_length rest) (drop 3 rest))))
  unfolding command_size_by command_by when◌then◌else◌
  token_form_by low high =
      let a = apart form in
      let e₁ : eqb (get_or rest 0 0) (line_byte form) ≡ false = ne_eqb (get_or rest 0 0) (line_byte form) (λ e. omega (arith, a.line_low)) in
      let e₂ : eqb (get_or rest 0 0) 0x02 ≡ false = ne_eqb (get_or rest 0 0) 0x02 (λ e. omega arith) in
      let e₃ : eqb (get_or rest 0 0) (marks_byte form) ≡ false = ne_eqb (get_or rest 0 0) (marks_byte form) (λ e. omega (arith, a.marks_low)) in
      let e₄ : eqb (get_or rest 0 0) 0xFF ≡ false = ne_eqb (get_or rest 0 0) 0xFF (λ e. omega arith) in
      (rw (e₁, e₂, e₃, e₄), rw (e₁, e₂, e₃, e₄))

-- question 3's five cases
pub data FormBy (form : TapeForm) (rest : List ℕ) : Type 0 where
  is_address : get_or rest 0 0 ≡ line_byte form → FormBy form rest
  is_plain : get_or rest 0 0 ≡ 0x02 → FormBy form rest
  is_marks : get_or rest 0 0 ≡ marks_byte form → FormBy form rest
  is_token : 0x10 ≤ get_or rest 0 0 → get_or rest 0 0 ≤ 0x17 → FormBy form rest
  is_ending : get_or rest 0 0 ≡ 0xFF → FormBy form rest

abbrev pub Form : List ℕ → Type 0
Form = FormBy old

module _ {form : TapeForm} where
  pub form_of : (rest : List ℕ) → is_command_by form rest ≡ true → FormBy form rest
  unfolding is_command_by
  form_of [] h = absurd (false≢true h)
  form_of (b ∷ rest) h =
      either (FormBy form (b ∷ rest)) h (λ e. is_address (eqb-true _ _ e))
      (λ h. either (FormBy form (b ∷ rest)) h (λ e. is_plain (eqb-true _ _ e))
      (λ h. either (FormBy form (b ∷ rest)) h (λ e. is_marks (eqb-true _ _ e))
      (λ h. either (FormBy form (b ∷ rest)) h (λ e. is_token (leb-true _ _ (both e).0) (leb-true _ _ (both e).1))
      (λ e. is_ending (eqb-true _ _ e)))))

  pub is_form : (rest : List ℕ) → FormBy form rest → is_command_by form rest ≡ true
  unfolding is_command_by ◌or◌ ◌and◌
  is_form [] (is_address e) = absurd (omega (arith, (apart form).line_some))
  is_form [] (is_plain e) = absurd (omega arith)
  is_form [] (is_marks e) = absurd (omega (arith, (apart form).marks_some))
  is_form [] (is_token low high) = absurd (omega arith)
  is_form [] (is_ending e) = absurd (omega arith)
  is_form (b ∷ rest) (is_address e) = rw (e, (apart form).same_line)
  is_form (b ∷ rest) (is_plain e) = rw (e, (apart form).line_plain)
  is_form (b ∷ rest) (is_marks e) = let a = apart form in rw (e, a.marks_line, a.marks_plain, a.same_marks)
  is_form (b ∷ rest) (is_token low high) =
      let a = apart form in
      rw (
        ne_eqb b (line_byte form) (λ e. omega (arith, a.line_low)),
        ne_eqb b 0x02 (λ e. omega arith),
        ne_eqb b (marks_byte form) (λ e. omega (arith, a.marks_low)),
        le-leb 0x10 b low,
        le-leb b
            0x17 high,
      )
  is_form (b ∷ rest) (is_ending e) = let a = apart form in rw (e, a.line_end, a.marks_end)

-- the name of `form_of` for the old form
pub form : (rest : List ℕ) → is_command_by old rest ≡ true → Form rest
form = form_of

-- a command that ends inside the tape: its size, and a token's kind
abbrev pub Sized : Command → ℕ → Type 0
Sized (new_line address indent) n = n ≤ 10
Sized (marked s) n = n ≤ 17
Sized (new_token t) n = (n ≡ 3 + length t.text) × (t.kind < 8)
Sized end n = n ≡ 1

pub widths : (form : TapeForm) → width form ≤ 8
widths old = omega arith
widths offsets = omega arith

module _ {form : TapeForm} where
  pub sized : (rest : List ℕ) → FormBy form rest → command_size_by form rest ≤ length rest → Sized (command_by form rest) (command_size_by form rest)
  sized rest (is_address e) inside = let f = address_form_by form rest e in rw (f.1, f.0) (omega (arith, widths form))
  sized rest (is_plain e) inside = let f = plain_form_by form rest e in rw (f.1, f.0) (omega arith)
  sized rest (is_marks e) inside = let f = marks_form_by form rest e in rw (f.1, f.0) (omega (arith, widths form))
  sized rest (is_token low high) inside =
      let f = token_form_by form rest low high in
      let fits : text_length rest ≤ length (drop 3 rest) = rw length-drop (omega (arith, f.0)) in
      rw (f.1, f.0, length-take-le (text_length rest) (drop 3 rest) fits) (refl, omega arith)
  sized rest (is_ending e) inside = let f = end_form_by form rest e in rw (f.1, f.0) refl

-- ---- there and back

-- what of a command its bytes can hold
abbrev pub AddressFitsBy : TapeForm → Option ℕ → Type 0
AddressFitsBy form none = Unit {0}
AddressFitsBy form (some address) = address < 256 ^ width form

abbrev pub SpanFitsBy : TapeForm → Span → Type 0
SpanFitsBy form s = (s.lowest < 256 ^ width form) × (s.highest < 256 ^ width form)

abbrev pub WritableBy : TapeForm → Command → Type 0
WritableBy form (new_line address indent) = AddressFitsBy form address
WritableBy form (marked s) = SpanFitsBy form s
WritableBy form (new_token t) = (t.kind < 8) × (length t.text < 2 ^ 16)
WritableBy form end = Unit {0}

abbrev pub AddressFits : Option ℕ → Type 0
AddressFits = AddressFitsBy old

abbrev pub SpanFits : Span → Type 0
SpanFits = SpanFitsBy old

abbrev pub Writable : Command → Type 0
Writable = WritableBy old

size_of_none : (form : TapeForm) → command_size_by form [] ≡ 3
unfolding command_size_by when◌then◌else◌ from_le_bytes
size_of_none old = refl
size_of_none offsets = refl

module _ {form : TapeForm} where
  pub writable : (rest : List ℕ) → Bytes rest → FormBy form rest → command_size_by form rest ≤ length rest → WritableBy form (command_by form rest)
  writable rest h (is_address e) inside =
      let w : ℕ = width form in
      let f = address_form_by form rest e in
      let n : length (take w (drop 1 rest)) ≡ w = length-take-le w (drop 1 rest) (rw length-drop (omega (arith, f.0))) in
      rw f.1 (rw n at (from-below (take w (drop 1 rest)) (bytes_take w (drop 1 rest) (bytes_drop 1 rest h))))
  writable rest h (is_plain e) inside = let f = plain_form_by form rest e in rw f.1 tt
  writable rest h (is_marks e) inside =
      let w : ℕ = width form in
      let f = marks_form_by form rest e in
      let m : length (take w (drop 1 rest)) ≡ w = length-take-le w (drop 1 rest) (rw length-drop (omega (arith, f.0))) in
      let n : length (take w (drop (1 + w) rest)) ≡ w = length-take-le w (drop (1 + w) rest) (rw length-drop (omega (arith, f.0))) in
      rw f.1 (
        rw m at (from-below (take w (drop 1 rest)) (bytes_take w (drop 1 rest) (bytes_drop 1 rest h))),
        rw n at (from-below (take w (drop (1 + w) rest)) (bytes_take w (drop (1 + w) rest) (bytes_drop (1 + w) rest h))),
      )
  writable rest h (is_token low high) inside =
      let f = token_form_by form rest low high in
      let n : length (take 2 (drop 1 rest)) ≡ 2 = length-take-le 2 (drop 1 rest) (rw length-drop (omega (arith, f.0))) in
      let fits : text_length rest ≤ length (drop 3 rest) = rw length-drop (omega (arith, f.0)) in
      let below = rw n at (from-below (take 2 (drop 1 rest)) (bytes_take 2 (drop 1 rest) (bytes_drop 1 rest h))) in
      rw (f.1, length-take-le (text_length rest) (drop 3 rest) fits) (omega arith, below)
  writable rest h (is_ending e) inside = let f = end_form_by form rest e in rw f.1 tt

  -- what is read writes back
  pub write_of-read : (rest : List ℕ) → Bytes rest → FormBy form rest → command_size_by form rest ≤ length rest
      → write_command_by form (command_by form rest) ≡ take (command_size_by form rest) rest
  unfolding write_command_by
  write_of-read [] h f inside = absurd (omega (arith, size_of_none form))
  write_of-read (b ∷ more) h (is_address e) inside =
      let w : ℕ = width form in
      let f = address_form_by form (b ∷ more) e in
      let size : 2 + w ≡ suc (suc w) = omega arith in
      let next : 1 + w ≡ suc w = omega arith in
      rw (f.0, f.1, e, size, next, to_take w more (λ i. h (suc i)) (omega (arith, f.0)), take-suc more w 0 (omega (arith, f.0)))
  write_of-read (b ∷ more) h (is_plain e) inside =
      let f = plain_form_by form (b ∷ more) e in
      rw (f.0, f.1, e, take-suc more 0 0 (omega (arith, f.0)))
  write_of-read (b ∷ more) h (is_marks e) inside =
      let w : ℕ = width form in
      let f = marks_form_by form (b ∷ more) e in
      let long : w ≤ length (drop w more) = rw length-drop (omega (arith, f.0)) in
      let size : 1 + w + w ≡ suc (w + w) = omega arith in
      let next : 1 + w ≡ suc w = omega arith in
      rw (f.0, f.1, e, size, next, to_take w more (λ i. h (suc i)) (omega (arith, f.0)), to_take w (drop w more) (bytes_drop w more (λ i. h (suc i))) long, ← take-add w w more)
  write_of-read (b ∷ more) h (is_token low high) inside =
      let f = token_form_by form (b ∷ more) low high in
      let n : ℕ = from_le_bytes (take 2 more) in
      let fits : n ≤ length (drop 2 more) = rw length-drop (omega (arith, f.0)) in
      let kind : 0x10 + (b - 0x10) ≡ b = omega arith in
      let size : 3 + n ≡ suc (2 + n) = omega arith in
      rw (f.0, f.1, kind, length-take-le n (drop 2 more) fits, to_take 2 more (λ i. h (suc i)) (omega (arith, f.0)), size, take-add 2 n more)
  write_of-read (b ∷ more) h (is_ending e) inside = let f = end_form_by form (b ∷ more) e in rw (f.0, f.1, e)

-- what is written reads back
pub record ReadBackBy (form : TapeForm) (rest : List ℕ) (c : Command) : Type 0 where
  pub known : is_command_by form rest ≡ true
  pub size : command_size_by form rest ≡ length (write_command_by form c)
  pub same : command_by form rest ≡ c

-- by form, as the bytes are then laid out one by one
pub read_of-write : {form : TapeForm} (c : Command) (more : List ℕ) → WritableBy form c → ReadBackBy form (write_command_by form c ++ more) c
unfolding write_command_by to_le_bytes
read_of-write {form = old} (new_line (some address) indent) more h =
    let rest : List ℕ = write_command_by old (new_line (some address) indent) ++ more in
    let f = address_form_by old rest refl in
    record {
      known = is_form rest (is_address refl);
      size = f.0;
      same = f.1 ∙ ap (λ (n : ℕ). new_line (some n) indent) (from_to 8 address h);
    }
read_of-write {form = old} (new_line none indent) more h =
    let rest : List ℕ = write_command_by old (new_line none indent) ++ more in
    let f = plain_form_by old rest refl in
    record { known = is_form rest (is_plain refl); size = f.0; same = f.1 }
read_of-write {form = old} (marked s) more h =
    let rest : List ℕ = write_command_by old (marked s) ++ more in
    let f = marks_form_by old rest refl in
    record {
      known = is_form rest (is_marks refl);
      size = f.0;
      same = f.1 ∙ λ i. marked (record { lowest = from_to 8 s.lowest h.0 i; highest = from_to 8 s.highest h.1 i });
    }
read_of-write {form = old} (new_token t) more h =
    let rest : List ℕ = write_command_by old (new_token t) ++ more in
    let n : ℕ = length t.text in
    let f = token_form_by old rest (omega arith) (omega arith) in
    let len : text_length rest ≡ n = from_to 2 n h.1 in
    let kind : 0x10 + t.kind - 0x10 ≡ t.kind = omega arith in
    record {
      known = is_form rest (is_token (omega arith) (omega arith));
      size = omega (arith, len, f.0);
      same = f.1 ∙ rw (len, kind, take-append_seam t.text more);
    }
read_of-write {form = old} end more h =
    let rest : List ℕ = write_command_by old end ++ more in
    let f = end_form_by old rest refl in
    record { known = is_form rest (is_ending refl); size = f.0; same = f.1 }
read_of-write {form = offsets} (new_line (some address) indent) more h =
    let rest : List ℕ = write_command_by offsets (new_line (some address) indent) ++ more in
    let f = address_form_by offsets rest refl in
    record {
      known = is_form rest (is_address refl);
      size = f.0;
      same = f.1 ∙ ap (λ (n : ℕ). new_line (some n) indent) (from_to 4 address h);
    }
read_of-write {form = offsets} (new_line none indent) more h =
    let rest : List ℕ = write_command_by offsets (new_line none indent) ++ more in
    let f = plain_form_by offsets rest refl in
    record { known = is_form rest (is_plain refl); size = f.0; same = f.1 }
read_of-write {form = offsets} (marked s) more h =
    let rest : List ℕ = write_command_by offsets (marked s) ++ more in
    let f = marks_form_by offsets rest refl in
    record {
      known = is_form rest (is_marks refl);
      size = f.0;
      same = f.1 ∙ λ i. marked (record { lowest = from_to 4 s.lowest h.0 i; highest = from_to 4 s.highest h.1 i });
    }
read_of-write {form = offsets} (new_token t) more h =
    let rest : List ℕ = write_command_by offsets (new_token t) ++ more in
    let n : ℕ = length t.text in
    let f = token_form_by offsets rest (omega arith) (omega arith) in
    let len : text_length rest ≡ n = from_to 2 n h.1 in
    let kind : 0x10 + t.kind - 0x10 ≡ t.kind = omega arith in
    record {
      known = is_form rest (is_token (omega arith) (omega arith));
      size = omega (arith, len, f.0);
      same = f.1 ∙ rw (len, kind, take-append_seam t.text more);
    }
read_of-write {form = offsets} end more h =
    let rest : List ℕ = write_command_by offsets end ++ more in
    let f = end_form_by offsets rest refl in
    record { known = is_form rest (is_ending refl); size = f.0; same = f.1 }
