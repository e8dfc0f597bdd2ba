-- What the functions that put a Number's text leave. Assumes nothing.
use Prim.Native.Nat.{ℕ, ◌+◌, ◌-◌, ◌^◌, ◌<◌, ◌≤◌}
use native.Mathlib.Omega.{arith}
use native.Mathlib.Numerals.{add-one}
use mathlib.Core.Path.{◌≡◌, refl, sym, ap, ◌∙◌}
use mathlib.Core.Bool.{Bool, true, false}
use mathlib.Core.List.{[], ◌∷◌, ◌++◌}
use mathlib.Core.Option.{none, some}
use lib.ListN.{length, take, drop, get_or}
use lib.Seq.{take-suc, take_all, length-take-le}
use borrow.Author.Tests.{ne_eqb}
use Rattle.reference.specs.Control.{◌or◌, when◌then◌else◌}
use Rattle.reference.specs.Text.{Text, bytes, starts_with}
use Rattle.reference.specs.Numbers.{prefix_size, constant_digits, constant_value}
use Rattle.reference.proofs.Cases.{either, some_inj, none-some}
use Rattle.reference.proofs.Printed as printed
use Rattle.reference.proofs.Shapes.{starts_with_length}
use Rattle.laws.proofs.Parts.{to_end}
use Rattle.books.proofs.Grammar2024.{begins}
use Rattle.text.specs.Cursor.{Fits, Puts}
use Rattle.text.specs.declared.cursor.Cursor.{Cursor}
use Rattle.text.proofs.Cursors.{puts_none, then_puts, puts_as, room_left, written-length}
use Rattle.numbers.specs.Writing.{hexadecimal}
use Rattle.numbers.specs.Reading.{at_most}
use Rattle.numbers.specs.Constants.{row_after, row}
use Rattle.numbers.proofs.Reading.{most_in}
use Rattle.editions.specs.Numbers.{without_quotes, down_constant, down_text, has_no_older}
use Rattle.editions.specs.Lowering.{Ready}
use Rattle.editions.proofs.Quotes.{without_one, without_append, without_shorter}
use Rattle.editions.proofs.Lowering.{constant-no_longer, plain_is, Binary, binary_is}
use Rattle.editions.proofs.Lowering.{plain_ready, minus_ready, down-plain, down-minus}

-- ---- without quotes

quote-gone : (b : ℕ) → b ≡ 39 → without_quotes (b ∷ []) ≡ []
unfolding without_quotes when◌then◌else◌
quote-gone b e = rw e refl

pub byte_gone : (b : ℕ) {p : Cursor} → b ≡ 39 → Puts p (without_quotes (b ∷ [])) p
byte_gone b e = rw (quote-gone b e) puts_none

pub byte_put : (b : ℕ) {p p' : Cursor} → (b ≡ 39 → ⊥) → Puts p (b ∷ []) p' → Puts p (without_quotes (b ∷ [])) p'
byte_put b n w = rw (without_one b (ne_eqb b 39 n)) w

-- a loop: the bytes before the i-th are put
pub rest_begin : (s : Text) (p : Cursor) → Puts p (without_quotes (take 0 s)) p
unfolding without_quotes
rest_begin s p = puts_none

module _ (s : Text) (i : ℕ) {p₀ p : Cursor} (w : Puts p₀ (without_quotes (take i s)) p) (room : Fits p₀ (length s)) where
  shorter : i < length s → length (without_quotes (take i s)) ≤ i
  shorter h = omega (arith, without_shorter (take i s), length-take-le i s (omega arith))

  pub rest-room : i < length s → Fits p 1
  rest-room h = omega (arith, shorter h, w.written.end_is, written-length w.written (omega (arith, shorter h)))

  pub rest_more : {p' : Cursor} → i < length s → Puts p (without_quotes (get_or s i 0 ∷ [])) p' → Puts p₀ (without_quotes (take (i + 1) s)) p'
  rest_more h x =
      let e : take (i + 1) s ≡ take i s ++ (get_or s i 0 ∷ []) = rw add-one (take-suc s i 0 h) in
      puts_as (then_puts w (omega arith) x) (sym (ap without_quotes e ∙ without_append (take i s) (get_or s i 0 ∷ [])))

  pub rest_end : length s ≤ i → Puts p₀ (without_quotes s) p
  rest_end h = puts_as w (ap without_quotes (take_all i s h))

-- ---- hexadecimal

same_hexadecimal : (n : ℕ) → printed.hexadecimal n ≡ hexadecimal n
unfolding printed.hexadecimal hexadecimal
same_hexadecimal n = refl

-- ---- a constant

module _ (s : Text) {x : Bool} (e : x ≡ (starts_with s (bytes "0b") or starts_with s (bytes "0B"))) (r : Ready s) where
  pub plain-put : {p p' : Cursor} → x ≡ false → Puts p (without_quotes s) p' → Puts p (down_constant s) p'
  plain-put f p = rw (plain_is s r (sym e ∙ f)) p

  module _ (t : x ≡ true) where
    pub front_fits : 2 ≤ length s
    front_fits = either (2 ≤ length s) (sym e ∙ t) (starts_with_length s (bytes "0b")) (starts_with_length s (bytes "0B"))

    binary : Binary s
    binary = binary_is s r (sym e ∙ t)

    the_row : constant_value s ≡ row 2 (drop 2 s)
    unfolding constant_value constant_digits row_after prefix_size when◌then◌else◌ ◌or◌
    the_row = rw binary.base refl

    row_is : at_most (2 ^ 64 - 1) (row 2 (take (length s - 2) (drop 2 s))) ≡ some binary.value
    row_is = rw to_end (rw (← the_row, binary.comes_to) (most_in (2 ^ 64 - 1) binary.value (omega (arith, binary.small))))

    pub row_read : {n : ℕ} → some n ≡ at_most (2 ^ 64 - 1) (row 2 (take (length s - 2) (drop 2 s)))
        → down_constant s ≡ bytes "0x" ++ hexadecimal n
    row_read u = binary.lowers ∙ ap (bytes "0x" ++◌) (same_hexadecimal binary.value ∙ ap hexadecimal (sym (some_inj (u ∙ row_is))))

    pub row_room : (p : Cursor) {n : ℕ} → some n ≡ at_most (2 ^ 64 - 1) (row 2 (take (length s - 2) (drop 2 s))) → Fits p (length s)
        → Fits p (2 + length (hexadecimal n))
    row_room p u h = omega (arith, ap length (row_read u), constant-no_longer s)

    pub row-unread : none ≡ at_most (2 ^ 64 - 1) (row 2 (take (length s - 2) (drop 2 s))) → ⊥
    row-unread u = none-some (u ∙ row_is)

-- ---- behind a minus, or without

module _ (s : Text) {x : Bool} (e : x ≡ starts_with s (bytes "-")) where
  pub unsigned_ready : x ≡ false → has_no_older s ≡ false → Ready s
  unsigned_ready f h = plain_ready s (sym e ∙ f) h

  pub unsigned-put : {p p' : Cursor} → x ≡ false → Puts p (down_constant s) p' → Puts p (down_text s) p'
  unsigned-put f p = rw (down-plain s (sym e ∙ f)) p

  module _ {r : Text} (t : x ≡ true) (d : r ≡ drop 1 s) where
    behind : s ≡ bytes "-" ++ r
    behind = begins s (bytes "-") (sym e ∙ t) ∙ ap (bytes "-" ++◌) (sym d)

    -- behind the minus there is room for the rest
    pub signed-room : {p p' : Cursor} → Fits p (length s) → Puts p (45 ∷ []) p' → Fits p' (length r)
    signed-room h w = room_left w _ (omega (arith, h, ap length behind))

    pub signed_ready : has_no_older s ≡ false → Ready r
    signed_ready h = minus_ready r (ap has_no_older (sym behind) ∙ h)

    pub signed-put : {p p' p'' : Cursor} → Fits p (length s) → Puts p (45 ∷ []) p' → Puts p' (down_constant r) p'' → Puts p (down_text s) p''
    signed-put h w x = puts_as (then_puts w (omega (arith, h)) x) (sym (ap down_text behind ∙ down-minus r))
