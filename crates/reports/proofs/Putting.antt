-- How long the pieces of a report are, and its names and numbers one behind the other. Assumes nothing.
use Rattle.std.proofs.Common.{◌≡◌, ℕ, zero, suc, ◌+◌, ◌/◌, ◌%◌, ◌≤◌, Bool, true, List, [], ◌∷◌, ◌++◌, length, get_or, length-append, refl, sym, arith, leb}
use mathlib.Core.List.{append_assoc}
use borrow.Author.Tests.{leb-true}
use Rattle.reference.specs.Control.{◌and◌}
use Rattle.reference.specs.Text.{Text}
use Rattle.reference.specs.Numbers.{digit_byte, digits}
use Rattle.reference.proofs.Cases.{both, by-if}
use Rattle.text.specs.Cursor.{Puts}
use Rattle.text.specs.declared.cursor.Cursor.{Cursor}
use Rattle.text.proofs.Cursors.{then_puts, puts_as}
use Rattle.numbers.specs.Writing.{hexadecimal}
use Rattle.printing.specs.Decimals.{decimal}
use Rattle.printing.proofs.Decimals.{decimal-length}
use Rattle.reference.specs.Run as R
use Rattle.reports.specs.Reports.{meanings, meaning, three, settled, tallied}

-- ---- no meaning is longer than 200 bytes

short : List Text → Bool
short [] = true
short (t ∷ ts) = let rest = short ts in leb (length t) 200 and rest

short_at : (ts : List Text) → short ts ≡ true → (n : ℕ) → length (get_or ts n []) ≤ 200
unfolding short
short_at [] e n = omega arith
short_at (t ∷ ts) e zero = omega (arith, leb-true (length t) 200 (both e).0)
short_at (t ∷ ts) e (suc n) = short_at ts (both e).1 n

pub meaning-length : (n : ℕ) → length (meaning n) ≤ 200
unfolding meaning meanings short ◌and◌
meaning-length n = short_at meanings refl n

-- ---- what is told of a cleaning has 73 bytes at most

three-length : (f s t : ℕ) → length (three f s t) ≤ 73
unfolding three
three-length f s t = simp length-append (omega (arith, decimal-length f, decimal-length s, decimal-length t))

settled-length : (n m : ℕ) → length (settled n m) ≤ 73
unfolding settled
settled-length n m = simp length-append (omega (arith, decimal-length n, decimal-length m))

pub tallied-length : (t : R.Tally) → length (tallied t) ≤ 73
unfolding tallied
tallied-length (R.three f s t) = three-length f s t
tallied-length (R.settled n m) = settled-length n m

-- ---- a start value has 16 hexadecimal digits at most

sixteen-length : (f n : ℕ) (rest : Text) → length (digits f 16 n rest) ≤ f + length rest
unfolding digits
sixteen-length zero n rest = omega arith
sixteen-length (suc f) n rest =
    by-if (λ (r : Text). length r ≤ suc f + length rest) (λ e. omega arith) (λ e. omega (arith, sixteen-length f (n / 16) (digit_byte (n % 16) ∷ rest)))

pub hexadecimal-length : (n : ℕ) → length (hexadecimal n) ≤ 16
unfolding hexadecimal
hexadecimal-length n = sixteen-length 16 n []

-- ---- a name and a number behind a text

pub then_named : {p p₁ p₂ : Cursor} {s : Text} (name : Text) (n : ℕ) → Puts p s p₁ → p.at ≤ length p.out.now → Puts p₁ (name ++ decimal n) p₂
    → Puts p (s ++ name ++ decimal n) p₂
then_named {s = s} name n w h x = puts_as (then_puts w h x) (sym (append_assoc s name (decimal n)))

-- behind a bracket the line ends
pub then_end : {p p₁ : Cursor} (s : Text) → Puts p (s ++ (41 ∷ 10 ∷ [])) p₁ → Puts p (s ++ (41 ∷ []) ++ (10 ∷ [])) p₁
then_end s w = puts_as w (sym (append_assoc s (41 ∷ []) (10 ∷ [])))

pub ruleset lengths = (decimal-length, meaning-length, hexadecimal-length, tallied-length)
