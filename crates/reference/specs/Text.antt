-- Texts are lists of bytes; the operations on `str` that pseudo_opt.rs calls, under the Rust's names. Assumes nothing.
use Rattle.std.specs.Prelude.{ℕ, zero, suc, Bool, true, false, List, [], ◌∷◌, reverse, eqb, length, drop}
use Prim.Native.String.{String, len, char_at}
use Prim.Native.Char.{code}
use Rattle.std.proofs.Math.Option.{Option, none, some}
use Rattle.reference.specs.Control.{◌and◌, ◌or◌, when◌then◌else◌}
use Rattle.reference.specs.Lists.{is_empty, any}

abbrev pub Text : Type 0
Text = List ℕ

abbrev pub bytes_from : ℕ → String → ℕ → Text
bytes_from zero s i = []
bytes_from (suc n) s i = code (char_at s i) ∷ bytes_from n s (suc i)

-- the bytes of a literal: `bytes "rax"` is 114 ∷ 97 ∷ 120 ∷ []
abbrev pub bytes : String → Text
bytes s = bytes_from (len s) s 0

infix 50 ◌≟◌
abbrev pub ◌≟◌ : Text → Text → Bool
[] ≟ [] = true
[] ≟ (y ∷ ys) = false
(x ∷ xs) ≟ [] = false
(x ∷ xs) ≟ (y ∷ ys) = let r = xs ≟ ys in eqb x y and r

abbrev pub starts_with : Text → Text → Bool
starts_with s [] = true
starts_with [] (y ∷ ys) = false
starts_with (x ∷ xs) (y ∷ ys) = let r = starts_with xs ys in eqb x y and r

abbrev pub ends_with : Text → Text → Bool
ends_with [] t = is_empty t
ends_with (x ∷ xs) t = let r = ends_with xs t in ((x ∷ xs) ≟ t) or r

-- `s.contains(b)` of one byte
abbrev pub contains : Text → ℕ → Bool
contains s b = any (eqb b) s

-- `names.contains(&s)`
abbrev pub has : List Text → Text → Bool
has names s = any (◌≟ s) names

-- `s.strip_prefix(p)`
unfoldable pub strip_prefix : Text → Text → Option Text
strip_prefix p s = when starts_with s p then some (drop (length p) s) else none

-- texts hold bytes 20 to 7E, so a space is all that `trim` finds
abbrev pub trim_start : Text → Text
trim_start [] = []
trim_start (x ∷ xs) = let r = trim_start xs in when eqb x 32 then r else x ∷ xs

abbrev pub trim : Text → Text
trim s = reverse (trim_start (reverse (trim_start s)))
