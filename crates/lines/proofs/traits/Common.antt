-- The traits of the texts that most Puncts have: each number is computed from the definition. Assumes nothing.
use Prim.Native.Nat.{ℕ, ◌≤◌, ◌<◌}
use native.Mathlib.Omega.{arith}
use mathlib.Core.Path.{◌≡◌, refl}
use mathlib.Core.List.{[], ◌∷◌}
use lib.ListN.{length, get_or}
use Rattle.reference.specs.Control.{◌and◌, ◌or◌, not, when◌then◌else◌}
use Rattle.reference.specs.Text.{Text}
use Rattle.reference.specs.Listing.{token, is}
use Rattle.reference.specs.Shapes.{is_kw, has_brace, writes, is_operator}
use Rattle.lines.specs.Traits.{number, delimits_before, delimits_after, is_sign, traits}

-- a text by its bytes
one : (s : Text) (x : ℕ) → 1 ≤ length s → length s < 2 → get_or s 0 0 ≡ x → s ≡ x ∷ []
one [] x h k e = absurd (omega arith)
one (a ∷ []) x h k e = rw e
one (a ∷ b ∷ s) x h k e = absurd (omega arith)

two : (s : Text) (x y : ℕ) → 2 ≤ length s → length s < 3 → get_or s 0 0 ≡ x → get_or s 1 0 ≡ y → s ≡ x ∷ y ∷ []
two [] x y h k e f = absurd (omega arith)
two (a ∷ []) x y h k e f = absurd (omega arith)
two (a ∷ b ∷ []) x y h k e f = rw (e, f)
two (a ∷ b ∷ c ∷ s) x y h k e f = absurd (omega arith)

three : (s : Text) (x y z : ℕ) → 3 ≤ length s → length s < 4 → get_or s 0 0 ≡ x → get_or s 1 0 ≡ y → get_or s 2 0 ≡ z → s ≡ x ∷ y ∷ z ∷ []
three [] x y z h k e f g = absurd (omega arith)
three (a ∷ []) x y z h k e f g = absurd (omega arith)
three (a ∷ b ∷ []) x y z h k e f g = absurd (omega arith)
three (a ∷ b ∷ c ∷ []) x y z h k e f g = rw (e, f, g)
three (a ∷ b ∷ c ∷ d ∷ s) x y z h k e f g = absurd (omega arith)

bracket-is : 65569 ≡ traits (token 6 (40 ∷ []))
unfolding number traits delimits_before delimits_after is_sign is_kw has_brace writes is_operator is ◌and◌ ◌or◌ not when◌then◌else◌
bracket-is = refl

pub bracket : (s : Text) → 1 ≤ length s → length s < 2 → get_or s 0 0 ≡ 40 → 65569 ≡ traits (token 6 s)
bracket s h k e = rw (one s 40 h k e) bracket-is

closing-is : 65 ≡ traits (token 6 (41 ∷ []))
unfolding number traits delimits_before delimits_after is_sign is_kw has_brace writes is_operator is ◌and◌ ◌or◌ not when◌then◌else◌
closing-is = refl

pub closing : (s : Text) → 1 ≤ length s → length s < 2 → get_or s 0 0 ≡ 41 → 65 ≡ traits (token 6 s)
closing s h k e = rw (one s 41 h k e) closing-is

colon-is : 3 ≡ traits (token 6 (58 ∷ []))
unfolding number traits delimits_before delimits_after is_sign is_kw has_brace writes is_operator is ◌and◌ ◌or◌ not when◌then◌else◌
colon-is = refl

pub colon : (s : Text) → 1 ≤ length s → length s < 2 → get_or s 0 0 ≡ 58 → 3 ≡ traits (token 6 s)
colon s h k e = rw (one s 58 h k e) colon-is

semicolon-is : 81 ≡ traits (token 6 (59 ∷ []))
unfolding number traits delimits_before delimits_after is_sign is_kw has_brace writes is_operator is ◌and◌ ◌or◌ not when◌then◌else◌
semicolon-is = refl

pub semicolon : (s : Text) → 1 ≤ length s → length s < 2 → get_or s 0 0 ≡ 59 → 81 ≡ traits (token 6 s)
semicolon s h k e = rw (one s 59 h k e) semicolon-is

comma-is : 97 ≡ traits (token 6 (44 ∷ 32 ∷ []))
unfolding number traits delimits_before delimits_after is_sign is_kw has_brace writes is_operator is ◌and◌ ◌or◌ not when◌then◌else◌
comma-is = refl

pub comma : (s : Text) → 2 ≤ length s → length s < 3 → get_or s 0 0 ≡ 44 → get_or s 1 0 ≡ 32 → 97 ≡ traits (token 6 s)
comma s h k e f = rw (two s 44 32 h k e f) comma-is

ending-is : 81 ≡ traits (token 6 (41 ∷ 59 ∷ []))
unfolding number traits delimits_before delimits_after is_sign is_kw has_brace writes is_operator is ◌and◌ ◌or◌ not when◌then◌else◌
ending-is = refl

pub ending : (s : Text) → 2 ≤ length s → length s < 3 → get_or s 0 0 ≡ 41 → get_or s 1 0 ≡ 59 → 81 ≡ traits (token 6 s)
ending s h k e f = rw (two s 41 59 h k e f) ending-is

equals-is : 1703969 ≡ traits (token 6 (32 ∷ 61 ∷ 32 ∷ []))
unfolding number traits delimits_before delimits_after is_sign is_kw has_brace writes is_operator is ◌and◌ ◌or◌ not when◌then◌else◌
equals-is = refl

pub equals : (s : Text) → 3 ≤ length s → length s < 4 → get_or s 0 0 ≡ 32 → get_or s 1 0 ≡ 61 → get_or s 2 0 ≡ 32 → 1703969 ≡ traits (token 6 s)
equals s h k e f g = rw (three s 32 61 32 h k e f g) equals-is

plus-is : 1048961 ≡ traits (token 6 (32 ∷ 43 ∷ 32 ∷ []))
unfolding number traits delimits_before delimits_after is_sign is_kw has_brace writes is_operator is ◌and◌ ◌or◌ not when◌then◌else◌
plus-is = refl

pub plus : (s : Text) → 3 ≤ length s → length s < 4 → get_or s 0 0 ≡ 32 → get_or s 1 0 ≡ 43 → get_or s 2 0 ≡ 32 → 1048961 ≡ traits (token 6 s)
plus s h k e f g = rw (three s 32 43 32 h k e f g) plus-is

minus-is : 1048705 ≡ traits (token 6 (32 ∷ 45 ∷ 32 ∷ []))
unfolding number traits delimits_before delimits_after is_sign is_kw has_brace writes is_operator is ◌and◌ ◌or◌ not when◌then◌else◌
minus-is = refl

pub minus : (s : Text) → 3 ≤ length s → length s < 4 → get_or s 0 0 ≡ 32 → get_or s 1 0 ≡ 45 → get_or s 2 0 ≡ 32 → 1048705 ≡ traits (token 6 s)
minus s h k e f g = rw (three s 32 45 32 h k e f g) minus-is

pub ruleset common = (bracket, closing, colon, semicolon, comma, ending, equals, plus, minus)
