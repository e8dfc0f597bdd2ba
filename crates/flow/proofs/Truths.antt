-- One byte more of a scan for comparisons, and its end. Assumes nothing.
use Prim.Native.Nat.{ℕ, ◌<◌}
use native.Mathlib.Omega.{arith}
use mathlib.Core.Path.{◌≡◌, refl}
use mathlib.Core.Bool.{Bool, true, false}
use mathlib.Core.List.{List, [], ◌∷◌}
use lib.Dec.{eqb}
use lib.ListN.{length}
use Rattle.reference.specs.Control.{not, ◌and◌, ◌or◌}
use Rattle.reference.specs.Lists.{any}
use Rattle.reference.specs.Text.{Text, bytes, starts_with}
use Rattle.laws.proofs.Scans.{and_kept, or_last, starts_short}
use Rattle.cautions.specs.Texts.{holds}
use Rattle.cautions.specs.Uses.{compares}
use Rattle.flow.specs.Compared.{COMPARISONS, begins, alone, with_equals, compares_in, begins_at, compared}

any_or : (f g : Text → Bool) (xs : List Text) → any (λ p. f p or g p) xs ≡ (any f xs or any g xs)
unfolding ◌or◌
any_or f g [] = refl
any_or f g (x ∷ xs) = rw (any_or f g xs) (go (f x) (g x) (any f xs) (any g xs))
  where
    go : (a b c d : Bool) → ((a or b) or (c or d)) ≡ ((a or c) or (b or d))
    go true b c d = refl
    go false true true d = refl
    go false true false d = refl
    go false false c d = refl

-- a comparison begins here, or stands behind
compares_more : (a : ℕ) (s : Text) → compares (a ∷ s) ≡ (begins (a ∷ s) or compares s)
unfolding compares begins holds
compares_more a s = any_or (λ c. starts_with (a ∷ s) c) (λ c. holds c s) COMPARISONS

-- none has more than four bytes
begins_four : (a b c x : ℕ) (s : Text) → begins (a ∷ b ∷ c ∷ x ∷ s) ≡ begins (a ∷ b ∷ c ∷ x ∷ [])
unfolding begins
begins_four a b c x s = refl

-- the six of them, by their bytes
pub begins_is : (a b c d : ℕ) → begins_at a b c d ≡ begins (a ∷ b ∷ c ∷ d ∷ [])
unfolding begins_at compares_in alone with_equals begins ◌and◌ ◌or◌
begins_is a b c d =
    rw (and_kept (eqb d 32), and_kept (eqb c 32))
    (go (eqb a 32) (with_equals 61 b c d) (with_equals 33 b c d) (alone 60 b c) (alone 62 b c) (with_equals 60 b c d) (with_equals 62 b c d))
  where
    go : (s p q r t u v : Bool) → (s and (p or q or r or t or u or v)) ≡ ((s and p) or (s and q) or (s and r) or (s and t) or (s and u) or (s and v) or false)
    go false p q r t u v = refl
    go true p q r t u v = rw (or_last v)

-- where none follows three bytes
begins_three : (a b c : ℕ) → begins (a ∷ b ∷ c ∷ 0 ∷ []) ≡ begins (a ∷ b ∷ c ∷ [])
unfolding begins ◌and◌
begins_three a b c = refl

pub compared_more : (a b c x : ℕ) (begun found r : Bool) (s : Text) → r ≡ ((found or (not begun and eqb x 33)) or begins_at a b c x)
    → (r or (not true and starts_with s (bytes "!")) or compares (b ∷ c ∷ x ∷ s))
    ≡ (found or (not begun and starts_with (x ∷ s) (bytes "!")) or compares (a ∷ b ∷ c ∷ x ∷ s))
unfolding not ◌and◌ ◌or◌
compared_more a b c x begun found r s e =
    rw (e, begins_is a b c x, compares_more a (b ∷ c ∷ x ∷ s), begins_four a b c x s, and_kept (eqb x 33))
    (go found (not begun and eqb x 33) (begins (a ∷ b ∷ c ∷ x ∷ [])) (compares (b ∷ c ∷ x ∷ s)))
  where
    go : (f n h k : Bool) → (((f or n) or h) or (false or k)) ≡ (f or (n or (h or k)))
    go true n h k = refl
    go false true h k = refl
    go false false h k = refl

-- ---- the end

holds_short : (p s : Text) → length s < length p → holds p s ≡ false
unfolding holds ◌or◌
holds_short [] s h = absurd (omega arith)
holds_short (y ∷ ys) [] h = refl
holds_short (y ∷ ys) (c ∷ cs) h = rw (starts_short (c ∷ cs) (y ∷ ys) h) (holds_short (y ∷ ys) cs (omega arith))

compares_none : (b c : ℕ) → compares (b ∷ c ∷ []) ≡ false
unfolding compares ◌or◌
compares_none b c =
    let s : Text = b ∷ c ∷ [] in
    rw (
      holds_short (bytes " == ") s (omega arith),
      holds_short (bytes " != ") s (omega arith),
      holds_short (bytes " < ") s (omega arith),
      holds_short (bytes " > ") s (omega arith),
      holds_short (bytes " <= ") s (omega arith),
      holds_short (bytes " >= ") s (omega arith),
    ) refl

pub compared_last : (a b c : ℕ) (begun found r : Bool) → r ≡ (found or begins_at a b c 0)
    → r ≡ (found or (not begun and starts_with [] (bytes "!")) or compares (a ∷ b ∷ c ∷ []))
unfolding not ◌and◌ ◌or◌
compared_last a b c begun found r e =
    rw (e, begins_is a b c 0, begins_three a b c, compares_more a (b ∷ c ∷ []), compares_none b c) (go found begun (begins (a ∷ b ∷ c ∷ [])))
  where
    go : (f n h : Bool) → (f or h) ≡ (f or (not n and false) or (h or false))
    go true n h = refl
    go false true true = refl
    go false true false = refl
    go false false true = refl
    go false false false = refl

-- ---- nothing read yet

pub none_compared : (s : Text) → compared (record { first = 0; second = 0; third = 0; begun = false; found = false }) s ≡ (starts_with s (bytes "!") or compares s)
unfolding compared compares holds not ◌and◌ ◌or◌
none_compared s = refl
