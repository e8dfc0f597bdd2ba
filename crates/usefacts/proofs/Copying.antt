-- Words copied one by one to the front of a slice. Assumes nothing.
use Prim.Native.Nat.{ℕ, zero, suc, ◌+◌, ◌<◌}
use native.Mathlib.Omega.{arith}
use native.Mathlib.Numerals.{add-one}
use mathlib.Core.Path.{◌≡◌, refl, ap}
use mathlib.Core.List.{List, [], ◌∷◌}
use lib.ListN.{length, take, drop, get_or, set}

pub copied : (l es : List ℕ) (k : ℕ) {v : ℕ} → k < length l → k < length es → v ≡ get_or es k 0 → take k l ≡ take k es → take (suc k) (set l k v) ≡ take (suc k) es
copied [] es k h i ev q = absurd (omega arith)
copied (x ∷ l) [] k h i ev q = absurd (omega arith)
copied (x ∷ l) (e ∷ es) zero h i ev q = rw ev refl
copied (x ∷ l) (e ∷ es) (suc k) h i ev q =
    let head : x ≡ e = ap (λ (m : List ℕ). get_or m 0 0) q in
    rw head (ap (λ (m : List ℕ). e ∷ m) (copied l es k (omega arith) (omega arith) ev (ap (λ (m : List ℕ). drop 1 m) q)))

pub copied_more : (l es : List ℕ) (k : ℕ) {v : ℕ} → k < length l → k < length es → v ≡ get_or es k 0 → take k l ≡ take k es → take (k + 1) (set l k v) ≡ take (k + 1) es
copied_more l es k h i ev q = rw add-one (copied l es k h i ev q)
