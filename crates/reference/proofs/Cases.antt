-- How a proof takes the control words apart: by cases that keep their equation, or backwards from what came out. Assumes nothing.
use Prim.Native.Nat.{ℕ, ◌≤◌, zero-le}
use native.Mathlib.Nat.{le_refl}
use native.Mathlib.Omega.{arith}
use mathlib.Core.Path.{◌≡◌, refl, sym, ◌∙◌, subst⁻¹}
use mathlib.Core.Bool.{Bool, true, false, true≢false, false≢true}
use mathlib.Core.Option.{Option, none, some}
use lib.Dec.{T, eqb, eqb→eq}
use Rattle.reference.specs.Control.{not, ◌and◌, ◌or◌, when◌then◌else◌, let_some◌else◌then◌}
use Rattle.reference.specs.Life.{Touch, None, Kill, Use, match_touch}
use Rattle.reference.specs.Claim.{one_if}

-- ---- a goal over an `if`, a `let_some` or a `match_touch`, branch by branch

pub by-if {ℓ κ} : {A : Type ℓ} (P : A → Type κ) {b : Bool} {x y : A} → (b ≡ true → P x) → (b ≡ false → P y) → P (when b then x else y)
unfolding when◌then◌else◌
by-if P {b = true} f g = f refl
by-if P {b = false} f g = g refl

pub by-some {ℓ κ μ} : {A : Type ℓ} {B : Type κ} (P : B → Type μ) {o : Option A} {d : B} {k : A → B}
    → (o ≡ none → P d) → ((a : A) → o ≡ some a → P (k a)) → P (let_some o else d then k)
unfolding let_some◌else◌then◌
by-some P {o = none} f g = f refl
by-some P {o = some a} f g = g a refl

pub by_touch {ℓ κ} : {A : Type ℓ} (P : A → Type κ) {t : Touch} {a b : A} {c : ℕ → A}
    → (t ≡ None → P a) → (t ≡ Kill → P b) → ((n : ℕ) → t ≡ Use n → P (c n)) → P (match_touch t a b c)
unfolding match_touch
by_touch P {t = None} f g h = f refl
by_touch P {t = Kill} f g h = g refl
by_touch P {t = Use n} f g h = h n refl

-- ---- what a test tells that passed or failed

pub both : {a b : Bool} → (a and b) ≡ true → (a ≡ true) × (b ≡ true)
unfolding ◌and◌
both {a = true} e = (refl, e)
both {a = false} e = absurd (false≢true e)

pub neither : {a b : Bool} → (a or b) ≡ false → (a ≡ false) × (b ≡ false)
unfolding ◌or◌
neither {a = true} e = absurd (true≢false e)
neither {a = false} e = (refl, e)

pub either {ℓ} : (X : Type ℓ) {a b : Bool} → (a or b) ≡ true → (a ≡ true → X) → (b ≡ true → X) → X
unfolding ◌or◌
either X {a = true} e f g = f refl
either X {a = false} e f g = g e

pub not-true : {a : Bool} → not a ≡ true → a ≡ false
unfolding not
not-true {a = true} e = absurd (false≢true e)
not-true {a = false} e = refl

pub not-false : {a : Bool} → not a ≡ false → a ≡ true
unfolding not
not-false {a = true} e = refl
not-false {a = false} e = absurd (true≢false e)

pub true-false : {a : Bool} → a ≡ true → a ≡ false → ⊥
true-false e f = true≢false (sym e ∙ f)

pub same_number : {m n : ℕ} → eqb m n ≡ true → m ≡ n
same_number {m} {n} e = eqb→eq m n (subst⁻¹ T e tt)

-- ---- how a test comes to pass or to fail

pub pair : {a b : Bool} → a ≡ true → b ≡ true → (a and b) ≡ true
unfolding ◌and◌
pair {a = true} e f = f
pair {a = false} e f = e

pub fails : {a : Bool} → (a ≡ true → ⊥) → a ≡ false
fails {a = true} f = absurd (f refl)
fails {a = false} f = refl

-- ---- where something came out

pub some_inj {ℓ} : {A : Type ℓ} {x y : A} → some x ≡ some y → x ≡ y
some_inj e = cc

pub none-some {ℓ} : {A : Type ℓ} {x : A} → none ≡ some x → ⊥
none-some e = let z : ◌≡◌ {A = ℕ} 0 1 = cc in omega arith

pub if_some {ℓ} : {A : Type ℓ} {b : Bool} {o : Option A} {a : A} → (when b then o else none) ≡ some a → (b ≡ true) × (o ≡ some a)
unfolding when◌then◌else◌
if_some {b = true} e = (refl, e)
if_some {b = false} e = absurd (none-some e)

pub unless-some {ℓ} : {A : Type ℓ} {b : Bool} {o : Option A} {a : A} → (when b then none else o) ≡ some a → (b ≡ false) × (o ≡ some a)
unfolding when◌then◌else◌
unless-some {b = true} e = absurd (none-some e)
unless-some {b = false} e = (refl, e)

pub bind-some {ℓ κ} : {A : Type ℓ} {B : Type κ} {o : Option A} {k : A → Option B} {b : B} → (let_some o else none then k) ≡ some b
    → (a : A) × (o ≡ some a) × (k a ≡ some b)
unfolding let_some◌else◌then◌
bind-some {o = none} e = absurd (none-some e)
bind-some {o = some a} e = (a, refl, e)

pub some-true {ℓ} : {A : Type ℓ} {o : Option A} {p : A → Bool} → (let_some o else false then p) ≡ true → (a : A) × (o ≡ some a) × (p a ≡ true)
unfolding let_some◌else◌then◌
some-true {o = none} e = absurd (false≢true e)
some-true {o = some a} e = (a, refl, e)

-- ---- tests as numbers

pub zero_if : {a : Bool} → a ≡ false → one_if a ≡ 0
unfolding when◌then◌else◌
zero_if {a = true} e = absurd (true≢false e)
zero_if {a = false} e = refl

pub one_le : (a b : Bool) → (a ≡ true → b ≡ true) → one_if a ≤ one_if b
one_le true b h = rw (h refl) (le_refl _)
one_le false b h = rw (zero_if {a = false} refl) zero-le
