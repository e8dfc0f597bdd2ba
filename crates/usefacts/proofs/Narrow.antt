-- No name says a width above 64: what a caller shows of a register's name for `Ready`. Assumes nothing.
use Prim.Native.Nat.{ℕ, zero, suc, ◌≤◌}
use native.Mathlib.Omega.{arith}
use mathlib.Core.Path.{◌≡◌, refl, sym, ap}
use mathlib.Core.Bool.{Bool, true, false}
use mathlib.Core.List.{List, [], ◌∷◌}
use mathlib.Core.Option.{Option, none, some}
use lib.ListN.{length, get_or, drop}
use Rattle.std.specs.Prelude.{Some}
use Rattle.reference.specs.Control.{when◌then◌else◌, let_some◌else◌then◌}
use Rattle.reference.specs.Lists.{position}
use Rattle.reference.specs.Text.{Text, bytes, ◌≟◌, strip_prefix}
use Rattle.reference.specs.Names.{Fam, LEGACY, legacy, digits_of, suffix, stack_slot, numbered, high_byte, family}
use Rattle.lines.specs.Fams.{Names}
use Rattle.lines.specs.declared.fams.Named.{Named}

record Few (o : Option ℕ) : Type 0 where
  at : (w : ℕ) → o ≡ some w → w ≤ 64

record Narrow (o : Option Fam) : Type 0 where
  at : (f : Fam) → o ≡ some f → f.width ≤ 64

-- ---- what keeps this

few_none : Few none
few_none = record { at = λ w e. absurd (let z : ◌≡◌ {A = ℕ} 0 1 = cc in omega arith) }

few_is : {w : ℕ} → w ≤ 64 → Few (some w)
few_is {w} h = record { at = λ v e. let q : w ≡ v = cc in omega arith }

few_when : (b : Bool) {x y : Option ℕ} → Few x → Few y → Few (when b then x else y)
unfolding when◌then◌else◌
few_when true p q = p
few_when false p q = q

narrow_none : Narrow none
narrow_none = record { at = λ f e. absurd (let z : ◌≡◌ {A = ℕ} 0 1 = cc in omega arith) }

narrow_is : (f : Fam) → f.width ≤ 64 → Narrow (some f)
narrow_is f h = record { at = λ g e. let q : f ≡ g = cc in omega (arith, h, ap (λ (x : Fam). x.width) q) }

narrow_when : (b : Bool) {x y : Option Fam} → Narrow x → Narrow y → Narrow (when b then x else y)
unfolding when◌then◌else◌
narrow_when true p q = p
narrow_when false p q = q

narrow_some : {A : Type 0} (o : Option A) {x : Option Fam} (g : A → Option Fam) → Narrow x → ((a : A) → Narrow (g a)) → Narrow (let_some o else x then g)
unfolding let_some◌else◌then◌
narrow_some none g p q = p
narrow_some (some a) g p q = q a

narrow_few : {o : Option ℕ} (g : ℕ → Option Fam) → Few o → ((w : ℕ) → w ≤ 64 → Narrow (g w)) → Narrow (let_some o else none then g)
unfolding let_some◌else◌then◌
narrow_few {o} g p q = by o p
  where
    by : (o : Option ℕ) → Few o → Narrow (let_some o else none then g)
    by none p = narrow_none
    by (some w) p = q w (p.at w refl)

-- ---- the parts of `family`

column : (i : ℕ) → get_or (64 ∷ 32 ∷ 16 ∷ 8 ∷ []) i 0 ≤ 64
column zero = omega arith
column (suc zero) = omega arith
column (suc (suc zero)) = omega arith
column (suc (suc (suc zero))) = omega arith
column (suc (suc (suc (suc i)))) = omega arith

legacy_narrow : (rows : List (List Text)) (s : Text) → Narrow (legacy rows s)
unfolding legacy
legacy_narrow [] s = narrow_none
legacy_narrow (names ∷ rows) s = narrow_some (position (◌≟ s) names) _ (legacy_narrow rows s) (λ i. narrow_is _ (column i))

suffix_few : (s : Text) → Few (suffix s)
unfolding suffix
suffix_few s =
    few_when _ (few_is (omega arith)) (few_when _ (few_is (omega arith)) (few_when _ (few_is (omega arith)) (few_when _ (few_is (omega arith)) few_none)))

slot_narrow : (s : Text) → Narrow (stack_slot s)
unfolding stack_slot
slot_narrow s = narrow_when _ (narrow_is _ (omega arith)) narrow_none

numbered_narrow : (s : Text) → Narrow (numbered s)
unfolding numbered
numbered_narrow s =
    narrow_some (strip_prefix (bytes "r") s) _ (slot_narrow s)
    (λ rest. narrow_when _ (slot_narrow s) (narrow_few _ (suffix_few (drop (length (digits_of rest)) rest)) (λ w h. narrow_is _ h)))

high_narrow : (s : Text) → Narrow (high_byte s)
unfolding high_byte
high_narrow s = narrow_when _ (narrow_is _ (omega arith)) (numbered_narrow s)

narrow_first : {o x : Option Fam} → Narrow o → Narrow x → Narrow (let_some o else x then λ f. some f)
unfolding let_some◌else◌then◌
narrow_first {o} {x} p q = by o p
  where
    by : (o : Option Fam) → Narrow o → Narrow (let_some o else x then λ f. some f)
    by none p = q
    by (some f) p = p

family_narrow : (s : Text) → Narrow (family s)
unfolding family
family_narrow s = narrow_first (legacy_narrow LEGACY s) (high_narrow s)

-- ---- for callers

-- the width in the answer of `name_of` to a token with this text
pub named_narrow : {tape area : Text} (s : Text) {n : Named} → Names tape area (family s) (Some n) → n.width ≤ 64
named_narrow s {n} h = (family_narrow s).at _ (sym h.is)
