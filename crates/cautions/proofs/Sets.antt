-- Sets of kinds: union in any order, what is in what, and the kinds that a test of places picks out. Assumes nothing.
use Prim.Native.Nat.{ℕ, zero, suc, ◌/◌}
use native.Mathlib.Omega.{arith}
use mathlib.Core.Path.{◌≡◌, refl, sym, ap, ◌∙◌}
use mathlib.Core.Bool.{Bool, true, false}
use mathlib.Core.List.{List, [], ◌∷◌}
use lib.Arith.{bin_ind}
use lib.ListN.{get_or}
use Rattle.std.specs.Prelude.{bit_or}
use Rattle.std.specs.Int.Bits.{or_self}
use Rattle.std.proofs.lemmas.Nat.{or_comm, or_shr}
use lib.Bits.{or_step}
use Rattle.reference.specs.Control.{when◌then◌else◌}
use Rattle.cautions.specs.Kinds.{◌∪◌, ◌⊆◌, ◌given◌}
use Rattle.cautions.specs.Cautions.{picked, both}

-- ---- union

half_or : (a b : ℕ) → bit_or a b / 2 ≡ bit_or (a / 2) (b / 2)
half_or a b = or_shr a b 1

pub or_assoc : (a b c : ℕ) → (a ∪ b) ∪ c ≡ a ∪ (b ∪ c)
or_assoc =
    bin_ind (λ (a : ℕ). (b c : ℕ) → (a ∪ b) ∪ c ≡ a ∪ (b ∪ c)) (λ b c. refl)
    (λ n ih b c.
    let halves : bit_or (bit_or n b / 2) (c / 2) ≡ bit_or (n / 2) (bit_or b c / 2) =
    ap (λ (x : ℕ). bit_or x (c / 2)) (half_or n b) ∙ ih (b / 2) (c / 2) ∙ ap (bit_or (n / 2)) (sym (half_or b c)) in
    omega (arith, or_step (bit_or n b) c, or_step n (bit_or b c), halves, or_step n b, or_step b c))

-- ---- what is in what

pub in_self : (a : ℕ) → a ⊆ a
in_self a = or_self a

pub zero_in : (a : ℕ) → 0 ⊆ a
zero_in a = refl

pub in_trans : (a b c : ℕ) → a ⊆ b → b ⊆ c → a ⊆ c
in_trans a b c p q = ap (λ (x : ℕ). a ∪ x) (sym q) ∙ sym (or_assoc a b c) ∙ ap (λ (x : ℕ). x ∪ c) p ∙ q

pub in_left : (a b : ℕ) → a ⊆ a ∪ b
in_left a b = sym (or_assoc a a b) ∙ ap (λ (x : ℕ). x ∪ b) (or_self a)

pub in_right : (a b : ℕ) → b ⊆ a ∪ b
in_right a b = ap (λ (x : ℕ). b ∪ x) (or_comm a b) ∙ in_left b a ∙ or_comm b a

pub union_in : (a b c : ℕ) → a ⊆ c → b ⊆ c → a ∪ b ⊆ c
union_in a b c p q = or_assoc a b c ∙ ap (λ (x : ℕ). a ∪ x) q ∙ p

pub in_both : (a b : ℕ) → a ⊆ b → b ⊆ a → a ≡ b
in_both a b p q = sym q ∙ or_comm b a ∙ p

-- ---- a set given a condition

pub given_true : (s : ℕ) (b : Bool) → b ≡ true → s given b ≡ s
unfolding ◌given◌ when◌then◌else◌
given_true s b e = rw e refl

pub given_in : (s c : ℕ) (b : Bool) → (b ≡ true → s ⊆ c) → s given b ⊆ c
unfolding ◌given◌ when◌then◌else◌
given_in s c true h = h refl
given_in s c false h = refl

-- ---- sets of places

pub get_both : (ss ts : List ℕ) (p : ℕ) → get_or (both ss ts) p 0 ≡ get_or ss p 0 ∪ get_or ts p 0
unfolding both
get_both [] ts p = refl
get_both (s ∷ ss) ts zero = refl
get_both (s ∷ ss) [] (suc p) = get_both ss [] p
get_both (s ∷ ss) (t ∷ ts) (suc p) = get_both ss ts p

-- a place that is picked out is in the whole
pub picked_has : (P : ℕ → Bool) (ss : List ℕ) (p : ℕ) → P p ≡ true → get_or ss p 0 ⊆ picked P ss
unfolding picked
picked_has P [] p e = refl
picked_has P (s ∷ ss) zero e = rw (given_true s (P 0) e) (in_left s (picked (λ p. P (suc p)) ss))
picked_has P (s ∷ ss) (suc p) e =
    in_trans (get_or ss p 0) (picked (λ p. P (suc p)) ss) _ (picked_has (λ p. P (suc p)) ss p e) (in_right (s given P 0) (picked (λ p. P (suc p)) ss))

-- and the whole is in what each of them is in
pub picked_in : (P : ℕ → Bool) (ss : List ℕ) (c : ℕ) → ((p : ℕ) → P p ≡ true → get_or ss p 0 ⊆ c) → picked P ss ⊆ c
unfolding picked
picked_in P [] c h = refl
picked_in P (s ∷ ss) c h =
    union_in (s given P 0) (picked (λ p. P (suc p)) ss) c (given_in s c (P 0) (h 0)) (picked_in (λ p. P (suc p)) ss c (λ p. h (suc p)))
