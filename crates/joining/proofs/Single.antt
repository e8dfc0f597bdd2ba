-- A single use: to replace the one token of the family is to substitute for each. Assumes nothing.
use Prim.Native.Nat.{ℕ, suc}
use native.Mathlib.Omega.{arith}
use mathlib.Core.Path.{◌≡◌, refl, ap, ◌∙◌, subst}
use mathlib.Core.Bool.{Bool, true, false}
use mathlib.Core.List.{List, [], ◌∷◌, ◌++◌}
use mathlib.Core.Option.{Option, none, some}
use lib.ListN.{take, drop}
use Rattle.reference.specs.Control.{when◌then◌else◌, let_some◌else◌then◌}
use Rattle.reference.specs.Lists.{count, position}
use Rattle.reference.specs.Text.{Text}
use Rattle.reference.specs.Listing.{Token}
use Rattle.reference.specs.Names.{of_family}
use Rattle.reference.specs.Rules.{Rules}
use Rattle.reference.specs.Life.{Touch, Use, touch_of}
use Rattle.reference.specs.Join.{substitute, replacement, replace_at}
use Rattle.reference.proofs.Cases.{by-if, by-some, some_inj, none-some}
use Rattle.joining.specs.Plan.{Plan, wants_brackets, right_side_of}

pub use_count : (ts : List Token) (fam : Text) (volatile : List Text) (n : ℕ) → touch_of ts fam volatile ≡ Use n → count (of_family fam) ts ≡ n
unfolding touch_of
use_count ts fam volatile n =
    by-if (λ (t : Touch). t ≡ Use n → count (of_family fam) ts ≡ n)
    (λ b e. (cc))
    (λ b. by-if (λ (t : Touch). t ≡ Use n → count (of_family fam) ts ≡ n)
    (λ c e. (cc))
    (λ c. by-if (λ (t : Touch). t ≡ Use n → count (of_family fam) ts ≡ n)
    (λ d e. (cc))
    (λ d e. (cc))))

module _ (fam : Text) (expr : List Token) where
  nothing : (ts : List Token) → count (of_family fam) ts ≡ 0 → substitute fam expr ts ≡ ts
  unfolding substitute when◌then◌else◌
  nothing [] = λ e. refl
  nothing (t ∷ ts) = go (of_family fam t) (nothing ts)
    where
      go : (b : Bool) → (count (of_family fam) ts ≡ 0 → substitute fam expr ts ≡ ts)
          → (when b then suc (count (of_family fam) ts) else count (of_family fam) ts) ≡ 0
          → (when b then expr ++ substitute fam expr ts else t ∷ substitute fam expr ts) ≡ t ∷ ts
      go true ih e = absurd (omega arith)
      go false ih e = ap {B = List Token} (λ r. t ∷ r) (ih e)

  pub substitute_one : (ts : List Token) (pos : ℕ) → position (of_family fam) ts ≡ some pos → count (of_family fam) ts ≡ 1
      → substitute fam expr ts ≡ take pos ts ++ expr ++ drop (suc pos) ts
  unfolding substitute when◌then◌else◌ let_some◌else◌then◌
  substitute_one [] pos = λ e. absurd (none-some e)
  substitute_one (t ∷ ts) pos = go (of_family fam t) (substitute_one ts)
    where
      go : (b : Bool)
          → ((i : ℕ) → position (of_family fam) ts ≡ some i → count (of_family fam) ts ≡ 1 → substitute fam expr ts ≡ take i ts ++ expr ++ drop (suc i) ts)
          → (when b then some 0 else (let_some (position (of_family fam) ts) else none then λ i. some (suc i))) ≡ some pos
          → (when b then suc (count (of_family fam) ts) else count (of_family fam) ts) ≡ 1
          → (when b then expr ++ substitute fam expr ts else t ∷ substitute fam expr ts) ≡ take pos (t ∷ ts) ++ expr ++ drop (suc pos) (t ∷ ts)
      go true ih e n =
          subst (λ (k : ℕ). expr ++ substitute fam expr ts ≡ take k (t ∷ ts) ++ expr ++ drop (suc k) (t ∷ ts)) (some_inj e)
          (ap (λ (r : List Token). expr ++ r) (nothing ts (omega arith)))
      go false ih e n =
          by-some (λ (o : Option ℕ). o ≡ some pos → t ∷ substitute fam expr ts ≡ take pos (t ∷ ts) ++ expr ++ drop (suc pos) (t ∷ ts))
          (λ h u. absurd (none-some u))
          (λ i h u.
          subst (λ (k : ℕ). t ∷ substitute fam expr ts ≡ take k (t ∷ ts) ++ expr ++ drop (suc k) (t ∷ ts)) (some_inj u)
          (ap {B = List Token} (λ r. t ∷ r) (ih i h n)))
          e

-- the one token replaced, where the plan has the brackets that it wants
pub replaced_one : (rules : Rules) (p : Plan) (ts : List Token) (pos : ℕ) → p.brackets ≡ wants_brackets rules p.expr ts pos
    → position (of_family p.fam) ts ≡ some pos → count (of_family p.fam) ts ≡ 1
    → substitute p.fam (right_side_of p) ts ≡ replace_at rules ts pos p.expr
unfolding right_side_of wants_brackets replace_at replacement
replaced_one rules p ts pos b h n = substitute_one p.fam (right_side_of p) ts pos h n ∙ rw b
