-- How the room of a line's tokens is used up: by the texts that are written, and by the numbers that folding makes. A fold's number, 19 bytes at
-- most, is charged to the operator token that it takes away. Assumes nothing.
use Prim.Native.Nat.{ℕ, suc, ◌+◌, ◌*◌, ◌-◌, ◌≤◌, ◌<◌, zero-le}
use native.Mathlib.Omega.{arith}
use mathlib.Core.Path.{◌≡◌, refl, ap, ◌∙◌}
use mathlib.Core.Bool.{Bool, true, false}
use mathlib.Core.List.{List, [], ◌∷◌, ◌++◌}
use lib.ListN.{length, get_or, length-append}
use Rattle.reference.specs.Control.{◌or◌, when◌then◌else◌}
use Rattle.reference.specs.Lists.{count}
use Rattle.reference.specs.Text.{bytes, ◌≟◌}
use Rattle.reference.specs.Listing.{Token, token, is, Number}
use Rattle.reference.specs.Numbers.{joins, merge_into, merge}
use Rattle.reference.specs.Claim.{sum, size, text_in}
use Rattle.reference.proofs.Cases.{by-if, either}
use Rattle.reference.proofs.Shapes.{same_text, joins-other}
use Rattle.reference.proofs.Weights.{sum-append}
use Rattle.laws.proofs.Scans.{if-false}
use Rattle.joining.specs.Limits.{over, room}
use Rattle.joining.specs.Plan.{built}
use Rattle.joining.proofs.Building.{built_turn}

-- ---- a line more

pub built-sum {ℓ κ} : {A : Type ℓ} {B : Type κ} (F : B → ℕ) (f : ℕ → A → B) (i : ℕ) (xs : List A) (k : ℕ) (d : A) → k < length xs → (k ≡ i → ⊥)
    → sum F (built f i xs (k + 1)) ≡ sum F (built f i xs k) + F (f k (get_or xs k d))
built-sum F f i xs k d h n = ap (sum F) (built_turn f i xs k d h n) ∙ sum-append F (built f i xs k) _ ∙ omega arith

-- ---- signs

unfoldable pub is_sign : Token → Bool
is_sign t = (t.text ≟ bytes " + ") or (t.text ≟ bytes " - ")

abbrev pub signs : List Token → ℕ
signs = count is_sign

sign_size : (t : Token) → is_sign t ≡ true → size t ≡ 3
unfolding is_sign
sign_size t e = either (size t ≡ 3) e (λ h. ap length (same_text t.text (bytes " + ") h)) (λ h. ap length (same_text t.text (bytes " - ") h))

-- a token's text, with 19 bytes more if it is a sign
charge : Token → ℕ
charge t = size t + (when is_sign t then 19 else 0)

charge_room : (t : Token) → over t ≡ 0 → charge t ≤ room t
unfolding charge when◌then◌else◌
charge_room t = go (is Number t) (is_sign t) (sign_size t)
  where
    go : (b s : Bool) → (s ≡ true → size t ≡ 3) → (when b then size t - 24 else 0) ≡ 0 → size t + (when s then 19 else 0) ≤ (when b then 0 else size t) + 24
    go true true h e = omega (arith, h refl)
    go true false h e = omega arith
    go false true h e = omega arith
    go false false h e = omega arith

charges : (ts : List Token) → sum charge ts ≡ text_in ts + 19 * signs ts
unfolding charge when◌then◌else◌
charges [] = refl
charges (t ∷ ts) = go (is_sign t) (charges ts)
  where
    go : (s : Bool) → sum charge ts ≡ text_in ts + 19 * signs ts
        → size t + (when s then 19 else 0) + sum charge ts ≡ size t + text_in ts + 19 * (when s then suc (signs ts) else signs ts)
    go true e = omega arith
    go false e = omega arith

-- ---- merging

module _ (a b : Token) where
  both_texts : Token
  both_texts = token a.kind (a.text ++ b.text)

  both_size : size both_texts ≡ size a + size b
  unfolding both_texts
  both_size = length-append a.text b.text

  -- tokens that join are no numbers, and what they become is none
  both_room : joins a b ≡ true → (over both_texts ≡ 0) × (room both_texts + 24 ≡ room a + room b)
  unfolding both_texts is
  both_room e =
      let k = joins-other Number a b refl refl e in
      let plain : (t : Token) → is Number t ≡ false → room t ≡ size t + 24 = λ t n. ap (λ (m : ℕ). m + 24) (if-false _ _ n) in
      (if-false _ _ k.0, omega (arith, plain both_texts k.0, plain a k.0, plain b k.1, both_size))

into_text : (last : Token) (ts : List Token) → text_in (merge_into last ts) ≡ size last + text_in ts
unfolding merge_into both_texts
into_text last [] = refl
into_text last (t ∷ ts) =
    by-if (λ (r : List Token). text_in r ≡ size last + (size t + text_in ts))
    (λ e. omega (arith, into_text (both_texts last t) ts, both_size last t))
    (λ e. omega (arith, into_text t ts))

pub merge_text : (ts : List Token) → text_in (merge ts) ≡ text_in ts
unfolding merge
merge_text [] = refl
merge_text (t ∷ ts) = into_text t ts

into-room : (last : Token) (ts : List Token) → over last ≡ 0 → sum over ts ≡ 0 → sum charge (merge_into last ts) ≤ room last + sum room ts
unfolding merge_into both_texts
into-room last [] h e = omega (arith, charge_room last h)
into-room last (t ∷ ts) h e =
    by-if (λ (r : List Token). sum charge r ≤ room last + (room t + sum room ts))
    (λ j. (let b = both_room last t j in omega (arith, into-room (both_texts last t) ts b.0 (omega arith), b.1)))
    (λ j. omega (arith, into-room t ts (omega arith) (omega arith), charge_room last h))

-- before a line's tokens are folded: their texts, and 19 bytes for each sign
pub merged_room : (ts : List Token) → sum over ts ≡ 0 → text_in ts + 19 * signs (merge ts) ≤ sum room ts
unfolding merge
merged_room ts e = omega (arith, charged ts e, charges (merge ts), merge_text ts)
  where
    charged : (ts : List Token) → sum over ts ≡ 0 → sum charge (merge ts) ≤ sum room ts
    charged [] e = zero-le
    charged (t ∷ ts) e = into-room t ts (omega arith) (omega arith)

-- ---- folding

-- a token kept
pub keep-room : (b : Token) (rest : List Token) → signs rest ≤ signs (b ∷ rest)
keep-room b rest = by-if (λ (n : ℕ). signs rest ≤ n) (λ h. omega arith) (λ h. omega arith)
