-- A cut: no call mark stands in the two tokens that it takes. Assumes nothing.
use Prim.Native.Nat.{ℕ, suc, ◌≤◌, ◌<◌}
use native.Mathlib.Omega.{arith}
use mathlib.Core.Path.{◌≡◌, refl, ap, ◌∙◌}
use mathlib.Core.Bool.{Bool, true, false}
use mathlib.Core.List.{List, [], ◌∷◌}
use mathlib.Core.Option.{Option, none, some}
use lib.ListN.{length, drop}
use Rattle.reference.specs.Control.{◌and◌, ◌or◌, when◌then◌else◌, let_some◌else◌then◌}
use Rattle.reference.specs.Lists.{position, windows, pairs_from, get, modify}
use Rattle.reference.specs.Text.{bytes, ◌≟◌, starts_with}
use Rattle.reference.specs.Listing.{Token, Listing, ◌at◌, with_tokens}
use Rattle.reference.specs.Rules.{Rules}
use Rattle.reference.specs.Shapes.{calls_here, call_in, label_tokens}
use Rattle.reference.specs.Life.{Labels}
use Rattle.reference.specs.Join.{text_or_empty}
use Rattle.reference.specs.Run.{dead_result}
use Rattle.reference.specs.Claim.{Callee, is_call_mark, opens, calls_in}
use Rattle.reference.proofs.Cases.{by-if, both, either, neither, pair, fails, true-false, same_number, some_inj, none-some, bind-some, some-true}
use Rattle.reference.proofs.Shapes.{starts_as}
use Rattle.reference.proofs.Weights.{Weight, weight}
use Rattle.reference.proofs.Calls.{skip}
use Rattle.reference.proofs.Changes.{Changes, changes_line}

-- ---- the line of a cut

-- three tokens or more, `rax` or `eax`, ` = `, and no call mark at the second
data Dead : List Token → Type 0 where
  dead : {t u v : Token} {rest : List Token} → ((t.text ≟ bytes "rax") or (t.text ≟ bytes "eax")) ≡ true → (u.text ≟ bytes " = ") ≡ true
      → calls_here (u, v) ≡ false → Dead (t ∷ u ∷ v ∷ rest)

module _ {ℓ} {A : Type ℓ} (p : A → Bool) where
  found_below : (xs : List A) (i : ℕ) → position p xs ≡ some i → i < length xs
  found_below [] i = λ e. absurd (none-some e)
  found_below (x ∷ xs) i =
      by-if (λ (o : Option ℕ). o ≡ some i → i < suc (length xs))
      (λ h e. (let z : 0 ≡ i = some_inj e in omega arith))
      (λ h e. (let b = bind-some e in let z : suc b.0 ≡ i = some_inj b.2 in omega (arith, found_below xs b.0 b.1)))

  -- a search that finds at the third place has passed the second
  passed : (x y : A) (xs : List A) → position p (x ∷ y ∷ xs) ≡ some 2 → p y ≡ false
  unfolding when◌then◌else◌ let_some◌else◌then◌
  passed x y xs e = go (p x) (p y) (position p xs) e
    where
      go : (a b : Bool) (o : Option ℕ)
          → (when a then some 0 else (let_some (when b then some 0 else (let_some o else none then λ i. some (suc i))) else none then λ i. some (suc i))) ≡ some 2
          → b ≡ false
      go true b o e = (let z : ◌≡◌ {A = ℕ} 0 2 = some_inj e in absurd (omega arith))
      go false true o e = (let z : ◌≡◌ {A = ℕ} 1 2 = some_inj e in absurd (omega arith))
      go false false o e = refl

dead-tokens : (ts : List Token) → position calls_here (windows ts) ≡ some 2
    → ((text_or_empty (get ts 0) ≟ bytes "rax") or (text_or_empty (get ts 0) ≟ bytes "eax")) ≡ true → (text_or_empty (get ts 1) ≟ bytes " = ") ≡ true
    → Dead ts
unfolding let_some◌else◌then◌
dead-tokens [] e n s = absurd (none-some e)
dead-tokens (t ∷ []) e n s = absurd (none-some e)
dead-tokens (t ∷ u ∷ []) e n s = absurd (omega (arith, found_below calls_here (windows (t ∷ u ∷ [])) 2 e))
dead-tokens (t ∷ u ∷ v ∷ rest) e n s = dead n s (passed calls_here (t, u) (u, v) (pairs_from v rest) e)

dead_line : (rules : Rules) (labels : Labels) (lines : Listing) (i : ℕ) → dead_result rules labels lines i ≡ true → Dead (lines at i).tokens
unfolding dead_result call_in
dead_line rules labels lines i e =
    let h = both e in
    let k = both h.1 in
    let c = some-true h.0 in
    dead-tokens (lines at i).tokens (c.1 ∙ ap {B = Option ℕ} some (same_number c.2)) k.0 (both k.1).0

-- ---- the two tokens

name-mark : (c : Callee) (t u : Token) (rest : List Token) → ((t.text ≟ bytes "rax") or (t.text ≟ bytes "eax")) ≡ true → (u.text ≟ bytes " = ") ≡ true
    → is_call_mark c t (opens (u ∷ rest)) ≡ false
unfolding is_call_mark opens
name-mark none t u rest hn hs =
    fails (λ e. true-false (both e).1
    (either (starts_with t.text (bytes "((void") ≡ false) hn
    (starts_as t.text (bytes "rax") (bytes "((void") false (unfold ◌and◌ in refl))
    (starts_as t.text (bytes "eax") (bytes "((void") false (unfold ◌and◌ in refl))))
name-mark (some name) t u rest hn hs =
    fails (λ e. true-false (both (both (both e).1).1).1 (starts_as u.text (bytes " = ") (bytes "(") false (unfold ◌and◌ in refl) hs))

sign-mark : (c : Callee) (u v : Token) (rest : List Token) → (u.text ≟ bytes " = ") ≡ true → calls_here (u, v) ≡ false → is_call_mark c u (opens (v ∷ rest)) ≡ false
unfolding is_call_mark opens calls_here
sign-mark none u v rest hs hc = fails (λ e. true-false (both e).1 (starts_as u.text (bytes " = ") (bytes "((void") false (unfold ◌and◌ in refl) hs))
sign-mark (some name) u v rest hs hc = fails (λ e. true-false (pair (both e).0 (both (both e).1).1) (neither hc).0)

cut-calls : {ts : List Token} → Dead ts → (c : Callee) → calls_in c ts ≤ calls_in c (drop 2 ts)
cut-calls (dead {t = t} {u = u} {v = v} {rest = rest} n s h) c =
    omega (
      arith,
      skip c t (u ∷ v ∷ rest) (name-mark c t u (v ∷ rest) n s),
      skip c u (v ∷ rest) (sign-mark c u v rest s h),
    )

cut-plain : {ts : List Token} → Dead ts → label_tokens ts ≡ false
unfolding label_tokens
cut-plain (dead n s h) = refl

cut_weight : {ts : List Token} → Dead ts → (w : Weight) → weight w (drop 2 ts) ≤ weight w ts
cut_weight (dead n s h) w = omega arith

-- ---- the step

dead_two : {ts : List Token} → Dead ts → 2 ≤ length ts
dead_two (dead n s h) = omega arith

pub cut_two : (rules : Rules) (labels : Labels) (lines : Listing) (i : ℕ) → dead_result rules labels lines i ≡ true → 2 ≤ length (lines at i).tokens
cut_two rules labels lines i e = dead_two (dead_line rules labels lines i e)

pub cut-changes : (rules : Rules) (labels : Labels) (lines : Listing) (i : ℕ) → i < length lines → dead_result rules labels lines i ≡ true
    → Changes [] [] [] lines (modify i (λ l. with_tokens (drop 2 l.tokens) l) lines)
unfolding calls_in
cut-changes rules labels lines i lt e =
    let d = dead_line rules labels lines i e in
    changes_line (λ l. with_tokens (drop 2 l.tokens) l) i lines lt (cut-plain d) refl
    (λ w h. omega (arith, cut_weight d w))
    (λ c. omega (arith, cut-calls d c))
