-- A listing that does not break the profile is straight, and the other way round: whether a line is read does not depend on the values. Assumes nothing.
use Prim.Native.Nat.{ℕ, suc}
use native.Mathlib.Omega.{arith}
use mathlib.Core.Path.{◌≡◌, refl, sym, ap, ◌∙◌}
use mathlib.Core.Bool.{Bool, true, false, false≢true}
use mathlib.Core.List.{List, [], ◌∷◌, map}
use mathlib.Core.Option.{Option, none, some}
use borrow.Author.Tests.{eq-eqb}
use Rattle.reference.specs.Control.{when◌then◌else◌}
use Rattle.reference.specs.Lists.{is_some}
use Rattle.reference.specs.Text.{Text}
use Rattle.reference.specs.Listing.{Token, Listing}
use Rattle.reference.specs.Evaluators.{Store, wide, of_integer}
use Rattle.reference.specs.Straight.{zeros, assigns_wide, returns_value, breaks_from, breaks}
use Rattle.straight.proofs.Reader.{Pending, first, State, fresh, spaced, equals, wants, holds, gap, signed, done, broken, byte, text_step, term, token-step, run-tokens, value_of}
use Rattle.reference.proofs.Cases.{both, pair, same_number, none-some}
use Rattle.laws.proofs.Scans.{if-true}
use Rattle.straight.proofs.Machine.{broken-done, Step, punct, register, number, breaks as breaks-token, step_of, step-punct, step-register, step_number}
use Rattle.straight.proofs.Evaluators.{assigned_evaluates, returned_evaluates}
use Rattle.straight.proofs.Flow.{Reads, Assigns, assigns, Returns, returns, Straight, last, next}

-- ---- states without their values

abbrev blanks : List Pending → List Pending
blanks = map (λ p. first)

abbrev shape : State → State
shape fresh = fresh
shape spaced = spaced
shape equals = equals
shape (wants p k) = wants first (blanks k)
shape (holds v k) = holds 0 (blanks k)
shape (gap v k) = gap 0 (blanks k)
shape (signed p k) = signed first (blanks k)
shape (done v) = done 0
shape broken = broken

if_shape : (b : Bool) (s t s' t' : State) → shape s ≡ shape s' → shape t ≡ shape t' → shape (when b then s else t) ≡ shape (when b then s' else t')
unfolding when◌then◌else◌
if_shape true s t s' t' e f = e
if_shape false s t s' t' e f = f

blanks-twice : (k : List Pending) → blanks k ≡ blanks (blanks k)
blanks-twice [] = refl
blanks-twice (p ∷ k) = ap {B = List Pending} (λ r. first ∷ r) (blanks-twice k)

byte_shape : (c : ℕ) (s : State) → shape (byte c s) ≡ shape (byte c (shape s))
unfolding byte
byte_shape c fresh = refl
byte_shape c spaced = refl
byte_shape c equals = refl
byte_shape c (wants p k) = if_shape _ _ _ _ _ (ap {B = State} (λ (r : List Pending). wants first (first ∷ r)) (blanks-twice k)) refl
byte_shape c (holds v []) = if_shape _ _ _ _ _ refl (if_shape _ _ _ _ _ refl refl)
byte_shape c (holds v (p ∷ k)) =
    if_shape _ _ _ _ _ (ap {B = State} (λ (r : List Pending). holds 0 r) (blanks-twice k))
    (if_shape _ _ _ _ _ (ap {B = State} (λ (r : List Pending). gap 0 (first ∷ r)) (blanks-twice k)) refl)
byte_shape c (gap v k) =
    let q = ap {B = State} (λ (r : List Pending). signed first r) (blanks-twice k) in if_shape _ _ _ _ _ q (if_shape _ _ _ _ _ q refl)
byte_shape c (signed p k) = if_shape _ _ _ _ _ (ap {B = State} (λ (r : List Pending). wants first r) (blanks-twice k)) refl
byte_shape c (done v) = refl
byte_shape c broken = refl

-- two states of one shape, a byte later
byte_alike : (c : ℕ) (s t : State) → shape s ≡ shape t → shape (byte c s) ≡ shape (byte c t)
byte_alike c s t e = byte_shape c s ∙ ap (λ (r : State). shape (byte c r)) e ∙ sym (byte_shape c t)

text_alike : (cs : Text) (s t : State) → shape s ≡ shape t → shape (text_step cs s) ≡ shape (text_step cs t)
unfolding text_step
text_alike [] s t e = e
text_alike (c ∷ cs) s t e = text_alike cs (byte c s) (byte c t) (byte_alike c s t e)

term-shape : (v : ℕ) (s : State) → shape (term v s) ≡ shape (term 0 (shape s))
unfolding term
term-shape v fresh = refl
term-shape v spaced = refl
term-shape v equals = refl
term-shape v (wants p k) = ap {B = State} (λ (r : List Pending). holds 0 r) (blanks-twice k)
term-shape v (holds u k) = refl
term-shape v (gap u k) = refl
term-shape v (signed p k) = refl
term-shape v (done u) = refl
term-shape v broken = refl

term_alike : (u v : ℕ) (s t : State) → shape s ≡ shape t → shape (term u s) ≡ shape (term v t)
term_alike u v s t e = term-shape u s ∙ ap (λ (r : State). shape (term 0 r)) e ∙ sym (term-shape v t)

module _ (σ τ : Store) where
  token_alike : (w : Token) (s t : State) → shape s ≡ shape t → shape (token-step σ w s) ≡ shape (token-step τ w t)
  token_alike w s t e = go (step_of σ w)
    where
      go : Step σ w → shape (token-step σ w s) ≡ shape (token-step τ w t)
      go (punct p) = ap shape (step-punct σ w s p) ∙ text_alike w.text s t e ∙ ap shape (sym (step-punct τ w t p))
      go (register x h) = ap shape (step-register σ w x s h) ∙ term_alike (σ x) (τ x) s t e ∙ ap shape (sym (step-register τ w x t h))
      go (number z n) = ap shape (step_number σ w z s n) ∙ term_alike (of_integer z) (of_integer z) s t e ∙ ap shape (sym (step_number τ w z t n))
      go (breaks-token f) = ap shape (f σ s) ∙ ap shape (sym (f τ t))

  run_alike : (ts : List Token) (s t : State) → shape s ≡ shape t → shape (run-tokens σ ts s) ≡ shape (run-tokens τ ts t)
  unfolding run-tokens
  run_alike [] s t e = e
  run_alike (w ∷ ts) s t e = run_alike ts (token-step σ w s) (token-step τ w t) (token_alike w s t e)

-- a state of the shape of an end is an end
ended : (s : State) → shape s ≡ done 0 → (v : ℕ) × (s ≡ done v)
ended fresh e = absurd (let z : ◌≡◌ {A = ℕ} 0 1 = cc in omega arith)
ended spaced e = absurd (let z : ◌≡◌ {A = ℕ} 0 1 = cc in omega arith)
ended equals e = absurd (let z : ◌≡◌ {A = ℕ} 0 1 = cc in omega arith)
ended (wants p k) e = absurd (let z : ◌≡◌ {A = ℕ} 0 1 = cc in omega arith)
ended (holds v k) e = absurd (let z : ◌≡◌ {A = ℕ} 0 1 = cc in omega arith)
ended (gap v k) e = absurd (let z : ◌≡◌ {A = ℕ} 0 1 = cc in omega arith)
ended (signed p k) e = absurd (let z : ◌≡◌ {A = ℕ} 0 1 = cc in omega arith)
ended (done v) e = (v, refl)
ended broken e = absurd (broken-done e)

-- a value under the zeros is a value under every store
value_done : (s : State) → is_some (value_of s) ≡ true → (v : ℕ) × (s ≡ done v)
unfolding value_of
value_done fresh e = absurd (false≢true e)
value_done spaced e = absurd (false≢true e)
value_done equals e = absurd (false≢true e)
value_done (wants p k) e = absurd (false≢true e)
value_done (holds v k) e = absurd (false≢true e)
value_done (gap v k) e = absurd (false≢true e)
value_done (signed p k) e = absurd (false≢true e)
value_done (done v) e = (v, refl)
value_done broken e = absurd (false≢true e)

pub reads : (s : State) (ts : List Token) → is_some (value_of (run-tokens zeros ts s)) ≡ true → Reads s ts
reads s ts e σ =
    let v = value_done (run-tokens zeros ts s) e in
    ended (run-tokens σ ts s) (run_alike σ zeros ts s s refl ∙ ap shape v.1)

read_back : (s : State) (ts : List Token) → Reads s ts → is_some (value_of (run-tokens zeros ts s)) ≡ true
unfolding value_of
read_back s ts r = rw (r zeros).1

-- ---- lines

some_is {ℓ} : {A : Type ℓ} (o : Option A) → is_some o ≡ true → (a : A) × (o ≡ some a)
some_is none e = absurd (false≢true e)
some_is (some a) e = (a, refl)

returns_of : (ts : List Token) → returns_value ts ≡ true → Returns ts
unfolding returns_value
returns_of [] e = absurd (false≢true e)
returns_of (t ∷ ts) e = let h = both e in returns h.0 (reads equals ts (sym (ap is_some (returned_evaluates zeros ts)) ∙ (both h.1).0)) (both h.1).1

assigns_of : (ts : List Token) → assigns_wide ts ≡ true → (y : Text) × Assigns ts y
unfolding assigns_wide
assigns_of [] e = absurd (false≢true e)
assigns_of (t ∷ ts) e =
    let h = both e in
    let y = some_is (wide t) h.0 in
    (y.0, assigns y.1 (reads fresh ts (sym (ap is_some (assigned_evaluates zeros ts)) ∙ (both h.1).0)) (both h.1).1)

returns-back : (ts : List Token) → Returns ts → returns_value ts ≡ true
unfolding returns_value
returns-back [] x' = elim x' [ ]
returns-back (t ∷ ts) (returns w r a) = pair w (pair (ap is_some (returned_evaluates zeros ts) ∙ read_back equals ts r) a)

assigns-back : (ts : List Token) (y : Text) → Assigns ts y → assigns_wide ts ≡ true
unfolding assigns_wide
assigns-back [] y x' = elim x' [ ]
assigns-back (t ∷ ts) y (assigns w r a) = pair (ap is_some w) (pair (ap is_some (assigned_evaluates zeros ts) ∙ read_back fresh ts r) a)

-- ---- listings

only_none {ℓ} : {A : Type ℓ} {b : Bool} {o : Option A} (a : A) → (when b then o else some a) ≡ none → (b ≡ true) × (o ≡ none)
unfolding when◌then◌else◌
only_none {b = true} a e = (refl, e)
only_none {b = false} a e = absurd (none-some (sym e))

straight_from : (indent n : ℕ) (ls : Listing) → breaks_from indent n ls ≡ none → Straight indent ls
unfolding breaks_from
straight_from indent n [] e = absurd (none-some (sym e))
straight_from indent n (l ∷ []) e =
    let h = both (only_none n e).0 in last (same_number h.0) (returns_of l.tokens h.1)
straight_from indent n (l ∷ m ∷ ls) e =
    let o = only_none n e in
    let h = both o.0 in
    let y = assigns_of l.tokens h.1 in
    next y.0 (same_number h.0) y.1 (straight_from indent (suc n) (m ∷ ls) o.1)

-- a listing that does not break the profile is straight
pub straight_of : (lines : Listing) → breaks lines ≡ none → (indent : ℕ) × Straight indent lines
unfolding breaks
straight_of [] e = absurd (none-some (sym e))
straight_of (l ∷ ls) e = (l.indent, straight_from l.indent 0 (l ∷ ls) e)

from_straight : {indent : ℕ} (n : ℕ) {ls : Listing} → Straight indent ls → breaks_from indent n ls ≡ none
unfolding breaks_from
from_straight {indent} n (last {l = l} i r) = if-true _ _ (pair (eq-eqb l.indent indent i) (returns-back l.tokens r))
from_straight {indent} n (next {l = l} {ls = ls} y i a more) = go ls (from_straight (suc n) more)
  where
    go : (ls : Listing) → breaks_from indent (suc n) ls ≡ none → breaks_from indent n (l ∷ ls) ≡ none
    go [] e = absurd (none-some (sym e))
    go (m ∷ ls) e = if-true _ _ (pair (eq-eqb l.indent indent i) (assigns-back l.tokens y a)) ∙ e

-- a straight listing does not break it
pub of_straight : {indent : ℕ} {ls : Listing} → Straight indent ls → breaks ls ≡ none
unfolding breaks
of_straight (last {l = l} i r) = ap (λ (n : ℕ). breaks_from n 0 (l ∷ [])) i ∙ from_straight 0 (last i r)
of_straight (next {l = l} {ls = ls} y i a more) = ap (λ (n : ℕ). breaks_from n 0 (l ∷ ls)) i ∙ from_straight 0 (next y i a more)
