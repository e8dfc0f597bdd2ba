-- The reader of specs/Straight.antt: one token after another, what breaks it, and which tokens it reads. Assumes nothing.
use Prim.Native.Nat.{ℕ}
use mathlib.Core.Path.{◌≡◌, refl, ◌∙◌}
use mathlib.Core.Bool.{Bool, true, false}
use mathlib.Core.List.{List, [], ◌∷◌, ◌++◌}
use mathlib.Core.Option.{Option, none, some}
use lib.IntN.{ℤ}
use Rattle.reference.specs.Control.{when◌then◌else◌, let_some◌else◌then◌}
use Rattle.reference.specs.Text.{Text}
use Rattle.reference.specs.Listing.{Token, is, Register, Number, Punct}
use Rattle.reference.specs.Names.{fam_of}
use Rattle.reference.specs.Evaluators.{Store, wide, number_of, of_integer}
use Rattle.straight.proofs.Reader.{State, done, broken, byte, text_step, term, token-step, run-tokens}
use Rattle.reference.proofs.Cases.{by-if, by-some, if_some, bind-some, both}
use Rattle.reference.proofs.Shapes.{other_kind}
use Rattle.laws.proofs.Scans.{if-true, if-false}

-- ---- states are told apart

pub broken-done : {v : ℕ} → broken ≡ done v → ⊥
broken-done e = let z : ◌≡◌ {A = ℕ} 0 1 = cc in omega native.Mathlib.Omega.arith

-- ---- one after another

pub text_append : (a b : Text) (s : State) → text_step (a ++ b) s ≡ text_step b (text_step a s)
unfolding text_step
text_append [] b s = refl
text_append (c ∷ a) b s = text_append a b (byte c s)

pub run_append : (σ : Store) (xs ys : List Token) (s : State) → run-tokens σ (xs ++ ys) s ≡ run-tokens σ ys (run-tokens σ xs s)
unfolding run-tokens
run_append σ [] ys s = refl
run_append σ (x ∷ xs) ys s = run_append σ xs ys (token-step σ x s)

-- ---- broken for good

pub text_broken : (a : Text) → text_step a broken ≡ broken
unfolding text_step byte
text_broken [] = refl
text_broken (c ∷ a) = text_broken a

pub token-broken : (σ : Store) (t : Token) → token-step σ t broken ≡ broken
unfolding token-step term
token-broken σ t =
    by-if (λ (s : State). s ≡ broken) (λ e. text_broken t.text)
    (λ e. by-some (λ (s : State). s ≡ broken) (λ n. by-some (λ (s : State). s ≡ broken) (λ m. refl) (λ z m. refl)) (λ x n. refl))

pub run-broken : (σ : Store) (ts : List Token) → run-tokens σ ts broken ≡ broken
unfolding run-tokens
run-broken σ [] = refl
run-broken σ (t ∷ ts) = rw (token-broken σ t) (run-broken σ ts)

-- ---- what a token does, by its kind

pub step-punct : (σ : Store) (t : Token) (s : State) → is Punct t ≡ true → token-step σ t s ≡ text_step t.text s
unfolding token-step
step-punct σ t s e = if-true _ _ e

pub step-register : (σ : Store) (t : Token) (x : Text) (s : State) → wide t ≡ some x → token-step σ t s ≡ term (σ x) s
unfolding token-step wide fam_of let_some◌else◌then◌
step-register σ t x s e =
    let f = bind-some e in
    let r : is Register t ≡ true = (if_some f.1).0 in
    if-false _ _ (other_kind Register Punct t refl r) ∙ rw e

not_wide : (t : Token) → is Register t ≡ false → wide t ≡ none
unfolding wide fam_of let_some◌else◌then◌ when◌then◌else◌
not_wide t e = rw e

pub step_number : (σ : Store) (t : Token) (z : ℤ) (s : State) → number_of t ≡ some z → token-step σ t s ≡ term (of_integer z) s
unfolding token-step number_of let_some◌else◌then◌
step_number σ t z s e =
    let n : is Number t ≡ true = (both (if_some e).0).0 in
    if-false _ _ (other_kind Number Punct t refl n) ∙ rw (not_wide t (other_kind Number Register t refl n), e)

-- a token is read as a Punct, or as a term of one value, or it breaks the reader
pub data Step (σ : Store) (t : Token) : Type 0 where
  punct : is Punct t ≡ true → Step σ t
  register : (x : Text) → wide t ≡ some x → Step σ t
  number : (z : ℤ) → number_of t ≡ some z → Step σ t
  breaks : ((τ : Store) (s : State) → token-step τ t s ≡ broken) → Step σ t

pub step_of : (σ : Store) (t : Token) → Step σ t
unfolding token-step let_some◌else◌then◌
step_of σ t = kind (is Punct t) refl
  where
    fourth : is Punct t ≡ false → wide t ≡ none → (o : Option ℤ) → number_of t ≡ o → Step σ t
    fourth p w none e = breaks (λ τ s. if-false _ _ p ∙ rw (w, e))
    fourth p w (some z) e = number z e

    third : is Punct t ≡ false → (o : Option Text) → wide t ≡ o → Step σ t
    third p none e = fourth p e (number_of t) refl
    third p (some x) e = register x e

    kind : (b : Bool) → is Punct t ≡ b → Step σ t
    kind true e = punct e
    kind false e = third e (wide t) refl
