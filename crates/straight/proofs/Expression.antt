-- The right side of an assignment, read by itself: what it is worth where a term is wanted, in brackets, alone, or where an expression begins.
-- Assumes nothing.
use Prim.Native.Nat.{ℕ}
use native.Mathlib.Omega.{arith}
use mathlib.Core.Path.{◌≡◌, refl, sym, ap, ◌∙◌, subst, subst⁻¹}
use mathlib.Core.Bool.{Bool, true, false}
use mathlib.Core.List.{List, [], ◌∷◌, ◌++◌, drop_last}
use lib.ListN.{drop}
use Rattle.reference.specs.Control.{when◌then◌else◌, let_some◌else◌then◌}
use Rattle.reference.specs.Lists.{is_empty}
use Rattle.reference.specs.Text.{Text, bytes, ends_with}
use Rattle.reference.specs.Listing.{Token, token, is, Punct}
use Rattle.reference.specs.Shapes.{Assignment, right_side}
use Rattle.reference.specs.Evaluators.{Store, of_integer}
use Rattle.straight.proofs.Reader.{Pending, first, apply, State, fresh, spaced, equals, wants, holds, gap, signed, done, broken, byte, text_step, term, token-step, run-tokens}
use Rattle.reference.proofs.Cases.{by-if, same_number}
use Rattle.reference.proofs.Shapes.{Cut, gone, short, later, Assigning, assigning}
use Rattle.books.proofs.Grammar2024.{begins}
use Rattle.straight.proofs.Machine.{broken-done, text_append, run_append, text_broken, step-punct, step-register, step_number, Step, punct, register, number, breaks, step_of}
use Rattle.straight.proofs.Folding.{ends-split}

-- ---- inside an expression

-- the same with more brackets open outside
abbrev pub under : List Pending → State → State
under k fresh = fresh
under k spaced = spaced
under k equals = equals
under k (wants p j) = wants p (j ++ k)
under k (holds v j) = holds v (j ++ k)
under k (gap v j) = gap v (j ++ k)
under k (signed p j) = signed p (j ++ k)
under k (done v) = done v
under k broken = broken

abbrev Live : State → Type 0
Live fresh = ⊥
Live spaced = ⊥
Live equals = ⊥
Live (wants p k) = Unit {0}
Live (holds v k) = Unit {0}
Live (gap v k) = Unit {0}
Live (signed p k) = Unit {0}
Live (done v) = ⊥
Live broken = ⊥

-- behind the expression: at the `;`, or broken
abbrev pub Dead : State → Type 0
Dead fresh = ⊥
Dead spaced = ⊥
Dead equals = ⊥
Dead (wants p k) = ⊥
Dead (holds v k) = ⊥
Dead (gap v k) = ⊥
Dead (signed p k) = ⊥
Dead (done v) = Unit {0}
Dead broken = Unit {0}

live-dead : (s : State) → Live s → Dead s → ⊥
live-dead fresh l d = l
live-dead spaced l d = l
live-dead equals l d = l
live-dead (wants p k) l d = d
live-dead (holds v k) l d = d
live-dead (gap v k) l d = d
live-dead (signed p k) l d = d
live-dead (done v) l d = l
live-dead broken l d = l

data Outcome (s : State) : Type 0 where
  live : Live s → Outcome s
  dead : Dead s → Outcome s

byte_outcome : (c : ℕ) (s : State) → Live s → Outcome (byte c s)
unfolding byte
byte_outcome c fresh l = absurd l
byte_outcome c spaced l = absurd l
byte_outcome c equals l = absurd l
byte_outcome c (wants p k) l = by-if Outcome (λ e. live tt) (λ e. dead tt)
byte_outcome c (holds v []) l = by-if Outcome (λ e. dead tt) (λ e. by-if Outcome (λ f. live tt) (λ f. dead tt))
byte_outcome c (holds v (p ∷ k)) l = by-if Outcome (λ e. live tt) (λ e. by-if Outcome (λ f. live tt) (λ f. dead tt))
byte_outcome c (gap v k) l = by-if Outcome (λ e. live tt) (λ e. by-if Outcome (λ f. live tt) (λ f. dead tt))
byte_outcome c (signed p k) l = by-if Outcome (λ e. live tt) (λ e. dead tt)
byte_outcome c (done v) l = absurd l
byte_outcome c broken l = absurd l

byte_dead : (c : ℕ) (s : State) → Dead s → Dead (byte c s)
unfolding byte
byte_dead c fresh l = absurd l
byte_dead c spaced l = absurd l
byte_dead c equals l = absurd l
byte_dead c (wants p k) l = absurd l
byte_dead c (holds v k) l = absurd l
byte_dead c (gap v k) l = absurd l
byte_dead c (signed p k) l = absurd l
byte_dead c (done v) l = tt
byte_dead c broken l = tt

text_outcome : (cs : Text) (s : State) → Outcome s → Outcome (text_step cs s)
unfolding text_step
text_outcome [] s f = f
text_outcome (c ∷ cs) s (live l) = text_outcome cs (byte c s) (byte_outcome c s l)
text_outcome (c ∷ cs) s (dead d) = text_outcome cs (byte c s) (dead (byte_dead c s d))

pub text_dead : (cs : Text) (s : State) → Dead s → Dead (text_step cs s)
unfolding text_step
text_dead [] s d = d
text_dead (c ∷ cs) s d = text_dead cs (byte c s) (byte_dead c s d)

term-dead : (v : ℕ) (s : State) → Dead s → Dead (term v s)
unfolding term
term-dead v fresh d = absurd d
term-dead v spaced d = absurd d
term-dead v equals d = absurd d
term-dead v (wants p k) d = absurd d
term-dead v (holds u k) d = absurd d
term-dead v (gap u k) d = absurd d
term-dead v (signed p k) d = absurd d
term-dead v (done u) d = tt
term-dead v broken d = tt

term_outcome : (v : ℕ) (s : State) → Live s → Outcome (term v s)
unfolding term
term_outcome v fresh d = absurd d
term_outcome v spaced d = absurd d
term_outcome v equals d = absurd d
term_outcome v (wants p k) d = live tt
term_outcome v (holds u k) d = dead tt
term_outcome v (gap u k) d = dead tt
term_outcome v (signed p k) d = dead tt
term_outcome v (done u) d = absurd d
term_outcome v broken d = absurd d

term_under : (k : List Pending) (v : ℕ) (s : State) → term v (under k s) ≡ under k (term v s)
unfolding term
term_under k v fresh = refl
term_under k v spaced = refl
term_under k v equals = refl
term_under k v (wants p j) = refl
term_under k v (holds u j) = refl
term_under k v (gap u j) = refl
term_under k v (signed p j) = refl
term_under k v (done u) = refl
term_under k v broken = refl

module _ (k : List Pending) where
  if_under : (b : Bool) (s t s' t' : State) → s' ≡ under k s → t' ≡ under k t → (when b then s' else t') ≡ under k (when b then s else t)
  unfolding when◌then◌else◌
  if_under true s t s' t' e f = e
  if_under false s t s' t' e f = f

  space_under : (v : ℕ) (j : List Pending) → byte 32 (holds v j) ≡ gap v j
  unfolding byte when◌then◌else◌
  space_under v [] = refl
  space_under v (p ∷ j) = refl

  byte_under : (c : ℕ) (s : State) → Live s → Live (byte c s) → byte c (under k s) ≡ under k (byte c s)
  unfolding byte
  byte_under c fresh l m = absurd l
  byte_under c spaced l m = absurd l
  byte_under c equals l m = absurd l
  byte_under c (wants p j) l m = if_under _ _ _ _ _ refl refl
  byte_under c (holds v []) l m =
      by-if (λ (r : State). Live r → byte c (holds v k) ≡ under k r)
      (λ e n. absurd n)
      (λ e. by-if (λ (r : State). Live r → byte c (holds v k) ≡ under k r)
      (λ f n. ap (λ (x : ℕ). byte x (holds v k)) (same_number f) ∙ space_under v k)
      (λ f n. absurd n))
      m
  byte_under c (holds v (p ∷ j)) l m = if_under _ _ _ _ _ refl (if_under _ _ _ _ _ refl refl)
  byte_under c (gap v j) l m = if_under _ _ _ _ _ refl (if_under _ _ _ _ _ refl refl)
  byte_under c (signed p j) l m = if_under _ _ _ _ _ refl refl
  byte_under c (done v) l m = absurd l
  byte_under c broken l m = absurd l

  text_under : (cs : Text) (s : State) → Live s → Live (text_step cs s) → text_step cs (under k s) ≡ under k (text_step cs s)
  unfolding text_step
  text_under [] s l m = refl
  text_under (c ∷ cs) s l m = go (byte_outcome c s l) (text_under cs (byte c s))
    where
      go : Outcome (byte c s) → (Live (byte c s) → Live (text_step cs (byte c s)) → text_step cs (under k (byte c s)) ≡ under k (text_step cs (byte c s)))
          → text_step cs (byte c (under k s)) ≡ under k (text_step cs (byte c s))
      go (live n) ih = ap (text_step cs) (byte_under c s l n) ∙ ih n m
      go (dead d) ih = absurd (live-dead (text_step cs (byte c s)) m (text_dead cs (byte c s) d))

  module _ (σ : Store) where
    token-dead : (t : Token) (s : State) → Dead s → Dead (token-step σ t s)
    token-dead t s d = go (step_of σ t)
      where
        go : Step σ t → Dead (token-step σ t s)
        go (punct p) = subst⁻¹ Dead (step-punct σ t s p) (text_dead t.text s d)
        go (register x w) = subst⁻¹ Dead (step-register σ t x s w) (term-dead (σ x) s d)
        go (number z n) = subst⁻¹ Dead (step_number σ t z s n) (term-dead (of_integer z) s d)
        go (breaks f) = subst⁻¹ Dead (f σ s) tt

    pub run-dead : (ts : List Token) (s : State) → Dead s → Dead (run-tokens σ ts s)
    unfolding run-tokens
    run-dead [] s d = d
    run-dead (t ∷ ts) s d = run-dead ts (token-step σ t s) (token-dead t s d)

    token_outcome : (t : Token) (s : State) → Live s → Outcome (token-step σ t s)
    token_outcome t s l = go (step_of σ t)
      where
        go : Step σ t → Outcome (token-step σ t s)
        go (punct p) = subst⁻¹ Outcome (step-punct σ t s p) (text_outcome t.text s (live l))
        go (register x w) = subst⁻¹ Outcome (step-register σ t x s w) (term_outcome (σ x) s l)
        go (number z n) = subst⁻¹ Outcome (step_number σ t z s n) (term_outcome (of_integer z) s l)
        go (breaks f) = subst⁻¹ Outcome (f σ s) (dead tt)

    token_under : (t : Token) (s : State) → Live s → Live (token-step σ t s) → token-step σ t (under k s) ≡ under k (token-step σ t s)
    token_under t s l m = go (step_of σ t)
      where
        go : Step σ t → token-step σ t (under k s) ≡ under k (token-step σ t s)
        go (punct p) =
            step-punct σ t (under k s) p ∙ text_under t.text s l (subst Live (step-punct σ t s p) m) ∙ ap (under k) (sym (step-punct σ t s p))
        go (register x w) = step-register σ t x (under k s) w ∙ term_under k (σ x) s ∙ ap (under k) (sym (step-register σ t x s w))
        go (number z n) = step_number σ t z (under k s) n ∙ term_under k (of_integer z) s ∙ ap (under k) (sym (step_number σ t z s n))
        go (breaks f) = f σ (under k s) ∙ ap (under k) (sym (f σ s))

    run_under : (ts : List Token) (s : State) → Live s → Live (run-tokens σ ts s) → run-tokens σ ts (under k s) ≡ under k (run-tokens σ ts s)
    unfolding run-tokens
    run_under [] s l m = refl
    run_under (t ∷ ts) s l m = go (token_outcome t s l) (run_under ts (token-step σ t s))
      where
        go : Outcome (token-step σ t s)
            → (Live (token-step σ t s) → Live (run-tokens σ ts (token-step σ t s)) → run-tokens σ ts (under k (token-step σ t s)) ≡ under k (run-tokens σ ts (token-step σ t s)))
            → run-tokens σ ts (token-step σ t (under k s)) ≡ under k (run-tokens σ ts (token-step σ t s))
        go (live n) ih = ap (run-tokens σ ts) (token_under t s l n) ∙ ih n m
        go (dead d) ih = absurd (live-dead (run-tokens σ ts (token-step σ t s)) m (run-dead ts (token-step σ t s) d))

-- an expression, worth v
abbrev pub Worth : Store → List Token → ℕ → Type 0
Worth σ e v = run-tokens σ e (wants first []) ≡ holds v []

-- inside any brackets
pub worth-inside : (σ : Store) (e : List Token) (v : ℕ) (k : List Pending) → Worth σ e v → run-tokens σ e (wants first k) ≡ holds v k
worth-inside σ e v k h = run_under k σ e (wants first []) tt (subst⁻¹ Live h tt) ∙ ap (under k) h

-- ---- in the place of a term

-- what stands where a register stood that was worth v
abbrev pub Stands : Store → List Token → ℕ → Pending → List Pending → Type 0
Stands σ r v p k = run-tokens σ r (wants p k) ≡ term v (wants p k)

pub stands-first : (σ : Store) (e : List Token) (v : ℕ) (k : List Pending) → Worth σ e v → Stands σ e v first k
unfolding term apply
stands-first σ e v k h = worth-inside σ e v k h

pub stands-bracketed : (σ : Store) (e : List Token) (v : ℕ) (p : Pending) (k : List Pending) → Worth σ e v
    → Stands σ (token Punct (bytes "(") ∷ e ++ (token Punct (bytes ")") ∷ [])) v p k
unfolding run-tokens term token-step is text_step byte when◌then◌else◌
stands-bracketed σ e v p k h =
    run_append σ e (token Punct (bytes ")") ∷ []) (wants first (p ∷ k)) ∙ ap (λ (s : State). run-tokens σ (token Punct (bytes ")") ∷ []) s) (worth-inside σ e v (p ∷ k) h)

no_term : (cs : Text) (p : Pending) (k : List Pending) (v : ℕ) (j : List Pending) → text_step cs (wants p k) ≡ holds v j → ⊥
unfolding text_step byte
no_term [] p k v j e = let z : ◌≡◌ {A = ℕ} 0 1 = cc in omega arith
no_term (c ∷ cs) p k v j e =
    by-if (λ (s : State). text_step cs s ≡ holds v j → ⊥)
    (λ h. no_term cs first (p ∷ k) v j)
    (λ h f. (let g : broken ≡ holds v j = sym (text_broken cs) ∙ f in let z : ◌≡◌ {A = ℕ} 0 1 = cc in omega arith))
    e

pub stands-lone : (σ : Store) (t : Token) (v : ℕ) (p : Pending) (k : List Pending) → Worth σ (t ∷ []) v → Stands σ (t ∷ []) v p k
unfolding run-tokens term apply
stands-lone σ t v p k h = go (step_of σ t)
  where
    held : {a b : ℕ} → holds a [] ≡ holds b [] → a ≡ b
    held e = cc

    go : Step σ t → token-step σ t (wants p k) ≡ term v (wants p k)
    go (punct q) = absurd (no_term t.text first [] v [] (sym (step-punct σ t (wants first []) q) ∙ h))
    go (register x w) = step-register σ t x (wants p k) w ∙ ap (λ (u : ℕ). term u (wants p k)) (held (sym (step-register σ t x (wants first []) w) ∙ h))
    go (number z n) = step_number σ t z (wants p k) n ∙ ap (λ (u : ℕ). term u (wants p k)) (held (sym (step_number σ t z (wants first []) n) ∙ h))
    go (breaks f) = let e : broken ≡ holds v [] = sym (f σ (wants first [])) ∙ h in let z : ◌≡◌ {A = ℕ} 0 1 = cc in absurd (omega arith)

-- ---- the right side of an assignment

dropLast_end : (p : Text) (x : ℕ) → drop_last (p ++ (x ∷ [])) ≡ p
dropLast_end [] x = refl
dropLast_end (a ∷ []) x = refl
dropLast_end (a ∷ b ∷ p) x = ap {B = Text} (λ (r : Text). a ∷ r) (dropLast_end (b ∷ p) x)

semicolon : (s : State) (v : ℕ) → byte 59 s ≡ done v → s ≡ holds v []
unfolding byte when◌then◌else◌
semicolon fresh v e = absurd (broken-done e)
semicolon spaced v e = absurd (broken-done e)
semicolon equals v e = absurd (broken-done e)
semicolon (wants p k) v e = absurd (broken-done e)
semicolon (holds u []) v e = let same : u ≡ v = cc in ap (λ (w : ℕ). holds w []) same
semicolon (holds u (p ∷ k)) v e = absurd (broken-done e)
semicolon (gap u k) v e = absurd (broken-done e)
semicolon (signed p k) v e = absurd (broken-done e)
semicolon (done u) v e = absurd (broken-done e)
semicolon broken v e = absurd (broken-done e)

term-not-done : (w : ℕ) (s : State) (v : ℕ) → term w s ≡ done v → ⊥
unfolding term
term-not-done w fresh v e = broken-done e
term-not-done w spaced v e = broken-done e
term-not-done w equals v e = broken-done e
term-not-done w (wants p k) v e = let z : ◌≡◌ {A = ℕ} 0 1 = cc in omega arith
term-not-done w (holds u k) v e = broken-done e
term-not-done w (gap u k) v e = broken-done e
term-not-done w (signed p k) v e = broken-done e
term-not-done w (done u) v e = broken-done e
term-not-done w broken v e = broken-done e

module _ (σ : Store) (v : ℕ) where
  last-punct : (t : Token) (s : State) → token-step σ t s ≡ done v → is Punct t ≡ true
  last-punct t s h = go (step_of σ t)
    where
      go : Step σ t → is Punct t ≡ true
      go (punct p) = p
      go (register x w) = absurd (term-not-done (σ x) s v (sym (step-register σ t x s w) ∙ h))
      go (number z n) = absurd (term-not-done (of_integer z) s v (sym (step_number σ t z s n) ∙ h))
      go (breaks f) = absurd (broken-done (sym (f σ s) ∙ h))

  -- the last token without its `;`
  cut_last : (t : Token) (s : State) → ends_with t.text (bytes ";") ≡ true → token-step σ t s ≡ done v → text_step (drop_last t.text) s ≡ holds v []
  unfolding text_step
  cut_last t s e h =
      let q = ends-split t.text (bytes ";") e in
      let whole : text_step t.text s ≡ done v = sym (step-punct σ t s (last-punct t s h)) ∙ h in
      let p : drop_last t.text ≡ q.0 = ap {B = Text} drop_last q.1 ∙ dropLast_end q.0 59 in
      ap (λ (r : Text). text_step r s) p
      ∙ semicolon (text_step q.0 s) v (sym (text_append q.0 (bytes ";") s) ∙ sym (ap (λ (r : Text). text_step r s) q.1) ∙ whole)

  cut-run : {ts r : List Token} → Cut ts r → (s : State) → run-tokens σ ts s ≡ done v → run-tokens σ r s ≡ holds v []
  unfolding run-tokens text_step
  cut-run (gone {t = t} e d) s h = sym (ap (λ (r : Text). text_step r s) d) ∙ cut_last t s e h
  cut-run (short {t = t} e) s h = step-punct σ (token t.kind (drop_last t.text)) s (unfold is in last-punct t s h) ∙ cut_last t s e h
  cut-run (later t c) s h = cut-run c (token-step σ t s) h

  equals_text : text_step (bytes " = ") fresh ≡ wants first []
  unfolding text_step byte when◌then◌else◌
  equals_text = refl

  head_run : (eq : Token) (rest : List Token) (s : State) → run-tokens σ (right_side eq rest) s ≡ run-tokens σ rest (text_step (drop 3 eq.text) s)
  unfolding right_side
  head_run eq rest s = go (drop 3 eq.text)
    where
      go : (h : Text) → run-tokens σ ((when is_empty h then [] else token Punct h ∷ []) ++ rest) s ≡ run-tokens σ rest (text_step h s)
      go [] = unfold when◌then◌else◌ run-tokens text_step in refl
      go (c ∷ cs) = unfold when◌then◌else◌ run-tokens in ap (run-tokens σ rest) (step-punct σ (token Punct (c ∷ cs)) s (unfold is in refl))

  pub assigned-worth : {ts : List Token} {a : Assignment} → Assigning ts a → run-tokens σ (drop 1 ts) fresh ≡ done v → Worth σ a.expr v
  unfolding run-tokens
  assigned-worth (assigning {eq = eq} {rest = rest} r p s c) h =
      let begun : token-step σ eq fresh ≡ text_step (drop 3 eq.text) (wants first []) =
      step-punct σ eq fresh p ∙ ap (λ (x : Text). text_step x fresh) (begins eq.text (bytes " = ") s)
      ∙ text_append (bytes " = ") (drop 3 eq.text) fresh ∙ ap (text_step (drop 3 eq.text)) equals_text in
      cut-run c (wants first []) (head_run eq rest (wants first []) ∙ sym (ap (run-tokens σ rest) begun) ∙ h)
