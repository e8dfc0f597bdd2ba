-- An expression that is not loose is one term: nothing of it stands outside brackets but one word, so it may stand in the place of a term. Assumes nothing.
use Prim.Native.Nat.{ℕ, suc}
use native.Mathlib.Omega.{arith}
use mathlib.Core.Path.{◌≡◌, refl, sym, ap, ◌∙◌, subst, subst⁻¹}
use mathlib.Core.Bool.{Bool, true, false}
use mathlib.Core.List.{List, [], ◌∷◌, ◌++◌, flat_map}
use lib.Dec.{eqb}
use lib.ListN.{length}
use Rattle.reference.specs.Control.{not, ◌and◌, ◌or◌, when◌then◌else◌}
use Rattle.reference.specs.Lists.{any}
use Rattle.reference.specs.Text.{Text, bytes, contains}
use Rattle.reference.specs.Listing.{Token, is, Register, Number, Keyword, Punct}
use Rattle.reference.specs.Evaluators.{Store, of_integer}
use Rattle.reference.proofs.Cases.{by-if, neither, true-false, not-true, not-false, fails, same_number}
use Rattle.reference.proofs.Shapes.{other_kind}
use Rattle.laws.proofs.Scans.{if-true, if-false, or_false, and_false}
use Rattle.straight.proofs.Reader.{Pending, first, adds, takes, apply, State, wants, holds, gap, signed, broken, byte, text_step, term, token-step, run-tokens}
use Rattle.straight.proofs.Machine.{Step, punct, register, number, breaks, step_of, step-punct, step-register, step_number}
use Rattle.straight.proofs.Substituting.{wide-register, number_kind}
use Rattle.straight.proofs.Expression.{Dead, text_dead, run-dead}
use Rattle.straight.proofs.Joining.{Anywhere}
use Rattle.cautions.specs.Texts.{frame, deeper, depth, outside, after_unary, all_words, loose}

-- ---- no space stands outside brackets

abbrev Lacks : ℕ → Text → Type 0
Lacks d s = contains (outside d s) 32 ≡ false

words : (s : Text) → all_words s ≡ true → contains s 32 ≡ false
unfolding all_words
words [] e = refl
words (c ∷ cs) e =
    let n = neither {a = not (eqb c 119)} {b = any (λ c. not (eqb c 119)) cs} (not-true e) in
    or_false _ (fails (λ g. space (same_number {m = 32} {n = c} g) n.0)) ∙ words cs (opposite n.1)
  where
    opposite : {b : Bool} → b ≡ false → not b ≡ true
    opposite {b} e = unfold not in rw e refl

    space : 32 ≡ c → not (eqb c 119) ≡ false → ⊥
    space g = unfold not in λ n. true-false (subst (λ (m : ℕ). not (eqb m 119) ≡ true) g refl) n

-- a space in front is none of the unary operators
space_stays : (cs : Text) → after_unary (32 ∷ cs) ≡ 32 ∷ cs
unfolding after_unary when◌then◌else◌ ◌or◌
space_stays cs = refl

unary_words : (s : Text) → all_words (after_unary s) ≡ true → contains s 32 ≡ false
unfolding after_unary
unary_words [] e = refl
unary_words (c ∷ cs) e = go (eqb 32 c) refl (unary_words cs)
  where
    go : (b : Bool) → eqb 32 c ≡ b → (all_words (after_unary cs) ≡ true → contains cs 32 ≡ false) → contains (c ∷ cs) 32 ≡ false
    go true g ih =
        let z : 32 ≡ c = same_number {m = 32} {n = c} g in
        words (c ∷ cs) (subst (λ (n : ℕ). all_words (n ∷ cs) ≡ true) z (subst (λ (r : Text). all_words r ≡ true) (space_stays cs) (subst⁻¹ (λ (n : ℕ). all_words (after_unary (n ∷ cs)) ≡ true) z e)))
    go false g ih =
        or_false _ g
        ∙ by-if (λ (r : Text). all_words r ≡ true → contains cs 32 ≡ false) (λ h f. ih f)
        (λ h f. (neither {a = eqb 32 c} {b = contains cs 32} (words (c ∷ cs) f)).1) e

later : (d c : ℕ) (cs : Text) → Lacks d (c ∷ cs) → Lacks (deeper c d) cs
unfolding outside
later d c cs h =
    by-if (λ (r : Text). contains r 32 ≡ false → Lacks (deeper c d) cs) (λ e f. (neither {a = eqb 32 c} {b = contains (outside (deeper c d) cs) 32} f).1) (λ e f. f) h

past_word : (d : ℕ) (cs : Text) → Lacks d (119 ∷ cs) → Lacks d cs
unfolding deeper when◌then◌else◌
past_word d cs h = later d 119 cs h

-- at the outermost level no byte is a space
no_space : (cs : Text) → Lacks 0 (32 ∷ cs) → ⊥
unfolding outside when◌then◌else◌ ◌and◌ ◌or◌ not
no_space cs h = true-false refl h

split : (d : ℕ) (a b : Text) → Lacks d (a ++ b) → Lacks d a × Lacks (depth d a) b
unfolding outside depth
split d [] b h = (refl, h)
split d (c ∷ a) b h =
    let ih = split (deeper c d) a b (later d c (a ++ b) h) in
    (by-if (λ (r : Text). contains r 32 ≡ false) (λ e. or_false _ (here e) ∙ ih.0) (λ e. ih.0), ih.1)
  where
    here : (eqb d 0 and not (contains (bytes "()") c)) ≡ true → eqb 32 c ≡ false
    here e = (neither {a = eqb 32 c} {b = contains (outside (deeper c d) (a ++ b)) 32} (sym (ap (λ (r : Text). contains r 32) (if-true _ _ e)) ∙ h)).0

-- ---- the reader from the beginning of an expression, and from where a term is wanted

module _ (p : Pending) (k : List Pending) where
  -- the two in step: before the term, behind it, or inside its brackets
  data Same : ℕ → State → State → Type 0 where
    begun : Same 0 (wants first []) (wants p k)
    ended : (v : ℕ) → Same 0 (holds v []) (holds (apply p v) k)
    wanting : (q : Pending) (j : List Pending) → Same (suc (length j)) (wants q (j ++ (first ∷ []))) (wants q (j ++ (p ∷ k)))
    holding : (v : ℕ) (j : List Pending) → Same (suc (length j)) (holds v (j ++ (first ∷ []))) (holds v (j ++ (p ∷ k)))
    gapping : (v : ℕ) (j : List Pending) → Same (suc (length j)) (gap v (j ++ (first ∷ []))) (gap v (j ++ (p ∷ k)))
    signing : (q : Pending) (j : List Pending) → Same (suc (length j)) (signed q (j ++ (first ∷ []))) (signed q (j ++ (p ∷ k)))

  -- still in step, or the first is behind the expression or broken
  data Next (d : ℕ) (s s' : State) : Type 0 where
    same : Same d s s' → Next d s s'
    lost : Dead s → Next d s s'

  module _ (c : ℕ) where
    opened : (d : ℕ) {s s' : State} (b : Bool) → eqb c 40 ≡ b → Next (suc d) s s' → Next (deeper c d) (when b then s else broken) (when b then s' else broken)
    unfolding deeper when◌then◌else◌
    opened d {s} {s'} true e n = subst⁻¹ (λ (m : ℕ). Next (deeper m d) s s') (same_number {m = c} {n = 40} e) n
    opened d false e n = lost tt

    level : (b : ℕ) → eqb b 40 ≡ false → eqb b 41 ≡ false → (d : ℕ) {s s' t t' : State} (x : Bool) → eqb c b ≡ x → Next d s s' → (eqb c b ≡ false → Next (deeper c d) t t')
        → Next (deeper c d) (when x then s else t) (when x then s' else t')
    unfolding deeper when◌then◌else◌
    level b n m d {s} {s'} true e f g =
        subst⁻¹ (λ (m : ℕ). Next (deeper m d) s s') (same_number {m = c} {n = b} e)
        (subst⁻¹ (λ (m : ℕ). Next m s s') (if-false _ _ n ∙ if-false _ _ m) f)
    level b n m d false e f g = g e

    closed : (d : ℕ) {s s' t t' : State} (x : Bool) → eqb c 41 ≡ x → Next d s s' → Next (deeper c (suc d)) t t'
        → Next (deeper c (suc d)) (when x then s else t) (when x then s' else t')
    unfolding deeper when◌then◌else◌
    closed d {s} {s'} true e f g = subst⁻¹ (λ (m : ℕ). Next (deeper m (suc d)) s s') (same_number {m = c} {n = 41} e) f
    closed d false e f g = g

  byte_same : (c : ℕ) (cs : Text) (d : ℕ) (s s' : State) → Same d s s' → Lacks d (c ∷ cs) → Next (deeper c d) (byte c s) (byte c s')
  unfolding byte apply
  byte_same c cs d s s' begun h = opened c 0 (eqb c 40) refl (same (wanting first []))
  byte_same c cs d s s' (ended v) h =
      by-if (λ (r : State). Next (deeper c 0) r (byte c (holds (apply p v) k))) (λ e. lost tt)
      (λ e. by-if (λ (r : State). Next (deeper c 0) r (byte c (holds (apply p v) k)))
      (λ f. absurd (no_space cs (subst (λ (n : ℕ). Lacks 0 (n ∷ cs)) (same_number {m = c} {n = 32} f) h))) (λ f. lost tt))
  byte_same c cs d s s' (wanting q j) h = opened c (suc (length j)) (eqb c 40) refl (same (wanting first (q ∷ j)))
  byte_same c cs d s s' (holding v []) h =
      closed c 0 (eqb c 41) refl (same (ended v)) (level c 32 refl refl 1 {t = broken} {t' = broken} (eqb c 32) refl (same (gapping v [])) (λ f. lost tt))
  byte_same c cs d s s' (holding v (q ∷ j)) h =
      closed c (suc (length j)) (eqb c 41) refl (same (holding (apply q v) j))
      (level c 32 refl refl (suc (suc (length j))) {t = broken} {t' = broken} (eqb c 32) refl (same (gapping v (q ∷ j))) (λ f. lost tt))
  byte_same c cs d s s' (gapping v j) h =
      level c 43 refl refl (suc (length j)) (eqb c 43) refl (same (signing (adds v) j))
      (λ f. level c 45 refl refl (suc (length j)) (eqb c 45) refl (same (signing (takes v) j)) (λ g. lost tt))
  byte_same c cs d s s' (signing q j) h = level c 32 refl refl (suc (length j)) (eqb c 32) refl (same (wanting q j)) (λ f. lost tt)

  text_same : (cs : Text) (d : ℕ) (s s' : State) → Next d s s' → Lacks d cs → Next (depth d cs) (text_step cs s) (text_step cs s')
  unfolding text_step depth
  text_same [] d s s' n h = n
  text_same (c ∷ cs) d s s' (same e) h = text_same cs (deeper c d) (byte c s) (byte c s') (byte_same c cs d s s' e h) (later d c cs h)
  text_same (c ∷ cs) d s s' (lost e) h = lost (text_dead (c ∷ cs) s e)

  term_same : (v d : ℕ) (s s' : State) → Same d s s' → Next d (term v s) (term v s')
  unfolding term apply
  term_same v d s s' begun = same (ended v)
  term_same v d s s' (ended u) = lost tt
  term_same v d s s' (wanting q j) = same (holding (apply q v) j)
  term_same v d s s' (holding u j) = lost tt
  term_same v d s s' (gapping u j) = lost tt
  term_same v d s s' (signing q j) = lost tt

  -- at the end of the expression the second has its value
  ends_same : (v d : ℕ) (s s' : State) → Same d s s' → s ≡ holds v [] → s' ≡ holds (apply p v) k
  ends_same v d s s' begun e = let z : ◌≡◌ {A = ℕ} 0 1 = cc in absurd (omega arith)
  ends_same v d s s' (ended u) e = let same : u ≡ v = cc in ap (λ (w : ℕ). holds (apply p w) k) same
  ends_same v d s s' (wanting q j) e = let z : ◌≡◌ {A = ℕ} 0 1 = cc in absurd (omega arith)
  ends_same v d s s' (holding u []) e = let z : ◌≡◌ {A = ℕ} 0 1 = cc in absurd (omega arith)
  ends_same v d s s' (holding u (q ∷ j)) e = let z : ◌≡◌ {A = ℕ} 0 1 = cc in absurd (omega arith)
  ends_same v d s s' (gapping u j) e = let z : ◌≡◌ {A = ℕ} 0 1 = cc in absurd (omega arith)
  ends_same v d s s' (signing q j) e = let z : ◌≡◌ {A = ℕ} 0 1 = cc in absurd (omega arith)

  -- ---- tokens

  frame_punct : (t : Token) (ts : List Token) → is Punct t ≡ true → frame (t ∷ ts) ≡ t.text ++ frame ts
  unfolding frame flat_map
  frame_punct t ts e = ap (λ (r : Text). r ++ frame ts) (if-true _ _ e)

  frame_word : (t : Token) (ts : List Token) → is Punct t ≡ false → is Keyword t ≡ false → frame (t ∷ ts) ≡ 119 ∷ frame ts
  unfolding frame flat_map
  frame_word t ts e f = ap (λ (r : Text). r ++ frame ts) (if-false _ _ e ∙ if-false _ _ (and_false _ f))

  module _ (σ : Store) (v : ℕ) where
    not_dead : (ts : List Token) (s : State) → run-tokens σ ts s ≡ holds v [] → Dead s → ⊥
    not_dead ts s e d = subst Dead e (run-dead k σ ts s d)

    run_same : (ts : List Token) (d : ℕ) (s s' : State) → Same d s s' → Lacks d (frame ts) → run-tokens σ ts s ≡ holds v [] → run-tokens σ ts s' ≡ holds (apply p v) k
    unfolding run-tokens
    run_same [] d s s' e h r = ends_same v d s s' e r
    run_same (t ∷ ts) d s s' e h r = go (step_of σ t) (λ m. run_same ts m (token-step σ t s) (token-step σ t s'))
      where
        Rest : Type 0
        Rest = run-tokens σ ts (token-step σ t s') ≡ holds (apply p v) k

        on : (m : ℕ) → Next m (token-step σ t s) (token-step σ t s') → Lacks m (frame ts)
            → ((m : ℕ) → Same m (token-step σ t s) (token-step σ t s') → Lacks m (frame ts) → run-tokens σ ts (token-step σ t s) ≡ holds v [] → Rest) → Rest
        on m (same n) l ih = ih m n l r
        on m (lost n) l ih = absurd (not_dead ts (token-step σ t s) r n)

        word : is Punct t ≡ false → is Keyword t ≡ false → Lacks d (frame ts)
        word f g = past_word d (frame ts) (subst (Lacks d) (frame_word t ts f g) h)

        go : Step σ t → ((m : ℕ) → Same m (token-step σ t s) (token-step σ t s') → Lacks m (frame ts) → run-tokens σ ts (token-step σ t s) ≡ holds v [] → Rest) → Rest
        go (punct q) =
            let parts = split d t.text (frame ts) (subst (Lacks d) (frame_punct t ts q) h) in
            on (depth d t.text)
            (subst⁻¹ (λ (u : State). Next (depth d t.text) u (token-step σ t s')) (step-punct σ t s q)
            (subst⁻¹ (Next (depth d t.text) (text_step t.text s)) (step-punct σ t s' q) (text_same t.text d s s' (same e) parts.0)))
            parts.1
        go (register x w) =
            let r : is Register t ≡ true = wide-register t x w in
            on d
            (subst⁻¹ (λ (u : State). Next d u (token-step σ t s')) (step-register σ t x s w)
            (subst⁻¹ (Next d (term (σ x) s)) (step-register σ t x s' w) (term_same (σ x) d s s' e)))
            (word (other_kind Register Punct t refl r) (other_kind Register Keyword t refl r))
        go (number z n) =
            let r : is Number t ≡ true = number_kind t z n in
            on d
            (subst⁻¹ (λ (u : State). Next d u (token-step σ t s')) (step_number σ t z s n)
            (subst⁻¹ (Next d (term (of_integer z) s)) (step_number σ t z s' n) (term_same (of_integer z) d s s' e)))
            (word (other_kind Number Punct t refl r) (other_kind Number Keyword t refl r))
        go (breaks f) = λ ih. absurd (not_dead ts (token-step σ t s) r (subst⁻¹ Dead (f σ s) tt))

-- AN EXPRESSION THAT IS NOT LOOSE MAY STAND FOR A TERM
pub one_term : (expr : List Token) → loose expr ≡ false → Anywhere expr
unfolding loose term
one_term expr n σ v w p k = run_same p k σ v expr 0 (wants first []) (wants p k) begun (unary_words (outside 0 (frame expr)) (not-false n)) w
