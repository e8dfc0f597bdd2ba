-- The evaluators that call each other (crate reference, specs/Evaluators.antt) give the values of the reader (Reader.antt), and none where it gives none.
-- Assumes nothing.
use Prim.Native.Nat.{ℕ, zero, suc, ◌+◌, ◌≤◌, ◌<◌}
use native.Mathlib.Omega.{arith}
use mathlib.Core.Path.{◌≡◌, refl, sym, ap, ◌∙◌, subst}
use mathlib.Core.Bool.{Bool, true, false, false≢true}
use mathlib.Core.List.{List, [], ◌∷◌, ◌++◌, map}
use mathlib.Core.Option.{Option, none, some}
use lib.Dec.{eqb}
use lib.IntN.{ℤ}
use lib.ListN.{length}
use Rattle.reference.specs.Control.{when◌then◌else◌, let_some◌else◌then◌}
use Rattle.reference.specs.Lists.{is_empty}
use Rattle.reference.specs.Text.{Text, bytes}
use Rattle.reference.specs.Listing.{Token, is, Punct}
use Rattle.reference.specs.Evaluators.{modulo, Store, wide, number_of, of_integer, Lexeme, sign, reg, num, junk, lexemes_of, lexemes, behind, Operator, adds, takes, operator, combine, expression}
use Rattle.reference.specs.Evaluators.{term, further, evaluate}
use Rattle.reference.specs.Straight.{assigned_value, returned_value}
use Rattle.reference.proofs.Cases.{by-if, by-some, same_number, some_inj, none-some, if_some, bind-some}
use Rattle.laws.proofs.Scans.{if-true, if-false}
use Rattle.straight.proofs.Reader.{Pending, first, apply, State, fresh, spaced, equals, wants, holds, gap, signed, done, broken, byte, text_step, token-step, run-tokens, value_of}
use Rattle.straight.proofs.Reader.{adds as waits-to-add, takes as waits-to-take, term as take-term}
use Rattle.straight.proofs.Machine.{broken-done}
use Rattle.straight.proofs.Enough.{behind-length}

-- a value, and what is left behind it
abbrev Read : Type 0
Read = ℕ × List Lexeme

-- what waits behind an operator
abbrev waits : Operator → ℕ → Pending
waits adds v = waits-to-add v
waits takes v = waits-to-take v

-- what it does
waited : (o : Operator) (v w : ℕ) → apply (waits o v) w ≡ combine modulo o v w
unfolding apply combine
waited adds v w = refl
waited takes v w = refl

module _ (σ : Store) where
  -- ---- the reader, on lexemes

  unfoldable pub run-lexemes : List Lexeme → State → State
  run-lexemes [] s = s
  run-lexemes (sign c ∷ xs) s = run-lexemes xs (byte c s)
  run-lexemes (reg y ∷ xs) s = run-lexemes xs (take-term (σ y) s)
  run-lexemes (num y ∷ xs) s = run-lexemes xs (take-term (of_integer y) s)
  run-lexemes (junk ∷ xs) s = run-lexemes xs broken

  signs_run : (cs : Text) (xs : List Lexeme) (s : State) → run-lexemes (map sign cs ++ xs) s ≡ run-lexemes xs (text_step cs s)
  unfolding run-lexemes text_step
  signs_run [] xs s = refl
  signs_run (c ∷ cs) xs s = signs_run cs xs (byte c s)

  token-run : (t : Token) (xs : List Lexeme) (s : State) → run-lexemes (lexemes_of t ++ xs) s ≡ run-lexemes xs (token-step σ t s)
  unfolding lexemes_of token-step run-lexemes let_some◌else◌then◌ when◌then◌else◌
  token-run t xs s = go (is Punct t) (wide t) (number_of t)
    where
      go : (b : Bool) (w : Option Text) (n : Option ℤ)
          → run-lexemes ((when b then map sign t.text else let_some w else (let_some n else (junk ∷ []) then λ z. num z ∷ []) then λ x. reg x ∷ []) ++ xs) s
          ≡ run-lexemes xs (when b then text_step t.text s else let_some w else (let_some n else broken then λ z. take-term (of_integer z) s) then λ x. take-term (σ x) s)
      go true w n = signs_run t.text xs s
      go false none none = refl
      go false none (some z) = refl
      go false (some x) n = refl

  lexemes-run : (ts : List Token) (s : State) → run-lexemes (lexemes ts) s ≡ run-tokens σ ts s
  unfolding lexemes run-lexemes run-tokens
  lexemes-run [] s = refl
  lexemes-run (t ∷ ts) s = token-run t (lexemes ts) s ∙ lexemes-run ts (token-step σ t s)

  lexemes-broken : (xs : List Lexeme) → run-lexemes xs broken ≡ broken
  unfolding run-lexemes byte take-term
  lexemes-broken [] = refl
  lexemes-broken (sign c ∷ xs) = lexemes-broken xs
  lexemes-broken (reg y ∷ xs) = lexemes-broken xs
  lexemes-broken (num y ∷ xs) = lexemes-broken xs
  lexemes-broken (junk ∷ xs) = lexemes-broken xs

  never : (xs : List Lexeme) (u : ℕ) → run-lexemes xs broken ≡ done u → ⊥
  never xs u h = broken-done (sym (lexemes-broken xs) ∙ h)

  -- ---- a text behind which something is left

  behind-run : (t : Text) (xs rest : List Lexeme) (s : State) → behind t xs ≡ some rest → run-lexemes xs s ≡ run-lexemes rest (text_step t s)
  unfolding behind run-lexemes text_step
  behind-run [] xs rest s e = ap (λ (r : List Lexeme). run-lexemes r s) (some_inj e)
  behind-run (c ∷ cs) [] rest s e = absurd (none-some e)
  behind-run (c ∷ cs) (sign b ∷ xs) rest s e =
      let h = if_some e in
      behind-run cs xs rest (byte b s) h.1 ∙ ap (λ (n : ℕ). run-lexemes rest (text_step cs (byte n s))) (same_number h.0)
  behind-run (c ∷ cs) (reg y ∷ xs) rest s e = absurd (none-some e)
  behind-run (c ∷ cs) (num y ∷ xs) rest s e = absurd (none-some e)
  behind-run (c ∷ cs) (junk ∷ xs) rest s e = absurd (none-some e)

  -- ---- the operators

  plus_text : (u : ℕ) (k : List Pending) → text_step (bytes " + ") (holds u k) ≡ wants (waits-to-add u) k
  unfolding text_step byte when◌then◌else◌
  plus_text u [] = refl
  plus_text u (p ∷ k) = refl

  minus_text : (u : ℕ) (k : List Pending) → text_step (bytes " - ") (holds u k) ≡ wants (waits-to-take u) k
  unfolding text_step byte when◌then◌else◌
  minus_text u [] = refl
  minus_text u (p ∷ k) = refl

  space_text : (c : ℕ) (v : ℕ) (k : List Pending) → eqb c 32 ≡ true → byte c (holds v k) ≡ gap v k
  unfolding byte when◌then◌else◌
  space_text c v k e = ap (λ (n : ℕ). byte n (holds v k)) (same_number e) ∙ go k
    where
      go : (k : List Pending) → byte 32 (holds v k) ≡ gap v k
      go [] = refl
      go (p ∷ k) = refl

  record Operates (xs : List Lexeme) (o : Operator × List Lexeme) : Type 0 where
    same : (v : ℕ) (k : List Pending) → run-lexemes xs (holds v k) ≡ run-lexemes o.1 (wants (waits o.0 v) k)
    less : length o.1 < length xs

  operates : (xs : List Lexeme) (o : Operator × List Lexeme) → operator xs ≡ some o → Operates xs o
  unfolding operator
  operates xs o =
      by-some (λ (r : Option (Operator × List Lexeme)). r ≡ some o → Operates xs o)
      (λ n. by-some (λ (r : Option (Operator × List Lexeme)). r ≡ some o → Operates xs o)
      (λ m e. absurd (none-some e))
      (λ rest b e. subst (Operates xs) (some_inj e)
      (record { same = λ v k. behind-run (bytes " - ") xs rest (holds v k) b ∙ ap (run-lexemes rest) (minus_text v k); less = omega (arith, behind-length (bytes " - ") xs rest b) })))
      (λ rest b e. subst (Operates xs) (some_inj e)
      (record { same = λ v k. behind-run (bytes " + ") xs rest (holds v k) b ∙ ap (run-lexemes rest) (plus_text v k); less = omega (arith, behind-length (bytes " + ") xs rest b) }))

  plus-found : (c d e : ℕ) (xs : List Lexeme) → eqb c 32 ≡ true → eqb d 43 ≡ true → eqb e 32 ≡ true → operator (sign c ∷ sign d ∷ sign e ∷ xs) ≡ some (adds, xs)
  unfolding operator behind let_some◌else◌then◌ when◌then◌else◌
  plus-found c d e xs p q r = rw (p, q, r)

  minus-found : (c d e : ℕ) (xs : List Lexeme) → eqb c 32 ≡ true → eqb d 43 ≡ false → eqb d 45 ≡ true → eqb e 32 ≡ true
      → operator (sign c ∷ sign d ∷ sign e ∷ xs) ≡ some (takes, xs)
  unfolding operator behind let_some◌else◌then◌ when◌then◌else◌
  minus-found c d e xs p q q' r = rw (p, q, q', r)

  -- behind ` +` or ` -` a space, if it is read to the end
  spaced-on : (p : Pending) (k : List Pending) (xs : List Lexeme) (u : ℕ) → run-lexemes xs (signed p k) ≡ done u → (e : ℕ) × (rest : List Lexeme) × (xs ≡ sign e ∷ rest) × (eqb e 32 ≡ true)
  unfolding run-lexemes byte take-term
  spaced-on p k [] u h = absurd (let z : ◌≡◌ {A = ℕ} 0 1 = cc in omega arith)
  spaced-on p k (reg y ∷ xs) u h = absurd (never xs u h)
  spaced-on p k (num y ∷ xs) u h = absurd (never xs u h)
  spaced-on p k (junk ∷ xs) u h = absurd (never xs u h)
  spaced-on p k (sign e ∷ xs) u h =
      by-if (λ (s : State). run-lexemes xs s ≡ done u → (e' : ℕ) × (rest : List Lexeme) × (sign e ∷ xs ≡ sign e' ∷ rest) × (eqb e' 32 ≡ true))
      (λ q g. (e, xs, refl, q)) (λ q g. absurd (never xs u g)) h

  -- where no operator stands, no space does
  no_space : (c : ℕ) (xs : List Lexeme) (v : ℕ) (k : List Pending) (u : ℕ) → operator (sign c ∷ xs) ≡ none → eqb c 32 ≡ true → run-lexemes xs (gap v k) ≡ done u → ⊥
  unfolding run-lexemes byte take-term
  no_space c [] v k u o e h = let z : ◌≡◌ {A = ℕ} 0 1 = cc in omega arith
  no_space c (reg y ∷ xs) v k u o e h = never xs u h
  no_space c (num y ∷ xs) v k u o e h = never xs u h
  no_space c (junk ∷ xs) v k u o e h = never xs u h
  no_space c (sign d ∷ xs) v k u o e h =
      by-if (λ (s : State). run-lexemes xs s ≡ done u → ⊥)
      (λ q g.
      (let r = spaced-on (waits-to-add v) k xs u g in
      none-some (sym o ∙ ap (λ (ys : List Lexeme). operator (sign c ∷ sign d ∷ ys)) r.2 ∙ plus-found c d r.0 r.1 e q r.3)))
      (λ q. by-if (λ (s : State). run-lexemes xs s ≡ done u → ⊥)
      (λ q' g.
      (let r = spaced-on (waits-to-take v) k xs u g in
      none-some (sym o ∙ ap (λ (ys : List Lexeme). operator (sign c ∷ sign d ∷ ys)) r.2 ∙ minus-found c d r.0 r.1 e q q' r.3)))
      (λ q' g. never xs u g))
      h

  neither_byte : (c v : ℕ) (p : Pending) (k : List Pending) → eqb c 41 ≡ false → eqb c 32 ≡ false → byte c (holds v (p ∷ k)) ≡ broken
  unfolding byte
  neither_byte c v p k e f = if-false _ _ e ∙ if-false _ _ f

  neither_end : (c v : ℕ) → eqb c 59 ≡ false → eqb c 32 ≡ false → byte c (holds v []) ≡ broken
  unfolding byte
  neither_end c v e f = if-false _ _ e ∙ if-false _ _ f

  -- behind a whole expression inside brackets stands `)`, and outside of them `;` and nothing
  closed : (xs : List Lexeme) (v : ℕ) (p : Pending) (k : List Pending) (u : ℕ) → operator xs ≡ none → run-lexemes xs (holds v (p ∷ k)) ≡ done u
      → (rest : List Lexeme) × (behind (bytes ")") xs ≡ some rest)
  unfolding run-lexemes take-term behind
  closed [] v p k u o h = absurd (let z : ◌≡◌ {A = ℕ} 0 1 = cc in omega arith)
  closed (reg y ∷ xs) v p k u o h = absurd (never xs u h)
  closed (num y ∷ xs) v p k u o h = absurd (never xs u h)
  closed (junk ∷ xs) v p k u o h = absurd (never xs u h)
  closed (sign c ∷ xs) v p k u o h = go (eqb c 41) refl (eqb c 32) refl
    where
      go : (a : Bool) → eqb c 41 ≡ a → (b : Bool) → eqb c 32 ≡ b → (rest : List Lexeme) × ((when eqb c 41 then some xs else none) ≡ some rest)
      go true e b f = (xs, if-true _ _ e)
      go false e true f = absurd (no_space c xs v (p ∷ k) u o f (sym (ap (run-lexemes xs) (space_text c v (p ∷ k) f)) ∙ h))
      go false e false f = absurd (never xs u (sym (ap (run-lexemes xs) (neither_byte c v p k e f)) ∙ h))

  ended : (v : ℕ) (xs : List Lexeme) (u : ℕ) → run-lexemes xs (done v) ≡ done u → (xs ≡ []) × (v ≡ u)
  unfolding run-lexemes byte take-term
  ended v [] u h = (refl, cc)
  ended v (sign c ∷ xs) u h = absurd (never xs u h)
  ended v (reg y ∷ xs) u h = absurd (never xs u h)
  ended v (num y ∷ xs) u h = absurd (never xs u h)
  ended v (junk ∷ xs) u h = absurd (never xs u h)

  finished : (xs : List Lexeme) (v u : ℕ) → operator xs ≡ none → run-lexemes xs (holds v []) ≡ done u → (behind (bytes ";") xs ≡ some []) × (v ≡ u)
  unfolding run-lexemes take-term behind
  finished [] v u o h = absurd (let z : ◌≡◌ {A = ℕ} 0 1 = cc in omega arith)
  finished (reg y ∷ xs) v u o h = absurd (never xs u h)
  finished (num y ∷ xs) v u o h = absurd (never xs u h)
  finished (junk ∷ xs) v u o h = absurd (never xs u h)
  finished (sign c ∷ xs) v u o h = go (eqb c 59) refl (eqb c 32) refl
    where
      semicolon : eqb c 59 ≡ true → byte c (holds v []) ≡ done v
      semicolon e = unfold byte in if-true _ _ e

      go : (a : Bool) → eqb c 59 ≡ a → (b : Bool) → eqb c 32 ≡ b → ((when eqb c 59 then some xs else none) ≡ some []) × (v ≡ u)
      go true e b f =
          let r = ended v xs u (sym (ap (run-lexemes xs) (semicolon e)) ∙ h) in
          (if-true _ _ e ∙ ap {B = Option (List Lexeme)} some r.0, r.1)
      go false e true f = absurd (no_space c xs v [] u o f (sym (ap (run-lexemes xs) (space_text c v [] f)) ∙ h))
      go false e false f = absurd (never xs u (sym (ap (run-lexemes xs) (neither_end c v e f)) ∙ h))

  -- ---- the evaluators

  -- what an answer says of the reader; none says that it does not come to an end
  abbrev TermOk : List Lexeme → Pending → List Pending → Option Read → Type 0
  TermOk xs p k none = (u : ℕ) → run-lexemes xs (wants p k) ≡ done u → ⊥
  TermOk xs p k (some r) = (run-lexemes xs (wants p k) ≡ run-lexemes r.1 (holds (apply p r.0) k)) × (length r.1 < length xs)

  abbrev SumsOk : ℕ → List Lexeme → List Pending → Option Read → Type 0
  SumsOk v xs k none = (u : ℕ) → run-lexemes xs (holds v k) ≡ done u → ⊥
  SumsOk v xs k (some r) = (run-lexemes xs (holds v k) ≡ run-lexemes r.1 (holds r.0 k)) × (operator r.1 ≡ none) × (length r.1 ≤ length xs)

  abbrev ExpressionOk : List Lexeme → List Pending → Option Read → Type 0
  ExpressionOk xs k none = (u : ℕ) → run-lexemes xs (wants first k) ≡ done u → ⊥
  ExpressionOk xs k (some r) = (run-lexemes xs (wants first k) ≡ run-lexemes r.1 (holds r.0 k)) × (operator r.1 ≡ none) × (length r.1 < length xs)

  open_text : (c : ℕ) (p : Pending) (k : List Pending) → eqb c 40 ≡ true → byte c (wants p k) ≡ wants first (p ∷ k)
  unfolding byte
  open_text c p k e = if-true _ _ e

  no_open : (c : ℕ) (p : Pending) (k : List Pending) → eqb c 40 ≡ false → byte c (wants p k) ≡ broken
  unfolding byte
  no_open c p k e = if-false _ _ e

  close_text : (v : ℕ) (p : Pending) (k : List Pending) → text_step (bytes ")") (holds v (p ∷ k)) ≡ holds (apply p v) k
  unfolding text_step byte when◌then◌else◌
  close_text v p k = refl

  -- an expression in brackets
  bracketed : (c : ℕ) (xs : List Lexeme) (p : Pending) (k : List Pending) (o : Option Read) → eqb c 40 ≡ true → ExpressionOk xs (p ∷ k) o
      → TermOk (sign c ∷ xs) p k (let_some o else none then λ r. let_some (behind (bytes ")") r.1) else none then λ rest. some (r.0, rest))
  unfolding run-lexemes let_some◌else◌then◌
  bracketed c xs p k none e h = λ u g. h u (sym (ap (run-lexemes xs) (open_text c p k e)) ∙ g)
  bracketed c xs p k (some r) e h = go (behind (bytes ")") r.1) refl
    where
      go : (b : Option (List Lexeme)) → behind (bytes ")") r.1 ≡ b → TermOk (sign c ∷ xs) p k (let_some b else none then λ rest. some (r.0, rest))
      go none n = λ u g.
          (let q = closed r.1 r.0 p k u h.1 (sym h.0 ∙ sym (ap (run-lexemes xs) (open_text c p k e)) ∙ g) in
          none-some (sym n ∙ q.1))
      go (some rest) b = (
        ap (run-lexemes xs) (open_text c p k e) ∙ h.0 ∙ behind-run (bytes ")") r.1 rest (holds r.0 (p ∷ k)) b ∙ ap (run-lexemes rest) (close_text r.0 p k),
        omega (arith, behind-length (bytes ")") r.1 rest b, h.2),
      )

  sums-from : (xs : List Lexeme) (v : ℕ) (ys : List Lexeme) (w : ℕ) (k : List Pending) (o : Option Read) → run-lexemes xs (holds v k) ≡ run-lexemes ys (holds w k)
      → length ys ≤ length xs → SumsOk w ys k o → SumsOk v xs k o
  sums-from xs v ys w k none e l h = λ u g. h u (sym e ∙ g)
  sums-from xs v ys w k (some r) e l h = (e ∙ h.0, h.1, omega (arith, h.2))

  -- a term, and further ones
  further_ok : (xs : List Lexeme) (v : ℕ) (f : Operator) (ys : List Lexeme) (k : List Pending) (fuel : ℕ) (o : Option Read) → Operates xs (f, ys) → TermOk ys (waits f v) k o
      → ((r : Read) → length r.1 < length ys → SumsOk (combine modulo f v r.0) r.1 k (further modulo σ fuel (combine modulo f v r.0) r.1))
      → SumsOk v xs k (let_some o else none then λ r. further modulo σ fuel (combine modulo f v r.0) r.1)
  unfolding let_some◌else◌then◌
  further_ok xs v f ys k fuel none g h more = λ u e. h u (sym (g.same v k) ∙ e)
  further_ok xs v f ys k fuel (some r) g h more =
      sums-from xs v r.1 (combine modulo f v r.0) k (further modulo σ fuel (combine modulo f v r.0) r.1) (g.same v k ∙ h.0 ∙ ap (λ (n : ℕ). run-lexemes r.1 (holds n k)) (waited f v r.0))
      (omega (arith, g.less, h.1)) (more r h.1)

  expression-from : (xs : List Lexeme) (k : List Pending) (fuel : ℕ) (o : Option Read) → TermOk xs first k o
      → ((r : Read) → length r.1 < length xs → SumsOk r.0 r.1 k (further modulo σ fuel r.0 r.1))
      → ExpressionOk xs k (let_some o else none then λ r. further modulo σ fuel r.0 r.1)
  unfolding let_some◌else◌then◌ apply
  expression-from xs k fuel none h more = h
  expression-from xs k fuel (some r) h more = go (further modulo σ fuel r.0 r.1) (more r h.1)
    where
      go : (o : Option Read) → SumsOk r.0 r.1 k o → ExpressionOk xs k o
      go none q = λ u e. q u (sym h.0 ∙ e)
      go (some t) q = (h.0 ∙ q.0, q.1, omega (arith, q.2, h.1))

  mutual
    unfolding expression run-lexemes take-term

    pub expression_ok : (fuel : ℕ) (xs : List Lexeme) (k : List Pending) → length xs + length xs + 2 ≤ fuel → ExpressionOk xs k (expression modulo σ fuel xs)
    expression_ok zero xs k le = absurd (omega arith)
    expression_ok (suc fuel) xs k le =
        expression-from xs k fuel (term modulo σ fuel xs) (term_ok fuel xs first k (omega arith)) (λ r l. sums_ok fuel r.0 r.1 k (omega arith))

    term_ok : (fuel : ℕ) (xs : List Lexeme) (p : Pending) (k : List Pending) → length xs + length xs + 1 ≤ fuel → TermOk xs p k (term modulo σ fuel xs)
    term_ok zero xs p k le = absurd (omega arith)
    term_ok (suc fuel) [] p k le = λ u h. (let z : ◌≡◌ {A = ℕ} 0 1 = cc in omega arith)
    term_ok (suc fuel) (reg y ∷ xs) p k le = (refl, omega arith)
    term_ok (suc fuel) (num y ∷ xs) p k le = (refl, omega arith)
    term_ok (suc fuel) (junk ∷ xs) p k le = λ u h. never xs u h
    term_ok (suc fuel) (sign c ∷ xs) p k le =
        by-if (TermOk (sign c ∷ xs) p k)
        (λ e. bracketed c xs p k (expression modulo σ fuel xs) e (expression_ok fuel xs (p ∷ k) (omega arith)))
        (λ e u h. never xs u (sym (ap (run-lexemes xs) (no_open c p k e)) ∙ h))

    sums_ok : (fuel : ℕ) (v : ℕ) (xs : List Lexeme) (k : List Pending) → length xs + length xs + 1 ≤ fuel → SumsOk v xs k (further modulo σ fuel v xs)
    sums_ok zero v xs k le = absurd (omega arith)
    sums_ok (suc fuel) v xs k le =
        by-some (SumsOk v xs k)
        (λ n. (refl, n, omega arith))
        (λ o e.
        (let g = operates xs o e in
        let l = g.less in
        further_ok xs v o.0 o.1 k fuel (term modulo σ fuel o.1) g (term_ok fuel o.1 (waits o.0 v) k (omega arith))
        (λ r m. sums_ok fuel (combine modulo o.0 v r.0) r.1 k (omega arith))))

  -- ---- a line

  equals_text : text_step (bytes " = ") fresh ≡ wants first []
  unfolding text_step byte when◌then◌else◌
  equals_text = refl

  space_first : text_step (bytes " ") equals ≡ wants first []
  unfolding text_step byte when◌then◌else◌
  space_first = refl

  -- a state that one byte alone leads on from
  must : (s s' : State) (c : ℕ) → ((b : ℕ) → byte b s ≡ (when eqb b c then s' else broken)) → ((v : ℕ) → take-term v s ≡ broken) → ((u : ℕ) → s ≡ done u → ⊥)
      → (xs : List Lexeme) (u : ℕ) → run-lexemes xs s ≡ done u
      → (b : ℕ) × (ys : List Lexeme) × (xs ≡ sign b ∷ ys) × (eqb b c ≡ true) × (run-lexemes ys s' ≡ done u)
  unfolding run-lexemes
  must s s' c f g n [] u h = absurd (n u h)
  must s s' c f g n (reg y ∷ xs) u h = absurd (never xs u (sym (ap (run-lexemes xs) (g (σ y))) ∙ h))
  must s s' c f g n (num y ∷ xs) u h = absurd (never xs u (sym (ap (run-lexemes xs) (g (of_integer y))) ∙ h))
  must s s' c f g n (junk ∷ xs) u h = absurd (never xs u h)
  must s s' c f g n (sign b ∷ xs) u h = go (eqb b c) refl
    where
      go : (a : Bool) → eqb b c ≡ a → (b' : ℕ) × (ys : List Lexeme) × (sign b ∷ xs ≡ sign b' ∷ ys) × (eqb b' c ≡ true) × (run-lexemes ys s' ≡ done u)
      go true e = (b, xs, refl, e, sym (ap (run-lexemes xs) (f b ∙ if-true _ _ e)) ∙ h)
      go false e = absurd (never xs u (sym (ap (run-lexemes xs) (f b ∙ if-false _ _ e)) ∙ h))

  from-equals : (xs : List Lexeme) (u : ℕ) → run-lexemes xs equals ≡ done u → (ys : List Lexeme) × (behind (bytes " ") xs ≡ some ys)
  unfolding byte take-term behind when◌then◌else◌
  from-equals xs u h =
      let a = must equals (wants first []) 32 (λ b. refl) (λ v. refl) (λ w e. (let z : ◌≡◌ {A = ℕ} 0 1 = cc in omega arith)) xs u h in
      (a.1, ap (behind (bytes " ")) a.2 ∙ rw a.3)

  from-fresh : (xs : List Lexeme) (u : ℕ) → run-lexemes xs fresh ≡ done u → (ys : List Lexeme) × (behind (bytes " = ") xs ≡ some ys)
  unfolding byte take-term behind when◌then◌else◌
  from-fresh xs u h =
      let a = must fresh spaced 32 (λ b. refl) (λ v. refl) (λ w e. (let z : ◌≡◌ {A = ℕ} 0 1 = cc in omega arith)) xs u h in
      let b = must spaced equals 61 (λ b. refl) (λ v. refl) (λ w e. (let z : ◌≡◌ {A = ℕ} 0 1 = cc in omega arith)) a.1 u a.4 in
      let c = must equals (wants first []) 32 (λ b. refl) (λ v. refl) (λ w e. (let z : ◌≡◌ {A = ℕ} 0 1 = cc in omega arith)) b.1 u b.4 in (
        c.1,
        ap (behind (bytes " = ")) (a.2 ∙ ap {B = List Lexeme} (λ r. sign a.0 ∷ r) (b.2 ∙ ap {B = List Lexeme} (λ r. sign b.0 ∷ r) c.2)) ∙ rw (a.3, b.3, c.3),
      )

  value_is : (s : State) (v : ℕ) → value_of s ≡ some v → s ≡ done v
  unfolding value_of
  value_is fresh v e = absurd (none-some e)
  value_is spaced v e = absurd (none-some e)
  value_is equals v e = absurd (none-some e)
  value_is (wants p k) v e = absurd (none-some e)
  value_is (holds u k) v e = absurd (none-some e)
  value_is (gap u k) v e = absurd (none-some e)
  value_is (signed p k) v e = absurd (none-some e)
  value_is (done u) v e = ap (λ (n : ℕ). done n) (some_inj e)
  value_is broken v e = absurd (none-some e)

  same_options : (o q : Option ℕ) → ((v : ℕ) → o ≡ some v → q ≡ some v) → ((v : ℕ) → q ≡ some v → o ≡ some v) → o ≡ q
  same_options none none f g = refl
  same_options none (some w) f g = g w refl
  same_options (some v) q f g = sym (f v refl)

  empty_is : (xs : List Lexeme) → is_empty xs ≡ true → xs ≡ []
  empty_is [] e = refl
  empty_is (x ∷ xs) e = absurd (false≢true e)

  module _ (before : Text) (s : State) (begins : text_step before s ≡ wants first [])
      (must-begin : (xs : List Lexeme) (u : ℕ) → run-lexemes xs s ≡ done u → (ys : List Lexeme) × (behind before xs ≡ some ys)) where
    evaluated : (xs : List Lexeme) (v : ℕ) → evaluate modulo σ before xs ≡ some v → run-lexemes xs s ≡ done v
    unfolding evaluate
    evaluated xs v e =
        let ys = bind-some e in
        let r = bind-some ys.2 in
        let rest = bind-some r.2 in
        let end = if_some rest.2 in
        let ok : ExpressionOk ys.0 [] (some r.0) = subst (ExpressionOk ys.0 []) r.1 (expression_ok _ ys.0 [] (omega arith)) in
        behind-run before xs ys.0 s ys.1 ∙ ap (run-lexemes ys.0) begins ∙ ok.0
        ∙ behind-run (bytes ";") r.0.1 rest.0 (holds r.0.0 []) rest.1
        ∙ ap (λ (l : List Lexeme). run-lexemes l (text_step (bytes ";") (holds r.0.0 []))) (empty_is rest.0 end.0)
        ∙ at_end r.0.0 ∙ ap (λ (n : ℕ). done n) (some_inj end.1)
      where
        at_end : (w : ℕ) → run-lexemes [] (text_step (bytes ";") (holds w [])) ≡ done w
        at_end w = unfold run-lexemes text_step byte when◌then◌else◌ in refl

    reads_all : (xs : List Lexeme) (v : ℕ) → run-lexemes xs s ≡ done v → evaluate modulo σ before xs ≡ some v
    unfolding evaluate let_some◌else◌then◌ when◌then◌else◌
    reads_all xs v h =
        let ys = must-begin xs v h in
        let inner : run-lexemes ys.0 (wants first []) ≡ done v = sym (behind-run before xs ys.0 s ys.1 ∙ ap (run-lexemes ys.0) begins) ∙ h in
        let fuel = length ys.0 + length ys.0 + 2 in
        rw ys.1 (go ys.0 inner (expression modulo σ fuel ys.0) (expression_ok fuel ys.0 [] (omega arith)))
      where
        go : (ys : List Lexeme) → run-lexemes ys (wants first []) ≡ done v → (o : Option Read) → ExpressionOk ys [] o
            → (let_some o else none then λ r. let_some (behind (bytes ";") r.1) else none then λ rest. when is_empty rest then some r.0 else none) ≡ some v
        go ys e none ok = absurd (ok v e)
        go ys e (some r) ok =
            let f = finished r.1 r.0 v ok.1 (sym ok.0 ∙ e) in
            rw f.0 (ap {B = Option ℕ} some f.1)

    evaluates : (ts : List Token) → evaluate modulo σ before (lexemes ts) ≡ value_of (run-tokens σ ts s)
    evaluates ts =
        same_options (evaluate modulo σ before (lexemes ts)) (value_of (run-tokens σ ts s))
        (λ v e. unfold value_of in ap value_of (sym (lexemes-run ts s) ∙ evaluated (lexemes ts) v e))
        (λ v e. reads_all (lexemes ts) v (lexemes-run ts s ∙ value_is (run-tokens σ ts s) v e))

-- THE VALUE THAT A LINE ASSIGNS, AND THE ONE THAT IT RETURNS, by the reader
pub assigned_evaluates : (σ : Store) (ts : List Token) → assigned_value modulo σ ts ≡ value_of (run-tokens σ ts fresh)
unfolding assigned_value
assigned_evaluates σ = evaluates σ (bytes " = ") fresh (equals_text σ) (from-fresh σ)

pub returned_evaluates : (σ : Store) (ts : List Token) → returned_value modulo σ ts ≡ value_of (run-tokens σ ts equals)
unfolding returned_value
returned_evaluates σ = evaluates σ (bytes " ") equals (space_first σ) (from-equals σ)
