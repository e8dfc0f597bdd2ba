-- The answers of `term` and `expression`, case by case. Assumes nothing.
use Rattle.std.proofs.Common.{◌≡◌, ℕ, ◌+◌, ◌<◌, ◌≤◌, Bool, true, false, eqb, List, ◌∷◌, ◌++◌, length, get_or, ℤ, sym, refl, ap, ◌∙◌, arith}
use mathlib.Core.Bool.{false≢true}
use Rattle.std.specs.Prelude as std
use mathlib.Core.Option.{Option, none, some}
use lib.ListN.{length-map}
use Rattle.reference.specs.Control.{◌or◌, when◌then◌else◌, let_some◌else◌then◌}
use Rattle.reference.specs.Lists.{any}
use Rattle.reference.specs.Text.{Text, bytes}
use Rattle.reference.specs.Listing.{Token, Punct}
use Rattle.reference.specs.Evaluators.{Arithmetic, wide, number_of, Lexeme, sign, lexemes_of, behind, operator, Operator, fuel_for, combine}
use Rattle.straight.proofs.Enough.{behind-length, operator-shorter, term-shorter, expression_of, term_of, further_of, expression_is, term_none, term-register, term_number, term-sign, further_is}
use Rattle.lines.specs.Words.{kind_of, token_of, tokens_of, Points}
use Rattle.formula.specs.Places.{left, Placed, InLine, Readable, Leads, operator_of, operated_of, Operates}
use Rattle.formula.specs.Terms.{is_junk, has_junk}
use Rattle.formula.specs.Values.{Pair, pairs, joined, pair_at, no_token, Valued, Consistent, Worth, numbers_of, pair_of, worth_of, Worths, Term, Expression}
use Rattle.formula.specs.declared.places.Place.{Place}
use Rattle.formula.specs.declared.places.Sign.{Sign}
use Rattle.formula.specs.declared.places.Sign.TheVariants.{Plus, Minus}
use Rattle.formula.specs.declared.places.Operation.{Operation}
use Rattle.formula.specs.declared.evaluators.Pair.{Pair as Held}
use Rattle.formula.specs.declared.evaluators.Value.{Value}
use Rattle.formula.proofs.Left.{left_end, left_sign, size_punct, left_other, no_punct, token_at, One, a_register, a_number, a_junk, one_of, placed, whole-token}
use Rattle.formula.proofs.Bytes.{bytes_left, bytes-fall}
use Rattle.formula.proofs.Ahead.{leads_some, leads_none}
use Rattle.formula.proofs.Junk.{no_junk_at}

-- a value, and the place before the token k
abbrev pub before_token : Held → ℕ → Value
before_token p k = record { pair = p; place = record { token = k; byte = 0 } }

-- ---- a term behind a bracket

bracket : {X : Type 0} (o : Option (X × List Lexeme)) → Option (X × List Lexeme)
bracket o = let_some o else none then λ r. let_some (behind (bytes ")") r.1) else none then λ rest. some (r.0, rest)

module _ (number : ℤ → Pair) (σ : Text → Pair) where
  term-opened : (d : ℕ) (ys : List Lexeme)
      → term_of (pairs number) σ (sign d ∷ ys)
      ≡ (let_some (behind (bytes "(") (sign d ∷ ys)) else none then λ zs. bracket (expression_of (pairs number) σ zs))
  unfolding behind
  term-opened d ys = term-sign (pairs number) σ d ys ∙ go (eqb d 40)
    where
      go : (b : Bool)
          → (when b then (let_some (expression_of (pairs number) σ ys) else none then λ r. let_some (behind (bytes ")") r.1) else none then λ rest. some (r.0, rest)) else none)
          ≡ (let_some (when b then some ys else none) else none then λ zs. bracket (expression_of (pairs number) σ zs))
      go true = unfold bracket when◌then◌else◌ let_some◌else◌then◌ in refl
      go false = unfold when◌then◌else◌ let_some◌else◌then◌ in refl

-- ---- an expression on the way: where it began, the sum so far, how the next term joins it, and the place of that term

pub record Joining (tape area : Text) (line : List ℕ) (values : List Held) (k₀ b₀ : ℕ) (how : std.Option Sign) (m c k b : ℕ) : Type 0 where
  pub is : (number : ℤ → Pair) (σ : Text → Pair) → Valued number σ (tokens_of tape area line) values
      → expression_of (pairs number) σ (left (tokens_of tape area line) k₀ b₀)
      ≡ (let_some (term_of (pairs number) σ (left (tokens_of tape area line) k b)) else none then λ r.
      further_of (pairs number) σ (joined how m r.0.0, joined how c r.0.1) r.1)

module _ (tape area : Text) (line : List ℕ) (values : List Held) where
  abbrev ts : List Token
  ts = tokens_of tape area line

  -- ---- answers

  module _ {xs : List Lexeme} {f : Arithmetic Pair → (Text → Pair) → ℕ → List Lexeme → Option (Pair × List Lexeme)} where
    breaks_by : ((number : ℤ → Pair) (σ : Text → Pair) → Valued number σ ts values → f (pairs number) σ (fuel_for xs) xs ≡ none) → Worths tape area line values xs f std.None
    breaks_by h = record { is = λ number σ v. sym (h number σ v); in_line = λ u e. cc }

    worth_by : (v : Value)
        → ((number : ℤ → Pair) (σ : Text → Pair) → Valued number σ ts values → f (pairs number) σ (fuel_for xs) xs ≡ some (pair_of v, left ts v.place.token v.place.byte))
        → InLine line v.place.token v.place.byte → Worths tape area line values xs f (std.Some v)
    worth_by v h p = record { is = λ number σ w. sym (h number σ w); in_line = same }
      where
        same : (u : Value) → std.Some v ≡ std.Some u → InLine line u.place.token u.place.byte
        same u f = let x : v ≡ u = cc in rw (← x) p

    module _ {y : Worth} (q : Worths tape area line values xs f y) where
      pub worth_none : y ≡ std.None → (number : ℤ → Pair) (σ : Text → Pair) → Valued number σ ts values → f (pairs number) σ (fuel_for xs) xs ≡ none
      worth_none e number σ v = sym (q.is number σ v) ∙ ap (worth_of ts) e

      module _ (out : Value) (e : y ≡ std.Some out) where
        pub worth_some : (number : ℤ → Pair) (σ : Text → Pair) → Valued number σ ts values
            → f (pairs number) σ (fuel_for xs) xs ≡ some ((out.pair.multiplier, out.pair.constant), left ts out.place.token out.place.byte)
        worth_some number σ v = sym (q.is number σ v) ∙ ap (worth_of ts) e

        pub worth-in-line : InLine line out.place.token out.place.byte
        worth-in-line = q.in_line out e

  -- ---- a term

  module _ (h : Readable tape area line) (k b : ℕ) (p : Placed line k b) where
    pub term_past : length line ≤ k → Term tape area line values k b std.None
    term_past l = breaks_by (λ number σ v. ap (term_of (pairs number) σ) (left_end tape area line k b l) ∙ term_none (pairs number) σ)

    module _ (l : k < length line) {x : ℕ} (ex : x ≡ kind_of (get_or line k 0)) where
      -- another token than a Punct
      pub term-worth : (x ≡ Punct → ⊥) → has_junk tape area line ≡ false → {u : Held} → numbers_of u ≡ pair_at values k
          → Term tape area line values k b (std.Some (before_token u (k + 1)))
      term-worth n free {u} eu =
          worth_by (before_token u (k + 1)) (λ number σ v. ap (term_of (pairs number) σ) whole ∙ go number σ v one) (whole-token tape area line h (k + 1) (omega arith))
        where
          other : kind_of (get_or line k 0) ≡ Punct → ⊥
          other e = n (ex ∙ e)

          whole : left ts k b ≡ lexemes_of (token_of tape area (get_or line k 0)) ++ left ts (k + 1) 0
          whole = left_other tape area line k l other b (p l)

          one : One (token_of tape area (get_or line k 0))
          one = one_of (token_of tape area (get_or line k 0)) (no_punct tape area line k l other)

          long : k < length ts
          long = omega (arith, length-map line (token_of tape area))

          pair : pair_at values k ≡ numbers_of u
          pair = sym eu

          go : (number : ℤ → Pair) (σ : Text → Pair) → Valued number σ ts values → One (token_of tape area (get_or line k 0))
              → term_of (pairs number) σ (lexemes_of (token_of tape area (get_or line k 0)) ++ left ts (k + 1) 0) ≡ some (numbers_of u, left ts (k + 1) 0)
          go number σ v (a_register z w e) =
              ap (λ (r : List Lexeme). term_of (pairs number) σ (r ++ left ts (k + 1) 0)) e ∙ term-register (pairs number) σ z (left ts (k + 1) 0)
              ∙ ap (λ (q : Pair). some (q, left ts (k + 1) 0)) (sym (v.register k z long (ap wide (token_at tape area line k l no_token) ∙ w)) ∙ pair)
          go number σ v (a_number z w n e) =
              ap (λ (r : List Lexeme). term_of (pairs number) σ (r ++ left ts (k + 1) 0)) e ∙ term_number (pairs number) σ z (left ts (k + 1) 0)
              ∙ ap (λ (q : Pair). some (q, left ts (k + 1) 0)) (sym (v.number_is k z long (ap number_of (token_at tape area line k l no_token) ∙ n)) ∙ pair)
          go number σ v (a_junk w n e) = absurd (false≢true (sym (no_junk_at tape area line free k l) ∙ junked))
            where
              junked : any is_junk (lexemes_of (token_of tape area (get_or line k 0))) ≡ true
              junked = unfold is_junk ◌or◌ in rw e refl

      -- a Punct: a bracket, or nothing
      module _ (ep : x ≡ Punct) {r : std.Option Place} (q : Leads tape area line (behind (bytes "(") (left ts k b)) r) where
        points : Points tape area (get_or line k 0)
        points = h.holds.at k l

        kind : kind_of (get_or line k 0) ≡ Punct
        kind = sym ex ∙ ep

        opened : (number : ℤ → Pair) (σ : Text → Pair)
            → term_of (pairs number) σ (left ts k b) ≡ (let_some (behind (bytes "(") (left ts k b)) else none then λ zs. bracket (expression_of (pairs number) σ zs))
        opened number σ =
            let s = left_sign tape area line k l points kind b (omega (arith, p l, size_punct tape area line k l points kind)) in
            ap (term_of (pairs number) σ) s ∙ term-opened number σ _ _
            ∙ ap (λ (xs : List Lexeme). let_some (behind (bytes "(") xs) else none then λ zs. bracket (expression_of (pairs number) σ zs)) (sym s)

        pub term_unopened : r ≡ std.None → Term tape area line values k b std.None
        unfolding let_some◌else◌then◌
        term_unopened e = breaks_by (λ number σ v. opened number σ ∙ rw (leads_none q e) refl)

        inner : (i : Place) → r ≡ std.Some i → (number : ℤ → Pair) (σ : Text → Pair)
            → term_of (pairs number) σ (left ts k b) ≡ bracket (expression_of (pairs number) σ (left ts i.token i.byte))
        unfolding let_some◌else◌then◌
        inner i e number σ = opened number σ ∙ rw (leads_some i q e) refl

        module _ (i : Place) (e : r ≡ std.Some i) {y : Worth} (w : Expression tape area line values i.token i.byte y) where
          pub term-broken : y ≡ std.None → Term tape area line values k b std.None
          unfolding let_some◌else◌then◌ bracket
          term-broken f = breaks_by (λ number σ v. inner i e number σ ∙ rw (worth_none w f number σ v) refl)

          module _ (out : Value) (f : y ≡ std.Some out) {u : std.Option Place} (z : Leads tape area line (behind (bytes ")") (left ts out.place.token out.place.byte)) u) where
            pub term_unclosed : u ≡ std.None → Term tape area line values k b std.None
            unfolding let_some◌else◌then◌ bracket
            term_unclosed g = breaks_by (λ number σ v. inner i e number σ ∙ rw (worth_some w out f number σ v, leads_none z g) refl)

            pub term_closed : (i' : Place) → u ≡ std.Some i' → Term tape area line values k b (std.Some (record out { place = i' }))
            unfolding let_some◌else◌then◌ bracket
            term_closed i' g =
                worth_by (record out { place = i' })
                (λ number σ v. inner i e number σ ∙ rw (worth_some w out f number σ v, leads_some i' z g) refl) (z.in_line i' g)

  -- ---- an expression

  pub joining_begins : (m c k b : ℕ) → Joining tape area line values k b std.None m c k b
  joining_begins m c k b = record { is = λ number σ v. expression_is (pairs number) σ (left ts k b) }

  module _ (k₀ b₀ : ℕ) {how : std.Option Sign} (m c k b : ℕ) (inv : Joining tape area line values k₀ b₀ how m c k b) {y : Worth} (w : Term tape area line values k b y) where
    pub expression-broken : y ≡ std.None → Expression tape area line values k₀ b₀ std.None
    unfolding let_some◌else◌then◌
    expression-broken e = breaks_by (λ number σ v. inv.is number σ v ∙ rw (worth_none w e number σ v) refl)

    -- behind the term
    module _ (out : Value) (e : y ≡ std.Some out) {m' c' : ℕ} (em : m' ≡ joined how m out.pair.multiplier) (ec : c' ≡ joined how c out.pair.constant) {o : std.Option Operation}
        (q : Operates tape area line (operator (left ts out.place.token out.place.byte)) o) where
      summed : (number : ℤ → Pair) (σ : Text → Pair) → Valued number σ ts values
          → expression_of (pairs number) σ (left ts k₀ b₀)
          ≡ (let_some (operated_of ts o) else some ((m', c'), left ts out.place.token out.place.byte) then λ p.
          let_some (term_of (pairs number) σ p.1) else none then λ r. further_of (pairs number) σ (combine (pairs number) p.0 (m', c') r.0) r.1)
      unfolding let_some◌else◌then◌
      summed number σ v =
          inv.is number σ v ∙ rw (worth_some w out e number σ v, ← em, ← ec) refl
          ∙ further_is (pairs number) σ (m', c') (left ts out.place.token out.place.byte) ∙ rw (← q.is) refl

      pub expression-over : o ≡ std.None
          → Expression tape area line values k₀ b₀ (std.Some (record out { pair = record { multiplier = m'; constant = c' } }))
      unfolding let_some◌else◌then◌
      expression-over f = worth_by (record out { pair = record { multiplier = m'; constant = c' } }) (λ number σ v. summed number σ v ∙ rw f refl) (worth-in-line w out e)

      pub joining_goes : (i : Operation) → o ≡ std.Some i → Joining tape area line values k₀ b₀ (std.Some i.sign) m' c' i.place.token i.place.byte
      unfolding let_some◌else◌then◌
      joining_goes i f = record { is = λ number σ v. summed number σ v ∙ rw f (by number σ i.sign) }
        where
          by : (number : ℤ → Pair) (σ : Text → Pair) (s : Sign)
              → (let_some (term_of (pairs number) σ (left ts i.place.token i.place.byte)) else none then λ r.
              further_of (pairs number) σ (combine (pairs number) (operator_of s) (m', c') r.0) r.1)
              ≡ (let_some (term_of (pairs number) σ (left ts i.place.token i.place.byte)) else none then λ r.
              further_of (pairs number) σ (joined (std.Some s) m' r.0.0, joined (std.Some s) c' r.0.1) r.1)
          by number σ Plus = unfold combine in refl
          by number σ Minus = unfold combine in refl

  pub next_placed : {x : Option (Operator × List Lexeme)} {o : std.Option Operation} (i : Operation) → Operates tape area line x o → o ≡ std.Some i → Placed line i.place.token i.place.byte
  next_placed i q f = placed _ _ _ (q.in_line i f)

  -- ---- the text bytes that are left fall

  module _ (h : Readable tape area line) (k b : ℕ) (p : Placed line k b) where
    pub opens-shorter : {r : std.Option Place} (i : Place) → Leads tape area line (behind (bytes "(") (left ts k b)) r → r ≡ std.Some i
        → bytes_left line i.token i.byte < bytes_left line k b
    opens-shorter i q e =
        bytes-fall tape area line h k b i.token i.byte p (placed _ _ _ (q.in_line i e))
        (omega (arith, behind-length (bytes "(") (left ts k b) (left ts i.token i.byte) (leads_some i q e)))

    -- behind a term and the operator that follows it
    module _ (s : Consistent ts values) {y : Worth} (w : Term tape area line values k b y) (out : Value) (e : y ≡ std.Some out) {o : std.Option Operation}
        (q : Operates tape area line (operator (left ts out.place.token out.place.byte)) o) (i : Operation) (f : o ≡ std.Some i) where
      pub next-less : bytes_left line i.place.token i.place.byte < bytes_left line k b
      next-less =
          bytes-fall tape area line h k b i.place.token i.place.byte p (next_placed i q f)
          (omega (
            arith,
            term-shorter (pairs s.number) s.register (fuel_for (left ts k b)) (left ts k b) _ (worth_some w out e s.number s.register s.valued),
            operator-shorter (left ts out.place.token out.place.byte) (operator_of i.sign, left ts i.place.token i.place.byte) (sym q.is ∙ ap (operated_of ts) f),
          ))

      -- and not above what was left at the beginning
      pub next-within : (n : ℕ) → bytes_left line k b ≤ n → bytes_left line i.place.token i.place.byte ≤ n
      next-within n l = omega (arith, next-less)

-- ---- the measure of a call

pub below_turn : (n m t : ℕ) → n + n + 1 ≡ t → m ≤ n → m + m < t
below_turn n m t e h = omega arith

pub below_bracket : (n m t : ℕ) → n + n ≡ t → m < n → m + m + 1 < t
below_bracket n m t e h = omega arith
