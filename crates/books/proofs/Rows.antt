-- Rows of digits with single quotes between them, as the 2024 edition writes them, to any base: what the grammar builds from the right is what
-- `unquoted` and `digits_value` read from the left. Assumes nothing.
use Prim.Native.Nat.{ℕ, zero, suc, ◌+◌, ◌*◌, ◌<◌, ◌≤◌}
use native.Mathlib.Omega.{arith}
use native.Mathlib.Decide.{dec_lt}
use mathlib.Core.Path.{◌≡◌, refl, sym, ap, ◌∙◌, subst, subst⁻¹}
use mathlib.Core.Logic.{by_cases}
use mathlib.Core.Bool.{Bool, true, false, false≢true}
use mathlib.Core.List.{List, [], ◌∷◌, ◌++◌, append_assoc, append-nil}
use mathlib.Core.Option.{Option, none, some}
use lib.Dec.{eqb}
use borrow.Author.Tests.{eqb-true, le-ltb, lt-leb, le-leb}
use Rattle.reference.specs.Control.{◌and◌, when◌then◌else◌, let_some◌else◌then◌}
use Rattle.reference.specs.Lists.{any}
use Rattle.reference.specs.Text.{Text, bytes}
use Rattle.reference.specs.Numbers.{to_digit, digits_value, unquoted}
use Rattle.reference.proofs.Cases.{both, either, none-some, some_inj, bind-some}
use Rattle.reference.proofs.Numerals.{value_more}
use Rattle.books.specs.Tables.{◌∈◌}
use Rattle.books.specs.Constants2024.{quote_opt}

-- ---- digits that the reference takes stand in the book's table

-- what a test says of each number below k
abbrev all-below : (ℕ → Bool) → ℕ → Bool
all-below p zero = true
all-below p (suc k) = let r = all-below p k in p k and r

at_below : (p : ℕ → Bool) (k : ℕ) → all-below p k ≡ true → (c : ℕ) → c < k → p c ≡ true
at_below p zero e c h = absurd (omega arith)
at_below p (suc k) e c h = by_cases (dec_lt c k) (at_below p k (both e).1 c) (λ l. (let s : c ≡ k = omega arith in rw s (both e).0))

abbrev entry : ℕ → ℕ → ℕ × ℕ → Bool
entry c d e = eqb e.0 c and eqb e.1 d

in_any : (c d : ℕ) (table : List (ℕ × ℕ)) → any (entry c d) table ≡ true → (c, d) ∈ table
in_any c d [] h = absurd (false≢true h)
in_any c d (e ∷ es) h =
    either ((c, d) ∈ (e ∷ es)) h
    (λ t. (zero, λ k. some (eqb-true e.0 c (both t).0 k, eqb-true e.1 d (both t).1 k)))
    (λ t. (let r = in_any c d es t in (suc r.0, r.1)))

-- whether a byte is no digit, or stands in the table
abbrev pub is_entry : ℕ → List (ℕ × ℕ) → ℕ → Bool
is_entry base table c = let_some (to_digit base c) else true then λ d. any (entry c d) table

too_large : (base c : ℕ) → base ≤ 99 → 123 ≤ c → to_digit base c ≡ none
unfolding to_digit when◌then◌else◌ ◌and◌
too_large base c b h =
    rw (le-leb 48 c (omega arith), lt-leb c 57 (omega arith), le-leb 97 c (omega arith), lt-leb c 122 (omega arith), le-leb 65 c (omega arith), lt-leb c 90 (omega arith), le-ltb 99 base b) refl

pub in_table : (base : ℕ) (table : List (ℕ × ℕ)) → base ≤ 99 → all-below (is_entry base table) 123 ≡ true
    → {c d : ℕ} → to_digit base c ≡ some d → (c, d) ∈ table
unfolding let_some◌else◌then◌
in_table base table b h {c} {d} e =
    by_cases (dec_lt c 123)
    (λ l. in_any c d table (rw e at (at_below (is_entry base table) 123 h c l)))
    (λ l. absurd (none-some (sym (too_large base c b (omega arith)) ∙ e)))

-- ---- quotes

-- what is no quote
pub other_than-quote : (base c : ℕ) {d : ℕ} → to_digit base 39 ≡ none → to_digit base c ≡ some d → eqb c 39 ≡ false
other_than-quote base c {d} z e = by (eqb c 39) refl
  where
    by : (t : Bool) → eqb c 39 ≡ t → t ≡ false
    by true q = absurd (none-some (sym z ∙ sym (rw (eqb-true c 39 q) refl) ∙ e))
    by false q = refl

after : (c : ℕ) (r : Text) (o : Option Text)
    → (let_some (let_some o else none then λ es. some (r ++ es)) else none then λ es. some (c ∷ es)) ≡ (let_some o else none then λ es. some (c ∷ r ++ es))
unfolding let_some◌else◌then◌
after c r none = refl
after c r (some es) = refl

-- a row, and what follows it
unquoted_append : (b : Bool) (s t : Text) {ds : Text} → unquoted b s ≡ some ds → unquoted b (s ++ t) ≡ (let_some (unquoted true t) else none then λ es. some (ds ++ es))
unfolding unquoted let_some◌else◌then◌ when◌then◌else◌
unquoted_append true [] t {ds} e = rw (← (some_inj e)) (same (unquoted true t))
  where
    same : (o : Option Text) → o ≡ (let_some o else none then λ es. some ([] ++ es))
    same none = refl
    same (some es) = refl
unquoted_append false [] t e = absurd (none-some e)
unquoted_append b (c ∷ cs) t {ds} e = step (eqb c 39) b (λ x r. unquoted_append x cs t {ds = r}) e
  where
    step : (q b : Bool)
        → ((x : Bool) (r : Text) → unquoted x cs ≡ some r → unquoted x (cs ++ t) ≡ (let_some (unquoted true t) else none then λ es. some (r ++ es)))
        → (when q then (when b then unquoted false cs else none) else let_some (unquoted true cs) else none then λ es. some (c ∷ es)) ≡ some ds
        → (when q then (when b then unquoted false (cs ++ t) else none) else let_some (unquoted true (cs ++ t)) else none then λ es. some (c ∷ es))
        ≡ (let_some (unquoted true t) else none then λ es. some (ds ++ es))
    step true true more e = more false ds e
    step true false more e = absurd (none-some e)
    step false b more e =
        let r = bind-some e in
        ap (λ (o : Option Text). let_some o else none then λ es. some (c ∷ es)) (more true r.0 r.1)
        ∙ after c r.0 (unquoted true t)
        ∙ ap (λ (x : Text). let_some (unquoted true t) else none then λ es. some (x ++ es)) (some_inj r.2)

-- ---- from the grammar to the reading

-- a row of digits to a base, and what it comes to
pub record Spells (base : ℕ) (s : Text) (n : ℕ) : Type 0 where
  pub digits : Text
  pub without_quotes : unquoted false s ≡ some digits
  pub comes_to : digits_value base 0 digits ≡ some n

module _ (base : ℕ) (z : to_digit base 39 ≡ none) (c : ℕ) {d : ℕ} (h : to_digit base c ≡ some d) where
  one_more : (b : Bool) → unquoted b (c ∷ []) ≡ some (c ∷ [])
  unfolding unquoted let_some◌else◌then◌ when◌then◌else◌
  one_more b = rw (other_than-quote base c z h) refl

  quoted_one : unquoted true (39 ∷ c ∷ []) ≡ some (c ∷ [])
  unfolding unquoted let_some◌else◌then◌ when◌then◌else◌
  quoted_one = rw (other_than-quote base c z h) refl

  with_quote : {q : Text} → q ∈ quote_opt → unquoted true (q ++ (c ∷ [])) ≡ some (c ∷ [])
  with_quote {q} (zero, e) = rw (← (some_inj e)) (one_more true)
  with_quote {q} (suc zero, e) = rw (← (some_inj e)) quoted_one
  with_quote {q} (suc (suc i), e) = absurd (none-some e)

  pub spells_one : Spells base (c ∷ []) d
  unfolding digits_value let_some◌else◌then◌
  spells_one = record { digits = c ∷ []; without_quotes = one_more false; comes_to = rw h (ap some (omega arith)) }

  pub spells_more : {s q : Text} {n : ℕ} → Spells base s n → q ∈ quote_opt → Spells base (s ++ q ++ (c ∷ [])) (n * base + d)
  unfolding let_some◌else◌then◌
  spells_more {s} {q} r m =
      record {
        digits = r.digits ++ (c ∷ []);
        without_quotes = ap (unquoted false) (append_assoc s q (c ∷ [])) ∙ unquoted_append false s (q ++ (c ∷ [])) r.without_quotes ∙ rw (with_quote m) refl;
        comes_to = value_more base c h 0 r.digits r.comes_to;
      }

-- ---- from the reading to the grammar

-- the quote that stands before a row, where no digit does
abbrev quote_of : Bool → Text
quote_of true = []
quote_of false = bytes "'"

may_stand : (b : Bool) → quote_of b ∈ quote_opt
may_stand true = (0, refl)
may_stand false = (1, refl)

-- what goes on by an optional quote and a digit
module _ (base : ℕ) (G : Text → ℕ → Type 0)
    (more : (s q : Text) (n c d : ℕ) → G s n → q ∈ quote_opt → to_digit base c ≡ some d → G (s ++ q ++ (c ∷ [])) (n * base + d)) where
  -- one digit, read
  digit-first : (a c : ℕ) (es : Text) {n : ℕ} → digits_value base a (c ∷ es) ≡ some n → (d : ℕ) × (to_digit base c ≡ some d) × (digits_value base (a * base + d) es ≡ some n)
  unfolding digits_value
  digit-first a c es e = bind-some e

  -- a row after a digit, or after a digit and a quote
  grows : (b : Bool) (front : Text) (a : ℕ) (t : Text) {ds : Text} {n : ℕ} → G front a → unquoted b t ≡ some ds → digits_value base a ds ≡ some n → G (front ++ (quote_of b ++ t)) n
  unfolding unquoted when◌then◌else◌ let_some◌else◌then◌ digits_value
  grows true front a [] {ds} {n} g u e =
      let d : [] ≡ ds = some_inj u in
      let k : a ≡ n = some_inj (rw (← d) at e) in
      subst⁻¹ (λ (x : Text). G x n) (append-nil front) (subst (G front) k g)
  grows false front a [] g u e = absurd (none-some u)
  grows b front a (c ∷ cs) {ds} {n} g u e = step (eqb c 39) refl b u (λ b f m es h v w. grows b f m cs {ds = es} {n = n} h v w)
    where
      step : (t : Bool) → eqb c 39 ≡ t → (b : Bool)
          → (when t then (when b then unquoted false cs else none) else let_some (unquoted true cs) else none then λ es. some (c ∷ es)) ≡ some ds
          → ((b : Bool) (f : Text) (m : ℕ) (es : Text) → G f m → unquoted b cs ≡ some es → digits_value base m es ≡ some n → G (f ++ (quote_of b ++ cs)) n)
          → G (front ++ (quote_of b ++ c ∷ cs)) n
      step true q true u next = rw (eqb-true c 39 q) (next false front a ds g u e)
      step true q false u next = absurd (none-some u)
      step false q b u next =
          let r = bind-some u in
          let d = digit-first a c r.0 (subst⁻¹ (λ (x : Text). digits_value base a x ≡ some n) (some_inj r.2) e) in
          let f : Text = front ++ quote_of b ++ (c ∷ []) in
          let whole : f ++ cs ≡ front ++ (quote_of b ++ c ∷ cs) = append_assoc (front ++ quote_of b) (c ∷ []) cs ∙ append_assoc front (quote_of b) (c ∷ cs) in
          rw (← whole) (next true f (a * base + d.0) r.0 (more front (quote_of b) a c d.0 g (may_stand b) d.1) r.1 d.2)

  -- a whole row, whose first digit the grammar takes
  pub grown : (s : Text) {ds : Text} {n : ℕ} → ((c d : ℕ) (rest : Text) → s ≡ c ∷ rest → to_digit base c ≡ some d → G (c ∷ []) d)
      → unquoted false s ≡ some ds → digits_value base 0 ds ≡ some n → G s n
  unfolding unquoted when◌then◌else◌ let_some◌else◌then◌
  grown [] first u e = absurd (none-some u)
  grown (c ∷ cs) {ds} {n} first u e = step (eqb c 39) u
    where
      step : (t : Bool) → (when t then none else let_some (unquoted true cs) else none then λ es. some (c ∷ es)) ≡ some ds → G (c ∷ cs) n
      step true u = absurd (none-some u)
      step false u =
          let r = bind-some {o = unquoted true cs} {k = λ es. some (c ∷ es)} u in
          let d = digit-first 0 c r.0 (subst⁻¹ (λ (x : Text). digits_value base 0 x ≡ some n) (some_inj r.2) e) in
          let z : 0 * base + d.0 ≡ d.0 = omega arith in
          grows true (c ∷ []) d.0 cs (first c d.0 cs refl d.1) r.1 (rw z at d.2)
