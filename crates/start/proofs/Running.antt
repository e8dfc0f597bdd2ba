-- The lines of a listing in the profile, executed in pairs one after the other. Assumes nothing.
use Prim.Native.Nat.{ℕ, suc, ◌+◌, ◌-◌, ◌≤◌, ◌<◌}
use native.Mathlib.Omega.{arith}
use mathlib.Core.Path.{◌≡◌, refl, sym, ap, ◌∙◌, subst}
use mathlib.Core.Bool.{Bool, true, false, false≢true}
use mathlib.Core.List.{List, [], ◌∷◌, map}
use mathlib.Core.Option.{Option, none, some}
use lib.Dec.{eqb}
use lib.ListN.{length, take, drop, get_or, length-drop, get_or-map}
use lib.Seq.{drop-cons, get_or-take, length-take-le}
use borrow.Author.Tests.{ne_eqb}
use Rattle.reference.specs.Control.{◌and◌, when◌then◌else◌, let_some◌else◌then◌}
use Rattle.reference.specs.Lists.{is_some}
use Rattle.reference.specs.Text.{Text, bytes}
use Rattle.reference.specs.Listing.{Token, is, Register, Keyword, Line, Listing}
use Rattle.reference.specs.Shapes.{is_kw}
use Rattle.reference.specs.Evaluators.{modulo, wide, lexemes}
use Rattle.reference.specs.Straight.{zeros, assign, assigned_value, returned_value, line_step, execute, assigns_wide, returns_value, breaks_from, breaks}
use Rattle.reference.proofs.Cases.{by-if, both, none-some}
use Rattle.laws.proofs.Scans.{if-true, if-false, and_false}
use Rattle.straight.proofs.Values.{read_alike}
use Rattle.lines.specs.Words.{tokens_of}
use Rattle.lines.specs.Lines.{part_of, first_of, count_of, Reading, numbered, line_read, listing_read}
use Rattle.formula.specs.Values.{Pair, no_token}
use Rattle.formula.specs.declared.evaluators.Pair.{Pair as Numbers}
use Rattle.start.specs.Pairs.{affine}
use Rattle.start.specs.Reckoning.{Priced, IsPriced, Begun, Assigned, Returned, Profiled}
use Rattle.start.proofs.Pricing.{map-length, length-take-most, kind_register}

-- ---- one line

no_return : (t : Token) (x : Text) → wide t ≡ some x → is_kw (bytes "return") t ≡ false
unfolding is_kw is
no_return t x e = and_false _ (ne_eqb t.kind Keyword (λ q. (let r : t.kind ≡ Register = kind_register t x e in omega (arith, q))))

pub some_of : {X : Type 0} (o : Option X) → is_some o ≡ true → (v : X) × (o ≡ some v)
some_of none e = absurd (false≢true e)
some_of (some v) e = (v, refl)

record Assigning (σ : Text → Pair) (line : List Token) : Type 0 where
  register : Text
  value : Pair
  target : wide (get_or line 0 no_token) ≡ some register
  worth : assigned_value affine σ (drop 1 line) ≡ some value
  goes : (k : (Text → Pair) → Option Pair) → line_step affine σ line k ≡ k (assign register value σ)
  filled : 1 ≤ length line

assign-step : (σ : Text → Pair) (t : Token) (ts : List Token) (x : Text) (v : Pair) (k : (Text → Pair) → Option Pair) → wide t ≡ some x
    → assigned_value affine σ ts ≡ some v → line_step affine σ (t ∷ ts) k ≡ k (assign x v σ)
unfolding line_step let_some◌else◌then◌
assign-step σ t ts x v k w a = if-false _ _ (no_return t x w) ∙ rw (w, a) refl

assigning : (σ : Text → Pair) (line : List Token) → assigns_wide line ≡ true → Assigning σ line
unfolding assigns_wide assigned_value
assigning σ [] e = absurd (false≢true e)
assigning σ (t ∷ ts) e =
    let p = both e in
    let x = some_of (wide t) p.0 in
    let v = some_of (assigned_value affine σ ts) (read_alike affine modulo σ zeros (bytes " = ") (lexemes ts) ∙ (both p.1).0) in
    record {
      register = x.0;
      value = v.0;
      target = x.1;
      worth = v.1;
      goes = λ k. assign-step σ t ts x.0 v.0 k x.1 v.1;
      filled = omega arith;
    }

record Returning (σ : Text → Pair) (line : List Token) : Type 0 where
  value : Pair
  worth : returned_value affine σ (drop 1 line) ≡ some value
  goes : (k : (Text → Pair) → Option Pair) → line_step affine σ line k ≡ some value
  filled : 1 ≤ length line

returning : (σ : Text → Pair) (line : List Token) → returns_value line ≡ true → Returning σ line
unfolding returns_value returned_value line_step
returning σ [] e = absurd (false≢true e)
returning σ (t ∷ ts) e =
    let p = both e in
    let v = some_of (returned_value affine σ ts) (read_alike affine modulo σ zeros (bytes " ") (lexemes ts) ∙ (both p.1).0) in
    record { value = v.0; worth = v.1; goes = λ k. if-true _ _ p.0 ∙ v.1; filled = omega arith }

-- ---- the profile, line by line

if_none : {A : Type 0} (b : Bool) (o : Option A) (a : A) → (when b then o else some a) ≡ none → (b ≡ true) × (o ≡ none)
if_none b o a =
    by-if (λ (r : Option _). r ≡ none → (b ≡ true) × (o ≡ none)) (λ p q. (p, q)) (λ p q. absurd (none-some (sym q)))

step-next : (indent n : ℕ) (l m : Line) (ls : Listing) → breaks_from indent n (l ∷ m ∷ ls) ≡ none
    → (assigns_wide l.tokens ≡ true) × (breaks_from indent (suc n) (m ∷ ls) ≡ none)
step-next indent n l m ls e = let q = if_none _ _ n (opened ∙ e) in ((both q.0).1, q.1)
  where
    opened : (when eqb l.indent indent and assigns_wide l.tokens then breaks_from indent (suc n) (m ∷ ls) else some n) ≡ breaks_from indent n (l ∷ m ∷ ls)
    opened = unfold breaks_from in refl

step-last : (indent n : ℕ) (l : Line) → breaks_from indent n (l ∷ []) ≡ none → returns_value l.tokens ≡ true
step-last indent n l e = (both (if_none _ none n (opened ∙ e)).0).1
  where
    opened : (when eqb l.indent indent and returns_value l.tokens then none else some n) ≡ breaks_from indent n (l ∷ [])
    opened = unfold breaks_from in refl

-- the rest of a listing, where the profile is not broken
abbrev pub Kept : Listing → Type 0
Kept lines = (indent : ℕ) × (n : ℕ) × (breaks_from indent n lines ≡ none)

kept_first : (lines : Listing) → breaks lines ≡ none → Kept lines × (1 ≤ length lines)
unfolding breaks
kept_first [] e = absurd (none-some (sym e))
kept_first (l ∷ ls) e = ((l.indent, 0, e), omega arith)

module _ (l : Line) (rest : Listing) (k : Kept (l ∷ rest)) where
  kept_next : 1 ≤ length rest → (assigns_wide l.tokens ≡ true) × Kept rest
  kept_next h = go rest h k.2
    where
      go : (ls : Listing) → 1 ≤ length ls → breaks_from k.0 k.1 (l ∷ ls) ≡ none
          → (assigns_wide l.tokens ≡ true) × ((indent : ℕ) × (n : ℕ) × (breaks_from indent n ls ≡ none))
      go [] h e = absurd (omega arith)
      go (m ∷ ls) h e = let s = step-next k.0 k.1 l m ls e in (s.0, (k.0, suc k.1, s.1))

  kept-last : length rest ≡ 0 → returns_value l.tokens ≡ true
  kept-last h = go rest h k.2
    where
      go : (ls : Listing) → length ls ≡ 0 → breaks_from k.0 k.1 (l ∷ ls) ≡ none → returns_value l.tokens ≡ true
      go [] h e = step-last k.0 k.1 l e
      go (m ∷ ls) h e = absurd (omega arith)

-- ---- a listing of line words

length-map : {A B : Type 0} (f : A → B) (xs : List A) → length (map f xs) ≡ length xs
length-map f [] = refl
length-map f (x ∷ xs) = ap suc (length-map f xs)

module _ (tape area : Text) (tokens : List ℕ) (reading : Reading) (lines : List ℕ) (i : ℕ) where
  abbrev read_line : ℕ → Line
  read_line = line_read tape area tokens reading

  drop-read : i < length lines
      → drop i (listing_read tape area tokens reading lines) ≡ line_read tape area tokens reading (get_or lines i 0) ∷ drop (i + 1) (listing_read tape area tokens reading lines)
  drop-read h =
      drop-cons (map read_line lines) i (read_line 0) (omega (arith, length-map read_line lines))
      ∙ ap (λ (l : Line). l ∷ drop (suc i) (map read_line lines)) (get_or-map read_line lines i 0)
      ∙ ap (λ (k : ℕ). read_line (get_or lines i 0) ∷ drop k (map read_line lines)) next
    where
      next : suc i ≡ i + 1
      next = omega arith

  length-read : length (drop i (listing_read tape area tokens reading lines)) ≡ length lines - i
  length-read = length-drop i (map read_line lines) ∙ ap (λ (n : ℕ). n - i) (length-map read_line lines)

-- ---- the loop over the lines

module _ (tape area : Text) (tokens lines : List ℕ) where
  abbrev listing : Reading → Listing
  listing reading = listing_read tape area tokens reading lines

  -- before the line i: what is left of the profile, and a store that the table has the pairs of, with which the rest returns what the whole
  -- does
  pub record Running (values₀ : List Numbers) (i : ℕ) (values : List Numbers) : Type 0 where
    pub inside : i < length lines
    pub long : length values ≡ length values₀
    pub kept : (reading : Reading) → Kept (drop i (listing reading))
    pub executes : (reading : Reading) (σ₀ : Text → Pair) → Priced σ₀ (tokens_of tape area tokens) values₀
        → (σ : Text → Pair) × Priced σ (tokens_of tape area tokens) values × (execute affine σ₀ (listing reading) ≡ execute affine σ (drop i (listing reading)))

  module _ (p : Profiled tape area tokens lines) where
    pub some_line : 1 ≤ length lines
    some_line = omega (arith, (kept_first (listing numbered) (p.in_profile numbered)).1, length-read tape area tokens numbered lines 0)

    pub running_first : (values : List Numbers) → Running values 0 values
    running_first values =
        record {
          inside = some_line;
          long = refl;
          kept = λ reading. (kept_first (listing reading) (p.in_profile reading)).0;
          executes = λ reading σ h. (σ, h, refl);
        }

    module _ (values₀ : List Numbers) (i : ℕ) (values : List Numbers) (r : Running values₀ i values) where
      abbrev line : List Token
      line = tokens_of tape area (part_of tokens (get_or lines i 0))

      opened : (reading : Reading) → Kept (line_read tape area tokens reading (get_or lines i 0) ∷ drop (i + 1) (listing reading))
      opened reading = subst Kept (drop-read tape area tokens reading lines i r.inside) (r.kept reading)

      begun : 1 ≤ length line → Begun tape area tokens (get_or lines i 0)
      begun h =
          record {
            readable = p.filled.readable i r.inside;
            some_token = omega (arith, map-length tape area (part_of tokens (get_or lines i 0)), length-take-most (count_of (get_or lines i 0)) (drop (first_of (get_or lines i 0)) tokens));
            inside = (p.filled.listed.at i r.inside).inside;
          }

      before : suc i < length lines → (reading : Reading) → (assigns_wide line ≡ true) × Kept (drop (i + 1) (listing reading))
      before h reading =
          kept_next (line_read tape area tokens reading (get_or lines i 0)) (drop (i + 1) (listing reading)) (opened reading)
          (omega (arith, length-read tape area tokens reading lines (i + 1)))

      at_end : length lines ≤ suc i → returns_value line ≡ true
      at_end h =
          kept-last (line_read tape area tokens numbered (get_or lines i 0)) (drop (i + 1) (listing numbered)) (opened numbered)
          (omega (arith, length-read tape area tokens numbered lines (i + 1)))

      pub begun-before : suc i < length lines → Begun tape area tokens (get_or lines i 0)
      begun-before h = begun (assigning (λ x. (0, 0)) line (before h numbered).0).filled

      pub begun-last : (j : ℕ) → j ≡ i → length lines ≤ suc i → Begun tape area tokens (get_or lines j 0)
      begun-last j e h = rw e (begun (returning (λ x. (0, 0)) line (at_end h)).filled)

      one_line : (reading : Reading) (σ : Text → Pair)
          → execute affine σ (drop i (listing reading)) ≡ line_step affine σ line (λ τ. execute affine τ (drop (i + 1) (listing reading)))
      one_line reading σ = ap (execute affine σ) (drop-read tape area tokens reading lines i r.inside) ∙ unfold execute in refl

      pub running-priced : IsPriced (tokens_of tape area tokens) values₀ → IsPriced (tokens_of tape area tokens) values
      running-priced p = let s = r.executes numbered p.store p.priced in record { store = s.0; priced = s.1 }

      pub running_next : suc i < length lines → (values' : List Numbers) → length values' ≡ length values → Assigned line (tokens_of tape area tokens) values values'
          → Running values₀ (i + 1) values'
      running_next h values' e a =
          record {
            inside = omega arith;
            long = e ∙ r.long;
            kept = λ reading. (before h reading).1;
            executes = λ reading σ₀ q.
                (let s = r.executes reading σ₀ q in
                let g = assigning s.0 line (before h reading).0 in (
                  assign g.register g.value s.0,
                  a s.0 g.register g.value s.1 g.target g.worth,
                  s.2 ∙ one_line reading s.0 ∙ g.goes (λ τ. execute affine τ (drop (i + 1) (listing reading))),
                ));
          }

      pub running_last : (j : ℕ) → j ≡ i → length lines ≤ suc i → (v : Pair)
          → Returned (tokens_of tape area (part_of tokens (get_or lines j 0))) (tokens_of tape area tokens) values v
          → (reading : Reading) (σ₀ : Text → Pair) → Priced σ₀ (tokens_of tape area tokens) values₀ → execute affine σ₀ (listing reading) ≡ some v
      running_last j same h v returned reading σ₀ q =
          let a : Returned line (tokens_of tape area tokens) values v =
          subst (λ (k : ℕ). Returned (tokens_of tape area (part_of tokens (get_or lines k 0))) (tokens_of tape area tokens) values v) same returned in
          let s = r.executes reading σ₀ q in
          let g = returning s.0 line (at_end h) in
          s.2 ∙ one_line reading s.0 ∙ g.goes (λ τ. execute affine τ (drop (i + 1) (listing reading)))
          ∙ ap {B = Option Pair} (λ (p : Pair). some p) (a s.0 g.value s.1 g.worth)

-- a line of all but the last
pub front_line : (lines : List ℕ) (i : ℕ) → i < length (take (length lines - 1) lines)
    → (suc i < length lines) × (get_or (take (length lines - 1) lines) i 0 ≡ get_or lines i 0)
front_line lines i h =
    let n = length-take-le (length lines - 1) lines (omega arith) in
    (omega arith, get_or-take (length lines - 1) lines i 0 (omega arith))

pub front_over : (lines : List ℕ) (i : ℕ) → i < length lines → length (take (length lines - 1) lines) ≤ i
    → (length lines - 1 ≡ i) × (length lines ≤ suc i)
front_over lines i k h =
    let n = length-take-le (length lines - 1) lines (omega arith) in
    (omega arith, omega arith)
