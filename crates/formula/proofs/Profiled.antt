-- The profile of a line and of a listing, case by case. Assumes nothing.
use Rattle.std.proofs.Common.{◌≡◌, ℕ, zero, suc, ◌+◌, ◌-◌, ◌<◌, ◌≤◌, Bool, true, false, not as flip, eqb, List, [], ◌∷◌, length, get_or, take, drop, sym, refl, ap, ◌∙◌, add-one, arith}
use Rattle.std.proofs.Common.{length-drop, drop-cons, eq-eqb, ne_eqb}
use mathlib.Core.Path.{subst, subst⁻¹}
use mathlib.Core.Option.{Option, none, some}
use Rattle.std.specs.Prelude as std
use Rattle.std.proofs.lemmas.List.{get_or_read, get_or-take, length-take-le}
use borrow.Author.Tests.{not-true, not-false}
use Rattle.reference.specs.Options.{option_of}
use Rattle.reference.proofs.Cases.{none-some, some_inj}
use Rattle.reference.specs.Control.{◌and◌, when◌then◌else◌, let_some◌else◌then◌}
use Rattle.reference.specs.Lists.{is_some, position}
use Rattle.reference.specs.Text.{Text, bytes}
use Rattle.reference.specs.Shapes.{is_kw}
use Rattle.reference.specs.Evaluators.{modulo, wide, lexemes, evaluate}
use Rattle.reference.specs.Straight.{zeros, assigned_value, returned_value, puncts_apart, assigns_wide, returns_value, breaks_from, breaks}
use Rattle.laws.proofs.Parts.{to_end}
use Rattle.laws.proofs.Scans.{if-true, if-false, and_true, and_false}
use Rattle.lines.specs.Words.{token_of, tokens_of}
use Rattle.lines.specs.Lines.{indent_of, first_of, count_of, part_of, Reading, line_read, listing_read}
use Rattle.formula.specs.Places.{Readable}
use Rattle.formula.specs.Profile.{Filled}

-- ---- the tokens behind the first one

pub readable_same : (tape area : Text) {us vs : List ℕ} → us ≡ vs → Readable tape area vs → Readable tape area us
readable_same tape area e h = subst⁻¹ (Readable tape area) e h

pub readable-rest : (tape area : Text) (line : List ℕ) → Readable tape area line → Readable tape area (take (length line - 1) (drop 1 line))
readable-rest tape area line h = readable_same tape area (to_end 1 line) (rest line h)
  where
    rest : (line : List ℕ) → Readable tape area line → Readable tape area (drop 1 line)
    rest [] h = h
    rest (w ∷ ws) h = record { holds = record { at = λ k l. h.holds.at (suc k) (omega arith) }; filled = λ k l. h.filled (suc k) (omega arith) }

-- ---- a line

module _ (tape area : Text) where
  pub wide-empty : (line : List ℕ) → length line < 1 → false ≡ assigns_wide (tokens_of tape area line)
  unfolding assigns_wide
  wide-empty [] e = refl
  wide-empty (w ∷ ws) e = absurd (omega arith)

  pub value_empty : (line : List ℕ) → length line < 1 → false ≡ returns_value (tokens_of tape area line)
  unfolding returns_value
  value_empty [] e = refl
  value_empty (w ∷ ws) e = absurd (omega arith)

  pub wide-other : (line : List ℕ) {x : Bool} → 1 ≤ length line → x ≡ is_some (wide (token_of tape area (get_or line 0 0))) → x ≡ false
      → false ≡ assigns_wide (tokens_of tape area line)
  unfolding assigns_wide
  wide-other [] n ex hx = refl
  wide-other (w ∷ ws) n ex hx = sym (and_false _ (sym ex ∙ hx))

  pub value_other : (line : List ℕ) {x : Bool} → 1 ≤ length line → x ≡ is_kw (bytes "return") (token_of tape area (get_or line 0 0)) → x ≡ false
      → false ≡ returns_value (tokens_of tape area line)
  unfolding returns_value
  value_other [] n ex hx = refl
  value_other (w ∷ ws) n ex hx = sym (and_false _ (sym ex ∙ hx))

  pub wide-unread : (line : List ℕ) {x y : Bool} → 1 ≤ length line → x ≡ is_some (wide (token_of tape area (get_or line 0 0))) → x ≡ true
      → y ≡ is_some (evaluate modulo zeros (bytes " = ") (lexemes (tokens_of tape area (take (length line - 1) (drop 1 line))))) → y ≡ false
      → false ≡ assigns_wide (tokens_of tape area line)
  unfolding assigns_wide assigned_value
  wide-unread [] n ex hx ey hy = refl
  wide-unread (w ∷ ws) n ex hx ey hy =
      sym (and_true _ (sym ex ∙ hx)
      ∙ and_false _ (sym (ey ∙ ap (λ (us : List ℕ). is_some (evaluate modulo zeros (bytes " = ") (lexemes (tokens_of tape area us)))) (to_end 1 (w ∷ ws))) ∙ hy))

  pub value_unread : (line : List ℕ) {x y : Bool} → 1 ≤ length line → x ≡ is_kw (bytes "return") (token_of tape area (get_or line 0 0)) → x ≡ true
      → y ≡ is_some (evaluate modulo zeros (bytes " ") (lexemes (tokens_of tape area (take (length line - 1) (drop 1 line))))) → y ≡ false
      → false ≡ returns_value (tokens_of tape area line)
  unfolding returns_value returned_value
  value_unread [] n ex hx ey hy = refl
  value_unread (w ∷ ws) n ex hx ey hy =
      sym (and_true _ (sym ex ∙ hx)
      ∙ and_false _ (sym (ey ∙ ap (λ (us : List ℕ). is_some (evaluate modulo zeros (bytes " ") (lexemes (tokens_of tape area us)))) (to_end 1 (w ∷ ws))) ∙ hy))

  pub wide_by : (line : List ℕ) {x y r : Bool} → 1 ≤ length line → x ≡ is_some (wide (token_of tape area (get_or line 0 0))) → x ≡ true
      → y ≡ is_some (evaluate modulo zeros (bytes " = ") (lexemes (tokens_of tape area (take (length line - 1) (drop 1 line))))) → y ≡ true
      → ((t a : Text) → r ≡ puncts_apart false (tokens_of t a (take (length line - 1) (drop 1 line))))
      → r ≡ assigns_wide (tokens_of tape area line)
  unfolding assigns_wide assigned_value
  wide_by [] n ex hx ey hy er = absurd (omega arith)
  wide_by (w ∷ ws) n ex hx ey hy er =
      er tape area ∙ ap (λ (us : List ℕ). puncts_apart false (tokens_of tape area us)) (to_end 1 (w ∷ ws))
      ∙ sym (and_true _ (sym ex ∙ hx)
      ∙ and_true _ (sym (ey ∙ ap (λ (us : List ℕ). is_some (evaluate modulo zeros (bytes " = ") (lexemes (tokens_of tape area us)))) (to_end 1 (w ∷ ws))) ∙ hy))

  pub value_by : (line : List ℕ) {x y r : Bool} → 1 ≤ length line → x ≡ is_kw (bytes "return") (token_of tape area (get_or line 0 0)) → x ≡ true
      → y ≡ is_some (evaluate modulo zeros (bytes " ") (lexemes (tokens_of tape area (take (length line - 1) (drop 1 line))))) → y ≡ true
      → ((t a : Text) → r ≡ puncts_apart false (tokens_of t a (take (length line - 1) (drop 1 line))))
      → r ≡ returns_value (tokens_of tape area line)
  unfolding returns_value returned_value
  value_by [] n ex hx ey hy er = absurd (omega arith)
  value_by (w ∷ ws) n ex hx ey hy er =
      er tape area ∙ ap (λ (us : List ℕ). puncts_apart false (tokens_of tape area us)) (to_end 1 (w ∷ ws))
      ∙ sym (and_true _ (sym ex ∙ hx)
      ∙ and_true _ (sym (ey ∙ ap (λ (us : List ℕ). is_some (evaluate modulo zeros (bytes " ") (lexemes (tokens_of tape area us)))) (to_end 1 (w ∷ ws))) ∙ hy))

-- ---- with its indent

pub here_other : (l indent : ℕ) (b : Bool) {x : ℕ} → x ≡ indent_of l → (x ≡ indent → ⊥) → eqb x indent ≡ (eqb (indent_of l) indent and b)
here_other l indent b {x} ex n = ne_eqb x indent n ∙ sym (and_false b (ne_eqb _ _ (λ e. n (ex ∙ e))))

module _ (tape area : Text) (tokens : List ℕ) (l indent : ℕ) {x : ℕ} (ex : x ≡ indent_of l) (e : x ≡ indent) {us : List ℕ} (eu : us ≡ part_of tokens l) {y : Bool} where
  pub here_assigns : y ≡ assigns_wide (tokens_of tape area us) → y ≡ (eqb (indent_of l) indent and assigns_wide (tokens_of tape area (part_of tokens l)))
  here_assigns ey = ey ∙ ap (λ (vs : List ℕ). assigns_wide (tokens_of tape area vs)) eu ∙ sym (and_true _ (eq-eqb _ _ (sym ex ∙ e)))

  pub here_returns : y ≡ returns_value (tokens_of tape area us) → y ≡ (eqb (indent_of l) indent and returns_value (tokens_of tape area (part_of tokens l)))
  here_returns ey = ey ∙ ap (λ (vs : List ℕ). returns_value (tokens_of tape area vs)) eu ∙ sym (and_true _ (eq-eqb _ _ (sym ex ∙ e)))

-- ---- a listing

module _ (tape area : Text) (tokens lines : List ℕ) where
  pub breaks-empty : length lines ≡ 0 → (reading : Reading) → some 0 ≡ breaks (listing_read tape area tokens reading lines)
  unfolding breaks
  breaks-empty e reading = go lines e
    where
      go : (ls : List ℕ) → length ls ≡ 0 → some 0 ≡ breaks (listing_read tape area tokens reading ls)
      go [] e = unfold breaks in refl
      go (l ∷ ls) e = absurd (omega arith)

  -- from the line i on
  abbrev pub From : ℕ → ℕ → Type 0
  From indent i =
      (reading : Reading) → breaks (listing_read tape area tokens reading lines) ≡ breaks_from indent i (listing_read tape area tokens reading (drop i lines))

  pub from_first : (length lines ≡ 0 → ⊥) → {indent : ℕ} → indent ≡ indent_of (get_or lines 0 0) → From indent 0
  from_first n {indent} e reading = go lines n e
    where
      go : (ls : List ℕ) → (length ls ≡ 0 → ⊥) → indent ≡ indent_of (get_or ls 0 0)
          → breaks (listing_read tape area tokens reading ls) ≡ breaks_from indent 0 (listing_read tape area tokens reading ls)
      go [] n e = absurd (n refl)
      go (l ∷ ls) n e = unfold breaks in rw e refl

  module _ (indent i : ℕ) (inv : From indent i) where
    line_at : (reading : Reading) → i < length lines
        → listing_read tape area tokens reading (drop i lines) ≡ line_read tape area tokens reading (get_or lines i 0) ∷ listing_read tape area tokens reading (drop (i + 1) lines)
    line_at reading l = ap (listing_read tape area tokens reading) (drop-cons lines i 0 l) ∙ rw (add-one i) refl

    step : (reading : Reading) → i + 1 < length lines
        → breaks (listing_read tape area tokens reading lines)
        ≡ (when eqb (indent_of (get_or lines i 0)) indent and assigns_wide (tokens_of tape area (part_of tokens (get_or lines i 0)))
        then breaks_from indent (i + 1) (listing_read tape area tokens reading (drop (i + 1) lines)) else some i)
    step reading l = inv reading ∙ ap (breaks_from indent i) (line_at reading (omega arith)) ∙ go (drop (i + 1) lines) (long lines i l)
      where
        long : (ls : List ℕ) (n : ℕ) → n + 1 < length ls → 0 < length (drop (n + 1) ls)
        long ls n h = omega (arith, length-drop (n + 1) ls)

        go : (ms : List ℕ) → 0 < length ms
            → breaks_from indent i (line_read tape area tokens reading (get_or lines i 0) ∷ listing_read tape area tokens reading ms)
            ≡ (when eqb (indent_of (get_or lines i 0)) indent and assigns_wide (tokens_of tape area (part_of tokens (get_or lines i 0)))
            then breaks_from indent (i + 1) (listing_read tape area tokens reading ms) else some i)
        go [] h = absurd (omega arith)
        go (m ∷ ms) h = unfold breaks_from in rw (add-one i) refl

    module _ (l : i + 1 < length lines) {x : Bool} (ex : x ≡ (eqb (indent_of (get_or lines i 0)) indent and assigns_wide (tokens_of tape area (part_of tokens (get_or lines i 0))))) where
      pub step-breaks : x ≡ false → (reading : Reading) → some i ≡ breaks (listing_read tape area tokens reading lines)
      step-breaks h reading = sym (step reading l ∙ if-false _ _ (sym ex ∙ h))

      pub step-goes : x ≡ true → From indent (i + 1)
      step-goes h reading = step reading l ∙ if-true _ _ (sym ex ∙ h)

    module _ (l : i + 1 ≡ length lines) {x : Bool} (ex : x ≡ (eqb (indent_of (get_or lines i 0)) indent and returns_value (tokens_of tape area (part_of tokens (get_or lines i 0))))) where
      last_is : (reading : Reading) → breaks (listing_read tape area tokens reading lines) ≡ (when x then none else some i)
      last_is reading =
          inv reading ∙ ap (breaks_from indent i) (line_at reading (omega arith)) ∙ go (drop (i + 1) lines) (omega (arith, length-drop (i + 1) lines))
        where
          go : (ms : List ℕ) → length ms ≡ 0
              → breaks_from indent i (line_read tape area tokens reading (get_or lines i 0) ∷ listing_read tape area tokens reading ms) ≡ (when x then none else some i)
          go [] h = unfold breaks_from in rw ex refl
          go (m ∷ ms) h = absurd (omega arith)

      pub last-breaks : x ≡ false → (reading : Reading) → some i ≡ breaks (listing_read tape area tokens reading lines)
      last-breaks h reading = sym (last_is reading ∙ if-false _ _ (h))

      pub last_fits : x ≡ true → (reading : Reading) → none ≡ breaks (listing_read tape area tokens reading lines)
      last_fits h reading = sym (last_is reading ∙ if-true _ _ (h))

-- ---- the front of a listing, scanned for its first line that does not fit

record First (test : ℕ → Bool) (ws : List ℕ) (i : ℕ) : Type 0 where
  inside : i < length ws
  passes : test (get_or ws i 0) ≡ true
  before : (k : ℕ) → k < i → test (get_or ws k 0) ≡ false

module _ (test : ℕ → Bool) where
  none-passes : (ws : List ℕ) → position test ws ≡ none → (k : ℕ) → k < length ws → test (get_or ws k 0) ≡ false
  unfolding when◌then◌else◌ let_some◌else◌then◌
  none-passes [] e k l = absurd (omega arith)
  none-passes (w ∷ ws) e k l = go (test w) refl (position test ws) (none-passes ws) e k l
    where
      go : (b : Bool) → test w ≡ b → (o : Option ℕ) → (o ≡ none → (k : ℕ) → k < length ws → test (get_or ws k 0) ≡ false)
          → (when b then some 0 else (let_some o else none then λ i. some (suc i))) ≡ none → (k : ℕ) → k < length (w ∷ ws) → test (get_or (w ∷ ws) k 0) ≡ false
      go true p o more e k l = absurd (none-some (sym e))
      go false p (some i) more e k l = absurd (none-some (sym e))
      go false p none more e zero l = p
      go false p none more e (suc k) l = more refl k (omega arith)

  first-passes : (ws : List ℕ) (i : ℕ) → position test ws ≡ some i → First test ws i
  unfolding when◌then◌else◌ let_some◌else◌then◌
  first-passes [] i e = absurd (none-some e)
  first-passes (w ∷ ws) i e = go (test w) refl (position test ws) (first-passes ws) e
    where
      later : test w ≡ false → (j : ℕ) → First test ws j → First test (w ∷ ws) (suc j)
      later p j f = record { inside = omega (arith, f.inside); passes = f.passes; before = each }
        where
          each : (k : ℕ) → k < suc j → test (get_or (w ∷ ws) k 0) ≡ false
          each zero l = p
          each (suc k) l = f.before k (omega arith)

      go : (b : Bool) → test w ≡ b → (o : Option ℕ) → ((j : ℕ) → o ≡ some j → First test ws j)
          → (when b then some 0 else (let_some o else none then λ j. some (suc j))) ≡ some i → First test (w ∷ ws) i
      go true p o more e = let z : 0 ≡ i = some_inj e in rw (← z) (record { inside = omega arith; passes = p; before = λ k l. absurd (omega arith) })
      go false p none more e = absurd (none-some e)
      go false p (some j) more e = let z : suc j ≡ i = some_inj e in rw (← z) (later p j (more j refl))

-- what the scan asks of a line
abbrev pub fits_in : Text → Text → List ℕ → ℕ → ℕ → Bool
fits_in tape area tokens indent l = eqb (indent_of l) indent and assigns_wide (tokens_of tape area (part_of tokens l))

module _ (tape area : Text) (tokens lines : List ℕ) (indent : ℕ) (begins : From tape area tokens lines indent 0) where
  abbrev fits : ℕ → Bool
  fits = fits_in tape area tokens indent

  reached : (i : ℕ) → i < length lines → ((k : ℕ) → k < i → fits (get_or lines k 0) ≡ true) → From tape area tokens lines indent i
  reached zero l h = begins
  reached (suc i) l h =
      subst (From tape area tokens lines indent) (add-one i)
      (step-goes tape area tokens lines indent i (reached i (omega arith) (λ k m. h k (omega arith))) (omega arith) refl (h i (omega arith)))

  front_at : (i : ℕ) → i < length (take (length lines - 1) lines) → (i + 1 < length lines) × (get_or (take (length lines - 1) lines) i 0 ≡ get_or lines i 0)
  front_at i l = (omega (arith, length-take-le (length lines - 1) lines (omega arith)), get_or-take (length lines - 1) lines i 0 (omega (arith, length-take-le (length lines - 1) lines (omega arith))))

  module _ {r : std.Option ℕ} (e : option_of r ≡ position (λ l. flip (fits l)) (take (length lines - 1) lines)) where
    pub front-breaks : (i : ℕ) → r ≡ std.Some i → (reading : Reading) → some i ≡ breaks (listing_read tape area tokens reading lines)
    front-breaks i q =
        let f = first-passes (λ l. flip (fits l)) (take (length lines - 1) lines) i (sym e ∙ ap option_of q) in
        let g = front_at i f.inside in
        step-breaks tape area tokens lines indent i
        (reached i (omega (arith, g.0)) (λ k m. not-false _ (sym (ap (λ (l : ℕ). flip (fits l)) (front_at k (omega (arith, m, f.inside))).1) ∙ f.before k m))) g.0 refl
        (not-true _ (sym (ap (λ (l : ℕ). flip (fits l)) g.1) ∙ f.passes))

    pub front_fits : (length lines ≡ 0 → ⊥) → r ≡ std.None → From tape area tokens lines indent (length lines - 1)
    front_fits n q =
        reached (length lines - 1) (omega (arith, n))
        (λ k m.
        let l : k < length (take (length lines - 1) lines) = omega (arith, m, length-take-le (length lines - 1) lines (omega arith)) in
        not-false _ (sym (ap (λ (l : ℕ). flip (fits l)) (front_at k l).1) ∙ none-passes (λ l. flip (fits l)) (take (length lines - 1) lines) (sym e ∙ ap option_of q) k l))

-- each line of the front may be asked
pub front_asked : (tape : Text) (tokens lines : List ℕ) → Filled tape tokens lines → (x k : ℕ) → k < length (take (length lines - 1) lines)
    → x ≡ get_or (take (length lines - 1) lines) k x → (first_of x + count_of x ≤ length tokens) × Readable tape tape (part_of tokens x)
front_asked tape tokens lines h x k l e =
    let m : k < length lines - 1 = omega (arith, l, length-take-le (length lines - 1) lines (omega arith)) in
    let same : x ≡ get_or lines k 0 = get_or_read lines k x (omega (arith, m)) (e ∙ get_or-take (length lines - 1) lines k x m) 0 in
    rw same ((h.listed.at k (omega (arith, m))).inside, h.readable k (omega (arith, m)))
