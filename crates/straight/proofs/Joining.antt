-- An attempt on a straight listing, where the right side suits its use: what its plan makes of the lines after the definition. Assumes nothing.
use Prim.Native.Nat.{ℕ, suc, ◌≤◌, ◌<◌}
use native.Mathlib.Omega.{arith}
use mathlib.Core.Path.{◌≡◌, refl, sym, ap, ◌∙◌, subst, subst⁻¹}
use mathlib.Core.Bool.{Bool, true, false}
use mathlib.Core.List.{List, [], ◌∷◌, ◌++◌}
use mathlib.Core.Option.{Option, none, some}
use lib.Dec.{ltb}
use lib.ListN.{length, drop}
use borrow.Author.Tests.{ltb-false, lt-ltb, le-ltb, le-leb, lt-leb, ne_eqb}
use Rattle.reference.specs.Control.{◌and◌}
use Rattle.reference.specs.Lists.{any, count, position, get}
use Rattle.reference.specs.Text.{Text, bytes, has}
use Rattle.reference.specs.Listing.{Token, token, is, Register, Number, Punct, Line, Listing, ◌at◌}
use Rattle.reference.specs.Names.{Fam, family, fam_of, of_family}
use Rattle.reference.specs.Rules.{Rules, volatile}
use Rattle.reference.specs.Shapes.{Assignment}
use Rattle.reference.specs.Life.{None, Kill, Use, touch, match_touch, is_use, Labels, dead_from, dead_after}
use Rattle.reference.specs.Join.{Uses, gather, bad_use, written_from, rewrite_use, expr_fams, harmless, use_from, text_or_empty, text_before, standalone, is_bracketed}
use Rattle.reference.specs.Evaluators.{Store}
use Rattle.reference.specs.Straight.{assign, execute, puncts_apart}
use Rattle.straight.proofs.Reader.{Pending, first, State, fresh, equals, wants, holds, run-tokens}
use Rattle.reference.proofs.Cases.{by-if, by_touch, both, neither, not-true, not-false, true-false, fails, same_number, some_inj, none-some, if_some, unless-some, bind-some, some-true}
use Rattle.reference.proofs.Shapes.{other_kind, family-register, Assigning, assigns as assigns_of}
use Rattle.reference.proofs.Lines.{drop-step}
use Rattle.laws.proofs.Scans.{if-true, if-false, or_false, and_true}
use Rattle.joining.specs.Plan.{Plan, wants_brackets, map_from, right_side_of, changes, where_used, acted_line}
use Rattle.joining.proofs.Indexed.{map-from_id}
use Rattle.joining.proofs.Uses.{gather-last}
use Rattle.joining.proofs.Single.{use_count}
use Rattle.joining.proofs.Looking.{mentions}
use Rattle.straight.proofs.Folding.{Begins}
use Rattle.straight.proofs.Expression.{Worth, Stands, stands-first, stands-bracketed, stands-lone}
use Rattle.straight.proofs.Substituting.{wide-known, wide-family, unread, leads_text, Unsigned, TokensFit, fits_anywhere, fits-begun}
use Rattle.straight.proofs.Flow.{Assigns, assigns, Returns, returns, Straight, last, next, Dead, Replaced, Joined, over, step, end, killed_dead}
use Rattle.straight.proofs.Life.{untouched, killed, kills-assigns, lhs_is, other-register, assigns-no_call, returns-no_call, returns_no_kill, assigns-run, returns-run, dead-sound}
use Rattle.straight.proofs.Rewriting.{new, use_assign, use_return, pass_assign, pass_return, return-family, unwritten, assigns_no_braces, returns_no_braces}

-- ---- which lines change

module _ (rules : Rules) (i : ℕ) (p : Plan) where
  used_line : (k : ℕ) (l : Line) (n : ℕ) → i < k → k ≤ p.last → touch l p.fam (volatile rules) ≡ Use n → acted_line rules i p k l ≡ rewrite_use rules.edition p.fam (right_side_of p) l
  unfolding where_used changes match_touch
  used_line k l n h e t = if-true _ _ (and_true _ (lt-ltb i k h) ∙ and_true _ (le-leb k p.last e) ∙ rw t)

  unused_line : (k : ℕ) (l : Line) → is_use (touch l p.fam (volatile rules)) ≡ false → acted_line rules i p k l ≡ l
  unfolding where_used changes
  unused_line k l e = if-false _ _ (fails (λ h. true-false (both (both h).1).1 e))

  none_line : (k : ℕ) (l : Line) → touch l p.fam (volatile rules) ≡ None → acted_line rules i p k l ≡ l
  unfolding match_touch
  none_line k l t = unused_line k l (rw t)

  kill_line : (k : ℕ) (l : Line) → touch l p.fam (volatile rules) ≡ Kill → acted_line rules i p k l ≡ l
  unfolding match_touch
  kill_line k l t = unused_line k l (rw t)

  past_line : (k : ℕ) (l : Line) → p.last < k → acted_line rules i p k l ≡ l
  unfolding where_used changes
  past_line k l h = if-false _ _ (fails (λ e. true-false (both (both e).1).0 (lt-leb k p.last h)))

  pub before_line : (k : ℕ) (l : Line) → k ≤ i → acted_line rules i p k l ≡ l
  unfolding where_used changes
  before_line k l h = if-false _ _ (fails (λ e. true-false (both e).0 (le-ltb i k h)))

  past_lines : (k : ℕ) (ls : Listing) → p.last < k → map_from (acted_line rules i p) k ls ≡ ls
  past_lines k ls h = map-from_id (acted_line rules i p) k ls (λ m l a b. past_line m l (omega arith))

-- the register that a line assigns, as `assignment` and `family` say it
pub assigned-family : (ts : List Token) (y : Text) (to : Assignment) (f : Fam) → Assigns ts y → Assigning ts to → family to.lhs.text ≡ some f → f.name ≡ y
unfolding fam_of
assigned-family [] y to f x3 s e = elim x3 [ ]
assigned-family (t ∷ ts) y to f (assigns w r a) s e =
    let g = wide-known t y w in
    let same : f ≡ g.0 = some_inj (sym e ∙ ap (λ (u : Token). family u.text) (lhs_is s t ts refl) ∙ (if_some g.1).1) in
    ap (λ (h : Fam). h.name) same ∙ g.2

-- ---- the right side

held : {a b : ℕ} → holds a [] ≡ holds b [] → a ≡ b
held e = cc

-- a definition: the register, its right side and what that is worth
pub record Defines (x : Text) (expr : List Token) : Type 0 where
  pub value : Store → ℕ
  pub worth : (σ : Store) → Worth σ expr (value σ)

either_false : {a b : Bool} (X : Type 0) → (a and b) ≡ false → (a ≡ false → X) → (b ≡ false → X) → X
unfolding ◌and◌
either_false {a = true} X e f g = g e
either_false {a = false} X e f g = f refl

before-suc : (toks : List Token) (n : ℕ) → text_before toks (suc n) ≡ text_or_empty (get toks n)
unfolding text_before
before-suc toks n = if-false _ _ (ne_eqb (suc n) 0 (λ e. omega arith)) ∙ ap (λ (m : ℕ). text_or_empty (get toks m)) (omega arith)

-- a right side that may stand for a term, whatever waits for it
abbrev pub Anywhere : List Token → Type 0
Anywhere expr = (σ : Store) (v : ℕ) → Worth σ expr v → (p : Pending) (k : List Pending) → Stands σ expr v p k

-- What the join of one use asks of a right side that gets no brackets there: an expression begins at the use, or it may stand for a term.
abbrev pub Suits : Rules → List Token → List Token → ℕ → Type 0
Suits rules expr ts pos = wants_brackets rules expr ts pos ≡ false → leads_text (text_before ts pos) ≡ false → Anywhere expr

-- one token is a term
pub short_anywhere : (r : List Token) → ltb 1 (length r) ≡ false → Anywhere r
unfolding run-tokens
short_anywhere [] h σ v w p k = let z : ◌≡◌ {A = ℕ} 0 1 = cc in absurd (omega arith)
short_anywhere (t ∷ []) h σ v w p k = stands-lone σ t v p k w
short_anywhere (t ∷ u ∷ us) h σ v w p k = let z = ltb-false 1 (suc (suc (length us))) h in absurd (omega arith)

-- in the profile each right side suits each use
pub profile-suits : (rules : Rules) → rules.profile ≡ true → (expr ts : List Token) (pos : ℕ) → Suits rules expr ts pos
unfolding wants_brackets is_bracketed standalone
profile-suits rules on expr ts pos bare far =
    either_false (Anywhere expr) bare
    (λ c. short_anywhere expr (sym (if-true _ _ on) ∙ c))
    (λ c. absurd (true-false (both (not-false c)).0 (neither far).0))

module _ {x : Text} {expr : List Token} (d : Defines x expr) where
  -- it is worth the same after an assignment to another register than it reads
  pub keeps : (y : Text) → any (of_family y) expr ≡ false → (σ : Store) (w : ℕ) → d.value (assign y w σ) ≡ d.value σ
  keeps y e σ w = held (sym (d.worth (assign y w σ)) ∙ unread y w σ expr (wants first []) e ∙ d.worth σ)

  anywhere-fits : Anywhere expr → (ts : List Token) (s : State) (σ : Store) → TokensFit x (d.value σ) σ expr ts s
  anywhere-fits f ts s σ = fits_anywhere x (d.value σ) σ expr (f σ (d.value σ) (d.worth σ)) ts s

  lone-fits : (t : Token) → expr ≡ t ∷ [] → (ts : List Token) (s : State) (σ : Store) → TokensFit x (d.value σ) σ expr ts s
  lone-fits t e = anywhere-fits (subst⁻¹ Anywhere e (short_anywhere (t ∷ []) refl))

  -- the right side of a plan for one use, at the first token of the family behind the line's first one
  single-fits : (rules : Rules) (p : Plan) → p.expr ≡ expr → (t : Token) (ts : List Token) (s : State) (pos : ℕ) → Begins s → Unsigned s → puncts_apart false ts ≡ true
      → of_family x t ≡ false → position (of_family x) (t ∷ ts) ≡ some pos → count (of_family x) (t ∷ ts) ≡ 1 → p.brackets ≡ wants_brackets rules expr (t ∷ ts) pos
      → Suits rules expr (t ∷ ts) pos → (σ : Store) → TokensFit x (d.value σ) σ (right_side_of p) ts s
  unfolding right_side_of
  single-fits rules p pe t ts s pos g unsigned apart n found one b suits σ =
      by-if (λ (r : List Token). TokensFit x (d.value σ) σ r ts s)
      (λ h.
      subst⁻¹ (λ (r : List Token). TokensFit x (d.value σ) σ (token Punct (bytes "(") ∷ r ++ (token Punct (bytes ")") ∷ [])) ts s) pe
      (fits_anywhere x (d.value σ) σ _ (λ q k. stands-bracketed σ expr (d.value σ) q k (d.worth σ)) ts s))
      (λ h. subst⁻¹ (λ (r : List Token). TokensFit x (d.value σ) σ r ts s) pe (bare (leads_text (text_before (t ∷ ts) pos)) refl (sym b ∙ h)))
    where
      bare : (c : Bool) → leads_text (text_before (t ∷ ts) pos) ≡ c → wants_brackets rules expr (t ∷ ts) pos ≡ false → TokensFit x (d.value σ) σ expr ts s
      bare true e w =
          let m = bind-some (sym (if-false _ _ n) ∙ found) in
          fits-begun x (d.value σ) σ expr (λ k. stands-first σ expr (d.value σ) k (d.worth σ)) t ts m.0 s
          (record { begins = λ o. g; behind = false; apart = apart; unsigned = λ o. unsigned }) m.1 (sym (if-false _ _ n) ∙ one)
          (sym (ap leads_text (before-suc (t ∷ ts) m.0)) ∙ ap (λ (q : ℕ). leads_text (text_before (t ∷ ts) q)) (some_inj m.2) ∙ e)
      bare false e w = anywhere-fits (suits w e) ts s σ

-- ---- the lines after the definition

module _ (rules : Rules) (lines : Listing) (i : ℕ) (p : Plan) (d : Defines p.fam p.expr) (indent : ℕ) where
  x : Text
  x = p.fam

  f : ℕ → Line → Line
  f = acted_line rules i p

  -- the lines after the attempt are straight again, and do the same
  abbrev pub After : Listing → Listing → Type 0
  After ls ms = Joined p.fam d.value ls ms × Straight indent ms

  -- one line unchanged, before others
  pass : (k : ℕ) (l : Line) (ls : Listing) (y : Text) → l.indent ≡ indent → Assigns l.tokens y → touch l p.fam (volatile rules) ≡ None → any (of_family y) p.expr ≡ false
      → After ls (map_from (acted_line rules i p) (suc k) ls) → After (l ∷ ls) (map_from (acted_line rules i p) k (l ∷ ls))
  pass k l ls y e a t n more =
      let u = untouched p.fam (volatile rules) l.tokens t in
      subst⁻¹ (λ (m : Line). After (l ∷ ls) (m ∷ map_from (acted_line rules i p) (suc k) ls)) (none_line rules i p k l t)
      (step y (pass_assign rules.edition p.fam d.value (right_side_of p) l.tokens y a u (other-register p.fam y l.tokens a u)) (keeps d y n) more.0, next y e a more.1)

  no_more : Dead p.fam []
  unfolding execute
  no_more a σ = refl

  -- ---- an expression, to one use

  module _ (base : ℕ) (labels : Labels) (is_call : Bool) (pos : ℕ)
      (found : position (of_family p.fam) (lines at p.last).tokens ≡ some pos)
      (brackets : p.brackets ≡ wants_brackets rules p.expr (lines at p.last).tokens pos)
      (suits : Suits rules p.expr (lines at p.last).tokens pos)
      (unwritten-there : written_from p.fam (lines at p.last).tokens ≡ false)
      (dead : dead_after lines p.last p.fam base labels i (volatile rules) ≡ true) where
    -- the tokens of the use
    use_returns : (ts : List Token) → Returns ts → ts ≡ (lines at p.last).tokens → count (of_family p.fam) ts ≡ 1
        → Replaced p.fam d.value none ts (new rules.edition p.fam d.value (right_side_of p) ts) × Returns (new rules.edition p.fam d.value (right_side_of p) ts)
    use_returns [] x4 e one = elim x4 [ ]
    use_returns (t ∷ ts) (returns w r a) e one =
        use_return rules.edition p.fam d.value (right_side_of p) t ts (returns w r a)
        (single-fits d rules p refl t ts equals pos tt tt a (return-family p.fam t w)
        (ap (position (of_family p.fam)) e ∙ found) one (brackets ∙ ap (λ (us : List Token). wants_brackets rules p.expr us pos) (sym e))
        (subst⁻¹ (λ (us : List Token). Suits rules p.expr us pos) e suits))

    use_assigns : (ts : List Token) (y : Text) → Assigns ts y → ts ≡ (lines at p.last).tokens → count (of_family p.fam) ts ≡ 1
        → Replaced p.fam d.value (some y) ts (new rules.edition p.fam d.value (right_side_of p) ts) × Assigns (new rules.edition p.fam d.value (right_side_of p) ts) y
    use_assigns [] y x4 e one = elim x4 [ ]
    use_assigns (t ∷ ts) y (assigns w r a) e one =
        let n : of_family p.fam t ≡ false = unwritten p.fam y t ts (assigns w r a) (ap (written_from p.fam) e ∙ unwritten-there) in
        use_assign rules.edition p.fam d.value (right_side_of p) t ts y (assigns w r a) (sym (wide-family p.fam y t w) ∙ n) n
        (single-fits d rules p refl t ts fresh pos tt tt a n
        (ap (position (of_family p.fam)) e ∙ found) one (brackets ∙ ap (λ (us : List Token). wants_brackets rules p.expr us pos) (sym e))
        (subst⁻¹ (λ (us : List Token). Suits rules p.expr us pos) e suits))

    -- the line of the use
    module _ (k : ℕ) (l : Line) (ls : Listing) (e : drop k lines ≡ l ∷ ls) (lt : i < k) (same : p.last ≡ k) (t : touch l p.fam (volatile rules) ≡ Use 1) where
      tokens_are : l.tokens ≡ (lines at p.last).tokens
      tokens_are = ap (λ (m : Line). m.tokens) (sym (drop-step k lines l ls e).0) ∙ ap (λ (n : ℕ). (lines at n).tokens) (sym same)

      rest-dead : Straight indent ls → Dead p.fam ls
      unfolding dead_after
      rest-dead s =
          dead-sound lines p.fam base labels i (volatile rules) (suc p.last) s
          (subst (λ (r : Listing). dead_from lines p.fam base labels i (volatile rules) (suc p.last) r ≡ true)
          (ap (λ (n : ℕ). drop (suc n) lines) same ∙ (drop-step k lines l ls e).1) dead)

      rewritten_here : After (l ∷ ls) (rewrite_use rules.edition p.fam (right_side_of p) l ∷ ls) → After (l ∷ ls) (map_from (acted_line rules i p) k (l ∷ ls))
      rewritten_here h =
          subst⁻¹ (λ (m : Line). After (l ∷ ls) (m ∷ map_from (acted_line rules i p) (suc k) ls)) (used_line rules i p k l 1 lt (omega arith) t)
          (subst⁻¹ (λ (ms : Listing). After (l ∷ ls) (rewrite_use rules.edition p.fam (right_side_of p) l ∷ ms)) (past_lines rules i p (suc k) ls (omega arith)) h)

      at_assign : (y : Text) → l.indent ≡ indent → Assigns l.tokens y → Straight indent ls → After (l ∷ ls) (map_from (acted_line rules i p) k (l ∷ ls))
      unfolding rewrite_use
      at_assign y il a s =
          let u = use_assigns l.tokens y a tokens_are (use_count l.tokens p.fam (volatile rules) 1 t) in
          rewritten_here (end (some y) u.0 (rest-dead s), next y il u.1 s)

    at_return : (k : ℕ) (l : Line) → drop k lines ≡ l ∷ [] → i < k → p.last ≡ k → touch l p.fam (volatile rules) ≡ Use 1 → l.indent ≡ indent → Returns l.tokens
        → After (l ∷ []) (map_from (acted_line rules i p) k (l ∷ []))
    unfolding rewrite_use
    at_return k l e lt same t il r =
        let u = use_returns l.tokens r (tokens_are k l [] e lt same t) (use_count l.tokens p.fam (volatile rules) 1 t) in
        rewritten_here k l [] e lt same t (end none u.0 no_more, last il u.1)

    passed : (l : Line) (y : Text) → Assigns l.tokens y → harmless base p.fam p.expr is_call (volatile rules) l ≡ true → any (of_family y) p.expr ≡ false
    unfolding harmless
    passed l y a h =
        let to = some-true (both h).1 in
        let f = some-true to.2 in
        sym (mentions p.expr y) ∙ ap (has (expr_fams p.expr)) (sym (assigned-family l.tokens y to.0 f.0 a (assigns_of l.tokens to.0 to.1) f.1))
        ∙ not-true (both f.2).0

    pub single-after : (k : ℕ) {ls : Listing} → drop k lines ≡ ls → i < k → Straight indent ls → use_from base p.fam p.expr is_call (volatile rules) k ls ≡ some p.last
        → After ls (map_from (acted_line rules i p) k ls)
    unfolding use_from
    single-after k e lt (last {l = l} il r) u =
        by_touch (λ (o : Option ℕ). o ≡ some p.last → After (l ∷ []) (map_from (acted_line rules i p) k (l ∷ [])))
        (λ t v. absurd (none-some (if_some v).1))
        (λ t v. absurd (none-some v))
        (λ n t v. (let q = if_some v in at_return k l e lt (sym (some_inj q.1)) (t ∙ ap Use (same_number q.0)) il r))
        (unless-some u).1
    single-after k e lt (next {l = l} {ls = ls} y il a more) u =
        by_touch (λ (o : Option ℕ). o ≡ some p.last → After (l ∷ ls) (map_from (acted_line rules i p) k (l ∷ ls)))
        (λ t v.
        (let h = if_some v in
        pass k l ls y il a t (passed l y a h.0) (single-after (suc k) (drop-step k lines l ls e).1 (omega arith) more h.1)))
        (λ t v. absurd (none-some v))
        (λ n t v. (let q = if_some v in at_assign k l ls e lt (sym (some_inj q.1)) (t ∙ ap Use (same_number q.0)) y il a more))
        (unless-some u).1

  -- ---- a lone number, to several uses

  module _ (base : ℕ) (same_base : indent ≡ base) (n₀ : Token) (lone : p.expr ≡ n₀ ∷ []) (number₀ : is Number n₀ ≡ true) (bare : p.brackets ≡ false) where
    fits : (ts : List Token) (s : State) (σ : Store) → TokensFit p.fam (d.value σ) σ (right_side_of p) ts s
    unfolding right_side_of
    fits ts s σ = subst⁻¹ (λ (r : List Token). TokensFit p.fam (d.value σ) σ r ts s) (if-false _ _ bare) (lone-fits d n₀ lone ts s σ)

    no_register : (y : Text) → any (of_family y) p.expr ≡ false
    no_register y =
        subst⁻¹ (λ (r : List Token). any (of_family y) r ≡ false) lone
        (or_false _ (fails (λ h. true-false (family-register y n₀ h) (other_kind Number Register n₀ refl number₀))))

    constant-returns : (ts : List Token) → Returns ts
        → Replaced p.fam d.value none ts (new rules.edition p.fam d.value (right_side_of p) ts) × Returns (new rules.edition p.fam d.value (right_side_of p) ts)
    constant-returns [] r = elim r [ ]
    constant-returns (t ∷ ts) r = use_return rules.edition p.fam d.value (right_side_of p) t ts r (fits ts equals)

    constant-assigns : (ts : List Token) (y : Text) → Assigns ts y → bad_use p.fam ts ≡ false
        → Replaced p.fam d.value (some y) ts (new rules.edition p.fam d.value (right_side_of p) ts) × Assigns (new rules.edition p.fam d.value (right_side_of p) ts) y
    unfolding bad_use
    constant-assigns [] y x3 b = elim x3 [ ]
    constant-assigns (t ∷ ts) y (assigns w r a) b =
        let n : of_family p.fam t ≡ false = unwritten p.fam y t ts (assigns w r a) (neither b).0 in
        use_assign rules.edition p.fam d.value (right_side_of p) t ts y (assigns w r a) (sym (wide-family p.fam y t w) ∙ n) n (fits ts fresh)

    -- what `gather` found, and what it makes of the lines
    abbrev Gathers : ℕ → Listing → Uses → Type 0
    Gathers k ls u =
        u.last ≡ p.last → any (λ j. bad_use p.fam (lines at j).tokens) u.uses ≡ false → After ls (map_from (acted_line rules i p) k ls)

    pub constant-after : (k : ℕ) {ls : Listing} (m : ℕ) → drop k lines ≡ ls → i < k → m < k → Straight indent ls → Gathers k ls (gather base p.fam (volatile rules) k ls m)
    unfolding gather rewrite_use
    constant-after k m e lt before (last {l = l} il r) =
        by-if (Gathers k (l ∷ []))
        (λ h. absurd (true-false h (returns-run base l (il ∙ same_base) r)))
        (λ h. by_touch (Gathers k (l ∷ []))
        (λ t. by-if (Gathers k (l ∷ []))
        (λ o. absurd (true-false o (returns_no_braces l.tokens r)))
        (λ o at_last good.
        subst⁻¹ (λ (x : Line). After (l ∷ []) (x ∷ [])) (none_line rules i p k l t)
        (end none (pass_return rules.edition p.fam d.value (right_side_of p) l.tokens r (untouched p.fam (volatile rules) l.tokens t)) no_more, last il r)))
        (λ t. absurd (returns_no_kill p.fam (volatile rules) l.tokens r (killed p.fam (volatile rules) l.tokens (returns-no_call l.tokens r) t)))
        (λ n t. by-if (Gathers k (l ∷ []))
        (λ o. absurd (true-false o (returns_no_braces l.tokens r)))
        (λ o at_last good.
        (let u = constant-returns l.tokens r in
        subst⁻¹ (λ (x : Line). After (l ∷ []) (x ∷ [])) (used_line rules i p k l n lt (omega arith) t) (end none u.0 no_more, last il u.1)))))
    constant-after k m e lt before (next {l = l} {ls = ls} y il a more) =
        let there = drop-step k lines l ls e in
        by-if (Gathers k (l ∷ ls))
        (λ h. absurd (true-false h (assigns-run base l y (il ∙ same_base) a)))
        (λ h. by_touch (Gathers k (l ∷ ls))
        (λ t. by-if (Gathers k (l ∷ ls))
        (λ o. absurd (true-false o (assigns_no_braces l.tokens y a)))
        (λ o at_last good. pass k l ls y il a t (no_register y) (constant-after (suc k) m there.1 (omega arith) (omega arith) more at_last good)))
        (λ t at_last good.
        (let kill = killed p.fam (volatile rules) l.tokens (assigns-no_call l.tokens y a) t in
        subst⁻¹ (λ (x : Line). After (l ∷ ls) (x ∷ map_from (acted_line rules i p) (suc k) ls)) (kill_line rules i p k l t)
        (subst⁻¹ (λ (ms : Listing). After (l ∷ ls) (l ∷ ms)) (past_lines rules i p (suc k) ls (omega arith))
        (over (killed_dead p.fam l ls (kills-assigns p.fam y (volatile rules) l.tokens a kill) kill.shape kill.lacks), next y il a more))))
        (λ n t. by-if (Gathers k (l ∷ ls))
        (λ o. absurd (true-false o (assigns_no_braces l.tokens y a)))
        (λ o at_last good.
        (let good' = neither good in
        let u = constant-assigns l.tokens y a (ap (λ (x : Line). bad_use p.fam x.tokens) (sym there.0) ∙ good'.0) in
        let far : k ≤ (gather base p.fam (volatile rules) (suc k) ls k).last = gather-last p.fam (volatile rules) base (suc k) ls k (omega arith) in
        let rest = constant-after (suc k) k there.1 (omega arith) (omega arith) more at_last good'.1 in
        subst⁻¹ (λ (x : Line). After (l ∷ ls) (x ∷ map_from (acted_line rules i p) (suc k) ls)) (used_line rules i p k l n lt (omega arith) t)
        (step y u.0 (keeps d y (no_register y)) rest.0, next y il u.1 rest.1)))))
