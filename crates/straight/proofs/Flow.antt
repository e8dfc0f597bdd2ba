-- Lines executed one after another: a straight listing, a register that is dead, and a definition that its uses take the place of. Assumes nothing.
use Prim.Native.Nat.{ℕ}
use mathlib.Core.Path.{◌≡◌, refl, sym, ap, ◌∙◌}
use mathlib.Core.Bool.{Bool, true, false}
use mathlib.Core.List.{List, [], ◌∷◌}
use mathlib.Core.Option.{Option, none, some}
use Rattle.reference.specs.Control.{let_some◌else◌then◌}
use Rattle.reference.specs.Lists.{any, is_some}
use Rattle.reference.specs.Text.{Text, bytes, ◌≟◌}
use Rattle.reference.specs.Listing.{Token, Register, Keyword, Line, Listing}
use Rattle.reference.specs.Names.{of_family}
use Rattle.reference.specs.Shapes.{Assignment, is_kw}
use Rattle.reference.specs.Evaluators.{modulo, Store, wide}
use Rattle.reference.specs.Straight.{assign, line_step, execute, puncts_apart}
use Rattle.straight.proofs.Reader.{first, State, fresh, equals, wants, holds, done, value_of, run-tokens}
use Rattle.reference.proofs.Cases.{both, true-false, fails}
use Rattle.reference.proofs.Shapes.{same_text, other_kind, Assigning}
use Rattle.laws.proofs.Scans.{if-true, if-false}
use Rattle.straight.proofs.Evaluators.{assigned_evaluates, returned_evaluates}
use Rattle.straight.proofs.Expression.{assigned-worth}
use Rattle.straight.proofs.Substituting.{wide-register, unread}

-- ---- straight listings

-- read to its end, whatever the values, from the state s
abbrev pub Reads : State → List Token → Type 0
Reads s ts = (σ : Store) → (v : ℕ) × (run-tokens σ ts s ≡ done v)

pub data Assigns : List Token → Text → Type 0 where
  assigns : {t : Token} {ts : List Token} {y : Text} → wide t ≡ some y → Reads fresh ts → puncts_apart false ts ≡ true → Assigns (t ∷ ts) y

pub data Returns : List Token → Type 0 where
  returns : {t : Token} {ts : List Token} → is_kw (bytes "return") t ≡ true → Reads equals ts → puncts_apart false ts ≡ true → Returns (t ∷ ts)

-- all lines at one indent
pub data Straight (indent : ℕ) : Listing → Type 0 where
  last : {l : Line} → l.indent ≡ indent → Returns l.tokens → Straight indent (l ∷ [])
  next : {l : Line} {ls : Listing} (y : Text) → l.indent ≡ indent → Assigns l.tokens y → Straight indent ls → Straight indent (l ∷ ls)

-- ---- one line executed

no_return : (t : Token) (y : Text) → wide t ≡ some y → is_kw (bytes "return") t ≡ false
unfolding is_kw
no_return t y w = fails (λ h. true-false (both h).0 (other_kind Register Keyword t refl (wide-register t y w)))

pub executes : (σ : Store) (t : Token) (ts : List Token) (y : Text) (v : ℕ) (k : Store → Option ℕ) → wide t ≡ some y → run-tokens σ ts fresh ≡ done v
    → line_step modulo σ (t ∷ ts) k ≡ k (assign y v σ)
unfolding line_step value_of let_some◌else◌then◌
executes σ t ts y v k w h = if-false _ _ (no_return t y w) ∙ rw (w, assigned_evaluates σ ts, h)

pub ends : (σ : Store) (t : Token) (ts : List Token) (v : ℕ) (k : Store → Option ℕ) → is_kw (bytes "return") t ≡ true → run-tokens σ ts equals ≡ done v
    → line_step modulo σ (t ∷ ts) k ≡ some v
unfolding line_step value_of
ends σ t ts v k w h = if-true _ _ w ∙ returned_evaluates σ ts ∙ rw h

-- A STRAIGHT LISTING RETURNS A VALUE, whatever the registers hold
pub straight_returns : {indent : ℕ} {ls : Listing} → Straight indent ls → (σ : Store) → is_some (execute modulo σ ls) ≡ true
unfolding execute
straight_returns (last {l = l} i r) σ = go l.tokens r
  where
    go : (ts : List Token) → Returns ts → is_some (line_step modulo σ ts (λ τ. execute modulo τ [])) ≡ true
    go [] x'' = elim x'' [ ]
    go (t ∷ ts) (returns w r p) = ap is_some (ends σ t ts (r σ).0 _ w (r σ).1)
straight_returns (next {l = l} {ls = ls} y i a more) σ = go l.tokens a (straight_returns more)
  where
    go : (ts : List Token) → Assigns ts y → ((τ : Store) → is_some (execute modulo τ ls) ≡ true)
        → is_some (line_step modulo σ ts (λ τ. execute modulo τ ls)) ≡ true
    go [] x3 k = elim x3 [ ]
    go (t ∷ ts) (assigns w r p) k = ap is_some (executes σ t ts y (r σ).0 _ w (r σ).1) ∙ k (assign y (r σ).0 σ)

-- ---- stores

-- the last assignment to a register counts
pub assign-again : (x : Text) (a b : ℕ) (σ : Store) → assign x a (assign x b σ) ≡ assign x a σ
assign-again x a b σ = λ i z. go z (z ≟ x) refl i
  where
    go : (z : Text) (c : Bool) → (z ≟ x) ≡ c → assign x a (assign x b σ) z ≡ assign x a σ z
    go z true e = if-true _ _ e ∙ sym (if-true _ _ e)
    go z false e = if-false _ _ e ∙ if-false _ _ e ∙ sym (if-false _ _ e)

-- assignments to two registers in either order
pub assign_swap : (x y : Text) (a b : ℕ) (σ : Store) → (y ≟ x) ≡ false → assign x a (assign y b σ) ≡ assign y b (assign x a σ)
assign_swap x y a b σ d = λ i z. go z (z ≟ x) refl (z ≟ y) refl i
  where
    go : (z : Text) (c : Bool) → (z ≟ x) ≡ c → (e : Bool) → (z ≟ y) ≡ e → assign x a (assign y b σ) z ≡ assign y b (assign x a σ) z
    go z true p true q = absurd (true-false (sym (ap (λ (n : Text). n ≟ x) (same_text z y q)) ∙ p) d)
    go z true p false q = if-true _ _ p ∙ sym (if-false _ _ q ∙ if-true _ _ p)
    go z false p true q = if-false _ _ p ∙ if-true _ _ q ∙ sym (if-true _ _ q)
    go z false p false q = if-false _ _ p ∙ if-false _ _ q ∙ sym (if-false _ _ q ∙ if-false _ _ p)

-- ---- a register that is dead

-- the lines do not tell what it holds
abbrev pub Dead : Text → Listing → Type 0
Dead x ls = (a : ℕ) (σ : Store) → execute modulo (assign x a σ) ls ≡ execute modulo σ ls

-- the tokens behind the first one do not mention it
abbrev pub Lacks : Text → List Token → Type 0
Lacks x [] = Unit {0}
Lacks x (t ∷ ts) = any (of_family x) ts ≡ false

-- a line that overwrites it, with a right side that lacks it
pub killed_dead : (x : Text) (l : Line) (ls : Listing) {to : Assignment} → Assigns l.tokens x → Assigning l.tokens to → any (of_family x) to.expr ≡ false
    → Dead x (l ∷ ls)
unfolding execute
killed_dead x l ls {to} g asg n a σ = go l.tokens g asg
  where
    held : {u v : ℕ} → holds u [] ≡ holds v [] → u ≡ v
    held e = cc

    go : (ts : List Token) → Assigns ts x → Assigning ts to → line_step modulo (assign x a σ) ts (λ τ. execute modulo τ ls) ≡ line_step modulo σ ts (λ τ. execute modulo τ ls)
    go [] x3 asg = elim x3 [ ]
    go (t ∷ ts) (assigns w r ap') asg =
        let v = r σ in
        let u = r (assign x a σ) in
        let same : u.0 ≡ v.0 =
        held (sym (assigned-worth (assign x a σ) u.0 asg u.1) ∙ unread x a σ to.expr (wants first []) n ∙ assigned-worth σ v.0 asg v.1) in
        executes (assign x a σ) t ts x u.0 _ w u.1
        ∙ ap (λ (τ : Store). execute modulo τ ls) (assign-again x u.0 a σ) ∙ ap (λ (m : ℕ). execute modulo (assign x m σ) ls) same ∙ sym (executes σ t ts x v.0 _ w v.1)

-- a line that has nothing to do with it, before lines that do not tell it
pub passed_dead : (x y : Text) (l : Line) (ls : Listing) → Assigns l.tokens y → (y ≟ x) ≡ false → Lacks x l.tokens → Dead x ls → Dead x (l ∷ ls)
unfolding execute
passed_dead x y l ls g d n dead a σ = go l.tokens g n
  where
    go : (ts : List Token) → Assigns ts y → Lacks x ts → line_step modulo (assign x a σ) ts (λ τ. execute modulo τ ls) ≡ line_step modulo σ ts (λ τ. execute modulo τ ls)
    go [] x3 n = elim x3 [ ]
    go (t ∷ ts) (assigns w r ap') n =
        let v = r σ in
        executes (assign x a σ) t ts y v.0 _ w (unread x a σ ts fresh n ∙ v.1)
        ∙ ap (λ (τ : Store). execute modulo τ ls) (sym (assign_swap x y a v.0 σ d)) ∙ dead a (assign y v.0 σ) ∙ sym (executes σ t ts y v.0 _ w v.1)

-- a return without it
pub returned-dead : (x : Text) (l : Line) (ls : Listing) → Returns l.tokens → Lacks x l.tokens → Dead x (l ∷ ls)
unfolding execute
returned-dead x l ls g n a σ = go l.tokens g n
  where
    go : (ts : List Token) → Returns ts → Lacks x ts → line_step modulo (assign x a σ) ts (λ τ. execute modulo τ ls) ≡ line_step modulo σ ts (λ τ. execute modulo τ ls)
    go [] x3 n = elim x3 [ ]
    go (t ∷ ts) (returns w r ap') n =
        let v = r σ in
        ends (assign x a σ) t ts v.0 _ w (unread x a σ ts equals n ∙ v.1) ∙ sym (ends σ t ts v.0 _ w v.1)

-- ---- a definition whose uses take its right side

-- the values of the right side, `value`, under each store
module _ (x : Text) (value : Store → ℕ) where
  -- a line with the register, and the same without it: read alike, where the register holds that value; the register that it assigns, if any
  pub data Replaced : Option Text → List Token → List Token → Type 0 where
    replaced_assign : {t : Token} {ts us : List Token} {y : Text} → wide t ≡ some y → (y ≟ x) ≡ false
        → ((σ : Store) → (v : ℕ) × (run-tokens (assign x (value σ) σ) ts fresh ≡ done v) × (run-tokens σ us fresh ≡ done v)) → Replaced (some y) (t ∷ ts) (t ∷ us)
    replaced_return : {t : Token} {ts us : List Token} → is_kw (bytes "return") t ≡ true
        → ((σ : Store) → (v : ℕ) × (run-tokens (assign x (value σ) σ) ts equals ≡ done v) × (run-tokens σ us equals ≡ done v)) → Replaced none (t ∷ ts) (t ∷ us)

  -- the lines after the definition, before and after the attempt: each passed line leaves the inputs of the right side alone
  pub data Joined : Listing → Listing → Type 0 where
    over : {ls : Listing} → Dead x ls → Joined ls ls
    step : {l m : Line} {ls ms : Listing} (y : Text) → Replaced (some y) l.tokens m.tokens → ((σ : Store) (w : ℕ) → value (assign y w σ) ≡ value σ)
        → Joined ls ms → Joined (l ∷ ls) (m ∷ ms)
    end : {l m : Line} {ls : Listing} (o : Option Text) → Replaced o l.tokens m.tokens → Dead x ls → Joined (l ∷ ls) (m ∷ ls)

  module _ (ls ms : Listing) where
    pub step_same : (y : Text) (ts us : List Token) → Replaced (some y) ts us → ((σ : Store) (w : ℕ) → value (assign y w σ) ≡ value σ)
        → ((σ : Store) → execute modulo (assign x (value σ) σ) ls ≡ execute modulo σ ms) → (σ : Store)
        → line_step modulo (assign x (value σ) σ) ts (λ τ. execute modulo τ ls) ≡ line_step modulo σ us (λ τ. execute modulo τ ms)
    step_same y ts us (replaced_assign {t = t} {ts = ts'} {us = us'} w d f) keeps ih σ =
        let v = f σ in
        let a : ℕ = value σ in
        executes (assign x a σ) t ts' y v.0 _ w v.1
        ∙ ap (λ (τ : Store). execute modulo τ ls) (sym (assign_swap x y a v.0 σ d))
        ∙ ap (λ (n : ℕ). execute modulo (assign x n (assign y v.0 σ)) ls) (sym (keeps σ v.0))
        ∙ ih (assign y v.0 σ)
        ∙ sym (executes σ t us' y v.0 _ w v.2)

  end_same : (ls : Listing) (o : Option Text) (ts us : List Token) → Replaced o ts us → Dead x ls → (σ : Store)
      → line_step modulo (assign x (value σ) σ) ts (λ τ. execute modulo τ ls) ≡ line_step modulo σ us (λ τ. execute modulo τ ls)
  end_same ls o ts us (replaced_assign {t = t} {ts = ts'} {us = us'} {y = y} w d f) dead σ =
      let v = f σ in
      let a : ℕ = value σ in
      executes (assign x a σ) t ts' y v.0 _ w v.1
      ∙ ap (λ (τ : Store). execute modulo τ ls) (sym (assign_swap x y a v.0 σ d))
      ∙ dead a (assign y v.0 σ)
      ∙ sym (executes σ t us' y v.0 _ w v.2)
  end_same ls o ts us (replaced_return {t = t} {ts = ts'} {us = us'} w f) dead σ =
      let v = f σ in ends (assign x (value σ) σ) t ts' v.0 _ w v.1 ∙ sym (ends σ t us' v.0 _ w v.2)

  pub joined_same : {ls ms : Listing} → Joined ls ms → (σ : Store) → execute modulo (assign x (value σ) σ) ls ≡ execute modulo σ ms
  unfolding execute
  joined_same (over {ls = ls} d) σ = d (value σ) σ
  joined_same (step {l = l} {m = m} {ls = ls} {ms = ms} y r keeps j) σ = step_same ls ms y l.tokens m.tokens r keeps (joined_same j) σ
  joined_same (end {l = l} {m = m} {ls = ls} o r d) σ = end_same ls o l.tokens m.tokens r d σ
