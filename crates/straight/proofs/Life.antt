-- How the lines of a straight listing touch a register: without calls, braces and loops, `touch` and `dead_after` say what they seem to. Assumes nothing.
use Prim.Native.Nat.{ℕ, suc}
use native.Mathlib.Omega.{arith}
use mathlib.Core.Path.{◌≡◌, refl, sym, ap, ◌∙◌, subst}
use mathlib.Core.Bool.{Bool, true, false, false≢true}
use mathlib.Core.List.{List, [], ◌∷◌}
use mathlib.Core.Option.{none, some}
use lib.Dec.{eqb}
use borrow.Author.Tests.{ltb-false, eq-eqb}
use Rattle.reference.specs.Control.{not, ◌and◌, when◌then◌else◌, let_some◌else◌then◌}
use Rattle.reference.specs.Lists.{any, count, position, pairs_from, is_some}
use Rattle.reference.specs.Text.{Text, bytes, ◌≟◌, starts_with}
use Rattle.reference.specs.Listing.{Token, is, Register, Number, Keyword, Symbol, Punct, Line, Listing}
use Rattle.reference.specs.Names.{Fam, family, fam_of, of_family}
use Rattle.reference.specs.Shapes.{Assignment, is_kw, kw_in, calls_here, call_in, label_tokens}
use Rattle.reference.specs.Life.{Touch, None, Kill, kills, touch_of, Labels, scan, dead_from}
use Rattle.reference.specs.Join.{ends_run}
use Rattle.reference.specs.Evaluators.{Store}
use Rattle.straight.proofs.Reader.{State, fresh, equals, done, token-step, run-tokens}
use Rattle.reference.proofs.Cases.{by-if, by_touch, both, neither, not-true, true-false, fails, some_inj, if_some, some-true}
use Rattle.reference.proofs.Shapes.{same_text, other_kind, Assigning, assigning, assigning-register, assigns as assigns_of}
use Rattle.laws.proofs.Scans.{if-true, if-false, or_false, and_false}
use Rattle.straight.proofs.Machine.{Step, punct, register, number, breaks, step_of}
use Rattle.straight.proofs.Folding.{alive}
use Rattle.straight.proofs.Substituting.{wide-known, wide-register, number_kind, wide-family}
use Rattle.straight.proofs.Flow.{Reads, Assigns, assigns, Returns, returns, Straight, last, next, Dead, Lacks, killed_dead, passed_dead, returned-dead}

-- ---- kinds

any-less {ℓ} : {A : Type ℓ} (p q : A → Bool) → ((a : A) → p a ≡ true → q a ≡ true) → (xs : List A) → any q xs ≡ false → any p xs ≡ false
any-less p q f [] e = refl
any-less p q f (x ∷ xs) e =
    let n = neither e in
    or_false _ (fails (λ h. true-false (f x h) n.0)) ∙ any-less p q f xs n.1

-- what is read holds Registers, Numbers and Puncts only
pub kinds : (σ : Store) (v : ℕ) (k : ℕ) → eqb Punct k ≡ false → eqb Register k ≡ false → eqb Number k ≡ false
    → (ts : List Token) (s : State) → run-tokens σ ts s ≡ done v → any (is k) ts ≡ false
unfolding run-tokens
kinds σ v k hp hr hn [] s h = refl
kinds σ v k hp hr hn (t ∷ ts) s h = or_false _ (go (step_of σ t)) ∙ kinds σ v k hp hr hn ts (token-step σ t s) h
  where
    go : Step σ t → is k t ≡ false
    go (punct p) = other_kind Punct k t hp p
    go (register y w) = other_kind Register k t hr (wide-register t y w)
    go (number z n) = other_kind Number k t hn (number_kind t z n)
    go (breaks f) = absurd (alive σ v ts (token-step σ t s) h (f σ s))

zeros' : Store
zeros' x = 0

pub no_keywords : (s : State) (ts : List Token) → Reads s ts → any (is Keyword) ts ≡ false
no_keywords s ts r = kinds zeros' (r zeros').0 Keyword refl refl refl ts s (r zeros').1

pub no_symbols : (s : State) (ts : List Token) → Reads s ts → any (is Symbol) ts ≡ false
no_symbols s ts r = kinds zeros' (r zeros').0 Symbol refl refl refl ts s (r zeros').1

-- ---- keywords

pub no_word : (kw : Text) (ts : List Token) → any (is Keyword) ts ≡ false → any (is_kw kw) ts ≡ false
unfolding is_kw
no_word kw ts e = any-less (is_kw kw) (is Keyword) (λ t h. (both h).0) ts e

pub assigns_no-word : (kw : Text) (ts : List Token) (y : Text) → Assigns ts y → kw_in ts kw ≡ false
unfolding kw_in is_kw
assigns_no-word kw [] y x' = elim x' [ ]
assigns_no-word kw (t ∷ ts) y (assigns w r a) =
    or_false _ (fails (λ h. true-false (both h).0 (other_kind Register Keyword t refl (wide-register t y w)))) ∙ no_word kw ts (no_keywords fresh ts r)

-- ---- calls

no_calls : (t : Token) (ts : List Token) → ((u : Token) → calls_here (t, u) ≡ false) → any (is Symbol) ts ≡ false → any (is Keyword) ts ≡ false
    → position calls_here (pairs_from t ts) ≡ none
unfolding calls_here let_some◌else◌then◌
no_calls t [] f es ek = refl
no_calls t (u ∷ us) f es ek =
    let ns = neither es in
    let nk = neither ek in
    if-false _ _ (f u)
    ∙ rw (no_calls u us (λ w. or_false _ (and_false _ ns.0) ∙ and_false _ nk.0) ns.1 nk.1)

pub assigns-no_call : (ts : List Token) (y : Text) → Assigns ts y → call_in ts ≡ none
unfolding call_in calls_here
assigns-no_call [] y x' = elim x' [ ]
assigns-no_call (t ∷ ts) y (assigns w r a) =
    let reg = wide-register t y w in
    no_calls t ts (λ u. or_false _ (and_false _ (other_kind Register Symbol t refl reg)) ∙ and_false _ (other_kind Register Keyword t refl reg))
    (no_symbols fresh ts r) (no_keywords fresh ts r)

not_void : (t : Text) → (t ≟ bytes "return") ≡ true → starts_with t (bytes "((void") ≡ false
unfolding ◌and◌
not_void t e = rw (same_text t (bytes "return") e)

pub returns-no_call : (ts : List Token) → Returns ts → call_in ts ≡ none
unfolding call_in calls_here is_kw
returns-no_call [] x' = elim x' [ ]
returns-no_call (t ∷ ts) (returns w r a) =
    let k = both w in
    no_calls t ts (λ u. or_false _ (and_false _ (other_kind Keyword Symbol t refl k.0)) ∙ fails (λ h. true-false (both h).1 (not_void t.text k.1)))
    (no_symbols equals ts r) (no_keywords equals ts r)

-- ---- touches

count-any {ℓ} : {A : Type ℓ} (p : A → Bool) (xs : List A) → count p xs ≡ 0 → any p xs ≡ false
count-any p [] e = refl
count-any p (x ∷ xs) e = go (p x) refl (count-any p xs)
  where
    go : (b : Bool) → p x ≡ b → (count p xs ≡ 0 → any p xs ≡ false) → any p (x ∷ xs) ≡ false
    go true h ih = let z : suc (count p xs) ≡ 0 = sym (if-true _ _ h) ∙ e in absurd (omega arith)
    go false h ih = or_false _ h ∙ ih (sym (if-false _ _ h) ∙ e)

module _ (x : Text) (volatile : List Text) where
  -- a line that is not touched does not mention the register
  pub untouched : (ts : List Token) → touch_of ts x volatile ≡ None → any (of_family x) ts ≡ false
  unfolding touch_of
  untouched ts =
      by-if (λ (t : Touch). t ≡ None → any (of_family x) ts ≡ false)
      (λ b e. absurd (let z : ◌≡◌ {A = ℕ} 0 1 = cc in omega arith))
      (λ b. by-if (λ (t : Touch). t ≡ None → any (of_family x) ts ≡ false)
      (λ c e. absurd (let z : ◌≡◌ {A = ℕ} 0 1 = cc in omega arith))
      (λ c e. (let z = ltb-false 0 (count (of_family x) ts) c in count-any (of_family x) ts (omega arith))))

  -- what a kill is
  pub record Kills (ts : List Token) : Type 0 where
    pub to : Assignment
    pub fam : Fam
    pub shape : Assigning ts to
    pub family_is : family to.lhs.text ≡ some fam
    pub name_is : (fam.name ≟ x) ≡ true
    pub lacks : any (of_family x) to.expr ≡ false

  pub killed : (ts : List Token) → call_in ts ≡ none → touch_of ts x volatile ≡ Kill → Kills ts
  unfolding touch_of kills
  killed ts calls =
      by-if (λ (t : Touch). t ≡ Kill → Kills ts)
      (λ b e.
      (let a = some-true b in
      let f = some-true a.2 in
      let q = both f.2 in
      record { to = a.0; fam = f.0; shape = assigns_of ts a.0 a.1; family_is = f.1; name_is = q.0; lacks = not-true (both q.1).1 }))
      (λ b. by-if (λ (t : Touch). t ≡ Kill → Kills ts)
      (λ c e. absurd (let z : ◌≡◌ {A = ℕ} 0 1 = cc in omega arith))
      (λ c. by-if (λ (t : Touch). t ≡ Kill → Kills ts)
      (λ d e. absurd (false≢true (sym (ap is_some calls) ∙ (both d).0)))
      (λ d e. absurd (let z : ◌≡◌ {A = ℕ} 0 1 = cc in omega arith))))

-- ---- the lines of a straight listing

lacks_tail : (x : Text) (ts : List Token) → any (of_family x) ts ≡ false → Lacks x ts
lacks_tail x [] e = tt
lacks_tail x (t ∷ ts) e = (neither e).1

-- a line that does not mention a register assigns another
pub other-register : (x y : Text) (ts : List Token) → Assigns ts y → any (of_family x) ts ≡ false → (y ≟ x) ≡ false
other-register x y [] x3 e = elim x3 [ ]
other-register x y (t ∷ ts) (assigns w r a) e = sym (wide-family x y t w) ∙ (neither e).0

pub lhs_is : {ts : List Token} {to : Assignment} → Assigning ts to → (t : Token) (us : List Token) → ts ≡ t ∷ us → to.lhs ≡ t
lhs_is (assigning p q u c) t us e = cc

-- a line that kills a register assigns it
pub kills-assigns : (x y : Text) (volatile : List Text) (ts : List Token) → Assigns ts y → Kills x volatile ts → Assigns ts x
unfolding fam_of
kills-assigns x y volatile [] x3 k = elim x3 [ ]
kills-assigns x y volatile (t ∷ ts) (assigns w r a) k =
    let f = wide-known t y w in
    let same : k.to.lhs ≡ t = lhs_is k.shape t ts refl in
    let g : f.0 ≡ k.fam = some_inj (sym (if_some f.1).1 ∙ ap (λ (h : Token). family h.text) (sym same) ∙ k.family_is) in
    let n : y ≡ x = sym f.2 ∙ ap (λ (h : Fam). h.name) g ∙ same_text k.fam.name x k.name_is in
    subst (Assigns (t ∷ ts)) n (assigns w r a)

pub returns_no_kill : (x : Text) (volatile : List Text) (ts : List Token) → Returns ts → Kills x volatile ts → ⊥
unfolding is_kw
returns_no_kill x volatile [] x3 k = elim x3 [ ]
returns_no_kill x volatile (t ∷ ts) (returns w r a) k =
    let same : k.to.lhs ≡ t = lhs_is k.shape t ts refl in
    true-false (both w).0 (other_kind Register Keyword t refl (ap (is Register) (sym same) ∙ assigning-register k.shape))

label-first : (t : Token) (ts : List Token) → is Symbol t ≡ false → label_tokens (t ∷ ts) ≡ false
unfolding label_tokens
label-first t [] e = refl
label-first t (b ∷ []) e = fails (λ h. true-false (both h).1 e)
label-first t (b ∷ c ∷ ts) e = refl

pub assigns_no-label : (ts : List Token) (y : Text) → Assigns ts y → label_tokens ts ≡ false
assigns_no-label [] y x' = elim x' [ ]
assigns_no-label (t ∷ ts) y (assigns w r a) = label-first t ts (other_kind Register Symbol t refl (wide-register t y w))

pub returns_no-label : (ts : List Token) → Returns ts → label_tokens ts ≡ false
unfolding is_kw
returns_no-label [] x' = elim x' [ ]
returns_no-label (t ∷ ts) (returns w r a) = label-first t ts (other_kind Keyword Symbol t refl (both w).0)

not_goto : (t : Text) → (t ≟ bytes "return") ≡ true → (t ≟ bytes "goto") ≡ false
unfolding ◌and◌
not_goto t e = rw (same_text t (bytes "return") e)

returns_no_goto : (ts : List Token) → Returns ts → kw_in ts (bytes "goto") ≡ false
unfolding kw_in is_kw
returns_no_goto [] x' = elim x' [ ]
returns_no_goto (t ∷ ts) (returns w r a) =
    or_false _ (fails (λ h. true-false (both h).1 (not_goto t.text (both w).1))) ∙ no_word (bytes "goto") ts (no_keywords equals ts r)

not_while : (t : Text) → (t ≟ bytes "return") ≡ true → (t ≟ bytes "while") ≡ false
unfolding ◌and◌
not_while t e = rw (same_text t (bytes "return") e)

returns_no_while : (ts : List Token) → Returns ts → kw_in ts (bytes "while") ≡ false
unfolding kw_in is_kw
returns_no_while [] x' = elim x' [ ]
returns_no_while (t ∷ ts) (returns w r a) =
    or_false _ (fails (λ h. true-false (both h).1 (not_while t.text (both w).1))) ∙ no_word (bytes "while") ts (no_keywords equals ts r)

same_indent : (m n : ℕ) → m ≡ n → not (eqb m n) ≡ false
unfolding not
same_indent m n e = rw (eq-eqb m n e)

-- no run of lines ends before its end
pub assigns-run : (base : ℕ) (l : Line) (y : Text) → l.indent ≡ base → Assigns l.tokens y → ends_run base l ≡ false
unfolding ends_run
assigns-run base l y e a =
    or_false _ (assigns_no-label l.tokens y a) ∙ or_false _ (same_indent l.indent base e) ∙ or_false _ (assigns_no-word (bytes "while") l.tokens y a)
    ∙ assigns_no-word (bytes "goto") l.tokens y a

pub returns-run : (base : ℕ) (l : Line) → l.indent ≡ base → Returns l.tokens → ends_run base l ≡ false
unfolding ends_run
returns-run base l e r =
    or_false _ (returns_no-label l.tokens r) ∙ or_false _ (same_indent l.indent base e) ∙ or_false _ (returns_no_while l.tokens r)
    ∙ returns_no_goto l.tokens r

and_both : (b c : Bool) → (when b then c else false) ≡ true → (b ≡ true) × (c ≡ true)
unfolding when◌then◌else◌
and_both true c e = (refl, e)
and_both false c e = absurd (false≢true e)

module _ (lines : Listing) (x : Text) (base : ℕ) (labels : Labels) (start : ℕ) (volatile : List Text) where
  -- a register that `dead_after` calls dead is dead
  pub dead-sound : {indent : ℕ} (w : ℕ) {rest : Listing} → Straight indent rest → dead_from lines x base labels start volatile w rest ≡ true → Dead x rest
  unfolding dead_from scan
  dead-sound w (last {l = l} i r) e =
      let g = and_both _ _ (sym (if-false _ _ (returns_no_while l.tokens r)) ∙ e) in
      by_touch (λ (b : Bool). b ≡ true → Dead x (l ∷ []))
      (λ t h. returned-dead x l [] r (lacks_tail x l.tokens (untouched x volatile l.tokens t)))
      (λ t h. absurd (returns_no_kill x volatile l.tokens r (killed x volatile l.tokens (returns-no_call l.tokens r) t)))
      (λ n t h. absurd (false≢true h))
      g.1
  dead-sound w (next {l = l} {ls = ls} y i a more) e =
      let g = and_both _ _ (sym (if-false _ _ (assigns_no-word (bytes "while") l.tokens y a)) ∙ e) in
      by_touch (λ (b : Bool). b ≡ true → Dead x (l ∷ ls))
      (λ t h.
      (let u = untouched x volatile l.tokens t in
      passed_dead x y l ls a (other-register x y l.tokens a u) (lacks_tail x l.tokens u)
      (dead-sound (suc w) more (sym (if-false _ _ (and_false _ (assigns_no-word (bytes "return") l.tokens y a))) ∙ h))))
      (λ t h.
      (let k = killed x volatile l.tokens (assigns-no_call l.tokens y a) t in
      killed_dead x l ls (kills-assigns x y volatile l.tokens a k) k.shape k.lacks))
      (λ n t h. absurd (false≢true h))
      g.1
