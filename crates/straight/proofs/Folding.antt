-- Merging and folding a line's tokens leave what they are read as. Assumes nothing.
use Prim.Native.Nat.{ℕ}
use mathlib.Core.Path.{◌≡◌, refl, sym, ap, ◌∙◌, subst, subst⁻¹}
use mathlib.Core.Bool.{Bool, true, false}
use mathlib.Core.List.{List, [], ◌∷◌, ◌++◌}
use mathlib.Core.Option.{Option, none, some}
use lib.Dec.{eqb}
use lib.IntN.{ℤ, ◌+ℤ◌, ◌-ℤ◌}
use Rattle.reference.specs.Control.{◌and◌, ◌or◌, when◌then◌else◌, let_some◌else◌then◌}
use Rattle.reference.specs.Text.{Text, bytes, ◌≟◌, ends_with}
use Rattle.reference.specs.Listing.{Token, token, is, Register, Number, Punct, Plain}
use Rattle.reference.specs.Names.{fam_of, family}
use Rattle.reference.specs.Numbers.{read_number, parse_c_number, show, wrap, delim_before, folded, fold_at, joins, merge_into, merge}
use Rattle.reference.specs.Evaluators.{Store, plus, minus, wide, number_of, of_integer}
use Rattle.straight.proofs.Reader.{Pending, first, adds, takes, apply, State, fresh, spaced, equals, wants, holds, gap, signed, done, broken, byte, text_step, term, token-step, run-tokens}
use Rattle.reference.proofs.Opened.{opened}
use Rattle.reference.proofs.Cases.{by-if, by-some, some_inj, none-some, if_some, bind-some, both, either, true-false, same_number}
use Rattle.reference.proofs.Shapes.{other_kind, same_text}
use Rattle.laws.proofs.Scans.{if-true, if-false, empty_is}
use Rattle.straight.proofs.Shown.{shown, wrap-plus, wrap-minus}
use Rattle.straight.proofs.Alike.{either_edition}
use Rattle.straight.proofs.Machine.{broken-done, text_append, run-broken, step-punct, step-register, step_number, Step, punct, register, number, breaks, step_of}

-- ---- merging

plain-breaks : (σ : Store) (t : Token) (s : State) → is Plain t ≡ true → token-step σ t s ≡ broken
unfolding token-step wide fam_of number_of let_some◌else◌then◌ when◌then◌else◌ ◌and◌
plain-breaks σ t s e = rw (other_kind Plain Punct t refl e, other_kind Plain Register t refl e, other_kind Plain Number t refl e)

joined_step : (σ : Store) (a b : Token) (s : State) → joins a b ≡ true → token-step σ (token a.kind (a.text ++ b.text)) s ≡ token-step σ b (token-step σ a s)
unfolding joins is
joined_step σ a b s e =
    let same : a.kind ≡ b.kind = same_number (both e).0 in
    either (token-step σ (token a.kind (a.text ++ b.text)) s ≡ token-step σ b (token-step σ a s)) (both e).1
    (λ p.
    (let q : is Punct a ≡ true = ap (λ (k : ℕ). eqb k Punct) same ∙ p in
    step-punct σ (token a.kind (a.text ++ b.text)) s q ∙ text_append a.text b.text s
    ∙ sym (ap (text_step b.text) (step-punct σ a s q)) ∙ sym (step-punct σ b (token-step σ a s) p)))
    (λ p.
    (let q : is Plain a ≡ true = ap (λ (k : ℕ). eqb k Plain) same ∙ p in
    plain-breaks σ (token a.kind (a.text ++ b.text)) s q ∙ sym (plain-breaks σ b (token-step σ a s) p)))

merge-into-run : (σ : Store) (last : Token) (ts : List Token) (s : State) → run-tokens σ (merge_into last ts) s ≡ run-tokens σ ts (token-step σ last s)
unfolding merge_into run-tokens
merge-into-run σ last [] s = refl
merge-into-run σ last (t ∷ ts) s =
    by-if (λ (r : List Token). run-tokens σ r s ≡ run-tokens σ ts (token-step σ t (token-step σ last s)))
    (λ e. merge-into-run σ (token last.kind (last.text ++ t.text)) ts s ∙ ap (run-tokens σ ts) (joined_step σ last t s e))
    (λ e. merge-into-run σ t ts (token-step σ last s))

pub merge-run : (σ : Store) (ts : List Token) (s : State) → run-tokens σ (merge ts) s ≡ run-tokens σ ts s
unfolding merge run-tokens
merge-run σ [] s = refl
merge-run σ (t ∷ ts) s = merge-into-run σ t ts s

-- ---- where an expression begins

-- if a term comes next, nothing waits for it
abbrev pub Begins : State → Type 0
Begins fresh = Unit {0}
Begins spaced = Unit {0}
Begins equals = Unit {0}
Begins (wants p k) = p ≡ first
Begins (holds v k) = Unit {0}
Begins (gap v k) = Unit {0}
Begins (signed p k) = Unit {0}
Begins (done v) = Unit {0}
Begins broken = Unit {0}

pub after-term : (v : ℕ) (s : State) → Begins (term v s)
unfolding term
after-term v fresh = tt
after-term v spaced = tt
after-term v equals = tt
after-term v (wants p k) = tt
after-term v (holds u k) = tt
after-term v (gap u k) = tt
after-term v (signed p k) = tt
after-term v (done u) = tt
after-term v broken = tt

after_open : (s : State) → Begins (text_step (bytes "(") s)
unfolding text_step byte when◌then◌else◌
after_open fresh = tt
after_open spaced = tt
after_open equals = tt
after_open (wants p k) = refl
after_open (holds v []) = tt
after_open (holds v (p ∷ k)) = tt
after_open (gap v k) = tt
after_open (signed p k) = tt
after_open (done v) = tt
after_open broken = tt

after_comma : (s : State) → Begins (text_step (bytes ", ") s)
unfolding text_step byte when◌then◌else◌
after_comma fresh = tt
after_comma spaced = tt
after_comma equals = tt
after_comma (wants p k) = tt
after_comma (holds v []) = tt
after_comma (holds v (p ∷ k)) = tt
after_comma (gap v k) = tt
after_comma (signed p k) = tt
after_comma (done v) = tt
after_comma broken = tt

after-equals : (s : State) → Begins (text_step (bytes " = ") s)
unfolding text_step byte when◌then◌else◌
after-equals fresh = refl
after-equals spaced = tt
after-equals equals = tt
after-equals (wants p k) = tt
after-equals (holds v []) = tt
after-equals (holds v (p ∷ k)) = tt
after-equals (gap v k) = tt
after-equals (signed p k) = tt
after-equals (done v) = tt
after-equals broken = tt

pub ends-split : (s t : Text) → ends_with s t ≡ true → (p : Text) × (s ≡ p ++ t)
ends-split [] t e = ([], sym (empty_is t e))
ends-split (x ∷ xs) t e =
    either ((p : Text) × (x ∷ xs ≡ p ++ t)) e
    (λ h. ([], same_text (x ∷ xs) t h))
    (λ h. (let r = ends-split xs t h in (x ∷ r.0, ap (λ (l : Text). x ∷ l) r.1)))

-- the texts behind which an expression begins
abbrev pub opens_text : Text → Bool
opens_text b = ends_with b (bytes "(") or ends_with b (bytes ", ") or ends_with b (bytes " = ")

text_begins : (b : Text) (s : State) → opens_text b ≡ true → Begins (text_step b s)
text_begins b s e =
    either (Begins (text_step b s)) e
    (λ h. behind (bytes "(") (ends-split b (bytes "(") h) after_open)
    (λ f. either (Begins (text_step b s)) f
    (λ h. behind (bytes ", ") (ends-split b (bytes ", ") h) after_comma)
    (λ h. behind (bytes " = ") (ends-split b (bytes " = ") h) after-equals))
  where
    behind : (t : Text) → (p : Text) × (b ≡ p ++ t) → ((s : State) → Begins (text_step t s)) → Begins (text_step b s)
    behind t q f = subst⁻¹ Begins (ap (λ (r : Text). text_step r s) q.1 ∙ text_append q.0 t s) (f (text_step q.0 s))

pub token_begins : (σ : Store) (t : Token) (s : State) → opens_text t.text ≡ true → Begins (token-step σ t s)
token_begins σ t s e = go (step_of σ t)
  where
    go : Step σ t → Begins (token-step σ t s)
    go (punct p) = subst⁻¹ Begins (step-punct σ t s p) (text_begins t.text s e)
    go (register x w) = subst⁻¹ Begins (step-register σ t x s w) (after-term (σ x) s)
    go (number z n) = subst⁻¹ Begins (step_number σ t z s n) (after-term (of_integer z) s)
    go (breaks f) = subst⁻¹ Begins (f σ s) tt

-- ---- folding

no_plus : (t : Text) → (t ≟ bytes " - ") ≡ true → (t ≟ bytes " + ") ≡ false
unfolding ◌and◌
no_plus t p = rw (same_text t (bytes " - ") p)

delimited : (edition : ℕ) (before : Option Token) (a b c : Token) (rest : List Token) (n : Token) → folded edition before a b c rest ≡ some n → delim_before before ≡ true
unfolding folded
delimited edition before a b c rest n e = (both (if_some e).0).0

module _ (σ : Store) (v : ℕ) where
  -- what is read to the end is not broken on the way
  pub alive : (ts : List Token) (s : State) → run-tokens σ ts s ≡ done v → s ≡ broken → ⊥
  alive ts s h e = broken-done (sym (run-broken σ ts) ∙ sym (ap (run-tokens σ ts) e) ∙ h)

  -- a Number that is read
  number_read : (t : Token) (ts : List Token) (s : State) → is Number t ≡ true → run-tokens σ (t ∷ ts) s ≡ done v → (z : ℤ) × (number_of t ≡ some z)
  unfolding run-tokens wide fam_of
  number_read t ts s n h = go (step_of σ t)
    where
      go : Step σ t → (z : ℤ) × (number_of t ≡ some z)
      go (punct p) = absurd (true-false p (other_kind Number Punct t refl n))
      go (register x w) = absurd (true-false (if_some (bind-some w).1).0 (other_kind Number Register t refl n))
      go (number z e) = (z, e)
      go (breaks f) = absurd (alive ts (token-step σ t s) h (f σ s))

  -- a term is read where one is wanted
  pub term_wanted : (w : ℕ) (s : State) (ts : List Token) → run-tokens σ ts (term w s) ≡ done v → (p : Pending) × (k : List Pending) × (s ≡ wants p k)
  unfolding term
  term_wanted w fresh ts h = absurd (alive ts broken h refl)
  term_wanted w spaced ts h = absurd (alive ts broken h refl)
  term_wanted w equals ts h = absurd (alive ts broken h refl)
  term_wanted w (wants p k) ts h = (p, k, refl)
  term_wanted w (holds u k) ts h = absurd (alive ts broken h refl)
  term_wanted w (gap u k) ts h = absurd (alive ts broken h refl)
  term_wanted w (signed p k) ts h = absurd (alive ts broken h refl)
  term_wanted w (done u) ts h = absurd (alive ts broken h refl)
  term_wanted w broken ts h = absurd (alive ts broken h refl)

  read-term : (t : Token) (ts : List Token) (s : State) → is Number t ≡ true → run-tokens σ (t ∷ ts) s ≡ done v
      → (p : Pending) × (k : List Pending) × (s ≡ wants p k)
  unfolding run-tokens
  read-term t ts s n h =
      let r = number_read t ts s n h in
      term_wanted (of_integer r.0) s ts (rw (step_number σ t r.0 s r.1) at h)

  -- by either edition
  parsed : (edition : ℕ) (t : Token) (x z : ℤ) → number_of t ≡ some z → read_number edition t.text ≡ some x → z ≡ x
  unfolding number_of
  parsed edition t x z n p = let h = if_some n in either_edition edition t.text (both h.0).1 h.1 p

  no_family : (t : Token) (b : Text) → t.text ≡ b → family b ≡ none → (x : Text) → wide t ≡ some x → ⊥
  unfolding wide fam_of
  no_family t b e f x w = none-some (sym f ∙ sym (ap family e) ∙ (if_some (bind-some w).1).1)

  no_number : (t : Token) (b : Text) → t.text ≡ b → parse_c_number b ≡ none → (z : ℤ) → number_of t ≡ some z → ⊥
  unfolding number_of
  no_number t b e p z n = none-some (sym p ∙ sym (ap parse_c_number e) ∙ (if_some n).1)

  -- a sign that is read is a Punct
  read-sign : (t : Token) (b : Text) (ts : List Token) (s : State) → t.text ≡ b → family b ≡ none → parse_c_number b ≡ none
      → run-tokens σ (t ∷ ts) s ≡ done v → token-step σ t s ≡ text_step b s
  unfolding run-tokens
  read-sign t b ts s e f p h = go (step_of σ t)
    where
      go : Step σ t → token-step σ t s ≡ text_step b s
      go (punct q) = step-punct σ t s q ∙ ap (λ (r : Text). text_step r s) e
      go (register x w) = absurd (no_family t b e f x w)
      go (number z n) = absurd (no_number t b e p z n)
      go (breaks g) = absurd (alive ts (token-step σ t s) h (g σ s))

  plus_text : (u : ℕ) (k : List Pending) → text_step (bytes " + ") (holds u k) ≡ wants (adds u) k
  unfolding text_step byte when◌then◌else◌
  plus_text u [] = refl
  plus_text u (p ∷ k) = refl

  minus_text : (u : ℕ) (k : List Pending) → text_step (bytes " - ") (holds u k) ≡ wants (takes u) k
  unfolding text_step byte when◌then◌else◌
  minus_text u [] = refl
  minus_text u (p ∷ k) = refl

  plus_none : (family (bytes " + ") ≡ none) × (parse_c_number (bytes " + ") ≡ none)
  unfolding opened
  plus_none = (refl, refl)

  minus_none : (family (bytes " - ") ≡ none) × (parse_c_number (bytes " - ") ≡ none)
  unfolding opened
  minus_none = (refl, refl)

  -- the three tokens, where an expression begins
  three-plus : (edition : ℕ) (a b c : Token) (rest : List Token) (k : List Pending) (x y : ℤ) → is Number a ≡ true → is Number c ≡ true → b.text ≡ bytes " + "
      → read_number edition a.text ≡ some x → read_number edition c.text ≡ some y → run-tokens σ (a ∷ b ∷ c ∷ rest) (wants first k) ≡ done v
      → run-tokens σ rest (holds (plus (of_integer x) (of_integer y)) k) ≡ done v
  unfolding run-tokens term apply
  three-plus edition a b c rest k x y na nc e px py h =
      let ra = number_read a (b ∷ c ∷ rest) (wants first k) na h in
      let s₁ : token-step σ a (wants first k) ≡ holds (of_integer x) k = step_number σ a _ (wants first k) ra.1 ∙ ap (λ (z : ℤ). holds (of_integer z) k) (parsed edition a x ra.0 ra.1 px) in
      let h₁ = rw s₁ at h in
      let s₂ = read-sign b (bytes " + ") (c ∷ rest) (holds (of_integer x) k) e plus_none.0 plus_none.1 h₁ ∙ plus_text (of_integer x) k in
      let h₂ = rw s₂ at h₁ in
      let rc = number_read c rest (wants (adds (of_integer x)) k) nc h₂ in
      let s₃ : token-step σ c (wants (adds (of_integer x)) k) ≡ holds (plus (of_integer x) (of_integer y)) k =
      step_number σ c _ (wants (adds (of_integer x)) k) rc.1 ∙ ap (λ (z : ℤ). holds (plus (of_integer x) (of_integer z)) k) (parsed edition c y rc.0 rc.1 py) in
      rw s₃ at h₂

  three-minus : (edition : ℕ) (a b c : Token) (rest : List Token) (k : List Pending) (x y : ℤ) → is Number a ≡ true → is Number c ≡ true → b.text ≡ bytes " - "
      → read_number edition a.text ≡ some x → read_number edition c.text ≡ some y → run-tokens σ (a ∷ b ∷ c ∷ rest) (wants first k) ≡ done v
      → run-tokens σ rest (holds (minus (of_integer x) (of_integer y)) k) ≡ done v
  unfolding run-tokens term apply
  three-minus edition a b c rest k x y na nc e px py h =
      let ra = number_read a (b ∷ c ∷ rest) (wants first k) na h in
      let s₁ : token-step σ a (wants first k) ≡ holds (of_integer x) k = step_number σ a _ (wants first k) ra.1 ∙ ap (λ (z : ℤ). holds (of_integer z) k) (parsed edition a x ra.0 ra.1 px) in
      let h₁ = rw s₁ at h in
      let s₂ = read-sign b (bytes " - ") (c ∷ rest) (holds (of_integer x) k) e minus_none.0 minus_none.1 h₁ ∙ minus_text (of_integer x) k in
      let h₂ = rw s₂ at h₁ in
      let rc = number_read c rest (wants (takes (of_integer x)) k) nc h₂ in
      let s₃ : token-step σ c (wants (takes (of_integer x)) k) ≡ holds (minus (of_integer x) (of_integer y)) k =
      step_number σ c _ (wants (takes (of_integer x)) k) rc.1 ∙ ap (λ (z : ℤ). holds (minus (of_integer x) (of_integer z)) k) (parsed edition c y rc.0 rc.1 py) in
      rw s₃ at h₂

  -- what they fold to, in their place
  fold-first : (edition : ℕ) (before : Option Token) (a b c n : Token) (rest : List Token) (k : List Pending) → folded edition before a b c rest ≡ some n
      → run-tokens σ (a ∷ b ∷ c ∷ rest) (wants first k) ≡ done v → run-tokens σ (n ∷ rest) (wants first k) ≡ done v
  unfolding folded run-tokens term apply
  fold-first edition before a b c n rest k e h =
      let f = if_some e in
      let tests = both (both (both f.0).1).1 in
      let x = bind-some f.1 in
      let y = bind-some x.2 in
      let sign : Bool = b.text ≟ bytes " + " in
      let made : (z : ℤ) (w : ℕ) → of_integer (wrap z) ≡ w → (when sign then x.0 +ℤ y.0 else x.0 -ℤ y.0) ≡ z
      → run-tokens σ rest (holds w k) ≡ done v → run-tokens σ (n ∷ rest) (wants first k) ≡ done v =
      λ z w o q r.
      (let st : token-step σ n (wants first k) ≡ holds w k =
      ap (λ (t : Token). token-step σ t (wants first k)) (sym (some_inj y.2) ∙ ap (λ (u : ℤ). token Number (show (wrap u))) q)
      ∙ step_number σ (token Number (show (wrap z))) (wrap z) (wants first k) (shown z) ∙ ap (λ (u : ℕ). holds u k) o in
      rw st r) in
      either (run-tokens σ (n ∷ rest) (wants first k) ≡ done v) (both tests.1).1
      (λ p. made (x.0 +ℤ y.0) _ (wrap-plus x.0 y.0) (if-true _ _ p)
      (three-plus edition a b c rest k x.0 y.0 tests.0 (both tests.1).0 (same_text b.text (bytes " + ") p) x.1 y.1 h))
      (λ p. made (x.0 -ℤ y.0) _ (wrap-minus x.0 y.0) (if-false _ _ (no_plus b.text p))
      (three-minus edition a b c rest k x.0 y.0 tests.0 (both tests.1).0 (same_text b.text (bytes " - ") p) x.1 y.1 h))

  fold_here : (edition : ℕ) (before : Option Token) (a b c n : Token) (rest : List Token) (s : State) → Begins s → folded edition before a b c rest ≡ some n
      → run-tokens σ (a ∷ b ∷ c ∷ rest) s ≡ done v → run-tokens σ (n ∷ rest) s ≡ done v
  unfolding folded
  fold_here edition before a b c n rest s g e h =
      let w = read-term a (b ∷ c ∷ rest) s (both (both (both (if_some e).0).1).1).0 h in
      let p : w.0 ≡ first = subst Begins w.2 g in
      let q : s ≡ wants first w.1 = w.2 ∙ ap (λ (r : Pending). wants r w.1) p in
      subst⁻¹ (λ (u : State). run-tokens σ (n ∷ rest) u ≡ done v) q
      (fold-first edition before a b c n rest w.1 e (subst (λ (u : State). run-tokens σ (a ∷ b ∷ c ∷ rest) u ≡ done v) q h))

  pub fold_at-run : (edition : ℕ) (before : Option Token) (a : Token) (ts : List Token) (s : State) → (delim_before before ≡ true → Begins s)
      → run-tokens σ (a ∷ ts) s ≡ done v → run-tokens σ (fold_at edition before a ts) s ≡ done v
  unfolding fold_at run-tokens delim_before
  fold_at-run edition before a [] s g h = h
  fold_at-run edition before a (b ∷ []) s g h = h
  fold_at-run edition before a (b ∷ c ∷ rest) s g h =
      by-some (λ (r : List Token). run-tokens σ r s ≡ done v)
      (λ e. fold_at-run edition (some a) b (c ∷ rest) (token-step σ a s) (λ d. token_begins σ a s d) h)
      (λ n e. fold_at-run edition before n rest s g (fold_here edition before a b c n rest s (g (delimited edition before a b c rest n e)) e h))
