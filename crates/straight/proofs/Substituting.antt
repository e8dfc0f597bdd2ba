-- A register's tokens replaced by an expression: the line is read, under the old values, as it was read where the register held the expression's
-- value. Assumes nothing.
use Prim.Native.Nat.{ℕ, suc}
use native.Mathlib.Omega.{arith}
use mathlib.Core.Path.{◌≡◌, refl, sym, ap, ◌∙◌, subst, subst⁻¹}
use mathlib.Core.Bool.{Bool, true, false}
use mathlib.Core.List.{List, [], ◌∷◌}
use mathlib.Core.Option.{none, some}
use lib.Dec.{eqb}
use lib.IntN.{ℤ}
use Rattle.reference.specs.Control.{◌and◌, ◌or◌, when◌then◌else◌, let_some◌else◌then◌}
use Rattle.reference.specs.Lists.{any, count, position, get}
use Rattle.reference.specs.Text.{Text, bytes, ◌≟◌}
use Rattle.reference.specs.Listing.{Token, is, Register, Number, Punct, Plain}
use Rattle.reference.specs.Names.{Fam, fam_of, of_family}
use Rattle.reference.specs.Numbers.{fold_at, fold, joins, merge_into, merge}
use Rattle.reference.specs.Join.{substitute, text_or_empty}
use Rattle.reference.specs.Evaluators.{Store, wide, number_of, of_integer}
use Rattle.reference.specs.Straight.{assign, puncts_apart}
use Rattle.straight.proofs.Reader.{Pending, first, State, fresh, spaced, equals, wants, holds, gap, signed, done, broken, byte, text_step, term, token-step, run-tokens}
use Rattle.reference.proofs.Cases.{by-if, by-some, some_inj, none-some, if_some, bind-some, both, neither, either, not-true, true-false, fails}
use Rattle.reference.proofs.Shapes.{same_text, other_kind, joins-other, family-register, folds}
use Rattle.laws.proofs.Scans.{if-true, if-false, and_true}
use Rattle.straight.proofs.Machine.{run_append, step-punct, step-register, step_number, Step, punct, register, number, breaks, step_of}
use Rattle.straight.proofs.Folding.{merge-run, Begins, after-term, opens_text, token_begins, alive, term_wanted, fold_at-run}
use Rattle.straight.proofs.Expression.{Stands}

-- ---- families of tokens

pub wide-known : (t : Token) (y : Text) → wide t ≡ some y → (f : Fam) × (fam_of t ≡ some f) × (f.name ≡ y)
unfolding wide
wide-known t y w = let f = bind-some w in (f.0, f.1, some_inj (if_some f.2).1)

pub wide-register : (t : Token) (y : Text) → wide t ≡ some y → is Register t ≡ true
unfolding fam_of
wide-register t y w = (if_some (wide-known t y w).1).0

pub number_kind : (t : Token) (z : ℤ) → number_of t ≡ some z → is Number t ≡ true
unfolding number_of
number_kind t z n = (both (if_some n).0).0

-- a 64-bit register is of the family of its name, and of no other
pub wide-family : (x y : Text) (t : Token) → wide t ≡ some y → of_family x t ≡ (y ≟ x)
unfolding of_family let_some◌else◌then◌
wide-family x y t w = let f = wide-known t y w in rw f.1 (ap (λ (n : Text). n ≟ x) f.2)

pub assigned_same : (x y : Text) (v : ℕ) (σ : Store) → (y ≟ x) ≡ true → assign x v σ y ≡ v
assigned_same x y v σ e = if-true _ _ e

pub assigned-other : (x y : Text) (v : ℕ) (σ : Store) → (y ≟ x) ≡ false → assign x v σ y ≡ σ y
assigned-other x y v σ e = if-false _ _ e

-- ---- a register that is not read

module _ (x : Text) (v : ℕ) (σ : Store) where
  pub unread-token : (t : Token) (s : State) → of_family x t ≡ false → token-step (assign x v σ) t s ≡ token-step σ t s
  unread-token t s e = go (step_of σ t)
    where
      go : Step σ t → token-step (assign x v σ) t s ≡ token-step σ t s
      go (punct p) = step-punct (assign x v σ) t s p ∙ sym (step-punct σ t s p)
      go (register y w) =
          step-register (assign x v σ) t y s w ∙ ap (λ (u : ℕ). term u s) (assigned-other x y v σ (sym (wide-family x y t w) ∙ e)) ∙ sym (step-register σ t y s w)
      go (number z n) = step_number (assign x v σ) t z s n ∙ sym (step_number σ t z s n)
      go (breaks f) = f (assign x v σ) s ∙ sym (f σ s)

  pub unread : (ts : List Token) (s : State) → any (of_family x) ts ≡ false → run-tokens (assign x v σ) ts s ≡ run-tokens σ ts s
  unfolding run-tokens
  unread [] s e = refl
  unread (t ∷ ts) s e =
      let n = neither e in
      ap (run-tokens (assign x v σ) ts) (unread-token t s n.0) ∙ unread ts (token-step σ t s) n.1

-- ---- where an expression begins

-- behind these texts, and behind a space alone, which stands behind `return` and nowhere else
abbrev pub leads_text : Text → Bool
leads_text b = opens_text b or (b ≟ bytes " ")

-- no sign waits for its space
abbrev pub Unsigned : State → Type 0
Unsigned fresh = Unit {0}
Unsigned spaced = Unit {0}
Unsigned equals = Unit {0}
Unsigned (wants p k) = Unit {0}
Unsigned (holds v k) = Unit {0}
Unsigned (gap v k) = Unit {0}
Unsigned (signed p k) = ⊥
Unsigned (done v) = Unit {0}
Unsigned broken = Unit {0}

unsigned-term : (v : ℕ) (s : State) → Unsigned (term v s)
unfolding term
unsigned-term v fresh = tt
unsigned-term v spaced = tt
unsigned-term v equals = tt
unsigned-term v (wants p k) = tt
unsigned-term v (holds u k) = tt
unsigned-term v (gap u k) = tt
unsigned-term v (signed p k) = tt
unsigned-term v (done u) = tt
unsigned-term v broken = tt

after_space : (s : State) → Unsigned s → Begins (text_step (bytes " ") s)
unfolding text_step byte when◌then◌else◌
after_space fresh u = tt
after_space spaced u = tt
after_space equals u = refl
after_space (wants p k) u = tt
after_space (holds v []) u = tt
after_space (holds v (p ∷ k)) u = tt
after_space (gap v k) u = tt
after_space (signed p k) u = absurd u
after_space (done v) u = tt
after_space broken u = tt

-- between the token b and the tokens ts: an expression begins behind such a text, and a sign waits behind a Punct alone
pub record Leads (b : Token) (ts : List Token) (s : State) : Type 0 where
  pub begins : leads_text b.text ≡ true → Begins s
  pub behind : Bool
  pub apart : puncts_apart behind ts ≡ true
  pub unsigned : behind ≡ false → Unsigned s

pub leads_on : (σ : Store) (b t : Token) (ts : List Token) (s : State) → Leads b (t ∷ ts) s → Leads t ts (token-step σ t s)
unfolding puncts_apart
leads_on σ b t ts s l =
    let parts = both l.apart in
    record {
      begins = λ e. either (Begins (token-step σ t s)) e (token_begins σ t s) (λ h. space (not-true parts.0) (same_text t.text (bytes " ") h) (step_of σ t));
      behind = is Punct t;
      apart = parts.1;
      unsigned = λ n. still n (step_of σ t);
    }
  where
    space : (l.behind and is Punct t) ≡ false → t.text ≡ bytes " " → Step σ t → Begins (token-step σ t s)
    space n e (punct p) =
        subst⁻¹ Begins (step-punct σ t s p ∙ ap (λ (r : Text). text_step r s) e) (after_space s (l.unsigned (fails (λ (h : l.behind ≡ true). true-false p (sym (and_true (is Punct t) h) ∙ n)))))
    space n e (register x w) = subst⁻¹ Begins (step-register σ t x s w) (after-term (σ x) s)
    space n e (number z m) = subst⁻¹ Begins (step_number σ t z s m) (after-term (of_integer z) s)
    space n e (breaks f) = subst⁻¹ Begins (f σ s) tt

    still : is Punct t ≡ false → Step σ t → Unsigned (token-step σ t s)
    still n (punct p) = absurd (true-false p n)
    still n (register x w) = subst⁻¹ Unsigned (step-register σ t x s w) (unsigned-term (σ x) s)
    still n (number z m) = subst⁻¹ Unsigned (step_number σ t z s m) (unsigned-term (of_integer z) s)
    still n (breaks f) = subst⁻¹ Unsigned (f σ s) tt

-- ---- a register replaced

module _ (x : Text) (v : ℕ) (σ : Store) (rhs : List Token) where
  -- wherever a token of the family stands for a term, the right side may stand
  abbrev pub TokensFit : List Token → State → Type 0
  TokensFit [] s = Unit {0}
  TokensFit (t ∷ ts) s =
      (of_family x t ≡ true → (p : Pending) (k : List Pending) → s ≡ wants p k → Stands σ rhs v p k) × TokensFit ts (token-step (assign x v σ) t s)

  -- a token of the family, read
  stood : (u : ℕ) (t : Token) (ts : List Token) (s : State) → of_family x t ≡ true → ((p : Pending) (k : List Pending) → s ≡ wants p k → Stands σ rhs v p k)
      → run-tokens (assign x v σ) ts (token-step (assign x v σ) t s) ≡ done u → run-tokens σ rhs s ≡ token-step (assign x v σ) t s
  stood u t ts s e f h = go (step_of (assign x v σ) t)
    where
      τ : Store
      τ = assign x v σ

      go : Step τ t → run-tokens σ rhs s ≡ token-step τ t s
      go (punct p) = absurd (true-false p (other_kind Register Punct t refl (family-register x t e)))
      go (register y w) =
          let st : token-step τ t s ≡ term v s = step-register τ t y s w ∙ ap (λ (n : ℕ). term n s) (assigned_same x y v σ (sym (wide-family x y t w) ∙ e)) in
          let q = term_wanted τ u v s ts (sym (ap (run-tokens τ ts) st) ∙ h) in
          ap (run-tokens σ rhs) q.2 ∙ f q.0 q.1 q.2 ∙ ap (term v) (sym q.2) ∙ sym st
      go (number z n) = absurd (true-false (number_kind t z n) (other_kind Register Number t refl (family-register x t e)))
      go (breaks g) = absurd (alive τ u ts (token-step τ t s) h (g τ s))

  pub substituted : (u : ℕ) (ts : List Token) (s : State) → TokensFit ts s → run-tokens (assign x v σ) ts s ≡ done u → run-tokens σ (substitute x rhs ts) s ≡ done u
  unfolding substitute run-tokens
  substituted u [] s f h = h
  substituted u (t ∷ ts) s f h =
      by-if (λ (r : List Token). run-tokens σ r s ≡ done u)
      (λ e.
      run_append σ rhs (substitute x rhs ts) s ∙ ap (run-tokens σ (substitute x rhs ts)) (stood u t ts s e (f.0 e) h)
      ∙ substituted u ts (token-step (assign x v σ) t s) f.1 h)
      (λ e. ap (run-tokens σ (substitute x rhs ts)) (sym (unread-token x v σ t s e)) ∙ substituted u ts (token-step (assign x v σ) t s) f.1 h)

  -- ---- where it fits

  pub fits_anywhere : ((p : Pending) (k : List Pending) → Stands σ rhs v p k) → (ts : List Token) (s : State) → TokensFit ts s
  fits_anywhere f [] s = tt
  fits_anywhere f (t ∷ ts) s = (λ e p k q. f p k, fits_anywhere f ts (token-step (assign x v σ) t s))

  fits-nowhere : (ts : List Token) (s : State) → count (of_family x) ts ≡ 0 → TokensFit ts s
  fits-nowhere [] s e = tt
  fits-nowhere (t ∷ ts) s e = go (of_family x t) refl (fits-nowhere ts (token-step (assign x v σ) t s))
    where
      go : (b : Bool) → of_family x t ≡ b → (count (of_family x) ts ≡ 0 → TokensFit ts (token-step (assign x v σ) t s)) → TokensFit (t ∷ ts) s
      go true h ih = absurd (unfold when◌then◌else◌ in (let z = rw h at e in omega arith))
      go false h ih = (λ q. absurd (true-false q h), ih (sym (if-false _ _ h) ∙ e))

  -- one token of the family, behind a text behind which an expression begins
  pub fits-begun : ((k : List Pending) → Stands σ rhs v first k) → (b : Token) (ts : List Token) (pos : ℕ) (s : State) → Leads b ts s
      → position (of_family x) ts ≡ some pos → count (of_family x) ts ≡ 1 → leads_text (text_or_empty (get (b ∷ ts) pos)) ≡ true → TokensFit ts s
  unfolding let_some◌else◌then◌ when◌then◌else◌
  fits-begun f b [] pos s g at one o = absurd (none-some at)
  fits-begun f b (t ∷ ts) pos s g at one o = go (of_family x t) refl (λ n. fits-begun f t ts n τ (leads_on (assign x v σ) b t ts s g))
    where
      τ : State
      τ = token-step (assign x v σ) t s

      begun : leads_text b.text ≡ true → (p : Pending) (k : List Pending) → s ≡ wants p k → Stands σ rhs v p k
      begun h p k q = let e : p ≡ first = subst Begins q (g.begins h) in subst⁻¹ (λ (r : Pending). Stands σ rhs v r k) e (f k)

      go : (c : Bool) → of_family x t ≡ c
          → ((n : ℕ) → position (of_family x) ts ≡ some n → count (of_family x) ts ≡ 1 → leads_text (text_or_empty (get (t ∷ ts) n)) ≡ true → TokensFit ts τ)
          → TokensFit (t ∷ ts) s
      go true h ih =
          let zero_is : 0 ≡ pos = some_inj (sym (if-true _ _ h) ∙ at) in
          let here : leads_text b.text ≡ true = subst⁻¹ (λ (n : ℕ). leads_text (text_or_empty (get (b ∷ t ∷ ts) n)) ≡ true) zero_is o in
          let more : suc (count (of_family x) ts) ≡ 1 = sym (if-true _ _ h) ∙ one in
          (λ e. begun here, fits-nowhere ts τ (omega arith))
      go false h ih =
          let n = bind-some (sym (if-false _ _ h) ∙ at) in (
            λ e. absurd (true-false e h),
            ih n.0 n.1 (sym (if-false _ _ h) ∙ one)
                (subst⁻¹ (λ (m : ℕ). leads_text (text_or_empty (get (b ∷ t ∷ ts) m)) ≡ true) (some_inj n.2) o),
          )

-- ---- a line

-- the tokens behind a line's first one, folded
unfoldable pub fold_tail : ℕ → Token → List Token → List Token
fold_tail edition t [] = []
fold_tail edition t (b ∷ ts) = fold_at edition (some t) b ts

head_fold : (edition : ℕ) (t : Token) (ts : List Token) → is Number t ≡ false → fold edition (t ∷ ts) ≡ t ∷ fold_tail edition t ts
unfolding fold fold_at fold_tail
head_fold edition t [] e = refl
head_fold edition t (b ∷ []) e = refl
head_fold edition t (b ∷ c ∷ rest) e =
    by-some (λ (r : List Token). r ≡ t ∷ fold_at edition (some t) b (c ∷ rest)) (λ n. refl)
    (λ n h. absurd (true-false (folds edition none t b c rest n h).first e))

head_merge : (t : Token) (ts : List Token) → ((b : Token) → joins t b ≡ false) → merge (t ∷ ts) ≡ t ∷ merge ts
unfolding merge merge_into
head_merge t [] e = refl
head_merge t (b ∷ ts) e = if-false _ _ (e b)

-- a first token that takes part in no merging and folding
pub record Heads (t : Token) : Type 0 where
  pub kind : ℕ
  pub is_kind : is kind t ≡ true
  pub no_punct : eqb Punct kind ≡ false
  pub no_plain : eqb Plain kind ≡ false
  pub no_number : eqb kind Number ≡ false

unfoldable pub rewritten_tail : ℕ → Text → List Token → Token → List Token → List Token
rewritten_tail edition x rhs t ts = fold_tail edition t (merge (substitute x rhs ts))

pub rewritten : (edition : ℕ) (x : Text) (rhs : List Token) (t : Token) (ts : List Token) → Heads t → of_family x t ≡ false
    → fold edition (merge (substitute x rhs (t ∷ ts))) ≡ t ∷ rewritten_tail edition x rhs t ts
unfolding substitute rewritten_tail
rewritten edition x rhs t ts h e =
    ap (λ (r : List Token). fold edition (merge r)) (if-false _ _ e)
    ∙ ap (fold edition) (head_merge t (substitute x rhs ts) (λ b. fails (λ j. true-false h.is_kind (joins-other h.kind t b h.no_punct h.no_plain j).0)))
    ∙ head_fold edition t (merge (substitute x rhs ts)) (other_kind h.kind Number t h.no_number h.is_kind)

pub rewritten_run : (edition : ℕ) (x : Text) (v : ℕ) (σ : Store) (rhs : List Token) (u : ℕ) (t : Token) (ts : List Token) (s : State) → Begins s → TokensFit x v σ rhs ts s
    → run-tokens (assign x v σ) ts s ≡ done u → run-tokens σ (rewritten_tail edition x rhs t ts) s ≡ done u
unfolding rewritten_tail
rewritten_run edition x v σ rhs u t ts s g f h = tail (merge (substitute x rhs ts)) (merge-run σ (substitute x rhs ts) s ∙ substituted x v σ rhs u ts s f h)
  where
    tail : (us : List Token) → run-tokens σ us s ≡ done u → run-tokens σ (fold_tail edition t us) s ≡ done u
    tail [] e = unfold fold_tail in e
    tail (b ∷ us) e = unfold fold_tail in fold_at-run σ u edition (some t) b us s (λ d. g) e
