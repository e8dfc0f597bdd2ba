-- A line of a straight listing, rewritten: it stays one, and is read as before, where the register holds the right side's value. Assumes nothing.
use Prim.Native.Nat.{ℕ}
use native.Mathlib.Omega.{arith}
use mathlib.Core.Path.{◌≡◌, refl, sym, ap, ◌∙◌, subst, subst⁻¹}
use mathlib.Core.Bool.{Bool, true, false}
use mathlib.Core.List.{List, [], ◌∷◌, ◌++◌}
use mathlib.Core.Option.{Option, none, some}
use Rattle.reference.specs.Control.{not, ◌and◌, ◌or◌, when◌then◌else◌, let_some◌else◌then◌}
use Rattle.reference.specs.Lists.{any}
use Rattle.reference.specs.Text.{Text, bytes, ◌≟◌, contains}
use Rattle.reference.specs.Listing.{Token, token, is, Register, Number, Keyword, Punct}
use Rattle.reference.specs.Names.{of_family}
use Rattle.reference.specs.Numbers.{fold_at, fold, joins, merge_into, merge}
use Rattle.reference.specs.Shapes.{is_kw, has_brace, braces_in, writes, is_written}
use Rattle.reference.specs.Join.{written_from, substitute}
use Rattle.reference.specs.Evaluators.{Store, wide}
use Rattle.reference.specs.Straight.{assign, puncts_apart}
use Rattle.straight.proofs.Reader.{State, fresh, spaced, equals, wants, holds, gap, signed, done, broken, byte, text_step, term, token-step, run-tokens}
use Rattle.reference.proofs.Cases.{by-if, by-some, both, neither, either, pair, not-true, true-false, fails, same_number}
use Rattle.reference.proofs.Shapes.{other_kind, folds, family-register}
use Rattle.laws.proofs.Scans.{or_false, or_true, and_true, and_false}
use Rattle.straight.proofs.Machine.{text_broken, Step, punct, register, number, breaks, step_of, step-punct, step-register, step_number}
use Rattle.straight.proofs.Folding.{alive}
use Rattle.straight.proofs.Substituting.{wide-register, unread, TokensFit, Heads, fold_tail, rewritten_tail, rewritten, rewritten_run}
use Rattle.straight.proofs.Flow.{Assigns, assigns, Returns, returns, Replaced, replaced_assign, replaced_return}

-- ---- Puncts stay apart

apart_cons : (b : Bool) (t : Token) (ts : List Token) → (b and is Punct t) ≡ false → puncts_apart (is Punct t) ts ≡ true → puncts_apart b (t ∷ ts) ≡ true
unfolding puncts_apart not
apart_cons b t ts e f = pair (rw e) f

apart_parts : (b : Bool) (t : Token) (ts : List Token) → puncts_apart b (t ∷ ts) ≡ true → ((b and is Punct t) ≡ false) × (puncts_apart (is Punct t) ts ≡ true)
unfolding puncts_apart
apart_parts b t ts e = let h = both e in (not-true h.0, h.1)

kind_is : (k : ℕ) (t : Token) → is k t ≡ true → t.kind ≡ k
unfolding is
kind_is k t e = same_number e

together : (a b : Token) → (is Punct a and is Punct b) ≡ true → joins a b ≡ true
unfolding joins
together a b h =
    let p = kind_is Punct a (both h).0 in
    let q = kind_is Punct b (both h).1 in
    pair (rw (p, q)) (or_true _ (both h).1)

merge-apart : (b : Bool) (last : Token) (ts : List Token) → (b and is Punct last) ≡ false → puncts_apart b (merge_into last ts) ≡ true
unfolding merge_into
merge-apart b last [] e = apart_cons b last [] e (unfold puncts_apart in refl)
merge-apart b last (t ∷ ts) e =
    by-if (λ (r : List Token). puncts_apart b r ≡ true)
    (λ j. merge-apart b (token last.kind (last.text ++ t.text)) ts (unfold is in e))
    (λ j. apart_cons b last (merge_into t ts) e (merge-apart (is Punct last) t ts (fails (λ h. true-false (together last t h) j))))

fold-apart : (edition : ℕ) (b : Bool) (before : Option Token) (a : Token) (ts : List Token) → puncts_apart b (a ∷ ts) ≡ true → puncts_apart b (fold_at edition before a ts) ≡ true
unfolding fold_at
fold-apart edition b before a [] e = e
fold-apart edition b before a (c ∷ []) e = e
fold-apart edition b before a (c ∷ d ∷ rest) e =
    by-some (λ (r : List Token). puncts_apart b r ≡ true)
    (λ n. (let p = apart_parts b a (c ∷ d ∷ rest) e in apart_cons b a _ p.0 (fold-apart edition (is Punct a) (some a) c (d ∷ rest) p.1)))
    (λ n h.
    (let f = folds edition before a c d rest n h in
    let p₁ = apart_parts b a (c ∷ d ∷ rest) e in
    let p₂ = apart_parts (is Punct a) c (d ∷ rest) p₁.1 in
    let p₃ = apart_parts (is Punct c) d rest p₂.1 in
    let nd : is Punct d ≡ false = other_kind Number Punct d refl f.last in
    let nn : is Punct n ≡ false = other_kind Number Punct n refl f.made in
    fold-apart edition b before n rest
    (apart_cons b n rest (fails (λ q. true-false (both q).1 nn))
    (ap (λ (x : Bool). puncts_apart x rest) (nn ∙ sym nd) ∙ p₃.1))))

tail_apart : (edition : ℕ) (x : Text) (rhs : List Token) (t : Token) (ts : List Token) → puncts_apart false (rewritten_tail edition x rhs t ts) ≡ true
unfolding rewritten_tail
tail_apart edition x rhs t ts = go (substitute x rhs ts)
  where
    folded_tail : (us : List Token) → puncts_apart false us ≡ true → puncts_apart false (fold_tail edition t us) ≡ true
    folded_tail [] e = unfold fold_tail in e
    folded_tail (b ∷ us) e = unfold fold_tail in fold-apart edition false (some t) b us e

    go : (us : List Token) → puncts_apart false (fold_tail edition t (merge us)) ≡ true
    go [] = folded_tail (merge []) (unfold merge puncts_apart in refl)
    go (u ∷ us) = folded_tail (merge (u ∷ us)) (unfold merge in merge-apart false u us (unfold ◌and◌ in refl))

-- ---- the lines

wide_heads : (t : Token) (y : Text) → wide t ≡ some y → Heads t
wide_heads t y w = record { kind = Register; is_kind = wide-register t y w; no_punct = refl; no_plain = refl; no_number = refl }

return_heads : (t : Token) → is_kw (bytes "return") t ≡ true → Heads t
unfolding is_kw
return_heads t e = record { kind = Keyword; is_kind = (both e).0; no_punct = refl; no_plain = refl; no_number = refl }

pub return-family : (x : Text) (t : Token) → is_kw (bytes "return") t ≡ true → of_family x t ≡ false
unfolding is_kw
return-family x t e = fails (λ h. true-false (family-register x t h) (other_kind Keyword Register t refl (both e).0))

module _ (edition : ℕ) (x : Text) (value : Store → ℕ) (rhs : List Token) where
  abbrev pub new : List Token → List Token
  new ts = fold edition (merge (substitute x rhs ts))

  -- a line that assigns another register
  pub use_assign : (t : Token) (ts : List Token) (y : Text) → Assigns (t ∷ ts) y → (y ≟ x) ≡ false → of_family x t ≡ false
      → ((σ : Store) → TokensFit x (value σ) σ rhs ts fresh) → Replaced x value (some y) (t ∷ ts) (new (t ∷ ts)) × Assigns (new (t ∷ ts)) y
  use_assign t ts y (assigns w r a) d n f =
      subst⁻¹ (λ (us : List Token). Replaced x value (some y) (t ∷ ts) us × Assigns us y) (rewritten edition x rhs t ts (wide_heads t y w) n)
      (replaced_assign w d both_read, assigns w (λ σ. (let v = both_read σ in (v.0, v.2))) (tail_apart edition x rhs t ts))
    where
      both_read : (σ : Store) → (v : ℕ) × (run-tokens (assign x (value σ) σ) ts fresh ≡ done v) × (run-tokens σ (rewritten_tail edition x rhs t ts) fresh ≡ done v)
      both_read σ = let v = r (assign x (value σ) σ) in (v.0, v.1, rewritten_run edition x (value σ) σ rhs v.0 t ts fresh tt (f σ) v.1)

  pub use_return : (t : Token) (ts : List Token) → Returns (t ∷ ts)
      → ((σ : Store) → TokensFit x (value σ) σ rhs ts equals) → Replaced x value none (t ∷ ts) (new (t ∷ ts)) × Returns (new (t ∷ ts))
  use_return t ts (returns w r a) f =
      subst⁻¹ (λ (us : List Token). Replaced x value none (t ∷ ts) us × Returns us) (rewritten edition x rhs t ts (return_heads t w) (return-family x t w))
      (replaced_return w both_read, returns w (λ σ. (let v = both_read σ in (v.0, v.2))) (tail_apart edition x rhs t ts))
    where
      both_read : (σ : Store) → (v : ℕ) × (run-tokens (assign x (value σ) σ) ts equals ≡ done v) × (run-tokens σ (rewritten_tail edition x rhs t ts) equals ≡ done v)
      both_read σ = let v = r (assign x (value σ) σ) in (v.0, v.1, rewritten_run edition x (value σ) σ rhs v.0 t ts equals tt (f σ) v.1)

  -- a line without the register
  pub pass_assign : (ts : List Token) (y : Text) → Assigns ts y → any (of_family x) ts ≡ false → (y ≟ x) ≡ false → Replaced x value (some y) ts ts
  pass_assign [] y x4 e d = elim x4 [ ]
  pass_assign (t ∷ ts) y (assigns w r a) e d =
      replaced_assign w d (λ σ. (let v = r σ in (v.0, unread x (value σ) σ ts fresh (neither e).1 ∙ v.1, v.1)))

  pub pass_return : (ts : List Token) → Returns ts → any (of_family x) ts ≡ false → Replaced x value none ts ts
  pass_return [] x3 e = elim x3 [ ]
  pass_return (t ∷ ts) (returns w r a) e =
      replaced_return w (λ σ. (let v = r σ in (v.0, unread x (value σ) σ ts equals (neither e).1 ∙ v.1, v.1)))

-- ---- behind the register that a line assigns stands ` = `

data Unbegun : State → Type 0 where
  at_fresh : Unbegun fresh
  at_spaced : Unbegun spaced
  at_equals : Unbegun equals

unbegun_term : (v : ℕ) (s : State) → Unbegun s → term v s ≡ broken
unfolding term
unbegun_term v s at_fresh = refl
unbegun_term v s at_spaced = refl
unbegun_term v s at_equals = refl

unbegun_done : (v : ℕ) (s : State) → Unbegun s → s ≡ done v → ⊥
unbegun_done v s at_fresh e = let z : ◌≡◌ {A = ℕ} 0 1 = cc in omega arith
unbegun_done v s at_spaced e = let z : ◌≡◌ {A = ℕ} 0 1 = cc in omega arith
unbegun_done v s at_equals e = let z : ◌≡◌ {A = ℕ} 0 1 = cc in omega arith

module _ (σ : Store) (v : ℕ) where
  -- a Punct that ends inside of it would have another one behind it
  unbegun : (s : State) → Unbegun s → (rest : List Token) → puncts_apart true rest ≡ true → run-tokens σ rest s ≡ done v → ⊥
  unfolding run-tokens
  unbegun s u [] a h = unbegun_done v s u h
  unbegun s u (t ∷ ts) a h = go (step_of σ t)
    where
      go : Step σ t → ⊥
      go (punct p) = true-false p (sym (and_true (is Punct t) refl) ∙ (apart_parts true t ts a).0)
      go (register y w) = alive σ v ts (token-step σ t s) h (step-register σ t y s w ∙ unbegun_term (σ y) s u)
      go (number z n) = alive σ v ts (token-step σ t s) h (step_number σ t z s n ∙ unbegun_term _ s u)
      go (breaks f) = alive σ v ts (token-step σ t s) h (f σ s)

  broken_text : (cs : Text) (rest : List Token) {X : Type 0} → run-tokens σ rest (text_step cs broken) ≡ done v → X
  broken_text cs rest h = absurd (alive σ v rest (text_step cs broken) h (text_broken cs))

  equals-first : (cs : Text) (rest : List Token) → puncts_apart true rest ≡ true → run-tokens σ rest (text_step cs fresh) ≡ done v
      → (ds : Text) × (cs ≡ 32 ∷ 61 ∷ 32 ∷ ds)
  unfolding text_step byte
  equals-first [] rest a h = absurd (unbegun fresh at_fresh rest a h)
  equals-first (c ∷ []) rest a h =
      by-if (λ (s : State). run-tokens σ rest s ≡ done v → (ds : Text) × (c ∷ [] ≡ 32 ∷ 61 ∷ 32 ∷ ds))
      (λ e k. absurd (unbegun spaced at_spaced rest a k)) (λ e k. broken_text [] rest k) h
  equals-first (c ∷ d ∷ []) rest a h =
      by-if (λ (s : State). run-tokens σ rest (byte d s) ≡ done v → (ds : Text) × (c ∷ d ∷ [] ≡ 32 ∷ 61 ∷ 32 ∷ ds))
      (λ e. by-if (λ (s : State). run-tokens σ rest s ≡ done v → (ds : Text) × (c ∷ d ∷ [] ≡ 32 ∷ 61 ∷ 32 ∷ ds))
      (λ f k. absurd (unbegun equals at_equals rest a k)) (λ f k. broken_text [] rest k))
      (λ e k. broken_text (d ∷ []) rest k)
      h
  equals-first (c ∷ d ∷ g ∷ cs) rest a h =
      by-if (λ (s : State). run-tokens σ rest (text_step cs (byte g (byte d s))) ≡ done v → (ds : Text) × (c ∷ d ∷ g ∷ cs ≡ 32 ∷ 61 ∷ 32 ∷ ds))
      (λ e. by-if (λ (s : State). run-tokens σ rest (text_step cs (byte g s)) ≡ done v → (ds : Text) × (c ∷ d ∷ g ∷ cs ≡ 32 ∷ 61 ∷ 32 ∷ ds))
      (λ f. by-if (λ (s : State). run-tokens σ rest (text_step cs s) ≡ done v → (ds : Text) × (c ∷ d ∷ g ∷ cs ≡ 32 ∷ 61 ∷ 32 ∷ ds))
      (λ m k. (cs, λ i. same_number {m = c} {n = 32} e i ∷ same_number {m = d} {n = 61} f i ∷ same_number {m = g} {n = 32} m i ∷ cs))
      (λ m k. broken_text cs rest k))
      (λ f k. broken_text (g ∷ cs) rest k))
      (λ e k. broken_text (d ∷ g ∷ cs) rest k)
      h

  equals-writes : (t : Token) (ds : Text) → is Punct t ≡ true → t.text ≡ 32 ∷ 61 ∷ 32 ∷ ds → writes t ≡ true
  unfolding writes ◌and◌ ◌or◌ not
  equals-writes t ds p e = rw (p, e)

  pub is_assigned : (t : Token) (ts : List Token) → puncts_apart false ts ≡ true → run-tokens σ ts fresh ≡ done v → is_written (t ∷ ts) 0 ≡ true
  unfolding is_written run-tokens let_some◌else◌then◌
  is_assigned t [] a h = absurd (unbegun_done v fresh at_fresh h)
  is_assigned t (u ∷ us) a h = go (step_of σ u)
    where
      go : Step σ u → writes u ≡ true
      go (punct p) =
          let q = equals-first u.text us (subst (λ (b : Bool). puncts_apart b us ≡ true) p (apart_parts false u us a).1) (sym (ap (run-tokens σ us) (step-punct σ u fresh p)) ∙ h) in
          equals-writes u q.0 p q.1
      go (register y w) = absurd (alive σ v us (token-step σ u fresh) h (step-register σ u y fresh w ∙ unbegun_term (σ y) fresh at_fresh))
      go (number z n) = absurd (alive σ v us (token-step σ u fresh) h (step_number σ u z fresh n ∙ unbegun_term _ fresh at_fresh))
      go (breaks f) = absurd (alive σ v us (token-step σ u fresh) h (f σ fresh))

zeros' : Store
zeros' x = 0

-- a register that is not written is not the one that the line assigns
pub unwritten : (x y : Text) (t : Token) (ts : List Token) → Assigns (t ∷ ts) y → written_from x (t ∷ ts) ≡ false → of_family x t ≡ false
unfolding written_from
unwritten x y t ts (assigns w r a) e =
    fails (λ h. true-false (pair h (is_assigned zeros' (r zeros').0 t ts a (r zeros').1)) (neither e).0)

-- ---- no braces

open_breaks : (s : State) → byte 123 s ≡ broken
unfolding byte when◌then◌else◌
open_breaks fresh = refl
open_breaks spaced = refl
open_breaks equals = refl
open_breaks (wants p k) = refl
open_breaks (holds v []) = refl
open_breaks (holds v (p ∷ k)) = refl
open_breaks (gap v k) = refl
open_breaks (signed p k) = refl
open_breaks (done v) = refl
open_breaks broken = refl

close_breaks : (s : State) → byte 125 s ≡ broken
unfolding byte when◌then◌else◌
close_breaks fresh = refl
close_breaks spaced = refl
close_breaks equals = refl
close_breaks (wants p k) = refl
close_breaks (holds v []) = refl
close_breaks (holds v (p ∷ k)) = refl
close_breaks (gap v k) = refl
close_breaks (signed p k) = refl
close_breaks (done v) = refl
close_breaks broken = refl

module _ (σ : Store) (v : ℕ) where
  no_byte : (b : ℕ) → ((s : State) → byte b s ≡ broken) → (cs : Text) (s : State) (rest : List Token) → run-tokens σ rest (text_step cs s) ≡ done v → contains cs b ≡ false
  unfolding text_step
  no_byte b f [] s rest h = refl
  no_byte b f (c ∷ cs) s rest h =
      or_false _ (fails (λ e.
      (let q : byte c s ≡ broken = subst (λ (n : ℕ). byte n s ≡ broken) (same_number {m = b} {n = c} e) (f s) in
      broken_text σ v cs rest (subst (λ (u : State). run-tokens σ rest (text_step cs u) ≡ done v) q h))))
      ∙ no_byte b f cs (byte c s) rest h

  pub no_braces : (ts : List Token) (s : State) → run-tokens σ ts s ≡ done v → braces_in ts ≡ false
  unfolding braces_in has_brace run-tokens
  no_braces [] s h = refl
  no_braces (t ∷ ts) s h = or_false _ (fails (λ e. go (both e))) ∙ no_braces ts (token-step σ t s) h
    where
      go : (is Punct t ≡ true) × ((contains t.text 123 or contains t.text 125) ≡ true) → ⊥
      go pq =
          let k = sym (ap (run-tokens σ ts) (step-punct σ t s pq.0)) ∙ h in
          either ⊥ pq.1 (λ e. true-false e (no_byte 123 open_breaks t.text s ts k)) (λ e. true-false e (no_byte 125 close_breaks t.text s ts k))

pub assigns_no_braces : (ts : List Token) (y : Text) → Assigns ts y → braces_in ts ≡ false
unfolding braces_in has_brace
assigns_no_braces [] y x' = elim x' [ ]
assigns_no_braces (t ∷ ts) y (assigns w r a) =
    or_false _ (and_false _ (other_kind Register Punct t refl (wide-register t y w))) ∙ no_braces zeros' (r zeros').0 ts fresh (r zeros').1

pub returns_no_braces : (ts : List Token) → Returns ts → braces_in ts ≡ false
unfolding braces_in has_brace is_kw
returns_no_braces [] x' = elim x' [ ]
returns_no_braces (t ∷ ts) (returns w r a) =
    or_false _ (and_false _ (other_kind Keyword Punct t refl (both w).0)) ∙ no_braces zeros' (r zeros').0 ts equals (r zeros').1
