-- In the profile of straight pieces an expression's text groups as it did: its Puncts hold no comma and no address, it gets brackets unless it is one
-- term, and a use stands between spaces and brackets. Assumes nothing.
use Prim.Native.Nat.{ℕ, zero, suc}
use native.Mathlib.Omega.{arith}
use mathlib.Core.Path.{◌≡◌, refl, sym, ap, ◌∙◌, subst}
use mathlib.Core.Logic.{◌⊎◌, inl, inr, ⊎_elim}
use mathlib.Core.Bool.{Bool, true, false}
use mathlib.Core.List.{List, [], ◌∷◌, flat_map, reverse_aux}
use lib.Dec.{eqb, ltb}
use lib.ListN.{length, take, get_or}
use borrow.Author.Tests.{ltb-false}
use Rattle.reference.specs.Control.{not, ◌and◌, ◌or◌, when◌then◌else◌, let_some◌else◌then◌}
use Rattle.reference.specs.Lists.{any, is_empty, get}
use Rattle.reference.specs.Text.{Text, bytes, contains, starts_with, ends_with}
use Rattle.reference.specs.Listing.{Token, is, Register, Number, Keyword, Address, Punct, Listing, ◌at◌}
use Rattle.reference.specs.Names.{Fam, of_family}
use Rattle.reference.specs.Rules.{Rules}
use Rattle.reference.specs.Shapes.{is_kw, is_operator_expr}
use Rattle.reference.specs.Join.{written_from, text_or_empty, is_bracketed}
use Rattle.reference.specs.Evaluators.{Store, of_integer}
use Rattle.reference.specs.Straight.{puncts_apart}
use Rattle.reference.proofs.Cases.{by-if, neither, both, true-false, fails, either, not-true, pair, same_number}
use Rattle.reference.proofs.Shapes.{other_kind, family-register}
use Rattle.laws.proofs.Scans.{if-true, or_false, and_false, and_true, or_true, any_append}
use Rattle.straight.proofs.Reader.{Pending, first, adds, takes, apply, State, fresh, spaced, equals, wants, holds, gap, signed, done, broken, byte, text_step, term, token-step, run-tokens}
use Rattle.straight.proofs.Machine.{text_broken, run-broken, step-punct, step-register, step_number, Step, punct, register, number, breaks, step_of}
use Rattle.straight.proofs.Substituting.{wide-register, number_kind}
use Rattle.straight.proofs.Expression.{Worth}
use Rattle.straight.proofs.Folding.{alive, term_wanted}
use Rattle.straight.proofs.Flow.{Assigns, assigns, Returns, returns, Straight, last, next}
use Rattle.straight.proofs.Rewriting.{return-family, unwritten}
use Rattle.cautions.specs.Texts.{frame, deeper, outside, after_unary, all_words, loose, last_byte}
use Rattle.cautions.specs.Uses.{OPERATORS, is_apart, is_address, groups}

-- ---- bytes that break the reader

comma_breaks : (s : State) → byte 44 s ≡ broken
unfolding byte when◌then◌else◌
comma_breaks fresh = refl
comma_breaks spaced = refl
comma_breaks equals = refl
comma_breaks (wants p k) = refl
comma_breaks (holds v []) = refl
comma_breaks (holds v (p ∷ k)) = refl
comma_breaks (gap v k) = refl
comma_breaks (signed p k) = refl
comma_breaks (done v) = refl
comma_breaks broken = refl

and_breaks : (s : State) → byte 38 s ≡ broken
unfolding byte when◌then◌else◌
and_breaks fresh = refl
and_breaks spaced = refl
and_breaks equals = refl
and_breaks (wants p k) = refl
and_breaks (holds v []) = refl
and_breaks (holds v (p ∷ k)) = refl
and_breaks (gap v k) = refl
and_breaks (signed p k) = refl
and_breaks (done v) = refl
and_breaks broken = refl

-- a Punct that holds a byte
abbrev Holding : ℕ → Token → Bool
Holding b t = is Punct t and contains t.text b

module _ (σ : Store) (b : ℕ) (f : (s : State) → byte b s ≡ broken) where
  text_lacks : (cs : Text) (s : State) (rest : List Token) → (run-tokens σ rest (text_step cs s) ≡ broken → ⊥) → contains cs b ≡ false
  unfolding text_step
  text_lacks [] s rest h = refl
  text_lacks (c ∷ cs) s rest h =
      or_false _ (fails (λ e.
      (let q : byte c s ≡ broken = subst (λ (n : ℕ). byte n s ≡ broken) (same_number {m = b} {n = c} e) (f s) in
      h (ap (λ (u : State). run-tokens σ rest (text_step cs u)) q ∙ ap (run-tokens σ rest) (text_broken cs) ∙ run-broken σ rest))))
      ∙ text_lacks cs (byte c s) rest h

  puncts_lack : (ts : List Token) (s : State) → (run-tokens σ ts s ≡ broken → ⊥) → any (Holding b) ts ≡ false
  unfolding run-tokens
  puncts_lack [] s h = refl
  puncts_lack (t ∷ ts) s h =
      or_false _ (fails (λ e.
      (let q = both e in
      true-false q.1 (text_lacks t.text s ts (λ w. h (ap (run-tokens σ ts) (step-punct σ t s q.0) ∙ w))))))
      ∙ puncts_lack ts (token-step σ t s) h

-- ---- what is seen of brackets

frame_lacks : (b : ℕ) → eqb b 40 ≡ false → eqb b 119 ≡ false → (ts : List Token) → any (Holding b) ts ≡ false → contains (frame ts) b ≡ false
unfolding frame flat_map
frame_lacks b x w [] h = refl
frame_lacks b x w (t ∷ ts) h =
    any_append (eqb b) _ (flat_map _ ts)
    ∙ or_false _ (by-if (λ (s : Text). contains s b ≡ false)
    (λ e. sym (and_true (contains t.text b) e) ∙ (neither {a = Holding b t} {b = any (Holding b) ts} h).0)
    (λ e. by-if (λ (s : Text). contains s b ≡ false) (λ g. or_false _ x) (λ g. or_false _ w)))
    ∙ frame_lacks b x w ts (neither {a = Holding b t} {b = any (Holding b) ts} h).1

outside_lacks : (b d : ℕ) (s : Text) → contains s b ≡ false → contains (outside d s) b ≡ false
unfolding outside
outside_lacks b d [] h = refl
outside_lacks b d (c ∷ cs) h =
    let ih = outside_lacks b (deeper c d) cs (neither {a = eqb b c} {b = contains cs b} h).1 in
    by-if (λ (s : Text). contains s b ≡ false) (λ e. or_false _ (neither {a = eqb b c} {b = contains cs b} h).0 ∙ ih) (λ e. ih)

-- ---- the expression

pub zeros : Store
zeros x = 0

unbroken : {v : ℕ} → holds v [] ≡ broken → ⊥
unbroken e = let z : ◌≡◌ {A = ℕ} 0 1 = cc in omega arith

-- a text alone is no value
no_value : (cs : Text) (p : Pending) (k : List Pending) (v : ℕ) → text_step cs (wants p k) ≡ holds v [] → ⊥
unfolding text_step byte
no_value [] p k v e = let z : ◌≡◌ {A = ℕ} 0 1 = cc in omega arith
no_value (c ∷ cs) p k v e =
    by-if (λ (s : State). text_step cs s ≡ holds v [] → ⊥) (λ f w. no_value cs first (p ∷ k) v w)
    (λ f w. unbroken (sym w ∙ text_broken cs)) e

-- a text that ends with `&` holds one
ends_holds : (s : Text) → ends_with s (bytes "&") ≡ true → contains s 38 ≡ true
ends_holds [] e = absurd (true-false e refl)
ends_holds (c ∷ cs) e =
    either (contains (c ∷ cs) 38 ≡ true) e
    (λ h. (let z : c ≡ 38 = same_number {m = c} {n = 38} (both h).0 in subst (λ (n : ℕ). contains (n ∷ cs) 38 ≡ true) (sym z) (or_true _ refl)))
    (λ h. later (eqb 38 c) (ends_holds cs h))
  where
    later : (b : Bool) → contains cs 38 ≡ true → (b or contains cs 38) ≡ true
    later true h = unfold ◌or◌ in refl
    later false h = unfold ◌or◌ in h

first_not : (expr : List Token) → any (is Address) expr ≡ false → any (Holding 38) expr ≡ false
    → any (λ t. is Address t or (is Punct t and ends_with t.text (bytes "&"))) (take 1 expr) ≡ false
first_not [] h g = refl
first_not (t ∷ ts) h g =
    or_false _
    (or_false _ (neither {a = is Address t} {b = any (is Address) ts} h).0
    ∙ fails (λ e. (let q = both e in true-false (pair q.0 (ends_holds t.text q.1)) (neither {a = Holding 38 t} {b = any (Holding 38) ts} g).0)))

lone : (expr : List Token) {v : ℕ} → Worth zeros expr v → ltb 1 (length expr) ≡ false → any (is Keyword) expr ≡ false → loose expr ≡ false
unfolding run-tokens
lone [] w e k = absurd (let z : ◌≡◌ {A = ℕ} 0 1 = cc in omega arith)
lone (t ∷ u ∷ us) w e k = let z = ltb-false 1 (suc (suc (length us))) e in absurd (omega arith)
lone (t ∷ []) {v} w e k =
    word t (fails (λ p. no_value t.text first [] v (sym (step-punct zeros t (wants first []) p) ∙ w))) (neither {a = is Keyword t} {b = false} k).0
  where
    word : (t : Token) → is Punct t ≡ false → is Keyword t ≡ false → loose (t ∷ []) ≡ false
    word t p k = unfold loose all_words after_unary outside deeper frame flat_map when◌then◌else◌ ◌and◌ ◌or◌ not in rw (p, k) refl

module _ (expr : List Token) (v : ℕ) (w : Worth zeros expr v) where
  alive_on : run-tokens zeros expr (wants first []) ≡ broken → ⊥
  alive_on e = unbroken (sym w ∙ e)

  no_comma : contains (outside 0 (frame expr)) 44 ≡ false
  no_comma = outside_lacks 44 0 (frame expr) (frame_lacks 44 refl refl expr (puncts_lack zeros 44 comma_breaks expr (wants first []) alive_on))

  no_and : any (Holding 38) expr ≡ false
  no_and = puncts_lack zeros 38 and_breaks expr (wants first []) alive_on

  no_address : (rules : Rules) (f : Fam) (ts : List Token) (u : ℕ) → any (is Address) expr ≡ false → is_address rules f expr ts u ≡ false
  unfolding is_address
  no_address rules f ts u h = first_not expr h no_and

  -- one term alone is one word
  one_word : ltb 1 (length expr) ≡ false → any (is Keyword) expr ≡ false → loose expr ≡ false
  one_word e k = lone expr w e k

-- AN EXPRESSION OF THE PROFILE GROUPS AS IT DID
pub grouped : (rules : Rules) → rules.profile ≡ true → (f : Fam) (expr ts : List Token) (u v : ℕ) → Worth zeros expr v
    → any (is Address) expr ≡ false → any (is Keyword) expr ≡ false → groups rules f expr ts u ≡ true
unfolding groups is_bracketed
grouped rules on f expr ts u v w a k =
    let far : is_address rules f expr ts u ≡ false = no_address expr v w rules f ts u a in
    by-if (λ (b : Bool). b ≡ true)
    (λ e. pair (opposite (no_comma expr v w)) (or_second _ (opposite far)))
    (λ e. pair (opposite far) (by_length (ltb 1 (length expr)) refl))
  where
    opposite : {b : Bool} → b ≡ false → not b ≡ true
    opposite {b} e = unfold not in rw e refl

    or_second : (b : Bool) {c : Bool} → c ≡ true → (b or c) ≡ true
    or_second true e = unfold ◌or◌ in refl
    or_second false e = unfold ◌or◌ in e

    by_length : (b : Bool) → ltb 1 (length expr) ≡ b
        → ((when rules.profile then ltb 1 (length expr) else is_operator_expr expr) or not (loose expr)) ≡ true
    by_length true e = or_true _ (if-true _ _ on ∙ e)
    by_length false e = or_second _ (opposite (one_word expr v w e k))

-- ---- where a use stands

-- the last byte of a text is a space or `(`
abbrev Opens : Text → Type 0
Opens s = (is_empty s ≡ false) × ((last_byte s ≡ 32) ⊎ (last_byte s ≡ 40))

front_of : (d : ℕ) (cs xs ys : Text) → get_or (reverse_aux (d ∷ cs) xs) 0 0 ≡ get_or (reverse_aux (d ∷ cs) ys) 0 0
front_of d [] xs ys = refl
front_of d (e ∷ cs) xs ys = front_of e cs (d ∷ xs) (d ∷ ys)

last_of : (c d : ℕ) (cs : Text) → last_byte (c ∷ d ∷ cs) ≡ last_byte (d ∷ cs)
last_of c d cs = front_of d cs (c ∷ []) []

-- a byte that does not break the reader is that byte
is_byte : (c b : ℕ) (t : State) {p : Pending} {k : List Pending} → (when eqb c b then t else broken) ≡ wants p k → c ≡ b
is_byte c b t {p} {k} e = same_number {m = c} {n = b} (go (eqb c b) e)
  where
    go : (x : Bool) → (when x then t else broken) ≡ wants p k → x ≡ true
    go true e = refl
    go false e = unfold when◌then◌else◌ in absurd (let z : ◌≡◌ {A = ℕ} 0 1 = cc in omega arith)

-- a byte behind which a term is wanted
wanted_byte : (c : ℕ) (s : State) (p : Pending) (k : List Pending) → byte c s ≡ wants p k → (c ≡ 32) ⊎ (c ≡ 40)
unfolding byte
wanted_byte c fresh p k e = absurd (other (eqb c 32) e)
  where
    other : (b : Bool) → (when b then spaced else broken) ≡ wants p k → ⊥
    other true e = unfold when◌then◌else◌ in let z : ◌≡◌ {A = ℕ} 0 1 = cc in omega arith
    other false e = unfold when◌then◌else◌ in let z : ◌≡◌ {A = ℕ} 0 1 = cc in omega arith
wanted_byte c spaced p k e = absurd (other (eqb c 61) e)
  where
    other : (b : Bool) → (when b then equals else broken) ≡ wants p k → ⊥
    other true e = unfold when◌then◌else◌ in let z : ◌≡◌ {A = ℕ} 0 1 = cc in omega arith
    other false e = unfold when◌then◌else◌ in let z : ◌≡◌ {A = ℕ} 0 1 = cc in omega arith
wanted_byte c equals p k e = inl (is_byte c 32 _ e)
wanted_byte c (wants q j) p k e = inr (is_byte c 40 _ e)
wanted_byte c (holds v []) p k e = absurd (other (eqb c 59) (eqb c 32) e)
  where
    other : (a b : Bool) → (when a then done v else when b then gap v [] else broken) ≡ wants p k → ⊥
    other true b e = unfold when◌then◌else◌ in let z : ◌≡◌ {A = ℕ} 0 1 = cc in omega arith
    other false true e = unfold when◌then◌else◌ in let z : ◌≡◌ {A = ℕ} 0 1 = cc in omega arith
    other false false e = unfold when◌then◌else◌ in let z : ◌≡◌ {A = ℕ} 0 1 = cc in omega arith
wanted_byte c (holds v (q ∷ j)) p k e = absurd (other (eqb c 41) (eqb c 32) e)
  where
    other : (a b : Bool) → (when a then holds (apply q v) j else when b then gap v (q ∷ j) else broken) ≡ wants p k → ⊥
    other true b e = unfold when◌then◌else◌ in let z : ◌≡◌ {A = ℕ} 0 1 = cc in omega arith
    other false true e = unfold when◌then◌else◌ in let z : ◌≡◌ {A = ℕ} 0 1 = cc in omega arith
    other false false e = unfold when◌then◌else◌ in let z : ◌≡◌ {A = ℕ} 0 1 = cc in omega arith
wanted_byte c (gap v j) p k e = absurd (other (eqb c 43) (eqb c 45) e)
  where
    other : (a b : Bool) → (when a then signed (adds v) j else when b then signed (takes v) j else broken) ≡ wants p k → ⊥
    other true b e = unfold when◌then◌else◌ in let z : ◌≡◌ {A = ℕ} 0 1 = cc in omega arith
    other false true e = unfold when◌then◌else◌ in let z : ◌≡◌ {A = ℕ} 0 1 = cc in omega arith
    other false false e = unfold when◌then◌else◌ in let z : ◌≡◌ {A = ℕ} 0 1 = cc in omega arith
wanted_byte c (signed q j) p k e = inl (is_byte c 32 _ e)
wanted_byte c (done v) p k e = absurd (let z : ◌≡◌ {A = ℕ} 0 1 = cc in omega arith)
wanted_byte c broken p k e = absurd (let z : ◌≡◌ {A = ℕ} 0 1 = cc in omega arith)

-- a text behind which a term is wanted
wanted_text : (c : ℕ) (cs : Text) (s : State) (p : Pending) (k : List Pending) → text_step (c ∷ cs) s ≡ wants p k → Opens (c ∷ cs)
unfolding text_step
wanted_text c [] s p k e = (refl, wanted_byte c s p k e)
wanted_text c (d ∷ cs) s p k e =
    let r = wanted_text d cs (byte c s) p k e in
    (refl, subst (λ (n : ℕ). (n ≡ 32) ⊎ (n ≡ 40)) (sym (last_of c d cs)) r.1)

-- a byte behind a value
held_byte : (c : ℕ) (v : ℕ) (k : List Pending) → (byte c (holds v k) ≡ broken → ⊥) → (c ≡ 59) ⊎ ((c ≡ 32) ⊎ (c ≡ 41))
unfolding byte
held_byte c v [] h = go (eqb c 59) refl (eqb c 32) refl h
  where
    go : (a : Bool) → eqb c 59 ≡ a → (b : Bool) → eqb c 32 ≡ b → ((when a then done v else when b then gap v [] else broken) ≡ broken → ⊥)
        → (c ≡ 59) ⊎ ((c ≡ 32) ⊎ (c ≡ 41))
    go true e b f h = inl (same_number {m = c} {n = 59} e)
    go false e true f h = inr (inl (same_number {m = c} {n = 32} f))
    go false e false f h = absurd (h (unfold when◌then◌else◌ in refl))
held_byte c v (p ∷ k) h = go (eqb c 41) refl (eqb c 32) refl h
  where
    go : (a : Bool) → eqb c 41 ≡ a → (b : Bool) → eqb c 32 ≡ b → ((when a then holds (apply p v) k else when b then gap v (p ∷ k) else broken) ≡ broken → ⊥)
        → (c ≡ 59) ⊎ ((c ≡ 32) ⊎ (c ≡ 41))
    go true e b f h = inr (inr (same_number {m = c} {n = 41} e))
    go false e true f h = inr (inl (same_number {m = c} {n = 32} f))
    go false e false f h = absurd (h (unfold when◌then◌else◌ in refl))

-- a byte behind that and a space: `%` is 37
gap_byte : (v : ℕ) (k : List Pending) → byte 37 (gap v k) ≡ broken
unfolding byte when◌then◌else◌
gap_byte v k = refl

blank : (v : ℕ) (k : List Pending) → byte 32 (holds v k) ≡ gap v k
unfolding byte when◌then◌else◌
blank v [] = refl
blank v (p ∷ k) = refl

-- what a text behind a value begins with
abbrev Ends : Text → Type 0
Ends s = (any (λ c. contains (bytes "),; ") c) (take 1 s) ≡ true) × (starts_with s (bytes " %") ≡ false)

-- ---- tokens in turn

apart_parts : (b : Bool) (t : Token) (ts : List Token) → puncts_apart b (t ∷ ts) ≡ true → (b ≡ true → is Punct t ≡ false) × (puncts_apart (is Punct t) ts ≡ true)
unfolding puncts_apart
apart_parts b t ts a = let q = both a in (λ e. sym (and_true (is Punct t) e) ∙ not-true q.0, q.1)

opposite : {b : Bool} → b ≡ false → not b ≡ true
unfolding not
opposite {b} e = rw e refl

-- behind a term none is wanted
no_want : (v : ℕ) (s : State) {p : Pending} {k : List Pending} → term v s ≡ wants p k → ⊥
unfolding term
no_want v fresh e = let z : ◌≡◌ {A = ℕ} 0 1 = cc in omega arith
no_want v spaced e = let z : ◌≡◌ {A = ℕ} 0 1 = cc in omega arith
no_want v equals e = let z : ◌≡◌ {A = ℕ} 0 1 = cc in omega arith
no_want v (wants p k) e = let z : ◌≡◌ {A = ℕ} 0 1 = cc in omega arith
no_want v (holds u k) e = let z : ◌≡◌ {A = ℕ} 0 1 = cc in omega arith
no_want v (gap u k) e = let z : ◌≡◌ {A = ℕ} 0 1 = cc in omega arith
no_want v (signed p k) e = let z : ◌≡◌ {A = ℕ} 0 1 = cc in omega arith
no_want v (done u) e = let z : ◌≡◌ {A = ℕ} 0 1 = cc in omega arith
no_want v broken e = let z : ◌≡◌ {A = ℕ} 0 1 = cc in omega arith

-- where a term is wanted, the token before is a Punct that ends in a space or a bracket
Led : Token → State → Type 0
Led b s = (p : Pending) (k : List Pending) → s ≡ wants p k → (is Punct b ≡ true) × Opens b.text

-- each token of the family x stands between texts of the profile
abbrev pub AllApart : Text → Token → List Token → Type 0
AllApart x b [] = Unit {0}
AllApart x b (w ∷ ws) = (of_family x w ≡ true → is_apart b.text (text_or_empty (get ws 0)) ≡ true) × AllApart x w ws

module _ (σ : Store) (end : ℕ) where
  -- no text is read on from a broken state
  living : (cs : Text) (s : State) (rest : List Token) → run-tokens σ rest (text_step cs s) ≡ done end → s ≡ broken → ⊥
  living cs s rest h e =
      alive σ end rest (text_step cs s) h (ap (text_step cs) e ∙ text_broken cs)

  -- behind the space no `%`
  no_remainder : (cs : Text) (v : ℕ) (k : List Pending) (rest : List Token) → run-tokens σ rest (text_step cs (gap v k)) ≡ done end
      → starts_with cs (bytes "%") ≡ false
  unfolding text_step
  no_remainder [] v k rest h = refl
  no_remainder (d ∷ ds) v k rest h =
      and_false _ (fails (λ e.
      (let z : d ≡ 37 = same_number {m = d} {n = 37} e in
      living ds (byte d (gap v k)) rest h (ap (λ (n : ℕ). byte n (gap v k)) z ∙ gap_byte v k))))

  ends_text : (c : ℕ) (cs : Text) (v : ℕ) (k : List Pending) (rest : List Token) → run-tokens σ rest (text_step (c ∷ cs) (holds v k)) ≡ done end → Ends (c ∷ cs)
  unfolding text_step ◌and◌ ◌or◌
  ends_text c cs v k rest h =
      ⊎_elim (λ (e : c ≡ 59). plain 59 e refl refl)
      (λ (o : (c ≡ 32) ⊎ (c ≡ 41)).
      ⊎_elim
      (λ (e : c ≡ 32).
      plain 32 e refl (no_remainder cs v k rest (sym (ap (λ (s : State). run-tokens σ rest (text_step cs s)) (blank v k))
      ∙ subst (λ (n : ℕ). run-tokens σ rest (text_step cs (byte n (holds v k))) ≡ done end) e h)))
      (λ (e : c ≡ 41). plain 41 e refl refl)
      o)
      (held_byte c v k (living cs (byte c (holds v k)) rest h))
    where
      plain : (b : ℕ) → c ≡ b → any (λ c. contains (bytes "),; ") c) (b ∷ []) ≡ true → starts_with (b ∷ cs) (bytes " %") ≡ false → Ends (c ∷ cs)
      plain b e f g = subst (λ (n : ℕ). Ends (n ∷ cs)) (sym e) (f, g)

  -- behind a value comes no term
  no_term : (t : Token) (ts : List Token) (v : ℕ) (k : List Pending) → run-tokens σ (t ∷ ts) (holds v k) ≡ done end → is Punct t ≡ true
  unfolding run-tokens term
  no_term t ts v k h = go (step_of σ t)
    where
      go : Step σ t → is Punct t ≡ true
      go (punct p) = p
      go (register y w) = absurd (alive σ end ts (token-step σ t (holds v k)) h (step-register σ t y (holds v k) w))
      go (number z n) = absurd (alive σ end ts (token-step σ t (holds v k)) h (step_number σ t z (holds v k) n))
      go (breaks f) = absurd (alive σ end ts (token-step σ t (holds v k)) h (f σ (holds v k)))

  no_end : (ts : List Token) (v : ℕ) (k : List Pending) → run-tokens σ ts (holds v k) ≡ done end → puncts_apart true ts ≡ true → ⊥
  unfolding run-tokens
  no_end [] v k h a = let z : ◌≡◌ {A = ℕ} 0 1 = cc in omega arith
  no_end (u ∷ us) v k h a = true-false (no_term u us v k h) ((apart_parts true u us a).0 refl)

  text_ends : (s : Text) (ts : List Token) (v : ℕ) (k : List Pending) → run-tokens σ ts (text_step s (holds v k)) ≡ done end → puncts_apart true ts ≡ true → Ends s
  unfolding text_step
  text_ends [] ts v k h a = absurd (no_end ts v k h a)
  text_ends (c ∷ cs) ts v k h a = ends_text c cs v k ts h

  behind_value : (ts : List Token) (v : ℕ) (k : List Pending) → run-tokens σ ts (holds v k) ≡ done end → puncts_apart false ts ≡ true
      → Ends (text_or_empty (get ts 0))
  unfolding run-tokens let_some◌else◌then◌
  behind_value [] v k h a = absurd (let z : ◌≡◌ {A = ℕ} 0 1 = cc in omega arith)
  behind_value (t ∷ ts) v k h a =
      let p = no_term t ts v k h in
      text_ends t.text ts v k (sym (ap (run-tokens σ ts) (step-punct σ t (holds v k) p)) ∙ h)
      (subst (λ (b : Bool). puncts_apart b ts ≡ true) p (apart_parts false t ts a).1)

  apart_text : (s r : Text) → Opens s → Ends r → is_apart s r ≡ true
  unfolding is_apart ◌or◌
  apart_text s r o e =
      pair (opposite o.0)
      (pair (opposite (⊎_elim
      (λ (z : last_byte s ≡ 32). ap (contains OPERATORS) z)
      (λ (z : last_byte s ≡ 40). ap (contains OPERATORS) z) o.1))
      (pair e.0 (opposite e.1)))

  led_on : (b w : Token) (ws : List Token) (s : State) → Led b s → puncts_apart (is Punct b) (w ∷ ws) ≡ true → run-tokens σ (w ∷ ws) s ≡ done end
      → Led w (token-step σ w s)
  unfolding Led run-tokens
  led_on b w ws s led a h p k e = go (step_of σ w)
    where
      from_text : (t : Text) → text_step t s ≡ wants p k → is Punct w ≡ true → Opens t
      from_text [] f g = absurd (true-false g ((apart_parts (is Punct b) w ws a).0 (led p k (unfold text_step in f)).0))
      from_text (c ∷ cs) f g = wanted_text c cs s p k f

      go : Step σ w → (is Punct w ≡ true) × Opens w.text
      go (punct g) = (g, from_text w.text (sym (step-punct σ w s g) ∙ e) g)
      go (register y v) = absurd (no_want (σ y) s (sym (step-register σ w y s v) ∙ e))
      go (number z n) = absurd (no_want (of_integer z) s (sym (step_number σ w z s n) ∙ e))
      go (breaks f) = absurd (alive σ end ws (token-step σ w s) h (f σ s))

  all_apart : (x : Text) (b : Token) (ws : List Token) (s : State) → Led b s → puncts_apart (is Punct b) ws ≡ true → run-tokens σ ws s ≡ done end → AllApart x b ws
  unfolding Led run-tokens term
  all_apart x b [] s led a h = tt
  all_apart x b (w ∷ ws) s led a h =
      (λ f. here f (step_of σ w), all_apart x w ws (token-step σ w s) (led_on b w ws s led a h) (apart_parts (is Punct b) w ws a).1 h)
    where
      here : of_family x w ≡ true → Step σ w → is_apart b.text (text_or_empty (get ws 0)) ≡ true
      here f (register y v) =
          let on : run-tokens σ ws (term (σ y) s) ≡ done end = sym (ap (run-tokens σ ws) (step-register σ w y s v)) ∙ h in
          let r = term_wanted σ end (σ y) s ws on in
          let no_punct : is Punct w ≡ false = other_kind Register Punct w refl (wide-register w y v) in
          apart_text b.text (text_or_empty (get ws 0)) (led r.0 r.1 r.2).1
          (behind_value ws (apply r.0 (σ y)) r.1 (sym (ap (λ (u : State). run-tokens σ ws (term (σ y) u)) r.2) ∙ on)
          (subst (λ (c : Bool). puncts_apart c ws ≡ true) no_punct (apart_parts (is Punct b) w ws a).1))
      here f (punct p) = absurd (true-false p (other_kind Register Punct w refl (family-register x w f)))
      here f (number z n) = absurd (true-false (number_kind w z n) (other_kind Register Number w refl (family-register x w f)))
      here f (breaks g) = absurd (alive σ end ws (token-step σ w s) h (g σ s))

-- ---- in a line

-- the same of a line's tokens, behind the first
abbrev pub LineApart : Text → List Token → Type 0
LineApart x [] = Unit {0}
LineApart x (t ∷ ts) = AllApart x t ts

no_lead : (t : Token) (s : State) → ((p : Pending) (k : List Pending) → s ≡ wants p k → ⊥) → Led t s
unfolding Led
no_lead t s f p k e = absurd (f p k e)

pub assigns_apart : (x y : Text) (ts : List Token) → Assigns ts y → LineApart x ts
assigns_apart x y [] x' = elim x' [ ]
assigns_apart x y (t ∷ ts) (assigns w r a) =
    all_apart zeros (r zeros).0 x t ts fresh (no_lead t fresh (λ p k e. (let z : ◌≡◌ {A = ℕ} 0 1 = cc in omega arith)))
    (subst (λ (b : Bool). puncts_apart b ts ≡ true) (sym (other_kind Register Punct t refl (wide-register t y w))) a) (r zeros).1

pub returns_apart : (x : Text) (ts : List Token) → Returns ts → LineApart x ts
unfolding is_kw
returns_apart x [] x' = elim x' [ ]
returns_apart x (t ∷ ts) (returns w r a) =
    all_apart zeros (r zeros).0 x t ts equals (no_lead t equals (λ p k e. (let z : ◌≡◌ {A = ℕ} 0 1 = cc in omega arith)))
    (subst (λ (b : Bool). puncts_apart b ts ≡ true) (sym (other_kind Keyword Punct t refl (both w).0)) a) (r zeros).1

pub line_apart : {indent : ℕ} {lines : Listing} (x : Text) (j : ℕ) → Straight indent lines → LineApart x (lines at j).tokens
line_apart x zero (last {l = l} e r) = returns_apart x l.tokens r
line_apart x (suc j) (last e r) = tt
line_apart x zero (next {l = l} y e a more) = assigns_apart x y l.tokens a
line_apart x (suc j) (next y e a more) = line_apart x j more

-- the first token is not of a family that the line does not write
abbrev pub First : Text → List Token → Type 0
First x [] = Unit {0}
First x (t ∷ ts) = of_family x t ≡ false

pub line_first : {indent : ℕ} {lines : Listing} (x : Text) (j : ℕ) → Straight indent lines → written_from x (lines at j).tokens ≡ false → First x (lines at j).tokens
line_first x zero (last {l = l} e r) w = go l.tokens r
  where
    go : (ts : List Token) → Returns ts → First x ts
    go [] x' = elim x' [ ]
    go (t ∷ ts) (returns v r a) = return-family x t v
line_first x (suc j) (last e r) w = tt
line_first x zero (next {l = l} y e a more) w = go l.tokens a w
  where
    go : (ts : List Token) → Assigns ts y → written_from x ts ≡ false → First x ts
    go [] x' w = elim x' [ ]
    go (t ∷ ts) a w = unwritten x y t ts a w
line_first x (suc j) (next y e a more) w = line_first x j more w
