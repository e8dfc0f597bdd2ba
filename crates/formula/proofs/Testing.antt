-- The tests of a line that the code asks: of a token, the brackets that are open, the first test that fails. Assumes nothing.
use Rattle.std.proofs.Common.{◌≡◌, ℕ, suc, pred, ◌+◌, ◌*◌, ◌<◌, ◌≤◌, ◌&&◌, Bool, true, false, not, eqb, List, [], ◌∷◌, ◌++◌, length, get_or, drop, ℤ, sym, refl, ap, ◌∙◌, arith, if◌then◌else◌}
use Rattle.std.proofs.lemmas.Bool.{eqb-false}
use Rattle.std.proofs.Common.{eqb-true, length-take, add-one, drop-cons, eq-eqb, ne_eqb}
use mathlib.Core.Option.{Option, none, some}
use Rattle.std.specs.Prelude as std
use Rattle.std.specs.Prelude.{Some, None}
use Rattle.std.specs.Option as Option
use Rattle.reference.specs.Control.{let_some◌else◌then◌}
use Rattle.reference.specs.Options.{option_of}
use Rattle.reference.specs.Lists.{is_some}
use Rattle.reference.specs.Text.{Text}
use Rattle.reference.proofs.Cases.{none-some, some_inj}
use Rattle.reference.specs.Evaluators.{Lexeme, lexemes, behind}
use Rattle.reference.specs.Listing.{Token}
use Rattle.lines.specs.Words.{buffer_of, start_of, len_of, source, text_of, token_of, tokens_of}
use Rattle.lines.proofs.words.Tokens.{len_below}
use Rattle.formula.specs.Places.{left, InLine, Readable, Leads}
use Rattle.formula.specs.Breaches.{Test, open_past, open_in, open_after, open_behind, is_paired, first_breach}
use Rattle.formula.specs.declared.places.Place.{Place}
use Rattle.formula.specs.declared.breaches.Breach.{Breach}
use Rattle.formula.proofs.Left.{drop_past, left_whole, whole-token}
use Rattle.formula.proofs.Ahead.{leads_some, leads_none}

-- ---- a token

module _ (K : ℕ) {k d : ℕ} (ek : k ≡ d) where
  pub test_here : k ≡ K → {x a : Bool} → x ≡ a → not x ≡ (eqb d K && not a)
  test_here h e = rw (← ek, h, eq-eqb K K refl, e) refl

  pub test_not : (a : Bool) → (k ≡ K → ⊥) → eqb k K ≡ (eqb d K && a)
  test_not a n = rw (← ek, ne_eqb k K n) refl

  pub none_here : k ≡ K → (r : std.Option ℤ) {o : Option ℤ} → option_of r ≡ o → {x : Bool} → Option.is_some r ≡ not x → x ≡ (eqb d K && not (is_some o))
  none_here h r e {x} ex = rw (← ek, h, eq-eqb K K refl, ← e) (turned x _ (sym ex ∙ either r))
    where
      either : (r : std.Option ℤ) → Option.is_some r ≡ is_some (option_of r)
      either (Some v) = refl
      either None = refl

      turned : (x y : Bool) → not x ≡ y → x ≡ not y
      turned true y e = ap not e
      turned false y e = ap not e

-- two tests of numbers that say the same
pub same_test : (a b c d : ℕ) → (a ≡ b → c ≡ d) → (c ≡ d → a ≡ b) → eqb a b ≡ eqb c d
same_test a b c d f g = go (eqb c d) refl
  where
    go : (x : Bool) → eqb c d ≡ x → eqb a b ≡ x
    go true p = eq-eqb a b (g (eqb-true c d p))
    go false p = ne_eqb a b (λ e. eqb-false c d p (f e))

-- ---- what the tokens begin with

pub at_front : (tape area : Text) (line : List ℕ) → Readable tape area line → InLine line 0 0
at_front tape area line h = whole-token tape area line h 0 (omega arith)

pub leads : {tape area : Text} {line : List ℕ} (before : Text) {r : std.Option Place} → Leads tape area line (behind before (left (tokens_of tape area line) 0 0)) r
    → Option.is_some r ≡ is_some (behind before (lexemes (tokens_of tape area line)))
leads {tape} {area} {line} before {r} q = go r refl ∙ ap (λ (xs : List Lexeme). is_some (behind before xs)) (left_whole tape area line 0)
  where
    go : (s : std.Option Place) → r ≡ s → Option.is_some s ≡ is_some (behind before (left (tokens_of tape area line) 0 0))
    go (Some p) e = sym (ap is_some (leads_some p q e))
    go None e = sym (ap is_some (leads_none q e))

-- ---- brackets

pub past_few : (n b m : ℕ) → open_past n b ≡ some m → m ≤ n + 1
past_few n b m e = go (eqb b 40) (eqb b 41) (eqb n 0) e
  where
    go : (x y z : Bool) → (if x then some (suc n) else if y then (if z then none else some (pred n)) else some n) ≡ some m → m ≤ n + 1
    go true y z e = let q : suc n ≡ m = some_inj e in omega (arith, q)
    go false true true e = absurd (none-some e)
    go false true false e = let q : pred n ≡ m = some_inj e in omega (arith, q)
    go false false z e = let q : n ≡ m = some_inj e in omega (arith, q)

module _ (s : Text) (start : ℕ) where
  -- so many are open before byte i
  abbrev pub Opens : ℕ → ℕ → Type 0
  Opens i n = (open_in start s ≡ open_in n (drop i s)) × (n ≤ start + i)

  pub opens_first : Opens 0 start
  opens_first = (refl, omega arith)

  module _ (i n : ℕ) (h : Opens i n) where
    pub opens_over : length s ≤ i → some n ≡ open_in start s
    opens_over l = sym (h.0 ∙ ap (open_in n) (drop_past i s l) ∙ (unfold open_in in refl))

    module _ (l : i < length s) (r : std.Option ℕ) (e : option_of r ≡ open_past n (get_or s i 0)) where
      here : open_in start s ≡ (let_some (option_of r) else none then λ m. open_in m (drop (i + 1) s))
      here = h.0 ∙ ap (open_in n) (drop-cons s i 0 l) ∙ (unfold open_in in rw (e, add-one i) refl)

      pub opens_fail : r ≡ None → none ≡ open_in start s
      unfolding let_some◌else◌then◌
      opens_fail q = sym (here ∙ rw q refl)

      pub opens_next : (m : ℕ) → r ≡ Some m → Opens (i + 1) m
      unfolding let_some◌else◌then◌
      opens_next m q = (here ∙ rw q refl, omega (arith, h.1, past_few n (get_or s i 0) m (sym e ∙ ap option_of q)))

module _ (tape area : Text) (ws : List ℕ) where
  abbrev opened : ℕ → List ℕ → Option ℕ
  opened n vs = open_behind n (tokens_of tape area vs)

  -- so many are open before word i
  abbrev pub OpensBefore : ℕ → ℕ → Type 0
  OpensBefore i n = (opened 0 ws ≡ opened n (drop i ws)) × (n ≤ i * 65536)

  pub before_first : OpensBefore 0 0
  before_first = (refl, omega arith)

  module _ (i n : ℕ) (h : OpensBefore i n) where
    pub before_over : length ws ≤ i → some n ≡ opened 0 ws
    before_over l = sym (h.0 ∙ ap (opened n) (drop_past i ws l) ∙ (unfold open_behind in refl))

    module _ (l : i < length ws) (r : std.Option ℕ) (e : option_of r ≡ open_after n (token_of tape area (get_or ws i 0))) where
      here_too : opened 0 ws ≡ (let_some (option_of r) else none then λ m. opened m (drop (i + 1) ws))
      here_too = h.0 ∙ ap (opened n) (drop-cons ws i 0 l) ∙ (unfold open_behind in rw (e, add-one i) refl)

      pub before_fail : r ≡ None → none ≡ opened 0 ws
      unfolding let_some◌else◌then◌
      before_fail q = sym (here_too ∙ rw q refl)

      pub before_next : (m : ℕ) → r ≡ Some m → m < n + 65536 → OpensBefore (i + 1) m
      unfolding let_some◌else◌then◌
      before_next m q k = (here_too ∙ rw q refl, omega (arith, h.1, k))

-- a text is shorter than its word can say
pub text_below : (tape area : Text) (w : ℕ) → length (text_of tape area w) < 65536
unfolding text_of
text_below tape area w = omega (arith, len_below w, length-take (len_of w) (drop (start_of w) (source tape area (buffer_of w))))

module _ (ts : List Token) {r : std.Option ℕ} (e : option_of r ≡ open_behind 0 ts) where
  pub paired_some : (n : ℕ) → r ≡ Some n → eqb n 0 ≡ is_paired ts
  unfolding is_paired let_some◌else◌then◌
  paired_some n q = rw (← e, q) refl

  pub paired_none : r ≡ None → false ≡ is_paired ts
  unfolding is_paired let_some◌else◌then◌
  paired_none q = rw (← e, q) refl

-- ---- the first test that fails

pub then_first : (qs rs : List Test) (b : Breach) → first_breach qs ≡ Some b → first_breach (qs ++ rs) ≡ Some b
unfolding first_breach
then_first [] rs b e = cc
then_first (q ∷ qs) rs b e = go (then_first qs rs b) q.1 e
  where
    go : (first_breach qs ≡ Some b → first_breach (qs ++ rs) ≡ Some b) → (x : Bool) → (if x then first_breach qs else Some q.0) ≡ Some b
        → (if x then first_breach (qs ++ rs) else Some q.0) ≡ Some b
    go more true e = more e
    go more false e = e

pub then_rest : (qs rs : List Test) → first_breach qs ≡ None → first_breach (qs ++ rs) ≡ first_breach rs
unfolding first_breach
then_rest [] rs e = refl
then_rest (q ∷ qs) rs e = go (then_rest qs rs) q.1 e
  where
    go : (first_breach qs ≡ None → first_breach (qs ++ rs) ≡ first_breach rs) → (x : Bool) → (if x then first_breach qs else Some q.0) ≡ None
        → (if x then first_breach (qs ++ rs) else Some q.0) ≡ first_breach rs
    go more true e = more e
    go more false e = cc
