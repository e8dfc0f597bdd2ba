-- The answers of `evaluate`: a whole line. Assumes nothing.
use Rattle.std.proofs.Common.{◌≡◌, ℕ, ◌+◌, ◌<◌, ◌≤◌, Bool, false, List, [], ◌++◌, length, get_or, ℤ, sym, refl, ap, ◌∙◌, arith}
use mathlib.Core.Logic.{by_cases}
use native.Mathlib.Decide.{ℕ_discrete}
use Rattle.std.specs.Prelude as std
use Rattle.std.specs.Option as Option
use mathlib.Core.Option.{none, some}
use Rattle.reference.specs.Control.{when◌then◌else◌, let_some◌else◌then◌}
use Rattle.reference.specs.Lists.{is_some, is_empty}
use Rattle.reference.specs.Text.{Text, bytes}
use Rattle.reference.specs.Listing.{Token, Punct}
use Rattle.reference.specs.Evaluators.{modulo, lexemes_of, lexemes, behind, fuel_for, expression, evaluate}
use Rattle.reference.specs.Straight.{zeros}
use Rattle.laws.proofs.Scans.{if-true, if-false}
use Rattle.straight.proofs.Values.{read_alike}
use Rattle.lines.specs.Words.{kind_of, token_of, tokens_of}
use Rattle.formula.specs.Places.{left, Placed, InLine, Readable, Leads}
use Rattle.formula.specs.Values.{Pair, pairs, Valued, Consistent, Worth, pair_of, Expression, value_of, Evaluates}
use Rattle.formula.specs.declared.places.Place.{Place}
use Rattle.formula.specs.declared.evaluators.Pair.{Pair as Held}
use Rattle.formula.specs.declared.evaluators.Value.{Value}
use Rattle.formula.proofs.Left.{left_end, left_whole, left_sign, size_punct, left_other, no_punct, One, a_register, a_number, a_junk, one_of, placed, whole-token}
use Rattle.formula.proofs.Ahead.{leads_some, leads_none}
use Rattle.formula.proofs.Evaluating.{worth_none, worth_some}

-- a place before the end has a lexeme
left_some : (tape area : Text) (line : List ℕ) → Readable tape area line → (k b : ℕ) → Placed line k b → k < length line
    → is_empty (left (tokens_of tape area line) k b) ≡ false
left_some tape area line h k b p l = by_cases (ℕ_discrete (kind_of (get_or line k 0)) Punct) punct other
  where
    punct : kind_of (get_or line k 0) ≡ Punct → is_empty (left (tokens_of tape area line) k b) ≡ false
    punct e =
        let q = h.holds.at k l in
        ap is_empty (left_sign tape area line k l q e b (omega (arith, p l, size_punct tape area line k l q e)))

    one : One (token_of tape area (get_or line k 0))
        → is_empty (lexemes_of (token_of tape area (get_or line k 0)) ++ left (tokens_of tape area line) (k + 1) 0) ≡ false
    one (a_register x w e) = rw e refl
    one (a_number z w n e) = rw e refl
    one (a_junk w n e) = rw e refl

    other : (kind_of (get_or line k 0) ≡ Punct → ⊥) → is_empty (left (tokens_of tape area line) k b) ≡ false
    other e = ap is_empty (left_other tape area line k l e b (p l)) ∙ one (one_of _ (no_punct tape area line k l e))

pub begin-in-line : {tape area : Text} {line : List ℕ} → Readable tape area line → InLine line 0 0
begin-in-line {tape} {area} {line} h = whole-token tape area line h 0 (omega arith)

module _ (tape area : Text) (line : List ℕ) (values : List Held) (before : List ℕ) (h : Readable tape area line) {r : std.Option Place}
    (q : Leads tape area line (behind before (left (tokens_of tape area line) 0 0)) r) where
  abbrev ts : List Token
  ts = tokens_of tape area line

  begun : (number : ℤ → Pair) (σ : Text → Pair)
      → evaluate (pairs number) σ before (lexemes ts)
      ≡ (let_some (behind before (left ts 0 0)) else none then λ ys.
      let_some (expression (pairs number) σ (fuel_for ys) ys) else none then λ r.
      let_some (behind (bytes ";") r.1) else none then λ rest. when is_empty rest then some r.0 else none)
  unfolding evaluate
  begun number σ = rw (left_whole tape area line 0) refl

  pub whole_unbegun : r ≡ std.None → Evaluates tape area line values before std.None
  unfolding let_some◌else◌then◌
  whole_unbegun e number σ v = sym (begun number σ ∙ rw (leads_none q e) refl)

  module _ (i : Place) (e : r ≡ std.Some i) {y : Worth} (w : Expression tape area line values i.token i.byte y) where
    pub whole-broken : y ≡ std.None → Evaluates tape area line values before std.None
    unfolding let_some◌else◌then◌
    whole-broken f number σ v = sym (begun number σ ∙ rw (leads_some i q e, worth_none tape area line values w f number σ v) refl)

    module _ (out : Value) (f : y ≡ std.Some out) {u : std.Option Place} (z : Leads tape area line (behind (bytes ";") (left ts out.place.token out.place.byte)) u) where
      pub whole_unended : u ≡ std.None → Evaluates tape area line values before std.None
      unfolding let_some◌else◌then◌
      whole_unended g number σ v = sym (begun number σ ∙ rw (leads_some i q e, worth_some tape area line values w out f number σ v, leads_none z g) refl)

      module _ (i' : Place) (g : u ≡ std.Some i') where
        ended : (number : ℤ → Pair) (σ : Text → Pair) → Valued number σ ts values
            → evaluate (pairs number) σ before (lexemes ts) ≡ (when is_empty (left ts i'.token i'.byte) then some (pair_of out) else none)
        unfolding let_some◌else◌then◌
        ended number σ v = begun number σ ∙ rw (leads_some i q e, worth_some tape area line values w out f number σ v, leads_some i' z g) refl

        pub whole_more : i'.token < length line → Evaluates tape area line values before std.None
        whole_more l number σ v = sym (ended number σ v ∙ if-false _ _ (left_some tape area line h i'.token i'.byte (placed _ _ _ (z.in_line i' g)) l))

        pub whole-ended : length line ≤ i'.token → Evaluates tape area line values before (std.Some out.pair)
        whole-ended l number σ v = sym (ended number σ v ∙ if-true _ _ (ap is_empty (left_end tape area line i'.token i'.byte l)))

-- ---- whether a line is worth anything

-- the empty table gives all the same pair
pub nothing-consistent : (ts : List Token) → Consistent ts []
nothing-consistent _ =
    record { number = λ z. (0, 0); register = λ x. (0, 0); valued = record { register = λ k x l e. refl; number_is = λ k z l e. refl } }

module _ (tape area : Text) (line before : List ℕ) (w : std.Option Held) (q : Evaluates tape area line [] before w) {x : Bool} (e : x ≡ Option.is_some w) where
  same_some : (w : std.Option Held) → Option.is_some w ≡ is_some (value_of w)
  same_some (std.Some v) = refl
  same_some std.None = refl

  pub read_so : x ≡ is_some (evaluate modulo zeros before (lexemes (tokens_of tape area line)))
  read_so =
      let s = nothing-consistent (tokens_of tape area line) in
      e ∙ same_some w ∙ ap is_some (q s.number s.register s.valued) ∙ read_alike (pairs s.number) modulo s.register zeros before (lexemes (tokens_of tape area line))
