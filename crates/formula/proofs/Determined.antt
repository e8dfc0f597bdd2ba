-- The promises of `behind`, `operator`, `term`, `expression` and `evaluate` (src/places.rt, src/evaluators.rt) determine their results, on all inputs that these
-- functions let in: any two answers that are as promised are the same. Assumes nothing.
use Rattle.std.proofs.Common.{◌≡◌, ℕ, List, sym, refl, ap, ◌∙◌}
use Rattle.std.specs.Prelude as std
use mathlib.Core.Option.{Option}
use Rattle.reference.specs.Text.{Text}
use Rattle.reference.specs.Evaluators.{Lexeme, Arithmetic, Operator}
use Rattle.reference.proofs.Cases.{some_inj, none-some}
use Rattle.formula.specs.Places as Places
use Rattle.formula.specs.Values as Values
use Rattle.formula.specs.Values.{Pair, Worth, Worths, numbers_of}
use Rattle.formula.specs.Line.{Readable, Consistent, InLine, left, Leads, Operates, Term, Expression, Evaluates}
use Rattle.formula.specs.declared.line.Line.{Line}
use Rattle.formula.specs.declared.places.Place.{Place}
use Rattle.formula.specs.declared.places.Sign.{Sign}
use Rattle.formula.specs.declared.places.Sign.TheVariants.{Plus, Minus}
use Rattle.formula.specs.declared.places.Operation.{Operation}
use Rattle.formula.specs.declared.evaluators.Pair.{Pair as Held}
use Rattle.formula.proofs.Bytes.{known_by_left}

same_pair : (p q : Held) → numbers_of p ≡ numbers_of q → p ≡ q
same_pair p q e = ap (λ (n : Pair). record { multiplier = n.0; constant = n.1 }) e

same_sign : (s t : Sign) → Places.operator_of s ≡ Places.operator_of t → s ≡ t
same_sign Plus Plus e = refl
same_sign Minus Minus e = refl
same_sign Plus Minus e = absurd cc
same_sign Minus Plus e = absurd cc

module _ (line : Line) (h : Readable line) where
  same_place : (p q : Place) → InLine line p → InLine line q → left line p ≡ left line q → p ≡ q
  same_place p q i j e =
      let k = known_by_left line.texts.tape.now line.texts.area.now line.words.now h p.token p.byte q.token q.byte i j e in
      ap (λ (n : ℕ). record { token = n; byte = p.byte }) k.0 ∙ ap (λ (n : ℕ). record { token = q.token; byte = n }) k.1

  pub leads_determined : {o : Option (List Lexeme)} (r s : std.Option Place) → Leads line o r → Leads line o s → r ≡ s
  leads_determined (std.Some p) (std.Some q) a b = ap std.Some (same_place p q (a.in_line p refl) (b.in_line q refl) (some_inj (a.is ∙ sym b.is)))
  leads_determined (std.Some p) std.None a b = absurd (none-some (b.is ∙ sym a.is))
  leads_determined std.None (std.Some q) a b = absurd (none-some (a.is ∙ sym b.is))
  leads_determined std.None std.None a b = refl

  pub operates_determined : {o : Option (Operator × List Lexeme)} (r s : std.Option Operation) → Operates line o r → Operates line o s → r ≡ s
  operates_determined (std.Some p) (std.Some q) a b =
      let e = some_inj (a.is ∙ sym b.is) in
      let sign = same_sign p.sign q.sign (ap (λ (x : Operator × List Lexeme). x.0) e) in
      let place = same_place p.place q.place (a.in_line p refl) (b.in_line q refl) (ap (λ (x : Operator × List Lexeme). x.1) e) in
      ap {B = std.Option Operation} (λ s. std.Some (record { sign = s; place = p.place })) sign ∙ ap {B = std.Option Operation} (λ s. std.Some (record { sign = q.sign; place = s })) place
  operates_determined (std.Some p) std.None a b = absurd (none-some (b.is ∙ sym a.is))
  operates_determined std.None (std.Some q) a b = absurd (none-some (a.is ∙ sym b.is))
  operates_determined std.None std.None a b = refl

  module _ (values : List Held) (c : Consistent line values) where
    worths_determined : {xs : List Lexeme} {f : Arithmetic Pair → (Text → Pair) → ℕ → List Lexeme → Option (Pair × List Lexeme)} (r s : Worth)
        → Worths line.texts.tape.now line.texts.area.now line.words.now values xs f r → Worths line.texts.tape.now line.texts.area.now line.words.now values xs f s → r ≡ s
    worths_determined (std.Some v) (std.Some w) a b =
        let e = some_inj (a.is c.number c.register c.valued ∙ sym (b.is c.number c.register c.valued)) in
        let pair = same_pair v.pair w.pair (ap (λ (x : Pair × List Lexeme). x.0) e) in
        let place = same_place v.place w.place (a.in_line v refl) (b.in_line w refl) (ap (λ (x : Pair × List Lexeme). x.1) e) in
        ap {B = Worth} (λ x. std.Some (record { pair = x; place = v.place })) pair ∙ ap {B = Worth} (λ x. std.Some (record { pair = w.pair; place = x })) place
    worths_determined (std.Some v) std.None a b = absurd (none-some (b.is c.number c.register c.valued ∙ sym (a.is c.number c.register c.valued)))
    worths_determined std.None (std.Some w) a b = absurd (none-some (a.is c.number c.register c.valued ∙ sym (b.is c.number c.register c.valued)))
    worths_determined std.None std.None a b = refl

    pub term_determined : (p : Place) (r s : Worth) → Term line values p r → Term line values p s → r ≡ s
    term_determined p r s a b = worths_determined r s a b

    pub expression_determined : (p : Place) (r s : Worth) → Expression line values p r → Expression line values p s → r ≡ s
    expression_determined p r s a b = worths_determined r s a b

    pub evaluate_determined : (before : Text) (r s : std.Option Held) → Evaluates line values before r → Evaluates line values before s → r ≡ s
    evaluate_determined before r s a b = go r s (a c.number c.register c.valued ∙ sym (b c.number c.register c.valued))
      where
        go : (r s : std.Option Held) → Values.value_of r ≡ Values.value_of s → r ≡ s
        go (std.Some p) (std.Some q) e = ap std.Some (same_pair p q (some_inj e))
        go (std.Some p) std.None e = absurd (none-some (sym e))
        go std.None (std.Some q) e = absurd (none-some e)
        go std.None std.None e = refl
