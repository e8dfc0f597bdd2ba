-- `formula::profile::breaks` meets its contract. Assumes nothing.
use Rattle.std.proofs.Common.{◌≡◌, ℕ, not as flip, length, take, ◌-◌, sym, ◌∙◌, rules, arith, eqb-true}
use Rattle.std.proofs.lemmas.Bool.{eqb-false}
use Rattle.std.proofs.lemmas.Iterator.{YieldsList-from_slice}
use Rattle.std.proofs.lemmas.Iterator.Adapters.{serves_from_places}
use Rattle.reference.specs.Lists.{position}
use Rattle.reference.specs.Options.{option_of}
use Rattle.laws.proofs.Std.{position_by}
use Rattle.formula.proofs.Profiled.{breaks-empty, From, from_first, fits_in, front_asked, front-breaks, front_fits, last-breaks, last_fits}
use Rattle.formula.proofs.profile.breaks.Goals as goal
use Rattle.formula.proofs.profile.breaks.Goals.{After-position}

pub returns-then-is_empty : goal.returns-then-is_empty
returns-then-is_empty c = let a = c.args in
    breaks-empty a.tape.now a.tape.now a.tokens.now a.lines.now (eqb-true (length a.lines.now) 0 (sym c.is_empty.ensures ∙ c.if-is_empty.true))

pub position-requires-clause-callable : goal.position-requires-clause-callable
position-requires-clause-callable c = let a = c.args in
    serves_from_places (YieldsList-from_slice (take (length a.lines.now - 1) a.lines.now) (cc)) (λ x q k. search rules)
    (λ x k b i. let h = front_asked a.tape.now a.tokens.now a.lines.now c.requires x.now k b i in search rules)

-- ---- once the front is scanned

some_line : (c : After-position) → length c.args.lines.now ≡ 0 → ⊥
some_line c = eqb-false (length c.args.lines.now) 0 (sym c.is_empty.ensures ∙ c.if-is_empty.false)

begins : (c : After-position) → From c.args.tape.now c.args.tape.now c.args.tokens.now c.args.lines.now c.indent-indent.result 0
begins c = let a = c.args in from_first a.tape.now a.tape.now a.tokens.now a.lines.now (some_line c) c.indent-indent.ensures

found : (c : After-position)
    → option_of c.position.result ≡ position (λ l. flip (fits_in c.args.tape.now c.args.tape.now c.args.tokens.now c.indent-indent.result l)) (take (length c.args.lines.now - 1) c.args.lines.now)
found c = let a = c.args in
    position_by (λ (l : ℕ). flip (fits_in a.tape.now a.tape.now a.tokens.now c.indent-indent.result l)) _ _ c.position.ensures.ran
    (YieldsList-from_slice (take (length a.lines.now - 1) a.lines.now) (cc)) (λ x b q k. search rules)

pub returns-in-Some : goal.returns-in-Some
returns-in-Some c = let a = c.args in
    let p = (goal.at.returns-in-Some c).After-position in
    front-breaks a.tape.now a.tape.now a.tokens.now a.lines.now c.indent-indent.result (begins p) (found p) c.in-Some.i c.in-Some.is

pub returns-then-not-returns_here : goal.returns-then-not-returns_here
returns-then-not-returns_here c = let a = c.args in
    let p = (goal.at.returns-then-not-returns_here c).After-position in
    last-breaks a.tape.now a.tape.now a.tokens.now a.lines.now c.indent-indent.result (length a.lines.now - 1)
    (front_fits a.tape.now a.tape.now a.tokens.now a.lines.now c.indent-indent.result (begins p) (found p) (some_line p) c.in_default.is) (omega (arith, some_line p))
    c.returns_here.ensures c.if-not-returns_here.true

pub returns : goal.returns
returns c = let a = c.args in
    let p = (goal.at.returns c).After-position in
    last_fits a.tape.now a.tape.now a.tokens.now a.lines.now c.indent-indent.result (length a.lines.now - 1)
    (front_fits a.tape.now a.tape.now a.tokens.now a.lines.now c.indent-indent.result (begins p) (found p) (some_line p) c.in_default.is) (omega (arith, some_line p))
    c.returns_here.ensures c.if-not-returns_here.false
