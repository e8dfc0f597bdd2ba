-- What falls when `formula::evaluators::expression` and `term` call each other, and what the loop of `expression` keeps true. Their measure is the text bytes that are
-- left, twice, and one more for an expression.
use Rattle.std.proofs.Common.{ℕ, ◌+◌, ◌≤◌}
use Rattle.formula.specs.Line.{Placed}
use Rattle.formula.specs.declared.line.Line.{Line}
use Rattle.formula.specs.declared.places.Place.{Place}
use Rattle.formula.proofs.Bytes.{bytes_left}
use Rattle.formula.proofs.Evaluating.{Joining}
use Rattle.formula.proofs.evaluators.+expression_term.Given as goal

-- the text bytes that are left at a place
abbrev pub bytes : Line → Place → ℕ
bytes line p = bytes_left line.words.now p.token p.byte

abbrev pub decreases-expression : goal.decreases-expression
decreases-expression l = bytes l.line.now l.start + bytes l.line.now l.start + 1

abbrev pub decreases-term : goal.decreases-term
decreases-term l = bytes l.line.now l.place + bytes l.line.now l.place

abbrev pub invariant-expression-loop-value : goal.invariant-expression-loop-value
invariant-expression-loop-value l =
    Joining l.line.texts.tape.now l.line.texts.area.now l.line.words.now l.values l.fn.start.token l.fn.start.byte l.sign l.multiplier l.constant l.place.token l.place.byte
    × Placed l.line l.place × (bytes l.line l.place ≤ bytes l.line l.fn.start)

abbrev pub decreases-expression-loop-value : goal.decreases-expression-loop-value
decreases-expression-loop-value l = bytes l.line l.place
