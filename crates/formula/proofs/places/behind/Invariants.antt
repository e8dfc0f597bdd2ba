-- What the loop of `formula::places::behind` keeps true.
use Rattle.std.proofs.Common.{◌≡◌, drop}
use Rattle.reference.specs.Evaluators as E
use Rattle.formula.specs.Line.{left, InLine}
use Rattle.formula.proofs.places.behind.Given as goal

abbrev pub invariant-loop-c : goal.invariant-loop-c
invariant-loop-c l = (E.behind l.t (left l.line l.fn.start) ≡ E.behind (drop l.c-index l.t) (left l.line l.place)) × InLine l.line l.place
