-- `arguments::reading::parse` meets its contract. Assumes nothing.
use Rattle.std.proofs.Common.{sym, ap, ◌∙◌, arith}
use Rattle.arguments.specs.Requests.{judged, request_of}
use Rattle.arguments.proofs.Turns.{steps_turn, steps_end}
use Rattle.arguments.proofs.reading.parse.Goals as goal

pub loop-word-preserved : goal.loop-word-preserved
loop-word-preserved c = record {
  room = omega (arith, c.in-Some.ensures.falls);
  same = c.loop-word.invariant.same ∙ steps_turn _ _ _ c.in-Some.ensures.splits _ _ _ c.step-s.ensures;
}

pub returns : goal.returns
unfolding request_of
returns c = c.judge.ensures ∙ ap judged (sym (c.loop-word.invariant.same ∙ steps_end _ _ _ c.in_default.ensures))
