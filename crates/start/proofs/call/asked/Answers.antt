-- `start::call::asked` meets its contract. Assumes nothing.
use mathlib.Core.Path.{sym, ◌∙◌}
use Rattle.start.proofs.Asking.{profiled, out_of_profile, in_profile}
use Rattle.start.proofs.call.asked.Goals as goal

pub solved-requires : goal.solved-requires
solved-requires c = (profiled c.requires.0 c.requires.1 c.breaks.result c.breaks.ensures c.in-None.is, c.requires.2)

pub returns-in-Some : goal.returns-in-Some
returns-in-Some c = λ reading. rw c.at.ensures (out_of_profile _ _ _ _ c.breaks.result (c.breaks.ensures reading) _ c.in-Some.is)

pub returns-in-None : goal.returns-in-None
returns-in-None c = λ reading. (c.solved.ensures reading ∙ sym (in_profile _ _ _ _ c.breaks.result (c.breaks.ensures reading) c.in-None.is))
