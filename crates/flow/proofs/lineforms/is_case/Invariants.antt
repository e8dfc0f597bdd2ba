-- What the loop of `flow::lineforms::is_case` keeps true: the answer is that of the tokens that come. Assumes nothing.
use Rattle.std.proofs.Common.{◌≡◌, drop}
use Rattle.cautions.specs.Forms.{is_case}
use Rattle.lines.specs.Texts.{tokens_of}
use Rattle.flow.proofs.lineforms.is_case.Given as goal

abbrev pub invariant-loop-w : goal.invariant-loop-w
invariant-loop-w l = is_case (tokens_of l.texts (drop l.w-index l.line)) ≡ is_case (tokens_of l.texts l.line)
