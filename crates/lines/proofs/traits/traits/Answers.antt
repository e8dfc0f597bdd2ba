-- `lines::traits::traits` meets its contract. Assumes nothing.
use Rattle.lines.proofs.codes.Coding.{kept_traits}
use Rattle.lines.proofs.traits.traits.Goals as goal

pub returns-then-kept-ne0 : goal.returns-then-kept-ne0
returns-then-kept-ne0 c = kept_traits _ _ c.args.w c.requires c.traits-kept.ensures c.if-kept-ne0.true
