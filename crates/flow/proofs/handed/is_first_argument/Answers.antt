-- `flow::handed::is_first_argument` meets its contract. Assumes nothing.
use Rattle.flow.proofs.Handing.{args_first, args_second, args_one, args_other}
use Rattle.flow.proofs.handed.is_first_argument.Goals as goal

pub returns-then-f-eq-RCX : goal.returns-then-f-eq-RCX
returns-then-f-eq-RCX c = let a = c.args in args_first _ _ a.f c.requires a.rules.convention c.if-rules-eq0.true c.if-f-eq-RCX.true

pub returns-else-f-eq-RCX : goal.returns-else-f-eq-RCX
returns-else-f-eq-RCX c = let a = c.args in args_second _ _ a.f c.requires a.rules.convention c.if-rules-eq0.true c.if-f-eq-RCX.false

pub returns-then-rules-eq1 : goal.returns-then-rules-eq1
returns-then-rules-eq1 c = let a = c.args in args_one _ _ a.f c.requires a.rules.convention c.if-rules-eq1.true

pub returns : goal.returns
returns c = let a = c.args in args_other _ _ a.f c.requires a.rules.convention c.if-rules-eq0.false c.if-rules-eq1.false
