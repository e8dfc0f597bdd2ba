-- `numbers::constant::past_quote` meets its contract. Assumes nothing.
use Rattle.std.proofs.Common.{rules, arith}
use Rattle.std.proofs.lemmas.List.{take_rest}
use Rattle.numbers.proofs.Constants.{past_one, past_none}
use Rattle.numbers.proofs.constant.past_quote.Goals as goal

pub returns-in-39 : goal.returns-in-39
returns-in-39 c = rw take_rest (past_one c.args.s.now (omega arith) (search rules))

pub returns-in_default-2 : goal.returns-in_default-2
returns-in_default-2 c = past_none c.args.s.now (λ h e. search rules)
