-- `filter::response::respond` meets its contract. Assumes nothing.
use Rattle.filter.proofs.Responding.{responds_none, responds_some}
use Rattle.filter.proofs.response.respond.Goals as goal

pub returns-in-Some : goal.returns-in-Some
returns-in-Some c = responds_some _ _ c.in-Some.ensures.cases.0 c.answer_front.ensures

pub returns-in-None : goal.returns-in-None
returns-in-None c = responds_none c.args.input.now c.in-None.ensures.cases (rw c.at.ensures at c.put_refusal.ensures)
