-- `filter::response::answer` meets its contract. Assumes nothing.
use Rattle.filter.proofs.Responding.{shows-refusal, shows-tape}
use Rattle.filter.specs.Response.{settings}
use borrow.Author.Rules.{rules}
use Rattle.filter.proofs.response.answer.Goals as goal

pub returns-in-Err : goal.returns-in-Err
returns-in-Err c = let a = c.args in
    shows-refusal (settings a.convention) a.tape.now _ _ a.out.now (search rules) (search rules) c.requires c.clean.result c.clean.ensures.cleans c.clean.ensures.result_value
    _ c.in-Err.is c.put_refusal.ensures

pub returns-in-Ok : goal.returns-in-Ok
returns-in-Ok c = let a = c.args in
    shows-tape (settings a.convention) a.tape.now _ _ a.out.now (search rules) (search rules) c.requires c.clean.result c.clean.ensures.cleans c.clean.ensures.result_value
    _ c.in-Ok.is
