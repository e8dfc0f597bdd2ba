-- `filter::response::answer_front` meets its contract. Assumes nothing.
use Rattle.std.proofs.Common.{◌≡◌, ℕ, refl, ap, ◌∙◌, take}
use Rattle.filter.specs.Response.{LONGEST}
use Rattle.filter.proofs.Responding.{front_cut}
use Rattle.filter.proofs.response.answer_front.Goals as goal

pub returns : goal.returns
unfolding LONGEST
returns c = let tape = c.args.tape.now in
    let front : take c.min-most.result tape ≡ take LONGEST tape = ap (λ (n : ℕ). take n tape) c.min-most.ensures ∙ front_cut tape refl in
    rw front at c.answer.ensures
