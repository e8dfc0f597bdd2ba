-- `tape::questions::first_offending` meets its contract. Assumes nothing.
use mathlib.Core.Path.{◌≡◌, ap, ◌∙◌}
use Rattle.std.proofs.Common.{rules, position}
use borrow.Author.Tests.{tests}
use Rattle.std.proofs.lemmas.Iterator.{YieldsList-from_slice}
use Rattle.std.proofs.lemmas.Iterator.Search.{position_from_yields_List}
use Rattle.reference.specs.Options.{option_of}
use Rattle.reference.specs.Questions.{is_offending}
use Rattle.laws.proofs.Std.{position-std}
use Rattle.tape.proofs.questions.first_offending.Goals as goal

pub returns-clause-place : goal.returns-clause-place
returns-clause-place c =
    let text = c.args.text.now in
    let e : c.position.result ≡ position is_offending text =
    position_from_yields_List is_offending _ _ c.position.result c.position.ensures.ran (YieldsList-from_slice text cc) (λ x b q k. search (rules, tests)) in
    ap option_of e ∙ position-std is_offending text
