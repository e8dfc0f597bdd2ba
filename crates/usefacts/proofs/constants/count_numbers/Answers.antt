-- `usefacts::constants::count_numbers` meets its contract. Assumes nothing.
use borrow.Author.Rules.{rules}
use Rattle.lines.proofs.words.Chains.{count_words}
use Rattle.lines.proofs.shapes.Tests.{is_test}
use Rattle.reference.specs.Listing.{is, Number}
use Rattle.lines.specs.Texts.{token_of}
use Rattle.usefacts.proofs.constants.count_numbers.Goals as goal

pub returns : goal.returns
returns c =
    let a = c.args in
    count_words (is Number) (token_of a.texts.now) a.ws.now
    _ c.filter.result _ c.count.ensures.ran (cc) c.filter.ensures.closure (λ x b q k. search (rules, is_test))
