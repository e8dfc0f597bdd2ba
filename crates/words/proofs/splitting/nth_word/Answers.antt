-- `words::splitting::nth_word` meets its contract. Assumes nothing.
use Rattle.std.proofs.Common.{refl, ap, ◌∙◌, eqb}
use Rattle.std.proofs.lemmas.Iterator.Splits.{YieldsList-from_slice_split}
use Rattle.std.proofs.lemmas.Iterator.Consumers.{nth_from_yields_List}
use borrow.Author.Rules.{rules}
use borrow.Author.Tests.{tests}
use Rattle.words.proofs.Pieces.{nth-piece}
use Rattle.words.proofs.splitting.nth_word.Goals as goal

pub returns : goal.returns
returns c =
    ap (λ r. r.now) c.unwrap_or.ensures
    ∙ nth-piece c.args.row.now c.args.n c.nth.result _ refl
    (nth_from_yields_List c.nth.result c.nth.new.self c.args.n c.nth.ensures.ran
    (YieldsList-from_slice_split _ (λ b. eqb b 0) c.args.row.now c.split.ensures.rest c.split.ensures.done c.split.ensures.closure (λ x b q k. search (rules, tests))))
