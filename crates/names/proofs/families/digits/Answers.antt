-- `names::families::digits` meets its contract. Assumes nothing.
use Rattle.std.proofs.Common.{◌∙◌, rules, tests}
use Rattle.std.proofs.lemmas.Iterator.{YieldsList-from_slice}
use Rattle.std.proofs.lemmas.Iterator.Consumers.{count_from_yields_List}
use Rattle.std.proofs.lemmas.Iterator.Search.{YieldsList-from_take_while}
use Rattle.std.proofs.lemmas.List.Folds.{length-prefix_len}
use Rattle.std.specs.Char.{is_ascii_digit}
use Rattle.names.proofs.Digits.{digits-std}
use Rattle.names.proofs.families.digits.Goals as goal

pub returns : goal.returns
returns c =
    let s = c.args.s.now in
    let t = c.take_while.ensures in
    count_from_yields_List c.take_while.result _ c.count.ensures.ran
    (YieldsList-from_take_while _ is_ascii_digit (YieldsList-from_slice s (search rules)) t.closure t.done (λ x b q k. search (rules, tests)))
    ∙ length-prefix_len is_ascii_digit s ∙ digits-std s
