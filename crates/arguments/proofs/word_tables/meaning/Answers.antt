-- `arguments::word_tables::meaning` meets its contract. Assumes nothing.
use Rattle.std.proofs.Common.{rules, Some, None, ◌∙◌}
use Rattle.std.proofs.lemmas.Iterator.{YieldsList-from_slice}
use Rattle.std.proofs.lemmas.Iterator.Search.{find_from_yields_List}
use Rattle.arguments.proofs.Rows.{is_row, meaning_found}
use Rattle.arguments.proofs.word_tables.meaning.Goals as goal

pub returns-in_err-row : goal.returns-in_err-row
returns-in_err-row g c =
    let w = c.args.word.now in
    c.from_residual.ensures
    ∙ meaning_found w c.args.rows.now None
    (find_from_yields_List (is_row w) c.find.new.self _ None c.in_err-row.ensures.ran (YieldsList-from_slice _ (search rules)) (λ x b q k. search rules))

pub returns : goal.returns
returns g c =
    let w = c.args.word.now in
    meaning_found w c.args.rows.now (Some c.in_ok-row.row)
    (find_from_yields_List (is_row w) c.find.new.self _ (Some c.in_ok-row.row) c.in_ok-row.ensures.ran (YieldsList-from_slice _ (search rules)) (λ x b q k. search rules))
