-- `names::rows::column_in` meets its contract. Assumes nothing.
use Rattle.std.proofs.Common.{rules}
use Rattle.std.proofs.lemmas.Iterator.{YieldsList-from_slice}
use Rattle.reference.specs.Text.{Text, ◌≟◌}
use Rattle.laws.proofs.Std.{position_by}
use Rattle.names.specs.Tables.{unpadded}
use Rattle.names.proofs.Tables.{column}
use Rattle.names.proofs.rows.column_in.Goals as goal

pub returns : goal.returns
returns c =
    column c.args.row.now c.args.s.now c.position.result (search rules)
    (position_by (λ (name : Text). unpadded name ≟ c.args.s.now) _ _ c.position.ensures.ran (YieldsList-from_slice _ (search rules)) (λ x b q k. search rules))
