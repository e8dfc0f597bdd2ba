-- `plan::uses::begins_elsewhere` meets its contract. Assumes nothing.
use Rattle.std.proofs.Common.{rules, ◌≡◌, false, ◌&&◌, not, ltb, eqb}
use Rattle.std.specs.Option.{MatchOption}
use Rattle.lines.specs.declared.fams.Named.{Named}
use Rattle.plan.proofs.Fitting.{elsewhere_is}
use Rattle.plan.proofs.uses.begins_elsewhere.Goals as goal

pub returns : goal.returns
returns c =
    let h : MatchOption c.name_of.result (c.is_some_and.result ≡ false) (λ (m : Named). c.is_some_and.result ≡ (ltb m.width 32 && not (eqb m.lowest c.args.lowest))) = search rules in
    search (rules, elsewhere_is)
