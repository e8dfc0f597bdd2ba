-- `plan::uses::use_width` meets its contract. Assumes nothing.
use Rattle.std.proofs.Common.{rules, ◌≡◌}
use Rattle.std.specs.Option.{MatchOption}
use Rattle.lines.specs.declared.fams.Named.{Named}
use Rattle.plan.proofs.Fitting.{width_is}
use Rattle.plan.proofs.uses.use_width.Goals as goal

pub returns : goal.returns
returns c =
    let h : MatchOption c.name_of.result (c.map_or.result ≡ 64) (λ (m : Named). c.map_or.result ≡ m.width) = search rules in
    search (rules, width_is)
