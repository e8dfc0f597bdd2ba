-- `tallies::fates::count_standing` meets its contract. Assumes nothing.
use native.Mathlib.Omega.{arith}
use mathlib.Core.Path.{ap, ◌∙◌}
use Rattle.std.proofs.Common.{◌+◌, None, get_or}
use Rattle.reference.specs.Claim.{one_if}
use Rattle.reference.specs.Options.{option_of}
use Rattle.tape.specs.Held.{held}
use Rattle.tallies.specs.Fates.{label_stands}
use Rattle.tallies.proofs.Adding.{at_most, byte_if}
use Rattle.tallies.proofs.Fating.{standing_next, standing_ends}
use Rattle.tallies.proofs.fates.count_standing.Goals as goal

pub loop-k-preserved : goal.loop-k-preserved
loop-k-preserved c =
    let n = c.loop-k.n in
    let stands = label_stands (held c.args.raw.now) c.loop-k.k (held c.args.cleaned.now) (option_of (get_or c.args.places.now c.loop-k.k None)) in
    let e = byte_if n c.label_stands.result c.from-n.ensures ∙ ap (λ b. n + one_if b) c.label_stands.ensures in
    record {
      told = omega (arith, e, standing_next (held c.args.raw.now) (held c.args.cleaned.now) c.loop-k.k c.args.places.now c.loop-k-test.true, c.loop-k.invariant.told);
      few = omega (arith, e, at_most stands, c.loop-k.invariant.few);
    }

pub returns : goal.returns
returns c =
    omega (arith, standing_ends (held c.args.raw.now) (held c.args.cleaned.now) c.loop-k.k c.args.places.now c.loop-k-test.false, c.loop-k.invariant.told)
