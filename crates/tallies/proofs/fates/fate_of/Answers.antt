-- `tallies::fates::fate_of` meets its contract. Assumes nothing.
use mathlib.Core.Path.{◌∙◌}
use Rattle.reference.specs.Options.{option_of}
use Rattle.tape.specs.Held.{held}
use Rattle.tallies.proofs.Fating.{no_raw, no_place, no_finished, as_another}
use Rattle.tallies.proofs.fates.fate_of.Goals as goal

pub returns-in_default : goal.returns-in_default
returns-in_default c = no_raw (held c.args.raw.now) c.args.k (held c.args.cleaned.now) (option_of c.args.place) c.in_default.ensures

pub returns-in_default-place : goal.returns-in_default-place
returns-in_default-place c = rw c.in_default-place.is (no_place (held c.args.raw.now) c.args.k (held c.args.cleaned.now) c.in-Some.ensures)

pub returns-in_default-line_at : goal.returns-in_default-line_at
returns-in_default-line_at c = rw c.in-Some-place.is (no_finished (held c.args.raw.now) c.args.k (held c.args.cleaned.now) c.in-Some-place.q c.in-Some.ensures c.in_default-line_at.ensures)

pub returns : goal.returns
returns c = c.fate_as.ensures ∙ rw c.in-Some-place.is (as_another (held c.args.raw.now) c.args.k (held c.args.cleaned.now) c.in-Some-place.q c.in-Some.ensures c.in-Some-line_at.ensures)
