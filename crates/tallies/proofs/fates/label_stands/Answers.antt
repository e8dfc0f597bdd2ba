-- `tallies::fates::label_stands` meets its contract. Assumes nothing.
use mathlib.Core.Path.{sym, ap, ◌∙◌}
use Rattle.reference.specs.Options.{option_of}
use Rattle.laws.proofs.Scans.{and_first, and_second}
use Rattle.tape.specs.Held.{held}
use Rattle.tallies.specs.Fates.{is_kept}
use Rattle.tallies.specs.Lines.{line_shown}
use Rattle.tallies.proofs.Fating.{no_label, label_at, label_told}
use Rattle.tallies.proofs.fates.label_stands.Goals as goal

pub returns-in_default : goal.returns-in_default
returns-in_default c = no_label (held c.args.raw.now) c.args.k (held c.args.cleaned.now) (option_of c.args.place) c.in_default.ensures

pub returns-then-is_some : goal.returns-then-is_some
returns-then-is_some c =
    and_second (label_told _ (line_shown c.in-Some.line).tokens c.label.result c.is_some.result c.label.ensures c.is_some.ensures) c.if-is_some.true
    (c.is_kept.ensures ∙ ap is_kept c.fate_of.ensures)
    ∙ sym (label_at (held c.args.raw.now) c.args.k (held c.args.cleaned.now) (option_of c.args.place) c.in-Some.ensures)

pub returns-else-is_some : goal.returns-else-is_some
returns-else-is_some c =
    and_first _ (label_told _ (line_shown c.in-Some.line).tokens c.label.result c.is_some.result c.label.ensures c.is_some.ensures) c.if-is_some.false
    ∙ sym (label_at (held c.args.raw.now) c.args.k (held c.args.cleaned.now) (option_of c.args.place) c.in-Some.ensures)
