-- `reports::why::words` meets its contract. Assumes nothing.
use mathlib.Core.Path.{subst⁻¹}
use Rattle.std.proofs.Common.{ℕ}
use Rattle.reference.specs.Text.{Text}
use Rattle.answers.specs.Refusals.{number_of}
use Rattle.reports.specs.Because.{Stops, OfProfile}
use Rattle.reports.proofs.Stopping.{stops, told_broken}
use Rattle.reports.proofs.why.words.Goals as goal

pub returns-clause-stops : goal.returns-clause-stops
returns-clause-stops c = λ h e.
    (let a = c.args in
    let n : ℕ = number_of a.refused.reason in
    subst⁻¹ (λ (w : Text). Stops a.tape.now n a.refused.place w) c.words_by_reason.ensures (stops a.tape.now n a.refused.place h e))

pub returns-clause-profile : goal.returns-clause-profile
returns-clause-profile c =
    let a = c.args in
    let n : ℕ = number_of a.refused.reason in
    subst⁻¹ (λ (w : Text). OfProfile a.tape.now n a.refused.place w) c.words_by_reason.ensures (told_broken a.tape.now n a.refused.place)
