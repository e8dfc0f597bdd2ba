-- `token` of tallies::casts meets its contract. Assumes nothing.
use mathlib.Core.Path.{refl, sym, ◌∙◌}
use mathlib.Core.Bool.{false}
use mathlib.Core.Option.{none}
use Rattle.std.proofs.Common.{◌≡◌}
use Rattle.reference.specs.Listing.{token}
use Rattle.reference.specs.Control.{◌and◌}
use Rattle.reference.specs.Claim.{is_call_mark}
use Rattle.laws.proofs.Scans.{and_true, and_false}
use Rattle.tallies.proofs.Adding.{casts_token, byte_if}
use Rattle.tallies.proofs.casts.CastsTally.token.Goals as goal
use Rattle.tallies.proofs.casts.CastsTally.token.Goals.{then-self, else-self}

pub returns-clause-counts : goal.returns-clause-counts
returns-clause-counts c = let a = c.args in
    let mark = is_call_mark none (token a.kind a.text.now) false in
    let called : c.if-self.called ≡ (a.self.begun and mark)
    = elim c.if-self.branch [
      | then-self w ↦ w.called-is ∙ w.is_cast-called.ensures ∙ sym (and_true mark w.if-self.true)
      | else-self w ↦ w.called-is ∙ w.if-self.false ∙ sym (and_false mark w.if-self.false)
    ] in
    casts_token (token a.kind a.text.now) a.self called (byte_if a.self.count c.if-self.called c.from.ensures) refl
