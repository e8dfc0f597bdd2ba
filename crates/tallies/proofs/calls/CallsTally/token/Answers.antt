-- `token` of tallies::calls meets its contract. Assumes nothing.
use mathlib.Core.Path.{sym, ap, ◌∙◌}
use mathlib.Core.List.{[], ◌∷◌}
use Rattle.std.proofs.Common.{◌≡◌, ◌+◌}
use Rattle.reference.specs.Listing.{token}
use Rattle.reference.specs.Control.{◌and◌}
use Rattle.reference.specs.Claim.{opens, one_if}
use Rattle.laws.proofs.Scans.{and_true, and_false}
use Rattle.tallies.proofs.Adding.{calls-before, calls_more, byte_if}
use Rattle.tallies.proofs.calls.CallsTally.token.Goals as goal
use Rattle.tallies.proofs.calls.CallsTally.token.Goals.{then-self, else-self}

pub returns-then-not-self-clause-counts : goal.returns-then-not-self-clause-counts
returns-then-not-self-clause-counts c = let a = c.args in
    record { adds = (calls-before a.self.name.now (token a.kind a.text.now) a.self c.if-not-self.true).adds }

pub returns-clause-counts : goal.returns-clause-counts
returns-clause-counts c = let a = c.args in
    let t = token a.kind a.text.now in
    let begun = c.if-not-self.false in
    let called : c.if-self.called ≡ (a.self.named and opens (t ∷ []))
    = elim c.if-self.branch [
      | then-self w ↦ w.called-is ∙ w.opens-called.ensures ∙ sym (and_true (opens (t ∷ [])) w.if-self.true)
      | else-self w ↦ w.called-is ∙ w.if-self.false ∙ sym (and_false (opens (t ∷ [])) w.if-self.false)
    ] in
    let more = calls_more a.self.name.now t a.self begun
    (byte_if a.self.count c.if-self.called c.from.ensures ∙ ap (λ b. a.self.count + one_if b) called) begun c.is_name.ensures in
    record { adds = more.adds }
