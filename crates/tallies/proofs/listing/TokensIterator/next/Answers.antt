-- `tallies::listing::Tokens::next` gives the tokens in order. Assumes nothing.
use mathlib.Core.Path.{◌≡◌, refl, sym, ap, ◌∙◌}
use Rattle.std.proofs.Common.{[], ◌∷◌}
use Rattle.reference.specs.Tape.{old}
use Rattle.tape.specs.Held.{places_at, places_from, tokens_of, commands, unplaced}
use Rattle.tape.specs.Walk.{event_shown, left}
use Rattle.tallies.specs.Lines.{tokens_left}
use Rattle.tallies.proofs.listing.TokensIterator.next.Goals as goal
use Rattle.tallies.proofs.listing.TokensIterator.next.Goals.{in-Some+in-Line, in_default}

no_bytes : tokens_of (commands []) ≡ []
unfolding places_at places_from
no_bytes = refl

pub returns-clause-steps : goal.returns-clause-steps
returns-clause-steps c =
    let more = unplaced (left old c.next.new.self) in
    let e : tokens_left c.loop-c.self ≡ []
    = elim c.match-next.branch [
      | in-Some+in-Line w ↦ ap (λ ps. tokens_of (unplaced ps)) w.in-Some.ensures.steps ∙ ap (λ e. tokens_of (event_shown e ∷ more)) w.in-Line.is
      | in_default w ↦ ap (λ ps. tokens_of (unplaced ps)) w.in_default.ensures.steps.0
    ] in
    (sym c.loop-c.invariant ∙ e, ap (λ ps. tokens_of (unplaced ps)) c.new-self.ensures ∙ no_bytes)
