-- `raising::beginning::begin` meets its contract. Assumes nothing.
use mathlib.Core.Path.{sym, ap, ◌∙◌}
use lib.ListN.{replicate}
use Rattle.std.specs.Prelude.{ℕ}
use Rattle.lines.specs.Texts.{bare_listing}
use Rattle.raising.proofs.Gathering.{held_long, zeros}
use Rattle.raising.proofs.beginning.begin.Goals as goal

pub returns-clause-none : goal.returns-clause-none
returns-clause-none c = λ on.
    let h = c.args.listing.now in
    rw (held_long h) (c.clear.ensures.none ∙ ap (λ (n : ℕ). replicate {A = ℕ} n 0) (sym (held_long h)) ∙ zeros (bare_listing h))
