-- What the loop of `plan::uses::use_of` keeps true: the answer is that of the search from line j on. Assumes nothing.
use mathlib.Core.Path.{◌≡◌}
use Rattle.reference.specs.Rules.{volatile}
use Rattle.joining.specs.Plan.{use_of}
use Rattle.ground.specs.Rules.{rules_of}
use Rattle.lines.specs.Texts.{bare_listing, words_at}
use Rattle.plan.specs.Texts.{definition_in}
use Rattle.plan.proofs.Looking.{used-from}
use Rattle.plan.proofs.uses.use_of.Given as goal

abbrev pub invariant-loop-j : goal.invariant-loop-j
invariant-loop-j l =
    let g = l.listing in
    let d = definition_in g.texts (words_at g l.i) l.d in
    use_of (bare_listing g) l.i d (volatile (rules_of l.rules))
    ≡ used-from g.texts.tape.now g.texts.area.now g.tokens.now g.lines.now l.i d (volatile (rules_of l.rules)) l.j
