-- What the loop of `usefacts::widths::first_width` keeps true: the answer is that of the tokens from here on. Assumes nothing.
use Rattle.std.proofs.Common.{◌≡◌, drop}
use Rattle.reference.specs.Lists.{get}
use Rattle.cautions.specs.Values.{widths_in}
use Rattle.lines.specs.Texts.{tokens_of}
use Rattle.usefacts.proofs.widths.first_width.Given as goal

abbrev pub invariant-loop-w : goal.invariant-loop-w
invariant-loop-w l =
    get (widths_in l.rules.convention l.last (tokens_of l.texts (drop l.w-index l.ws))) 0 ≡ get (widths_in l.rules.convention l.before (tokens_of l.texts l.ws)) 0
