-- What the loop of `usefacts::widths::has_other` keeps true: the answer is that of the tokens from here on. Assumes nothing.
use Rattle.std.proofs.Common.{◌≡◌, drop, eqb}
use Rattle.reference.specs.Control.{not}
use Rattle.reference.specs.Lists.{any}
use Rattle.cautions.specs.Values.{widths_in}
use Rattle.lines.specs.Texts.{tokens_of}
use Rattle.usefacts.proofs.widths.has_other.Given as goal

abbrev pub invariant-loop-w : goal.invariant-loop-w
invariant-loop-w l =
    any (λ x. not (eqb x l.v)) (widths_in l.rules.convention l.last (tokens_of l.texts (drop l.w-index l.ws)))
    ≡ any (λ x. not (eqb x l.v)) (widths_in l.rules.convention l.before (tokens_of l.texts l.ws))
