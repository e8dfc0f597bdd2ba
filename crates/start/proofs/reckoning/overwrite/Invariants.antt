-- What the loops of `start::reckoning::overwrite` keep true.
use Rattle.start.specs.Formulas.{token_in}
use Rattle.start.proofs.Pricing.{Overwriting}
use Rattle.start.proofs.reckoning.overwrite.Given as goal

abbrev pub invariant-loop-k : goal.invariant-loop-k
invariant-loop-k l =
    Overwriting (token_in l.formula l.target) l.p l.formula.texts.tape.now l.formula.texts.area.now l.formula.tokens.now l.initial.values l.k l.values
