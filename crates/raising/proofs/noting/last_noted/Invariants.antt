-- What the loop of `raising::noting::last_noted` keeps true: of the lines before line k the last that is noted. Assumes nothing.
use Rattle.raising.proofs.Told.{LastTo}
use Rattle.raising.proofs.noting.last_noted.Given as goal

abbrev pub invariant-loop-k : goal.invariant-loop-k
invariant-loop-k l = LastTo l.parts l.i l.k l.last
