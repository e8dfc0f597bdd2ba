-- What the code's settings mean. Assumes nothing.
use Rattle.reference.specs.Rules as R
use Rattle.ground.specs.declared.rules.Rules.{Rules}

abbrev pub rules_of : Rules → R.Rules
rules_of r = record { convention = r.convention; settle = r.settle; edition = r.edition; parts = r.parts; profile = r.profile }
