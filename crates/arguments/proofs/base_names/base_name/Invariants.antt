-- What the loop of `arguments::base_names::base_name` keeps true.
use Rattle.std.proofs.Common.{◌≡◌, drop}
use Rattle.arguments.specs.Names.{base_from, base_name}
use Rattle.arguments.proofs.base_names.base_name.Given as goal

abbrev pub invariant-loop-i : goal.invariant-loop-i
invariant-loop-i l = base_name l.path ≡ base_from l.base (drop l.i l.path)
