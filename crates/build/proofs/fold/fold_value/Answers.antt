-- `build::fold::fold_value` meets its contract. Assumes nothing.
use Rattle.std.proofs.lemmas.List.{take_rest}
use Rattle.lines.proofs.words.Tokens.{holds-drop}
use Rattle.build.proofs.fold.fold_value.Goals as goal

pub delimited_after-requires : goal.delimited_after-requires
delimited_after-requires c = rw take_rest (holds-drop c.requires.1 3)
