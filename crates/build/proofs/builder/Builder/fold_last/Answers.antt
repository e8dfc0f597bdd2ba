-- `build::builder::Builder::fold_last` meets its contract. Assumes nothing.
use Rattle.build.proofs.FoldedLast.{foldable-last, folded-last}
use Rattle.build.proofs.builder.Builder.fold_last.Goals as goal

pub fold-f-requires : goal.fold-f-requires
fold-f-requires c =
    foldable-last c.requires.0 c.requires.1

pub returns-clause-folded : goal.returns-clause-folded
returns-clause-folded c =
    let fold = c.fold-f in
    folded-last c.requires.0 _ fold.ensures fold.auto.area fold.auto.line c.requires.1
