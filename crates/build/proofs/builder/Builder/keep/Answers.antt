-- `build::builder::Builder::keep` meets its contract. Assumes nothing.
use Prim.Native.Nat.{zero-le}
use mathlib.Core.Path.{refl}
use Rattle.build.proofs.Appending.{appends_within}
use Rattle.build.proofs.builder.Builder.keep.Goals as goal

pub returns-then-buffer-eq-IN_TAPE-clause-appends : goal.returns-then-buffer-eq-IN_TAPE-clause-appends
returns-then-buffer-eq-IN_TAPE-clause-appends c =
    appends_within refl zero-le (c.add_word.ensures.appends _ _ c.requires.0)
