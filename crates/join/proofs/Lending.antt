-- The same slices, lent on from call to call. Assumes nothing.
use mathlib.Core.Path.{refl}
use Rattle.join.specs.declared.workspace.Workspace.{Workspace}
use Rattle.join.specs.Workspaces.{SameListing}

pub same_listing : {w : Workspace} → SameListing w w
same_listing = record { area_is = refl; tokens_are = refl; lines_are = refl; area2_is = refl; tokens2_are = refl; marks_are = refl; marks_length = refl }
