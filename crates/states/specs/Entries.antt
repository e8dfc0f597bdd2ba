-- What the code's entry of the list of a store means. Assumes nothing.
use Rattle.std.specs.Prelude as std
use Rattle.std.proofs.Math.Option.{Option, none, some}
use Rattle.states.specs.Store.{Entry}
use Rattle.states.specs.declared.cells.Entry as Code

abbrev pub entry_of : std.Option Code.Entry → Option Entry
entry_of (std.Some e) = some (record { name = e.name.now; length = e.length })
entry_of std.None = none
