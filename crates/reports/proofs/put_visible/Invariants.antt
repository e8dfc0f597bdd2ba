-- What the loop of `reports::put_visible` keeps true.
use Rattle.std.proofs.Common.{take}
use mathlib.Core.List.{flat_map}
use Rattle.text.specs.Cursor.{Puts}
use Rattle.reports.specs.Reports.{visible_byte}
use Rattle.reports.proofs.put_visible.Given as goal

abbrev pub invariant-loop-b : goal.invariant-loop-b
invariant-loop-b l = Puts l.initial.shown (flat_map visible_byte (take l.b-index l.name)) l.shown
