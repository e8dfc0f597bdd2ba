-- What the loop of `reports::put_quoted` keeps true.
use Rattle.std.proofs.Common.{take}
use mathlib.Core.List.{flat_map}
use Rattle.text.specs.Cursor.{Puts}
use Rattle.reports.specs.Reports.{quoted_byte}
use Rattle.reports.proofs.put_quoted.Given as goal

abbrev pub invariant-loop-b : goal.invariant-loop-b
invariant-loop-b l = Puts l.initial.page (flat_map quoted_byte (take l.b-index l.text)) l.page
