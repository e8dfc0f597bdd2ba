-- `start::listed::value_of` meets its contract. Assumes nothing.
use mathlib.Core.Path.{ap}
use Rattle.start.specs.Items.{shown}
use Rattle.start.proofs.Entries.{head-shorter, seeks_first, seeks_end, seeks_here, seeks_next}
use Rattle.start.proofs.listed.value_of.Goals as goal

pub loop-entry-init : goal.loop-entry-init
loop-entry-init c = seeks_first _ _

pub returns-then-same : goal.returns-then-same
returns-then-same c = seeks_here _ _ _ c.loop-entry.invariant c.first_entry.ensures _ _ (ap shown c.in-Some.is) c.same.ensures c.if-same.true

pub loop-entry-smaller : goal.loop-entry-smaller
loop-entry-smaller c = head-shorter _ c.first_entry.ensures (ap shown c.in-Some.is)

pub loop-entry-preserved : goal.loop-entry-preserved
loop-entry-preserved c = seeks_next _ _ _ c.loop-entry.invariant c.first_entry.ensures _ _ (ap shown c.in-Some.is) c.same.ensures c.if-same.false

pub returns : goal.returns
returns c = seeks_end _ _ _ c.loop-entry.invariant c.first_entry.ensures (ap shown c.in_default.is)
