-- `start::listed::are_known` meets its contract. Assumes nothing.
use mathlib.Core.Path.{ap}
use mathlib.Core.Bool.{not as flip}
use Rattle.start.specs.Items.{shown}
use Rattle.start.proofs.Entries.{head-shorter, knows_first, knows_end, knows_wrong, knows_next}
use Rattle.start.proofs.listed.are_known.Goals as goal

pub loop-entry-init : goal.loop-entry-init
loop-entry-init c = knows_first _

pub returns-then-not-is_register : goal.returns-then-not-is_register
returns-then-not-is_register c =
    knows_wrong _ _ c.loop-entry.invariant c.first_entry.ensures _ _ (ap shown c.in-Some.is) c.is_register.ensures (ap flip c.if-not-is_register.true)

pub loop-entry-smaller : goal.loop-entry-smaller
loop-entry-smaller c = head-shorter _ c.first_entry.ensures (ap shown c.in-Some.is)

pub loop-entry-preserved : goal.loop-entry-preserved
loop-entry-preserved c =
    knows_next _ _ c.loop-entry.invariant c.first_entry.ensures _ _ (ap shown c.in-Some.is) c.is_register.ensures (ap flip c.if-not-is_register.false)

pub returns : goal.returns
returns c = knows_end _ _ c.loop-entry.invariant c.first_entry.ensures (ap shown c.in_default.is) c.is_empty.ensures
