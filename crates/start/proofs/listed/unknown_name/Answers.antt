-- `start::listed::unknown_name` meets its contract. Assumes nothing.
use mathlib.Core.Path.{ap}
use Rattle.start.specs.Items.{shown}
use Rattle.start.proofs.Entries.{head-shorter}
use Rattle.start.proofs.Naming.{names, searches_first, searches_next, chosen_wrong, entry_wrong, none_wrong}
use Rattle.start.proofs.listed.unknown_name.Goals as goal

pub returns-then-not-is_register-clause-name : goal.returns-then-not-is_register-clause-name
returns-then-not-is_register-clause-name c = chosen_wrong c.args.chosen.now c.args.list.now c.is_register.ensures c.if-not-is_register.true

pub returns-then-not-is_register-clause-names : goal.returns-then-not-is_register-clause-names
returns-then-not-is_register-clause-names c = names _ _

pub returns-then-not-is_register-2-clause-name : goal.returns-then-not-is_register-2-clause-name
returns-then-not-is_register-2-clause-name c =
    entry_wrong c.args.chosen.now c.args.list.now c.is_register.ensures c.if-not-is_register.false _ c.loop-entry.invariant c.first_entry.ensures _ _
    (ap shown c.in-Some.is) c.is_register-in-Some.ensures c.if-not-is_register-2.true

pub returns-then-not-is_register-2-clause-names : goal.returns-then-not-is_register-2-clause-names
returns-then-not-is_register-2-clause-names c = names _ _

pub loop-entry-init : goal.loop-entry-init
loop-entry-init c = searches_first _

pub loop-entry-smaller : goal.loop-entry-smaller
loop-entry-smaller c = head-shorter _ c.first_entry.ensures (ap shown c.in-Some.is)

pub loop-entry-preserved : goal.loop-entry-preserved
loop-entry-preserved c =
    searches_next c.args.chosen.now c.args.list.now c.is_register.ensures c.if-not-is_register.false _ c.loop-entry.invariant c.first_entry.ensures _ _
    (ap shown c.in-Some.is) c.is_register-in-Some.ensures c.if-not-is_register-2.false

pub returns-clause-name : goal.returns-clause-name
returns-clause-name c =
    none_wrong c.args.chosen.now c.args.list.now c.is_register.ensures c.if-not-is_register.false _ c.loop-entry.invariant c.first_entry.ensures (ap shown c.in_default.is)

pub returns-clause-names : goal.returns-clause-names
returns-clause-names c = names _ _
