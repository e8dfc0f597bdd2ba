-- `plan::definitions::definition_of` meets its contract. Assumes nothing.
use Rattle.std.proofs.Common.{rules}
use Rattle.lines.proofs.fams.Families.{as_known}
use Rattle.lines.proofs.shapes.Sides.{assigned-side}
use Rattle.plan.proofs.Defining.{assigning, defining, defined_as}
use Rattle.plan.proofs.definitions.definition_of.Goals as goal

pub returns-in_err-x : goal.returns-in_err-x
returns-in_err-x c = search (rules, defining)

pub bounds-line-0 : goal.bounds-line-0
bounds-line-0 c = search (rules, assigning)

pub name_of-requires : goal.name_of-requires
name_of-requires c = search (rules, assigning)

pub returns-in_err-name : goal.returns-in_err-name
returns-in_err-name c = search (rules, defining)

pub mentions-requires : goal.mentions-requires
mentions-requires c = (c.requires, assigned-side c.assignment.ensures c.in_ok-x.was, as_known c.name_of.ensures c.in_ok-name.was)

pub returns-then-mentions : goal.returns-then-mentions
returns-then-mentions c = search (rules, defining)

pub reads_memory-requires : goal.reads_memory-requires
reads_memory-requires c = (c.requires, assigned-side c.assignment.ensures c.in_ok-x.was)

pub returns : goal.returns
returns c =
    defined_as c.args.texts.now.tape.now c.args.texts.now.area.now c.args.line.now c.assignment.ensures c.in_ok-x.was c.name_of.ensures c.in_ok-name.was
    c.mentions.ensures (search rules) c.has_call.ensures c.reads_memory.ensures
