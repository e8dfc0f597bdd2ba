-- `plan::uses::leaves_inputs` meets its contract. Assumes nothing.
use Rattle.std.proofs.Common.{rules, arith}
use Rattle.reference.specs.Control.{not, ◌and◌}
use Rattle.plan.proofs.Defining.{assigning}
use Rattle.plan.proofs.Looking.{leaves_none, leaves_unnamed, leaves_is}
use Rattle.lines.specs.Words.{tokens_of}
use Rattle.lines.specs.Shapes.{expr_words}
use Rattle.plan.proofs.uses.leaves_inputs.Goals as goal

pub returns-in_default : goal.returns-in_default
returns-in_default c = search (rules, leaves_none)

pub bounds-line-0 : goal.bounds-line-0
bounds-line-0 c = search (rules, assigning)

pub name_of-requires : goal.name_of-requires
name_of-requires c = search (rules, assigning)

pub returns-in_default-name_of : goal.returns-in_default-name_of
returns-in_default-name_of c = search (rules, leaves_unnamed)

pub bounds-line-0-then-d : goal.bounds-line-0-then-d
bounds-line-0-then-d c = search (rules, assigning)

pub has-requires : goal.has-requires
has-requires c = (search (rules, assigning), omega arith)

pub returns-after-d : goal.returns-after-d
unfolding not ◌and◌
returns-after-d c =
    let e = leaves_is c.args.texts.now.tape.now c.args.texts.now.area.now (tokens_of c.args.texts.now.tape.now c.args.texts.now.area.now (expr_words c.args.source.now c.args.d.expr)) c.args.line.now
    c.assignment.ensures c.in-Some.is c.name_of.ensures c.in-Some-name_of.is in
    let b = c.requires.2.reads_is in grind arith

pub returns-else-not-mentions : goal.returns-else-not-mentions
unfolding not ◌and◌
returns-else-not-mentions c =
    let e = leaves_is c.args.texts.now.tape.now c.args.texts.now.area.now (tokens_of c.args.texts.now.tape.now c.args.texts.now.area.now (expr_words c.args.source.now c.args.d.expr)) c.args.line.now
    c.assignment.ensures c.in-Some.is c.name_of.ensures c.in-Some-name_of.is in
    let b = c.requires.2.reads_is in grind arith
