-- `flow::ways::in_block` meets its contract. Assumes nothing.
use mathlib.Core.Path.{refl}
use Rattle.lines.specs.Texts.{bare_listing}
use Rattle.flow.specs.declared.lineforms.Form.TheVariants.{If, ElseIf, Else, Switch}
use Rattle.flow.proofs.Tables.{table_form, the_form, not_form}
use Rattle.flow.proofs.Nexts.{in_if, in_else_if, in_else, in_switch, in_other}
use Rattle.flow.proofs.ways.in_block.Goals as goal

pub returns-in-If : goal.returns-in-If
returns-in-If c = let g = c.args.g.now in
    let k = c.args.k in
    in_if (bare_listing g.listing) k c.args.c (the_form If (table_form g k c.requires.0 c.requires.1) refl c.in-If.is) c.behind.ensures

pub returns-in-ElseIf : goal.returns-in-ElseIf
returns-in-ElseIf c = let g = c.args.g.now in
    let k = c.args.k in
    in_else_if (bare_listing g.listing) k c.args.c (the_form ElseIf (table_form g k c.requires.0 c.requires.1) refl c.in-ElseIf.is) c.behind-in-ElseIf.ensures

pub returns-in-Else : goal.returns-in-Else
returns-in-Else c = let g = c.args.g.now in
    let k = c.args.k in
    in_else (bare_listing g.listing) k c.args.c (the_form Else (table_form g k c.requires.0 c.requires.1) refl c.in-Else.is)

pub returns-in-Switch : goal.returns-in-Switch
returns-in-Switch c = let g = c.args.g.now in
    let k = c.args.k in
    in_switch (bare_listing g.listing) k c.args.c (the_form Switch (table_form g k c.requires.0 c.requires.1) refl c.in-Switch.is)

pub returns-in_default : goal.returns-in_default
returns-in_default c = let g = c.args.g.now in
    let t = table_form g c.args.k c.requires.0 c.requires.1 in
    in_other (bare_listing g.listing) c.args.k c.args.c (not_form If t refl c.in_default.not-If) (not_form ElseIf t refl c.in_default.not-ElseIf)
    (not_form Else t refl c.in_default.not-Else) (not_form Switch t refl c.in_default.not-Switch)
