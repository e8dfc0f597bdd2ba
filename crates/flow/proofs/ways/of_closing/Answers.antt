-- `flow::ways::of_closing` meets its contract. Assumes nothing.
use native.Mathlib.Omega.{arith}
use mathlib.Core.Path.{refl, ap}
use Rattle.lines.specs.Texts.{bare_listing}
use Rattle.reference.specs.Options.{option_of}
use Rattle.flow.specs.declared.lineforms.Form.TheVariants.{Opening, If, Switch, Else, ElseIf}
use Rattle.flow.proofs.Tables.{table_few, table_opener, opened_inside, opened_form, the_form, not_form}
use Rattle.flow.proofs.Nexts.{closing_none, closing_by, closing_if, closing_switch, closing_else, closing_else_if, closing_other}
use Rattle.flow.proofs.ways.of_closing.Goals as goal

pub opener-requires : goal.opener-requires
opener-requires c = let t = c.requires.0 in (table_few c.args.g.now t, omega (arith, t.table.long), omega (arith, t.table.long, t.short))

pub bounds : goal.bounds
bounds c = opened_inside c.args.g.now c.args.k c.requires.0 c.requires.1 c.opener.ensures c.in-Some.is

pub offset_bounds-g-d : goal.offset_bounds-g-d
offset_bounds-g-d c = let t = c.requires.0 in
    let h = opened_inside c.args.g.now c.args.k t c.requires.1 c.opener.ensures c.in-Some.is in
    omega (arith, h, t.table.long, t.short)

pub returns-in-None : goal.returns-in-None
returns-in-None c = let g = c.args.g.now in
    closing_none (bare_listing g.listing) c.args.k (table_opener g c.args.k c.requires.0 c.opener.result c.opener.ensures) (ap option_of c.in-None.is)

pub returns-in-Opening : goal.returns-in-Opening
returns-in-Opening c =
    let g = c.args.g.now in
    let f = opened_form g c.args.k c.requires.0 c.requires.1 c.opener.ensures c.in-Some.is in
    let e = table_opener g c.args.k c.requires.0 c.opener.result c.opener.ensures in
    closing_by (bare_listing g.listing) c.args.k e (ap option_of c.in-Some.is) (the_form Opening f refl c.in-Opening.is)

pub returns-in-If : goal.returns-in-If
returns-in-If c =
    let g = c.args.g.now in
    let f = opened_form g c.args.k c.requires.0 c.requires.1 c.opener.ensures c.in-Some.is in
    let e = table_opener g c.args.k c.requires.0 c.opener.result c.opener.ensures in
    closing_if (bare_listing g.listing) c.args.k e (ap option_of c.in-Some.is) (the_form If f refl c.in-If.is)

pub returns-in-Switch : goal.returns-in-Switch
returns-in-Switch c =
    let g = c.args.g.now in
    let f = opened_form g c.args.k c.requires.0 c.requires.1 c.opener.ensures c.in-Some.is in
    let e = table_opener g c.args.k c.requires.0 c.opener.result c.opener.ensures in
    closing_switch (bare_listing g.listing) c.args.k e (ap option_of c.in-Some.is) (the_form Switch f refl c.in-Switch.is)

pub returns-in-Else : goal.returns-in-Else
returns-in-Else c =
    let g = c.args.g.now in
    let f = opened_form g c.args.k c.requires.0 c.requires.1 c.opener.ensures c.in-Some.is in
    let e = table_opener g c.args.k c.requires.0 c.opener.result c.opener.ensures in
    closing_else (bare_listing g.listing) c.args.k e (ap option_of c.in-Some.is) (the_form Else f refl c.in-Else.is)

pub returns-in-ElseIf : goal.returns-in-ElseIf
returns-in-ElseIf c =
    let g = c.args.g.now in
    let f = opened_form g c.args.k c.requires.0 c.requires.1 c.opener.ensures c.in-Some.is in
    let e = table_opener g c.args.k c.requires.0 c.opener.result c.opener.ensures in
    closing_else_if (bare_listing g.listing) c.args.k e (ap option_of c.in-Some.is) (the_form ElseIf f refl c.in-ElseIf.is)

pub returns-in_default : goal.returns-in_default
returns-in_default c =
    let g = c.args.g.now in
    let f = opened_form g c.args.k c.requires.0 c.requires.1 c.opener.ensures c.in-Some.is in
    let e = table_opener g c.args.k c.requires.0 c.opener.result c.opener.ensures in
    let d = c.in_default in
    closing_other (bare_listing g.listing) c.args.k e (ap option_of c.in-Some.is) (not_form Opening f refl d.not-Opening) (not_form If f refl d.not-If) (not_form Switch f refl d.not-Switch)
    (not_form Else f refl d.not-Else) (not_form ElseIf f refl d.not-ElseIf)
