-- `flow::ways::of_while` meets its contract. Assumes nothing.
use native.Mathlib.Omega.{arith}
use mathlib.Core.Path.{refl, ap}
use Rattle.lines.specs.Texts.{bare_listing}
use Rattle.reference.specs.Options.{option_of}
use Rattle.flow.specs.declared.lineforms.Form.TheVariants.{Do}
use Rattle.flow.proofs.Tables.{table_few, table_opener, opened_inside, opened_form, the_form, not_form}
use Rattle.flow.proofs.Nexts.{while_none, while_do, while_other}
use Rattle.flow.proofs.ways.of_while.Goals as goal

pub opener-requires : goal.opener-requires
opener-requires c = let t = c.requires.0 in (table_few c.args.g.now t, omega (arith, t.table.long), omega (arith, t.table.long, t.short))

pub bounds : goal.bounds
bounds c = opened_inside c.args.g.now c.args.k c.requires.0 c.requires.1 c.opener.ensures c.in-Some.is

pub offset_bounds-g-d : goal.offset_bounds-g-d
offset_bounds-g-d c = let t = c.requires.0 in
    let h = opened_inside c.args.g.now c.args.k t c.requires.1 c.opener.ensures c.in-Some.is in
    omega (arith, h, t.table.long, t.short)

pub returns-in-None : goal.returns-in-None
returns-in-None c = let g = c.args.g.now in
    while_none (bare_listing g.listing) c.args.k (table_opener g c.args.k c.requires.0 c.opener.result c.opener.ensures) (ap option_of c.in-None.is)

pub returns-in-Do : goal.returns-in-Do
returns-in-Do c =
    let g = c.args.g.now in
    let f = opened_form g c.args.k c.requires.0 c.requires.1 c.opener.ensures c.in-Some.is in
    let e = table_opener g c.args.k c.requires.0 c.opener.result c.opener.ensures in
    while_do (bare_listing g.listing) c.args.k e (ap option_of c.in-Some.is) (the_form Do f refl c.in-Do.is)

pub returns-in_default : goal.returns-in_default
returns-in_default c =
    let g = c.args.g.now in
    let f = opened_form g c.args.k c.requires.0 c.requires.1 c.opener.ensures c.in-Some.is in
    let e = table_opener g c.args.k c.requires.0 c.opener.result c.opener.ensures in
    while_other (bare_listing g.listing) c.args.k e (ap option_of c.in-Some.is) (not_form Do f refl c.in_default.not-Do)
