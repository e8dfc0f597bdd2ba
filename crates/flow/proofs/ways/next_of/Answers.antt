-- `flow::ways::next_of` meets its contract. Assumes nothing.
use native.Mathlib.Omega.{arith}
use mathlib.Core.Path.{refl, ◌∙◌}
use Rattle.lines.specs.Texts.{bare_listing}
use Rattle.flow.specs.declared.lineforms.Form.TheVariants.{Empty, Statement, Label, Opening, Block, Guarded, Do, Goto, IfGoto, Return, IfReturn, While, Closing}
use Rattle.flow.proofs.Tables.{table_form, the_form, not_form}
use Rattle.flow.proofs.Nexts.{next_statement, next_label, next_opening, next_brackets, next_guarded, next_do}
use Rattle.flow.proofs.Nexts.{next_goto, next_if_goto, next_return, next_if_return, next_while, next_closing, next_empty, next_block}
use Rattle.flow.proofs.ways.next_of.Goals as goal

pub returns-in-Statement : goal.returns-in-Statement
returns-in-Statement c = let g = c.args.g.now in
    next_statement (bare_listing g.listing) c.args.k (the_form Statement (table_form g c.args.k c.requires.0 c.requires.1) refl c.in-Statement.is)

pub returns-in-Label : goal.returns-in-Label
returns-in-Label c = let g = c.args.g.now in
    next_label (bare_listing g.listing) c.args.k (the_form Label (table_form g c.args.k c.requires.0 c.requires.1) refl c.in-Label.is)

pub returns-in-Opening : goal.returns-in-Opening
returns-in-Opening c = let g = c.args.g.now in
    next_opening (bare_listing g.listing) c.args.k (the_form Opening (table_form g c.args.k c.requires.0 c.requires.1) refl c.in-Opening.is)

pub returns-in-Block : goal.returns-in-Block
returns-in-Block c = let g = c.args.g.now in
    next_brackets (bare_listing g.listing) c.args.k (the_form Block (table_form g c.args.k c.requires.0 c.requires.1) refl c.in-Block.is)

pub returns-in-Guarded : goal.returns-in-Guarded
returns-in-Guarded c = let g = c.args.g.now in
    next_guarded (bare_listing g.listing) c.args.k (the_form Guarded (table_form g c.args.k c.requires.0 c.requires.1) refl c.in-Guarded.is)

pub returns-in-Do : goal.returns-in-Do
returns-in-Do c = let g = c.args.g.now in
    next_do (bare_listing g.listing) c.args.k (the_form Do (table_form g c.args.k c.requires.0 c.requires.1) refl c.in-Do.is)

pub returns-in-Goto : goal.returns-in-Goto
returns-in-Goto c = let g = c.args.g.now in
    c.of_goto.ensures ∙ next_goto (bare_listing g.listing) c.args.k (the_form Goto (table_form g c.args.k c.requires.0 c.requires.1) refl c.in-Goto.is)

pub returns-in-IfGoto : goal.returns-in-IfGoto
returns-in-IfGoto c = let g = c.args.g.now in
    c.of_goto-in-IfGoto.ensures ∙ next_if_goto (bare_listing g.listing) c.args.k (the_form IfGoto (table_form g c.args.k c.requires.0 c.requires.1) refl c.in-IfGoto.is)

pub returns-in-Return : goal.returns-in-Return
returns-in-Return c = let g = c.args.g.now in
    c.of_return.ensures ∙ next_return (bare_listing g.listing) c.args.k (the_form Return (table_form g c.args.k c.requires.0 c.requires.1) refl c.in-Return.is)

pub returns-in-IfReturn : goal.returns-in-IfReturn
returns-in-IfReturn c = let g = c.args.g.now in
    c.of_return-in-IfReturn.ensures ∙ next_if_return (bare_listing g.listing) c.args.k (the_form IfReturn (table_form g c.args.k c.requires.0 c.requires.1) refl c.in-IfReturn.is)

pub returns-in-While : goal.returns-in-While
returns-in-While c = let g = c.args.g.now in
    c.of_while.ensures ∙ next_while (bare_listing g.listing) c.args.k (the_form While (table_form g c.args.k c.requires.0 c.requires.1) refl c.in-While.is)

pub returns-in-Closing : goal.returns-in-Closing
returns-in-Closing c = let g = c.args.g.now in
    c.of_closing.ensures ∙ next_closing (bare_listing g.listing) c.args.k (the_form Closing (table_form g c.args.k c.requires.0 c.requires.1) refl c.in-Closing.is)

pub of_empty-requires : goal.of_empty-requires
of_empty-requires c = omega (arith, c.requires.1, c.requires.0.short)

pub returns-in-Empty : goal.returns-in-Empty
returns-in-Empty c = let g = c.args.g.now in
    c.of_empty.ensures (bare_listing g.listing) ∙ next_empty (bare_listing g.listing) c.args.k (the_form Empty (table_form g c.args.k c.requires.0 c.requires.1) refl c.in-Empty.is)

pub returns-in_default : goal.returns-in_default
returns-in_default c = let g = c.args.g.now in
    let t = table_form g c.args.k c.requires.0 c.requires.1 in
    let d = c.in_default in
    c.of_block.ensures ∙ next_block (bare_listing g.listing) c.args.k (not_form Empty t refl d.not-Empty) (not_form Statement t refl d.not-Statement) (not_form Label t refl d.not-Label)
    (not_form Opening t refl d.not-Opening) (not_form Block t refl d.not-Block) (not_form Guarded t refl d.not-Guarded) (not_form Do t refl d.not-Do) (not_form Goto t refl d.not-Goto)
    (not_form IfGoto t refl d.not-IfGoto) (not_form Return t refl d.not-Return) (not_form IfReturn t refl d.not-IfReturn) (not_form While t refl d.not-While) (not_form Closing t refl d.not-Closing)
