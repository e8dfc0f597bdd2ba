-- `flow::forms::form_of` meets its contract. Assumes nothing.
use borrow.Author.Rules.{rules}
use Rattle.flow.proofs.Spelled.{colon_alone, no_statement, form_colon, form_none, form_statement}
use Rattle.lines.specs.Texts.{tokens_of}
use Rattle.flow.proofs.forms.form_of.Goals as goal
use Rattle.flow.proofs.forms.form_of.Goals.{else-f-eq0-via-then-f-eq0+else-colon_in, else-f-eq0-via-else-f-eq0}

pub returns-then-colon_in-clause-is : goal.returns-then-colon_in-clause-is
returns-then-colon_in-clause-is c =
    let f = c.statement_of-f.ensures in
    let w = c.with_byte.ensures in
    rw (form_colon (tokens_of c.args.texts.now c.args.line.now) c.colon_in.ensures (no_statement _ _ f.is c.if-f-eq0.true) (search rules))
    (colon_alone c.statement_of-f.result c.with_byte.result _ f.is c.if-f-eq0.true (w.few _ f.few) (w.is _))

pub returns-clause-is : goal.returns-clause-is
returns-clause-is c =
    let f = c.statement_of-f.ensures in
    let ts = tokens_of c.args.texts.now c.args.line.now in
    elim c.else-f-eq0.branch [
      | else-f-eq0-via-then-f-eq0+else-colon_in w ↦ rw (form_none ts w.colon_in.ensures (no_statement _ _ f.is w.if-f-eq0.true) (search rules)) f.is
      | else-f-eq0-via-else-f-eq0 w ↦ rw (form_statement ts _ f.is f.few.sized w.if-f-eq0.false) f.is
    ]
