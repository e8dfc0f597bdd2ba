-- `flow::lineforms::line_form` meets its contract. Assumes nothing.
use Rattle.flow.proofs.Classes.{classed_front}
use Rattle.flow.proofs.lineforms.line_form.Goals as goal

pub returns : goal.returns
returns c =
    let f = c.form_of-f.ensures in
    let h = c.classed.ensures in
    record {
      form_is = classed_front c.classed.result f.is.front h;
      braces = f.is.braces;
      case_is = c.is_case.ensures;
      entered_is = c.is_entered.ensures;
      opaque_is = c.is_opaque.ensures;
      few = f.few.few;
    }
