-- `flow::between::calls_at` meets its contract. Assumes nothing.
use mathlib.Core.Path.{ap, ◌∙◌}
use Rattle.reference.specs.Lists.{is_some}
use Rattle.reference.specs.Shapes.{call_in}
use Rattle.lines.specs.Texts.{tokens_of}
use Rattle.flow.proofs.Tables.{listed_tokens}
use Rattle.flow.proofs.between.calls_at.Goals as goal

pub returns : goal.returns
returns c =
    let h = c.args.listing.now in
    c.has_call.ensures ∙ ap (λ ws. is_some (call_in (tokens_of h.texts ws))) c.line_of-line.ensures
    ∙ ap (λ ts. is_some (call_in ts)) (listed_tokens h c.args.k c.requires.1)
