-- `flow::handed::is_void` meets its contract. Assumes nothing.
use native.Mathlib.Omega.{arith}
use borrow.Author.Rules.{rules}
use mathlib.Core.Path.{ap, ◌∙◌}
use mathlib.Core.Path.{◌≡◌}
use lib.ListN.{length, length-map}
use Rattle.lines.specs.Texts.{bare_in, bare_listing, token_of, tokens_of}
use Rattle.flow.proofs.Tables.{listed_tokens}
use Rattle.flow.proofs.Handing.{void_none, void_empty, void_first}
use Rattle.flow.proofs.handed.is_void.Goals as goal

pub returns-then-is_empty : goal.returns-then-is_empty
returns-then-is_empty c =
    let h = c.args.listing.now in
    let none : length h.lines.now ≡ 0 = search rules in
    void_none (bare_listing h) (omega (arith, length-map h.lines.now (bare_in h.texts h.tokens.now), none))

pub returns-then-is_empty-2 : goal.returns-then-is_empty-2
returns-then-is_empty-2 c =
    let h = c.args.listing.now in
    void_empty (bare_listing h) c.line_of-head.result.now (token_of h.texts) (ap (tokens_of h.texts) c.line_of-head.ensures ∙ listed_tokens h 0 (search rules)) (search rules)

pub returns : goal.returns
returns c =
    let h = c.args.listing.now in
    void_first (bare_listing h) c.line_of-head.result.now (token_of h.texts) (ap (tokens_of h.texts) c.line_of-head.ensures ∙ listed_tokens h 0 (search rules)) (search rules) c.is_void_word.ensures
