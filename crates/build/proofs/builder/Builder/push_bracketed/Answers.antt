-- `build::builder::Builder::push_bracketed` meets its contract. Assumes nothing.
use native.Mathlib.Omega.{arith}
use mathlib.Core.Path.{refl}
use mathlib.Core.List.{[], ◌∷◌, ◌++◌}
use Rattle.reference.specs.Text.{bytes}
use Rattle.reference.specs.Listing.{token, Punct}
use Rattle.lines.specs.Words.{tokens_of}
use Rattle.lines.specs.Shapes.{expr_words}
use Rattle.build.proofs.Pushing.{punct-joins}
use Rattle.build.proofs.Pushes.{pushed_none, pushed_then, ready_then}
use Rattle.build.proofs.Lending.{lent_then}
use Rattle.build.proofs.builder.Builder.push_bracketed.Goals as goal

pub push_text-requires : goal.push_text-requires
push_text-requires c =
    let r = c.requires.2 in
    let e = tokens_of _ _ (expr_words c.args.source.now c.args.x) in
    (punct-joins, omega arith, r.extendable, (ready_then (pushed_none r) (token Punct (bytes "(") ∷ []) (e ++ (token Punct (bytes ")") ∷ [])) r.room refl refl refl).room)

pub push_expr-requires : goal.push_expr-requires
push_expr-requires c =
    let p = c.requires in
    let opened = c.push_text.ensures in
    let r = p.2 in
    let e = tokens_of _ _ (expr_words c.args.source.now c.args.x) in
    (p.0, p.1, ready_then (opened.pushed _ r.built) e (token Punct (bytes ")") ∷ []) r.room refl opened.lent.area_length opened.lent.tokens_length)

pub push_text-requires-2 : goal.push_text-requires-2
push_text-requires-2 c =
    let opened = c.push_text.ensures in
    let filled = c.push_expr.ensures in
    let lent = lent_then opened.lent filled.lent in
    let q = ready_then (pushed_then (opened.pushed _ c.requires.2.built) filled.pushed) (token Punct (bytes ")") ∷ []) [] c.requires.2.room refl
    lent.area_length lent.tokens_length in
    (punct-joins, omega arith, q.extendable, q.room)

pub returns-clause-pushed : goal.returns-clause-pushed
returns-clause-pushed c =
    let filled = c.push_expr.ensures.pushed in
    pushed_then (pushed_then (c.push_text.ensures.pushed _ c.requires.2.built) filled) (c.push_text-2.ensures.pushed _ filled.built)
