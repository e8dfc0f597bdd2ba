-- `reports::profile::broken` meets its contract. Assumes nothing.
use Rattle.std.proofs.Common.{sym, ap, ◌∙◌}
use lib.Seq.{length-take-le}
use Rattle.tape.specs.Questions.{checked}
use Rattle.tape.proofs.questions.Reading.{refused_by}
use Rattle.formula.proofs.Loading.{filled, words_fit, lines_fit}
use Rattle.reports.specs.Profile.{words_of_breach}
use Rattle.reports.proofs.Loading.{few_tokens, first_is, tells_it, none_told, of_refused, of_passed}
use Rattle.reports.proofs.profile.broken.Goals as goal

pub slice_bounds-tokens-end : goal.slice_bounds-tokens-end
slice_bounds-tokens-end c = words_fit _ _ _ _ _ c.in-Ok.ensures.loaded.1 (sym c.load.auto.tokens)

pub slice_bounds-breach_at-end : goal.slice_bounds-breach_at-end
slice_bounds-breach_at-end c = sym (length-take-le _ _ (words_fit _ _ _ _ _ c.in-Ok.ensures.loaded.1 (sym c.load.auto.tokens)))

pub slice_bounds-lines-end : goal.slice_bounds-lines-end
slice_bounds-lines-end c = lines_fit _ _ _ _ _ c.in-Ok.ensures.loaded.1 (sym c.load.auto.lines)

pub slice_bounds-breach_at-end-in-Ok : goal.slice_bounds-breach_at-end-in-Ok
slice_bounds-breach_at-end-in-Ok c = sym (length-take-le _ _ (lines_fit _ _ _ _ _ c.in-Ok.ensures.loaded.1 (sym c.load.auto.lines)))

pub breach_at-requires : goal.breach_at-requires
breach_at-requires c = let l = c.in-Ok.ensures.loaded.1 in (filled _ _ _ _ _ l, few_tokens _ _ _ _ _ l)

pub returns-in-Ok-clause-words : goal.returns-in-Ok-clause-words
returns-in-Ok-clause-words c =
    let l = c.in-Ok.ensures.loaded.1 in
    let reads = l.listing c.args.tape.now in
    c.words_of_breach.ensures ∙ ap words_of_breach (first_is _ _ _ _ _ l c.args.n c.breach_at.ensures.first _ reads)
    ∙ sym (of_passed c.args.tape.now c.args.n reads)

pub returns-in-Ok-clause-tells : goal.returns-in-Ok-clause-tells
returns-in-Ok-clause-tells c = tells_it _ _ _ _ _ c.in-Ok.ensures.loaded.1 c.breach_at.ensures.tells

pub returns-in-Err-clause-words : goal.returns-in-Err-clause-words
returns-in-Err-clause-words c =
    let r = refused_by c.args.tape.now (sym (ap checked c.in-Err.is) ∙ c.load.ensures.asked) in
    c.text_of.ensures ∙ sym (of_refused c.args.tape.now c.args.n r)

pub returns-in-Err-clause-tells : goal.returns-in-Err-clause-tells
returns-in-Err-clause-tells c = none_told c.args.tape.now (refused_by c.args.tape.now (sym (ap checked c.in-Err.is) ∙ c.load.ensures.asked))
