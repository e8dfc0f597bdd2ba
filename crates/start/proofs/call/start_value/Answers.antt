-- `start::call::start_value` meets its contract. Assumes nothing.
use mathlib.Core.Path.{sym, ap, ◌∙◌}
use lib.Seq.{length-take-le}
use Rattle.std.proofs.lemmas.Result.{err_from_is_err_and}
use Rattle.tape.specs.Questions.{checked}
use Rattle.tape.proofs.questions.Reading.{refused_by}
use Rattle.formula.proofs.Loading.{filled, pointing, words_fit, lines_fit}
use Rattle.start.proofs.Asking.{few_words, tape_refused, loaded-answer}
use Rattle.start.proofs.call.start_value.Goals as goal

pub slice_bounds-tokens-end : goal.slice_bounds-tokens-end
slice_bounds-tokens-end c = words_fit _ _ _ _ _ c.in_ok-loaded.ensures.loaded.1 (sym c.load.auto.tokens)

pub slice_bounds-asked-end : goal.slice_bounds-asked-end
slice_bounds-asked-end c = sym (length-take-le _ _ (words_fit _ _ _ _ _ c.in_ok-loaded.ensures.loaded.1 (sym c.load.auto.tokens)))

pub slice_bounds-lines-end : goal.slice_bounds-lines-end
slice_bounds-lines-end c = lines_fit _ _ _ _ _ c.in_ok-loaded.ensures.loaded.1 (sym c.load.auto.lines)

pub slice_bounds-asked-end-2 : goal.slice_bounds-asked-end-2
slice_bounds-asked-end-2 c = sym (length-take-le _ _ (lines_fit _ _ _ _ _ c.in_ok-loaded.ensures.loaded.1 (sym c.load.auto.lines)))

pub asked-requires : goal.asked-requires
asked-requires c =
    let l = c.in_ok-loaded.ensures.loaded.1 in
    (filled _ _ _ _ _ l, pointing _ _ _ _ _ l, few_words _ _ _ _ _ l)

pub returns-in_err-loaded : goal.returns-in_err-loaded
returns-in_err-loaded c = let p = err_from_is_err_and c.from_residual.result c.from_residual.ensures.1 in
    rw (p.1, p.2) (tape_refused c.args.tape.now _ _ _ (refused_by c.args.tape.now (sym (ap checked c.in_err-loaded.was) ∙ c.load.ensures.asked)))

pub returns : goal.returns
returns c = loaded-answer _ _ _ _ _ c.in_ok-loaded.ensures.loaded.1 _ _ _ c.asked.ensures
