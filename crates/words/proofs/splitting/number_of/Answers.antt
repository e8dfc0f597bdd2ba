-- `words::splitting::number_of` meets its contract. Assumes nothing.
use Rattle.words.proofs.FirstWord.{found_word, next_word, no_word}
use Rattle.reference.specs.Text.{Text}
use mathlib.Core.List.{List}
use native.Mathlib.Nat.{add-zero}
use mathlib.Core.Path.{sym, ap, ◌∙◌}
use Rattle.words.specs.Splitting.{number_of}
use native.Mathlib.Omega.{arith}
use Prim.Native.Nat.{ℕ, ◌+◌}
use borrow.Author.Rules.{rules}
use Rattle.words.proofs.splitting.number_of.Goals as goal

pub loop-at-init : goal.loop-at-init
loop-at-init c = (search rules, search rules, search rules)

pub slice_bounds-same-count : goal.slice_bounds-same-count
slice_bounds-same-count c = c.word_end-e.ensures.behind

pub slice_bounds-same-start : goal.slice_bounds-same-start
slice_bounds-same-start c = c.word_end-e.ensures.behind

pub slice_bounds-same-end : goal.slice_bounds-same-end
slice_bounds-same-end c = c.word_end-e.ensures.within

pub returns-then-same : goal.returns-then-same
returns-then-same c =
    sym
    (c.loop-at.invariant.2
    ∙ ap (λ (m : ℕ). c.loop-at.n + m) (found_word c.args.row.now c.loop-at-test.true c.word_end-e.ensures c.args.word.now (sym c.same.ensures ∙ c.if-same.true))
    ∙ add-zero _)

pub overflow_add-n : goal.overflow_add-n
overflow_add-n c = omega arith

pub overflow_add-at : goal.overflow_add-at
overflow_add-at c = omega (arith, c.word_end-e.ensures.within)

pub loop-at-smaller : goal.loop-at-smaller
loop-at-smaller c = omega (arith, c.word_end-e.ensures.behind, c.word_end-e.ensures.within)

pub loop-at-preserved : goal.loop-at-preserved
loop-at-preserved c = (
  omega (arith, c.word_end-e.ensures.within),
  omega (arith, c.word_end-e.ensures.behind),
  omega (arith, c.loop-at.invariant.2, next_word c.args.row.now c.loop-at-test.true c.word_end-e.ensures c.args.word.now (sym c.same.ensures ∙ c.if-same.false)),
)

pub returns : goal.returns
unfolding number_of
returns c = sym (c.loop-at.invariant.2 ∙ ap (λ (ws : List Text). c.loop-at.n + number_of ws c.args.word.now) (no_word c.args.row.now c.loop-at.at (search rules)) ∙ add-zero _)
