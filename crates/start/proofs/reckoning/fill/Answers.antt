-- `start::reckoning::fill` meets its contract. Assumes nothing.
use native.Mathlib.Omega.{arith}
use mathlib.Core.Path.{refl, ◌∙◌}
use borrow.Author.Rules.{rules}
use lib.ListN.{length-set}
use Rattle.start.proofs.Pricing.{map-length, filled-first, filled_next, filled-all}
use Rattle.start.proofs.reckoning.fill.Goals as goal

pub loop-k-init : goal.loop-k-init
loop-k-init c = ((λ es q. filled-first _ _ _), refl, search rules)

pub token_pair-requires : goal.token_pair-requires
token_pair-requires c = c.requires.0.at _ c.loop-k-test.true

pub bounds-values-k : goal.bounds-values-k
bounds-values-k c = omega (arith, c.loop-k.invariant.2, c.loop-k-test.true)

pub loop-k-preserved : goal.loop-k-preserved
loop-k-preserved c =
    let long = length-set c.loop-k.values c.loop-k.k c.token_pair.result in (
      (λ es q.
          filled_next _ c.args.formula.now.texts.tape.now c.args.formula.now.texts.area.now c.args.formula.now.tokens.now _ _
          (c.loop-k.invariant.0 es q) c.loop-k-test.true c.loop-k.invariant.2 _ (c.token_pair.ensures es q) _ refl),
      long ∙ c.loop-k.invariant.1,
      omega (arith, long, c.loop-k.invariant.2),
    )

pub returns : goal.returns
returns c = λ es q. filled-all _ _ _ _ (c.loop-k.invariant.0 es q)
    (omega (arith, c.loop-k-test.false, map-length c.args.formula.now.texts.tape.now c.args.formula.now.texts.area.now c.args.formula.now.tokens.now))
