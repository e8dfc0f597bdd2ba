-- `plan::slots::slot_among` meets its contract. Assumes nothing.
use Rattle.std.proofs.Common.{rules, ◌≡◌, ◌∙◌, eqb}
use lib.Pointwise.{pointwise}
use Rattle.reference.specs.Text.{◌≟◌}
use Rattle.laws.proofs.Std.{same-std}
use Rattle.lines.specs.Words.{text_of}
use Rattle.lines.proofs.words.Chains.{serves_words, any_words}
use Rattle.plan.proofs.slots.slot_among.Goals as goal

pub any-requires-clause-callable : goal.any-requires-clause-callable
any-requires-clause-callable c = serves_words c.requires.holds (search rules) (λ x q k. search rules) (λ x h. search rules)

pub returns : goal.returns
returns c =
    let t = c.args.slots.now.text.now in
    let s = c.args.s.now in
    any_words (◌≟ s) (text_of t t) c.args.slots.now.words.now _ _ _ c.any.ensures.ran (search rules)
    (λ x b q k.
    let e : b ≡ pointwise eqb (text_of t t x.now) s = search rules in
    (search rules, e ∙ same-std (text_of t t x.now) s))
