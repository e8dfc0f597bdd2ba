-- `lines::shapes::call_at` meets its contract. Assumes nothing.
use borrow.Author.Rules.{rules}
use Rattle.reference.specs.Shapes.{calls_here, call_in}
use Rattle.lines.proofs.words.Chains.{serves_pairs, position_pairs}
use Rattle.lines.specs.Texts.{token_of}
use Rattle.lines.proofs.shapes.call_at.Goals as goal

pub position-requires-clause-callable : goal.position-requires-clause-callable
position-requires-clause-callable c = serves_pairs c.requires (cc) (cc) (λ x q k. search rules) (λ x l p q. search rules)

pub returns : goal.returns
unfolding call_in
returns c = let a = c.args in position_pairs calls_here (token_of a.texts.now) a.line.now _ _ _ c.position.ensures.ran (cc) (cc) (λ x b q k. search rules)
