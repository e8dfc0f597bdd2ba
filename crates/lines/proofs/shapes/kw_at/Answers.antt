-- `lines::shapes::kw_at` meets its contract. Assumes nothing.
use borrow.Author.Rules.{rules}
use Rattle.lines.proofs.words.Chains.{serves_words, position_words}
use Rattle.reference.specs.Shapes.{is_kw}
use Rattle.lines.specs.Traits.{kw_text}
use Rattle.lines.specs.Texts.{token_of}
use Rattle.lines.proofs.shapes.kw_at.Goals as goal

pub position-requires-clause-callable : goal.position-requires-clause-callable
position-requires-clause-callable c = serves_words c.requires (cc) (λ x q k. search rules) (λ x p. search rules)

pub returns : goal.returns
returns c = let a = c.args in position_words (is_kw (kw_text a.kw)) (token_of a.texts.now) a.line.now _ _ _ c.position.ensures.ran (cc) (λ x b q k. search rules)
