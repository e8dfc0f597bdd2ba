-- `lines::shapes::has_kw` meets its contract. Assumes nothing.
use borrow.Author.Rules.{rules}
use Rattle.lines.proofs.words.Chains.{serves_words, any_words}
use Rattle.reference.specs.Shapes.{is_kw, kw_in}
use Rattle.lines.specs.Traits.{kw_text}
use Rattle.lines.specs.Texts.{token_of}
use Rattle.lines.proofs.shapes.has_kw.Goals as goal

pub any-requires-clause-callable : goal.any-requires-clause-callable
any-requires-clause-callable c = serves_words c.requires (cc) (λ x q k. search rules) (λ x p. search rules)

pub returns : goal.returns
unfolding kw_in
returns c = let a = c.args in any_words (is_kw (kw_text a.kw)) (token_of a.texts.now) a.line.now _ _ _ c.any.ensures.ran (cc) (λ x b q k. search rules)
