-- `lines::fams::first_of` meets its contract. Assumes nothing.
use borrow.Author.Rules.{rules}
use Rattle.lines.proofs.words.Chains.{serves_words, position_words}
use Rattle.reference.specs.Names.{of_family}
use Rattle.lines.specs.Texts.{token_of, fam_text}
use Rattle.lines.proofs.fams.first_of.Goals as goal

pub position-requires-clause-callable : goal.position-requires-clause-callable
position-requires-clause-callable c = serves_words c.requires.0 (cc) (λ x q k. search rules) (λ x p. search rules)

pub returns : goal.returns
returns c = let a = c.args in position_words (of_family (fam_text a.texts.now a.f)) (token_of a.texts.now) a.line.now _ _ _ c.position.ensures.ran (cc) (λ x b q k. search rules)
