-- `lines::fams::has_narrow` meets its contract. Assumes nothing.
use borrow.Author.Rules.{rules}
use Rattle.lines.proofs.words.Chains.{serves_words, any_words}
use Rattle.reference.specs.Join.{is_narrow}
use Rattle.lines.specs.Texts.{token_of, fam_text}
use Rattle.lines.proofs.fams.has_narrow.Goals as goal

pub any-requires-clause-callable : goal.any-requires-clause-callable
any-requires-clause-callable c = serves_words c.requires.0 (cc) (λ x q k. search rules) (λ x p. search rules)

pub returns : goal.returns
returns c = let a = c.args in any_words (is_narrow (fam_text a.texts.now a.f)) (token_of a.texts.now) a.line.now _ _ _ c.any.ensures.ran (cc) (λ x b q k. search rules)
