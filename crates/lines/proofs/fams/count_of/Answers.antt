-- `lines::fams::count_of` meets its contract. Assumes nothing.
use borrow.Author.Rules.{rules}
use Rattle.lines.proofs.words.Chains.{serves_words, count_words}
use Rattle.reference.specs.Names.{of_family}
use Rattle.lines.specs.Texts.{token_of, fam_text}
use Rattle.lines.proofs.fams.count_of.Goals as goal

pub count-requires-clause-can : goal.count-requires-clause-can
count-requires-clause-can c = (tt, tt, serves_words c.requires.0 (cc) (λ x q k. search rules) (λ x p. search rules))

pub returns : goal.returns
returns c =
    let a = c.args in
    count_words (of_family (fam_text a.texts.now a.f)) (token_of a.texts.now) a.line.now
    _ c.filter.result _ c.count.ensures.ran (cc) c.filter.ensures.closure (λ x b q k. search rules)
