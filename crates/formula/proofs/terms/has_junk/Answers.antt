-- `formula::terms::has_junk` meets its contract. Assumes nothing.
use Rattle.std.proofs.Common.{ℕ, rules, ◌∙◌}
use Rattle.reference.specs.Lists.{any}
use Rattle.reference.specs.Evaluators.{lexemes_of}
use Rattle.laws.proofs.Std.{any_by}
use Rattle.std.proofs.lemmas.Iterator.{YieldsList-from_slice}
use Rattle.lines.specs.Texts.{token_of}
use Rattle.lines.proofs.words.Chains.{serves_words}
use Rattle.formula.specs.Terms.{is_junk}
use Rattle.formula.proofs.Junk.{scan_is}
use Rattle.formula.proofs.terms.has_junk.Goals as goal

pub any-requires-clause-callable : goal.any-requires-clause-callable
any-requires-clause-callable c = serves_words c.requires (cc) (λ x q k. search rules) (λ x p. search rules)

pub returns : goal.returns
returns c =
    let a = c.args.line.now in
    let t = a.texts in
    any_by (λ (w : ℕ). any is_junk (lexemes_of (token_of t w))) _ _ c.any.ensures.ran (YieldsList-from_slice a.words.now (cc)) (λ x b q k. search rules)
    ∙ scan_is t.tape.now t.area.now a.words.now
