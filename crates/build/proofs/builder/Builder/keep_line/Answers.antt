-- `build::builder::Builder::keep_line` meets its contract. Assumes nothing.
use native.Mathlib.Omega.{arith}
use Rattle.lines.proofs.words.Lines.{count-below}
use Rattle.build.proofs.Adding.{part_length, added-kept}
use Rattle.build.proofs.builder.Builder.keep_line.Goals as goal

pub with_tokens-requires : goal.with_tokens-requires
with_tokens-requires c =
    (c.requires.first_fits, omega (arith, count-below c.args.l, part_length c.requires.lined, (rw c.line_of.ensures at c.keep_tokens.ensures.added).words_most))

pub returns-clause-kept : goal.returns-clause-kept
returns-clause-kept c =
    added-kept c.requires.lined c.requires.first_fits c.with_tokens.ensures (rw c.line_of.ensures at c.keep_tokens.ensures.added)
