-- `build::builder::Builder::word_between` meets its contract. Assumes nothing.
use native.Mathlib.Omega.{arith}
use mathlib.Core.Path.{◌∙◌}
use Rattle.build.proofs.Appending.{behind-long, behind-short}
use Rattle.build.proofs.builder.Builder.word_between.Goals as goal

pub returns-then-n-gt16 : goal.returns-then-n-gt16
returns-then-n-gt16 c =
    c.token_word.ensures ∙ behind-long c.args.kind c.args.from c.args.end c.args.self.now.area.now c.requires.3 (omega (arith, c.if-n-gt16.true))

pub returns-else-n-gt16 : goal.returns-else-n-gt16
returns-else-n-gt16 c =
    c.area_word.ensures ∙ behind-short c.args.kind c.args.from c.args.end c.args.self.now.area.now c.requires.3 (omega (arith, c.if-n-gt16.false))
