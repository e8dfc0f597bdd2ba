-- `lines::words::with_tokens` meets its contract. Assumes nothing.
use native.Mathlib.Omega.{arith}
use Rattle.lines.proofs.words.Lines.{indent-below, addressed-below, origin_below, flag_addressed}
use mathlib.Core.Path.{◌∙◌}
use Rattle.lines.specs.Lines.{with_part}
use Rattle.lines.proofs.words.with_tokens.Goals as goal

pub line_word-requires : goal.line_word-requires
line_word-requires c = let l = c.args.l in omega (arith, indent-below l, addressed-below l, origin_below l)

pub returns : goal.returns
unfolding with_part
returns c = c.line_word.ensures ∙ rw (c.indent.ensures, c.addressed.ensures, c.origin.ensures, flag_addressed c.args.l)
