-- What the loop of `flow::forms::with_words` keeps true: the tokens so far are read. Assumes nothing.
use Rattle.std.proofs.Common.{ℕ, ◌≡◌, ◌+◌, ◌*◌, ◌++◌, drop}
use Rattle.reference.specs.Text.{Text}
use Rattle.cautions.specs.Forms.{words_in}
use Rattle.lines.specs.Texts.{tokens_of}
use Rattle.cautions.specs.Forms.{CONTROL}
use Rattle.flow.specs.Spelling.{spelled, Short}
use Rattle.flow.proofs.forms.with_words.Given as goal

abbrev pub invariant-loop-w : goal.invariant-loop-w
invariant-loop-w l =
    ((more : Text) → spelled l.g (words_in CONTROL (tokens_of l.texts (drop l.w-index l.line)) ++ more) ≡ spelled l.fn.f (words_in CONTROL (tokens_of l.texts l.line) ++ more))
    × ((n : ℕ) → Short l.fn.f n → Short l.g (n + 65535 * l.w-index))
