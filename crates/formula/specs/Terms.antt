-- The pieces of `is_tidy` and of `lexemes` (crate reference, specs/Evaluators.antt) that the code answers. Assumes nothing.
use Rattle.std.specs.Prelude.{ℕ, Bool, true, false, List}
use Rattle.reference.specs.Control.{not, ◌or◌}
use Rattle.reference.specs.Lists.{any}
use Rattle.reference.specs.Text.{Text, bytes, ◌≟◌, starts_with}
use Rattle.reference.specs.Evaluators.{Lexeme, sign, reg, num, junk, lexemes}
use Rattle.lines.specs.Words.{tokens_of}

-- a number without its minus: "no leading zero in decimal except `0`"
unfoldable pub is_plain : Text → Bool
is_plain s = starts_with s (bytes "0x") or not (starts_with s (bytes "0")) or (s ≟ bytes "0")

-- a lexeme that no expression has
unfoldable pub is_junk : Lexeme → Bool
is_junk (sign b) = false
is_junk (reg x) = false
is_junk (num z) = false
is_junk junk = true

abbrev pub has_junk : Text → Text → List ℕ → Bool
has_junk tape area line = any is_junk (lexemes (tokens_of tape area line))
