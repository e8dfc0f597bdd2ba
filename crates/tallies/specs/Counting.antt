-- What the code's values mean: what is counted so far, with what is still to come; and which addresses are held. Assumes
-- nothing.
use Rattle.std.specs.Prelude.{ℕ, ◌+◌, ◌≡◌, Bool, false, List, [], ◌∷◌, eqb, leb, length}
use Rattle.std.proofs.Math.Option.{Option, none, some}
use Rattle.reference.specs.Control.{◌and◌, when◌then◌else◌}
use Rattle.reference.specs.Tape as Tape
use Rattle.reference.specs.Spans.{Span, Marks}
use Rattle.reference.specs.Text.{Text, bytes, ◌≟◌}
use Rattle.reference.specs.Lists.{any, is_empty}
use Rattle.reference.specs.Listing.{Token, is, Symbol}
use Rattle.reference.specs.Shapes.{label_tokens}
use Rattle.reference.specs.Claim.{sum, one_if, opens, calls_in, token_count, text_in, text}
use Rattle.tape.specs.Questions as Totals
use Rattle.tape.specs.Held.{commands, tokens_of, lines_of, marks_of}
use Rattle.tallies.specs.declared.sizes.Sizes.{Sizes}
use Rattle.tallies.specs.declared.casts.Casts.{Casts}
use Rattle.tallies.specs.declared.calls.Calls.{Calls}
use Rattle.tallies.specs.declared.labels.Shape.{Shape}
use Rattle.tallies.specs.declared.labels.Shape.TheVariants.{Empty, Name, Label, Other}
use Rattle.tallies.specs.declared.labels.Labels.{Labels}

-- ---- one command more, for a total of what is counted so far and of the commands to come

module _ {S R : Type 0} (total : S → List Tape.Command → R) where
  -- a command is counted, whatever comes behind it
  pub record Counts (c : Tape.Command) (before after : S) : Type 0 where
    pub adds : (more : List Tape.Command) → total after more ≡ total before (c ∷ more)

  -- so is a line's, whatever address and indent it has
  pub record CountsLine (before after : S) : Type 0 where
    pub line : (address : Option ℕ) (indent : ℕ) → Counts (Tape.new_line address indent) before after

-- ---- sizes

abbrev pub sizes_of : Sizes → Totals.Sizes
sizes_of s = record { lines = s.lines; tokens = s.tokens; text = s.text }

-- the first tokens to come are the last line's; a token before any line is in none
abbrev pub first_tokens : ℕ → List Tape.Command → List Token
first_tokens lines more = when eqb lines 0 then [] else tokens_of more

-- those so far, with those of the commands to come
abbrev pub sizes_with : Sizes → List Tape.Command → Sizes
sizes_with s more =
    record {
      lines = s.lines + length (lines_of more);
      tokens = s.tokens + (length (first_tokens s.lines more) + token_count (lines_of more));
      text = s.text + (text_in (first_tokens s.lines more) + text (lines_of more));
    }

-- ---- a number of each line's tokens, added up over the lines

-- What is counted so far: `with_tokens s ts` is the number if the last line goes on with the tokens `ts` and no line follows.
module _ {S : Type 0} (with_tokens : S → List Token → ℕ) (of-line : List Token → ℕ) where
  -- the number with the commands to come
  abbrev pub with_commands : S → List Tape.Command → ℕ
  with_commands s more = with_tokens s (tokens_of more) + sum (λ l. of-line l.tokens) (lines_of more)

-- ---- calls through a cast pointer

unfoldable pub casts_with : Casts → List Token → ℕ
casts_with s ts = s.count + (when s.begun then calls_in none ts else 0)

-- ---- calls of a name

-- whether a token is a Symbol of that name
abbrev pub is_name : Text → Token → Bool
is_name name t = is Symbol t and (t.text ≟ name)

-- `named`: the last token is such a one, and is counted once a bracket opens behind it
unfoldable pub calls_with : Text → Calls → List Token → ℕ
calls_with name s ts = s.count + (when s.begun then one_if (s.named and opens ts) + calls_in (some name) ts else 0)

-- ---- labels

-- whether a line is a label that goes on with these tokens, by what it is so far
abbrev pub is_label_with : Shape → List Token → Bool
is_label_with Empty ts = label_tokens ts
is_label_with Name [] = false
is_label_with Name (t ∷ []) = t.text ≟ bytes ":"
is_label_with Name (t ∷ u ∷ more) = false
is_label_with Label ts = is_empty ts
is_label_with Other ts = false

-- what it is with one token more: whatever comes behind it
pub record Shaped (before : Shape) (t : Token) (after : Shape) : Type 0 where
  pub goes_on : (ts : List Token) → is_label_with after ts ≡ is_label_with before (t ∷ ts)

-- 1 of a label, 0 of another line
abbrev pub label_in : List Token → ℕ
label_in ts = one_if (label_tokens ts)

unfoldable pub labels_with : Labels → List Token → ℕ
labels_with s ts = s.count + one_if (is_label_with s.shape ts)

-- ---- addresses held

-- the addresses and the marks that commands say, each as its lowest and its highest
abbrev pub spans_in : List Tape.Command → List Span
spans_in [] = []
spans_in (Tape.new_line none indent ∷ more) = spans_in more
spans_in (Tape.new_line (some a) indent ∷ more) = record { lowest = a; highest = a } ∷ spans_in more
spans_in (Tape.marked s ∷ more) = s ∷ spans_in more
spans_in (Tape.new_token t ∷ more) = spans_in more
spans_in (Tape.end ∷ more) = spans_in more

-- whether the marks of a line hold them between them
abbrev pub holds : Span → Marks → Bool
holds s none = false
holds s (some m) = leb m.lowest s.lowest and leb s.highest m.highest

-- so the marks of some line of a tape
abbrev pub is_held : List ℕ → Span → Bool
is_held tape s = any (holds s) (marks_of (commands tape))
