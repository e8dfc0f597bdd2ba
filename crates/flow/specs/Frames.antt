-- What is asked of a frame, the text that the definitions make of a run of tokens, and what a scan over a part of it says of the whole.
-- Assumes nothing.
use Rattle.std.specs.Prelude.{ℕ, ◌+◌, ◌≤◌, ◌≡◌, ◌∷◌, eqb}
use Rattle.reference.specs.Control.{not, ◌and◌, ◌or◌, when◌then◌else◌}
use Rattle.reference.specs.Text.{Text, bytes, contains, starts_with}
use Rattle.reference.specs.Listing.{Token, is, Keyword, Punct}
use Rattle.cautions.specs.Texts.{marks_after, outside, depth, after_unary, all_words}
use Rattle.cautions.specs.Uses.{compares}
use Rattle.flow.specs.declared.frames.Frame.{Frame}
use Rattle.flow.specs.declared.frames.FrameScan.{FrameScan}
use Rattle.flow.specs.Marking.{marking}
use Rattle.flow.specs.Compared.{compared}

-- what is asked of it
abbrev pub seen_of : Text → Frame
seen_of s = record {
  depth = depth 0 s;
  plain = all_words (outside 0 s);
  loose = not (all_words (after_unary (outside 0 s)));
  comma = contains (outside 0 s) 44;
  truth = starts_with (outside 0 s) (bytes "!") or compares (outside 0 s);
  marks = marks_after 0 (outside 0 s);
}

-- one token's part of it
unfoldable pub framed_token : Token → Text
framed_token t = when is Punct t then t.text else when is Keyword t and starts_with t.text (bytes "((void") then bytes "(" else bytes "w"

-- what is asked of the whole, where s is what follows
unfoldable pub framed : FrameScan → Text → Frame
framed f s = record {
  depth = depth f.depth s;
  plain = f.plain and all_words (outside f.depth s);
  loose = f.loose or not (all_words (when f.begun then outside f.depth s else after_unary (outside f.depth s)));
  comma = f.comma or contains (outside f.depth s) 44;
  truth = compared f.comparing (outside f.depth s);
  marks = marking f.marking (outside f.depth s);
}

-- at most n bytes were read
pub record Below (f : FrameScan) (n : ℕ) : Type 0 where
  pub deep : f.depth ≤ n
  pub many : f.marking.count ≤ n

-- g has read the byte c, too, which stands outside brackets
pub record OuterByte (f : FrameScan) (c : ℕ) (g : FrameScan) : Type 0 where
  pub depth_is : g.depth ≡ f.depth
  pub begun_is : g.begun ≡ (f.begun or not (contains (bytes "-~!&*") c))
  pub plain_is : g.plain ≡ (f.plain and eqb c 119)
  pub loose_is : g.loose ≡ (f.loose or (g.begun and not (eqb c 119)))
  pub comma_is : g.comma ≡ (f.comma or eqb c 44)
  pub comparing_is : (s : Text) → compared g.comparing s ≡ compared f.comparing (c ∷ s)
  pub marking_is : (s : Text) → marking g.marking s ≡ marking f.marking (c ∷ s)
  pub many : g.marking.count ≤ f.marking.count + 1
