-- The definitions over an area, its token words and how much is in use, of the struct in which the slices are lent: each name means what
-- the definition of that name says. Assumes nothing.
use Rattle.std.specs.Prelude.{ℕ, ◌≡◌, List, length, get_or}
use Rattle.reference.specs.Text.{Text}
use Rattle.reference.specs.Listing.{Token}
use Rattle.lines.specs.declared.texts.Texts.{Texts}
use Rattle.build.specs.declared.builder.Builder.{Builder}
use Rattle.build.specs.declared.merge.Substitution.{Substitution}
use Rattle.build.specs.State as State
use Rattle.build.specs.Folding as Folding
use Rattle.build.specs.Added as Added

-- the same slices are lent, of the same lengths
pub record SameLent (b b' : Builder) : Type 0 where
  pub area_is : b'.area.ghost_name ≡ b.area.ghost_name
  pub tokens_are : b'.tokens.ghost_name ≡ b.tokens.ghost_name
  pub area_length : length b'.area.now ≡ length b.area.now
  pub tokens_length : length b'.tokens.now ≡ length b.tokens.now

-- ---- the state

-- the text in use
abbrev pub used : Builder → Text
used b = State.used b.area.now b.size

abbrev pub word_at : Builder → ℕ → ℕ
word_at b k = get_or b.tokens.now k 0

abbrev pub last_word : Builder → ℕ
last_word b = State.last_word b.tokens.now b.size

abbrev pub line_now : Text → Builder → ℕ → List Token
line_now tape b from = State.line_now tape b.area.now b.tokens.now from b.size

abbrev pub Room : Builder → ℕ → ℕ → Type 0
Room b text count = State.Room b.area.now b.tokens.now b.size text count

abbrev pub Built : Text → Builder → ℕ → Type 0
Built tape b from = State.Built tape b.area.now b.tokens.now from b.size

abbrev pub Extendable : Builder → ℕ → Type 0
Extendable b from = State.Extendable b.tokens.now from b.size

abbrev pub Ready : Text → Builder → ℕ → List Token → Type 0
Ready tape b from ts = State.Ready tape b.area.now b.tokens.now from b.size ts

-- ---- what is left

abbrev pub Appends : Text → Builder → ℕ → Token → ℕ → Builder → Type 0
Appends tape b keep t n b' = State.Appends tape b.area.now b.tokens.now b.size keep t n b'.area.now b'.tokens.now b'.size

abbrev pub Pushed : Text → Builder → ℕ → List Token → Builder → Type 0
Pushed tape b from ts b' = State.Pushed tape b.area.now b.tokens.now from b.size ts b'.area.now b'.tokens.now b'.size

abbrev pub LineAdded : Text → Builder → List Token → ℕ → ℕ → Builder → Type 0
LineAdded tape b out n k b' = State.LineAdded tape b.area.now b.tokens.now b.size out n k b'.area.now b'.tokens.now b'.size

abbrev pub FoldedLast : ℕ → Text → Builder → ℕ → Builder → Type 0
FoldedLast edition tape b from b' =
    Folding.FoldedLast edition tape b.area.now b.tokens.now from b.size b'.area.now b'.tokens.now b'.size

-- ---- a line of the old set, whose texts are lent

abbrev pub Keepable : Texts → List ℕ → ℕ → Builder → Type 0
Keepable t words l b = Added.Keepable t.tape.now t.area.now words l b.area.now b.tokens.now b.size

abbrev pub Kept : Texts → List ℕ → ℕ → Builder → Builder → ℕ → Type 0
Kept t words l b b' w = Added.Kept t.tape.now t.area.now words l b.area.now b.tokens.now b.size b'.area.now b'.tokens.now b'.size w

abbrev pub Rewritable : Texts → List ℕ → ℕ → Substitution → ℕ → Builder → Type 0
Rewritable t words source s l b = Added.Rewritable t.tape.now t.area.now words source s l b.area.now b.tokens.now b.size

abbrev pub Rewritten : ℕ → Texts → List ℕ → ℕ → Substitution → ℕ → Builder → Builder → ℕ → Type 0
Rewritten edition t words source s l b b' w =
    Added.Rewritten edition t.tape.now t.area.now words source s l b.area.now b.tokens.now b.size b'.area.now b'.tokens.now b'.size w
