-- The names that are addressed when a round begins, as texts in a buffer, and as they are gathered. Assumes nothing.
use Rattle.std.specs.Prelude.{ℕ, ◌+◌, ◌≤◌, ◌<◌, ◌≡◌, false, List, ◌++◌, map, length, take}
use Rattle.reference.specs.Text.{Text, bytes, has, starts_with}
use Rattle.lines.specs.Words.{text_of, Holds}
use Rattle.plan.specs.declared.slots.SlotBuffer.{SlotBuffer}

abbrev pub slot_names : Text → List ℕ → List Text
slot_names slots words = map (text_of slots slots) words

-- the words point into the buffer, and a name that does not begin `var_` is not among theirs
pub record Slotted (slots : Text) (words : List ℕ) : Type 0 where
  pub holds : Holds slots slots words
  pub only : (name : Text) → starts_with name (bytes "var_") ≡ false → has (slot_names slots words) name ≡ false

-- ---- as they are gathered

-- the names so far
abbrev pub names_now : SlotBuffer → List Text
names_now g = slot_names (take g.used g.text.now) (take g.count g.words.now)

-- the names so far can be read
pub record Slotting (g : SlotBuffer) : Type 0 where
  pub text_fits : g.used ≤ length g.text.now
  pub words_fit : g.count ≤ length g.words.now
  pub holds : Holds (take g.used g.text.now) (take g.used g.text.now) (take g.count g.words.now)

-- so many bytes and so many names more can be gathered
pub record Roomy (g : SlotBuffer) (n k : ℕ) : Type 0 where
  pub text_fits : g.used + n ≤ length g.text.now
  pub short : g.used + n < 65536
  pub words_fit : g.count + k ≤ length g.words.now

-- `names` stand behind the names before, in at most n bytes and k words
pub record Noted (names : List Text) (n k : ℕ) (g g' : SlotBuffer) : Type 0 where
  pub slotting : Slotting g'
  pub names_are : names_now g' ≡ names_now g ++ names
  pub text_most : g'.used ≤ g.used + n
  pub words_most : g'.count ≤ g.count + k

-- the same slices are lent, of the same lengths
pub record SameSlots (g g' : SlotBuffer) : Type 0 where
  pub text_is : g'.text.ghost_name ≡ g.text.ghost_name
  pub words_are : g'.words.ghost_name ≡ g.words.ghost_name
  pub text_length : length g'.text.now ≡ length g.text.now
  pub words_length : length g'.words.now ≡ length g.words.now

-- `names` are all that was gathered
pub record Gathers (names : List Text) (slots : Text) (words : List ℕ) : Type 0 where
  pub holds : Holds slots slots words
  pub names_are : slot_names slots words ≡ names
