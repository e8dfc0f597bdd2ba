-- What is said of an attempt and of its parts, of the struct in which the slices are lent: the same words, the same meaning. Assumes
-- nothing.
use Rattle.std.specs.Prelude.{ℕ, ◌≡◌, ◌+◌, length, get_or}
use Rattle.reference.specs.Text.{Text}
use Rattle.reference.specs.Listing.{Line}
use Rattle.reference.specs.Rules.{Rules}
use Rattle.lines.specs.Lines.{bare_in}
use Rattle.lines.specs.Marks.{lows_of, highs_of}
use Rattle.lines.specs.declared.texts.Listing.{Listing}
use Rattle.plan.specs.declared.plans.Join.{Join}
use Rattle.lines.specs.declared.texts.Size.{Size}
use Rattle.build.specs.State.{used}
use Rattle.build.specs.Added.{used_words}
use Rattle.join.specs.declared.workspace.Workspace.{Workspace}
use Rattle.join.specs.Current as current
use Rattle.join.specs.Current.{used_lines}
use Rattle.join.specs.Building as building
use Rattle.join.specs.Patching as patching
use Rattle.join.specs.Carrying as carrying

-- the same slices are lent, of the same lengths
pub record SameLent (w w' : Workspace) : Type 0 where
  pub area_is : w'.area.ghost_name ≡ w.area.ghost_name
  pub tokens_are : w'.tokens.ghost_name ≡ w.tokens.ghost_name
  pub lines_are : w'.lines.ghost_name ≡ w.lines.ghost_name
  pub area2_is : w'.area2.ghost_name ≡ w.area2.ghost_name
  pub tokens2_are : w'.tokens2.ghost_name ≡ w.tokens2.ghost_name
  pub marks_are : w'.marks.ghost_name ≡ w.marks.ghost_name
  pub area_length : length w'.area.now ≡ length w.area.now
  pub tokens_length : length w'.tokens.now ≡ length w.tokens.now
  pub lines_length : length w'.lines.now ≡ length w.lines.now
  pub area2_length : length w'.area2.now ≡ length w.area2.now
  pub tokens2_length : length w'.tokens2.now ≡ length w.tokens2.now
  pub marks_length : length w'.marks.now ≡ length w.marks.now

-- the listing that stands in the first set
pub record Stands (tape : Text) (w : Workspace) (at : Size) (g : Listing) : Type 0 where
  pub tape_is : g.texts.tape.now ≡ tape
  pub area_is : g.texts.area.now ≡ used w.area.now at
  pub tokens_are : g.tokens.now ≡ used_words w.tokens.now at
  pub lines_are : g.lines.now ≡ used_lines w.lines.now at

-- ---- a plan carried out

-- line k, with nothing read as an address
abbrev pub bare_at : Text → Workspace → Size → ℕ → Line
bare_at tape w at k = bare_in tape (used w.area.now at) (used_words w.tokens.now at) (get_or (used_lines w.lines.now at) k 0)

-- the same slices are lent, and only the marks may differ, of as many lines
pub record SameListing (w w' : Workspace) : Type 0 where
  pub area_is : w'.area ≡ w.area
  pub tokens_are : w'.tokens ≡ w.tokens
  pub lines_are : w'.lines ≡ w.lines
  pub area2_is : w'.area2 ≡ w.area2
  pub tokens2_are : w'.tokens2 ≡ w.tokens2
  pub marks_are : w'.marks.ghost_name ≡ w.marks.ghost_name
  pub marks_length : length w'.marks.now ≡ length w.marks.now

abbrev pub Current : Text → Workspace → Size → Type 0
Current tape w at = current.Current tape w.area.now w.tokens.now w.lines.now at

abbrev pub Lent : Workspace → Type 0
Lent w = current.Lent w.area.now w.tokens.now w.area2.now w.tokens2.now

abbrev pub Plannable : Rules → Text → Workspace → Size → Join → Type 0
Plannable rules tape w at j =
    building.Plannable rules tape (used w.area.now at) (used_words w.tokens.now at) (used_lines w.lines.now at) j

abbrev pub Acted : Rules → Text → Workspace → Size → Join → Workspace → Size → Type 0
Acted rules tape w at j w' at' =
    building.Acted rules tape (used w.area.now at) (used_words w.tokens.now at) (used_lines w.lines.now at) j w'.area.now w'.tokens.now
    w'.lines.now at'

abbrev pub Carried : Rules → Text → Workspace → Size → Join → Workspace → Type 0
Carried rules tape w at j w' =
    carrying.Carried rules tape (used w.area.now at) (used_words w.tokens.now at) (used_lines w.lines.now at) j (lows_of w.marks.now)
    (highs_of w.marks.now) (lows_of w'.marks.now) (highs_of w'.marks.now)

-- the need of the lines that a plan changes
abbrev pub need : Workspace → Size → Join → ℕ
need w at j = patching.need_from (used_words w.tokens.now at) (used_lines w.lines.now at) j (j.line + 1)

-- there is room for the need n behind the used marks: in the first set, and in the second
abbrev pub SpareFirst : Workspace → Size → ℕ → Type 0
SpareFirst w at n = patching.Spare w.area.now w.tokens.now at n

abbrev pub SpareSecond : Workspace → Size → ℕ → Type 0
SpareSecond w at n = patching.Spare w.area2.now w.tokens2.now at n
