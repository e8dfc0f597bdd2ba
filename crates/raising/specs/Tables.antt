-- The tables in which cautions are kept. Assumes nothing.
use Rattle.std.specs.Prelude.{ℕ, ◌≤◌, ◌<◌, ◌≡◌, Bool, true, List, ltb, length, get_or, take}
use Rattle.std.specs.Prelude as std
use Rattle.reference.specs.Listing.{Listing, ◌at◌}
use Rattle.flow.specs.Blocks.{no_form}
use Rattle.flow.specs.LineForms.{Formed}
use Rattle.flow.specs.declared.lineforms.LineForm.{LineForm}
use Rattle.usefacts.specs.declared.parts.Before.{Before}
use Rattle.raising.specs.declared.tables.Raising.{Raising}

-- sets are kept
abbrev pub is_on : Raising → Bool
is_on r = ltb 0 (length r.sets.now)

-- the same slices are lent, of the same lengths
pub record SameLent (r r' : Raising) : Type 0 where
  pub sets_are : r'.sets.ghost_name ≡ r.sets.ghost_name
  pub forms_are : r'.forms.ghost_name ≡ r.forms.ghost_name
  pub parts_are : r'.parts.ghost_name ≡ r.parts.ghost_name
  pub seen_are : r'.seen.ghost_name ≡ r.seen.ghost_name
  pub expr_are : r'.expr.ghost_name ≡ r.expr.ghost_name
  pub sets_length : length r'.sets.now ≡ length r.sets.now
  pub forms_length : length r'.forms.now ≡ length r.forms.now
  pub parts_length : length r'.parts.now ≡ length r.parts.now
  pub seen_length : length r'.seen.now ≡ length r.seen.now
  pub expr_length : length r'.expr.now ≡ length r.expr.now

-- there is room for a listing within the limits
pub record Room (r : Raising) : Type 0 where
  pub for_sets : 256 ≤ length r.sets.now
  pub for_forms : 256 ≤ length r.forms.now
  pub for_parts : 256 ≤ length r.parts.now
  pub for_seen : 257 ≤ length r.seen.now
  pub for_expr : 1024 ≤ length r.expr.now

-- the table of forms has what is asked of each line of this listing
abbrev pub Gathered : Listing → List LineForm → Type 0
Gathered lines forms = (k : ℕ) → k < length lines → Formed (lines at k).tokens (get_or forms k no_form)

abbrev pub Formed_lines : Listing → Raising → Type 0
Formed_lines lines r = Gathered lines r.forms.now

-- no line tells anything
abbrev pub Untold : List (std.Option Before) → Type 0
Untold parts = (k : ℕ) → get_or parts k std.None ≡ std.None

-- Within a step: the forms are those of this listing, if sets are kept.
pub record Fitting (lines : Listing) (r : Raising) : Type 0 where
  pub room : is_on r ≡ true → Room r
  pub formed : is_on r ≡ true → Formed_lines lines r

-- Between two steps: the tables belong to this listing, if sets are kept, and no join is at hand.
pub record Kept (lines : Listing) (r : Raising) : Type 0 where
  pub room : is_on r ≡ true → Room r
  pub formed : is_on r ≡ true → Formed_lines lines r
  pub untold : is_on r ≡ true → Untold r.parts.now

-- the sets of the lines; none where none are kept
abbrev pub sets_now : Listing → Raising → List ℕ
sets_now lines r = take (length lines) r.sets.now
