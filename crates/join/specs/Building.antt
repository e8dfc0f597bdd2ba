-- The new listing of a plan, line after line: what a line becomes, what the loop that builds it has after k lines, and what is left in
-- the end.
-- Assumes nothing.
use Rattle.std.specs.Prelude.{ℕ, ◌≤◌, ◌<◌, ◌≡◌, List, length, get_or, take, drop}
use Rattle.reference.specs.Text.{Text}
use Rattle.reference.specs.Listing.{Token, Line, Listing}
use Rattle.reference.specs.Rules.{Rules, volatile}
use Rattle.reference.specs.Claim.{sum, token_count}
use Rattle.reference.proofs.Fits.{Fits}
use Rattle.joining.specs.Limits.{room, over, each_token}
use Rattle.joining.specs.Plan.{Plan, unmerged_line, acted_line, built, act}
use Rattle.joining.proofs.Planned.{Planned}
use Rattle.lines.specs.Lines.{Reading, part_of, line_read, bare_in, listing_read, bare_listing, Lined, Listed}
use Rattle.plan.specs.declared.plans.Join.{Join}
use Rattle.plan.specs.Plans.{join_in, Joins}
use Rattle.build.specs.State.{used, Room}
use Rattle.build.specs.Added.{used_words, Added}
use Rattle.lines.specs.declared.texts.Size.{Size}
use Rattle.build.specs.declared.merge.Substitution.{Substitution}
use Rattle.join.specs.Current.{listing_now, Current}

-- ---- a line

-- the plan's substitution
abbrev pub substitution_of : Join → Substitution
substitution_of j = record { family = j.family; expr = j.expr; brackets = j.brackets }

-- what line k, whose word is l, becomes; `source` is the word of the line that is joined
abbrev pub new_line : Rules → Text → Text → List ℕ → ℕ → Join → ℕ → ℕ → Reading → Line
new_line rules tape old words source j k l addresses =
    acted_line rules j.line (join_in tape old (part_of words source) j) k (line_read tape old words addresses l)

-- the tokens of what line k becomes, not merged and folded yet
abbrev pub new_tokens : Rules → Text → Text → List ℕ → ℕ → Join → ℕ → ℕ → List Token
new_tokens rules tape old words source j k l =
    (unmerged_line (volatile rules) j.line (join_in tape old (part_of words source) j) k (bare_in tape old words l)).tokens

-- what line k becomes can be appended
pub record Placeable (rules : Rules) (tape old : Text) (words : List ℕ) (source : ℕ) (j : Join) (k l : ℕ) (area : Text) (tokens : List ℕ)
    (at : Size) : Type 0 where
  pub source_lined : Lined tape old words source
  pub joins : Joins tape old (part_of words source) j.line j
  pub lined : Lined tape old words l
  pub numbers_short : sum over (new_tokens rules tape old words source j k l) ≡ 0
  pub has_room : Room area tokens at (sum room (new_tokens rules tape old words source j k l))
      (length (new_tokens rules tape old words source j k l))
  pub first_fits : at.tokens < 65536
  pub few : length (new_tokens rules tape old words source j k l) < 2048

abbrev pub Placed : Rules → Text → Text → List ℕ → ℕ → Join → ℕ → ℕ → Text → List ℕ → Size → Text → List ℕ → Size → ℕ → Type 0
Placed rules tape old words source j k l area tokens at =
    Added tape area tokens at (new_line rules tape old words source j k l)
    (sum room (new_tokens rules tape old words source j k l)) (length (new_tokens rules tape old words source j k l))

-- ---- the listing

-- the plan, of the listing whose line words are `lines`
abbrev pub plan_of : Text → Text → List ℕ → List ℕ → Join → Plan
plan_of tape old words lines j = join_in tape old (part_of words (get_or lines j.line 0)) j

-- the plan was made for this listing, which is within the limits
pub record Plannable (rules : Rules) (tape old : Text) (words lines : List ℕ) (j : Join) : Type 0 where
  pub listed : Listed tape old words lines
  pub fits : Fits (bare_listing tape old words lines)
  pub inside : j.line < length lines
  pub joins : Joins tape old (part_of words (get_or lines j.line 0)) j.line j
  pub planned : Planned rules (bare_listing tape old words lines) j.line (plan_of tape old words lines j)

-- the lines of the new listing up to line k: as they are, and not merged and folded
abbrev pub acted_upto : Rules → Join → Plan → Listing → ℕ → Listing
acted_upto rules j p = built (acted_line rules j.line p) j.line

abbrev pub unmerged_upto : Rules → Join → Plan → Listing → ℕ → Listing
unmerged_upto rules j p = built (unmerged_line (volatile rules) j.line p) j.line

-- no more is written than the first k lines take before they are merged and folded
pub record Within (rules : Rules) (tape old : Text) (words lines : List ℕ) (j : Join) (k : ℕ) (at : Size) : Type 0 where
  pub text_most : at.text ≤ each_token room (unmerged_upto rules j (plan_of tape old words lines j) (bare_listing tape old words lines) k)
  pub words_most : at.tokens ≤ token_count (unmerged_upto rules j (plan_of tape old words lines j) (bare_listing tape old words lines) k)

abbrev pub nothing_used : Size
nothing_used = record { lines = 0; tokens = 0; text = 0 }

-- the first k lines are done: the words from there on are still the old ones
pub record Upto (rules : Rules) (tape old : Text) (words lines : List ℕ) (j : Join) (k : ℕ) (area : Text) (tokens lines' : List ℕ)
    (at : Size) : Type 0 where
  pub as_many : length lines' ≡ length lines
  pub rest_is : drop k lines' ≡ drop k lines
  pub behind : at.lines ≤ k
  pub listed : Listed tape (used area at) (used_words tokens at) (take at.lines lines')
  pub means : (addresses : Reading) → listing_now tape area tokens lines' at addresses
      ≡ acted_upto rules j (plan_of tape old words lines j) (listing_read tape old words addresses lines) k
  pub within : Within rules tape old words lines j k at

-- the new listing, whatever the addresses are
pub record Acted (rules : Rules) (tape old : Text) (words lines : List ℕ) (j : Join) (area : Text) (tokens lines' : List ℕ) (at : Size) :
    Type 0 where
  pub current : Current tape area tokens lines' at
  pub means : (addresses : Reading) → listing_now tape area tokens lines' at addresses
      ≡ act rules (listing_read tape old words addresses lines) j.line (plan_of tape old words lines j)

-- the new listing, built from nothing, within the limits
pub record Rebuilt (rules : Rules) (tape old : Text) (words lines : List ℕ) (j : Join) (area : Text) (tokens lines' : List ℕ) (at : Size) :
    Type 0 where
  pub acted : Acted rules tape old words lines j area tokens lines' at
  pub text_few : at.text ≤ 49152
  pub words_few : at.tokens ≤ 1024
