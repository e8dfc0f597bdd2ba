-- What a join and a cut leave of the sets. Assumes nothing.
use Rattle.std.specs.Prelude.{ℕ, suc, ◌≤◌, ◌<◌, ◌≡◌, true, List, [], ◌∷◌, length, get_or, drop}
use Rattle.reference.specs.Text.{Text}
use Rattle.reference.specs.Listing.{Listing}
use Rattle.reference.specs.Rules.{Rules, volatile}
use Rattle.reference.specs.Run.{success}
use Rattle.joining.specs.Plan.{Plan, changes, act}
use Rattle.joining.proofs.Planned.{Planned}
use Rattle.cautions.specs.Joins.{join_cautions, cut_cautions}
use Rattle.cautions.specs.Cautions.{both, hand_on}
use Rattle.lines.specs.Lines.{part_of}
use Rattle.lines.specs.Texts.{Listed, bare_listing}
use Rattle.lines.specs.declared.texts.Listing as held
use Rattle.plan.specs.Plans.{join_in, Joins}
use Rattle.plan.specs.declared.plans.Join.{Join}
use Rattle.reference.specs.Control.{when◌then◌else◌}
use Rattle.raising.specs.Tables.{is_on, Kept, sets_now}
use Rattle.raising.specs.declared.tables.Raising.{Raising}

-- ---- a join

-- the places, from k on, of the lines that the plan changes
unfoldable pub changed_from : List Text → ℕ → Plan → ℕ → Listing → List ℕ
changed_from vs i p k [] = []
changed_from vs i p k (l ∷ ls) = let r = changed_from vs i p (suc k) ls in when changes vs i p k l then k ∷ r else r

abbrev pub into : Rules → Listing → ℕ → Plan → List ℕ
into rules lines i p = changed_from (volatile rules) i p (suc i) (drop (suc i) lines)

-- the plan that the code's plan j is, of the listing h
abbrev pub plan_in : held.Listing → Join → Plan
plan_in h j = join_in h.texts.tape.now h.texts.area.now (part_of h.tokens.now (get_or h.lines.now j.line 0)) j

-- the plan was made for this listing, which is within the limits
pub record Joinable (rules : Rules) (h : held.Listing) (j : Join) : Type 0 where
  pub listed : Listed h
  pub lines_few : length h.lines.now ≤ 256
  pub tokens_few : length h.tokens.now ≤ 65536
  pub line_few : length (part_of h.tokens.now (get_or h.lines.now j.line 0)) ≤ 1024
  pub inside : j.line < length h.lines.now
  pub joins : Joins h.texts.tape.now h.texts.area.now (part_of h.tokens.now (get_or h.lines.now j.line 0)) j.line j
  pub planned : Planned rules (bare_listing h) j.line (plan_in h j)

-- the sets when line i is joined by the plan p: what the join puts on the lines, and what line i hands on
abbrev pub joined : Rules → Listing → ℕ → Plan → List ℕ → List ℕ
joined rules lines i p sets =
    hand_on i (into rules lines i p) (both sets (join_cautions rules lines (success i (into rules lines i p) (act rules lines i p))))

-- the tables belong to the listing that the join leaves, and have its sets
pub record Raised (rules : Rules) (lines : Listing) (i : ℕ) (p : Plan) (r r' : Raising) : Type 0 where
  pub kept : Kept (act rules lines i p) r'
  pub sets : is_on r ≡ true → sets_now (act rules lines i p) r' ≡ joined rules lines i p (sets_now lines r)

-- ---- a cut

-- the tables still belong to the listing, and its sets have the kinds of the cut of line i
pub record Cautioned (rules : Rules) (lines : Listing) (i : ℕ) (r r' : Raising) : Type 0 where
  pub kept : Kept lines r'
  pub sets : is_on r ≡ true → sets_now lines r' ≡ both (sets_now lines r) (cut_cautions rules lines i)
