-- What an attempt leaves of the tables of cautions. Assumes nothing.
use Rattle.std.specs.Prelude as std
use Rattle.std.specs.Prelude.{ℕ, ◌≡◌, true, List, get_or}
use Rattle.reference.specs.Rules.{Rules}
use Rattle.reference.specs.Run.{success}
use Rattle.joining.specs.Plan.{Plan}
use Rattle.cautions.specs.Joins.{join_cautions}
use Rattle.cautions.specs.Cautions.{both, hand_on}
use Rattle.lines.specs.Lines.{part_of}
use Rattle.lines.specs.declared.texts.Size.{Size}
use Rattle.plan.specs.Plans.{join_in}
use Rattle.plan.specs.declared.plans.Join.{Join}
use Rattle.build.specs.State.{used}
use Rattle.build.specs.Added.{used_words}
use Rattle.raising.specs.declared.tables.Raising.{Raising}
use Rattle.raising.specs.Tables.{is_on, Kept, sets_now}
use Rattle.join.specs.Contents.{Contents, used_lines, bare_now}
use Rattle.join.specs.Attempts.{targets_now}

-- the plan that the code's plan j is, of the listing that stands
abbrev pub plan_now : Contents → Join → Plan
plan_now s j = join_in s.tape (used s.area s.size) (part_of (used_words s.tokens s.size) (get_or (used_lines s) j.line 0)) j

-- Line i was joined: the tables belong to the listing that is left, and its sets are those that there were and those that the join puts on
-- the lines, line i having handed on its own to the lines that it was joined into.
pub record JoinRaised (rules : Rules) (s : Contents) (labels : List ℕ) (i : ℕ) (r : Raising) (s' : Contents) (r' : Raising) : Type 0 where
  pub kept : Kept (bare_now s') r'
  pub sets : is_on r ≡ true → let into = targets_now rules s labels i in
      sets_now (bare_now s') r'
      ≡ hand_on i into (both (sets_now (bare_now s) r) (join_cautions rules (bare_now s) (success i into (bare_now s'))))

-- A failed attempt leaves the tables as they were.
pub record AttemptRaised (rules : Rules) (s : Contents) (labels : List ℕ) (i : ℕ) (r : Raising) (s' : Size → Contents) (r' : Raising)
    (answer : std.Option Size) : Type 0 where
  pub failed : answer ≡ std.None → r' ≡ r
  pub succeeded : (after : Size) → answer ≡ std.Some after → JoinRaised rules s labels i r (s' after) r'
