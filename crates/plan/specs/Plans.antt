-- What the code's plan means. Assumes nothing.
use Rattle.std.specs.Prelude.{ℕ, ◌≡◌, List}
use Rattle.std.proofs.Math.Option.{Option, none, some}
use Rattle.reference.specs.Control.{when◌then◌else◌, let_some◌else◌then◌}
use Rattle.reference.specs.Lists.{position}
use Rattle.reference.specs.Text.{Text}
use Rattle.reference.specs.Listing.{Token}
use Rattle.reference.specs.Names.{of_family}
use Rattle.reference.specs.Join.{replaceable}
use Rattle.joining.specs.Plan as J
use Rattle.lines.specs.Words.{tokens_of}
use Rattle.reference.specs.Rules.{Rules}
use Rattle.lines.specs.Shapes.{expr_words, Expression}
use Rattle.lines.specs.Fams.{fam_text, Known}
use Rattle.plan.specs.declared.plans.Join.{Join}
use Rattle.std.specs.Prelude as std

-- `plan_use` of a line that is no loop's end and after which the value is not read: the plan for the use among its tokens, line j's
unfoldable pub plan_among : Rules → J.Definition → List Token → ℕ → Option J.Plan
plan_among rules d ts j =
    let_some (position (of_family d.fam.name) ts) else none then λ pos.
    when replaceable rules.parts d.fam ts pos
    then some (record { fam = d.fam.name; expr = d.expr; last = j; brackets = J.wants_brackets rules d.expr ts pos })
    else none

-- ws are the words of the line that is joined
abbrev pub join_in : Text → Text → List ℕ → Join → J.Plan
join_in tape area ws j =
    record {
      fam = fam_text tape area j.family;
      expr = tokens_of tape area (expr_words ws j.expr);
      last = j.last;
      brackets = j.brackets;
    }

abbrev pub planned : Text → Text → List ℕ → std.Option Join → Option J.Plan
planned tape area ws (std.Some j) = some (join_in tape area ws j)
planned tape area ws std.None = none

-- j joins line i, and its family and its right side can be read
pub record Joins (tape area : Text) (ws : List ℕ) (i : ℕ) (j : Join) : Type 0 where
  pub line_is : j.line ≡ i
  pub known : Known tape area j.family
  pub side : Expression ws j.expr

-- the answer r, of line i, is the plan o
pub record Plans (tape area : Text) (ws : List ℕ) (i : ℕ) (o : Option J.Plan) (r : std.Option Join) : Type 0 where
  pub is : planned tape area ws r ≡ o
  pub sound : (j : Join) → r ≡ std.Some j → Joins tape area ws i j
