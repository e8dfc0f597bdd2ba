-- What the code's definition of a line means. Assumes nothing.
use Rattle.std.specs.Prelude.{ℕ, ◌-◌, ◌≡◌, List, eqb}
use Rattle.std.proofs.Math.Option.{Option, none, some}
use Rattle.reference.specs.Control.{when◌then◌else◌}
use Rattle.reference.specs.Lists.{get}
use Rattle.reference.specs.Text.{Text}
use Rattle.reference.specs.Listing.{Token}
use Rattle.reference.specs.Join.{reads_memory}
use Rattle.joining.specs.Plan as J
use Rattle.lines.specs.Words.{tokens_of}
use Rattle.lines.specs.Shapes.{expr_words, Expression}
use Rattle.lines.specs.Fams.{fam_text, Known}
use Rattle.plan.specs.declared.definitions.Definition.{Definition}
use Rattle.std.specs.Prelude as std

-- the token before the token k
unfoldable pub before_at : List Token → ℕ → Option Token
before_at ts k = when eqb k 0 then none else get ts (k - 1)

-- d, of the line whose words are ws
abbrev pub definition_in : Text → Text → List ℕ → Definition → J.Definition
definition_in tape area ws d =
    record {
      fam = record { name = fam_text tape area d.name.family; width = d.name.width; lowest = d.name.lowest };
      expr = tokens_of tape area (expr_words ws d.expr);
      calls = d.calls;
    }

abbrev pub defined : Text → Text → List ℕ → std.Option Definition → Option J.Definition
defined tape area ws (std.Some d) = some (definition_in tape area ws d)
defined tape area ws std.None = none

-- d can be read, and says whether its right side reads memory
pub record Sound (tape area : Text) (ws : List ℕ) (d : Definition) : Type 0 where
  pub known : Known tape area d.name.family
  pub side : Expression ws d.expr
  pub reads_is : d.reads ≡ reads_memory (tokens_of tape area (expr_words ws d.expr))

-- the answer of `definition_of`
pub record Defines (tape area : Text) (ws : List ℕ) (r : std.Option Definition) : Type 0 where
  pub is : defined tape area ws r ≡ J.definition_of (tokens_of tape area ws)
  pub sound : (d : Definition) → r ≡ std.Some d → Sound tape area ws d
