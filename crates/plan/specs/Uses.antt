-- What the code's look at a line means, and the two parts of `harmless`. Assumes nothing.
use Rattle.std.specs.Prelude.{ℕ, Bool, false, List, eqb}
use Rattle.reference.specs.Control.{not, ◌and◌, ◌or◌, let_some◌else◌then◌}
use Rattle.reference.specs.Lists.{is_some}
use Rattle.reference.specs.Text.{bytes, has, starts_with}
use Rattle.reference.specs.Listing.{Token, Line}
use Rattle.reference.specs.Names.{family}
use Rattle.reference.specs.Shapes.{opens_or_closes, call_at, assignment_of}
use Rattle.reference.specs.Join.{reads_memory, expr_fams}
use Rattle.joining.specs.Plan as J
use Rattle.plan.specs.declared.uses.Look.{Look}
use Rattle.plan.specs.declared.uses.Look.TheVariants.{Use, Passes, Stops}

abbrev pub looked : Look → J.Look
looked Use = J.found
looked Passes = J.passes
looked Stops = J.stops

-- a line in one run with a definition: no call, no brace, the same indent
unfoldable pub same_run : ℕ → Bool → Line → Bool
same_run base-indent calls l = not (calls or opens_or_closes l or is_some (call_at l) or not (eqb l.indent base-indent))

-- an assignment that leaves alone what the expression reads
unfoldable pub leaves_inputs : List Token → List Token → Bool
leaves_inputs expr ts =
    let_some (assignment_of ts) else false then λ a.
    let_some (family a.lhs.text) else false then λ f.
    not (has (expr_fams expr) f.name)
    and not (reads_memory expr and starts_with a.lhs.text (bytes "var_"))
