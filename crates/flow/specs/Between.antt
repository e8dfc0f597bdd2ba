-- What `is_odd` and `past_call` of the definitions ask of the lines between. Assumes nothing.
use Rattle.std.specs.Prelude.{Bool}
use Rattle.reference.specs.Lists.{is_some}
use Rattle.reference.specs.Listing.{Line}
use Rattle.reference.specs.Shapes.{call_in}
use Rattle.cautions.specs.Forms.{is_entered}

abbrev pub enters : Line → Bool
enters l = is_entered l.tokens

abbrev pub calls : Line → Bool
calls l = is_some (call_in l.tokens)
