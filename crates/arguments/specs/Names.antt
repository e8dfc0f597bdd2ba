-- Files that would be written to one: with -d a result gets the base name of its file. Assumes nothing.
use Rattle.std.specs.Prelude.{ℕ, ◌+◌, ◌&&◌, List, [], ◌∷◌, eqb, Option, Some, None, if◌then◌else◌}
use Rattle.reference.specs.Control.{when◌then◌else◌}
use Rattle.reference.specs.Text.{Text, ◌≟◌}
use Rattle.arguments.specs.declared.request.Request.{Request}
use Rattle.arguments.specs.Words.{is_at}
use Rattle.arguments.specs.Requests.{none_yet, step_of}

-- what stands behind the last slash; `part` is what stands behind the last one so far
unfoldable pub base_from : Text → Text → Text
base_from part [] = part
base_from part (b ∷ bs) =
    let behind : Text = base_from bs bs in
    let on : Text = base_from part bs in
    when eqb b 47 then behind else on

unfoldable pub base_name : Text → Text
base_name path = base_from path path

-- of the words from number k on, the first operand that has the base name of a path
unfoldable pub same_later : Text → Request → ℕ → List Text → Option ℕ
same_later path s k [] = None
same_later path s k (w ∷ ws) =
    let after : Request = step_of s k w in
    let later : Option ℕ = same_later path after (k + 1) ws in
    if is_at after.operands.last k && (base_name path ≟ base_name w) then Some k else later

abbrev pub first_of : Option ℕ → Option ℕ → Option ℕ
first_of (Some n) later = Some n
first_of None later = later

-- of the words from number k on, an operand that has the base name of one before it
unfoldable pub clash_from : Request → ℕ → List Text → Option ℕ
clash_from s k [] = None
clash_from s k (w ∷ ws) =
    let after : Request = step_of s k w in
    let here : Option ℕ = if is_at after.operands.last k then same_later w after (k + 1) ws else None in
    let later : Option ℕ = clash_from after (k + 1) ws in
    first_of here later

unfoldable pub clash_of : List Text → Option ℕ
clash_of ws = clash_from none_yet 0 ws
