-- What the entries among the words say: which register starts with which value, in their order. That crate start reads the list of
-- `entries_of` so is a theorem (proofs/ReadBack.antt, `read_back`). Assumes nothing.
use Rattle.std.specs.Prelude.{ℕ, ◌+◌, List, [], ◌∷◌, take, if◌then◌else◌}
use Rattle.reference.specs.Control.{let_some◌else◌then◌}
use Rattle.reference.specs.Text.{Text}
use Rattle.start.specs.Start.{Entry}
use Rattle.arguments.specs.Entries.{equals_at, entry_value}
use Rattle.arguments.specs.declared.request.Request.{Request}
use Rattle.arguments.specs.Words.{is_at}
use Rattle.arguments.specs.Requests.{none_yet, step_of}

-- an entry in front of others
unfoldable pub said : Text → List Entry → List Entry
said w rest = let_some entry_value w else rest then λ v. record { name = take (equals_at w) w; value = v } ∷ rest

-- of the words from number k on, those that are taken as entries
unfoldable pub given_from : Request → ℕ → List Text → List Entry
given_from s k [] = []
given_from s k (w ∷ ws) =
    let after : Request = step_of s k w in
    let rest : List Entry = given_from after (k + 1) ws in
    if is_at after.start.entry k then said w rest else rest

unfoldable pub given_of : List Text → List Entry
given_of ws = given_from none_yet 0 ws
