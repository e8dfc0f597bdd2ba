-- The operators that write what stands before them, but ` = `: the row of `writes` in the reference. Assumes nothing.
use Rattle.std.specs.Prelude.{List, [], ◌∷◌}
use Rattle.reference.specs.Text.{Text, bytes}

abbrev pub updates : List Text
updates =
    bytes " += " ∷ bytes " -= " ∷ bytes " &= " ∷ bytes " |= " ∷ bytes " ^= " ∷ bytes " *= " ∷ bytes " /= " ∷ bytes " <<= " ∷ bytes " >>= "
    ∷ bytes "++" ∷ bytes "--" ∷ []
