-- Request M-103 on the text of one Number or Symbol. Words in quotes are the request's. Assumes nothing.
use Rattle.std.specs.Prelude.{Bool, List, [], ◌∷◌, ◌++◌, eqb}
use Rattle.reference.specs.Control.{not, ◌and◌, ◌or◌, when◌then◌else◌, let_some◌else◌then◌}
use Rattle.reference.specs.Lists.{is_some}
use Rattle.reference.specs.Text.{Text, bytes, starts_with, contains, strip_prefix}
use Rattle.reference.specs.Numbers.{base_of, constant_value, read_constant, read_number, digits}
use Rattle.books.specs.Tables.{words}

-- ---- going down

-- "lose their quotes": 39 is the quote
unfoldable pub without_quotes : Text → Text
without_quotes [] = []
without_quotes (c ∷ cs) = let r = without_quotes cs in when eqb c 39 then r else c ∷ r

-- "binary ones become lower-case hexadecimal without leading zeros (zero is `0x0`)": at most 16 digits
unfoldable pub as_hexadecimal : Text → Text
as_hexadecimal s = let_some (constant_value s) else s then λ n. bytes "0x" ++ digits 16 16 n []

-- a Number without its minus; one that the 2024 rules do not read is kept
unfoldable pub down_constant : Text → Text
down_constant s = when is_some (read_constant s) then (when eqb (base_of s) 2 then as_hexadecimal s else without_quotes s) else s

-- "a minus kept"
unfoldable pub down_text : Text → Text
down_text s = let_some (strip_prefix (bytes "-") s) else down_constant s then λ r. bytes "-" ++ down_constant r

-- ---- what is refused

-- "a Number beginning `0b` or `0B`, after at most one minus"
unfoldable pub begins_binary : Text → Bool
begins_binary s =
    let r : Text = let_some (strip_prefix (bytes "-") s) else s then λ r. r in
    starts_with r (bytes "0b") or starts_with r (bytes "0B")

-- ", or holding a quote"
unfoldable pub is_newer : Text → Bool
is_newer s = begins_binary s or contains s 39

-- ", that the 2024 rules do not read"
unfoldable pub has_no_older : Text → Bool
has_no_older s = is_newer s and not (is_some (read_number 1 s))

-- "a new keyword in small letters"
abbrev pub new_keywords : List Text
new_keywords = words "alignas alignof bool constexpr false nullptr static_assert thread_local true typeof typeof_unqual"
