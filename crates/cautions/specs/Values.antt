-- What tokens read, what stands beside a use, and how wide a value is. Assumes nothing.
use Rattle.std.specs.Prelude.{ℕ, ◌-◌, ◌^◌, Bool, false, List, [], ◌∷◌, map, eqb, ltb, length, ℤ, pos, negsuc, drop, take}
use Rattle.std.proofs.Math.Option.{Option, none, some}
use Rattle.std.proofs.Math.Seq.{slice}
use Rattle.reference.specs.Control.{not, ◌and◌, ◌or◌, when◌then◌else◌, let_some◌else◌then◌}
use Rattle.reference.specs.Lists.{any, find, count, position, is_some, get, remove, windows}
use Rattle.reference.specs.Text.{Text, bytes, ◌≟◌, has, starts_with, ends_with}
use Rattle.reference.specs.Listing.{Token, is, Register, Number, Keyword, Symbol, Address, Punct}
use Rattle.reference.specs.Names.{fam_of}
use Rattle.reference.specs.Numbers.{read_number}
use Rattle.reference.specs.Shapes.{is_kw, calls_here, call_in}
use Rattle.reference.specs.Join.{standalone, text_or_empty}
use Rattle.cautions.specs.Forms.{WORDS}
use Rattle.cautions.specs.Texts.{holds, marks, frame, depth, outside, all_words, loose}

-- ---- reads

-- a stack slot, or another name of kind Register that is no general register
unfoldable pub is_cell : Token → Bool
is_cell t = is Register t and (starts_with t.text (bytes "var_") or not (is_some (fam_of t)))

-- a read of memory that has a name or an address; a callee's name and what `&` stands before are none
unfoldable pub reads_world : Text → List Token → Bool
reads_world before [] = false
reads_world before (t ∷ ts) =
    let r = reads_world t.text ts in
    (is Keyword t and starts_with t.text (bytes "*("))
    or (is Symbol t and not (ends_with before (bytes "&")) and not (starts_with (text_or_empty (get ts 0)) (bytes "(")))
    or r

abbrev pub world : List Token → Bool
world ts = reads_world [] ts

unfoldable pub memory : List Token → Bool
memory ts = world ts or any is_cell ts

-- a register that a call overwrites
unfoldable pub is_volatile : List Text → Token → Bool
is_volatile volatile t = let_some (fam_of t) else false then λ f. has volatile f.name

-- what a call may change
unfoldable pub changeable : List Text → List Token → Bool
changeable volatile ts = memory ts or any (is_volatile volatile) ts

abbrev pub calls : List Token → ℕ
calls ts = count calls_here (windows ts)

-- ---- beside a use

-- the line stores its value by ` = `: what its first token names is only written
unfoldable pub only_written : List Token → Bool
only_written ts = let_some (find (λ t. ltb 0 (marks t)) ts) else false then λ t. holds (bytes " = ") t.text

-- the other tokens that the line reads, those from a `goto` on left out
unfoldable pub rest : List Token → ℕ → List Token
rest ts u =
    let kept : List Token = let_some (position (is_kw (bytes "goto")) ts) else ts then λ g. take g ts in
    drop (when only_written ts then 1 else 0) (remove u kept)

-- behind the callee a bracket is open, and nothing stands outside it
unfoldable pub in_brackets : Text → Bool
in_brackets s = ltb 0 (depth 0 s) and all_words (outside 0 s)

-- the line makes a call, and not just one around the use: the two are in no order
unfoldable pub acts_beside : List Token → ℕ → Bool
acts_beside ts u =
    let_some (call_in ts) else false then λ c. not (eqb (calls ts) 1 and in_brackets (frame (slice c u ts)))

-- between the delimiters that spare brackets, or all that is returned
unfoldable pub is_spared : Text → Text → Bool
is_spared before after = standalone before after or ((before ≟ bytes " ") and starts_with after (bytes ";"))

-- a whole argument, condition, right side or returned value; the bracket in front is none of a sum
unfoldable pub is_whole : Text → Text → Bool
is_whole before after =
    is_spared before after
    and (ends_with before (bytes ", ") or ends_with before (bytes " = ") or has (map bytes ("(" ∷ ")(" ∷ " (" ∷ " " ∷ [])) before)

-- ---- widths

-- the width of an address, by convention
unfoldable pub full : ℕ → ℕ
full convention = when eqb convention 0 then 32 else 64

-- the width that the generator's name of a variable says
unfoldable pub name_width : ℕ → Text → ℕ
name_width convention s =
    when starts_with s (bytes "byte_") then 8 else when starts_with s (bytes "word_") then 16
    else when starts_with s (bytes "dword_") then 32 else when starts_with s (bytes "qword_") then 64 else full convention

-- the width of a cast, or of what is read through an address
unfoldable pub cast_width : Text → ℕ
cast_width s =
    when holds (bytes "int8_t") s then 8 else when holds (bytes "int16_t") s then 16 else when holds (bytes "int32_t") s then 32
    else when holds (bytes "int64_t") s or holds (bytes "void *") s then 64 else 0

-- words of control, and the cast that changes no width
unfoldable pub has_no_width : Token → Bool
has_no_width t = is Keyword t and (has WORDS t.text or (t.text ≟ bytes "(unsigned)"))

-- the width of one token behind a text: none for numbers, Puncts and words, 0 if it is not known
unfoldable pub token_width : ℕ → Text → Token → Option ℕ
token_width convention before t =
    when is Number t or is Punct t or has_no_width t then none
    else when is Address t or is_cell t or ends_with before (bytes "&") then some (full convention)
    else when is Symbol t then some (name_width convention t.text)
    else when is Keyword t then some (cast_width t.text)
    else let_some (fam_of t) else some 0 then λ f. some f.width

-- the widths of all tokens that have one
unfoldable pub widths_in : ℕ → Text → List Token → List ℕ
widths_in convention before [] = []
widths_in convention before (t ∷ ts) =
    let r = widths_in convention t.text ts in let_some (token_width convention before t) else r then λ w. w ∷ r

-- the one number in a list; 0 if there are others, or none
unfoldable pub common : List ℕ → ℕ
common [] = 0
common (w ∷ ws) = when any (λ v. not (eqb v w)) ws then 0 else w

-- a cast or read in front of all of it
unfoldable pub is_cast : List Token → Bool
is_cast expr = any (is Keyword) (take 1 expr) and not (loose expr)

-- the width of an expression: of the cast or read in front of all of it, or the one that all its names have; else 0
unfoldable pub natural : ℕ → List Token → ℕ
natural convention expr =
    when is_cast expr then cast_width (text_or_empty (get expr 0)) else common (widths_in convention [] expr)

-- no operator computes it
unfoldable pub is_plain : List Token → Bool
is_plain expr = eqb (length expr) 1 or is_cast expr

unfoldable pub lone_call : List Token → Bool
lone_call expr = (let_some (call_in expr) else false then eqb 0) and not (loose expr)

-- ---- numbers

-- not negative, and its highest bit of so many is clear
unfoldable pub fits : ℕ → ℤ → Bool
fits width (pos n) = ltb n (2 ^ (width - 1))
fits width (negsuc n) = false

-- the same integer, of 31 bits and a sign, and if it has a minus then one is written
unfoldable pub is_small : Bool → ℤ → ℤ → Bool
is_small minus (pos m) (pos n) = eqb m n and ltb n (2 ^ 31)
is_small minus (negsuc m) (negsuc n) = eqb m n and ltb n (2 ^ 31) and minus
is_small minus (pos m) (negsuc n) = false
is_small minus (negsuc m) (pos n) = false

-- both editions read it alike, it has at most 31 bits and a sign, and the sign is written
unfoldable pub is_tame : Token → Bool
is_tame t =
    not (is Number t)
    or (let_some (read_number 0 t.text) else false then λ a.
    let_some (read_number 1 t.text) else false then λ b. is_small (starts_with t.text (bytes "-")) a b)
