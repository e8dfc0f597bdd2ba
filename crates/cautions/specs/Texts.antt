-- Texts and tokens as C reads them: changes, brackets, and tokens that are not looked into. Assumes nothing.
use Rattle.std.specs.Prelude.{ℕ, suc, pred, Bool, false, List, [], ◌∷◌, reverse, eqb, ltb, get_or}
use mathlib.Core.List.{flat_map}
use Rattle.reference.specs.Control.{not, ◌and◌, ◌or◌, when◌then◌else◌}
use Rattle.reference.specs.Lists.{any, is_empty, windows}
use Rattle.reference.specs.Text.{Text, bytes, ◌≟◌, contains, starts_with}
use Rattle.reference.specs.Listing.{Token, is, Register, Keyword, Symbol, Punct, Plain, Prefix}
use Rattle.reference.specs.Claim.{sum}

-- whether p stands somewhere in s
unfoldable pub holds : Text → Text → Bool
holds p [] = is_empty p
holds p (c ∷ cs) = let r = holds p cs in starts_with (c ∷ cs) p or r

abbrev pub last_byte : Text → ℕ
last_byte s = get_or (reverse s) 0 0

-- ---- changes: `++`, `--`, and each `=` (61) that is of none of `==`, `!=`, `<=`, `>=`

-- the byte c, between p and n, ends such a mark
unfoldable pub is_mark : ℕ → ℕ → ℕ → Bool
is_mark p c n = (eqb c 61 and not (eqb n 61) and not (contains (bytes "=!<>") p)) or (eqb c p and contains (bytes "+-") c)

-- behind `<<` and `>>` a `=` is of `<<=`, `>>=`
unfoldable pub marks_after : ℕ → Text → ℕ
marks_after p [] = 0
marks_after p (c ∷ cs) =
    let r = marks_after (when eqb c p and contains (bytes "<>") c then 0 else c) cs in
    when is_mark p c (get_or cs 0 0) then suc r else r

unfoldable pub marks : Token → ℕ
marks t = when is Punct t then marks_after 0 t.text else 0

-- ---- brackets

-- the texts of the Puncts, each other token as `w`; the Keyword `((void (*)())` has one bracket that stays open
unfoldable pub frame : List Token → Text
frame =
    flat_map (λ t.
    when is Punct t then t.text else when is Keyword t and starts_with t.text (bytes "((void") then bytes "(" else bytes "w")

-- the depth behind a byte at depth d, `(` being 40 and `)` 41
unfoldable pub deeper : ℕ → ℕ → ℕ
deeper c d = when eqb c 40 then suc d else when eqb c 41 then pred d else d

-- the bytes outside brackets, of a text that begins at depth d
unfoldable pub outside : ℕ → Text → Text
outside d [] = []
outside d (c ∷ cs) = let r = outside (deeper c d) cs in when eqb d 0 and not (contains (bytes "()") c) then c ∷ r else r

-- the depth behind a text
unfoldable pub depth : ℕ → Text → ℕ
depth d [] = d
depth d (c ∷ cs) = depth (deeper c d) cs

unfoldable pub after_unary : Text → Text
after_unary [] = []
after_unary (c ∷ cs) = let r = after_unary cs in when contains (bytes "-~!&*") c then r else c ∷ cs

-- nothing but `w` (119)
unfoldable pub all_words : Text → Bool
all_words s = not (any (λ c. not (eqb c 119)) s)

-- an operator or a comma outside brackets, unary ones in front left out
unfoldable pub loose : List Token → Bool
loose expr = not (all_words (after_unary (outside 0 (frame expr))))

-- ---- tokens that are not looked into

-- a `*` (42) in a Punct that has no space (32) on one of its sides: a read or store that the Rust does not see
unfoldable pub star_after : ℕ → Text → Bool
star_after p [] = false
star_after p (c ∷ cs) = let r = star_after c cs in (eqb c 42 and not (eqb p 32 and eqb (get_or cs 0 0) 32)) or r

unfoldable pub is_strange : Token → Bool
is_strange t =
    (is Keyword t and starts_with t.text (bytes "_"))
    or ((is Plain t or is Prefix t) and not (t.text ≟ bytes " "))
    -- looks like a call, and is none
    or (is Symbol t and (t.text ≟ bytes "sizeof"))
    or (is Punct t and (holds (bytes "&&") t.text or holds (bytes "||") t.text or star_after 0 t.text))

-- a register behind which a bracket opens: a call that is none to the Rust
unfoldable pub calls_register : Token × Token → Bool
calls_register w = is Register w.0 and is Punct w.1 and starts_with w.1.text (bytes "(")

-- It may read and write every register and all memory: it has such a token, changes more than one thing or something inside brackets, or
-- has a comma (44) outside of them, behind which C evaluates more.
unfoldable pub is_opaque : List Token → Bool
is_opaque ts =
    let top : Text = outside 0 (frame ts) in
    any is_strange ts or any calls_register (windows ts) or ltb 1 (sum marks ts)
    or ltb (marks_after 0 top) (sum marks ts) or contains top 44
