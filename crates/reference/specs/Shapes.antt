-- The shapes of lines: `is_label`, `has_kw`, `opens_or_closes`, `call_at`, `assignment`, `is_written`, `is_operator_expr` of pseudo_opt.rs.
-- The Rust's functions take a line and look at its tokens alone; so each is said of the tokens first. Assumes nothing.
use Rattle.std.specs.Prelude.{ℕ, suc, Bool, false, ltb, length, drop}
use Prim.Native.String.{String}
use mathlib.Core.List.{List, [], ◌∷◌, ◌++◌, drop_last}
use Rattle.std.proofs.Math.Option.{Option, none, some}
use Rattle.reference.specs.Control.{not, ◌and◌, ◌or◌, when◌then◌else◌, let_some◌else◌then◌}
use Rattle.reference.specs.Lists.{any, position, windows, is_empty, get}
use Rattle.reference.specs.Text.{Text, bytes, ◌≟◌, starts_with, ends_with, contains, trim}
use Rattle.reference.specs.Listing.{Token, token, is, Register, Keyword, Symbol, Punct, Line}

unfoldable pub label_tokens : List Token → Bool
label_tokens [] = false
label_tokens (a ∷ []) = false
label_tokens (a ∷ b ∷ []) = (b.text ≟ bytes ":") and is Symbol a
label_tokens (a ∷ b ∷ c ∷ rest) = false

abbrev pub is_label : Line → Bool
is_label l = label_tokens l.tokens

unfoldable pub is_kw : Text → Token → Bool
is_kw kw t = is Keyword t and (t.text ≟ kw)

unfoldable pub kw_in : List Token → Text → Bool
kw_in ts kw = any (is_kw kw) ts

abbrev pub has_kw : Line → String → Bool
has_kw l kw = kw_in l.tokens (bytes kw)

-- `{` is 123 and `}` 125
unfoldable pub has_brace : Token → Bool
has_brace t = is Punct t and (contains t.text 123 or contains t.text 125)

unfoldable pub braces_in : List Token → Bool
braces_in ts = any has_brace ts

abbrev pub opens_or_closes : Line → Bool
opens_or_closes l = braces_in l.tokens

unfoldable pub calls_here : Token × Token → Bool
calls_here w =
    (is Symbol w.0 and is Punct w.1 and starts_with w.1.text (bytes "("))
    or (is Keyword w.0 and starts_with w.0.text (bytes "((void"))

-- the place of the first call mark (document 01's term)
unfoldable pub call_in : List Token → Option ℕ
call_in ts = position calls_here (windows ts)

abbrev pub call_at : Line → Option ℕ
call_at l = call_in l.tokens

-- ---- assignments

abbrev pub Assignment : Type 0
Assignment = record { lhs : Token; expr : List Token }

-- the last token without its `;`, and gone if nothing is left of it; none if it does not end so
unfoldable pub cut_semicolon : List Token → Option (List Token)
cut_semicolon [] = none
cut_semicolon (t ∷ []) =
    when ends_with t.text (bytes ";")
    then (let s : Text = drop_last t.text in some (when is_empty s then [] else token t.kind s ∷ []))
    else none
cut_semicolon (t ∷ u ∷ us) = let_some (cut_semicolon (u ∷ us)) else none then λ r. some (t ∷ r)

-- `lhs.k != TokenKind::Register || eq.k != TokenKind::Punct || !eq.t.starts_with(" = ")`, negated
unfoldable pub begins_assignment : Token → Token → Bool
begins_assignment lhs eq = is Register lhs and is Punct eq and starts_with eq.text (bytes " = ")

-- the tokens after the ` = `, what follows it in its own token first
unfoldable pub right_side : Token → List Token → List Token
right_side eq rest =
    let head : Text = drop 3 eq.text in
    (when is_empty head then [] else token Punct head ∷ []) ++ rest

unfoldable pub assignment_of : List Token → Option Assignment
assignment_of [] = none
assignment_of (lhs ∷ []) = none
assignment_of (lhs ∷ eq ∷ rest) =
    when begins_assignment lhs eq
    then
    (let_some (cut_semicolon (right_side eq rest)) else none then λ expr.
    when is_empty expr then none else some (record { lhs = lhs; expr = expr }))
    else none

abbrev pub assignment : Line → Option Assignment
assignment l = assignment_of l.tokens

-- ---- in a line

-- whether this Punct, behind a token, writes it
unfoldable pub writes : Token → Bool
writes next =
    is Punct next
    and ((starts_with next.text (bytes " = ") and not (starts_with next.text (bytes " ==")))
    or any (λ op. starts_with next.text op)
    (bytes " += " ∷ bytes " -= " ∷ bytes " &= " ∷ bytes " |= " ∷ bytes " ^= " ∷ bytes " *= " ∷ bytes " /= "
    ∷ bytes " <<= " ∷ bytes " >>= " ∷ bytes "++" ∷ bytes "--" ∷ []))

unfoldable pub is_written : List Token → ℕ → Bool
is_written toks pos = let_some (get toks (suc pos)) else false then writes

-- a Punct with a space at an edge that is no comma between its edge spaces
unfoldable pub is_operator : Token → Bool
is_operator t = is Punct t and ltb (length (trim t.text)) (length t.text) and not (trim t.text ≟ bytes ",")

unfoldable pub is_operator_expr : List Token → Bool
is_operator_expr expr = ltb 1 (length expr) and any is_operator expr
