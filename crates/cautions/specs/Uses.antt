-- One use: an expression in the place of a register's token, read as C. Whether a call or a read moves, whether the width stays, whether
-- the text groups as it did. Assumes nothing.
use Rattle.std.specs.Prelude.{ℕ, suc, ◌+◌, ◌-◌, min, Bool, false, List, [], ◌∷◌, ◌++◌, map, eqb, ltb, leb, take}
use Rattle.reference.specs.Control.{not, ◌and◌, ◌or◌, when◌then◌else◌, let_some◌else◌then◌}
use Rattle.reference.specs.Lists.{any, count, is_empty, is_some, get}
use Rattle.reference.specs.Text.{Text, bytes, ◌≟◌, has, contains, starts_with, ends_with}
use Rattle.reference.specs.Listing.{Token, is, Number, Keyword, Address, Punct, Listing}
use Rattle.reference.specs.Names.{Fam, fam_of, of_family}
use Rattle.reference.specs.Rules.{Rules, volatile}
use Rattle.reference.specs.Numbers.{read_number}
use Rattle.reference.specs.Shapes.{call_in}
use Rattle.reference.specs.Join.{substitute, text_before, text_after, is_bracketed, lone_number, use_width, use_lowest}
use Rattle.cautions.specs.Kinds.{overwritten, call_moved, read_moved, other_width, other_text, ◌∪◌, ◌given◌}
use Rattle.cautions.specs.Texts.{holds, last_byte, frame, outside, loose}
use Rattle.cautions.specs.Forms.{is_guarded}
use Rattle.cautions.specs.Values.{world, changeable, rest, acts_beside, is_spared, is_whole, full, widths_in, natural, is_plain}
use Rattle.cautions.specs.Values.{lone_call, fits, is_tame}

-- ---- one use: the expression in place of the token at `u`

-- numbers were added up when the expression was put into the line
unfoldable pub is_folded : Fam → List Token → List Token → List Token → Bool
is_folded f expr old new = ltb (count (is Number) new) (count (is Number) (substitute f.name expr old))

unfoldable pub compares : Text → Bool
compares s = any (λ c. holds c s) (map bytes (" == " ∷ " != " ∷ " < " ∷ " > " ∷ " <= " ∷ " >= " ∷ []))

-- a comparison, or `!` in front: 0 or 1
unfoldable pub is_truth : List Token → Bool
is_truth expr = let s : Text = outside 0 (frame expr) in starts_with s (bytes "!") or compares s

abbrev pub OPERATORS : Text
OPERATORS = bytes "+-*/%&|^<>=!~"

-- the delimiters are the generator's: no operator directly in front, and none directly behind
unfoldable pub is_apart : Text → Text → Bool
is_apart before behind =
    not (is_empty before) and not (contains OPERATORS (last_byte before))
    and any (λ c. contains (bytes "),; ") c) (take 1 behind) and not (starts_with behind (bytes " %"))

unfoldable pub number_at : List Token → ℕ → Bool
number_at ts q = let_some (get ts q) else false then is Number

module _ (rules : Rules) (f : Fam) (expr : List Token) (ts : List Token) (u : ℕ) where
  abbrev before : Text
  before = text_before ts u

  abbrev behind : Text
  behind = text_after ts u

  -- a call is made among other reads and calls of the line, or under its condition
  unfoldable pub moves_call : Bool
  moves_call = is_some (call_in expr) and (acts_beside ts u or is_guarded ts or changeable (volatile rules) (rest ts u))

  -- a read comes beside a call, or one of memory beside another or behind one of the lines passed over, or under a condition
  unfoldable pub moves_read : Listing → Bool
  moves_read passed =
      (changeable (volatile rules) expr and acts_beside ts u)
      or (world expr and (is_guarded ts or world (rest ts u) or any (λ l. world l.tokens) passed))

  -- the widths assigned and used; a slot is as wide as an address
  unfoldable pub widths : ℕ × ℕ
  widths =
      when starts_with f.name (bytes "var_") then (full rules.convention, full rules.convention) else (f.width, use_width ts u)

  -- all of the right side, and the target cuts it as the register did
  unfoldable pub target_cuts : Bool
  target_cuts =
      (before ≟ bytes " = ") and (behind ≟ bytes ";") and eqb u 2
      and (let_some (get ts 0) else false then λ t.
      let_some (fam_of t) else false then λ g. leb g.width (min widths.0 widths.1))

  -- what stands beside the use is narrower than it
  unfoldable pub beside_narrower : Bool
  beside_narrower =
      eqb widths.1 64 and not (is_whole before behind) and any (λ w. ltb w 64) (widths_in rules.convention [] (rest ts u))

  -- the register held that number
  unfoldable pub number_fits : Bool
  number_fits =
      let_some (get expr 0) else false then λ t.
      let_some (read_number rules.edition t.text) else false then λ n.
      not beside_narrower and ((eqb widths.0 64 and eqb widths.1 64) or (leb 32 widths.0 and fits (min widths.0 widths.1) n))

  -- The expression's own width is the register's, or it is a 32-bit value handed on whole as one of 64 bits. C computes what is narrower
  -- than an int as an int, and at 64 bits what a large number stands in; and a comparison has no register's width.
  unfoldable pub width_kept : Bool
  width_kept =
      let own : ℕ = natural rules.convention expr in
      when lone_number expr then number_fits
      else when is_truth expr then is_whole before behind
      else when not (eqb widths.0 widths.1)
      then eqb widths.0 32 and eqb widths.1 64 and eqb own 32 and is_whole before behind
      else when lone_call expr then eqb widths.0 (full rules.convention) or (leb 32 widths.0 and (f.name ≟ bytes "rax"))
      else eqb own widths.0 and (eqb own 64 or is_plain expr or (eqb own 32 and not (any (λ t. not (is_tame t)) expr)))

  -- a Number is computed with the use
  unfoldable pub beside_number : Bool
  beside_number =
      not (is_whole before behind)
      and ((leb 2 u and number_at ts (u - 2) and not (compares before)) or (number_at ts (u + 2) and not (compares behind)))

  -- numbers alone are computed where a register of 32 bits was, and not added up to a small one that is not negative
  unfoldable pub sums_numbers : List Token → Bool
  sums_numbers new =
      lone_number expr and ltb widths.1 64 and beside_number
      and not
      (is_folded f expr ts new and not (any (λ t. is Number t and (starts_with t.text (bytes "-") or not (is_tame t))) new))

  -- a read or cast, of C's unsigned types, beside `<`, `>`, `/` or `%`, that the register had without a sign
  unfoldable pub sign_lost : Bool
  sign_lost =
      any (is Keyword) (take 1 expr) and not (before ≟ bytes "(unsigned)")
      and any (λ c. contains (bytes "<>/%") c) (before ++ behind)

  unfoldable pub changes_width : Bool
  changes_width = not (eqb f.lowest (use_lowest ts u)) or sign_lost or not (target_cuts or width_kept)

  unfoldable pub is_address : Bool
  is_address = any (λ t. is Address t or (is Punct t and ends_with t.text (bytes "&"))) (take 1 expr)

  -- a comma stays inside brackets, an address out of sums, and what gets no brackets needs none
  unfoldable pub groups : Bool
  groups =
      when is_spared before behind then not (contains (outside 0 (frame expr)) 44) and (is_whole before behind or not is_address)
      else not is_address and (is_bracketed rules expr or not (loose expr))

  -- those of the use, which passes these lines and makes the line `new`
  unfoldable pub use_cautions : Listing → List Token → ℕ
  use_cautions passed new =
      overwritten given (has (volatile rules) f.name and acts_beside ts u)
      ∪ call_moved given moves_call ∪ read_moved given moves_read passed ∪ other_width given (changes_width or sums_numbers new)
      ∪ other_text given not (is_apart before behind and groups)

-- the places of a family's tokens, numbered from p
unfoldable pub places_of : Text → ℕ → List Token → List ℕ
places_of fam p [] = []
places_of fam p (t ∷ ts) = let r = places_of fam (suc p) ts in when of_family fam t then p ∷ r else r

-- a number was moved into a line, or two were added up, and a Number of the line, old or new, is not tame
unfoldable pub numbers_odd : Fam → List Token → List Token → List Token → Bool
numbers_odd f expr old new =
    (lone_number expr or is_folded f expr old new) and any (λ t. not (is_tame t)) (old ++ expr ++ new)
