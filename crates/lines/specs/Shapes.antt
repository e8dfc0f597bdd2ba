-- What the code's answers on shapes mean, and the right side of an assignment as words. Assumes nothing.
use Rattle.std.specs.Prelude.{ℕ, ◌+◌, ◌-◌, ◌≤◌, ◌<◌, ◌≡◌, Bool, true, List, [], ◌∷◌, length, get_or, set, take, drop}
use Rattle.std.proofs.Math.Option.{Option, none, some}
use Rattle.reference.specs.Control.{when◌then◌else◌, let_some◌else◌then◌}
use Rattle.reference.specs.Lists.{position, is_empty}
use Rattle.reference.specs.Text.{Text}
use Rattle.reference.specs.Listing.{Token, is, Symbol}
use Rattle.reference.specs.Shapes.{Assignment, cut_semicolon, assignment_of}
use Rattle.lines.specs.Words.{start_of, len_of, without_first, without_last, token_of, tokens_of, Holds}
use Rattle.std.specs.Prelude as std
use Rattle.lines.specs.declared.shapes.Expr.{Expr}

-- the place of the first Symbol from the token `from` on
unfoldable pub symbol_from : List Token → ℕ → Option ℕ
symbol_from ts from = let_some (position (is Symbol) (drop from ts)) else none then λ k. some (from + k)

-- ---- the right side of an assignment, as words

-- the line without the ` = ` of its second token
unfoldable pub opened : List ℕ → List ℕ
opened ws = set ws 1 (without_first (get_or ws 1 0) 3)

-- the last word without the byte at its end
unfoldable pub cut_last : List ℕ → List ℕ
cut_last [] = []
cut_last (w ∷ []) = without_last w ∷ []
cut_last (w ∷ u ∷ us) = w ∷ cut_last (u ∷ us)

unfoldable pub expr_words : List ℕ → Expr → List ℕ
expr_words ws x =
    when x.cut then cut_last (take x.count (drop x.first (opened ws))) else take x.count (drop x.first (opened ws))

-- x is a part of the line that can be read as a right side
pub record Expression (ws : List ℕ) (x : Expr) : Type 0 where
  pub mark : 3 ≤ len_of (get_or ws 1 0)
  pub short : start_of (get_or ws 1 0) + len_of (get_or ws 1 0) < 65536
  pub first_is : 1 ≤ x.first
  pub some : 0 < x.count
  pub inside : x.first + x.count ≤ length ws
  pub cut_is : x.cut ≡ true → 1 ≤ len_of (get_or (opened ws) (x.first + x.count - 1) 0)

abbrev pub assigned : Text → Text → List ℕ → std.Option Expr → Option Assignment
assigned tape area ws (std.Some x) =
    some (record { lhs = token_of tape area (get_or ws 0 0); expr = tokens_of tape area (expr_words ws x) })
assigned tape area ws std.None = none

-- the answer of `assignment`: what the line assigns, and that its right side can be read
pub record Assigns (tape area : Text) (ws : List ℕ) (r : std.Option Expr) : Type 0 where
  pub is : assigned tape area ws r ≡ assignment_of (tokens_of tape area ws)
  pub side : (x : Expr) → r ≡ std.Some x → Expression ws x

-- a line that begins as an assignment
pub record Opens (tape area : Text) (ws : List ℕ) : Type 0 where
  pub holds : Holds tape area ws
  pub long : 1 < length ws
  pub mark : 3 ≤ len_of (get_or ws 1 0)

-- what `assignment_of` makes of the tokens after ` = ` without their `;`
abbrev pub sided : Text → Text → List ℕ → Option (List Token) → Option Assignment
sided tape area ws o =
    let_some o else none then λ expr.
    when is_empty expr then none else some (record { lhs = token_of tape area (get_or ws 0 0); expr = expr })

-- the answer of `right_side`
pub record Sides (tape area : Text) (ws : List ℕ) (first : ℕ) (r : std.Option Expr) : Type 0 where
  pub is : assigned tape area ws r ≡ sided tape area ws (cut_semicolon (tokens_of tape area (drop first (opened ws))))
  pub side : (x : Expr) → r ≡ std.Some x → Expression ws x
