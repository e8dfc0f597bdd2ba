-- What in a line breaks the profile of straight pieces (request M-106): the tests of `breaks` (crate reference, specs/Straight.antt), one
-- after the other, each with what breaks the profile where it fails. That they say what `breaks` says is a theorem (proofs/Breaking.antt).
-- Assumes nothing.
use Rattle.std.specs.Prelude.{◌≡◌, ℕ, suc, pred, ◌<◌, ◌&&◌, ◌||◌, Bool, true, false, not, List, [], ◌∷◌, ◌++◌, eqb, length, if◌then◌else◌}
use Rattle.std.specs.Prelude as std
use Rattle.std.specs.Prelude.{Some, None}
use Rattle.std.proofs.Math.Option.{Option, none, some}
use Rattle.reference.specs.Control.{let_some◌else◌then◌}
use Rattle.reference.specs.Lists.{any, is_some, get}
use Rattle.reference.specs.Text.{Text, bytes}
use Rattle.reference.specs.Listing.{Token, Register, Number, Punct, Line, Listing}
use Rattle.reference.specs.Numbers.{parse_c_number}
use Rattle.reference.specs.Shapes.{is_kw}
use Rattle.reference.specs.Evaluators.{modulo, wide, is_tidy, lexemes, behind, evaluate}
use Rattle.reference.specs.Straight.{zeros, puncts_apart, breaks}
use Rattle.formula.specs.declared.breaches.Breach.{Breach}
use Rattle.formula.specs.declared.breaches.Breach.TheVariants as breach

-- ---- a token behind a line's first

-- a Register that is no 64-bit register
abbrev pub is_narrow : Token → Bool
is_narrow t = eqb t.kind Register && not (is_some (wide t))

-- a Number with a plus, a second minus or a zero in front; one that edition 0 (the Rust's reading) does not read
abbrev pub is_untidy : Token → Bool
is_untidy t = eqb t.kind Number && not (is_tidy t.text)

abbrev pub is_unread : Token → Bool
is_unread t = eqb t.kind Number && not (is_some (parse_c_number t.text))

abbrev pub is_foreign : Token → Bool
is_foreign t = not (eqb t.kind Register || eqb t.kind Number || eqb t.kind Punct)

-- ---- brackets

-- how many brackets are open behind a byte of a Punct, n being open before it; none, where it closes one that is not open
abbrev pub open_past : ℕ → ℕ → Option ℕ
open_past n b = if eqb b 40 then some (suc n) else if eqb b 41 then (if eqb n 0 then none else some (pred n)) else some n

-- ... behind a text
unfoldable pub open_in : ℕ → Text → Option ℕ
open_in n [] = some n
open_in n (b ∷ bs) = let_some (open_past n b) else none then λ m. open_in m bs

-- ... behind a token: only those of Puncts count
abbrev pub open_after : ℕ → Token → Option ℕ
open_after n t = if eqb t.kind Punct then open_in n t.text else some n

-- ... behind tokens
unfoldable pub open_behind : ℕ → List Token → Option ℕ
open_behind n [] = some n
open_behind n (t ∷ ts) = let_some (open_after n t) else none then λ m. open_behind m ts

-- each bracket that is opened is closed behind, and none else
unfoldable pub is_paired : List Token → Bool
is_paired ts = let_some (open_behind 0 ts) else false then λ n. eqb n 0

-- ---- the tests of a line

-- a test, and what breaks the profile where it fails
abbrev pub Test : Type 0
Test = Breach × Bool

-- the tokens behind the first, each by itself
abbrev pub token_tests : List Token → List Test
token_tests ts =
    (breach.NarrowRegister, not (any is_narrow ts))
    ∷ (breach.UntidyNumber, not (any is_untidy ts))
    ∷ (breach.UnreadNumber, not (any is_unread ts))
    ∷ (breach.ForeignToken, not (any is_foreign ts))
    ∷ []

-- the same tokens together: the last line returns, every other assigns
abbrev pub before : Bool → Text
before last = if last then bytes " " else bytes " = "

abbrev pub no_beginning : Bool → Breach
no_beginning last = if last then breach.NoBlank else breach.NoEquals

abbrev pub whole_tests : Bool → List Token → List Test
whole_tests last ts =
    (no_beginning last, is_some (behind (before last) (lexemes ts)))
    ∷ (breach.Brackets, is_paired ts)
    ∷ (breach.Signs, is_some (evaluate modulo zeros (before last) (lexemes ts)))
    ∷ (breach.TwoPuncts, puncts_apart false ts)
    ∷ []

-- the first token: `return`, or a 64-bit register
abbrev pub begins : Bool → Token → Bool
begins last t = if last then is_kw (bytes "return") t else is_some (wide t)

abbrev pub no_front : Bool → Breach
no_front last = if last then breach.NoReturn else breach.NoTarget

unfoldable pub tests_of : Bool → List Token → List Test
tests_of last [] = (breach.NoToken, false) ∷ []
tests_of last (t ∷ ts) = (no_front last, begins last t) ∷ (token_tests ts ++ whole_tests last ts)

-- all tests of a line; `indent` is the first line's
abbrev pub line_tests : Bool → ℕ → Line → List Test
line_tests last indent l = (breach.Indent, eqb l.indent indent) ∷ tests_of last l.tokens

-- ---- the first test that fails

unfoldable pub first_breach : List Test → std.Option Breach
first_breach [] = None
first_breach (q ∷ more) = let r : std.Option Breach = first_breach more in if q.1 then r else Some q.0

unfoldable pub first_indent : Listing → ℕ
first_indent [] = 0
first_indent (l ∷ ls) = l.indent

-- of line n, counted from 0; no line has this number
abbrev pub breach_in : Listing → ℕ → Option Line → std.Option Breach
breach_in lines n none = Some breach.NoLine
breach_in lines n (some l) = first_breach (line_tests (eqb (suc n) (length lines)) (first_indent lines) l)

unfoldable pub breach_at : Listing → ℕ → std.Option Breach
breach_at lines n = breach_in lines n (get lines n)

-- ---- what they say

-- the test of a breach fails, and those before it hold
pub record Fails (tests : List Test) (b : Breach) : Type 0 where
  pub front : List Test
  pub rest : List Test
  pub splits : tests ≡ front ++ ((b, false) ∷ rest)
  pub hold : any (λ (q : Test). not q.1) front ≡ false

-- what is told of line n: that the listing has no line, or the first of its line's tests that fails
pub data Told (lines : Listing) (n : ℕ) : Breach → Type 0 where
  no_line : lines ≡ [] → Told lines n breach.NoLine
  fails : {b : Breach} (l : Line) → get lines n ≡ some l → Fails (line_tests (eqb (suc n) (length lines)) (first_indent lines) l) b
      → Told lines n b

-- Of each listing: of the line by which `breaks` refuses it something is told, and nothing of those before it, nor of any line of a listing
-- in the profile.
pub record Tells (lines : Listing) : Type 0 where
  pub refused : (n : ℕ) → breaks lines ≡ some n → (b : Breach) × (breach_at lines n ≡ Some b) × Told lines n b
  pub before_it : (n k : ℕ) → breaks lines ≡ some n → k < n → breach_at lines k ≡ None
  pub passed : breaks lines ≡ none → (k : ℕ) → k < length lines → breach_at lines k ≡ None
