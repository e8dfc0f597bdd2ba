-- M-106, what an expression is worth. Words in quotes are document 02's: "An expression is terms joined left to right by ` + ` or ` - `,
-- and a term is a 64-bit register, a number or a bracketed expression." `expression` and `term` say that, by calling each other. Assumes
-- nothing.
use Rattle.std.specs.Prelude.{ℕ, zero, suc, ◌+◌, ◌-◌, ◌%◌, ◌^◌, Bool, List, [], ◌∷◌, ◌++◌, map, leb, eqb, ℤ, pos, negsuc, length}
use Rattle.std.proofs.Math.Option.{Option, none, some}
use Rattle.reference.specs.Control.{not, ◌and◌, ◌or◌, when◌then◌else◌, let_some◌else◌then◌}
use Rattle.reference.specs.Lists.{count, is_empty}
use Rattle.reference.specs.Text.{Text, bytes, ◌≟◌, starts_with, strip_prefix, contains}
use Rattle.reference.specs.Listing.{Token, is, Number, Punct}
use Rattle.reference.specs.Names.{fam_of}
use Rattle.reference.specs.Numbers.{parse_c_number}

-- ---- values

-- what is reckoned with: how two values are added, how the second is taken from the first, and which value a number is
pub record Arithmetic (X : Type 0) : Type 0 where
  pub sum : X → X → X
  pub difference : X → X → X
  pub number : ℤ → X

-- "modulo 2^64"
unfoldable pub plus : ℕ → ℕ → ℕ
plus v w = (v + w) % 2 ^ 64

unfoldable pub minus : ℕ → ℕ → ℕ
minus v w = (v + (2 ^ 64 - w % 2 ^ 64)) % 2 ^ 64

unfoldable pub of_integer : ℤ → ℕ
of_integer (pos n) = n % 2 ^ 64
of_integer (negsuc n) = 2 ^ 64 - suc (n % 2 ^ 64)

abbrev pub modulo : Arithmetic ℕ
modulo = record { sum = plus; difference = minus; number = of_integer }

-- a value for every 64-bit register, by its family's name
abbrev pub Store : Type 0
Store = Text → ℕ

-- ---- registers and numbers

-- the family of a 64-bit register: "any Register of width 64 by the name reader counts, r99 too, `var_` excepted"
unfoldable pub wide : Token → Option Text
wide t =
    let_some (fam_of t) else none then λ f.
    when eqb f.width 64 and not (starts_with t.text (bytes "var_")) then some f.name else none

-- "Numbers have no plus, at most one minus, no leading zero in decimal except `0`"; 43 is the plus, 45 the minus
unfoldable pub is_tidy : Text → Bool
is_tidy s =
    let s' : Text = let_some (strip_prefix (bytes "-") s) else s then λ r. r in
    not (contains s 43)
    and leb (count (eqb 45) s) 1
    and (starts_with s' (bytes "0x") or not (starts_with s' (bytes "0")) or (s' ≟ bytes "0"))

-- "and must be read by edition 0", whatever edition the call has
unfoldable pub number_of : Token → Option ℤ
number_of t = when is Number t and is_tidy t.text then parse_c_number t.text else none

-- ---- what a line is read as

-- the bytes of its Puncts, its registers and its numbers; a token that is none of these breaks the profile
pub data Lexeme : Type 0 where
  sign : ℕ → Lexeme
  reg : Text → Lexeme
  num : ℤ → Lexeme
  junk : Lexeme

unfoldable pub lexemes_of : Token → List Lexeme
lexemes_of t =
    when is Punct t then map sign t.text
    else let_some (wide t) else (let_some (number_of t) else (junk ∷ []) then λ z. num z ∷ []) then λ x. reg x ∷ []

unfoldable pub lexemes : List Token → List Lexeme
lexemes [] = []
lexemes (t ∷ ts) = lexemes_of t ++ lexemes ts

-- what is left behind a text
unfoldable pub behind : Text → List Lexeme → Option (List Lexeme)
behind [] xs = some xs
behind (c ∷ cs) [] = none
behind (c ∷ cs) (sign b ∷ xs) = let r = behind cs xs in when eqb b c then r else none
behind (c ∷ cs) (reg x ∷ xs) = none
behind (c ∷ cs) (num z ∷ xs) = none
behind (c ∷ cs) (junk ∷ xs) = none

pub data Operator : Type 0 where
  adds takes : Operator

-- ` + ` or ` - `, and what is left behind it
unfoldable pub operator : List Lexeme → Option (Operator × List Lexeme)
operator xs =
    let_some (behind (bytes " + ") xs)
    else (let_some (behind (bytes " - ") xs) else none then λ r. some (takes, r)) then λ r. some (adds, r)

-- ---- the evaluators

-- Two calls for each lexeme that is left are enough, and two more: further ones change nothing (crate straight, `expression-enough`).
abbrev pub fuel_for : List Lexeme → ℕ
fuel_for xs = length xs + length xs + 2

module _ {X : Type 0} (a : Arithmetic X) where
  unfoldable pub combine : Operator → X → X → X
  combine adds v w = a.sum v w
  combine takes v w = a.difference v w

  -- the registers' values; each evaluator answers a value and what is left behind it, or none, where the profile is broken. `fuel` bounds
  -- the calls.
  module _ (σ : Text → X) where
    unfoldable mutual
      -- a term, and further ones
      pub expression : ℕ → List Lexeme → Option (X × List Lexeme)
      expression zero xs = none
      expression (suc fuel) xs = let_some (term fuel xs) else none then λ r. further fuel r.0 r.1

      -- 40 is the bracket `(`
      pub term : ℕ → List Lexeme → Option (X × List Lexeme)
      term zero xs = none
      term (suc fuel) [] = none
      term (suc fuel) (reg x ∷ xs) = some (σ x, xs)
      term (suc fuel) (num z ∷ xs) = some (a.number z, xs)
      term (suc fuel) (junk ∷ xs) = none
      term (suc fuel) (sign c ∷ xs) =
          let inner : Option (X × List Lexeme) =
          let_some (expression fuel xs) else none then λ r.
          let_some (behind (bytes ")") r.1) else none then λ rest. some (r.0, rest) in
          when eqb c 40 then inner else none

      -- the terms behind the sum v, "left to right"
      pub further : ℕ → X → List Lexeme → Option (X × List Lexeme)
      further zero v xs = none
      further (suc fuel) v xs =
          let_some (operator xs) else some (v, xs) then λ o.
          let_some (term fuel o.1) else none then λ r. further fuel (combine o.0 v r.0) r.1

    -- an expression behind a text, and `;` behind it and nothing more
    unfoldable pub evaluate : Text → List Lexeme → Option X
    evaluate before xs =
        let_some (behind before xs) else none then λ ys.
        let_some (expression (fuel_for ys) ys) else none then λ r.
        let_some (behind (bytes ";") r.1) else none then λ rest.
        when is_empty rest then some r.0 else none
