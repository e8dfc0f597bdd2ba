-- M-106, "Straight pieces with a proved meaning": which listings are in the profile, and what they return. Words in quotes are document
-- 02's. Assumes nothing.
use Rattle.std.specs.Prelude.{ℕ, suc, ◌%◌, ◌^◌, Bool, true, false, List, [], ◌∷◌, eqb}
use Rattle.std.proofs.Math.Option.{Option, none, some}
use Rattle.reference.specs.Control.{not, ◌and◌, when◌then◌else◌, let_some◌else◌then◌}
use Rattle.reference.specs.Lists.{is_some}
use Rattle.reference.specs.Text.{Text, bytes, ◌≟◌}
use Rattle.reference.specs.Listing.{Token, is, Punct, Listing}
use Rattle.reference.specs.Shapes.{is_kw}
use Rattle.reference.specs.Evaluators.{Arithmetic, modulo, Store, wide, lexemes, evaluate}

-- ---- what a listing returns

-- the registers' values, of which one is now v
abbrev pub assign : {X : Type 0} → Text → X → (Text → X) → Text → X
assign x v σ = λ y. when y ≟ x then v else σ y

module _ {X : Type 0} (a : Arithmetic X) where
  -- the value that the tokens behind a line's first one assign, ` = ` EXPRESSION `;`, and return, ` ` EXPRESSION `;`
  unfoldable pub assigned_value : (Text → X) → List Token → Option X
  assigned_value σ ts = evaluate a σ (bytes " = ") (lexemes ts)

  unfoldable pub returned_value : (Text → X) → List Token → Option X
  returned_value σ ts = evaluate a σ (bytes " ") (lexemes ts)

  -- one line: it returns, or it assigns and `next` goes on
  unfoldable pub line_step : (Text → X) → List Token → ((Text → X) → Option X) → Option X
  line_step σ [] next = none
  line_step σ (t ∷ ts) next =
      when is_kw (bytes "return") t then returned_value σ ts
      else let_some (wide t) else none then λ x. let_some (assigned_value σ ts) else none then λ v. next (assign x v σ)

  unfoldable pub execute : (Text → X) → Listing → Option X
  execute σ [] = none
  execute σ (l ∷ ls) = line_step σ l.tokens (λ τ. execute τ ls)

-- "the returned value, modulo 2^64", from the starting values σ
unfoldable pub returned : Store → Listing → ℕ
returned σ lines = (let_some (execute modulo σ lines) else 0 then λ v. v) % 2 ^ 64

-- ---- the profile

-- whether an expression is read at all does not depend on the values (crate straight, `reads`)
abbrev pub zeros : Store
zeros = λ x. 0

-- "Two Puncts side by side break the profile": none among the tokens, the first of which stands behind a Punct or not
unfoldable pub puncts_apart : Bool → List Token → Bool
puncts_apart behind [] = true
puncts_apart behind (t ∷ ts) = let r = puncts_apart (is Punct t) ts in not (behind and is Punct t) and r

-- "assigns an expression to a 64-bit register, no `var_` slot"
unfoldable pub assigns_wide : List Token → Bool
assigns_wide [] = false
assigns_wide (t ∷ ts) = is_some (wide t) and is_some (assigned_value modulo zeros ts) and puncts_apart false ts

-- "Keyword `return`, a Punct space, an expression, `;`"
unfoldable pub returns_value : List Token → Bool
returns_value [] = false
returns_value (t ∷ ts) = is_kw (bytes "return") t and is_some (returned_value modulo zeros ts) and puncts_apart false ts

-- "equal indents; every line but the last assigns [..]; the last is Keyword `return` [..]": the first line that breaks this, from the
-- line n on; `indent` is the first line's
unfoldable pub breaks_from : ℕ → ℕ → Listing → Option ℕ
breaks_from indent n [] = some n
breaks_from indent n (l ∷ []) = when eqb l.indent indent and returns_value l.tokens then none else some n
breaks_from indent n (l ∷ m ∷ ls) =
    let r = breaks_from indent (suc n) (m ∷ ls) in
    when eqb l.indent indent and assigns_wide l.tokens then r else some n

-- "the first line that breaks the profile, place its line number from 0 (an empty listing breaks it at 0)"
unfoldable pub breaks : Listing → Option ℕ
breaks [] = some 0
breaks (l ∷ ls) = breaks_from l.indent 0 (l ∷ ls)
