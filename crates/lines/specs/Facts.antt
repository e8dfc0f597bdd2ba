-- Facts: what a line is known to lack, and whether it calls, which its word keeps so that it is found once. A bit that is not set says
-- nothing.
-- Assumes nothing.
use Rattle.std.specs.Prelude.{ℕ, ◌/◌, ◌%◌, ◌^◌, ◌<◌, ◌≡◌, Bool, true, false, List, eqb}
use Rattle.reference.specs.Control.{◌or◌, when◌then◌else◌, let_some◌else◌then◌}
use Rattle.reference.specs.Lists.{any, is_some}
use Rattle.reference.specs.Text.{bytes, ◌≟◌}
use Rattle.reference.specs.Listing.{Token, is, Keyword}
use Rattle.reference.specs.Names.{fam_of}
use Rattle.reference.specs.Shapes.{has_brace, call_in}
use Rattle.lines.specs.Codes.{family_number}

-- bit i of a number
unfoldable pub bit : ℕ → ℕ → ℕ
bit m i = m / 2 ^ i % 2

-- whether the family of a token has the number i
unfoldable pub of_number : ℕ → Token → Bool
of_number i t = let_some (fam_of t) else false then λ f. eqb (family_number f.name) i

-- whether a token may make its line a jump, a label, the edge of a block or a call of an address: a Keyword, a brace, a `:`
unfoldable pub is_control : Token → Bool
is_control t = is Keyword t or has_brace t or (t.text ≟ bytes ":")

-- what fact i is about, below 16: the families of that number, and at 15 the tokens of control flow
unfoldable pub concerns : ℕ → Token → Bool
concerns i t = when eqb i 15 then is_control t else of_number i t

-- what a bit of m with the value v tells of the tokens: below 16 that they lack what its fact is about, at 16 that they have no call
-- mark (document 01's term), at 17 that they have one
pub record Tells (v m : ℕ) (ts : List Token) : Type 0 where
  pub lacks : (i : ℕ) → i < 16 → bit m i ≡ v → any (concerns i) ts ≡ false
  pub no_call : bit m 16 ≡ v → is_some (call_in ts) ≡ false
  pub calling : bit m 17 ≡ v → is_some (call_in ts) ≡ true
