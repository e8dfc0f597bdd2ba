-- A listing within the limits of document 01: what questions 6, 10, 11 and 7 let pass, with kinds and addresses that a tape can hold. Assumes nothing.
use Prim.Native.Nat.{ℕ, zero, suc, ◌<◌, ◌≤◌}
use mathlib.Core.Path.{◌≡◌}
use mathlib.Core.Bool.{true, false}
use mathlib.Core.List.{List, [], ◌∷◌, ◌++◌}
use mathlib.Core.Option.{none, some}
use lib.Dec.{ltb}
use lib.ListN.{length}
use Rattle.reference.specs.Control.{◌or◌}
use Rattle.reference.specs.Lists.{any, modify}
use Rattle.reference.specs.Listing.{Token, is, Number, Line, Listing}
use Rattle.reference.specs.Spans.{Marks}
use Rattle.reference.specs.Claim.{token_count, text}
use Rattle.reference.specs.Tape.{TapeForm, old}
use Rattle.reference.proofs.Commands.{AddressFitsBy, SpanFitsBy}

module _ {A : Type 0} where
  abbrev pub All : (A → Type 0) → List A → Type 0
  All P [] = Unit {0}
  All P (x ∷ xs) = P x × All P xs

  pub all_append : (P : A → Type 0) (xs ys : List A) → All P xs → All P ys → All P (xs ++ ys)
  all_append P [] ys h k = k
  all_append P (x ∷ xs) ys h k = (h.0, all_append P xs ys h.1 k)

  pub all-modify : (P : A → Type 0) (g : A → A) → ((x : A) → P x → P (g x)) → (i : ℕ) (xs : List A) → All P xs → All P (modify i g xs)
  all-modify P g h i [] k = tt
  all-modify P g h zero (x ∷ xs) k = (h x k.0, k.1)
  all-modify P g h (suc i) (x ∷ xs) k = (k.0, all-modify P g h i xs k.1)

-- one of the eight kinds, and a text that questions 6 and 7 let pass
pub record TokenFits (t : Token) : Type 0 where
  pub kind : t.kind < 8
  pub some_text : 1 ≤ length t.text
  pub number : is Number t ≡ true → length t.text ≤ 24
  pub printable : any (λ b. ltb b 0x20 or ltb 0x7E b) t.text ≡ false

pub record LineFits (l : Line) : Type 0 where
  pub indent : l.indent ≤ 63
  pub tokens : All TokenFits l.tokens

-- what an accepted tape holds, whatever its elements are
pub record Limits (lines : Listing) : Type 0 where
  pub few_lines : length lines ≤ 256
  pub few_tokens : token_count lines ≤ 1024
  pub short_text : text lines ≤ 24576
  pub each : All LineFits lines

-- marks that an accepted tape of bytes can hold
abbrev pub MarksFitBy : TapeForm → Marks → Type 0
MarksFitBy form none = Unit {0}
MarksFitBy form (some s) = SpanFitsBy form s × (s.lowest ≤ s.highest)

-- what an accepted tape of bytes holds: addresses have 8 of them, offsets 4
pub record TapeFitsBy (form : TapeForm) (lines : Listing) : Type 0 where
  pub limits : Limits lines
  pub addresses : All (λ l. AddressFitsBy form l.address) lines

abbrev pub MarksFit : Marks → Type 0
MarksFit = MarksFitBy old

abbrev pub TapeFits : Listing → Type 0
TapeFits = TapeFitsBy old
