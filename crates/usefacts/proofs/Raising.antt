-- The kinds of one use. Assumes nothing.
use Prim.Native.Nat.{ℕ}
use mathlib.Core.Path.{◌≡◌, refl}
use mathlib.Core.Bool.{Bool, true, false, not as flip}
use mathlib.Core.List.{List}
use Rattle.std.specs.Prelude.{bit_or}
use Rattle.reference.specs.Control.{not, ◌and◌}
use Rattle.reference.specs.Text.{has}
use Rattle.reference.specs.Listing.{Token, Listing}
use Rattle.reference.specs.Names.{Fam}
use Rattle.reference.specs.Rules.{Rules, volatile}
use Rattle.reference.specs.Join.{text_before, text_after}
use Rattle.cautions.specs.Kinds.{◌given◌}
use Rattle.cautions.specs.Uses.{moves_call, moves_read, changes_width, is_apart, groups}
use Rattle.cautions.specs.Values.{acts_beside}
use Rattle.usefacts.specs.Split.{use_kinds}

module _ {a : Bool} (b : Bool) {x : Bool} (ex : x ≡ a) where
  pub text_apart : x ≡ false → true ≡ not (a and b)
  unfolding ◌and◌ not
  text_apart h = rw (← ex, h) refl

  pub text_groups : x ≡ true → {y : Bool} → y ≡ b → flip y ≡ not (a and b)
  unfolding ◌and◌ not
  text_groups h {y} ey = rw (← ex, h, ← ey) (by y)
    where
      by : (b : Bool) → flip b ≡ not b
      by true = refl
      by false = refl

pub ruleset texts = (text_apart, text_groups)

pub kinds_by : (rules : Rules) (f : Fam) (expr ts : List Token) (u : ℕ) (lines : Listing) {o c r w t : ℕ} {a b d e g : Bool}
    → o ≡ 4 given a → a ≡ (has (volatile rules) f.name and acts_beside ts u) → c ≡ 8 given b → b ≡ moves_call rules f expr ts u → r ≡ 16 given d → d ≡ moves_read rules f expr ts u lines
    → w ≡ 32 given e → e ≡ changes_width rules f expr ts u → t ≡ 64 given g → g ≡ not (is_apart (text_before ts u) (text_after ts u) and groups rules f expr ts u)
    → bit_or o (bit_or c (bit_or r (bit_or w t))) ≡ use_kinds rules f expr ts u lines
unfolding use_kinds
kinds_by rules f expr ts u lines eo ea ec eb er ed ew ee et eg = rw (eo, ea, ec, eb, er, ed, ew, ee, et, eg) refl
