-- What the code knows of an expression that is put into a line, and the definitions asked of it. Assumes nothing.
use Rattle.std.specs.Prelude.{ℕ, ◌+◌, ◌-◌, min, ◌≡◌, ◌≤◌, ◌<◌, Bool, false, List, [], ℤ, length, eqb, ltb, leb}
use Rattle.std.proofs.Math.Option.{Option, none}
use Rattle.reference.specs.Control.{not, ◌and◌, ◌or◌, when◌then◌else◌, let_some◌else◌then◌}
use Rattle.reference.specs.Lists.{any, get}
use Rattle.reference.specs.Text.{Text, bytes, contains, ◌≟◌}
use Rattle.reference.specs.Numbers.{read_number}
use Rattle.reference.specs.Listing.{Token}
use Rattle.reference.specs.Names as N
use Rattle.reference.specs.Rules as R
use Rattle.reference.specs.Join.{is_bracketed, text_before, text_after}
use Rattle.cautions.specs.Uses.{is_truth, number_at, compares, widths}
use Rattle.cautions.specs.Values.{rest, widths_in, fits, full, is_tame, is_plain, natural, is_whole, lone_call}
use Rattle.cautions.specs.Forms.{is_guarded}
use Rattle.ground.specs.Rules.{rules_of}
use Rattle.lines.specs.Texts.{Holds, Known, fam_text, tokens_of}
use Rattle.usefacts.specs.declared.uses.Joining.{Joining}

-- the family that is assigned, the expression, and the line
abbrev pub fam_in : Joining → N.Fam
fam_in j = record { name = fam_text j.texts j.name.family; width = j.name.width; lowest = j.name.lowest }

abbrev pub expr_in : Joining → List Token
expr_in j = tokens_of j.texts j.expr.now

abbrev pub line_in : Joining → List Token
line_in j = tokens_of j.texts j.line.now

-- a definition of crate cautions, asked of them and of a place
abbrev pub asked : {A : Type 0} → (R.Rules → N.Fam → List Token → List Token → ℕ → A) → Joining → ℕ → A
asked q j u = q (rules_of j.rules) (fam_in j) (expr_in j) (line_in j) u

-- words point into their texts, and what is said of the expression and the line is true
pub record Ready (j : Joining) : Type 0 where
  pub known : Known j.texts j.name.family
  pub expr : Holds j.texts j.expr.now
  pub line : Holds j.texts j.line.now
  pub expr_few : length j.expr.now < 65536
  pub line_few : length j.line.now < 65536
  pub narrow : j.name.width ≤ 64
  pub truth : j.truth ≡ is_truth (expr_in j)
  pub bracketed : j.bracketed ≡ is_bracketed (rules_of j.rules) (expr_in j)
  pub guarded : j.guarded ≡ is_guarded (line_in j)

-- the token at u is a use
unfoldable pub is_use : Text → List Token → ℕ → Bool
is_use fam ts u = let_some (get ts u) else false then N.of_family fam

-- ---- parts of what is asked

-- the line reads something narrower than 64 bits beside the use
unfoldable pub has_narrow_rest : R.Rules → List Token → ℕ → Bool
has_narrow_rest rules ts u = any (λ w. ltb w 64) (widths_in rules.convention [] (rest ts u))

-- a Number is computed with the use, in front of it or behind it
unfoldable pub number_before : List Token → ℕ → Bool
number_before ts u = leb 2 u and number_at ts (u - 2) and not (compares (text_before ts u))

unfoldable pub number_behind : List Token → ℕ → Bool
number_behind ts u = number_at ts (u + 2) and not (compares (text_after ts u))

-- the use is all of a right side
unfoldable pub is_right_side : List Token → ℕ → Bool
is_right_side ts u = (text_before ts u ≟ bytes " = ") and (text_after ts u ≟ bytes ";") and eqb u 2

-- the number that an expression begins with
unfoldable pub first_number : ℕ → List Token → Option ℤ
first_number edition expr = let_some (get expr 0) else none then λ t. read_number edition t.text

-- a register of this width held that number, and is used at that width
unfoldable pub fits_widths : ℕ × ℕ → ℤ → Bool
fits_widths w n = (eqb w.0 64 and eqb w.1 64) or (leb 32 w.0 and fits (min w.0 w.1) n)

-- an operator before which C asks for the sign
unfoldable pub is_signed : Text → Bool
is_signed s = any (λ c. contains (bytes "<>/%") c) s

-- C computes an expression of this width at that width
unfoldable pub is_computed : ℕ → List Token → Bool
is_computed own expr = eqb own 64 or is_plain expr or (eqb own 32 and not (any (λ t. not (is_tame t)) expr))

module _ (rules : R.Rules) (f : N.Fam) (expr : List Token) (ts : List Token) (u : ℕ) where
  abbrev w : ℕ × ℕ
  w = widths rules f expr ts u

  -- a 32-bit value is handed on whole as one of 64 bits
  unfoldable pub widens : Bool
  widens = eqb w.0 32 and eqb w.1 64 and eqb (natural rules.convention expr) 32 and is_whole (text_before ts u) (text_after ts u)

  -- a call's value has the register's width
  unfoldable pub call_kept : Bool
  call_kept = eqb w.0 (full rules.convention) or (leb 32 w.0 and (f.name ≟ bytes "rax"))

  -- the expression's own width is the register's
  unfoldable pub own_kept : Bool
  own_kept = eqb (natural rules.convention expr) w.0 and is_computed (natural rules.convention expr) expr

  -- that of another expression than a number or a truth value
  unfoldable pub value_kept : Bool
  value_kept = when not (eqb w.0 w.1) then widens else when lone_call expr then call_kept else own_kept
