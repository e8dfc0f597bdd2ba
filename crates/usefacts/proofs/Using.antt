-- A register's widths, as it was assigned and as it is used, and numbers beside its use. Assumes nothing.
use Prim.Native.Nat.{ℕ, ◌-◌, ◌≤◌, ◌<◌}
use native.Mathlib.Omega.{arith}
use mathlib.Core.Path.{◌≡◌, refl, sym, ap, ◌∙◌}
use mathlib.Core.Bool.{Bool, true, false, not as flip}
use mathlib.Core.List.{List, []}
use lib.Dec.{eqb, ltb}
use lib.ListN.{length, get_or}
use borrow.Author.Tests.{le-leb, lt-leb}
use Rattle.std.specs.Prelude as std
use Rattle.std.specs.Prelude.{Some, None}
use Rattle.reference.specs.Control.{not, ◌and◌, ◌or◌, when◌then◌else◌, let_some◌else◌then◌}
use Rattle.reference.specs.Lists.{any}
use Rattle.reference.specs.Text.{Text, bytes, starts_with}
use Rattle.reference.specs.Listing.{Token, is, Number}
use Rattle.reference.specs.Names.{family}
use Rattle.reference.specs.Names as N
use Rattle.reference.specs.Rules.{Rules}
use Rattle.reference.specs.Join.{use_width, use_lowest, text_before, text_after}
use Rattle.cautions.specs.Uses.{widths, number_at, compares, beside_number}
use Rattle.cautions.specs.Values.{full, widths_in, is_whole}
use Rattle.lines.specs.Words.{kind_of, text_of, token_of, tokens_of}
use Rattle.lines.specs.Fams.{Names}
use Rattle.lines.specs.declared.fams.Named.{Named}
use Rattle.lines.specs.declared.texts.Texts.{Texts}
use Rattle.lines.proofs.fams.Families.{named_as, named-not}
use Rattle.lines.proofs.shapes.Places.{get_at, get_past}
use Rattle.usefacts.specs.Rest.{tokens_in, Held, RestOf}
use Rattle.usefacts.specs.declared.rest.Rest.{Rest}
use Rattle.usefacts.specs.declared.uses.Joining.{Joining}
use Rattle.usefacts.specs.Uses.{Ready, has_narrow_rest, number_before, number_behind}

-- ---- the token that is used

-- n is the name of the token at u
module _ (tape area : Text) (ws : List ℕ) (u : ℕ) (h : u < length ws) {n : std.Option Named} (hn : Names tape area (family (text_of tape area (get_or ws u 0))) n) where
  pub width_unnamed : n ≡ None → 64 ≡ use_width (tokens_of tape area ws) u
  unfolding use_width let_some◌else◌then◌
  width_unnamed e = rw (get_at (token_of tape area) ws u h, named-not hn e) refl

  pub lowest_unnamed : n ≡ None → 0 ≡ use_lowest (tokens_of tape area ws) u
  unfolding use_lowest let_some◌else◌then◌
  lowest_unnamed e = rw (get_at (token_of tape area) ws u h, named-not hn e) refl

  module _ {m : Named} (e : n ≡ Some m) where
    pub width_named : m.width ≡ use_width (tokens_of tape area ws) u
    unfolding use_width let_some◌else◌then◌
    width_named = rw (get_at (token_of tape area) ws u h, named_as hn e) refl

    pub lowest_named : m.lowest ≡ use_lowest (tokens_of tape area ws) u
    unfolding use_lowest let_some◌else◌then◌
    lowest_named = rw (get_at (token_of tape area) ws u h, named_as hn e) refl

pub ruleset named_here = (width_unnamed, lowest_unnamed, width_named, lowest_named)

-- ---- both widths

module _ (rules : Rules) (f : N.Fam) (expr ts : List Token) (u : ℕ) {x : Bool} (ex : x ≡ starts_with f.name (bytes "var_")) where
  pub slot_assigned : x ≡ true → {w : ℕ} → w ≡ full rules.convention → w ≡ (widths rules f expr ts u).0
  unfolding widths when◌then◌else◌
  slot_assigned h e = rw (← ex, h) e

  pub slot_used : x ≡ true → {w : ℕ} → w ≡ full rules.convention → w ≡ (widths rules f expr ts u).1
  unfolding widths when◌then◌else◌
  slot_used h e = rw (← ex, h) e

  pub name_assigned : x ≡ false → f.width ≡ (widths rules f expr ts u).0
  unfolding widths when◌then◌else◌
  name_assigned h = rw (← ex, h) refl

  pub name_used : x ≡ false → {w : ℕ} → w ≡ use_width ts u → w ≡ (widths rules f expr ts u).1
  unfolding widths when◌then◌else◌
  name_used h e = rw (← ex, h) e

pub full_few : (c : ℕ) {w : ℕ} → w ≡ full c → w ≤ 64
unfolding full when◌then◌else◌
full_few c e = rw e (by (eqb c 0))
  where
    by : (b : Bool) → (when b then 32 else 64) ≤ 64
    by true = omega arith
    by false = omega arith

pub ready_few : {j : Joining} → Ready j → j.name.width ≤ 64
ready_few h = h.narrow

pub ruleset wide = (full_few, ready_few, slot_assigned, slot_used, name_assigned, name_used)

-- ---- what is read beside the use

pub held_of : {t : Texts} {ws : List ℕ} {u : ℕ} {r : Rest} → RestOf t ws u r → Held t r
held_of h = h.held

pub narrow_by : (rules : Rules) {t : Texts} {ws : List ℕ} {u : ℕ} {r : Rest} → RestOf t ws u r → {x : Bool}
    → x ≡ any (λ w. ltb w 64) (widths_in rules.convention [] (tokens_in t r)) → x ≡ has_narrow_rest rules (tokens_of t.tape.now t.area.now ws) u
unfolding has_narrow_rest
narrow_by rules h e = e ∙ ap (λ l. any (λ w. ltb w 64) (widths_in rules.convention [] l)) h.is

pub ruleset rested = (held_of, narrow_by)

-- ---- numbers beside it

module _ (tape area : Text) (ws : List ℕ) (q : ℕ) where
  pub number_here : q < length ws → {k : ℕ} → k ≡ kind_of (get_or ws q 0) → eqb k Number ≡ number_at (tokens_of tape area ws) q
  unfolding number_at let_some◌else◌then◌ is
  number_here h e = rw (get_at (token_of tape area) ws q h, e) refl

  pub number_past : length ws ≤ q → false ≡ number_at (tokens_of tape area ws) q
  unfolding number_at let_some◌else◌then◌
  number_past h = rw (get_past (token_of tape area) ws q h) refl

pub ruleset numbered = (number_here, number_past)

not_flip : (b : Bool) → flip b ≡ not b
unfolding not
not_flip true = refl
not_flip false = refl

module _ (ts : List Token) (u : ℕ) where
  pub before_few : u < 2 → false ≡ number_before ts u
  unfolding number_before ◌and◌
  before_few h = rw (lt-leb 2 u h) refl

  module _ (h : 2 ≤ u) {x : Bool} (ex : x ≡ number_at ts (u - 2)) where
    pub before_none : x ≡ false → false ≡ number_before ts u
    unfolding number_before ◌and◌
    before_none f = rw (le-leb 2 u h, ← ex, f) refl

    pub before_some : x ≡ true → {s : Text} → s ≡ text_before ts u → {y : Bool} → y ≡ compares s → flip y ≡ number_before ts u
    unfolding number_before ◌and◌
    before_some f es {y} ey = rw (le-leb 2 u h, ← ex, f, ← es, ← ey) (not_flip y)

pub ruleset fronts = (before_few, before_none, before_some)

module _ (rules : Rules) (f : N.Fam) (expr ts : List Token) (u : ℕ) {x : Bool} (ex : x ≡ is_whole (text_before ts u) (text_after ts u)) where
  pub beside_whole : x ≡ true → false ≡ beside_number rules f expr ts u
  unfolding beside_number ◌and◌ not
  beside_whole h = rw (← ex, h) refl

  module _ (h : x ≡ false) {y : Bool} (ey : y ≡ number_before ts u) where
    beside_either : beside_number rules f expr ts u ≡ (number_before ts u or number_behind ts u)
    unfolding beside_number number_before number_behind ◌and◌ not
    beside_either = rw (← ex, h) refl

    pub beside_front : y ≡ true → true ≡ beside_number rules f expr ts u
    unfolding ◌or◌
    beside_front g = sym (beside_either ∙ rw (← ey, g) refl)

    pub beside_back : y ≡ false → {z : Bool} → z ≡ number_behind ts u → z ≡ beside_number rules f expr ts u
    unfolding ◌or◌
    beside_back g ez = ez ∙ sym (beside_either ∙ rw (← ey, g) refl)

pub ruleset numbers = (beside_whole, beside_front, beside_back)
