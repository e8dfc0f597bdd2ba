-- Whether a joined expression keeps the width and the sign of the register. Assumes nothing.
use Prim.Native.Nat.{ℕ, ◌≤◌, ◌<◌, min}
use native.Mathlib.Omega.{arith}
use mathlib.Core.Path.{◌≡◌, refl, sym, ap, ◌∙◌}
use mathlib.Core.Bool.{Bool, true, false, not as flip}
use mathlib.Core.List.{List, [], ◌∷◌}
use mathlib.Core.Option.{Option, none, some}
use lib.Dec.{eqb, leb}
use lib.ListN.{length, get_or, take}
use Rattle.std.specs.Prelude as std
use Rattle.std.specs.Prelude.{Some, None, ℤ}
use Rattle.reference.specs.Options.{option_of}
use Rattle.reference.specs.Control.{not, ◌and◌, ◌or◌, when◌then◌else◌, let_some◌else◌then◌}
use Rattle.reference.specs.Lists.{any, get}
use Rattle.reference.specs.Text.{Text, bytes, contains, ◌≟◌}
use Rattle.reference.specs.Listing.{Token, is, Keyword}
use Rattle.reference.specs.Names.{fam_of}
use Rattle.reference.specs.Names as N
use Rattle.reference.specs.Numbers.{read_number}
use Rattle.reference.specs.Rules.{Rules}
use Rattle.reference.specs.Join.{text_before, text_after}
use Rattle.laws.proofs.Scans.{or_true, or_false, any_append}
use borrow.Author.Tests.{lt-leb, le-leb}
use Rattle.cautions.specs.Uses.{widths, target_cuts, sign_lost, number_fits, beside_narrower}
use Rattle.cautions.specs.Uses.{width_kept, changes_width, is_truth}
use Rattle.cautions.specs.Values.{fits, full, is_plain, natural, is_whole, lone_call}
use Rattle.reference.specs.Join.{lone_number, use_lowest}
use Rattle.reference.specs.Listing.{Number}
use Rattle.lines.specs.Words.{kind_of}
use Rattle.lines.specs.Fams.{Known, fam_text}
use Rattle.usefacts.specs.Split.{is_wild}
use borrow.Author.Tests.{ne_eqb, eq-eqb}
use Rattle.lines.specs.Words.{text_of, token_of, tokens_of}
use Rattle.lines.specs.Fams.{Names}
use Rattle.lines.specs.declared.fams.Named.{Named}
use Rattle.lines.proofs.fams.Families.{named_as, named-not}
use Rattle.lines.proofs.shapes.Places.{get_at}
use Rattle.usefacts.specs.Uses.{is_right_side, first_number, is_signed, fits_widths, widens, call_kept, is_computed, own_kept, value_kept}

-- ---- the lesser

module _ (a b : ℕ) where
  pub lesser_first : a < b → a ≡ min a b
  lesser_first h = omega (arith, h)

  pub lesser_second : b ≤ a → b ≡ min a b
  lesser_second h = omega (arith, h)

  pub lesser_few : a ≤ 64 → b ≤ a → b ≤ 64
  lesser_few h k = omega (arith, h, k)

pub ruleset lesser = (lesser_first, lesser_second, lesser_few)

-- ---- a target that cuts

and_split : (a b c d : Bool) → (a and b and c and d) ≡ ((a and b and c) and d)
unfolding ◌and◌
and_split true true true d = refl
and_split true true false d = refl
and_split true false c d = refl
and_split false b c d = refl

module _ (rules : Rules) (f : N.Fam) (expr : List Token) (tape area : Text) (ws : List ℕ) (u : ℕ) {x : Bool} (ex : x ≡ is_right_side (tokens_of tape area ws) u) where
  abbrev ts : List Token
  ts = tokens_of tape area ws

  cut_by : target_cuts rules f expr ts u
      ≡ (x and (let_some (get ts 0) else false then λ t. let_some (fam_of t) else false then λ g. leb g.width (min (widths rules f expr ts u).0 (widths rules f expr ts u).1)))
  unfolding target_cuts is_right_side
  cut_by = rw ex (and_split (text_before ts u ≟ bytes " = ") (text_after ts u ≟ bytes ";") (eqb u 2) _)

  pub cuts_not : x ≡ false → false ≡ target_cuts rules f expr ts u
  unfolding ◌and◌
  cuts_not h = sym (cut_by ∙ rw h refl)

  module _ (t : x ≡ true) (l : u < length ws) {r : std.Option Named} (n : Names tape area (fam_of (token_of tape area (get_or ws 0 0))) r) where
    first_is : get ts 0 ≡ some (token_of tape area (get_or ws 0 0))
    first_is = get_at (token_of tape area) ws 0 (omega (arith, l))

    pub cuts_none : r ≡ None → false ≡ target_cuts rules f expr ts u
    unfolding ◌and◌ let_some◌else◌then◌
    cuts_none e = sym (cut_by ∙ rw (t, first_is, named-not n e) refl)

    pub cuts_some : {m : Named} → r ≡ Some m → {w : ℕ} → w ≡ min (widths rules f expr ts u).0 (widths rules f expr ts u).1 → leb m.width w ≡ target_cuts rules f expr ts u
    unfolding ◌and◌ let_some◌else◌then◌
    cuts_some e ew = sym (cut_by ∙ rw (t, first_is, named_as n e, ← ew) refl)

pub ruleset cutting = (cuts_not, cuts_none, cuts_some)

-- ---- signs

module _ (rules : Rules) (f : N.Fam) (expr ts : List Token) (u : ℕ) {k : Bool} (ek : k ≡ any (is Keyword) (take 1 expr)) where
  pub sign_plain : k ≡ false → false ≡ sign_lost rules f expr ts u
  unfolding sign_lost ◌and◌
  sign_plain h = rw (← ek, h) refl

  module _ (t : k ≡ true) {x : Bool} {b : Text} (eb : b ≡ text_before ts u) (ex : x ≡ (b ≟ bytes "(unsigned)")) where
    pub sign_cast : x ≡ true → false ≡ sign_lost rules f expr ts u
    unfolding sign_lost ◌and◌ not
    sign_cast h = rw (← ek, t, ← eb, ← ex, h) refl

    module _ (n : x ≡ false) {y : Bool} (ey : y ≡ is_signed b) where
      signed_by : sign_lost rules f expr ts u ≡ (is_signed b or is_signed (text_after ts u))
      unfolding sign_lost ◌and◌ not is_signed
      signed_by = rw (← ek, t, ← eb, ← ex, n) (any_append (λ c. contains (bytes "<>/%") c) b (text_after ts u))

      pub sign_before : y ≡ true → true ≡ sign_lost rules f expr ts u
      sign_before h = sym (signed_by ∙ or_true _ (sym ey ∙ h))

      pub sign_behind : y ≡ false → {s : Text} {z : Bool} → s ≡ text_after ts u → z ≡ is_signed s → z ≡ sign_lost rules f expr ts u
      sign_behind h es ez = ez ∙ ap is_signed es ∙ sym (signed_by ∙ or_false _ (sym ey ∙ h))

pub ruleset signs = (sign_plain, sign_cast, sign_before, sign_behind)

-- ---- the number in front

module _ (tape area : Text) (ws : List ℕ) (edition : ℕ) where
  pub first_none : length ws ≡ 0 → none ≡ first_number edition (tokens_of tape area ws)
  unfolding first_number let_some◌else◌then◌
  first_none h = by ws h
    where
      by : (ws : List ℕ) → length ws ≡ 0 → none ≡ (let_some (get (tokens_of tape area ws) 0) else none then λ t. read_number edition t.text)
      by [] h = refl
      by (w ∷ ws) h = absurd (omega arith)

  pub first_some : (length ws ≡ 0 → ⊥) → {s : Text} → s ≡ text_of tape area (get_or ws 0 0) → {r : Option ℤ} → r ≡ read_number edition s → r ≡ first_number edition (tokens_of tape area ws)
  unfolding first_number let_some◌else◌then◌
  first_some h es er = let l : 0 < length ws = omega (arith, h) in rw (get_at (token_of tape area) ws 0 l) (er ∙ ap (read_number edition) es)

pub ruleset firsts = (first_none, first_some)

-- ---- a number that fits

module _ (w : ℕ × ℕ) (n : ℤ) {x : Bool} (ex : x ≡ (eqb w.0 64 and eqb w.1 64)) where
  pub fits_full : x ≡ true → true ≡ fits_widths w n
  unfolding fits_widths ◌or◌
  fits_full h = rw (← ex, h) refl

  module _ (f : x ≡ false) {a : ℕ} (ea : a ≡ w.0) where
    pub fits_small : a < 32 → false ≡ fits_widths w n
    unfolding fits_widths ◌or◌ ◌and◌
    fits_small h = rw (← ex, f, ← ea, lt-leb 32 a h) refl

    pub fits_least : 32 ≤ a → {m : ℕ} → m ≡ min w.0 w.1 → {y : Bool} → y ≡ fits m n → y ≡ fits_widths w n
    unfolding fits_widths ◌or◌ ◌and◌
    fits_least h em ey = ey ∙ ap (λ k. fits k n) em ∙ sym (rw (← ex, f, ← ea, le-leb 32 a h) refl)

pub ruleset fitting = (fits_full, fits_small, fits_least)

first_of : (rules : Rules) (f : N.Fam) (expr ts : List Token) (u : ℕ)
    → number_fits rules f expr ts u
    ≡ (let_some (first_number rules.edition expr) else false then λ n. not (beside_narrower rules f expr ts u) and fits_widths (widths rules f expr ts u) n)
unfolding number_fits first_number fits_widths let_some◌else◌then◌
first_of rules f expr ts u = go (get expr 0)
  where
    go : (o : Option Token)
        → (let_some o else false then λ t. let_some (read_number rules.edition t.text) else false then λ n.
        not (beside_narrower rules f expr ts u) and fits_widths (widths rules f expr ts u) n)
        ≡ (let_some (let_some o else none then λ t. read_number rules.edition t.text) else false then λ n.
        not (beside_narrower rules f expr ts u) and fits_widths (widths rules f expr ts u) n)
    go none = refl
    go (some t) = refl

module _ (rules : Rules) (f : N.Fam) (expr ts : List Token) (u : ℕ) {r : std.Option ℤ} (er : option_of r ≡ first_number rules.edition expr) where
  pub number_none : r ≡ None → false ≡ number_fits rules f expr ts u
  unfolding let_some◌else◌then◌
  number_none h = sym (first_of rules f expr ts u ∙ rw (← er, h) refl)

  module _ {n : ℤ} (h : r ≡ Some n) {x : Bool} (ex : x ≡ beside_narrower rules f expr ts u) where
    pub number_narrower : x ≡ true → false ≡ number_fits rules f expr ts u
    unfolding let_some◌else◌then◌ ◌and◌ not
    number_narrower t = sym (first_of rules f expr ts u ∙ rw (← er, h, ← ex, t) refl)

    pub number_kept : x ≡ false → {y : Bool} → y ≡ fits_widths (widths rules f expr ts u) n → y ≡ number_fits rules f expr ts u
    unfolding let_some◌else◌then◌ ◌and◌ not
    number_kept t ey = ey ∙ sym (first_of rules f expr ts u ∙ rw (← er, h, ← ex, t) refl)

pub ruleset numbers = (number_none, number_narrower, number_kept)

-- ---- a call's value

pub result_known : (tape area : Text) → Known tape area 0
result_known tape area = record { points = λ h. absurd (omega (arith, h)); no_row = λ h. absurd (omega (arith, h)) }

pub result_is : (tape area s : Text) {x : Bool} → x ≡ (s ≟ fam_text tape area 0) → x ≡ (s ≟ bytes "rax")
unfolding fam_text when◌then◌else◌
result_is tape area s e = e

pub ruleset results = (result_known, result_is)

module _ (rules : Rules) (f : N.Fam) (expr ts : List Token) (u : ℕ) {a : ℕ} (ea : a ≡ (widths rules f expr ts u).0) where
  pub call_full : a ≡ full rules.convention → true ≡ call_kept rules f expr ts u
  unfolding call_kept ◌or◌
  call_full h = rw (← ea, eq-eqb a (full rules.convention) h) refl

  module _ (n : a ≡ full rules.convention → ⊥) where
    pub call_narrow : a < 32 → false ≡ call_kept rules f expr ts u
    unfolding call_kept ◌or◌ ◌and◌
    call_narrow h = rw (← ea, ne_eqb a (full rules.convention) n, lt-leb 32 a h) refl

    pub call_result : 32 ≤ a → {x : Bool} → x ≡ (f.name ≟ bytes "rax") → x ≡ call_kept rules f expr ts u
    unfolding call_kept ◌or◌ ◌and◌
    call_result h e = rw (← ea, ne_eqb a (full rules.convention) n, le-leb 32 a h) e

pub ruleset calls = (call_full, call_narrow, call_result)

-- ---- its own width

module _ (own : ℕ) (expr : List Token) where
  pub computed_wide : own ≡ 64 → true ≡ is_computed own expr
  unfolding is_computed ◌or◌
  computed_wide h = rw (eq-eqb own 64 h) refl

  module _ (n : own ≡ 64 → ⊥) {p : Bool} (ep : p ≡ is_plain expr) where
    pub computed_plain : p ≡ true → true ≡ is_computed own expr
    unfolding is_computed ◌or◌
    computed_plain h = rw (ne_eqb own 64 n, ← ep, h) refl

    module _ (m : p ≡ false) where
      pub computed_other : (own ≡ 32 → ⊥) → false ≡ is_computed own expr
      unfolding is_computed ◌or◌ ◌and◌
      computed_other h = rw (ne_eqb own 64 n, ← ep, m, ne_eqb own 32 h) refl

      pub computed_int : own ≡ 32 → {x : Bool} → x ≡ any is_wild expr → flip x ≡ is_computed own expr
      unfolding is_computed ◌or◌ ◌and◌ not
      computed_int h {x} e = rw (ne_eqb own 64 n, ← ep, m, eq-eqb own 32 h, ← e) (by x)
        where
          by : (b : Bool) → flip b ≡ not b
          by true = refl
          by false = refl

pub ruleset computing = (computed_wide, computed_plain, computed_other, computed_int)

module _ (rules : Rules) (f : N.Fam) (expr ts : List Token) (u : ℕ) where
  module _ {a o : ℕ} (ea : a ≡ (widths rules f expr ts u).0) (eo : o ≡ natural rules.convention expr) where
    pub own_other : (o ≡ a → ⊥) → false ≡ own_kept rules f expr ts u
    unfolding own_kept ◌and◌
    own_other h = rw (← ea, ← eo, ne_eqb o a h) refl

    pub own_same : o ≡ a → {x : Bool} → x ≡ is_computed o expr → x ≡ own_kept rules f expr ts u
    unfolding own_kept ◌and◌
    own_same h e = rw (← ea, ← eo, eq-eqb o a h) e

  module _ {a b : ℕ} (ea : a ≡ (widths rules f expr ts u).0) (eb : b ≡ (widths rules f expr ts u).1) where
    pub value_widened : (a ≡ b → ⊥) → {x : Bool} → x ≡ widens rules f expr ts u → x ≡ value_kept rules f expr ts u
    unfolding value_kept when◌then◌else◌ not
    value_widened h e = rw (← ea, ← eb, ne_eqb a b h) e

    module _ (h : a ≡ b) {c : Bool} (ec : c ≡ lone_call expr) where
      pub value_called : c ≡ true → {x : Bool} → x ≡ call_kept rules f expr ts u → x ≡ value_kept rules f expr ts u
      unfolding value_kept when◌then◌else◌ not
      value_called t e = rw (← ea, ← eb, eq-eqb a b h, ← ec, t) e

      pub value_own : c ≡ false → {x : Bool} → x ≡ own_kept rules f expr ts u → x ≡ value_kept rules f expr ts u
      unfolding value_kept when◌then◌else◌ not
      value_own t e = rw (← ea, ← eb, eq-eqb a b h, ← ec, t) e

  module _ {l : Bool} (el : l ≡ lone_number expr) where
    pub kept_number : l ≡ true → {x : Bool} → x ≡ number_fits rules f expr ts u → x ≡ width_kept rules f expr ts u
    unfolding width_kept when◌then◌else◌
    kept_number t e = rw (← el, t) e

    module _ (n : l ≡ false) {t : Bool} (et : t ≡ is_truth expr) where
      pub kept_truth : t ≡ true → {x : Bool} → x ≡ is_whole (text_before ts u) (text_after ts u) → x ≡ width_kept rules f expr ts u
      unfolding width_kept when◌then◌else◌
      kept_truth h e = rw (← el, n, ← et, h) e

      pub kept_value : t ≡ false → {x : Bool} → x ≡ value_kept rules f expr ts u → x ≡ width_kept rules f expr ts u
      unfolding width_kept value_kept widens call_kept own_kept is_computed when◌then◌else◌
      kept_value h e = rw (← el, n, ← et, h) e

  pub width_part : (f.lowest ≡ use_lowest ts u → ⊥) → true ≡ changes_width rules f expr ts u
  unfolding changes_width ◌or◌ not
  width_part h = rw (ne_eqb f.lowest (use_lowest ts u) h) refl

  module _ (h : f.lowest ≡ use_lowest ts u) {s : Bool} (es : s ≡ sign_lost rules f expr ts u) where
    pub width_signed : s ≡ true → true ≡ changes_width rules f expr ts u
    unfolding changes_width ◌or◌ not
    width_signed t = rw (eq-eqb f.lowest (use_lowest ts u) h, ← es, t) refl

    module _ (n : s ≡ false) {c : Bool} (ec : c ≡ target_cuts rules f expr ts u) where
      pub width_cut : c ≡ true → false ≡ changes_width rules f expr ts u
      unfolding changes_width ◌or◌ not
      width_cut t = rw (eq-eqb f.lowest (use_lowest ts u) h, ← es, n, ← ec, t) refl

      pub width_same : c ≡ false → {x : Bool} → x ≡ width_kept rules f expr ts u → flip x ≡ changes_width rules f expr ts u
      unfolding changes_width ◌or◌ not
      width_same t {x} e = rw (eq-eqb f.lowest (use_lowest ts u) h, ← es, n, ← ec, t, ← e) (by x)
        where
          by : (b : Bool) → flip b ≡ not b
          by true = refl
          by false = refl

pub ruleset owning = (own_other, own_same)

pub ruleset other = (value_widened, value_called, value_own)

pub ruleset kept = (kept_number, kept_truth, kept_value)

pub ruleset changing = (width_part, width_signed, width_cut, width_same)

module _ (tape area : Text) (ws : List ℕ) where
  pub lone_one : length ws ≡ 1 → {k : ℕ} → k ≡ kind_of (get_or ws 0 0) → eqb k Number ≡ lone_number (tokens_of tape area ws)
  unfolding is lone_number
  lone_one h e = by ws h e
    where
      by : (ws : List ℕ) → length ws ≡ 1 → {k : ℕ} → k ≡ kind_of (get_or ws 0 0) → eqb k Number ≡ lone_number (tokens_of tape area ws)
      by [] h e = absurd (omega arith)
      by (w ∷ []) h e = rw e refl
      by (w ∷ v ∷ ws) h e = absurd (omega arith)

  pub lone_not : (length ws ≡ 1 → ⊥) → false ≡ lone_number (tokens_of tape area ws)
  unfolding lone_number
  lone_not h = by ws h
    where
      by : (ws : List ℕ) → (length ws ≡ 1 → ⊥) → false ≡ lone_number (tokens_of tape area ws)
      by [] h = refl
      by (w ∷ []) h = absurd (h refl)
      by (w ∷ v ∷ ws) h = refl

pub ruleset lone = (lone_one, lone_not)
