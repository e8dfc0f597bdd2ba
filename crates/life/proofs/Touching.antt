-- `kills` and `touch_of`, by the code's tests. Assumes nothing.
use Prim.Native.Nat.{ℕ, ◌≤◌, ◌<◌}
use native.Mathlib.Omega.{arith}
use mathlib.Core.Path.{◌≡◌, refl, sym, ◌∙◌}
use mathlib.Core.Bool.{Bool, true, false, not as flip}
use mathlib.Core.List.{List, [], ◌∷◌}
use lib.Dec.{leb}
use lib.ListN.{length, get_or}
use borrow.Author.Tests.{lt-ltb, le-ltb, le-leb, lt-leb}
use Rattle.reference.specs.Control.{not, ◌and◌, when◌then◌else◌, let_some◌else◌then◌}
use Rattle.reference.specs.Lists.{any, count, is_some}
use Rattle.reference.specs.Text.{Text, has, ◌≟◌}
use Rattle.reference.specs.Listing.{Token}
use Rattle.reference.specs.Names.{family, of_family}
use Rattle.reference.specs.Shapes.{call_in}
use Rattle.reference.specs.Life.{Touch, None, Kill, Use, kills, touch_of, match_touch, is_use, is_kill}
use Rattle.laws.proofs.Scans.{and_here, and_second, not_same}
use Rattle.lines.specs.Words.{text_of, token_of, tokens_of}
use Rattle.lines.specs.Shapes.{expr_words, Assigns}
use Rattle.lines.specs.Fams.{Fam, fam_text, Names}
use Rattle.lines.specs.declared.shapes.Expr.{Expr}
use Rattle.lines.specs.declared.fams.Named.{Named}
use Rattle.lines.proofs.shapes.Sides.{assigned_to, assigned-not}
use Rattle.lines.proofs.fams.Families.{named_as, named-not}
use Rattle.linefacts.proofs.Lacking.{kills-empty, kills-other}
use Rattle.life.specs.declared.touches.Touched.{Touched}
use Rattle.life.specs.declared.touches.Touched.TheVariants.{Nothing, Kill as Kills, Use as Uses}
use Rattle.life.specs.Touches.{touched, kills_by}
use Rattle.std.specs.Prelude as std
use Rattle.std.specs.Prelude.{Some, MatchOption}

-- ---- `kills`

module _ (tape area : Text) (ws : List ℕ) (fam : Text) {r : std.Option Expr} (h : Assigns tape area ws r) where
  pub kills_none : r ≡ std.None → false ≡ kills (tokens_of tape area ws) fam
  unfolding kills let_some◌else◌then◌
  kills_none e = rw (assigned-not h e)

  pub kills_to : {x : Expr} {b : Bool} → r ≡ Some x → b ≡ kills_by tape area ws x fam → b ≡ kills (tokens_of tape area ws) fam
  unfolding kills kills_by let_some◌else◌then◌
  kills_to e eb = eb ∙ rw (assigned_to h e)

-- by the first token, where there is one: x is whether it is of the family
pub kills-no_token : (tape area : Text) (ws : List ℕ) (fam : Text) → length ws < 1 → false ≡ kills (tokens_of tape area ws) fam
kills-no_token tape area [] fam h = sym (kills-empty fam)
kills-no_token tape area (w ∷ ws) fam h = absurd (omega arith)

pub kills-first : (tape area : Text) (ws : List ℕ) (fam : Text) {x : Bool} → 1 ≤ length ws → x ≡ of_family fam (token_of tape area (get_or ws 0 0)) → x ≡ false
    → false ≡ kills (tokens_of tape area ws) fam
kills-first tape area [] fam h ex f = absurd (omega arith)
kills-first tape area (w ∷ ws) fam h ex f = sym (kills-other (token_of tape area w) (tokens_of tape area ws) fam (sym ex ∙ f))

module _ (tape area : Text) (ws : List ℕ) (x : Expr) (fam : Text) {r : std.Option Named} (h : Names tape area (family (text_of tape area (get_or ws 0 0))) r) where
  pub by_none : r ≡ std.None → false ≡ kills_by tape area ws x fam
  unfolding kills_by let_some◌else◌then◌
  by_none e = rw (named-not h e)

  module _ {g : Fam} {k m : ℕ} (e : r ≡ Some (record { family = g; width = k; lowest = m })) where
    by_name : kills_by tape area ws x fam
        ≡ ((fam_text tape area g ≟ fam) and leb 32 k and not (any (of_family fam) (tokens_of tape area (expr_words ws x))))
    unfolding kills_by let_some◌else◌then◌
    by_name = rw (named_as h e)

    pub by_narrow : k < 32 → false ≡ kills_by tape area ws x fam
    unfolding ◌and◌
    by_narrow w = go (fam_text tape area g ≟ fam) (not (any (of_family fam) (tokens_of tape area (expr_words ws x)))) ∙ sym by_name
      where
        go : (b c : Bool) → false ≡ (b and leb 32 k and c)
        go true c = rw (lt-leb 32 k w)
        go false c = refl

    pub by_other : {b : Bool} → b ≡ (fam_text tape area g ≟ fam) → b ≡ false → false ≡ kills_by tape area ws x fam
    by_other eb f = and_here _ eb f ∙ sym by_name

    pub by_right : {b y : Bool} → b ≡ (fam_text tape area g ≟ fam) → b ≡ true → 32 ≤ k → y ≡ any (of_family fam) (tokens_of tape area (expr_words ws x)) → flip y ≡ kills_by tape area ws x fam
    by_right eb t w ey = and_second eb t (and_second (sym (le-leb 32 k w)) refl (not_same ey)) ∙ sym by_name

-- ---- `touch_of`

module _ (ts : List Token) (fam : Text) (vs : List Text) {x : Bool} (ex : x ≡ kills ts fam) where
  pub touch_kill : x ≡ true → Kill ≡ touch_of ts fam vs
  unfolding touch_of when◌then◌else◌
  touch_kill t = rw (← ex, t)

  module _ (fx : x ≡ false) {n : ℕ} (en : n ≡ count (of_family fam) ts) where
    pub touch_use : 0 < n → Use n ≡ touch_of ts fam vs
    unfolding touch_of when◌then◌else◌
    touch_use h = rw (← ex, fx, ← en, lt-ltb 0 n h)

    module _ (zn : n ≤ 0) {c : Bool} (ec : c ≡ is_some (call_in ts)) where
      pub touch_plain : c ≡ false → None ≡ touch_of ts fam vs
      unfolding touch_of when◌then◌else◌ ◌and◌
      touch_plain f = rw (← ex, fx, ← en, le-ltb 0 n zn, ← ec, f)

      module _ (tc : c ≡ true) {v : Bool} (ev : v ≡ has vs fam) where
        pub touch-call : v ≡ true → Kill ≡ touch_of ts fam vs
        unfolding touch_of when◌then◌else◌ ◌and◌
        touch-call t = rw (← ex, fx, ← en, le-ltb 0 n zn, ← ec, tc, ← ev, t)

        pub touch-kept : v ≡ false → None ≡ touch_of ts fam vs
        unfolding touch_of when◌then◌else◌ ◌and◌
        touch-kept f = rw (← ex, fx, ← en, le-ltb 0 n zn, ← ec, tc, ← ev, f)

pub ruleset touching = (touch_kill, touch_use, touch_plain, touch-call, touch-kept)

-- ---- what a touch is

module _ (r : Touched) {t : Touch} (h : touched r ≡ t) where
  pub use_use : {n : ℕ} → r ≡ Uses n → true ≡ is_use t
  unfolding match_touch
  use_use e = rw (← h, e)

  pub kill_kill : r ≡ Kills → true ≡ is_kill t
  unfolding match_touch
  kill_kill e = rw (← h, e)

pub use_not : (r : Touched) {t : Touch} → touched r ≡ t → ((n : ℕ) → r ≡ Uses n → ⊥) → false ≡ is_use t
unfolding match_touch
use_not Nothing h n = rw (← h)
use_not Kills h n = rw (← h)
use_not (Uses k) h n = absurd (n k refl)

pub kill_not : (r : Touched) {t : Touch} → touched r ≡ t → (r ≡ Kills → ⊥) → false ≡ is_kill t
unfolding match_touch
kill_not Nothing h n = rw (← h)
kill_not Kills h n = absurd (n refl)
kill_not (Uses k) h n = rw (← h)
