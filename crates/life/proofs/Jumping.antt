-- Jumps: the name that a label line has, and what a `while` and a `goto` say. Assumes nothing.
use Prim.Native.Nat.{ℕ, ◌+◌, ◌≤◌, ◌<◌}
use native.Mathlib.Numerals.{add-one}
use native.Mathlib.Omega.{arith}
use mathlib.Core.Path.{◌≡◌, refl, sym, ap, ◌∙◌}
use mathlib.Core.Bool.{Bool, true, false, false≢true}
use mathlib.Core.List.{List, [], ◌∷◌}
use mathlib.Core.Option.{none, some}
use lib.Dec.{leb, ltb}
use lib.ListN.{length, get_or, take, drop, length-map}
use borrow.Author.Tests.{le-leb, lt-leb, lt-ltb, le-ltb, eq-eqb, ne_eqb}
use Rattle.reference.specs.Control.{not, ◌and◌, when◌then◌else◌, let_some◌else◌then◌}
use Rattle.reference.specs.Lists.{position, last_position, find, get}
use Rattle.reference.specs.Text.{Text, bytes}
use Rattle.reference.specs.Listing.{is, Symbol, Line, Listing, ◌at◌}
use Rattle.reference.specs.Shapes.{is_kw, kw_in, is_label, label_tokens}
use Rattle.reference.specs.Join.{text_or_empty}
use Rattle.reference.specs.Life.{Labels, lookup, touch_of, is_use, is_do, goto_target, rerun_kills, while_passes, goto_passes}
use Rattle.laws.proofs.Scans.{if-true, if-false}
use Rattle.joining.specs.Places.{label_at, Labelled}
use Rattle.joining.proofs.Labels.{label_inside}
use Rattle.lines.specs.Words.{text_of, token_of, tokens_of, Holds}
use Rattle.lines.specs.Lines.{indent_of, part_of, bare_in, bare_listing, Lined}
use Rattle.lines.specs.Shapes.{symbol_from}
use Rattle.lines.proofs.words.Each.{map-take}
use Rattle.lines.proofs.words.Lines.{bare_at}
use Rattle.lines.proofs.shapes.Places.{found_is, found-not, find_at, symbol_at, symbol_fromone}
use Rattle.life.specs.Jumps.{jump}
use Rattle.std.specs.Prelude as std
use Rattle.std.specs.Prelude.{Some, None}
use Rattle.reference.specs.Options.{option_of}

-- ---- `do`

module _ (tape area : Text) (tokens : List ℕ) (l indent : ℕ) {k : ℕ} (ek : k ≡ indent_of l) where
  pub do_other : (k ≡ indent → ⊥) → false ≡ is_do indent (bare_in tape area tokens l)
  unfolding is_do ◌and◌
  do_other n = rw (← ek, ne_eqb k indent n)

  pub do_here : {x : Bool} {ws : List ℕ} → k ≡ indent → ws ≡ part_of tokens l → x ≡ kw_in (tokens_of tape area ws) (bytes "do")
      → x ≡ is_do indent (bare_in tape area tokens l)
  unfolding is_do ◌and◌
  do_here h ew e = rw (← ek, eq-eqb k indent h, ← ew) e

-- ---- a label's name

label-long : (tape area : Text) (ws : List ℕ) → label_tokens (tokens_of tape area ws) ≡ true → 0 < length ws
unfolding label_tokens
label-long tape area [] e = absurd (false≢true e)
label-long tape area (w ∷ ws) e = omega arith

first_text : (tape area : Text) (ws : List ℕ) → 0 < length ws → text_or_empty (get (tokens_of tape area ws) 0) ≡ text_of tape area (get_or ws 0 0)
unfolding let_some◌else◌then◌
first_text tape area [] h = absurd (omega arith)
first_text tape area (w ∷ ws) h = refl

module _ (tape area : Text) (tokens lines places : List ℕ) (ok : Labelled (bare_listing tape area tokens lines) places) where
  -- p is the line of label k
  module _ (k : ℕ) (h : k < length places) {p : ℕ} (ep : p ≡ get_or places k 0) where
    labelled : is_label (bare_listing tape area tokens lines at p) ≡ true
    labelled = rw ep (ok k h)

    pub place_inside : p < length lines
    place_inside = rw (length-map lines (bare_in tape area tokens)) at (label_inside (bare_listing tape area tokens lines) p labelled)

    at_place : bare_listing tape area tokens lines at p ≡ bare_in tape area tokens (get_or lines p 0)
    at_place = bare_at tape area tokens [] lines p place_inside

    pub place_long : 0 < length (part_of tokens (get_or lines p 0))
    place_long = label-long tape area (part_of tokens (get_or lines p 0)) (ap is_label (sym at_place) ∙ labelled)

    pub name_is : (label_at (bare_listing tape area tokens lines) p).name ≡ text_of tape area (get_or (part_of tokens (get_or lines p 0)) 0 0)
    name_is = ap (λ (l : Line). text_or_empty (get l.tokens 0)) at_place ∙ first_text tape area (part_of tokens (get_or lines p 0)) place_long

-- ---- where a `goto` jumps to

-- ws are the words of a line as it is read
pub lined-holds : {tape area : Text} {tokens : List ℕ} {l : ℕ} → Lined tape area tokens l → {ws : List ℕ} → ws ≡ part_of tokens l → Holds tape area ws
lined-holds h e = rw e h.holds

pub goto_inside : (tape area : Text) (ws : List ℕ) {r : std.Option ℕ} {g : ℕ} → option_of r ≡ position (is_kw (bytes "goto")) (tokens_of tape area ws) → r ≡ Some g → g < length ws
goto_inside tape area ws {g = g} er e =
    let b = (find_at (is_kw (bytes "goto")) (tokens_of tape area ws) g (token_of tape area 0) (found_is er e)).0 in
    rw (length-map ws (token_of tape area)) at b

pub symbol-inside : (tape area : Text) (ws : List ℕ) (n : ℕ) {s : ℕ} {q : std.Option ℕ} → option_of q ≡ symbol_from (tokens_of tape area ws) n → q ≡ Some s → s < length ws
symbol-inside tape area ws n {s} eq f = (symbol_at tape area ws n s (found_is eq f)).0

module _ (tape area : Text) (labels : Labels) (line : List ℕ) {ws : List ℕ} (ew : ws ≡ line)
    (r : std.Option ℕ) (er : option_of r ≡ position (is_kw (bytes "goto")) (tokens_of tape area ws)) where
  pub target-stays : r ≡ None → none ≡ goto_target (tokens_of tape area line) labels
  unfolding goto_target let_some◌else◌then◌
  target-stays e = rw (← ew, found-not er e)

  module _ {g : ℕ} (e : r ≡ Some g) where
    at_goto : goto_target (tokens_of tape area line) labels
        ≡ some (let_some (find (is Symbol) (drop (g + 1) (tokens_of tape area ws))) else none then λ t. lookup labels t.text)
    unfolding goto_target let_some◌else◌then◌
    at_goto = rw (← ew, found_is er e, add-one g)

    module _ (q : std.Option ℕ) (eq : option_of q ≡ symbol_from (tokens_of tape area ws) (g + 1)) where
      pub target_none : q ≡ None → some none ≡ goto_target (tokens_of tape area line) labels
      unfolding let_some◌else◌then◌
      target_none f = sym (at_goto ∙ rw (symbol_fromone tape area ws (g + 1) (found-not eq f)))

      module _ {s : ℕ} (f : q ≡ Some s) where
        at_symbol : goto_target (tokens_of tape area line) labels ≡ some (lookup labels (text_of tape area (get_or ws s 0)))
        unfolding let_some◌else◌then◌
        at_symbol = at_goto ∙ rw (symbol_at tape area ws (g + 1) s (found_is eq f)).1

        pub target_label : (t : std.Option ℕ) → option_of t ≡ lookup labels (text_of tape area (get_or ws s 0)) → some (option_of t) ≡ goto_target (tokens_of tape area line) labels
        target_label t et = ap some et ∙ sym at_symbol

-- ---- whether the scan goes on

unless : (a b : Bool) → not (a and not b) ≡ (when a then b else true)
unfolding not ◌and◌ when◌then◌else◌
unless true true = refl
unless true false = refl
unless false b = refl

module _ (lines : List ℕ) (tape area : Text) (tokens : List ℕ) (fam : Text) (start : ℕ) (vs : List Text) where
  abbrev listing : Listing
  listing = bare_listing tape area tokens lines

  module _ (labels : Labels) (l : ℕ) (r : std.Option (std.Option ℕ)) (er : jump r ≡ goto_target (tokens_of tape area (part_of tokens l)) labels) where
    abbrev goes : Bool
    goes = goto_passes listing fam start vs labels (bare_in tape area tokens l)

    pub passes-stays : r ≡ None → true ≡ goes
    unfolding goto_passes let_some◌else◌then◌
    passes-stays e = rw (← er, e)

    pub passes_unknown : r ≡ Some None → false ≡ goes
    unfolding goto_passes let_some◌else◌then◌
    passes_unknown e = rw (← er, e)

    module _ {q : std.Option ℕ} {to : ℕ} (f : r ≡ Some q) (g : q ≡ Some to) where
      at_target : goes ≡ (when leb to start then rerun_kills listing fam start vs to (listing at to).indent else true)
      unfolding goto_passes let_some◌else◌then◌
      at_target = rw (← er, f, g) (unless (leb to start) (rerun_kills listing fam start vs to (listing at to).indent))

      pub passes_on : start < to → true ≡ goes
      passes_on h = sym (at_target ∙ if-false _ _ (lt-leb to start h))

      pub passes-back : {k : ℕ} {x : Bool} → to ≤ start → start < length lines → k ≡ indent_of (get_or lines to 0)
          → x ≡ rerun_kills listing fam start vs to k → x ≡ goes
      passes-back {k} h b ek ex =
          let i : k ≡ (listing at to).indent = ek ∙ ap (λ (m : Line). m.indent) (sym (bare_at tape area tokens [] lines to (omega arith))) in
          ex ∙ rw i (sym (at_target ∙ if-true _ _ (le-leb to start h)))

  module _ (w l : ℕ) {ws : List ℕ} (ew : ws ≡ part_of tokens l) {x : Bool} (ex : x ≡ is_use (touch_of (tokens_of tape area ws) fam vs)) where
    abbrev loops : Bool
    loops = while_passes listing fam start vs w (bare_in tape area tokens l)

    pub loop_uses : x ≡ true → false ≡ loops
    unfolding while_passes when◌then◌else◌
    loop_uses t = rw (← ew, ← ex, t)

    module _ (t : x ≡ false) {k : ℕ} (ek : k ≡ indent_of l) (r : std.Option ℕ) (er : option_of r ≡ last_position (is_do k) (bare_listing tape area tokens (take w lines))) where
      at_do : loops ≡ (let_some (option_of r) else false then λ d. not (ltb d start and not (rerun_kills listing fam start vs d k)))
      unfolding while_passes when◌then◌else◌
      at_do = rw (← ew, ← ex, t, ← ek, ← map-take (bare_in tape area tokens) w lines, ← er)

      pub loop_none : r ≡ None → false ≡ loops
      unfolding let_some◌else◌then◌
      loop_none e = sym (at_do ∙ rw e)

      module _ {d : ℕ} (e : r ≡ Some d) where
        at_head : loops ≡ (when ltb d start then rerun_kills listing fam start vs d k else true)
        unfolding let_some◌else◌then◌
        at_head = at_do ∙ rw e (unless (ltb d start) (rerun_kills listing fam start vs d k))

        pub loop-after : start ≤ d → true ≡ loops
        loop-after h = sym (at_head ∙ if-false _ _ (le-ltb d start h))

        pub loop_around : {y : Bool} → d < start → y ≡ rerun_kills listing fam start vs d k → y ≡ loops
        loop_around h ey = ey ∙ sym (at_head ∙ if-true _ _ (lt-ltb d start h))
