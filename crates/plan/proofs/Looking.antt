-- The search for a single use: the cases in which `same_run`, `leaves_inputs` and `look_at` return, and the turns of `use_of`. Assumes nothing.
use Prim.Native.Nat.{ℕ, ◌+◌, ◌≤◌, ◌<◌}
use native.Mathlib.Numerals.{add-one}
use mathlib.Core.Path.{◌≡◌, sym, ◌∙◌}
use mathlib.Core.Bool.{Bool, true, false}
use mathlib.Core.List.{List}
use mathlib.Core.Option.{Option, none, some}
use lib.ListN.{length, get_or, drop}
use borrow.Author.Tests.{eq-eqb, ne_eqb}
use Rattle.reference.specs.Control.{not, ◌and◌, when◌then◌else◌, let_some◌else◌then◌}
use Rattle.reference.specs.Lists.{any}
use Rattle.reference.specs.Text.{Text, bytes, starts_with}
use Rattle.reference.specs.Listing.{Token, ◌at◌}
use Rattle.reference.specs.Names.{family, of_family}
use Rattle.reference.specs.Shapes.{label_tokens}
use Rattle.reference.specs.Life.{touch_of, match_touch}
use Rattle.reference.specs.Join.{reads_memory, harmless, use_from}
use Rattle.joining.specs.Plan as J
use Rattle.joining.specs.Plan.{look, use_of}
use Rattle.joining.proofs.Looking.{mentions, use_here, use_later, use_stops, use_end}
use Rattle.lines.specs.Words.{text_of, tokens_of}
use Rattle.lines.specs.Lines.{indent_of, part_of, bare_in, bare_listing}
use Rattle.lines.specs.Shapes.{expr_words, Assigns}
use Rattle.lines.specs.Fams.{fam_text, Names}
use Rattle.lines.specs.declared.fams.Named.{Named}
use Rattle.lines.specs.declared.shapes.Expr.{Expr}
use Rattle.lines.proofs.shapes.Sides.{assigned_to, assigned-not}
use Rattle.lines.proofs.fams.Families.{named_as, named-not}
use Rattle.life.specs.declared.touches.Touched.{Touched}
use Rattle.life.specs.declared.touches.Touched.TheVariants.{Nothing, Kill, Use as Uses}
use Rattle.life.specs.Touches.{touched}
use Rattle.plan.specs.declared.definitions.Definition.{Definition}
use Rattle.plan.specs.Definitions.{definition_in}
use Rattle.plan.specs.declared.uses.Look.{Look}
use Rattle.plan.specs.declared.uses.Look.TheVariants.{Use, Passes, Stops}
use Rattle.plan.specs.Uses.{looked, same_run, leaves_inputs}
use Rattle.plan.proofs.Reaching.{line_at, line_below, line_past}
use Rattle.std.specs.Prelude as std
use Rattle.std.specs.Prelude.{Some, None}

-- ---- what the right side reads

-- the right side `expr` of the definition; r is what the line assigns, n the name of its first token
module _ (tape area : Text) (expr : List Token) (ws : List ℕ) {r : std.Option Expr} (h : Assigns tape area ws r) where
  pub leaves_none : r ≡ None → false ≡ leaves_inputs expr (tokens_of tape area ws)
  unfolding leaves_inputs let_some◌else◌then◌
  leaves_none e = rw (assigned-not h e)

  module _ {x : Expr} (e : r ≡ Some x) {n : std.Option Named} (hn : Names tape area (family (text_of tape area (get_or ws 0 0))) n) where
    pub leaves_unnamed : n ≡ None → false ≡ leaves_inputs expr (tokens_of tape area ws)
    unfolding leaves_inputs let_some◌else◌then◌
    leaves_unnamed f = rw (assigned_to h e, named-not hn f)

    pub leaves_is : {m : Named} → n ≡ Some m
        → leaves_inputs expr (tokens_of tape area ws)
        ≡ (not (any (of_family (fam_text tape area m.family)) expr) and not (reads_memory expr and starts_with (text_of tape area (get_or ws 0 0)) (bytes "var_")))
    unfolding leaves_inputs let_some◌else◌then◌
    leaves_is {m} f = rw (assigned_to h e, named_as hn f, mentions expr (fam_text tape area m.family))

-- ---- one line

-- the definition d of the line s; a is whether the line l is a label, q how it touches the family
module _ (tape area : Text) (tokens : List ℕ) (s : ℕ) (d : Definition) (vs : List Text) (l : ℕ) {ws : List ℕ} (ew : ws ≡ part_of tokens l)
    {a : Bool} (ea : a ≡ label_tokens (tokens_of tape area ws)) where
  abbrev looks : J.Look
  looks = look (indent_of s) (definition_in tape area (part_of tokens s) d) vs (bare_in tape area tokens l)

  pub look-label : a ≡ true → J.stops ≡ looks
  unfolding look when◌then◌else◌
  look-label t = rw (← ew, ← ea, t)

  module _ (ta : a ≡ false) {q : Touched} (eq : touched q ≡ touch_of (tokens_of tape area ws) (fam_text tape area d.name.family) vs) where
    pub look_kill : q ≡ Kill → J.stops ≡ looks
    unfolding look when◌then◌else◌ match_touch
    look_kill e = rw (← ew, ← ea, ta, ← eq, e)

    module _ {n : ℕ} (e : q ≡ Uses n) where
      pub look-once : n ≡ 1 → J.found ≡ looks
      unfolding look when◌then◌else◌ match_touch
      look-once f = rw (← ew, ← ea, ta, ← eq, e, eq-eqb n 1 f)

      pub look_more : (n ≡ 1 → ⊥) → J.stops ≡ looks
      unfolding look when◌then◌else◌ match_touch
      look_more f = rw (← ew, ← ea, ta, ← eq, e, ne_eqb n 1 f)

    module _ (e : q ≡ Nothing) {i : ℕ} (ei : i ≡ indent_of s) {b : Bool} (eb : b ≡ same_run i d.calls (bare_in tape area tokens l)) where
      look-rest : looks ≡ (when b and leaves_inputs (tokens_of tape area (expr_words (part_of tokens s) d.expr)) (tokens_of tape area ws) then J.passes else J.stops)
      unfolding look when◌then◌else◌ match_touch harmless same_run leaves_inputs
      look-rest = rw (eb, ei, ← ew, ← ea, ta, ← eq, e)

      pub look_stop : b ≡ false → J.stops ≡ looks
      unfolding when◌then◌else◌ ◌and◌
      look_stop t = sym (look-rest ∙ rw t)

      module _ (tb : b ≡ true) {us : List ℕ} (eu : us ≡ part_of tokens s)
          {y : Bool} (ey : y ≡ leaves_inputs (tokens_of tape area (expr_words us d.expr)) (tokens_of tape area ws)) where
        pub look_pass : y ≡ true → J.passes ≡ looks
        unfolding when◌then◌else◌ ◌and◌
        look_pass t = sym (look-rest ∙ rw (tb, ← eu, ← ey, t))

        pub look-other : y ≡ false → J.stops ≡ looks
        unfolding when◌then◌else◌ ◌and◌
        look-other t = sym (look-rest ∙ rw (tb, ← eu, ← ey, t))

pub ruleset looking = (look-label, look_kill, look-once, look_more, look_stop, look_pass, look-other)

-- ---- the lines, one after the other

module _ (tape area : Text) (tokens lines : List ℕ) (i : ℕ) (d : J.Definition) (vs : List Text) where
  -- the single use, from line j on
  abbrev pub used-from : ℕ → Option ℕ
  used-from j =
      use_from (indent_of (get_or lines i 0)) d.fam.name d.expr d.calls vs j (drop j (bare_listing tape area tokens lines))

  pub used_begin : i < length lines → use_of (bare_listing tape area tokens lines) i d vs ≡ used-from (i + 1)
  unfolding use_of
  used_begin h = rw (add-one i, line_at tape area tokens lines i h)

  module _ (j : ℕ) (inv : use_of (bare_listing tape area tokens lines) i d vs ≡ used-from j) where
    module _ (h : j < length lines) {s : ℕ} (es : s ≡ get_or lines i 0) (q : Look)
        (eq : looked q ≡ look (indent_of s) d vs (bare_in tape area tokens (get_or lines j 0))) where
      told : {o : J.Look} → looked q ≡ o → look (indent_of (get_or lines i 0)) d vs (bare_listing tape area tokens lines at j) ≡ o
      told e = rw (line_at tape area tokens lines j h, ← es) (sym eq ∙ e)

      pub used_here : q ≡ Use → some j ≡ use_of (bare_listing tape area tokens lines) i d vs
      used_here e =
          sym (inv ∙ use_here (indent_of (get_or lines i 0)) d vs (bare_listing tape area tokens lines) j (line_below tape area tokens lines h) (told (rw e)))

      pub used-next : q ≡ Passes → use_of (bare_listing tape area tokens lines) i d vs ≡ used-from (j + 1)
      used-next e =
          inv ∙ use_later (indent_of (get_or lines i 0)) d vs (bare_listing tape area tokens lines) j (line_below tape area tokens lines h) (told (rw e))

      pub used-stops : q ≡ Stops → none ≡ use_of (bare_listing tape area tokens lines) i d vs
      used-stops e =
          sym (inv ∙ use_stops (indent_of (get_or lines i 0)) d vs (bare_listing tape area tokens lines) j (line_below tape area tokens lines h) (told (rw e)))

    pub used_end : length lines ≤ j → none ≡ use_of (bare_listing tape area tokens lines) i d vs
    used_end h = sym (inv ∙ use_end (indent_of (get_or lines i 0)) d vs (bare_listing tape area tokens lines) j (line_past tape area tokens lines h))

pub ruleset seeking = (used_begin, used_here, used-next, used-stops, used_end)
