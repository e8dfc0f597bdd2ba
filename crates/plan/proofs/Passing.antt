-- Lines that a search takes by their facts: a transparent one goes on with the run and touches nothing, a calling one does what calls do. Assumes nothing.
use Prim.Native.Nat.{ℕ}
use mathlib.Core.Path.{◌≡◌, refl, sym, ◌∙◌}
use mathlib.Core.Bool.{Bool, true, false}
use mathlib.Core.List.{List}
use lib.Dec.{eqb}
use borrow.Author.Tests.{eq-eqb, ne_eqb}
use Rattle.reference.specs.Control.{not, ◌or◌}
use Rattle.reference.specs.Text.{Text, bytes, has}
use Rattle.reference.specs.Life.{None, touch_of}
use Rattle.reference.specs.Join.{ends_run}
use Rattle.joining.specs.Plan as J
use Rattle.joining.specs.Plan.{reach_at, look}
use Rattle.lines.specs.Codes.{family_number}
use Rattle.lines.specs.Words.{tokens_of}
use Rattle.lines.specs.Lines.{indent_of, part_of, bare_in, Lined}
use Rattle.lines.specs.Shapes.{expr_words}
use Rattle.lines.specs.Fams.{fam_text}
use Rattle.linefacts.specs.Transparent.{is_transparent_save_calls, is_transparent, is_calling}
use Rattle.linefacts.proofs.Lacking.{save-calls_kw, save-calls_brace, save-calls-label, transparent_save_calls, transparent_call, transparent_touch, calling-save-calls, calling-call, calling-kills}
use Rattle.linefacts.proofs.Lacking.{calling_keeps}
use Rattle.life.specs.declared.touches.Touched.TheVariants.{Nothing, Kill as Kills}
use Rattle.plan.specs.declared.definitions.Definition.{Definition}
use Rattle.plan.specs.Reaches.{reach, reached}
use Rattle.plan.specs.declared.reaches.Reach.{Reach}
use Rattle.plan.specs.Definitions.{definition_in}
use Rattle.plan.specs.Uses.{same_run, leaves_inputs}
use Rattle.plan.proofs.Reaching.{reach_kill, reach_goes}
use Rattle.std.proofs.Common.{Continue, Break, inl}
use Rattle.plan.proofs.Looking.{look_kill, look_stop, look_pass, look-other}

-- ---- a constant's reach: k is the indent of the line

module _ {tape area : Text} {tokens : List ℕ} {l n : ℕ} (fam : Text) (h : Lined tape area tokens l) (en : n ≡ family_number fam) {k : ℕ} (ek : k ≡ indent_of l)
    {base : ℕ} (e : k ≡ base) (j : ℕ) (vs : List Text) (o : Reach) where
  -- a line that lacks the family and control flow
  runs_on : is_transparent_save_calls l n ≡ true → false ≡ ends_run base (bare_in tape area tokens l)
  unfolding ends_run ◌or◌ not
  runs_on st =
      rw (save-calls-label fam h en st, ← ek, eq-eqb k base e, save-calls_kw fam h en st (bytes "while"), save-calls_kw fam h en st (bytes "goto"))

  reach-on : is_transparent_save_calls l n ≡ true → touch_of (tokens_of tape area (part_of tokens l)) fam vs ≡ None
      → reach (Continue o) ≡ reach_at base fam vs j (bare_in tape area tokens l) (reached o)
  reach-on st f =
      reach_goes tape area tokens l j base fam vs o (runs_on st) refl refl {q = Nothing} (sym f) (inl (refl, refl)) (sym (save-calls_brace fam h en st)) refl

  -- x is the answer of `is_transparent`
  pub reach_transparent : {x : Bool} → x ≡ is_transparent l n → x ≡ true
      → reach (Continue o) ≡ reach_at base fam vs j (bare_in tape area tokens l) (reached o)
  reach_transparent ex t = reach-on (transparent_save_calls fam h en ex t) (transparent_touch fam h en ex t vs)

  -- x is the answer of `is_calling`, v whether calls overwrite the family
  module _ {x : Bool} (ex : x ≡ is_calling l n) (t : x ≡ true) {v : Bool} (ev : v ≡ has vs fam) where
    pub reach-calling : v ≡ true
        → reach (Break (record { used = o.used; last = j })) ≡ reach_at base fam vs j (bare_in tape area tokens l) (reached o)
    reach-calling f =
        reach_kill tape area tokens l j base fam vs o (runs_on (calling-save-calls fam h en ex t)) refl refl {q = Kills} (sym (calling-kills fam h en ex t vs ev f)) refl

    pub reach_keeping : v ≡ false → reach (Continue o) ≡ reach_at base fam vs j (bare_in tape area tokens l) (reached o)
    reach_keeping f = reach-on (calling-save-calls fam h en ex t) (calling_keeps fam h en ex t vs ev f)

-- ---- the search for a single use: the line l, for the family of the definition d of the line s; i is the indent of s

module _ {tape area : Text} {tokens : List ℕ} {l n : ℕ} (s : ℕ) (d : Definition) (vs : List Text) (h : Lined tape area tokens l)
    (en : n ≡ family_number (fam_text tape area d.name.family)) where
  abbrev fam : Text
  fam = fam_text tape area d.name.family

  abbrev looks : J.Look
  looks = look (indent_of s) (definition_in tape area (part_of tokens s) d) vs (bare_in tape area tokens l)

  stops : is_transparent_save_calls l n ≡ true → touch_of (tokens_of tape area (part_of tokens l)) fam vs ≡ None
      → false ≡ same_run (indent_of s) d.calls (bare_in tape area tokens l) → J.stops ≡ looks
  stops st f e = look_stop tape area tokens s d vs l refl (sym (save-calls-label fam h en st)) refl {q = Nothing} (sym f) refl refl e refl

  -- a calling line is not in the run, whether it overwrites the family or not: x is the answer of `is_calling`
  pub calling-stops : {x : Bool} → x ≡ is_calling l n → x ≡ true → J.stops ≡ looks
  unfolding same_run not ◌or◌
  calling-stops {x} ex t = by (has vs fam) refl
    where
      st : is_transparent_save_calls l n ≡ true
      st = calling-save-calls fam h en ex t

      apart : (b : Bool) → false ≡ not (b or true)
      apart true = refl
      apart false = refl

      by : (v : Bool) → v ≡ has vs fam → J.stops ≡ looks
      by true ev = look_kill tape area tokens s d vs l refl (sym (save-calls-label fam h en st)) refl {q = Kills} (sym (calling-kills fam h en ex t vs ev refl)) refl
      by false ev = stops st (calling_keeps fam h en ex t vs ev refl) (rw (save-calls_brace fam h en st, calling-call fam h en ex t) (apart d.calls))

  -- a transparent line: x is the answer of `is_transparent`
  module _ {x : Bool} (ex : x ≡ is_transparent l n) (t : x ≡ true) where
    q_save_calls : is_transparent_save_calls l n ≡ true
    q_save_calls = transparent_save_calls fam h en ex t

    run_is : (base : ℕ) → same_run base d.calls (bare_in tape area tokens l) ≡ not (d.calls or not (eqb (indent_of l) base))
    unfolding same_run ◌or◌
    run_is base = rw (save-calls_brace fam h en q_save_calls, transparent_call fam h en ex t)

    pub transparent_calls : d.calls ≡ true → J.stops ≡ looks
    unfolding not ◌or◌
    transparent_calls c = stops q_save_calls (transparent_touch fam h en ex t vs) (sym (run_is (indent_of s) ∙ rw c))

    module _ (c : d.calls ≡ false) {k i : ℕ} (ek : k ≡ indent_of l) (ei : i ≡ indent_of s) where
      pub transparent_apart : (k ≡ i → ⊥) → J.stops ≡ looks
      unfolding not ◌or◌
      transparent_apart e = stops q_save_calls (transparent_touch fam h en ex t vs) (sym (run_is (indent_of s) ∙ rw (c, ← ek, ← ei, ne_eqb k i e)))

      module _ (e : k ≡ i) {us ws : List ℕ} (eu : us ≡ part_of tokens s) (ew : ws ≡ part_of tokens l)
          {y : Bool} (ey : y ≡ leaves_inputs (tokens_of tape area (expr_words us d.expr)) (tokens_of tape area ws)) where
        on : true ≡ same_run (indent_of s) d.calls (bare_in tape area tokens l)
        unfolding not ◌or◌
        on = sym (run_is (indent_of s) ∙ rw (c, ← ek, ← ei, eq-eqb k i e))

        pub transparent_passes : y ≡ true → J.passes ≡ looks
        transparent_passes f =
            look_pass tape area tokens s d vs l refl (sym (save-calls-label fam h en q_save_calls)) refl {q = Nothing} (sym (transparent_touch fam h en ex t vs)) refl refl on refl eu
            (rw ew at ey) f

        pub transparent_stops : y ≡ false → J.stops ≡ looks
        transparent_stops f =
            look-other tape area tokens s d vs l refl (sym (save-calls-label fam h en q_save_calls)) refl {q = Nothing} (sym (transparent_touch fam h en ex t vs)) refl refl on refl eu
            (rw ew at ey) f
