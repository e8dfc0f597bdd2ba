-- The slices that are lent to a round: they are the same and as long after a call, and so after one call after the other, and a round finds room in
-- them as the one before it did. Assumes nothing.
use Prim.Native.Nat.{ℕ}
use native.Mathlib.Omega.{arith}
use mathlib.Core.Path.{◌≡◌, refl, ◌∙◌}
use mathlib.Core.List.{List}
use lib.ListN.{length}
use Rattle.reference.specs.Text.{Text}
use Rattle.lines.specs.declared.texts.Size.{Size}
use Rattle.join.specs.declared.workspace.Workspace.{Workspace}
use Rattle.join.specs.Contents.{contents, bare_now, Current}
use Rattle.join.specs.Attempts.{Attemptable}
use Rattle.join.specs.Workspaces.{SameLent, Lent}
use Rattle.joining.specs.Limits.{RunLimits}
use Rattle.joining.specs.Places.{Labelled}
use Rattle.plan.specs.declared.slots.SlotNames.{SlotNames}
use Rattle.rounds.specs.Runs.{Runnable, Gatherable}

pub lent_same : (w : Workspace) → SameLent w w
lent_same w = record {
  area_is = refl;
  tokens_are = refl;
  lines_are = refl;
  area2_is = refl;
  tokens2_are = refl;
  marks_are = refl;
  area_length = refl;
  tokens_length = refl;
  lines_length = refl;
  area2_length = refl;
  tokens2_length = refl;
  marks_length = refl;
}

pub lent_then : {a b c : Workspace} → SameLent a b → SameLent b c → SameLent a c
lent_then p q = record {
  area_is = q.area_is ∙ p.area_is;
  tokens_are = q.tokens_are ∙ p.tokens_are;
  lines_are = q.lines_are ∙ p.lines_are;
  area2_is = q.area2_is ∙ p.area2_is;
  tokens2_are = q.tokens2_are ∙ p.tokens2_are;
  marks_are = q.marks_are ∙ p.marks_are;
  area_length = q.area_length ∙ p.area_length;
  tokens_length = q.tokens_length ∙ p.tokens_length;
  lines_length = q.lines_length ∙ p.lines_length;
  area2_length = q.area2_length ∙ p.area2_length;
  tokens2_length = q.tokens2_length ∙ p.tokens2_length;
  marks_length = q.marks_length ∙ p.marks_length;
}

-- lines written anew
pub lent_written : (w : Workspace) (lines : List ℕ) → length lines ≡ length w.lines.now
    → SameLent w (record {
      area = w.area;
      tokens = w.tokens;
      lines = record { ref_ptr = w.lines.ref_ptr; ghost_name = w.lines.ghost_name; now = lines };
      area2 = w.area2;
      tokens2 = w.tokens2;
      marks = w.marks;
    })
lent_written w lines e = record {
  area_is = refl;
  tokens_are = refl;
  lines_are = refl;
  area2_is = refl;
  tokens2_are = refl;
  marks_are = refl;
  area_length = refl;
  tokens_length = refl;
  lines_length = e;
  area2_length = refl;
  tokens2_length = refl;
  marks_length = refl;
}

-- ---- room for an attempt and for a round

module _ {w w' : Workspace} (s : SameLent w w') where
  lent_again : Lent w → Lent w'
  lent_again l = record {
    first_text = omega (arith, l.first_text, s.area_length);
    first_words = omega (arith, l.first_words, s.tokens_length);
    second_text = omega (arith, l.second_text, s.area2_length);
    second_words = omega (arith, l.second_words, s.tokens2_length);
  }

  module _ {tape : Text} {at at' : Size} (current : Current (contents tape w' at')) (limits : RunLimits (bare_now (contents tape w' at'))) where
    -- the next attempt finds what the round found
    pub attempt_again : {labels labels' : List ℕ} {slots : SlotNames} → Attemptable tape w labels slots at → Labelled (bare_now (contents tape w' at')) labels'
        → Attemptable tape w' labels' slots at'
    attempt_again b labelled = record {
      current = current;
      limits = limits;
      lent = lent_again b.lent;
      words_short = omega (arith, b.words_short, s.tokens_length);
      labelled = labelled;
      slotted = b.slotted;
      for_marks = omega (arith, b.for_marks, s.marks_length);
    }

    -- and the next round what the run found
    pub runnable_again : Runnable tape w at → Runnable tape w' at'
    runnable_again b = record {
      current = current;
      limits = limits;
      lent = lent_again b.lent;
      words_short = omega (arith, b.words_short, s.tokens_length);
      for_marks = omega (arith, b.for_marks, s.marks_length);
    }

-- the same slices to gather in, as long as they were
pub gatherable_again : {labels labels' : List ℕ} {slots slots' : Text} {words words' : List ℕ} → Gatherable labels slots words
    → length labels' ≡ length labels → length slots' ≡ length slots → length words' ≡ length words → Gatherable labels' slots' words'
gatherable_again g l s w = record {
  for_labels = omega (arith, g.for_labels, l);
  for_slots = omega (arith, g.for_slots, s);
  for_slot_words = omega (arith, g.for_slot_words, w);
}
