-- A round's beginning: the labels and the addressed names of the listing, gathered, are what its attempts are made with. Assumes nothing.
use Prim.Native.Nat.{ℕ, ◌≤◌, ◌<◌}
use native.Mathlib.Omega.{arith}
use mathlib.Core.Path.{◌≡◌, sym, ap, ◌∙◌}
use mathlib.Core.List.{List}
use lib.ListN.{take}
use Rattle.reference.specs.Text.{Text}
use Rattle.reference.specs.Rules.{Rules}
use Rattle.reference.specs.Claim.{text, token_count}
use Rattle.reference.specs.Run.{labels_from, addressed_in, propagate_once}
use Rattle.reference.proofs.Fits.{fits_text}
use Rattle.joining.specs.Places.{label_places, labels_at}
use Rattle.joining.proofs.Bare.{addressed-bare}
use Rattle.joining.proofs.Rounds.{round_begins}
use Rattle.lines.specs.Lines.{Reading}
use Rattle.lines.specs.declared.texts.Size.{Size}
use Rattle.build.specs.State.{used}
use Rattle.build.specs.Added.{used_words}
use Rattle.plan.specs.Texts.{slot_names}
use Rattle.plan.specs.declared.slots.SlotNames.{SlotNames}
use Rattle.plan.proofs.Addressing.{slotted_of}
use Rattle.join.specs.declared.workspace.Workspace.{Workspace}
use Rattle.join.specs.Contents.{Contents, contents, used_lines, listing_now, bare_now}
use Rattle.join.specs.Attempts.{Attemptable}
use Rattle.life.specs.Labels.{Gathered}
use Rattle.raising.specs.declared.tables.Raising.{Raising}
use Rattle.rounds.specs.declared.rounds.Round.{Round}
use Rattle.plan.specs.Slots.{Gathers}
use Rattle.rounds.specs.Rounds.{Made, attempts_with}
use Rattle.rounds.specs.Runs.{Runnable}
use Rattle.cuts.proofs.Cutting.{gathered_labelled, gathered_labels}
use Rattle.rounds.proofs.Turning.{bare_is, now-few}

module _ {tape : Text} {w : Workspace} {at : Size} (b : Runnable tape w at) where
  abbrev s : Contents
  s = contents tape w at

  pub begin_labels : {n : ℕ} → 256 ≤ n → at.lines ≤ n
  begin_labels for_labels = omega (arith, for_labels, now-few s b.current b.limits)

  pub begin_room : {n m : ℕ} → 49152 ≤ n → 1024 ≤ m → (text (bare_now s) ≤ n) × (text (bare_now s) < 65536) × (token_count (bare_now s) ≤ m)
  begin_room for_slots for_slot_words =
      let most = fits_text b.limits.fits in
      (omega (arith, for_slots), omega arith, omega (arith, for_slot_words, b.limits.fits.few))

  module _ {labels after : List ℕ} {n : ℕ} (l : Gathered (label_places 0 (bare_now s)) labels after n) (slots : SlotNames)
      (g : Gathers (addressed_in (bare_now s)) slots.text.now slots.words.now) where
    pub begin_attemptable : Attemptable tape w (take n after) slots at
    begin_attemptable = record {
      current = b.current;
      limits = b.limits;
      lent = b.lent;
      words_short = b.words_short;
      labelled = gathered_labelled tape (used s.area at) (used_words s.tokens at) (used_lines s) l;
      slotted = slotted_of _ _ (bare_now s) g.holds g.names_are;
      for_marks = b.for_marks;
    }

    -- the attempts with what was gathered are the round's, whatever the addresses are
    round_is : (rules : Rules) (addresses : Reading)
        → propagate_once rules (listing_now s addresses) ≡ attempts_with rules (slot_names slots) s (take n after) (listing_now s addresses)
    round_is rules addresses =
        let names : addressed_in (listing_now s addresses) ≡ slot_names slots =
        sym (addressed-bare (listing_now s addresses)) ∙ ap addressed_in (sym (bare_is s addresses)) ∙ sym g.names_are in
        let first : labels_from 0 (listing_now s addresses) ≡ labels_at (bare_now s) (take n after) =
        gathered_labels tape (used s.area at) (used_words s.tokens at) (used_lines s) l addresses in
        round_begins rules _ ∙ rw (names, first)

    pub begin_made : (rules : Rules) {t : Raising} {s' : Contents} {t' : Raising} {r : Round}
        → Made rules (attempts_with rules (slot_names slots) s (take n after)) s t s' t' r → Made rules (propagate_once rules) s t s' t' r
    begin_made rules m = record {
      current = m.current;
      limits = m.limits;
      few = m.few;
      left = λ addresses. rw (round_is rules addresses) (m.left addresses);
      attempts_are = λ addresses. rw (round_is rules addresses) (m.attempts_are addresses);
      removed_is = λ addresses. rw (round_is rules addresses) (m.removed_is addresses);
      marks = λ addresses. rw (round_is rules addresses) (m.marks addresses);
      kept = m.kept;
      raised = λ addresses. rw (round_is rules addresses) (m.raised addresses);
    }
