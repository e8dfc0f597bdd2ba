-- What an attempt answers: it decides on the lines without their addresses, and what it leaves is what `try_at` answers, whatever the addresses are.
-- Assumes nothing.
use Prim.Native.Nat.{ℕ, suc, ◌≤◌, ◌<◌}
use native.Mathlib.Omega.{arith}
use mathlib.Core.Path.{◌≡◌, sym, ap, ◌∙◌, subst}
use mathlib.Core.List.{List}
use mathlib.Core.Option.{Option, none, some}
use lib.ListN.{length, get_or, drop, length-map}
use lib.Seq.{length-take-le}
use Rattle.reference.specs.Control.{let_some◌else◌then◌}
use Rattle.reference.specs.Text.{Text}
use Rattle.reference.specs.Listing.{Listing}
use Rattle.reference.specs.Rules.{Rules, volatile}
use Rattle.joining.specs.Bare.{bare_lines}
use Rattle.joining.specs.Places.{labels_at}
use Rattle.joining.specs.Plan as J
use Rattle.joining.proofs.Deciding.{try_at_is, targets-are}
use Rattle.joining.proofs.Planned.{planned}
use Rattle.joining.proofs.Bare.{decide-bare, labels_at-bare, act-bare}
use Rattle.joining.proofs.Rounds.{success-length}
use Rattle.lines.specs.Lines.{Reading, numbered, part_of, bare_in, line_read}
use Rattle.lines.proofs.words.Lines.{bare-means}
use Rattle.plan.specs.declared.plans.Join.{Join}
use Rattle.plan.specs.declared.slots.SlotNames.{SlotNames}
use Rattle.plan.specs.Texts.{slot_names}
use Rattle.plan.specs.Plans.{planned as plan-in, join_in, Joins}
use Rattle.build.specs.State.{used}
use Rattle.build.specs.Added.{used_words}
use Rattle.lines.specs.declared.texts.Size.{Size}
use Rattle.raising.specs.declared.tables.Raising.{Raising}
use Rattle.raising.specs.Steps.{into, Raised}
use Rattle.join.specs.declared.workspace.Workspace.{Workspace}
use Rattle.join.specs.Contents.{Contents, contents, used_lines, listing_now, bare_now}
use Rattle.join.specs.Workspaces.{Plannable, Acted, Carried}
use Rattle.join.specs.Carrying.{changed_by}
use Rattle.join.specs.Cautions.{plan_now, AttemptRaised}
use Rattle.join.specs.Attempts.{Attemptable, Attempted, Decided, tried_at, targets_now}
use Rattle.join.proofs.Carrying.{picked_uses}
use Rattle.join.proofs.Cautioning.{changed_uses}
use Rattle.std.specs.Prelude as std
use Rattle.std.specs.Prelude.{Some, None}

some-size : {a b : Size} → Some a ≡ Some b → b ≡ a
some-size e = cc

module _ (rules : Rules) {tape : Text} {w : Workspace} {labels : List ℕ} {slots : SlotNames} {i : ℕ} {size : Size}
    (h : Attemptable tape w labels slots size × (i < size.lines)) where
  abbrev s : Contents
  s = contents tape w size

  abbrev names : List Text
  names = slot_names slots

  abbrev decided : Option J.Plan
  decided = J.decide rules (bare_now s) i (labels_at (bare_now s) labels) names

  pub inside : i < length (used_lines s)
  inside = omega (arith, h.1, length-take-le size.lines w.lines.now h.0.current.lines_fit)

  -- an attempt is this decision, carried out
  try_decided : (addresses : Reading)
      → tried_at rules names s labels i addresses ≡ (let_some decided else none then λ p. some (J.act rules (listing_now s addresses) i p))
  try_decided addresses =
      let now = listing_now s addresses in
      let same : J.decide rules now i (labels_at now labels) names ≡ decided =
      sym (decide-bare rules now i (labels_at now labels) names)
      ∙ rw (bare-means tape (used s.area size) (used_words s.tokens size) addresses (used_lines s), labels_at-bare now labels) in
      try_at_is rules now i (labels_at now labels) names ∙ rw same

  module _ {r : std.Option Join} (d : Decided rules names s labels i r) where
    pub nothing-done : r ≡ None → {s' : Size → Contents} → s' size ≡ s → Attempted rules names s labels i s' None
    unfolding let_some◌else◌then◌
    nothing-done e same =
        let none-decided : decided ≡ none = sym d.is ∙ ap (plan-in tape (used s.area size) (part_of (used_words s.tokens size) (get_or (used_lines s) i 0))) e in
        record { failed = λ _. (same, λ addresses. try_decided addresses ∙ rw none-decided); succeeded = λ after t. cc }

    module _ {j : Join} (e : r ≡ Some j) where
      abbrev plan : J.Plan
      plan = join_in tape (used s.area size) (part_of (used_words s.tokens size) (get_or (used_lines s) i 0)) j

      plan_decided : decided ≡ some plan
      plan_decided = sym d.is ∙ ap (plan-in tape (used s.area size) (part_of (used_words s.tokens size) (get_or (used_lines s) i 0))) e

      pub plannable : Plannable rules tape w size j
      plannable =
          let g = d.sound j e in
          record {
            listed = h.0.current.listed;
            fits = h.0.limits.fits;
            inside = rw g.line_is inside;
            joins = subst (λ (n : ℕ). Joins tape (used s.area size) (part_of (used_words s.tokens size) (get_or (used_lines s) n 0)) n j) (sym g.line_is) g;
            planned = rw g.line_is (planned rules (bare_now s) i (labels_at (bare_now s) labels) plan names plan_decided);
          }

      places_are : changed_by rules tape (used s.area size) (used_words s.tokens size) (used_lines s) j ≡ targets_now rules s labels i
      places_are =
          rw (d.sound j e).line_is (picked_uses (volatile rules) i plan (suc i) (drop (suc i) (bare_now s)) (omega arith))
          ∙ sym (targets-are rules (bare_now s) i (labels_at (bare_now s) labels) names plan plan_decided)

      pub joined-done : (w' : Workspace) {after : Size} → Carried rules tape w size j w' → Acted rules tape w size j w' after
          → Attempted rules names s labels i (contents tape w') (Some after)
      unfolding let_some◌else◌then◌
      joined-done w' m a = record {
        failed = λ t. cc;
        succeeded = λ size' t. rw (some-size t) (record {
          current = a.current;
          tried = λ addresses. try_decided addresses ∙ rw plan_decided (ap some (sym (rw (d.sound j e).line_is at (a.means addresses))));
          handed = rw (places_are, (d.sound j e).line_is) at m;
        });
      }

      -- ---- the tables of cautions

      pub line_inside : j.line < length (bare_now s)
      line_inside = rw (length-map, (d.sound j e).line_is) inside

      into_are : into rules (bare_now s) j.line (plan_now s j) ≡ targets_now rules s labels i
      into_are =
          rw (d.sound j e).line_is (changed_uses (volatile rules) i plan (suc i) (drop (suc i) (bare_now s)) (omega arith))
          ∙ sym (targets-are rules (bare_now s) i (labels_at (bare_now s) labels) names plan plan_decided)

      module _ (w' : Workspace) {after : Size} (a : Acted rules tape w size j w' after) where
        -- what is left, without its addresses
        pub left-bare : bare_now (contents tape w' after) ≡ J.act rules (bare_now s) j.line (plan_now s j)
        left-bare =
            bare-means tape (used w'.area.now after) (used_words w'.tokens.now after) numbered (used_lines (contents tape w' after))
            ∙ ap bare_lines (a.means numbered)
            ∙ sym (act-bare rules (listing_now s numbered) j.line (plan_now s j))
            ∙ ap (λ (ls : Listing). J.act rules ls j.line (plan_now s j))
            (sym (bare-means tape (used s.area size) (used_words s.tokens size) numbered (used_lines s)))

        -- one line less
        left-fewer : suc after.lines ≡ size.lines
        left-fewer =
            let tried : tried_at rules names s labels i numbered ≡ some (listing_now (contents tape w' after) numbered) =
            unfold let_some◌else◌then◌ in
            try_decided numbered ∙ rw plan_decided (ap some (sym (rw (d.sound j e).line_is at (a.means numbered)))) in
            omega (
              arith,
              success-length rules names (listing_now s numbered) i _ tried,
              length-map (used_lines s) (line_read tape (used s.area size) (used_words s.tokens size) numbered),
              length-map (used_lines (contents tape w' after)) (line_read tape (used w'.area.now after) (used_words w'.tokens.now after) numbered),
              length-take-le size.lines w.lines.now h.0.current.lines_fit,
              length-take-le after.lines w'.lines.now a.current.lines_fit,
            )

        pub left-inside : (after.lines < 256) × (j.line ≤ after.lines)
        left-inside =
            let few : length (bare_now s) ≤ 256 = h.0.limits.lines_fit in (
              omega (arith, left-fewer, few, length-map (used_lines s) (bare_in tape (used s.area size) (used_words s.tokens size)), length-take-le size.lines w.lines.now h.0.current.lines_fit),
              omega (arith, left-fewer, h.1, (d.sound j e).line_is),
            )

        pub raised-done : {t t' : Raising} → Raised rules (bare_now s) j.line (plan_now s j) t t' → AttemptRaised rules s labels i t (contents tape w') t' (Some after)
        raised-done g =
            record {
              failed = λ n. cc;
              succeeded = λ size' n. rw (some-size n) (record {
                kept = rw left-bare g.kept;
                sets = λ on. rw ((d.sound j e).line_is) at (rw (into_are, ← left-bare) at (g.sets on));
              });
            }
