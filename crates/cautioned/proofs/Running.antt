-- The sets that a run leaves are those of the definition, and what stands in the lent bytes then. Assumes nothing.
use Prim.Native.Nat.{ℕ}
use native.Mathlib.Nat.{zero-add}
use mathlib.Core.Path.{◌≡◌, refl, sym, ap, ◌∙◌}
use mathlib.Core.List.{List, []}
use lib.ListN.{length, take, length-map}
use lib.Seq.{length-take-le, take-length}
use Rattle.reference.specs.Listing.{Listing}
use Rattle.reference.specs.Rules.{Rules}
use Rattle.reference.specs.Run.{run, counts}
use Rattle.reference.specs.Reply as R
use Rattle.reference.specs.Reply.{Cleaned}
use Rattle.reference.specs.Questions.{Passed, read}
use Rattle.reference.proofs.Reading.{passed_inj}
use Rattle.lines.specs.Lines.{Reading}
use Rattle.join.specs.Contents.{Contents, listing_now, bare_now, used_lines}
use Rattle.rounds.specs.Runs.{Ran}
use Rattle.rounds.specs.declared.run.Outcome.{Outcome}
use Rattle.text.specs.Cursor.{Written}
use Rattle.cautions.specs.Cautions.{kept_cautions, finished_cautions, caution_bytes}
use Rattle.cautions.proofs.Carried.{kept_as}
use Rattle.cautioned.specs.Telling.{Finishes}

-- what stands in the table after the run is what the tables said, and its bytes are written
pub written : (n : ℕ) {now left sets out out' : List ℕ} {m : ℕ} → take n now ≡ sets → left ≡ now → Written out 0 (caution_bytes (take n left)) out' m
    → Written out 0 (caution_bytes sets) out' m
written n e f w = rw (f, e) at w

module _ (rules : Rules) (tape : List ℕ) (s s' : Contents) (addresses : Reading) (loaded : read tape ≡ Passed (listing_now s addresses)) {r : Outcome}
    (p : Ran rules s s' r) where
  long : length (bare_now s') ≡ s'.size.lines
  long = length-map (used_lines s') _ ∙ length-take-le s'.size.lines s'.lines p.current.lines_fit

  -- of the sets that were kept step by step
  pub sets_are : (sets : List ℕ) → ((addresses : Reading) → take (length (bare_now s')) sets ≡ kept_cautions rules (listing_now s addresses))
      → (input : Listing) → read tape ≡ Passed input → take s'.size.lines sets ≡ finished_cautions rules input
  sets_are sets k input e =
      let same : listing_now s addresses ≡ input = passed_inj (sym loaded ∙ e) in
      ap (λ (n : ℕ). take n sets) (sym long) ∙ k addresses ∙ ap (kept_cautions rules) same ∙ (kept_as rules input).same

-- ---- the areas wiped

-- some reply that is no refusal: the areas are wiped after each
abbrev pub any_reply : Rules → Listing → Cleaned
any_reply rules input = record { tape = []; counts = counts rules (run rules input) }

module _ (rules : Rules) (input : Listing) where
  pub finishes : {bytes work_a work_b out work-a' work-b' out' : List ℕ} {n : ℕ} → Written out 0 bytes out' n
      → work-a' ≡ R.work_after (Passed (any_reply rules input)) work_a → work-b' ≡ R.work_after (Passed (any_reply rules input)) work_b
      → Finishes bytes work_a work_b out work-a' work-b' out' n
  unfolding R.work_after
  finishes w a b =
      record {
        length_is = w.end_is ∙ zero-add _;
        leaves = record { output_is = w.bytes_are ∙ rw (take-length, zero-add) refl; work_a_is = a; work_b_is = b };
      }
