-- Lines whose facts were noted (crate linefacts): the listing is the same, and so is the run that is made of it. Assumes nothing.
use Prim.Native.Nat.{ℕ, ◌<◌}
use native.Mathlib.Omega.{arith}
use mathlib.Core.Path.{◌≡◌, refl, sym, ap, ◌∙◌}
use mathlib.Core.List.{List, [], ◌++◌, map}
use lib.ListN.{length, take, drop, length-map}
use lib.Seq.{ext_get_or, take_at, length-take-le, length_front}
use Rattle.reference.specs.Text.{Text}
use Rattle.reference.specs.Rules.{Rules}
use Rattle.joining.specs.Bare.{bare_lines}
use Rattle.joining.specs.Limits.{RunLimits}
use Rattle.lines.specs.Lines.{Reading, numbered, line_read, listing_read}
use Rattle.lines.proofs.words.Each.{map_at}
use Rattle.linefacts.specs.Gathering.{AllNoted}
use Rattle.linefacts.proofs.Making.{all-noted-lined}
use Rattle.lines.specs.declared.texts.Size.{Size}
use Rattle.build.specs.State.{used}
use Rattle.build.specs.Added.{used_words}
use Rattle.join.specs.Current as slices
use Rattle.join.specs.Contents.{Contents}
use Rattle.raising.specs.declared.tables.Raising.{Raising}
use Rattle.rounds.specs.Carries.{Carries}
use Rattle.rounds.specs.declared.run.Progress.{Progress}
use Rattle.rounds.specs.Runs.{SameListing, Rounded}
use Rattle.rounds.proofs.Carrying.{carries_then, carries_same, numbers_same}
use Rattle.rounds.proofs.Turning.{bare_is}

-- ---- lines whose facts were noted mean what they meant

module _ {tape area : Text} {tokens lines after : List ℕ} (r : AllNoted tape area tokens lines after) where
  noted-means : (addresses : Reading) → listing_read tape area tokens addresses after ≡ listing_read tape area tokens addresses lines
  noted-means addresses =
      let f = line_read tape area tokens addresses in
      ext_get_or (f 0) (map f after) (map f lines) (length-map after f ∙ r.long ∙ sym (length-map lines f))
      (λ k h.
      let b : k < length after = rw length-map at h in
      let b' : k < length lines = omega (arith, r.long) in
      map_at f after k (f 0) b ∙ (r.at k b').means addresses ∙ sym (map_at f lines k (f 0) b'))

-- the facts of the lines in use were noted, and these lines stand before the others
module _ {tape area : Text} {tokens lines : List ℕ} {at : Size} (c : slices.Current tape area tokens lines at) {after : List ℕ}
    (r : AllNoted tape (used area at) (used_words tokens at) (slices.used_lines lines at) after) where
  front : take at.lines (after ++ drop at.lines lines) ≡ after
  front = take_at after _ at.lines (r.long ∙ length-take-le at.lines lines c.lines_fit)

  pub same_noted : SameListing tape area tokens lines at (after ++ drop at.lines lines)
  same_noted = record {
    current = record {
      text_fits = c.text_fits;
      words_fit = c.words_fit;
      lines_fit = rw (length_front lines after at.lines r.long) c.lines_fit;
      listed = rw front (record { at = all-noted-lined r });
    };
    means = λ addresses. rw front (noted-means r addresses);
  }

-- ---- a run of the same listing

module _ {tape area : Text} {tokens lines : List ℕ} {at : Size} {lines' : List ℕ} (s : SameListing tape area tokens lines at lines') where
  -- the tables with these line words
  abbrev with_lines : List ℕ → List ℕ → List ℕ → Contents
  with_lines ls lows highs = record { tape = tape; area = area; tokens = tokens; lines = ls; size = at; lows = lows; highs = highs }

  pub bare_same : slices.bare_now tape area tokens lines' at ≡ slices.bare_now tape area tokens lines at
  bare_same = bare_is (with_lines lines' [] []) numbered ∙ ap bare_lines (s.means numbered) ∙ sym (bare_is (with_lines lines [] []) numbered)

  pub limits_same : RunLimits (slices.bare_now tape area tokens lines at) → RunLimits (slices.bare_now tape area tokens lines' at)
  limits_same l = rw bare_same l

  module _ {lows highs : List ℕ} where
    stays : Carries [] (with_lines lines lows highs) (with_lines lines' lows highs)
    stays =
        let a = with_lines lines lows highs in
        let b = with_lines lines' lows highs in
        carries_same a b refl refl (numbers_same a b (ap (map (λ l. l.address)) (s.means numbered)))

    pub rounded_same : {rules : Rules} {t : Raising} {left : Contents} {t' : Raising} {r : Progress} → Rounded rules (with_lines lines' lows highs) t left t' r
        → Rounded rules (with_lines lines lows highs) t left t' r
    rounded_same {left = left} m = record {
      current = m.current;
      limits = m.limits;
      left = λ addresses. rw (s.means addresses) at (m.left addresses);
      counted = λ addresses. rw (s.means addresses) at (m.counted addresses);
      marks = λ addresses. carries_then [] _ (with_lines lines lows highs) (with_lines lines' lows highs) left stays (rw (s.means addresses) at (m.marks addresses));
      kept = m.kept;
      raised = λ addresses. rw (s.means addresses, bare_same) at (m.raised addresses);
    }
