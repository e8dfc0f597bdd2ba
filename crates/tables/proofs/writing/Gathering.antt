-- The records of line words: how they come into the array, and what they mean there. Assumes nothing.
use Prim.Native.Nat.{ℕ, ◌+◌, ◌≤◌, ◌<◌}
use native.Mathlib.Nat.{zero-add}
use native.Mathlib.Numerals.{add-one}
use native.Mathlib.Omega.{arith}
use mathlib.Core.Path.{◌≡◌, refl, sym, ap, ◌∙◌}
use mathlib.Core.List.{List, [], ◌∷◌, map}
use mathlib.Core.Bool.{Bool, true, false}
use mathlib.Core.Option.{none, some}
use lib.Dec.{eqb}
use lib.ListN.{length, take, drop, set, get_or, length-map}
use lib.Seq.{length-take-le, take_all, take_at, paste, paste-suc}
use Rattle.std.specs.Bool.{then_some}
use Rattle.reference.specs.Control.{when◌then◌else◌}
use Rattle.reference.specs.Options.{option_of}
use Rattle.text.specs.Cursor.{Fits}
use Rattle.text.specs.declared.cursor.Cursor.{Cursor}
use Rattle.lines.specs.Lines.{addressed_of, origin_of, address_in, Listed}
use Rattle.lines.proofs.words.Each.{map_at}
use Rattle.lines.proofs.words.Lines.{indent-below}
use Rattle.tables.specs.Records.{blank, record_of, records_of}
use Rattle.tables.specs.Writing.{lines_bytes, marked_of, recorded, marked_in, paged, Writes}
use Rattle.tables.specs.declared.records.LineRecord.{LineRecord}

-- ---- the first k are in their places

abbrev pub gathered : List ℕ → List ℕ → List ℕ → List ℕ → List LineRecord → ℕ → List LineRecord
gathered addresses lows highs lines before k = paste before 0 (records_of addresses lows highs lines) k

module _ (addresses lows highs lines : List ℕ) (before : List LineRecord) (few : length lines ≤ length before) (k : ℕ) where
  many : length (records_of addresses lows highs lines) ≡ length lines
  many = length-map lines (record_of addresses lows highs)

  pub gathered_more : {r : LineRecord} → k < length lines → r ≡ record_of addresses lows highs (get_or lines k 0)
      → set (gathered addresses lows highs lines before k) k r ≡ gathered addresses lows highs lines before (k + 1)
  gathered_more {r} h e =
      let m = many in
      let here : r ≡ get_or (records_of addresses lows highs lines) k blank = e ∙ sym (map_at (record_of addresses lows highs) lines k blank h) in
      ap (λ (j : ℕ). set (gathered addresses lows highs lines before k) j r) (sym (zero-add k))
      ∙ rw (here, add-one) (paste-suc before 0 (records_of addresses lows highs lines) k blank (omega arith) (omega arith))

-- ---- all are

module _ (tape area tokens addresses lows highs : List ℕ) where
  read : (b : Bool) (x : ℕ) → option_of (then_some b x) ≡ (when b then some x else none)
  unfolding when◌then◌else◌
  read true x = refl
  read false x = refl

  line_meant : (l : ℕ) → marked_of tape area tokens (record_of addresses lows highs l) ≡ marked_in tape area tokens addresses lows highs l
  unfolding address_in
  line_meant l = let e = read (eqb (addressed_of l) 1) (get_or addresses (origin_of l) 0) in rw e

  meant : (ls : List ℕ) → map (marked_of tape area tokens) (records_of addresses lows highs ls) ≡ paged tape area tokens addresses lows highs ls
  meant [] = refl
  meant (l ∷ ls) = cc (line_meant l, meant ls)

  module _ (lines : List ℕ) (before : List LineRecord) {records : List LineRecord} (e : records ≡ paste before 0 (records_of addresses lows highs lines) (length lines)) where
    taken : take (length lines) records ≡ records_of addresses lows highs lines
    taken =
        let long : length (records_of addresses lows highs lines) ≡ length lines = length-map lines (record_of addresses lows highs) in
        rw (e, zero-add) (take_at (take (length lines) (records_of addresses lows highs lines)) (drop (length lines) before) (length lines)
        (length-take-le (length lines) (records_of addresses lows highs lines) (omega arith)) ∙ take_all (length lines) (records_of addresses lows highs lines) (omega arith))

    pub gathered_lines : recorded tape area tokens (take (length lines) records) ≡ paged tape area tokens addresses lows highs lines
    gathered_lines = ap (map (marked_of tape area tokens)) taken ∙ meant lines

    pub gathered_writes : (p : Cursor) → Listed tape area tokens lines
        → Fits p (length (lines_bytes (paged tape area tokens addresses lows highs lines))) → Writes tape area tokens (take (length lines) records) p
    gathered_writes p listed room =
        record {
          sound = λ k h.
              let inside : k < length lines = omega (arith, ap length taken, length-map lines (record_of addresses lows highs)) in
              let here = listed.at k inside in
              let is : get_or (take (length lines) records) k blank ≡ record_of addresses lows highs (get_or lines k 0) =
              ap (λ (l : List LineRecord). get_or l k blank) taken ∙ map_at (record_of addresses lows highs) lines k blank inside in
              rw is (record { inside = here.inside; holds = here.holds; low = omega (arith, indent-below (get_or lines k 0)) });
          room = rw gathered_lines room;
        }
