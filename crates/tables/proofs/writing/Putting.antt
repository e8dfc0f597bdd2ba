-- What a line, and a listing, is written as, and a loop that puts what each word of a list means. Assumes nothing.
use Prim.Native.Nat.{ℕ, ◌+◌, ◌≤◌, ◌<◌}
use native.Mathlib.Nat.{zero-add}
use native.Mathlib.Omega.{arith}
use mathlib.Core.Path.{◌≡◌, refl, ap, ◌∙◌}
use mathlib.Core.Bool.{true, false}
use mathlib.Core.List.{List, [], ◌∷◌, ◌++◌, map, flat_map}
use lib.Dec.{leb}
use lib.ListN.{length, drop, get_or, length-append}
use borrow.Author.Tests.{leb-true, leb-false}
use Rattle.std.proofs.lemmas.List.{drop_more, drop_all}
use Rattle.reference.specs.Listing.{Line}
use Rattle.reference.specs.Spans.{Marks}
use Rattle.reference.specs.Tape.{new_line, marked, end, write_command, write_marks, write_line, write_lines, write, write_by, write_command_by, write_line_by, write_lines_by, write_marks_by}
use Rattle.joining.specs.Carried.{marks_of, pair_at}
use Rattle.joining.proofs.Carried.{some_marks, no_marks}
use Rattle.lines.specs.Words.{tokens_of}
use Rattle.lines.specs.Lines.{origin_of, line_in, listing_of}
use Rattle.text.specs.Cursor.{Written, Fits, Puts}
use Rattle.text.specs.declared.cursor.Cursor.{Cursor}
use Rattle.tape.proofs.little_endian.Bytes.{put_front, puts_written}
use Rattle.tape.proofs.walk.Loops.{Putting, putting_fits, putting_on, putting_ends}
use Rattle.tables.specs.Tables.{marks_for}
use Rattle.tables.specs.Records.{address_of, pair_of, part_at, line_of}
use Rattle.tables.specs.Writing.{tokens_bytes, lines_bytes, paged, Wrote}
use Rattle.tables.specs.declared.records.LineRecord.{LineRecord}

-- ---- what is written of a line, and of a listing

module _ {B : Type 0} (f : B → Line) (g : B → Marks) where
  pairs-written : (ws : List B) → write_lines (map f ws) (map g ws) ≡ lines_bytes (map (λ w. (f w, g w)) ws)
  unfolding write_lines_by flat_map
  pairs-written [] = refl
  pairs-written (w ∷ ws) = ap (λ (more : List ℕ). write_line (f w) (g w) ++ more) (pairs-written ws)

-- at the front of a slice
pub wrote : {bytes out after : List ℕ} {r : ℕ} → Written out 0 bytes after r → Wrote bytes out after r
wrote {bytes} {out} w = let p = puts_written w in record { holds = p.holds ∙ put_front out bytes; ends = p.ends ∙ zero-add (length bytes) }

module _ (tape area tokens addresses lows highs lines : List ℕ) where
  abbrev the-tape : List ℕ
  the-tape = write (listing_of tape area tokens addresses lines) (marks_for lows highs lines)

  abbrev the-lines : List ℕ
  the-lines = lines_bytes (paged tape area tokens addresses lows highs lines)

  pub write-split : the-tape ≡ the-lines ++ write_command end
  unfolding write_by
  write-split =
      ap (λ (bytes : List ℕ). bytes ++ write_command end)
      (pairs-written (line_in tape area tokens addresses) (λ l. marks_of (pair_at lows highs (origin_of l))) lines)

  pub write-room : {n : ℕ} → length the-tape ≤ n → length the-lines + 1 ≤ n
  unfolding write_command_by
  write-room h = omega (arith, ap length write-split, length-append the-lines (write_command end))

module _ (tape area tokens : List ℕ) (r : LineRecord) where
  abbrev its_command : List ℕ
  its_command = write_command (new_line (address_of r) r.indent)

  abbrev its_marks : List ℕ
  its_marks = write_marks (marks_of (pair_of r))

  abbrev its_tokens : List ℕ
  its_tokens = tokens_bytes (tokens_of tape area (part_at tokens r))

  pub line_split : write_line (line_of tape area tokens r) (marks_of (pair_of r)) ≡ its_command ++ its_marks ++ its_tokens
  unfolding write_line_by
  line_split = refl

  pub line_room : (at : ℕ) {n : ℕ} → at + length (write_line (line_of tape area tokens r) (marks_of (pair_of r))) ≤ n
      → at + length its_command + length its_marks + length its_tokens ≤ n
  line_room at h = omega (arith, ap length line_split, length-append (its_command ++ its_marks) its_tokens, length-append its_command its_marks)

-- the marks that two numbers stand for
module _ (low high : ℕ) where
  pub marked_written : leb low high ≡ true → write_command (marked (record { lowest = low; highest = high })) ≡ write_marks (marks_of (low, high))
  unfolding write_marks_by
  marked_written e = rw (some_marks (low, high) (leb-true low high e))

  pub unmarked_written : leb low high ≡ false → [] ≡ write_marks (marks_of (low, high))
  unfolding write_marks_by
  unmarked_written e = rw (no_marks (low, high) (leb-false low high e))

-- ---- a loop that puts g of what f says each element means

module _ {B A : Type 0} (f : B → A) (g : A → List ℕ) (ws : List B) where
  -- all but the first k are to come
  abbrev pub PutsFrom : ℕ → Cursor → Cursor → Type 0
  PutsFrom k p₀ p = Putting g (map f ws) p₀ p (map f (drop k ws))

  module _ {p₀ p : Cursor} {k : ℕ} (w : PutsFrom k p₀ p) where
    module _ (d : B) (h : k < length ws) where
      next : map f (drop k ws) ≡ f (get_or ws k d) ∷ map f (drop (k + 1) ws)
      next = ap (map f) (drop_more ws k d h)

      pub next_room : Fits p (length (g (f (get_or ws k d))))
      next_room = putting_fits g (map f ws) w (f (get_or ws k d)) (map f (drop (k + 1) ws)) next

      pub put_more : {p₁ : Cursor} → Puts p (g (f (get_or ws k d))) p₁ → PutsFrom (k + 1) p₀ p₁
      put_more x = putting_on g (map f ws) w (f (get_or ws k d)) (map f (drop (k + 1) ws)) next x

    pub put_all : length ws ≤ k → Puts p₀ (flat_map g (map f ws)) p
    put_all h = putting_ends g (map f ws) w (ap (map f) (drop_all k ws h))
