-- The loop that loads a tape: the reading comes to its offset with its totals, and the tables mean the lines so far. Assumes nothing.
use Prim.Native.Nat.{ℕ, ◌+◌, ◌<◌, ◌≤◌}
use native.Mathlib.Omega.{arith}
use mathlib.Core.Path.{◌≡◌, sym, ap, ◌∙◌}
use mathlib.Core.Bool.{true, false}
use mathlib.Core.List.{List, [], ◌∷◌}
use lib.ListN.{length, drop, take, length-append}
use lib.Seq.{length-take-le}
use borrow.Author.Tests.{leb-true}
use Rattle.reference.specs.Tape.{old}
use Rattle.reference.specs.Questions.{has_line, is_within, is_few, is_short, Passed, Advance, read_command, is_end, add, add_marks, read}
use Rattle.reference.proofs.Cases.{both}
use Rattle.reference.proofs.Commands as R
use Rattle.reference.proofs.Reading.{Passes, pass_command}
use Rattle.reference.proofs.Tapes.{Kept, kept}
use Rattle.lines.proofs.words.Lines.{lined_of}
use Rattle.tape.specs.Commands.{command_in, size_of, ends}
use Rattle.tape.specs.Questions.{totals_of, counted, Counts}
use Rattle.tables.specs.Tables.{Adds, Room, Added, Loaded}
use Rattle.tape.specs.declared.commands.Command.{Command}
use Rattle.tape.specs.declared.commands.Command.TheVariants.{Addressed, Plain, Marked, Token, End}
use Rattle.tape.specs.declared.questions.Totals.{Totals}
use Rattle.tape.proofs.commands.Standing.{Stands}
use Rattle.tape.proofs.questions.Asking.{advanced, advanced_same, within-counts, ends_same}
use Rattle.tape.proofs.questions.Reading.{Reads, reads_begin, moves, reads_on, read_passed, sizes_are, verdict_passed}
use Rattle.tables.proofs.loading.Tables.{Table, table_none, table_more}

pub record Filled (tape tokens lines addresses : List ℕ) (at : ℕ) (t : Totals) : Type 0 where
  pub reads : Reads tape at (totals_of t)
  pub table : Table tape tokens lines addresses (totals_of t) reads.lines

pub filled_none : (tape tokens lines addresses : List ℕ) → Filled tape tokens lines addresses 0 (record { lines = 0; tokens = 0; text = 0; fresh = false })
filled_none tape tokens lines addresses = record { reads = reads_begin old tape; table = table_none tape tokens lines addresses }

-- a turn of the loop: the command at its offset passes, and the tables have room for it
pub record Turn (tape tokens lines addresses : List ℕ) (at : ℕ) (t : Totals) (c : Command) : Type 0 where
  pub filled : Filled tape tokens lines addresses at t
  pub stands : Stands tape at c
  pub passes : Passes (drop at tape) (totals_of t)
  pub long_tokens : 1024 ≤ length tokens
  pub long_lines : 256 ≤ length lines
  pub long_addresses : 256 ≤ length addresses

module _ {tape tokens lines addresses : List ℕ} {at : ℕ} {t : Totals} {c : Command} (u : Turn tape tokens lines addresses at t c) where
  limits : Kept (record { at = at; totals = totals_of t; lines = u.filled.reads.lines; marks = u.filled.reads.marks })
  limits = kept tape u.filled.reads.reached

  pub turn_room : Room tokens lines addresses t
  turn_room =
      record {
        for_tokens = u.long_tokens;
        for_lines = u.long_lines;
        for_addresses = u.long_addresses;
        few_tokens = limits.few_tokens;
        few_lines = limits.few_lines;
      }

  within : is_within (command_in tape at c) ≡ true
  within = rw u.stands.same u.passes.within

  few : is_few (totals_of t) (command_in tape at c) ≡ true
  few = rw u.stands.same u.passes.few

  short : is_short (totals_of t) (command_in tape at c) ≡ true
  short = rw u.stands.same u.passes.short

  pub turn_begun : has_line (totals_of t) (command_in tape at c) ≡ true
  turn_begun = rw u.stands.same u.passes.begun

  sized : R.Sized (command_in tape at c) (size_of c)
  sized = rw (u.stands.same, u.stands.size) (R.sized (drop at tape) u.passes.known u.passes.inside)

  pub turn_counts : Counts c t
  turn_counts = within-counts old tape at t u.stands few short

  pub turn_passed : Passed (advanced old tape at (totals_of t) c) ≡ read_command tape at (totals_of t)
  turn_passed = sym (pass_command tape at (totals_of t) u.passes ∙ ap Passed (advanced_same old tape at (totals_of t) u.stands))

  pub turn_moves : (at < at + size_of c) × (at + size_of c ≤ length tape)
  turn_moves = moves u.filled.reads turn_passed

-- the numbers fit the words
adds : {tape tokens lines addresses : List ℕ} {at : ℕ} {t : Totals} (c : Command) → Turn tape tokens lines addresses at t c → Adds at c t lines
unfolding has_line is_within is_few
adds {t = t} (Addressed address indent) u = (omega (arith, leb-true indent 63 (within u)), omega (arith, leb-true (t.lines + 1) 256 (few u)))
adds {t = t} (Plain indent) u = (omega (arith, leb-true indent 63 (within u)), omega (arith, leb-true (t.lines + 1) 256 (few u)))
adds {t = t} (Marked low high) u =
    let b = both (turn_begun u) in
    let f = (limits u).fresh b.0 in
    (omega (arith, (limits u).lines, ap length f.lines_are, length-append f.above (f.last ∷ [])), leb-true low high b.1)
adds {t = t} (Token kind count) u =
    let some : 1 ≤ t.lines = leb-true 1 t.lines (turn_begun u) in
    let counts = turn_counts u in (
      (sized u).1,
      omega (arith, counts.1, (limits u).place, (limits u).few_lines, (limits u).few_tokens),
      omega (arith, counts.0),
      some,
      omega (arith, u.filled.table.last some, (limits u).few_tokens),
    )
adds End u = tt

module _ {tape tokens lines addresses : List ℕ} {at : ℕ} {t : Totals} {c : Command} (u : Turn tape tokens lines addresses at t c) where
  pub turn_adds : Adds at c t lines
  turn_adds = adds c u

  pub turn_more : {tokens' lines' addresses' : List ℕ} {t' : Totals} → ends c ≡ false → Added at c t tokens lines addresses tokens' lines' addresses'
      → totals_of t' ≡ counted c (totals_of t) → Filled tape tokens' lines' addresses' (at + size_of c) t'
  turn_more n added e =
      let f = u.filled in
      let on = reads_on f.reads (turn_passed u) (ends_same old tape at c ∙ n) in
      let table = table_more at t f.table (turn_room u) c turn_adds (turn_moves u).1 in
      record {
        reads = record {
          lines = add (command_in tape at c) f.reads.lines;
          marks = add_marks (command_in tape at c) f.reads.marks;
          reached = rw e on.reached;
        };
        table = rw (added.tokens_are, added.lines_are, added.addresses_are, e) table;
      }

-- FF passes at its offset
module _ {tape tokens lines addresses : List ℕ} {at : ℕ} {t : Totals} (f : Filled tape tokens lines addresses at t) (long : 1024 ≤ length tokens) {a : Advance}
    (e : Passed a ≡ read_command tape at (totals_of t)) (over : is_end a.command ≡ true) where
  pub filled-ends : Loaded tape tokens lines addresses t
  filled-ends =
      let read-is : read tape ≡ Passed f.reads.lines = read_passed f.reads e over in
      let limits : Kept (record { at = at; totals = totals_of t; lines = f.reads.lines; marks = f.reads.marks }) = kept tape f.reads.reached in
      let front : length (take t.tokens tokens) ≡ t.tokens = length-take-le t.tokens tokens (omega (arith, limits.few_tokens)) in
      record {
        listing = λ area. read-is ∙ ap Passed (sym (f.table.means area));
        listed = λ area. record { at = λ i b. lined_of _ (f.table.holds area) (rw front (f.table.inside i b)) (f.table.unmarked i b) };
        holds = f.table.holds;
        totals = sym (ap Passed (sizes_are f.reads) ∙ verdict_passed old tape read-is);
      }
