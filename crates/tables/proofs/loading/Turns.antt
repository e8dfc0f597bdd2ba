-- The loop that loads the lines of a tape as records: the reading comes to its offset with its totals, and tables that hold the records so far mean the
-- lines so far. Assumes nothing.
use Prim.Native.Nat.{ℕ, ◌+◌, ◌-◌, ◌≤◌, ◌<◌}
use native.Mathlib.Omega.{arith}
use native.Mathlib.Decide.{ℕ_discrete}
use mathlib.Core.Logic.{by_cases}
use mathlib.Core.Path.{◌≡◌, refl, sym, ap, ◌∙◌}
use mathlib.Core.Bool.{true, false}
use mathlib.Core.List.{List, [], ◌∷◌}
use lib.ListN.{length, take, drop, get_or, set, replicate, length-set, length-append, length-replicate}
use lib.Seq.{get_or-take, get_or-set_same, get_or-set_other, set-get_or, length-take-le}
use Rattle.reference.specs.Tape.{old}
use Rattle.reference.specs.Questions as Q
use Rattle.reference.specs.Questions.{Refused, Passed, read_command}
use Rattle.reference.proofs.LittleEndian.{Bytes}
use Rattle.reference.proofs.Reading.{Passes, advance, command_passed}
use Rattle.reference.proofs.Tapes.{Kept, kept}
use Rattle.lines.specs.Lines.{count_of, with_part, line_word}
use Rattle.lines.specs.Words.{Recoded, Recodes}
use Rattle.lines.proofs.words.Lines.{word_first, word_count, word-indent, word-addressed, word_origin}
use Rattle.tape.specs.Commands.{size_of, ends}
use Rattle.tape.specs.Questions.{sizes_of, totals_of, counted, Counts, ReadOne}
use Rattle.tables.specs.Tables.{Adds, Added, longer, tokens_after, lines_after, addresses_after}
use Rattle.tables.specs.Records.{blank, flag_of, word_of, RecordFits, Holding, Fitting, Recorded, line_after, records_after}
use Rattle.tables.specs.Records.{Worded, Loadable, advance_to, StepLoads, LoadEnds}
use Rattle.tape.specs.declared.commands.Command.{Command}
use Rattle.tape.specs.declared.commands.Command.TheVariants.{Addressed, Plain, Marked, Token, End}
use Rattle.std.specs.Prelude as std
use Rattle.tape.specs.declared.questions.Totals.{Totals}
use Rattle.tables.specs.declared.records.LineRecord.{LineRecord}
use Rattle.tables.specs.declared.loading.LoadState.{LoadState}
use Rattle.tape.proofs.commands.Standing.{Stands, stands}
use Rattle.tape.proofs.questions.Asking.{advanced, advanced_same, ends_same}
use Rattle.tape.proofs.questions.Reading.{moves, read_refused, read_ended, sizes_are, VerdictBy, verdict_passed, verdict_refused}
use Rattle.tables.proofs.loading.Filling.{Filled, filled_none, filled-ends, Turn, turn_room, turn_counts, turn_begun, turn_passed, turn_adds, turn_more}
use Rattle.tables.proofs.loading.Loaded.{loaded_recoded}
use Rattle.tables.proofs.loading.Marks.{Noted, noted_none, noted_more, noted-ends}
use Rattle.tables.proofs.loading.Records.{flag_low, holding_none, fitting-set, holding-set, loaded-held}

pub record Going (tape plain : List ℕ) (records : List LineRecord) (s : LoadState) : Type 0 where
  pub lines : List ℕ
  pub addresses : List ℕ
  pub filled : Filled tape plain lines addresses s.at s.totals
  pub holding : Holding records s.totals.lines lines addresses
  pub fitting : Fitting records s.totals.lines
  pub noted : Noted tape records s.at s.totals

-- nothing is read yet
abbrev pub START : LoadState
START = record { at = 0; totals = record { lines = 0; tokens = 0; text = 0; fresh = false } }

going_start : (tape plain : List ℕ) (records : List LineRecord) → Going tape plain records START
going_start tape plain records =
    let zeros : List ℕ = replicate 256 0 in
    let long : 256 ≤ length zeros = omega (arith, length-replicate {A = ℕ} 256 0) in
    record {
      lines = zeros;
      addresses = zeros;
      filled = filled_none tape plain zeros zeros;
      holding = holding_none records long long;
      fitting = λ k b. absurd (omega arith);
      noted = noted_none tape records;
    }

-- ---- the last line's record and its word

-- one token more
longer-word : (k : ℕ) (r : LineRecord) → k < 256 → RecordFits r → r.count < 2047
    → longer (word_of k r) ≡ line_word r.first (r.count + 1) r.indent (flag_of r.address) k
unfolding with_part
longer-word k r low f few =
    let F = r.first in
    let C = r.count in
    let I = r.indent in
    let A = flag_of r.address in
    rw (
      word_first F C I A k f.first f.count,
      word_count F C I A k f.first f.count,
      word-indent F C I A k f.first f.count f.indent,
      word-addressed F C I A k f.first f.count f.indent (flag_low r.address),
      word_origin F C I A k f.first f.count f.indent (flag_low r.address) low,
    )

-- ---- a turn

module _ {tape plain : List ℕ} {records : List LineRecord} {s : LoadState} (long : 1024 ≤ length plain) (enough : 256 ≤ length records)
    (g : Going tape plain records s) where
  abbrev t : Totals
  t = s.totals

  abbrev last : ℕ
  last = s.totals.lines - 1

  abbrev line : LineRecord
  line = get_or records last blank

  module _ {c : Command} (stands : Stands tape s.at c) (passes : Passes (drop s.at tape) (totals_of s.totals)) where
    turn_at : Turn tape plain g.lines g.addresses s.at t c
    turn_at =
        record {
          filled = g.filled;
          stands = stands;
          passes = passes;
          long_tokens = long;
          long_lines = g.holding.long_lines;
          long_addresses = g.holding.long_addresses;
        }

  last-inside : 0 < t.lines → last < t.lines
  last-inside b = omega arith

  last_word : 0 < t.lines → get_or g.lines last 0 ≡ word_of last line
  last_word b = (g.holding.at last (last-inside b)).word

  last-address : 0 < t.lines → (a : ℕ) → line.address ≡ std.Some a → get_or g.addresses last 0 ≡ a
  last-address b = (g.holding.at last (last-inside b)).address

  last_fits : 0 < t.lines → RecordFits line
  last_fits b = g.fitting last (last-inside b)

  last-count : 0 < t.lines → count_of (get_or g.lines (t.lines - 1) 0) ≡ line.count
  last-count b =
      let f = last_fits b in
      ap count_of (last_word b)
      ∙ word_count line.first line.count line.indent (flag_of line.address) last f.first f.count

  -- the tables with the command hold the records with it
  abbrev count_after : Command → ℕ
  count_after c = (counted c (totals_of t)).lines

  module _ (few : t.lines ≤ 256) (few_tokens : t.tokens ≤ 1024) where
    holding-after : (c : Command) → Adds s.at c t g.lines → Holding (records_after c t records) (count_after c) (lines_after c t g.lines) (addresses_after c t g.addresses)
    holding-after (Addressed address indent) a =
        let n : ℕ = t.lines in
        holding-set records n (n + 1) (line_after (Addressed address indent) t line) (get_or-set_same records n _ blank (omega (arith, a.1))) (λ j b e. omega arith) (set g.addresses n address) a.1
        (length-set g.addresses n address) (λ j e. get_or-set_other g.addresses n j address 0 e)
        (λ x e. get_or-set_same g.addresses n address 0 (omega (arith, a.1, g.holding.long_addresses)) ∙ cc) g.holding
    holding-after (Plain indent) a =
        let n : ℕ = t.lines in
        holding-set records n (n + 1) (line_after (Plain indent) t line) (get_or-set_same records n _ blank (omega (arith, a.1))) (λ j b e. omega arith) g.addresses a.1 refl (λ j e. refl)
        (λ x e. cc) g.holding
    holding-after (Marked low high) a =
        let in_lines = last-inside a.0 in
        let r : LineRecord = line_after (Marked low high) t line in
        let same : set g.lines last (word_of last r) ≡ g.lines =
        ap (set g.lines last) (sym (last_word a.0)) ∙ set-get_or g.lines last 0 in
        rw same at
        (holding-set records last t.lines r (get_or-set_same records last r blank (omega arith)) (λ j h e. h) g.addresses (omega arith) refl (λ j e. refl) (last-address a.0) g.holding)
    holding-after (Token kind count) a =
        let b = a.3 in
        let in_lines = last-inside b in
        let r : LineRecord = line_after (Token kind count) t line in
        let word : longer (get_or g.lines last 0) ≡ word_of last r =
        ap longer (last_word b) ∙ longer-word last line (omega arith) (last_fits b) (omega (arith, last-count b, a.4)) in
        rw word
        (holding-set records last t.lines r (get_or-set_same records last r blank (omega arith)) (λ j h e. h) g.addresses (omega arith) refl (λ j e. refl) (last-address b) g.holding)
    holding-after End a = rw (set-get_or records last blank) g.holding

    fitting-after : (c : Command) → Adds s.at c t g.lines → Fitting (records_after c t records) (count_after c)
    fitting-after (Addressed address indent) a =
        fitting-set records t.lines (t.lines + 1) _ (get_or-set_same records t.lines _ blank (omega (arith, a.1))) (λ j b e. omega arith) g.fitting
        (record { first = omega arith; count = omega arith; indent = a.0 })
    fitting-after (Plain indent) a =
        fitting-set records t.lines (t.lines + 1) _ (get_or-set_same records t.lines _ blank (omega (arith, a.1))) (λ j b e. omega arith) g.fitting
        (record { first = omega arith; count = omega arith; indent = a.0 })
    fitting-after (Marked low high) a =
        let f = last_fits a.0 in
        let in_lines = last-inside a.0 in
        fitting-set records last t.lines (line_after (Marked low high) t line) (get_or-set_same records last _ blank (omega arith)) (λ j h e. h) g.fitting
        (record { first = f.first; count = f.count; indent = f.indent })
    fitting-after (Token kind count) a =
        let f = last_fits a.3 in
        let in_lines = last-inside a.3 in
        fitting-set records last t.lines (line_after (Token kind count) t line) (get_or-set_same records last _ blank (omega arith)) (λ j h e. h) g.fitting
        (record { first = f.first; count = omega (arith, last-count a.3, a.4); indent = f.indent })
    fitting-after End a = rw (set-get_or records last blank) g.fitting

  -- ---- a turn: the command at the offset passed, and was taken

  module _ {c : Command} (stands : Stands tape s.at c) {s' : LoadState}
      (passed : Passed (advance_to tape s.at c s') ≡ read_command tape s.at (totals_of t)) where
    allowed : Passes (drop s.at tape) (totals_of t) × (advance_to tape s.at c s' ≡ advance tape s.at (totals_of t))
    allowed = command_passed tape s.at (totals_of t) _ (sym passed)

    here : Turn tape plain g.lines g.addresses s.at t c
    here = turn_at stands allowed.0

    next-is : advance_to tape s.at c s' ≡ advanced old tape s.at (totals_of t) c
    next-is = allowed.1 ∙ advanced_same old tape s.at (totals_of t) stands

    at_is : s'.at ≡ s.at + size_of c
    at_is = ap (λ (a : Q.Advance). a.next) next-is

    pub totals_are : totals_of s'.totals ≡ counted c (totals_of t)
    totals_are = ap (λ (a : Q.Advance). a.totals) next-is

    pub going_more : ends c ≡ false → Bytes tape → Going tape (tokens_after s.at c t plain) (records_after c t records) s'
    going_more goes bytes =
        let a = turn_adds here in
        let room = turn_room here in
        let added : Added s.at c t plain g.lines g.addresses (tokens_after s.at c t plain) (lines_after c t g.lines) (addresses_after c t g.addresses) =
        record { tokens_are = refl; lines_are = refl; addresses_are = refl } in
        let count-is : s'.totals.lines ≡ count_after c = ap (λ (q : Q.Totals). q.lines) totals_are in
        record {
          lines = lines_after c t g.lines;
          addresses = addresses_after c t g.addresses;
          filled = rw at_is (turn_more here goes added totals_are);
          holding = rw count-is (holding-after room.few_lines room.few_tokens c a);
          fitting = rw count-is (fitting-after room.few_lines room.few_tokens c a);
          noted =
              noted_more g.noted {c = c} stands (turn_passed here) room.few_lines enough bytes (turn_begun here) (turn_counts here) goes at_is totals_are;
        }

  -- ---- what the totals allow

  limits : Kept (record { at = s.at; totals = totals_of t; lines = g.filled.reads.lines; marks = g.filled.reads.marks })
  limits = kept tape g.filled.reads.reached

  pub going-loadable : {tokens : List ℕ} → Bytes tape → 1024 ≤ length tokens → Loadable tape s tokens records
  going-loadable bytes many =
      record {
        bytes = bytes;
        near = omega (arith, limits.place);
        few_lines = limits.few_lines;
        few_tokens = limits.few_tokens;
        short_text = limits.short_text;
        short_line = λ b. omega (arith, last-count b, g.filled.table.last b);
        begun = λ e. (let f = limits.fresh e in omega (arith, limits.lines, ap length f.lines_are, length-append f.above (f.last ∷ [])));
        long_tokens = many;
        long_records = enough;
      }

  -- ---- FF

  pub going-ends : {tokens : List ℕ} {a : Q.Advance} → Recodes tape (take t.tokens plain) (take t.tokens tokens)
      → Passed a ≡ read_command tape s.at (totals_of t) → Q.is_end a.command ≡ true → Recorded tape tokens records t
  going-ends coded passed over =
      record {
        loaded = λ lines addresses h. loaded-held limits.few_lines g.fitting g.holding h (loaded_recoded coded (filled-ends g.filled long passed over));
        fitting = g.fitting;
        few = limits.few_lines;
        marks = noted-ends g.noted passed over;
      }

-- ---- the loop: the tokens' words are coded, each as it is laid

pub record Loading (tape tokens : List ℕ) (records : List LineRecord) (s : LoadState) : Type 0 where
  pub bytes : Bytes tape
  pub plain : List ℕ
  pub long_plain : 1024 ≤ length plain
  pub long_tokens : 1024 ≤ length tokens
  pub long_records : 256 ≤ length records
  pub going : Going tape plain records s
  pub coded : (k : ℕ) → k < s.totals.tokens → Recoded tape (get_or plain k 0) (get_or tokens k 0)

pub loading_start : (tape tokens : List ℕ) (records : List LineRecord) → Bytes tape → 1024 ≤ length tokens → 256 ≤ length records
    → Loading tape tokens records START
loading_start tape tokens records bytes many enough =
    record {
      bytes = bytes;
      plain = tokens;
      long_plain = many;
      long_tokens = many;
      long_records = enough;
      going = going_start tape tokens records;
      coded = λ k b. absurd (omega arith);
    }

module _ {tape tokens : List ℕ} {records : List LineRecord} {s : LoadState} (l : Loading tape tokens records s) where
  pub loading-loadable : Loadable tape s tokens records
  loading-loadable = going-loadable l.long_plain l.long_records l.going l.bytes l.long_tokens

  abbrev CodedTo : ℕ → List ℕ → List ℕ → Type 0
  CodedTo n ws us = (k : ℕ) → k < n → Recoded tape (get_or ws k 0) (get_or us k 0)

  -- the words with a command more
  coded-after : (c : Command) (n : ℕ) (tokens' : List ℕ) → Worded tape s.at c s.totals tokens tokens' → n ≡ (counted c (totals_of s.totals)).tokens → Counts c s.totals
      → CodedTo n (tokens_after s.at c s.totals l.plain) tokens'
  coded-after (Addressed address indent) n tokens' w e counts k b = rw w (l.coded k (omega arith))
  coded-after (Plain indent) n tokens' w e counts k b = rw w (l.coded k (omega arith))
  coded-after (Marked low high) n tokens' w e counts k b = rw w (l.coded k (omega arith))
  coded-after (Token kind count) n tokens' w e counts k b = rw w.2
      (by_cases (ℕ_discrete k s.totals.tokens)
      (λ h. rw (h, get_or-set_same l.plain s.totals.tokens _ 0 (omega (arith, counts.0, l.long_plain)), get_or-set_same tokens s.totals.tokens w.0 0 (omega (arith, counts.0, l.long_tokens))) w.1)
      (λ h. rw (get_or-set_other l.plain s.totals.tokens k _ 0 h, get_or-set_other tokens s.totals.tokens k w.0 0 h) (l.coded k (omega (arith, h)))))
  coded-after End n tokens' w e counts k b = rw w (l.coded k (omega arith))

  long-after : (c : Command) → 1024 ≤ length (tokens_after s.at c s.totals l.plain)
  long-after (Addressed address indent) = l.long_plain
  long-after (Plain indent) = l.long_plain
  long-after (Marked low high) = l.long_plain
  long-after (Token kind count) = rw length-set l.long_plain
  long-after End = l.long_plain

  long-worded : (c : Command) (tokens' : List ℕ) → Worded tape s.at c s.totals tokens tokens' → 1024 ≤ length tokens'
  long-worded (Addressed address indent) tokens' w = rw w l.long_tokens
  long-worded (Plain indent) tokens' w = rw w l.long_tokens
  long-worded (Marked low high) tokens' w = rw w l.long_tokens
  long-worded (Token kind count) tokens' w = rw (w.2, length-set) l.long_tokens
  long-worded End tokens' w = rw w l.long_tokens

  module _ {tokens' : List ℕ} {records' : List LineRecord} {s' : LoadState} (p : StepLoads tape s tokens records tokens' records' s') where
    pub loading_more : Loading tape tokens' records' s'
    loading_more =
        let c = p.command in
        let t = s.totals in
        let at-c = stands p.stands in
        let goes : ends c ≡ false = sym (ends_same old tape s.at c) ∙ p.passed.ends in
        let turn = here l.long_plain l.long_records l.going at-c p.passed.passes in
        let totals = totals_are l.long_plain l.long_records l.going at-c p.passed.passes in
        record {
          bytes = l.bytes;
          plain = tokens_after s.at c t l.plain;
          long_plain = long-after c;
          long_tokens = long-worded c tokens' p.worded;
          long_records = rw (p.records_are, length-set) l.long_records;
          going = rw p.records_are (going_more l.long_plain l.long_records l.going at-c p.passed.passes goes l.bytes);
          coded = coded-after c _ tokens' p.worded (ap (λ (q : Q.Totals). q.tokens) totals) (turn_counts turn);
        }

    pub loading-less : length tape - s'.at < length tape - s.at
    loading-less = let m = moves l.going.filled.reads p.passed.passes in omega arith

  -- FF changes nothing
  pub loading-recorded : {tokens' : List ℕ} {records' : List LineRecord} → LoadEnds tape s tokens records tokens' records'
      → Recorded tape tokens' records' s.totals
  loading-recorded p =
      let few = loading-loadable.few_tokens in
      let n : ℕ = s.totals.tokens in
      let a : length (take n l.plain) ≡ n = length-take-le n l.plain (omega (arith, l.long_plain)) in
      let b : length (take n tokens) ≡ n = length-take-le n tokens (omega (arith, l.long_tokens)) in
      let coded : Recodes tape (take n l.plain) (take n tokens) =
      record {
        long = b ∙ sym a;
        at = λ k h. (let low : k < n = omega arith in rw (get_or-take n l.plain k 0 low, get_or-take n tokens k 0 low) (l.coded k low));
      } in
      rw (p.same.tokens_are, p.same.records_are) (going-ends l.long_plain l.long_records l.going coded p.passed.passes p.passed.ends)

  pub loading-verdict : (a : Q.Advance) → ReadOne old tape s.at (totals_of s.totals) true a → Passed (sizes_of s.totals) ≡ VerdictBy old tape
  loading-verdict a p = let r = l.going.filled.reads in ap Passed (sizes_are r) ∙ verdict_passed old tape (read_ended r (a, p))

  pub loading-refused : {n p : ℕ} → Refused n p ≡ read_command tape s.at (totals_of s.totals) → Refused n p ≡ VerdictBy old tape
  loading-refused e = verdict_refused old tape (read_refused l.going.filled.reads e)
