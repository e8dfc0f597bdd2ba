-- What a command needs to be taken, where it passed the questions and the totals are within the limits; and that a token which the memo knows passes
-- them. Assumes nothing.
use Prim.Native.Nat.{ℕ, ◌+◌, ◌^◌, ◌≤◌, ◌<◌}
use native.Mathlib.Omega.{arith}
use mathlib.Core.Path.{◌≡◌, refl, sym, ap, ◌∙◌}
use mathlib.Core.List.{List, [], ◌++◌}
use lib.ListN.{length, take, drop, set, length-append, take-append-drop}
use lib.Seq.{drop-drop, take-append_seam}
use borrow.Author.Tests.{leb-true, le-leb}
use Rattle.reference.specs.Listing as L
use Rattle.reference.specs.Listing.{token}
use Rattle.reference.specs.Tape.{old, new_token, write_command, command_by, to_le_bytes, write_command_by}
use Rattle.reference.specs.Questions.{has_line, is_few, is_short, is_over, Passed}
use Rattle.reference.proofs.Cases.{both}
use Rattle.reference.proofs.Commands as R
use Rattle.reference.proofs.LittleEndian.{bytes_drop}
use Rattle.reference.proofs.Reading.{Passes, pass_command}
use Rattle.lines.specs.Words.{kind_of, len_of, word, Recoded}
use Rattle.lines.proofs.words.Tokens.{word-means}
use Rattle.tape.specs.Questions.{totals_of, counted, Counts}
use Rattle.tape.specs.declared.commands.Command.{Command}
use Rattle.tape.specs.declared.commands.Command.TheVariants.{Addressed, Plain, Marked, Token, End}
use Rattle.tape.proofs.commands.Standing.{Stands, found_by}
use Rattle.tape.proofs.questions.Asking.{advanced_same, within-counts}
use Rattle.tables.specs.Memo.{TokenAt, Recalled}
use Rattle.tables.specs.Records.{Lays, TakesToken, Loadable, StepLoads, records_after}
use Rattle.tables.specs.declared.loading.LoadState.{LoadState}
use Rattle.tables.specs.declared.records.LineRecord.{LineRecord}

-- ---- a command that passed

-- its text is as long as its count says
token_sized : {tape : List ℕ} {at kind count : ℕ} → Stands tape at (Token kind count)
    → (3 + count ≡ 3 + length (take count (drop (at + 3) tape))) × (kind < 8)
token_sized {tape} {at} s = rw (← s.same, ← s.size) at (R.sized (drop at tape) s.known s.inside)

module _ {tape : List ℕ} {s : LoadState} {tokens : List ℕ} {records : List LineRecord} (l : Loadable tape s tokens records) where
  pub lays : (c : Command) → Stands tape s.at c → Passes (drop s.at tape) (totals_of s.totals) → Lays c s.totals records
  unfolding has_line is_few
  lays (Addressed address indent) st p = let few = rw (← st.same) at p.few in omega (arith, leb-true (s.totals.lines + 1) 256 few, l.long_records)
  lays (Plain indent) st p = let few = rw (← st.same) at p.few in omega (arith, leb-true (s.totals.lines + 1) 256 few, l.long_records)
  lays (Marked low high) st p = let begun = rw (← st.same) at p.begun in (l.begun (both begun).0, omega (arith, l.few_lines, l.long_records))
  lays (Token kind count) st p =
      let begun = rw (← st.same) at p.begun in
      let few = rw (← st.same) at p.few in
      let some : 0 < s.totals.lines = omega (arith, leb-true 1 s.totals.lines begun) in
      (some, omega (arith, l.few_lines, l.long_records), omega (arith, l.short_line some, leb-true (s.totals.tokens + 1) 1024 few))
  lays End st p = tt

  pub takes : (c : Command) → Stands tape s.at c → Passes (drop s.at tape) (totals_of s.totals) → TakesToken tape s.at c s.totals tokens
  takes (Addressed address indent) st p = tt
  takes (Plain indent) st p = tt
  takes (Marked low high) st p = tt
  takes (Token kind count) st p =
      let rest : List ℕ = drop s.at tape in
      let z = token_sized st in
      let counts : Counts (Token kind count) s.totals = within-counts old tape s.at s.totals st (rw st.same p.few) (rw st.same p.short) in
      let long : length (take count (drop (s.at + 3) tape)) ≡ count = omega (arith, z.0) in
      let back = rw (← st.same, ← st.size) at (R.write_of-read rest (bytes_drop s.at tape l.bytes) st.known st.inside) in (
        record {
          stands = record { low = z.1; stands = rw long (sym back) };
          good = record { within = rw st.same p.within; printable = rw st.same p.printable };
          long = long;
          near = omega (arith, counts.1, l.near, l.few_lines, l.few_tokens);
          early = omega (arith, l.near, l.short_text, l.few_lines, l.few_tokens);
        },
        omega (arith, counts.0, l.long_tokens),
      )
  takes End st p = tt

-- ---- a token that the memo knows

-- its command, followed by other bytes
laid_out : (t : L.Token) (more : List ℕ) → (drop 3 (write_command (new_token t) ++ more) ≡ t.text ++ more) × (length (write_command (new_token t)) ≡ 3 + length t.text)
unfolding write_command_by to_le_bytes
laid_out t more = (refl, omega arith)

module _ {tape : List ℕ} {at : ℕ} {t : L.Token} (k : TokenAt tape at t) (short : length t.text < 2 ^ 16) where
  abbrev rest : List ℕ
  rest = drop at tape

  abbrev more : List ℕ
  more = drop (3 + length t.text) rest

  parted : write_command (new_token t) ++ more ≡ rest
  parted = ap (λ (s : List ℕ). s ++ more) (sym k.stands) ∙ take-append-drop (3 + length t.text) rest

  token_read : R.ReadBackBy old rest (new_token t)
  token_read = rw parted at (R.read_of-write {form = old} (new_token t) more (k.low, short))

  token_text : take (length t.text) (drop (at + 3) tape) ≡ t.text
  token_text =
      ap (take (length t.text)) (sym (drop-drop 3 at tape) ∙ ap (drop 3) (sym parted) ∙ (laid_out t more).0) ∙ take-append_seam t.text more

  token_stands : Stands tape at (Token t.kind (length t.text))
  token_stands =
      let b = token_read in
      let w : List ℕ = write_command (new_token t) in
      let long : length rest ≡ length w + length more = ap length (sym parted) ∙ length-append w more in
      record {
        known = R.form_of rest b.known;
        inside = omega (arith, b.size, long);
        same = ap (λ (s : List ℕ). new_token (token t.kind s)) token_text ∙ sym b.same;
        size = omega (arith, b.size, (laid_out t more).1);
      }

module _ {tape : List ℕ} {s : LoadState} {tokens : List ℕ} {records : List LineRecord} (l : Loadable tape s tokens records) {w : ℕ} (r : Recalled tape s.at w) where
  abbrev c : Command
  c = Token (kind_of w) (len_of w)

  pub recalled_early : s.at + 8 < 65536
  recalled_early = omega (arith, l.near, l.short_text, l.few_lines, l.few_tokens)

  kind-is : kind_of w ≡ r.token.kind
  kind-is =
      let u = r.token in
      ap (λ (x : L.Token). x.kind)
      (r.recoded.means []
      ∙ word-means u.kind 0 (s.at + 3) (length u.text) r.stands.low (omega arith) (omega (arith, recalled_early)) (omega (arith, r.short)) tape [])

  recalled-stands : Stands tape s.at c
  recalled-stands = rw (kind-is, r.len) (token_stands r.stands (omega (arith, r.short)))

  recalled-worded : Recoded tape (word (kind_of w) 0 (s.at + 3) (len_of w)) w
  recalled-worded = rw (kind-is, r.len) r.recoded

  module _ (some : 1 ≤ s.totals.lines) (few : s.totals.tokens < 1024) (short : s.totals.text ≤ 24571) where
    same : command_by old (drop s.at tape) ≡ new_token r.token
    same = (token_read r.stands (omega (arith, r.short))).same

    recalled-passes : Passes (drop s.at tape) (totals_of s.totals)
    unfolding has_line is_few is_short is_over
    recalled-passes =
        record {
          known = recalled-stands.known;
          inside = recalled-stands.inside;
          begun = rw same (le-leb 1 s.totals.lines some);
          within = rw same r.good.within;
          few = rw same (le-leb (s.totals.tokens + 1) 1024 (omega arith));
          short = rw same (le-leb (s.totals.text + length r.token.text) 24576 (omega (arith, r.short)));
          printable = rw same r.good.printable;
          over = rw same refl;
        }

    -- it is taken
    module _ {records' : List LineRecord} {s' : LoadState} where
      taken : records' ≡ records_after c s.totals records → s'.at ≡ s.at + (3 + len_of w) → totals_of s'.totals ≡ counted c (totals_of s.totals)
          → StepLoads tape s tokens records (set tokens s.totals.tokens w) records' s'
      taken e at_is totals_are =
          let read = pass_command tape s.at (totals_of s.totals) recalled-passes in
          record {
            command = c;
            stands = found_by recalled-stands;
            passed =
                record {
                  passes = rw (at_is, totals_are) (sym (read ∙ ap Passed (advanced_same old tape s.at (totals_of s.totals) recalled-stands)));
                  ends = refl;
                };
            worded = (w, recalled-worded, refl);
            records_are = e;
          }

      pub known_step : {n : ℕ} → n ≡ len_of w → records' ≡ records_after (Token (kind_of w) n) s.totals records → s'.at ≡ s.at + (3 + n)
          → totals_of s'.totals ≡ counted (Token (kind_of w) n) (totals_of s.totals) → StepLoads tape s tokens records (set tokens s.totals.tokens w) records' s'
      known_step en e at_is totals_are = taken e (rw en at at_is) (rw en at totals_are)
