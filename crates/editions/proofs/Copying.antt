-- What the functions that put a tape's commands leave, and what the loop over them comes to. Assumes nothing.
use Prim.Native.Nat.{ℕ, ◌+◌, ◌≤◌}
use native.Mathlib.Omega.{arith}
use mathlib.Core.Path.{◌≡◌, refl, sym, ap, ◌∙◌}
use mathlib.Core.Bool.{true, false}
use mathlib.Core.List.{List, [], ◌∷◌, ◌++◌, map, flat_map}
use mathlib.Core.Option.{none, some}
use lib.ListN.{length, take, drop, length-append}
use lib.Seq.{take_at}
use borrow.Author.Tests.{eq-eqb, ne_eqb}
use Rattle.std.proofs.Common.{Bor}
use Rattle.reference.specs.Control.{when◌then◌else◌}
use Rattle.reference.specs.Text.{Text}
use Rattle.reference.specs.Listing.{token, is, Number, Listing}
use Rattle.reference.specs.Spans.{Marks}
use Rattle.reference.specs.Tape as Tape
use Rattle.reference.specs.Tape.{new_token, write_command, write, write_by, write_command_by, write_lines}
use Rattle.reference.specs.Questions.{Passed, read, marks_in}
use Rattle.reference.proofs.Cases.{fails, true-false, pair}
use Rattle.reference.proofs.LittleEndian.{Bytes, to_length}
use Rattle.reference.proofs.Limits.{All}
use Rattle.text.specs.Cursor.{Fits, Puts}
use Rattle.text.specs.declared.cursor.Cursor.{Cursor}
use Rattle.text.proofs.Cursors.{then_puts, puts_as, at_front}
use Rattle.tape.specs.Held.{Place, places, commands, marks_with}
use Rattle.tape.specs.Walk.{event_shown, ByteFits}
use Rattle.tape.specs.declared.walk.Event.{Event}
use Rattle.tape.specs.declared.walk.Event.TheVariants.{Line, Marks as TheMarks, Token as NewToken}
use Rattle.tape.proofs.little_endian.Bytes.{put_front, puts_written}
use Rattle.tape.proofs.walk.Written.{changed-written}
use Rattle.tape.proofs.walk.Accepted.{CommandFitsBy, accepted-commands, accepted-bytes, accepted_fit}
use Rattle.tape.proofs.walk.Places.{none-passes}
use Rattle.tape.proofs.walk.Loops.{flat_unplaced, flat_no-longer, each_place}
use Rattle.editions.specs.Numbers.{down_text, has_no_older}
use Rattle.editions.specs.Conversion.{down_token, earns_13, change, of_command}
use Rattle.editions.specs.Lowering.{down_command, Short, Lowers, Lowerable}
use Rattle.editions.proofs.Listings.{down-short}
use Rattle.editions.proofs.Asking.{earning, leftmost_is}

-- ---- a Number

-- the text of a Number, put into a slice of its own from the front on, and then as a command
module _ {p₀ p₁ : Cursor} {t text : Text} (z : p₀.at ≡ 0) (w : Puts p₀ t p₁) (e : p₁.out.now ≡ text) where
  number-text : take p₁.at text ≡ t
  number-text =
      let f = puts_written (at_front w refl z e) in
      let n : p₁.at ≡ length t = omega (arith, f.ends) in
      rw n (ap (take (length t)) (f.holds ∙ put_front p₀.out.now t) ∙ take_at t (drop (length t) p₀.out.now) (length t) refl)

  pub number-room : (p : Cursor) → Fits p (length (write_command (new_token (token 2 t))))
      → Fits p (length (write_command (new_token (token 2 (take p₁.at text)))))
  number-room p h = rw number-text h

  pub number_puts : {p q : Cursor} → Puts p (write_command (new_token (token 2 (take p₁.at text)))) q
      → Puts p (write_command (new_token (token 2 t))) q
  number_puts x = rw number-text at x

-- ---- a command

other-token : (kind : ℕ) (s : Text) → (kind ≡ 2 → ⊥) → down_token (token kind s) ≡ token kind s
unfolding down_token is when◌then◌else◌
other-token kind s n = rw (ne_eqb kind 2 n) refl

-- one that is no Number
pub other-command : (kind : ℕ) (s : Bor Text) → (kind ≡ 2 → ⊥) → down_command (event_shown (NewToken kind s)) ≡ event_shown (NewToken kind s)
other-command kind s n = ap new_token (other-token kind s.now n)

pub same_command : (e : Event) → ((kind : ℕ) (s : Bor Text) → e ≡ NewToken kind s → ⊥) → down_command (event_shown e) ≡ event_shown e
same_command (Line address indent) n = refl
same_command (TheMarks low high) n = refl
same_command (NewToken kind s) n = absurd (n kind s refl)

module _ {c : Tape.Command} {p : Cursor} (l : Lowers c p) (e : down_command c ≡ c) where
  pub same-room : ByteFits c × Fits p (length (write_command c))
  same-room = (l.byte, rw e at l.room)

  pub same-put : {p' : Cursor} → Puts p (write_command c) p' → Puts p (write_command (down_command c)) p'
  same-put w = rw e w

earns_number : (kind : ℕ) (s : Text) → kind ≡ 2 → has_no_older s ≡ true → of_command earns_13 (new_token (token kind s)) ≡ true
unfolding of_command earns_13 is
earns_number kind s k t = pair (eq-eqb kind 2 k) t

is_number : (kind : ℕ) (s : Text) → kind ≡ 2 → is Number (token kind s) ≡ true
unfolding is
is_number kind s k = eq-eqb kind 2 k

down_number : (kind : ℕ) (s : Text) → kind ≡ 2 → new_token (down_token (token kind s)) ≡ new_token (token 2 (down_text s))
unfolding down_token is when◌then◌else◌
down_number kind s k = rw k refl

module _ {kind : ℕ} {s : Text} {p : Cursor} (l : Lowers (new_token (token kind s)) p) (k : kind ≡ 2) where
  pub number-ready : (has_no_older s ≡ false) × (length s ≤ 24) × Fits p (length (write_command (new_token (token 2 (down_text s)))))
  number-ready =
      (fails (λ t. true-false (earns_number kind s k t) l.older), l.short (is_number kind s k), rw (down_number kind s k) at l.room)

  pub number_lowers : {p' : Cursor} → Puts p (write_command (new_token (token 2 (down_text s)))) p'
      → Puts p (write_command (down_command (new_token (token kind s)))) p'
  number_lowers w = rw (down_number kind s k) w

-- no command grows
command-shorter : (c : Tape.Command) → length (write_command (down_command c)) ≤ length (write_command c)
unfolding write_command_by
command-shorter (Tape.new_line address indent) = omega arith
command-shorter (Tape.marked s) = omega arith
command-shorter (Tape.new_token t) = simp (length-append, to_length) (omega (arith, down-short t))
command-shorter Tape.end = omega arith

pub short_of : (c : Tape.Command) → CommandFitsBy Tape.old c → Short c
short_of (Tape.new_line address indent) h = tt
short_of (Tape.marked s) h = tt
short_of (Tape.new_token t) h = h.0.number
short_of Tape.end h = tt

-- ---- the loop

-- what is put of a command
abbrev pub lowered : Place → List ℕ
lowered p = write_command (down_command p.1)

-- what holds of each
abbrev pub Fitting : Place → Type 0
Fitting p = CommandFitsBy Tape.old p.1

abbrev pub Older : Place → Type 0
Older p = of_command earns_13 p.1 ≡ false

same_marks : (marks : List Marks) → map (marks_with (λ a. a) (λ s. s) down_token) marks ≡ marks
same_marks [] = refl
same_marks (none ∷ ms) = ap (λ (r : List Marks). none ∷ r) (same_marks ms)
same_marks (some s ∷ ms) = ap (λ (r : List Marks). some s ∷ r) (same_marks ms)

module _ (tape : List ℕ) (lines : Listing) (b : Bytes tape) (reads : read tape ≡ Passed lines) where
  all-lowered : flat_map lowered (places tape) ≡ write_lines (change down_token lines) (marks_in tape)
  unfolding change
  all-lowered =
      flat_unplaced (λ c. write_command (down_command c)) (places tape)
      ∙ ap (flat_map (λ c. write_command (down_command c))) (accepted-commands Tape.old tape lines b reads)
      ∙ changed-written (λ a. a) (λ s. s) down_token Tape.old lines (marks_in tape)
      ∙ ap (write_lines (change down_token lines)) (same_marks (marks_in tape))

  -- there is room for them, and for the end
  pub all-room : (p : Cursor) → p.at + length tape ≤ length p.out.now → Fits p (length (flat_map lowered (places tape)) + 1)
  unfolding write_command_by
  all-room p room =
      let shorter = flat_no-longer (λ c. write_command (down_command c)) write_command command-shorter (commands tape) in
      let all = flat_unplaced (λ c. write_command (down_command c)) (places tape) in
      let whole = accepted-bytes Tape.old tape lines b reads in
      omega (arith, room, ap length all, shorter, ap length whole, length-append (flat_map write_command (commands tape)) (write_command Tape.end))

  pub all_fit : All Fitting (places tape)
  all_fit = each_place (CommandFitsBy Tape.old) (places tape) (accepted_fit Tape.old tape lines b reads)

  pub whole_put : {p p₁ p₂ : Cursor} → p.at + length tape ≤ length p.out.now → Puts p (flat_map lowered (places tape)) p₁
      → Puts p₁ (write_command Tape.end) p₂ → Puts p (write (change down_token lines) (marks_in tape)) p₂
  unfolding write_by
  whole_put room x y = puts_as (then_puts x (omega arith) y) (λ i. all-lowered i ++ write_command Tape.end)

pub all_older : (tape : List ℕ) → Lowerable tape → Bytes tape → All Older (places tape)
all_older tape k b =
    none-passes (earning false) (places tape) (sym (leftmost_is false tape k.accepted.listing b k.accepted.reads) ∙ k.nowhere)
