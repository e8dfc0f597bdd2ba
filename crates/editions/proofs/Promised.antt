-- REQUEST M-103'S PROMISES. Assumes nothing.
use Prim.Native.Nat.{ℕ, ◌≤◌}
use native.Mathlib.Omega.{arith}
use mathlib.Core.Path.{◌≡◌, refl, sym, ap, ◌∙◌}
use mathlib.Core.Bool.{Bool, true, false}
use mathlib.Core.List.{List}
use mathlib.Core.Option.{Option, none, some}
use lib.ListN.{length}
use borrow.Author.Tests.{le-leb, leb-true}
use Rattle.reference.specs.Control.{let_some◌else◌then◌}
use Rattle.reference.specs.Listing.{Token, Listing}
use Rattle.reference.specs.Tape.{write}
use Rattle.reference.specs.Questions.{Answer, Refused, Passed, read, marks_in}
use Rattle.reference.proofs.Opened.{opened}
use Rattle.reference.proofs.Cases.{by-some, true-false}
use Rattle.reference.proofs.LittleEndian.{Bytes}
use Rattle.reference.proofs.Reading.{refused_passed, passed_inj, ask-yes, ask_passed, by_passed, let_is}
use Rattle.reference.proofs.Tapes.{write_read, read_fits, read-marks_fit}
use Rattle.reference.proofs.Written.{read-write}
use Rattle.editions.specs.Numbers.{without_quotes, as_hexadecimal, down_constant, down_text, begins_binary, is_newer, has_no_older}
use Rattle.editions.specs.Conversion.{down_token, up_token, is_newer_number, earns_12, earns_13, change, holds}
use Rattle.editions.specs.Conversion.{of_command, first_place, converted, to_2018, to_2024}
use Rattle.editions.specs.Promises.{OnNumbers, Lowered, Leftmost, OnTapes}
use Rattle.editions.proofs.Lowering as numbers
use Rattle.editions.proofs.Listings.{change-length, write-shorter, change-fits, change_same, change_clear, holds_implies}
use Rattle.editions.proofs.Listings.{down-short, down_fit, down_same, down_clear, newer_earns}
use Rattle.editions.proofs.Places.{clean, no_place}
use Rattle.editions.proofs.Leftmost.{leftmost}

pub on-numbers : OnNumbers
unfolding opened without_quotes as_hexadecimal down_constant down_text begins_binary is_newer has_no_older
on-numbers =
    record {
      same_value = numbers.same_value;
      is_2018 = numbers.is_2018;
      no_longer = numbers.no_longer;
      kept = numbers.kept;
      none_newer = numbers.none_newer;
      ten = refl;
      zero = refl;
      minus = refl;
      capital = refl;
      octal = refl;
      eight = (refl, refl);
      suffix = (refl, refl);
      plus = ((refl, refl), (refl, refl));
      two_minuses = ((refl, refl), (refl, refl));
      large = (refl, refl);
      no_digits = (refl, refl);
      two_quotes = (refl, refl);
      large_quoted = refl;
    }

-- ---- a conversion that passes

record Passing (refused : Token → Bool) (f : Token → Token) (tape : List ℕ) (output : ℕ) (new : List ℕ) : Type 0 where
  room : length tape ≤ output
  lines : Listing
  reads : read tape ≡ Passed lines
  nowhere : first_place (of_command refused) (length tape) tape 0 ≡ none
  written : write (change f lines) (marks_in tape) ≡ new

module _ (number : ℕ) (refused : Token → Bool) (f : Token → Token) (tape : List ℕ) (output : ℕ) where
  passing : (new : List ℕ) → converted number refused f tape output ≡ Passed new → Passing refused f tape output new
  unfolding converted
  passing new e =
      let a = ask_passed _ _ _ new e in
      by_passed (λ (x : Answer (List ℕ)). x ≡ Passed new → Passing refused f tape output new)
      (λ n place u e. absurd (refused_passed e))
      (λ lines r e.
      by-some (λ (x : Answer (List ℕ)). x ≡ Passed new → Passing refused f tape output new)
      (λ n e. record { room = leb-true _ _ a.0.0; lines = lines; reads = r; nowhere = n; written = passed_inj e })
      (λ at n e. absurd (refused_passed e))
      e)
      a.1

  passes : (lines : Listing) → length tape ≤ output → read tape ≡ Passed lines → holds refused lines ≡ false
      → converted number refused f tape output ≡ Passed (write (change f lines) (marks_in tape))
  unfolding converted let_some◌else◌then◌
  passes lines h r c = ask-yes _ _ _ (le-leb _ _ h, tt) ∙ let_is _ r ∙ rw (no_place refused tape lines r c) refl

  accepted_none : (new : List ℕ) (lines : Listing) → converted number refused f tape output ≡ Passed new → read tape ≡ Passed lines → holds refused lines ≡ false
  accepted_none new lines e r = clean refused tape lines r (passing new e).nowhere

  refuses : (lines : Listing) → read tape ≡ Passed lines → length tape ≤ output → holds refused lines ≡ true
      → (place : ℕ) × (converted number refused f tape output ≡ Refused number place)
  unfolding converted let_some◌else◌then◌
  refuses lines r h held = found (first_place (of_command refused) (length tape) tape 0) refl
    where
      found : (o : Option ℕ) → first_place (of_command refused) (length tape) tape 0 ≡ o
          → (place : ℕ) × (converted number refused f tape output ≡ Refused number place)
      found none e = absurd (true-false held (clean refused tape lines r e))
      found (some at) e = (at, ask-yes _ _ _ (le-leb _ _ h, tt) ∙ let_is _ r ∙ rw e refl)

  refused_at : (lines : Listing) {n place : ℕ} → length tape ≤ output → read tape ≡ Passed lines
      → converted number refused f tape output ≡ Refused n place → (n ≡ number) × Leftmost refused tape place
  unfolding converted
  refused_at lines {n} {place} h r e =
      by-some (λ (x : Answer (List ℕ)). x ≡ Refused n place → (n ≡ number) × Leftmost refused tape place)
      (λ found e. absurd (refused_passed (sym e)))
      (λ at found e.
      (let there : at ≡ place = cc in
      let same : n ≡ number = cc in
      (same, leftmost tape refused lines r (found ∙ ap some there))))
      (sym (let_is _ r) ∙ sym (ask-yes _ _ _ (le-leb _ _ h, tt)) ∙ e)

-- ---- tapes

pub up_kept : (t : Token) → earns_12 t ≡ false → up_token t ≡ t
unfolding up_token
up_kept t h = refl

down_identity : (tape : List ℕ) (output : ℕ) (lines : Listing) → Bytes tape → read tape ≡ Passed lines → holds is_newer_number lines ≡ false
    → length tape ≤ output → to_2018 tape output ≡ Passed tape
down_identity tape output lines b r h k =
    passes 13 earns_13 down_token tape output lines k r (holds_implies is_newer_number earns_13 newer_earns lines h)
    ∙ ap Passed
    (ap (λ (l : Listing). write l (marks_in tape)) (change_same down_token is_newer_number down_same lines h) ∙ write_read tape lines b r)

up_identity : (tape : List ℕ) (output : ℕ) (new : List ℕ) → Bytes tape → to_2024 tape output ≡ Passed new → new ≡ tape
up_identity tape output new b e =
    let p = passing 12 earns_12 up_token tape output new e in
    sym p.written
    ∙ ap (λ (l : Listing). write l (marks_in tape))
    (change_same up_token earns_12 up_kept p.lines (clean earns_12 tape p.lines p.reads p.nowhere))
    ∙ write_read tape p.lines b p.reads

up-accepted : (tape : List ℕ) (output : ℕ) (lines : Listing) → Bytes tape → read tape ≡ Passed lines → length tape ≤ output → holds earns_12 lines ≡ false
    → to_2024 tape output ≡ Passed tape
up-accepted tape output lines b r h k =
    passes 12 earns_12 up_token tape output lines h r k
    ∙ ap Passed (ap (λ (l : Listing). write l (marks_in tape)) (change_same up_token earns_12 up_kept lines k) ∙ write_read tape lines b r)

lowering : (tape : List ℕ) (output : ℕ) (new : List ℕ) → Bytes tape → to_2018 tape output ≡ Passed new → Lowered tape new
lowering tape output new b e =
    let p = passing 13 earns_13 down_token tape output new e in
    let lines = p.lines in
    let fits = change-fits down_token down-short down_fit lines (read_fits tape lines b p.reads) in
    let marks = read-marks_fit tape lines b p.reads in
    let back = read-write (change down_token lines) (marks_in tape) fits marks.0 (marks.1 ∙ sym (change-length down_token lines)) in
    record {
      listing = lines;
      was_read = p.reads;
      reads_back = ap read (sym p.written) ∙ back.0;
      marks = ap marks_in (sym p.written) ∙ back.1;
      older = change_clear down_token earns_13 is_newer_number down_clear lines (clean earns_13 tape lines p.reads p.nowhere);
      fits =
          (let whole = ap length (write_read tape lines b p.reads) in
          omega (arith, write-shorter down_token down-short lines (marks_in tape), ap length p.written, whole));
    }

pub on_tapes : OnTapes
on_tapes =
    record {
      lowered = lowering;
      down_same = down_identity;
      up_same = up_identity;
      down_after_up =
          λ tape output output' lines new b e r h k.
          (let w : new ≡ tape = up_identity tape output new b e in
          rw w (down_identity tape output' lines b r h (rw w at k)));
      raised = λ tape output new lines e r. accepted_none 12 earns_12 up_token tape output new lines e r;
      up_refuses = λ tape output lines r h held. refuses 12 earns_12 up_token tape output lines r h held;
      up_accepts = up-accepted;
      no_13 = λ tape output new lines e r. accepted_none 13 earns_13 down_token tape output new lines e r;
      down_refuses = λ tape output lines r h held. refuses 13 earns_13 down_token tape output lines r h held;
      down_accepts = λ tape output lines r h no_13. passes 13 earns_13 down_token tape output lines h r no_13;
      down_refused = λ tape output number place lines r h e. refused_at 13 earns_13 down_token tape output lines h r e;
      up_refused = λ tape output number place lines r h e. refused_at 12 earns_12 up_token tape output lines h r e;
    }
