-- What each answer of the two calls says of the whole call. Assumes nothing.
use Prim.Native.Nat.{ℕ, ◌<◌, ◌≤◌}
use native.Mathlib.Omega.{arith}
use mathlib.Core.Path.{◌≡◌, refl, sym, ap, ◌∙◌}
use mathlib.Core.Bool.{Bool}
use mathlib.Core.List.{List, [], ◌++◌}
use mathlib.Core.Option.{none, some}
use lib.ListN.{length, drop}
use borrow.Author.Tests.{le-leb, lt-leb}
use Rattle.reference.specs.Control.{let_some◌else◌then◌}
use Rattle.reference.specs.Listing.{Token, Listing}
use Rattle.reference.specs.Tape.{write}
use Rattle.reference.specs.Questions.{Answer, Refused, Passed, read, marks_in}
use Rattle.reference.proofs.LittleEndian.{Bytes}
use Rattle.reference.proofs.Reading.{ask-yes, ask_no, let_refused, let_is}
use Rattle.reference.proofs.Tapes.{write_read}
use Rattle.answers.specs.Answers.{Writes}
use Rattle.tape.specs.Bytes.{Puts}
use Rattle.tape.specs.Questions.{AcceptedTape}
use Rattle.tape.proofs.little_endian.Bytes.{put_front}
use Rattle.editions.specs.Conversion.{up_token, earns_12, earns_13, change, of_command, first_place, converted}
use Rattle.editions.specs.Lowering.{Lowerable}
use Rattle.editions.proofs.Listings.{change_same}
use Rattle.editions.proofs.Places.{clean}
use Rattle.editions.proofs.Promised.{up_kept}

module _ (number : ℕ) (refused : Token → Bool) (f : Token → Token) (tape out : List ℕ) where
  abbrev answer : Answer (List ℕ)
  answer = converted number refused f tape (length out)

  refuses : {n p : ℕ} → answer ≡ Refused n p → Writes answer out out (Refused n p)
  refuses e = rw e (record { reply_is = refl; output_is = refl })

  pub no_room : length out < length tape → Writes answer out out (Refused 2 0)
  unfolding converted
  no_room h = refuses (ask_no _ [] (2, _) [] _ tt (lt-leb _ _ h))

  module _ (h : length tape ≤ length out) where
    pub not-accepted : {n p : ℕ} → read tape ≡ Refused n p → Writes answer out out (Refused n p)
    unfolding converted
    not-accepted e = refuses (ask-yes _ _ _ (le-leb _ _ h, tt) ∙ let_refused _ e)

    module _ (k : AcceptedTape tape) where
      pub earned_at : {at : ℕ} → some at ≡ first_place (of_command refused) (length tape) tape 0
          → Writes answer out out (Refused number at)
      unfolding converted let_some◌else◌then◌
      earned_at e = refuses (ask-yes _ _ _ (le-leb _ _ h, tt) ∙ let_is _ k.reads ∙ rw (← e) refl)

      passed : none ≡ first_place (of_command refused) (length tape) tape 0
          → answer ≡ Passed (write (change f k.listing) (marks_in tape))
      unfolding converted let_some◌else◌then◌
      passed e = ask-yes _ _ _ (le-leb _ _ h, tt) ∙ let_is _ k.reads ∙ rw (← e) refl

      pub finished : {out' : List ℕ} {n : ℕ} → none ≡ first_place (of_command refused) (length tape) tape 0
          → Puts out 0 (write (change f k.listing) (marks_in tape)) out' n → Writes answer out out' (Passed n)
      finished {out'} {n} e p =
          let m : n ≡ length (write (change f k.listing) (marks_in tape)) = omega (arith, p.ends) in
          rw (passed e)
          (record { reply_is = ap Passed m; output_is = p.holds ∙ put_front out (write (change f k.listing) (marks_in tape)) })

-- going down
pub lowerable : (tape : List ℕ) → AcceptedTape tape → none ≡ first_place (of_command earns_13) (length tape) tape 0 → Lowerable tape
lowerable tape k e = record { accepted = k; nowhere = sym e }

-- going up: the tape itself
pub copied-up : (tape out : List ℕ) {out' : List ℕ} (k : AcceptedTape tape) → Bytes tape
    → none ≡ first_place (of_command earns_12) (length tape) tape 0
    → out' ≡ tape ++ drop (length tape) out → Puts out 0 (write (change up_token k.listing) (marks_in tape)) out' (length tape)
copied-up tape out k b e p =
    let lines = k.listing in
    let kept : change up_token lines ≡ lines = change_same up_token earns_12 up_kept lines (clean earns_12 tape lines k.reads (sym e)) in
    let same : write (change up_token lines) (marks_in tape) ≡ tape =
    ap (λ (l : Listing). write l (marks_in tape)) kept ∙ write_read tape lines b k.reads in
    rw same (record { holds = p ∙ sym (put_front out tape); ends = omega arith })
