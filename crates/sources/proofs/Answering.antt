-- The calls: what each question's answer, and what was written, say of the call. Assumes nothing.
use Prim.Native.Nat.{ℕ, ◌≤◌, ◌<◌}
use native.Mathlib.Omega.{arith}
use mathlib.Core.Path.{◌≡◌, refl, sym, ap, ◌∙◌}
use mathlib.Core.List.{List, [], ◌++◌, map}
use lib.ListN.{length, drop}
use borrow.Author.Tests.{le-leb, lt-leb}
use Rattle.reference.specs.Listing.{Listing}
use Rattle.reference.specs.Rules.{Rules}
use Rattle.reference.specs.Run.{finished}
use Rattle.reference.specs.Marks.{finished_marks}
use Rattle.reference.specs.Tape.{write}
use Rattle.reference.specs.Questions.{Refused, Passed, read, marks_in}
use Rattle.reference.specs.Reply as R
use Rattle.reference.specs.Reply.{reply}
use Rattle.reference.proofs.LittleEndian.{Bytes}
use Rattle.reference.proofs.Reading.{ask-yes, ask_no, let_refused, let_is, refused_passed, passed_inj}
use Rattle.reference.proofs.Guarantee.{Answered, answered}
use Rattle.answers.specs.Answers.{Writes}
use Rattle.tape.specs.Bytes.{Puts}
use Rattle.tape.specs.Held.{commands, held, marks_of}
use Rattle.tape.specs.Questions.{AcceptedTape}
use Rattle.clean.specs.Replies.{Summary, summary, Leaves}
use Rattle.offsets.proofs.Answering.{refused_call, written-call}
use Rattle.sources.specs.Only.{COPY, only_tape, only_reply}
use Rattle.sources.specs.Calls.{CopyOf, flag_of, in_place_of, FlagsCleaned}
use Rattle.sources.proofs.Cleaned.{cleaned-few, cleaned-marks}

-- ---- the copy

module _ (k : ℕ) (tape : List ℕ) (output : ℕ) where
  pub only-small : output < 34561 → only_reply k tape output ≡ Refused 2 0
  unfolding only_reply
  only-small h = ask_no _ [] _ [] _ tt (lt-leb COPY output h)

  module _ (room : 34561 ≤ output) where
    pub only_refused : {n p : ℕ} → read tape ≡ Refused n p → only_reply k tape output ≡ Refused n p
    unfolding only_reply
    only_refused e = ask-yes _ _ _ (le-leb COPY output room, tt) ∙ let_refused _ e

    pub only_passed : {lines : Listing} → read tape ≡ Passed lines → only_reply k tape output ≡ Passed (only_tape k lines)
    unfolding only_reply
    only_passed e = ask-yes _ _ _ (le-leb COPY output room, tt) ∙ let_is _ e

pub only-written : (k : ℕ) (tape out : List ℕ) {out' : List ℕ} {end : ℕ} → AcceptedTape tape → 34561 ≤ length out → CopyOf k tape out out' end
    → Writes (only_reply k tape (length out)) out out' (Passed end)
only-written k tape out a room c = written-call (only_passed k tape (length out) room a.reads) (c a.listing a.reads)

-- ---- the cleaning of an accepted tape, and its flags

module _ (rules : Rules) (tape work_a work_b out : List ℕ) where
  abbrev answer : R.Reply
  answer = reply rules tape (length work_a) (length work_b) (length out)

  -- what the code's reply says of the definition's
  refused_reply : {n p : ℕ} → Refused n p ≡ summary answer → answer ≡ Refused n p
  refused_reply {n} {p} = go answer refl
    where
      go : (r : R.Reply) → answer ≡ r → Refused n p ≡ summary r → answer ≡ Refused n p
      go (Refused m q) u e = u ∙ sym (let z = e in cc)
      go (Passed c) u e = absurd (refused_passed e)

  finished-reply : {s : Summary} → Passed s ≡ summary answer → (c : R.Cleaned) × (answer ≡ Passed c)
  finished-reply {s} = go answer refl
    where
      go : (r : R.Reply) → answer ≡ r → Passed s ≡ summary r → (c : R.Cleaned) × (answer ≡ Passed c)
      go (Refused m q) u e = absurd (refused_passed (sym e))
      go (Passed c) u e = (c, u)

  module _ (flags : List ℕ) {work-a' work-b' out' : List ℕ} {report : R.Report} (l : Leaves answer work_a work_b out work-a' work-b' out' report) where
    -- the questions of the cleaning refused
    pub flags_refused : {n p : ℕ} → Refused n p ≡ summary answer → FlagsCleaned rules tape work_a work_b out flags work-a' work-b' out' flags (Refused n p)
    flags_refused e =
        record {
          output_is = l.output_is;
          work_a_is = l.work_a_is;
          work_b_is = l.work_b_is;
          writes = λ lines reads. refused_call flags (ap (λ (r : R.Reply). in_place_of r (map flag_of (finished_marks rules lines (marks_in tape)))) (refused_reply e));
        }

    -- they did not: the output begins with the cleaned tape
    module _ (bytes : Bytes tape) {s : Summary} (e : Passed s ≡ summary answer) where
      abbrev cleaned : R.Cleaned
      cleaned = (finished-reply e).0

      known : Answered rules tape (length work_a) (length work_b) (length out) cleaned
      known = answered rules tape (length work_a) (length work_b) (length out) cleaned (finished-reply e).1

      behind : List ℕ
      behind = drop (length cleaned.tape) out

      out_is : out' ≡ write (finished rules known.input) (finished_marks rules known.input (marks_in tape)) ++ behind
      unfolding R.output_after behind
      out_is = l.output_is ∙ ap (λ (r : R.Reply). R.output_after r out) (finished-reply e).1 ∙ ap (λ (c : R.Cleaned). c.tape ++ drop (length cleaned.tape) out) known.cleaned

      pub flags_fit : 256 ≤ length flags → length (held out') ≤ length flags
      flags_fit h = rw out_is (omega (arith, cleaned-few rules tape known.input bytes known.reads behind))

      pub flags-written : {flags' : List ℕ} {n : ℕ} → Puts flags 0 (map flag_of (marks_of (commands out'))) flags' n
          → FlagsCleaned rules tape work_a work_b out flags work-a' work-b' out' flags' (Passed n)
      flags-written p =
          record {
            output_is = l.output_is;
            work_a_is = l.work_a_is;
            work_b_is = l.work_b_is;
            writes =
                λ lines reads.
                (let same : known.input ≡ lines = passed_inj (sym known.reads ∙ reads) in
                let fs : List ℕ = map flag_of (finished_marks rules lines (marks_in tape)) in
                let found : marks_of (commands out') ≡ finished_marks rules lines (marks_in tape) =
                ap (λ (t : List ℕ). marks_of (commands t)) out_is ∙ cleaned-marks rules tape known.input bytes known.reads behind ∙ ap (λ (i : Listing). finished_marks rules i (marks_in tape)) same in
                written-call (ap (λ (r : R.Reply). in_place_of r fs) (finished-reply e).1) (rw found at p));
          }
