-- What each answer of `clean` says of the whole call. Assumes nothing.
use Prim.Native.Nat.{ℕ}
use native.Mathlib.Omega.{arith}
use mathlib.Core.Path.{◌≡◌, refl, sym, ap, subst, ◌∙◌}
use mathlib.Core.Bool.{Bool, true, false}
use mathlib.Core.List.{List}
use lib.ListN.{length}
use borrow.Author.Tests.{leb-true}
use Rattle.reference.specs.Control.{when◌then◌else◌, let_some◌else◌then◌}
use Rattle.reference.specs.Listing.{Listing}
use Rattle.reference.specs.Rules.{Rules}
use Rattle.reference.specs.Questions.{OUTPUT, has_room_by, Refused, Passed, let_passed◌then◌, read}
use Rattle.reference.specs.Straight.{breaks}
use Rattle.reference.specs.Reply.{Cleaned, Reply, told, Report, ask_profile, reply_by, reply, output_after, work_after, report}
use Rattle.reference.proofs.Cases.{both}
use Rattle.reference.proofs.Reading.{Yes, passed_inj, ask-yes, let_refused, let_is}
use Rattle.reference.proofs.Guarantee.{demand3-tape}
use Rattle.straight.specs.Meaning.{Meaning}
use Rattle.straight.proofs.Cleaning.{call-means}
use Rattle.tape.specs.Questions.{first_no, sizes_in, checked, AcceptedTape}
use Rattle.tape.specs.declared.questions.Totals.{Totals}
use Rattle.tape.proofs.questions.Reading.{accepted_by}
use Rattle.tape.proofs.questions.Asking.{none_no, ask_number}
use Rattle.clean.specs.Asking.{before_the_tape}
use Rattle.clean.specs.Replies.{finished_report, report_of, Summary, summary_of, answer_of, summary, Leaves, Cleans, cleaned, outside}
use Rattle.clean.specs.Cleaning.{Cleanable, Finishes}
use Rattle.clean.specs.declared.cleaning.Finished.{Finished}
use Rattle.clean.specs.declared.tabled.Tables.{Tables}
use Rattle.clean.specs.Tabled.{Tabled}
use Rattle.answers.specs.declared.Reason.{Reason}
use Rattle.answers.specs.declared.Reason.TheVariants as reason
use Rattle.answers.specs.declared.Refusal.{Refusal}
use Rattle.answers.specs.Refusals.{number_of, refusing}
use Rattle.std.specs.Prelude as std
use Rattle.std.specs.Result.{MatchResult, IsErrAnd}
use Rattle.std.specs.Prelude.{Some, None, Ok, Err, Result}
use Rattle.reference.specs.Options.{option_of}
use Rattle.answers.proofs.Numbers.{numbered}

-- the report of a summary
abbrev report_with : Summary → Report
report_with s =
    record {
      refusal = 0;
      place = 0;
      length = s.length;
      told = told s.counts.tally;
      removed = s.counts.lines_removed;
      cut = s.counts.results_cut;
    }

report_is : (rules : Rules) (tape : List ℕ) (input : Listing) (f : Finished) → Passed (summary_of f) ≡ summary (cleaned rules tape input)
    → finished_report f ≡ report (cleaned rules tape input)
unfolding report
report_is rules tape input f e = ap report_with (passed_inj e)

module _ (rules : Rules) (tape work_a work_b out : List ℕ) where
  abbrev answer : Reply
  answer = reply rules tape (length work_a) (length work_b) (length out)

  -- what `clean` promises of its answer
  abbrev Promise : List ℕ → List ℕ → List ℕ → Result Finished Refusal → Type 0
  Promise work-a' work-b' out' r = Cleans rules tape work_a work_b out work-a' work-b' out' (report_of r) × (answer_of r ≡ summary answer)

  -- M-106: what is returned is the same
  same_meaning : rules.profile ≡ true → (c : Cleaned) → answer ≡ Passed c → (input : Listing) → read tape ≡ Passed input → Meaning rules input
  same_meaning on c e input r =
      let m = call-means rules on tape (length work_a) (length work_b) (length out) c e in
      subst (Meaning rules) (passed_inj (sym m.1 ∙ r)) m.3

  refused : (r : Refusal) → answer ≡ Refused (number_of r.reason) r.place → Promise work_a work_b out (Err r)
  unfolding report output_after work_after
  refused r e = (
    record {
      leaves = rw e (record { report_is = refl; output_is = refl; work_a_is = refl; work_b_is = refl });
      demand3 = demand3-tape rules tape;
      means = same_meaning;
    },
    rw e refl,
  )

  -- question 1, 9 or 2 refuses the call
  refused_at_door : (r : Reason) → number_of r ≡ first_no (before_the_tape rules (length work_a) (length work_b) (length out) OUTPUT)
      → Promise work_a work_b out (Err (record { reason = r; place = 0 }))
  unfolding reply_by has_room_by
  refused_at_door r e =
      refused (record { reason = r; place = 0 })
      (ask_number (λ number. 0) (before_the_tape rules (length work_a) (length work_b) (length out) OUTPUT) _ (numbered r) (sym e))

  -- of what `map_err` and `?` make of its answer
  pub refused_early : {A : Type 0} (o : Result A Reason) → refusing o ≡ first_no (before_the_tape rules (length work_a) (length work_b) (length out) OUTPUT) → {m : Result A Refusal}
      → MatchResult o (λ a. m ≡ Ok a) (λ r. IsErrAnd m (λ x. x ≡ record { reason = r; place = 0 })) → (x : Refusal) → m ≡ Err x → Promise work_a work_b out (Err x)
  refused_early (Ok a) e h x is = cc
  refused_early (Err r) e h x is = let same : x ≡ record { reason = r; place = 0 } = rw is at h in rw same (refused_at_door r e)

  module _ {A : Type 0} {o : Result A Reason} (e : refusing o ≡ first_no (before_the_tape rules (length work_a) (length work_b) (length out) OUTPUT)) where
    module _ {a : A} (z : o ≡ Ok a) where
      open_door : Yes (before_the_tape rules (length work_a) (length work_b) (length out) OUTPUT)
      open_door = none_no _ (omega arith, (omega arith, (omega arith, tt))) (sym e ∙ ap refusing z)

      answer_is : answer ≡ (let_passed (read tape) then λ lines. ask_profile rules lines (cleaned rules tape lines))
      unfolding reply_by has_room_by
      answer_is = ask-yes (λ number. 0) (before_the_tape rules (length work_a) (length work_b) (length out) OUTPUT) _ open_door

      -- a later question refuses the tape
      pub refused_on_tape : (r : Refusal) → read tape ≡ Refused (number_of r.reason) r.place → Promise work_a work_b out (Err r)
      refused_on_tape r is = refused r (answer_is ∙ let_refused _ is)

      -- the profile does
      asked : (r : std.Option ℕ) (input : Listing) → option_of r ≡ outside rules input → ask_profile rules input (cleaned rules tape input)
          ≡ (let_some (option_of r) else cleaned rules tape input then λ n. Refused 14 n)
      unfolding ask_profile let_some◌else◌then◌
      asked r input o = go rules.profile refl
        where
          go : (b : Bool) → rules.profile ≡ b
              → (when rules.profile then (let_some (breaks input) else cleaned rules tape input then λ n. Refused 14 n) else cleaned rules tape input)
              ≡ (let_some (option_of r) else cleaned rules tape input then λ n. Refused 14 n)
          go true e = unfold when◌then◌else◌ in rw (o, e) refl
          go false e = unfold when◌then◌else◌ in rw (o, e) refl

      pub refused_in_profile : (a : AcceptedTape tape) (r : std.Option ℕ) → ((input : Listing) → read tape ≡ Passed input → option_of r ≡ outside rules input)
          → (n : ℕ) → r ≡ Some n → Promise work_a work_b out (Err (record { reason = reason.OutsideProfile; place = n }))
      unfolding let_some◌else◌then◌
      refused_in_profile a r o n e =
          refused (record { reason = reason.OutsideProfile; place = n }) (answer_is ∙ let_is _ a.reads ∙ asked r a.listing (o a.listing a.reads) ∙ rw e refl)

      -- none does
      pub cleanable : {own : Tables} {t : Totals} → Tabled tape own t → Cleanable tape own t work_a work_b out
      unfolding has_room_by
      cleanable l =
          let room = both open_door.1.1.0 in
          record {
            loaded = l;
            room_a = leb-true _ _ room.0;
            room_b = leb-true _ _ (both room.1).0;
            room = leb-true _ _ (both room.1).1;
          }

      pub finished-call : (a : AcceptedTape tape) (r : std.Option ℕ) → ((input : Listing) → read tape ≡ Passed input → option_of r ≡ outside rules input) → r ≡ None
          → {work-a' work-b' out' : List ℕ} {f : Finished}
          → Finishes (cleaned rules tape a.listing) work_a work_b out work-a' work-b' out' f
          → Promise work-a' work-b' out' (Ok f)
      finished-call a r o n {f = f} l =
          let e : answer ≡ cleaned rules tape a.listing = answer_is ∙ let_is _ a.reads ∙ asked r a.listing (o a.listing a.reads) ∙ fits in
          let leaves : Leaves (cleaned rules tape a.listing) work_a work_b out _ _ _ _ =
          record {
            report_is = report_is rules tape a.listing f l.summary_is;
            output_is = l.output_is;
            work_a_is = l.work_a_is;
            work_b_is = l.work_b_is;
          } in
          (record { leaves = rw e leaves; demand3 = demand3-tape rules tape; means = same_meaning }, rw e l.summary_is)
        where
          fits : (let_some (option_of r) else cleaned rules tape a.listing then λ n. Refused 14 n) ≡ cleaned rules tape a.listing
          fits = unfold let_some◌else◌then◌ in rw n refl

-- ---- the same, from the answers of `load` and `outside_profile`

module _ (tape : List ℕ) (k : Result Totals Refusal) (ek : checked k ≡ (let_passed (read tape) then λ lines. Passed (sizes_in lines))) where
  accepted-now : (t : Totals) → k ≡ Ok t → AcceptedTape tape
  accepted-now t e = accepted_by tape (sym (ap checked e) ∙ ek)

  module _ (t : Totals) (e : k ≡ Ok t) (rules : Rules) (work_a work_b out : List ℕ) {A : Type 0} {d : Result A Reason}
      (en : refusing d ≡ first_no (before_the_tape rules (length work_a) (length work_b) (length out) OUTPUT)) {a : A} (z : d ≡ Ok a) where
    pub cleanable_now : {own : Tables} → Tabled tape own t → Cleanable tape own t work_a work_b out
    cleanable_now = cleanable rules tape work_a work_b out en z

    module _ (r : std.Option ℕ) (o : (input : Listing) → read tape ≡ Passed input → option_of r ≡ outside rules input) where
      pub refused_now : (line : ℕ) → r ≡ Some line → Promise rules tape work_a work_b out work_a work_b out (Err (record { reason = reason.OutsideProfile; place = line }))
      refused_now line er = refused_in_profile rules tape work_a work_b out en z (accepted-now t e) r o line er

      pub finished-now : r ≡ None → (work-a' work-b' out' : List ℕ) (f : Finished)
          → ((input : Listing) → read tape ≡ Passed input → Finishes (cleaned rules tape input) work_a work_b out work-a' work-b' out' f)
          → Promise rules tape work_a work_b out work-a' work-b' out' (Ok f)
      finished-now er work-a' work-b' out' f h =
          let a = accepted-now t e in
          finished-call rules tape work_a work_b out en z a r o er (h a.listing a.reads)
