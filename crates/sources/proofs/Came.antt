-- The call `came_into`: what the answers of the calls that it makes say of it. Assumes nothing.
use Rattle.std.specs.Prelude.{Result, Ok, Err}
use Rattle.answers.specs.declared.Reason.{Reason}
use Rattle.std.specs.Result.{MatchResult, IsErrAnd}
use Rattle.answers.specs.declared.Refusal.{Refusal}
use Rattle.answers.specs.Refusals.{number_of, refusing}
use Rattle.answers.proofs.Numbers.{numbered}
use Prim.Native.Nat.{ℕ, zero, suc, ◌≤◌, ◌<◌}
use native.Mathlib.Omega.{arith}
use mathlib.Core.Path.{◌≡◌, refl, sym, ap, ◌∙◌}
use mathlib.Core.Bool.{Bool, true, false}
use mathlib.Core.List.{List, [], ◌∷◌, ◌++◌, map}
use mathlib.Core.Option.{Option, none, some}
use lib.Dec.{leb}
use lib.ListN.{length, get_or, take, drop, get_or-append}
use lib.Seq.{take-append_seam}
use borrow.Author.Tests.{le-leb, lt-leb, lt-ltb}
use Rattle.reference.specs.Control.{when◌then◌else◌, let_some◌else◌then◌}
use Rattle.reference.specs.Lists.{is_some}
use Rattle.reference.specs.Listing.{Listing}
use Rattle.reference.specs.Rules.{Rules}
use Rattle.reference.specs.Spans.{Marks}
use Rattle.reference.specs.Straight.{breaks}
use Rattle.reference.specs.Claim.{one_if}
use Rattle.reference.specs.Run.{run, finished, counts}
use Rattle.reference.specs.Marks.{finished_marks}
use Rattle.reference.specs.Tape.{write}
use Rattle.reference.specs.Questions.{OUTPUT, has_room_by, Answer, Refused, Passed, ask, let_passed◌then◌, read, marks_in}
use Rattle.reference.specs.Reply as R
use Rattle.reference.specs.Reply.{ask_profile, reply, reply_by}
use Rattle.reference.proofs.Cases.{by-if, by-some}
use Rattle.reference.proofs.Reading.{Yes, ask-yes, ask_no, ask_passed, let_refused, let_is, by_passed, refused_passed, passed_inj}
use Rattle.reference.proofs.Marks.{marks-length}
use Rattle.laws.proofs.Scans.{and_true}
use Rattle.answers.specs.Answers.{measured, output_after, Writes}
use Rattle.tape.specs.Questions.{first_no, AcceptedTape}
use Rattle.clean.specs.Asking.{before_the_tape}
use Rattle.tape.proofs.questions.Asking.{none_no, ask_number}
use Rattle.sources.specs.Only.{COPY, FLAGS, only, only_tape, only_reply, came, flags, came_flags, Lent, ask_lent, in_profile, came_copy, came_cleaning, came_reply}
use Rattle.sources.specs.Calls.{flag_of, in_place_of, FlagsCleaned, lent_as, lent_after, CameInto}
use Rattle.sources.proofs.Told.{told-came, same_length, same_profile}
use Rattle.sources.proofs.Copied.{copy-reads, copy-marks}

-- ---- the flags, by place

flags-length : (test : ℕ → Bool) (lines : Listing) → length (flags test lines) ≡ length lines
unfolding flags
flags-length test [] = refl
flags-length test (l ∷ ls) = ap suc (flags-length (λ q. test (suc q)) ls)

flags_at : (test : ℕ → Bool) (lines : Listing) (q : ℕ) → q < length lines → get_or (flags test lines) q 0 ≡ one_if (test q)
unfolding flags
flags_at test [] q h = absurd (omega arith)
flags_at test (l ∷ ls) zero h = refl
flags_at test (l ∷ ls) (suc q) h = flags_at (λ q. test (suc q)) ls q (omega arith)

-- the flags of marks are those of a test that tells which lines have marks
flags_are : (ms : List Marks) (lines : Listing) (test : ℕ → Bool) → length ms ≡ length lines → ((q : ℕ) → q < length lines → is_some (get_or ms q none) ≡ test q)
    → map flag_of ms ≡ flags test lines
unfolding flags flag_of
flags_are [] [] test e h = refl
flags_are [] (l ∷ ls) test e h = absurd (omega arith)
flags_are (m ∷ ms) [] test e h = absurd (omega arith)
flags_are (m ∷ ms) (l ∷ ls) test e h =
    λ i. (when h 0 (omega arith) i then 1 else 0) ∷ flags_are ms ls (λ q. test (suc q)) (omega arith) (λ q g. h (suc q) (omega arith)) i

-- THE FLAGS OF THE COPY'S FINISHED LINES TELL WHAT LINE k COMES INTO
copy-flags : (rules : Rules) (input : Listing) (k : ℕ) → map flag_of (finished_marks rules (only k input) []) ≡ came_flags rules input k
unfolding came_flags
copy-flags rules input k =
    flags_are (finished_marks rules (only k input) []) (finished rules input) (came rules input k)
    (marks-length rules (only k input) [] ∙ same_length rules input k)
    (told-came rules input k)

-- ---- the profile

placed-profile : (rules : Rules) (a b : Listing) (c : R.Cleaned) (bytes : List ℕ) → breaks a ≡ breaks b
    → in_place_of (ask_profile rules a (Passed c)) bytes ≡ in_profile rules b (Passed bytes)
unfolding ask_profile in_profile
placed-profile rules a b c bytes e = rw e (go rules.profile (breaks b))
  where
    go : (p : Bool) (o : Option ℕ) → in_place_of (when p then (let_some o else Passed c then λ n. Refused 14 n) else Passed c) bytes
        ≡ (when p then (let_some o else Passed bytes then λ n. Refused 14 n) else Passed bytes)
    go true none = unfold when◌then◌else◌ let_some◌else◌then◌ in refl
    go true (some n) = unfold when◌then◌else◌ let_some◌else◌then◌ in refl
    go false o = unfold when◌then◌else◌ in refl

profile_passed : (rules : Rules) (lines : Listing) (bytes : List ℕ) {x : List ℕ} → in_profile rules lines (Passed bytes) ≡ Passed x → bytes ≡ x
unfolding in_profile
profile_passed rules lines bytes {x} =
    by-if (λ (a : Answer (List ℕ)). a ≡ Passed x → bytes ≡ x)
    (λ p. by-some (λ (a : Answer (List ℕ)). a ≡ Passed x → bytes ≡ x) (λ b e. passed_inj e) (λ n b e. absurd (refused_passed e)))
    (λ p e. passed_inj e)

-- ---- the call

-- the questions of the settings and of the lengths that the cleaning asks
abbrev door : Rules → Lent → List (ℕ × Bool)
door rules lent = before_the_tape rules (length lent.work_a) (length lent.work_b) (length lent.output) OUTPUT

measured_passed : (a : Answer (List ℕ)) {n : ℕ} → Passed n ≡ measured a → (x : List ℕ) × (a ≡ Passed x) × (n ≡ length x)
measured_passed (Refused m p) e = absurd (refused_passed (sym e))
measured_passed (Passed x) e = (x, refl, passed_inj e)

measured_refused : (a : Answer (List ℕ)) {n p : ℕ} → Refused n p ≡ measured a → a ≡ Refused n p
measured_refused (Refused m q) e = sym (let z = e in cc)
measured_refused (Passed x) e = absurd (refused_passed e)

module _ (rules : Rules) (k : ℕ) (tape : List ℕ) (lent : Lent) where
  -- the flags of a call that was not refused
  came_passed : {bytes : List ℕ} → came_reply rules k tape lent ≡ Passed bytes → (input : Listing) → read tape ≡ Passed input → bytes ≡ came_flags rules input k
  unfolding came_reply ask_lent
  came_passed {bytes} e input reads =
      let a = ask_passed _ _ _ bytes e in
      let b = ask_passed _ _ _ bytes a.1 in
      sym (profile_passed rules input (came_flags rules input k) (sym (let_is _ reads) ∙ b.1))

  -- the answer and the lent bytes say what the flags tell
  said : {lent' : Lent} {r : Answer ℕ} → r ≡ measured (came_reply rules k tape lent) → lent' ≡ lent_after rules k tape lent → CameInto rules k tape lent lent' r
  unfolding came_flags came lent_after
  said {lent'} {r} e f =
      record {
        reply_is = e;
        lent_is = f;
        told =
            λ n p input reads.
            (let m = measured_passed (came_reply rules k tape lent) (sym p ∙ e) in
            let bytes : List ℕ = m.0 in
            let same : bytes ≡ came_flags rules input k = came_passed m.1 input reads in
            let long : n ≡ length (finished rules input) = m.2 ∙ ap length same ∙ flags-length (came rules input k) (finished rules input) in (
              long,
              λ q h g.
                  flag_at q bytes m.1 m.2 g
                  ∙ ap (λ (b : List ℕ). get_or b q 0) same
                  ∙ flags_at (came rules input k) (finished rules input) q (omega arith)
                  ∙ ap one_if (and_true _ (lt-ltb k (length input) h)),
            ));
      }
    where
      flag_at : {n : ℕ} (q : ℕ) (bytes : List ℕ) → came_reply rules k tape lent ≡ Passed bytes → n ≡ length bytes → q < n → get_or lent'.flags q 0 ≡ get_or bytes q 0
      flag_at q bytes u z g =
          ap (λ (l : Lent). get_or l.flags q 0) f
          ∙ ap (λ (a : Answer (List ℕ)). get_or (output_after a lent.flags) q 0) u
          ∙ get_or-append bytes (drop (length bytes) lent.flags) 0 q (omega arith)

  -- ---- refused: nothing lent has changed

  module _ {n p : ℕ} (no : (f : Listing → Answer (List ℕ)) → ask_lent rules lent (let_passed (read tape) then f) ≡ Refused n p) where
    copy_refused : came_copy rules k tape lent ≡ Refused n p
    unfolding came_copy
    copy_refused = no _

    cleaning_refused : came_cleaning rules k tape lent ≡ Refused n p
    unfolding came_cleaning
    cleaning_refused = let_refused _ copy_refused

    answer_refused : came_reply rules k tape lent ≡ Refused n p
    unfolding came_reply
    answer_refused = no _

    refused_into : CameInto rules k tape lent lent (Refused n p)
    unfolding lent_after R.work_after R.output_after
    refused_into = said (sym (ap measured answer_refused)) (rw (copy_refused, cleaning_refused, answer_refused))

  -- by the settings, or a length that the cleaning asks
  refused_at_door : {n : ℕ} → n ≡ first_no (door rules lent) → (n ≡ 0 → ⊥) → CameInto rules k tape lent lent (Refused n 0)
  unfolding ask_lent has_room_by
  refused_at_door e z = refused_into (λ f. ask_number _ (door rules lent) _ z (sym e))

  -- of what `map_err` and `?` make of its answer
  pub refused_early : {A : Type 0} (o : Result A Reason) → refusing o ≡ first_no (door rules lent) → {m : Result A Refusal}
      → MatchResult o (λ a. m ≡ Ok a) (λ r. IsErrAnd m (λ x. x ≡ record { reason = r; place = 0 })) → (x : Refusal) → m ≡ Err x
      → CameInto rules k tape lent lent (Refused (number_of x.reason) x.place)
  refused_early (Ok a) e h x is = cc
  refused_early (Err r) e h x is = let same : x ≡ record { reason = r; place = 0 } = rw is at h in rw same (refused_at_door e (numbered r))

  module _ {n : ℕ} (e : n ≡ first_no (door rules lent)) (z : n ≡ 0) where
    open_door : Yes (door rules lent)
    open_door = none_no (door rules lent) (omega arith, (omega arith, (omega arith, tt))) (sym e ∙ z)

    -- by the length of the flags
    pub refused_flags : length lent.flags < 256 → CameInto rules k tape lent lent (Refused 2 0)
    unfolding ask_lent has_room_by
    refused_flags h = refused_into (λ f. ask-yes _ (door rules lent) _ open_door ∙ ask_no _ [] _ _ _ tt (lt-leb FLAGS (length lent.flags) h))

    module _ (room : 256 ≤ length lent.flags) where
      -- what is left to ask: the copy's length
      abbrev length_asked : {A : Type 0} → Answer A → Answer A
      length_asked a = ask (λ number. 0) ((2, leb COPY (length lent.copy)) ∷ []) a

      asked_then : {A : Type 0} (a : Answer A) → ask_lent rules lent a ≡ length_asked a
      unfolding ask_lent has_room_by ask when◌then◌else◌
      asked_then a = ask-yes (λ number. 0) (door rules lent) _ open_door ∙ rw (le-leb FLAGS (length lent.flags) room)

      -- by the copy's length, or by the tape
      no_copy : {n p : ℕ} → only_reply k tape (length lent.copy) ≡ Refused n p → (f : Listing → Answer (List ℕ))
          → ask_lent rules lent (let_passed (read tape) then f) ≡ Refused n p
      unfolding only_reply ask when◌then◌else◌
      no_copy {n} {p} e f = asked_then _ ∙ go (leb COPY (length lent.copy)) e
        where
          go : (b : Bool) → (when b then (let_passed (read tape) then λ lines. Passed (only_tape k lines)) else Refused 2 0) ≡ Refused n p
              → (when b then (let_passed (read tape) then f) else Refused 2 0) ≡ Refused n p
          go true =
              by_passed (λ (a : Answer (List ℕ)). a ≡ Refused n p → (let_passed (read tape) then f) ≡ Refused n p)
              (λ m q u e. let_refused f u ∙ e)
              (λ lines u e. absurd (refused_passed (sym e)))
          go false = λ e. e

      pub refused_copy : {copy' : List ℕ} {n p : ℕ} → Writes (only_reply k tape (length lent.copy)) lent.copy copy' (Refused n p)
          → CameInto rules k tape lent (lent_as copy' lent.work_a lent.work_b lent.output lent.flags) (Refused n p)
      refused_copy {copy'} {n} {p} w =
          let e : only_reply k tape (length lent.copy) ≡ Refused n p = measured_refused _ w.reply_is in
          let same : copy' ≡ lent.copy = w.output_is ∙ ap (λ (a : Answer (List ℕ)). output_after a lent.copy) e in
          rw same (refused_into (no_copy e))

      -- ---- the copy is made

      -- what it is made of
      record Made (bytes : List ℕ) : Type 0 where
        lines : Listing
        reads : read tape ≡ Passed lines
        bytes_are : bytes ≡ only_tape k lines
        long : leb COPY (length lent.copy) ≡ true

      made : {bytes : List ℕ} → only_reply k tape (length lent.copy) ≡ Passed bytes → Made bytes
      unfolding only_reply
      made {bytes} e =
          let a = ask_passed (λ number. 0) _ _ bytes e in
          by_passed (λ (x : Answer (List ℕ)). x ≡ Passed bytes → Made bytes)
          (λ m q u v. absurd (refused_passed v))
          (λ lines u v. record { lines = lines; reads = u; bytes_are = sym (passed_inj v); long = a.0.0 })
          a.1

      module _ {copy' : List ℕ} {size : ℕ} (w : Writes (only_reply k tape (length lent.copy)) lent.copy copy' (Passed size)) where
        abbrev known : (x : List ℕ) × (only_reply k tape (length lent.copy) ≡ Passed x) × (size ≡ length x)
        known = measured_passed _ w.reply_is

        abbrev bytes : List ℕ
        bytes = known.0

        m : Made bytes
        m = made known.1

        copy_is : copy' ≡ bytes ++ drop (length bytes) lent.copy
        copy_is = w.output_is ∙ ap (λ (a : Answer (List ℕ)). output_after a lent.copy) known.1

        -- the part of the buffer that is cleaned
        part_is : {part : List ℕ} → part ≡ take size (drop 0 copy') → part ≡ bytes
        part_is e =
            e
            ∙ ap (take size) copy_is
            ∙ ap (λ (j : ℕ). take j (bytes ++ drop (length bytes) lent.copy)) known.2
            ∙ take-append_seam bytes (drop (length bytes) lent.copy)

        copy_read : read bytes ≡ Passed (only k m.lines)
        copy_read = rw m.bytes_are (copy-reads tape m.lines k m.reads)

        pub part-accepted : {part : List ℕ} → part ≡ take size (drop 0 copy') → AcceptedTape part
        part-accepted e = rw (part_is e) (record { listing = only k m.lines; reads = copy_read })

        -- the answers of the definitions
        abbrev answer : R.Reply
        answer = reply rules bytes (length lent.work_a) (length lent.work_b) (length lent.output)

        abbrev found : List ℕ
        found = map flag_of (finished_marks rules (only k m.lines) (marks_in bytes))

        found_is : found ≡ came_flags rules m.lines k
        found_is =
            ap (map flag_of) (ap (λ (t : List ℕ). finished_marks rules (only k m.lines) (marks_in t)) m.bytes_are ∙ copy-marks tape m.lines k m.reads rules)
            ∙ copy-flags rules m.lines k

        copied_then : {A : Type 0} (f : Listing → Answer A) → ask_lent rules lent (let_passed (read tape) then f) ≡ f m.lines
        copied_then f = asked_then _ ∙ ask-yes (λ number. 0) ((2, leb COPY (length lent.copy)) ∷ []) _ (m.long, tt) ∙ let_is f m.reads

        came-copy_is : came_copy rules k tape lent ≡ Passed bytes
        unfolding came_copy
        came-copy_is = copied_then _ ∙ ap Passed (sym m.bytes_are)

        came_cleaning_is : came_cleaning rules k tape lent ≡ answer
        unfolding came_cleaning
        came_cleaning_is = let_is _ came-copy_is

        answer_is : answer ≡ ask_profile rules (only k m.lines)
            (Passed (record {
              tape = write (finished rules (only k m.lines)) (finished_marks rules (only k m.lines) (marks_in bytes));
              counts = counts rules (run rules (only k m.lines));
            }))
        unfolding reply_by has_room_by
        answer_is = ask-yes (λ number. 0) (door rules lent) _ open_door ∙ let_is _ copy_read

        came-reply_is : came_reply rules k tape lent ≡ in_place_of answer found
        unfolding came_reply
        came-reply_is =
            copied_then _
            ∙ ap (λ (b : List ℕ). in_profile rules m.lines (Passed b)) (sym found_is)
            ∙ sym (ap (λ (r : R.Reply). in_place_of r found) answer_is ∙ placed-profile rules (only k m.lines) m.lines _ found (same_profile k m.lines))

        pub told-into : {part work-a' work-b' out' flags' : List ℕ} {r : Answer ℕ} → part ≡ take size (drop 0 copy')
            → FlagsCleaned rules part lent.work_a lent.work_b lent.output lent.flags work-a' work-b' out' flags' r
            → CameInto rules k tape lent (lent_as copy' work-a' work-b' out' flags') r
        unfolding lent_after
        told-into e f =
            let g = rw (part_is e) at f in
            let v = g.writes (only k m.lines) copy_read in
            said (v.reply_is ∙ ap measured (sym came-reply_is))
            (rw (came-copy_is, came_cleaning_is, came-reply_is)
            (λ i. record { copy = copy_is i; work_a = g.work_a_is i; work_b = g.work_b_is i; output = g.output_is i; flags = v.output_is i }))
