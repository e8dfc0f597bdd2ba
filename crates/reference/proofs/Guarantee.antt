-- DEMAND 3, undivided, for every accepted tape and all settings: `demand3-tape`. In plain words: if no question refuses the tape, and `input` is the
-- listing that it holds, then in the run of `input`, over every attempt of every round and every cut, each step takes the listing that the step
-- before left, and the last one left is the finished one; an attempt that succeeds takes out its own line alone, an assignment to a register or a stack
-- slot, and leaves the lines unchanged that it is not joined into; a cut takes two tokens from one line; addresses and indents keep their order;
-- label lines stand unchanged; no callee is called less often; there are never more tokens than before, nor more than 49,152 bytes of text; and a
-- round that begins with m lines and removes s makes at most m + s attempts. So the output has room for the finished listing's tape
-- (`output-length`), and what a call lends keeps its length (`same_lengths`). Assumes nothing.
use Prim.Native.Nat.{ℕ, ◌≤◌}
use native.Mathlib.Omega.{arith}
use native.Mathlib.Nat.{le_refl, le_trans}
use mathlib.Core.Path.{◌≡◌, refl, sym}
use mathlib.Core.Bool.{Bool, true, false}
use mathlib.Core.Option.{none}
use mathlib.Core.List.{List, [], ◌∷◌, ◌++◌, Sublistᴰ}
use lib.Dec.{ltb}
use lib.ListN.{length, drop, replicate, length-map, length-append, length-drop, length-replicate}
use borrow.Author.Tests.{leb-true, ltb-true}
use Rattle.reference.specs.Control.{◌and◌, ◌or◌}
use Rattle.reference.specs.Lists.{any}
use Rattle.reference.specs.Listing.{Token, is, Number, Listing}
use Rattle.reference.specs.Rules.{Rules}
use Rattle.reference.specs.Run.{run, last_of, listings, finished, counts}
use Rattle.reference.specs.Claim.{size, token_count}
use Rattle.reference.specs.Demand.{Accepted, Within, Each, Steps, Demand3}
use Rattle.reference.specs.Spans.{Marks}
use Rattle.reference.specs.Marks.{finished_marks}
use Rattle.reference.specs.Tape.{write}
use Rattle.reference.specs.Questions.{WORK, OUTPUT, has_room_by, Refused, Passed, read, marks_in}
use Rattle.reference.specs.Straight.{breaks}
use Rattle.reference.specs.Reply.{Cleaned, Reply, ask_profile, reply_by, reply, output_after, work_after}
use Rattle.reference.proofs.Cases.{by-if, by-some, both, true-false, fails}
use Rattle.reference.proofs.Rounds.{demand3}
use Rattle.reference.proofs.Reading.{ask_passed, by_passed, refused_passed, passed_inj}
use Rattle.reference.proofs.Writing.{write-length}
use Rattle.reference.proofs.Limits.{All, TokenFits, LineFits, Limits}
use Rattle.reference.proofs.Tapes.{read-limits}

-- ---- what an accepted tape holds is an accepted listing

none_any : {A : Type 0} (P : A → Type 0) (p : A → Bool) → ((x : A) → P x → p x ≡ false) → (xs : List A) → All P xs → any p xs ≡ false
unfolding ◌or◌
none_any P p h [] k = refl
none_any P p h (x ∷ xs) k = rw (h x k.0) (none_any P p h xs k.1)

small_number : (t : Token) → TokenFits t → (is Number t and ltb 24 (size t)) ≡ false
small_number t f = fails (λ e. (let b = both e in omega (arith, f.number b.0, ltb-true 24 (size t) b.1)))

accepted-listing : (lines : Listing) → Limits lines → Accepted lines
accepted-listing lines l =
    record {
      tokens_fit = l.few_tokens;
      text_fits = l.short_text;
      numbers_fit = none_any LineFits _ (λ l f. none_any TokenFits _ small_number l.tokens f.tokens) lines l.each;
    }

-- DEMAND 3 HOLDS FOR EVERY ACCEPTED TAPE
pub demand3-tape : (rules : Rules) (tape : List ℕ) (input : Listing) → read tape ≡ Passed input → Demand3 rules input
demand3-tape rules tape input e = demand3 rules input (accepted-listing input (read-limits tape input e))

-- ---- the finished listing's tape has room in the output

each_last : (P : Listing → Type 0) (l : Listing) (ls : List Listing) → Each P (l ∷ ls) → P (last_of l ls)
unfolding last_of
each_last P l [] h = h.0
each_last P l (m ∷ ls) h = each_last P m ls h.1

tokens-last : (l : Listing) (ls : List Listing) → Steps l ls → token_count (last_of l ls) ≤ token_count l
unfolding last_of
tokens-last l [] h = le_refl _
tokens-last l (m ∷ ls) h = le_trans (tokens-last m ls h.1) h.0.tokens_stay

sublist_length : {A : Type 0} {xs ys : List A} → Sublistᴰ xs ys → length xs ≤ length ys
sublist_length Sublistᴰ.slnil = omega arith
sublist_length (Sublistᴰ.cons s) = omega (arith, sublist_length s)
sublist_length (Sublistᴰ.cons-cons e s) = omega (arith, sublist_length s)

-- THE OUTPUT NEEDS AT MOST 59,137 BYTES, whatever the marks are
pub output-length : (rules : Rules) (tape : List ℕ) (input : Listing) (marks : List Marks) → read tape ≡ Passed input
    → length (write (finished rules input) marks) ≤ OUTPUT
unfolding listings finished
output-length rules tape input marks e =
    let d = demand3-tape rules tape input e in
    let limits = read-limits tape input e in
    let last : Listing = finished rules input in
    let within : Within input last = each_last (Within input) input _ d.each in
    let tokens : token_count last ≤ token_count input = tokens-last input _ d.step in
    omega
    (arith, write-length last marks, within.text_bounded, tokens, limits.few_tokens, limits.few_lines, simp length-map at (sublist_length within.pairs_in_order))

-- ---- a call that is not refused

pub profile_passed : (rules : Rules) (lines : Listing) (r : Reply) (c : Cleaned) → ask_profile rules lines r ≡ Passed c
    → (r ≡ Passed c) × (rules.profile ≡ true → breaks lines ≡ none)
unfolding ask_profile
profile_passed rules lines r c =
    by-if (λ (x : Reply). x ≡ Passed c → (r ≡ Passed c) × (rules.profile ≡ true → breaks lines ≡ none))
    (λ on. by-some (λ (x : Reply). x ≡ Passed c → (r ≡ Passed c) × (rules.profile ≡ true → breaks lines ≡ none))
    (λ b e. (e, λ p. b))
    (λ n b e. absurd (refused_passed e)))
    (λ off e. (e, λ p. absurd (true-false p off)))

pub record Answered (rules : Rules) (tape : List ℕ) (work_a work_b output : ℕ) (c : Cleaned) : Type 0 where
  pub input : Listing
  pub reads : read tape ≡ Passed input
  -- M-106: with the profile, the listing is in it
  pub in_profile : rules.profile ≡ true → breaks input ≡ none
  pub cleaned : c ≡ record { tape = write (finished rules input) (finished_marks rules input (marks_in tape)); counts = counts rules (run rules input) }
  pub room_a : WORK ≤ work_a
  pub room_b : WORK ≤ work_b
  pub room : length c.tape ≤ output

pub answered : (rules : Rules) (tape : List ℕ) (work_a work_b output : ℕ) (c : Cleaned) → reply rules tape work_a work_b output ≡ Passed c
    → Answered rules tape work_a work_b output c
unfolding reply_by has_room_by
answered rules tape work_a work_b output c e =
    let r = ask_passed (λ number. 0) _ _ c e in
    let room = both r.0.1.1.0 in
    by_passed (λ (x : Reply). x ≡ Passed c → Answered rules tape work_a work_b output c)
    (λ number pair_of u e. absurd (refused_passed e))
    (λ input reads e.
    (let asked = profile_passed rules input _ c e in
    let same = passed_inj asked.0 in
    record {
      input = input;
      reads = reads;
      in_profile = asked.1;
      cleaned = sym same;
      room_a = leb-true _ _ room.0;
      room_b = leb-true _ _ (both room.1).0;
      room = rw (← same) (le_trans (output-length rules tape input (finished_marks rules input (marks_in tape)) reads) (leb-true _ _ (both room.1).1));
    }))
    r.1

front_length : {A : Type 0} (front whole : List A) (n : ℕ) → length front ≡ n → n ≤ length whole → length (front ++ drop n whole) ≡ length whole
front_length front whole n e h = rw (length-append, length-drop) (omega arith)

-- WHAT IS LENT KEEPS ITS LENGTH
pub same_lengths : (rules : Rules) (tape work_a work_b output : List ℕ)
    → let r = reply rules tape (length work_a) (length work_b) (length output) in
    (length (work_after r work_a) ≡ length work_a) × (length (work_after r work_b) ≡ length work_b) × (length (output_after r output) ≡ length output)
unfolding work_after output_after
same_lengths rules tape work_a work_b output = go (reply rules tape (length work_a) (length work_b) (length output)) refl
  where
    go : (r : Reply) → reply rules tape (length work_a) (length work_b) (length output) ≡ r
        → (length (work_after r work_a) ≡ length work_a) × (length (work_after r work_b) ≡ length work_b) × (length (output_after r output) ≡ length output)
    go (Refused number at) e = (refl, refl, refl)
    go (Passed c) e =
        let a = answered rules tape (length work_a) (length work_b) (length output) c e in (
          front_length (replicate WORK 0) work_a WORK (length-replicate {A = ℕ} WORK 0) a.room_a,
          front_length (replicate WORK 0) work_b WORK (length-replicate {A = ℕ} WORK 0) a.room_b,
          front_length c.tape output (length c.tape) refl a.room,
        )
