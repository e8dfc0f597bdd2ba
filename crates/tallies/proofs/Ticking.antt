-- THE TICKS HOLD OF EVERY CLEANING: what is counted from the two tapes is what demand 3 speaks of. Assumes nothing.
use Prim.Native.Nat.{ℕ, suc, ◌+◌, ◌≤◌}
use native.Mathlib.Omega.{arith}
use native.Mathlib.Nat.{le_refl, le_trans}
use mathlib.Core.Path.{◌≡◌, refl, sym, ap, ◌∙◌}
use mathlib.Core.Bool.{Bool, true, false}
use mathlib.Core.List.{List, [], ◌∷◌, ◌++◌, flatten, append-nil}
use lib.ListN.{length}
use Rattle.reference.specs.Control.{when◌then◌else◌}
use Rattle.reference.specs.Listing.{Listing}
use Rattle.reference.specs.Rules.{Rules}
use Rattle.reference.specs.Life.{Labels}
use Rattle.reference.specs.Claim.{Callee, calls, token_count}
use Rattle.reference.specs.Run.{Attempt, removals, after_attempts, after_rounds, last_of, run, attempts_of, steps, listings, finished, counts}
use Rattle.reference.specs.Marks.{finished_marks}
use Rattle.reference.specs.Tape.{write}
use Rattle.reference.specs.Questions.{Passed, marks_in}
use Rattle.reference.specs.Reply.{Cleaned, reply}
use Rattle.reference.specs.Demand.{Cuts, done, kept, dropped, Within, Each, Steps, Bounded, EachRound, Demand3}
use Rattle.reference.proofs.Lines.{length-modify}
use Rattle.reference.proofs.LittleEndian.{Bytes}
use Rattle.reference.proofs.Marks.{finished_is}
use Rattle.reference.proofs.Guarantee.{demand3-tape, answered}
use Rattle.tape.specs.Held.{held}
use Rattle.tape.proofs.walk.Accepted.{held-write, held-read}
use Rattle.sources.proofs.Unmarked.{holdable_cleaned, holdable_cleaned_marks}
use Rattle.tallies.specs.Ticks.{Ticks}

-- ---- over all steps

each_last : (P : Listing → Type 0) (l : Listing) (ls : List Listing) → Each P (l ∷ ls) → P (last_of l ls)
unfolding last_of
each_last P l [] h = h.0
each_last P l (m ∷ ls) h = each_last P m ls h.1

calls_last : (c : Callee) (l : Listing) (ls : List Listing) → Steps l ls → calls c l ≤ calls c (last_of l ls)
unfolding last_of
calls_last c l [] h = le_refl _
calls_last c l (m ∷ ls) h = le_trans (h.0.calls_stay c) (calls_last c m ls h.1)

tokens-last : (l : Listing) (ls : List Listing) → Steps l ls → token_count (last_of l ls) ≤ token_count l
unfolding last_of
tokens-last l [] h = le_refl _
tokens-last l (m ∷ ls) h = le_trans (tokens-last m ls h.1) h.0.tokens_stay

-- ---- the lines that are gone

removals-cons : (a : Attempt) (xs : List Attempt) → removals (a ∷ xs) ≡ removals (a ∷ []) + removals xs
unfolding removals
removals-cons a xs = go a.removed
  where
    go : (b : Bool) → (when b then suc (removals xs) else removals xs) ≡ (when b then suc 0 else 0) + removals xs
    go true = (unfold when◌then◌else◌ in omega arith)
    go false = (unfold when◌then◌else◌ in omega arith)

removals_append : (xs ys : List Attempt) → removals (xs ++ ys) ≡ removals xs + removals ys
removals_append [] ys = (unfold removals in omega arith)
removals_append (a ∷ xs) ys = omega (arith, removals-cons a (xs ++ ys), removals-cons a xs, removals_append xs ys)

rounds-gone : (lines : Listing) (rounds : List (List Attempt)) → EachRound Bounded lines rounds
    → length (after_rounds lines rounds) + removals (flatten rounds) ≡ length lines
unfolding after_rounds flatten
rounds-gone lines [] h = (unfold removals in omega arith)
rounds-gone lines (round ∷ more) h =
    omega (arith, h.0.removes, rounds-gone (after_attempts lines round) more h.1, removals_append round (flatten more))

cuts-length : {rules : Rules} {labels : Labels} {i : ℕ} {lines : Listing} {cuts : List Listing} → Cuts rules labels i lines cuts
    → length (last_of lines cuts) ≡ length lines
unfolding last_of
cuts-length (done h) = refl
cuts-length (kept h e more) = cuts-length more
cuts-length (dropped {i = i} {lines = lines} h e same more) = cuts-length more ∙ ap length same ∙ length-modify _ i lines

lines_gone : (rules : Rules) (input : Listing) → Demand3 rules input → length (finished rules input) + removals (attempts_of (run rules input)) ≡ length input
unfolding attempts_of
lines_gone rules input d =
    omega (arith, ap length (finished_is rules input), cuts-length d.taken.cuts, rounds-gone input (run rules input).rounds d.bounded)

-- ---- the two tapes

listing_ticks : (rules : Rules) (input : Listing) → Demand3 rules input → (tape cleaned : List ℕ) → held tape ≡ input → held cleaned ≡ finished rules input
    → Ticks tape cleaned (removals (attempts_of (run rules input)))
unfolding listings finished
listing_ticks rules input d tape cleaned e f =
    let ls : List Listing = steps (run rules input) in
    let within : Within input (last_of input ls) = each_last (Within input) input ls d.each in
    record {
      calls_stay = rw (e, f) (record { as_often = λ c. calls_last c input ls d.step });
      labels_stand = rw (e, f) within.labels_stand;
      lines_gone = rw (e, f) (lines_gone rules input d);
      tokens_stay = rw (e, f) (tokens-last input ls d.step);
      text_bounded = rw f within.text_bounded;
    }

-- of every call that is not refused, and the tape that it leaves
pub ticks : (rules : Rules) (tape : List ℕ) (work_a work_b output : ℕ) (c : Cleaned) → Bytes tape → reply rules tape work_a work_b output ≡ Passed c
    → Ticks tape c.tape c.counts.lines_removed
unfolding counts
ticks rules tape work_a work_b output c bytes e =
    let a = answered rules tape work_a work_b output c e in
    let out : List ℕ = write (finished rules a.input) (finished_marks rules a.input (marks_in tape)) in
    let left : held out ≡ finished rules a.input =
    ap held (sym (append-nil out))
    ∙ held-write (finished rules a.input) (finished_marks rules a.input (marks_in tape)) []
    (holdable_cleaned tape a.input bytes a.reads rules) (holdable_cleaned_marks tape a.input bytes a.reads rules) in
    rw a.cleaned
    (listing_ticks rules a.input (demand3-tape rules tape a.input a.reads) tape out (held-read tape a.input bytes a.reads) left)
