-- THE LAW (`became_told`): in a copy of the listing in which line k alone has an address, the finished line that has one is the line that line k became.
-- Assumes nothing.
use Prim.Native.Nat.{ℕ, zero, suc, pred, ◌+◌, ◌≤◌, ◌<◌}
use native.Mathlib.Omega.{arith}
use native.Mathlib.Decide.{dec_le}
use mathlib.Core.Path.{◌≡◌, refl, sym, ap, ◌∙◌}
use mathlib.Core.Logic.{by_cases}
use mathlib.Core.Bool.{Bool, true, false, true≢false, false≢true}
use mathlib.Core.List.{List, [], ◌∷◌, ◌++◌, map, map-append, flatten}
use mathlib.Core.Option.{Option, none, some}
use lib.Dec.{ltb, eqb}
use lib.ListN.{length, get_or}
use borrow.Author.Tests.{lt-ltb, le-ltb}
use Rattle.std.proofs.Common.{eq-eqb, eqb-true}
use Rattle.std.proofs.lemmas.Bool.{ne_eqb, eqb-false}
use Rattle.reference.specs.Control.{when◌then◌else◌, let_some◌else◌then◌}
use Rattle.reference.specs.Lists.{remove, position, is_some}
use Rattle.reference.specs.Text.{Text}
use Rattle.reference.specs.Listing.{Listing}
use Rattle.reference.specs.Rules.{Rules}
use Rattle.reference.specs.Life.{Labels}
use Rattle.reference.specs.Join.{try_at, targets}
use Rattle.reference.specs.Run.{labels_from, addressed_in, shift, Attempt, failure, success, attempts_from, propagate_once, after_attempts, changed, rounds_from, limit, after_rounds}
use Rattle.reference.specs.Run.{dead_result, cuts_from, drop_dead_results, last_of, run, attempts_of, finished}
use Rattle.reference.specs.Marks.{moved}
use Rattle.reference.proofs.Marks.{finished_is}
use Rattle.laws.proofs.Scans.{position-map, by_test}
use Rattle.joining.specs.Bare.{bare_lines}
use Rattle.joining.specs.Rounds.{cut_at}
use Rattle.joining.proofs.Bare.{attempt_addresses, cut-addresses}
use Rattle.sources.specs.Only.{only}
use Rattle.sources.proofs.Bared.{Did, did}
use Rattle.sources.proofs.Told.{same_attempts}
use Rattle.tallies.specs.Following.{place_after, followed, became, told_by_copy}

-- ---- the addresses go with the lines

abbrev Addresses : Type 0
Addresses = List (Option ℕ)

abbrev addresses : Listing → Addresses
addresses lines = map (λ l. l.address) lines

abbrev after_one : Attempt → Addresses → Addresses
after_one a xs = when a.removed then remove a.line xs else xs

after : List Attempt → Addresses → Addresses
after [] xs = xs
after (a ∷ more) xs = after more (after_one a xs)

after-append : (firsts bs : List Attempt) (xs : Addresses) → after (firsts ++ bs) xs ≡ after bs (after firsts xs)
unfolding after
after-append [] bs xs = refl
after-append (a ∷ more) bs xs = after-append more bs (after_one a xs)

module _ (rules : Rules) (addressed : List Text) where
  abbrev round_by : ℕ → ℕ → Listing → Labels → Bool → Option Listing → List Attempt
  round_by fuel i lines labels b o =
      when b
      then (let_some o else (failure i lines ∷ attempts_from rules addressed fuel (suc i) lines labels)
      then λ lines'. success i (targets rules lines i labels) lines' ∷ attempts_from rules addressed fuel (pred i) lines' (shift i labels))
      else []

  -- the law for a round
  abbrev Followed : Listing → List Attempt → Type 0
  Followed lines round = addresses (after_attempts lines round) ≡ after round (addresses lines)

  step-after : (fuel i : ℕ) (lines : Listing) (labels : Labels)
      → ((i : ℕ) (lines : Listing) (labels : Labels) → Followed lines (attempts_from rules addressed fuel i lines labels))
      → Followed lines (attempts_from rules addressed (suc fuel) i lines labels)
  unfolding attempts_from after_attempts after when◌then◌else◌ let_some◌else◌then◌
  step-after fuel i lines labels next = go (ltb i (length lines)) (try_at rules lines i labels addressed) refl
    where
      go : (b : Bool) (o : Option Listing) → try_at rules lines i labels addressed ≡ o → Followed lines (round_by fuel i lines labels b o)
      go false o e = refl
      go true none e = next (suc i) lines labels
      go true (some lines') e =
          next (pred i) lines' (shift i labels)
          ∙ ap (after (attempts_from rules addressed fuel (pred i) lines' (shift i labels))) (attempt_addresses rules lines i labels addressed e)

  attempts_after : (fuel i : ℕ) (lines : Listing) (labels : Labels) → Followed lines (attempts_from rules addressed fuel i lines labels)
  attempts_after zero i lines labels = unfold attempts_from after_attempts after in refl
  attempts_after (suc fuel) i lines labels = step-after fuel i lines labels (attempts_after fuel)

round_after : (rules : Rules) (lines : Listing) → addresses (after_attempts lines (propagate_once rules lines)) ≡ after (propagate_once rules lines) (addresses lines)
unfolding propagate_once
round_after rules lines = attempts_after rules (addressed_in lines) (length lines + length lines) 0 lines (labels_from 0 lines)

-- the law for what the rounds leave
abbrev AllFollowed : Listing → List (List Attempt) → Type 0
AllFollowed lines rounds = addresses (after_rounds lines rounds) ≡ after (flatten rounds) (addresses lines)

rounds_after : (rules : Rules) (n : ℕ) (lines : Listing) → AllFollowed lines (rounds_from rules n lines)
unfolding rounds_from after_rounds flatten when◌then◌else◌
rounds_after rules zero lines = unfold after in refl
rounds_after rules (suc n) lines =
    let round : List Attempt = propagate_once rules lines in
    let lines' : Listing = after_attempts lines round in
    next round lines' (rounds_from rules n lines') (round_after rules lines) (rounds_after rules n lines') (changed round)
  where
    next : (round : List Attempt) (lines' : Listing) (more : List (List Attempt)) → addresses lines' ≡ after round (addresses lines) → AllFollowed lines' more
        → (b : Bool) → addresses (after_rounds lines' (when b then more else [])) ≡ after (round ++ flatten (when b then more else [])) (addresses lines)
    next round lines' more e h true = h ∙ ap (after (flatten more)) e ∙ sym (after-append round (flatten more) (addresses lines))
    next round lines' more e h false = unfold after in e ∙ sym (after-append round [] (addresses lines))

cuts_same : (rules : Rules) (labels : Labels) (n i : ℕ) (lines : Listing) → addresses (last_of lines (cuts_from rules labels n i lines)) ≡ addresses lines
unfolding cuts_from last_of when◌then◌else◌
cuts_same rules labels zero i lines = refl
cuts_same rules labels (suc n) i lines =
    next (cuts_from rules labels n (suc i) (cut_at i lines)) (cuts_from rules labels n (suc i) lines)
    (cuts_same rules labels n (suc i) (cut_at i lines) ∙ cut-addresses i lines) (cuts_same rules labels n (suc i) lines) (dead_result rules labels lines i)
  where
    next : (cut on : List Listing) → addresses (last_of (cut_at i lines) cut) ≡ addresses lines → addresses (last_of lines on) ≡ addresses lines → (b : Bool)
        → addresses (last_of lines (when b then cut_at i lines ∷ cut else on)) ≡ addresses lines
    next cut on e f true = e
    next cut on e f false = f

finished_after : (rules : Rules) (input : Listing) → addresses (finished rules input) ≡ after (attempts_of (run rules input)) (addresses input)
unfolding attempts_of run drop_dead_results
finished_after rules input =
    let rounds : List (List Attempt) = rounds_from rules (limit rules input) input in
    let last : Listing = after_rounds input rounds in
    ap addresses (finished_is rules input) ∙ cuts_same rules (labels_from 0 last) (length last) 0 last ∙ rounds_after rules (limit rules input) input

-- ---- one address alone

eqb_iff : (a b c d : ℕ) → (a ≡ b → c ≡ d) → (c ≡ d → a ≡ b) → eqb a b ≡ eqb c d
eqb_iff a b c d f g = by_test (eqb a b) (λ e. e ∙ sym (eq-eqb c d (f (eqb-true a b e)))) (λ e. e ∙ sym (ne_eqb c d (λ h. eqb-false a b e (g h))))

eqb_suc : (p j : ℕ) → eqb (suc p) (suc j) ≡ eqb p j
eqb_suc p j = eqb_iff (suc p) (suc j) p j (λ e. omega (arith, e)) (λ e. ap suc e)

abbrev is_at : Option ℕ → ℕ → Bool
is_at none j = false
is_at (some p) j = eqb p j

-- it stands at o, if anywhere
record Alone (xs : Addresses) (o : Option ℕ) : Type 0 where
  pub at : (j : ℕ) → is_some (get_or xs j none) ≡ is_at o j

alone_position : (xs : Addresses) (o : Option ℕ) → Alone xs o → position is_some xs ≡ o
unfolding when◌then◌else◌ let_some◌else◌then◌
alone_position [] none h = refl
alone_position [] (some p) h = absurd (false≢true (h.at p ∙ eq-eqb p p refl))
alone_position (none ∷ xs) none h = rw (alone_position xs none (record { at = λ j. h.at (suc j) })) refl
alone_position (none ∷ xs) (some zero) h = absurd (false≢true (h.at 0))
alone_position (none ∷ xs) (some (suc p)) h = rw (alone_position xs (some p) (record { at = λ j. h.at (suc j) ∙ eqb_suc p j })) refl
alone_position (some a ∷ xs) none h = absurd (true≢false (h.at 0))
alone_position (some a ∷ xs) (some zero) h = refl
alone_position (some a ∷ xs) (some (suc p)) h = absurd (true≢false (h.at 0 ∙ ne_eqb (suc p) 0 (λ e. omega (arith, e))))

bare_none : (lines : Listing) (j : ℕ) → is_some (get_or (addresses (bare_lines lines)) j none) ≡ false
bare_none [] j = refl
bare_none (l ∷ ls) zero = refl
bare_none (l ∷ ls) (suc j) = bare_none ls j

only_alone : (k : ℕ) (lines : Listing) → k < length lines → Alone (addresses (only k lines)) (some k)
unfolding only
only_alone k [] h = absurd (omega arith)
only_alone zero (l ∷ ls) h = record { at = at }
  where
    at : (j : ℕ) → is_some (get_or (some 0 ∷ addresses (bare_lines ls)) j none) ≡ eqb 0 j
    at zero = refl
    at (suc j) = bare_none ls j ∙ sym (ne_eqb 0 (suc j) (λ e. omega (arith, e)))
only_alone (suc k) (l ∷ ls) h = record { at = at (only_alone k ls (omega arith)) }
  where
    at : Alone (addresses (only k ls)) (some k) → (j : ℕ) → is_some (get_or (none ∷ addresses (only k ls)) j none) ≡ eqb (suc k) j
    at a zero = sym (ne_eqb (suc k) 0 (λ e. omega (arith, e)))
    at a (suc j) = a.at j ∙ sym (eqb_suc k j)

-- ---- one removal

at_below : (i : ℕ) (xs : Addresses) (q : ℕ) → q < i → get_or (remove i xs) q none ≡ get_or xs q none
at_below i [] q h = refl
at_below zero (x ∷ xs) q h = absurd (omega arith)
at_below (suc i) (x ∷ xs) zero h = refl
at_below (suc i) (x ∷ xs) (suc q) h = at_below i xs q (omega arith)

at_above : (i : ℕ) (xs : Addresses) (q : ℕ) → i ≤ q → get_or (remove i xs) q none ≡ get_or xs (suc q) none
at_above i [] q h = refl
at_above zero (x ∷ xs) q h = refl
at_above (suc i) (x ∷ xs) zero h = absurd (omega arith)
at_above (suc i) (x ∷ xs) (suc q) h = at_above i xs q (omega arith)

abbrev place_by : Bool → ℕ → ℕ → Option ℕ
place_by b i p = when b then (when eqb p i then none else some (moved i p)) else some p

module _ (i p j : ℕ) where
  gone : eqb p i ≡ true → is_at (place_by true i p) j ≡ false
  unfolding when◌then◌else◌
  gone e = rw e refl

  up : eqb p i ≡ false → i < p → is_at (place_by true i p) j ≡ eqb (pred p) j
  unfolding when◌then◌else◌ moved
  up e h = rw (e, lt-ltb i p h) refl

  still : eqb p i ≡ false → p ≤ i → is_at (place_by true i p) j ≡ eqb p j
  unfolding when◌then◌else◌ moved
  still e h = rw (e, le-ltb i p h) refl

  place_below : j < i → eqb p j ≡ is_at (place_by true i p) j
  place_below h =
      by_test (eqb p i)
      (λ e. let same = eqb-true p i e in ne_eqb p j (λ f. omega (arith, same, f, h)) ∙ sym (gone e))
      (λ e.
      by_cases (dec_le (suc i) p)
      (λ g. eqb_iff p j (pred p) j (λ f. absurd (omega (arith, f, g, h))) (λ f. absurd (omega (arith, f, g, h))) ∙ sym (up e g))
      (λ g. sym (still e (omega arith))))

  place_above : i ≤ j → eqb p (suc j) ≡ is_at (place_by true i p) j
  place_above h =
      by_test (eqb p i)
      (λ e. let same = eqb-true p i e in ne_eqb p (suc j) (λ f. omega (arith, same, f, h)) ∙ sym (gone e))
      (λ e.
      let other = eqb-false p i e in
      by_cases (dec_le (suc i) p)
      (λ g. eqb_iff p (suc j) (pred p) j (λ f. omega (arith, f, g)) (λ f. omega (arith, f, g)) ∙ sym (up e g))
      (λ g. eqb_iff p (suc j) p j (λ f. absurd (omega (arith, f, g, h))) (λ f. absurd (other (omega (arith, f, g, h)))) ∙ sym (still e (omega arith))))

step_by : (b : Bool) (i : ℕ) (xs : Addresses) (o : Option ℕ) → Alone xs o → Alone (when b then remove i xs else xs) (let_some o else none then place_by b i)
unfolding when◌then◌else◌ let_some◌else◌then◌
step_by false i xs none h = h
step_by false i xs (some p) h = h
step_by true i xs none h = record {
  at = λ j.
      by_cases (dec_le (suc j) i) (λ g. ap is_some (at_below i xs j g) ∙ h.at j) (λ g. ap is_some (at_above i xs j (omega arith)) ∙ h.at (suc j));
}
step_by true i xs (some p) h = record {
  at = λ j.
      by_cases (dec_le (suc j) i) (λ g. ap is_some (at_below i xs j g) ∙ h.at j ∙ place_below i p j g)
      (λ g. ap is_some (at_above i xs j (omega arith)) ∙ h.at (suc j) ∙ place_above i p j (omega arith));
}

all_steps : (attempts : List Attempt) (xs : Addresses) (o : Option ℕ) → Alone xs o → Alone (after attempts xs) (followed attempts o)
unfolding after followed place_after
all_steps [] xs o h = h
all_steps (a ∷ more) xs o h = all_steps more (after_one a xs) _ (step_by a.removed a.line xs o h)

-- ---- the copy's attempts are the listing's

followed_did : List Did → Option ℕ → Option ℕ
followed_did [] o = o
followed_did (d ∷ more) o = followed_did more (let_some o else none then place_by d.removed d.line)

did_followed : (attempts : List Attempt) (o : Option ℕ) → followed attempts o ≡ followed_did (map did attempts) o
unfolding followed followed_did place_after
did_followed [] o = refl
did_followed (a ∷ more) o = did_followed more (let_some o else none then place_by a.removed a.line)

map_flatten : (rounds : List (List Attempt)) → map did (flatten rounds) ≡ flatten (map (map did) rounds)
unfolding flatten
map_flatten [] = refl
map_flatten (round ∷ more) = map-append did round (flatten more) ∙ ap (λ (r : List Did). map did round ++ r) (map_flatten more)

same_followed : (rules : Rules) (input : Listing) (k : ℕ) (o : Option ℕ)
    → followed (attempts_of (run rules (only k input))) o ≡ followed (attempts_of (run rules input)) o
unfolding attempts_of
same_followed rules input k o =
    let copied : List (List Attempt) = (run rules (only k input)).rounds in
    let rounds : List (List Attempt) = (run rules input).rounds in
    did_followed (flatten copied) o
    ∙ ap (λ ds. followed_did ds o) (map_flatten copied ∙ ap flatten (same_attempts rules input k) ∙ sym (map_flatten rounds))
    ∙ sym (did_followed (flatten rounds) o)

-- THE LAW
pub became_told : (rules : Rules) (input : Listing) (k : ℕ) → k < length input → told_by_copy rules input k ≡ became rules input k
unfolding told_by_copy became
became_told rules input k h =
    let copy : Listing = only k input in
    sym (position-map is_some (λ l. l.address) (finished rules copy))
    ∙ ap (position is_some) (finished_after rules copy)
    ∙ alone_position _ _ (all_steps (attempts_of (run rules copy)) (addresses copy) (some k) (only_alone k input h))
    ∙ same_followed rules input k (some k)
