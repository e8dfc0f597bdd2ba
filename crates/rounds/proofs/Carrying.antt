-- Marks by the number of the input line: what one attempt does to the two tables is what `carry` does to the marks of the lines (`carries_joined`,
-- `carries_failed`), and so is what one attempt after the other does (`carries_then`). Cuts, and the noting of facts, keep the numbers of
-- lines (`carries_same`). Assumes nothing.
use Prim.Native.Nat.{ℕ, zero, suc, ◌<◌, min, max}
use native.Mathlib.Omega.{arith}
use native.Mathlib.Decide.{ℕ_discrete}
use mathlib.Core.Path.{◌≡◌, refl, sym, ap, ◌∙◌}
use mathlib.Core.Logic.{by_cases}
use mathlib.Core.List.{List, [], ◌∷◌, ◌++◌, map}
use mathlib.Core.Option.{Option, none, some}
use lib.ListN.{length, get_or, set, length-map, length-set}
use lib.Seq.{get_or-set_same, get_or-set_other}
use Rattle.reference.specs.Control.{when◌then◌else◌}
use Rattle.reference.specs.Lists.{remove, modify}
use Rattle.reference.specs.Text.{Text}
use Rattle.reference.specs.Listing.{Listing}
use Rattle.reference.specs.Rules.{Rules}
use Rattle.reference.specs.Life.{Labels}
use Rattle.reference.specs.Spans.{Marks, hull}
use Rattle.reference.specs.Run.{Attempt, failure, success, cuts_from, drop_dead_results, last_of}
use Rattle.reference.specs.Marks.{take_in, carry}
use Rattle.reference.proofs.Cases.{by-if}
use Rattle.reference.proofs.Limits.{All}
use Rattle.joining.specs.Rounds.{cut_at}
use Rattle.joining.specs.Carried.{marks_of, Kept, joined, pair_at, marks_by, Rising}
use Rattle.joining.proofs.Bare.{cut-addresses}
use Rattle.joining.proofs.Carried.{joined-marks, kept-joined, changed_at, rising-remove}
use Rattle.lines.specs.Lines.{origin_of, numbered, listing_read}
use Rattle.lines.proofs.words.Each.{map_at}
use Rattle.build.specs.State.{used}
use Rattle.build.specs.Added.{used_words}
use Rattle.join.specs.Contents.{Contents, used_lines, listing_now}
use Rattle.join.specs.Carrying.{lowered, raised, origins_at, Handed}
use Rattle.rounds.specs.Carries.{Held, Marked, Carries}

-- ---- lists

module _ {A : Type 0} (P : A → Type 0) where
  all_remove : (i : ℕ) (xs : List A) → All P xs → All P (remove i xs)
  all_remove i [] h = tt
  all_remove zero (x ∷ xs) h = h.1
  all_remove (suc i) (x ∷ xs) h = (h.0, all_remove i xs h.1)

  all-other : (Q : A → Type 0) → ((x : A) → P x → Q x) → (xs : List A) → All P xs → All Q xs
  all-other Q f [] h = tt
  all-other Q f (x ∷ xs) h = (f x h.0, all-other Q f xs h.1)

  all_at : (d : A) (xs : List A) (k : ℕ) → k < length xs → All P xs → P (get_or xs k d)
  all_at d [] k b h = absurd (omega arith)
  all_at d (x ∷ xs) zero b h = h.0
  all_at d (x ∷ xs) (suc k) b h = all_at d xs k (omega arith) h.1

map-remove : {A B : Type 0} (f : A → B) (i : ℕ) (xs : List A) → map f (remove i xs) ≡ remove i (map f xs)
map-remove f i [] = refl
map-remove f zero (x ∷ xs) = refl
map-remove {B = B} f (suc i) (x ∷ xs) = ap {B = List B} (λ r. f x ∷ r) (map-remove f i xs)

-- ---- the marks of lines by their numbers

abbrev at_number : List ℕ → List ℕ → ℕ → Marks
at_number lows highs o = marks_of (pair_at lows highs o)

by_number : (f : ℕ → Marks) (lines : List ℕ) → map (λ l. f (origin_of l)) lines ≡ map f (map origin_of lines)
by_number f [] = refl
by_number f (l ∷ lines) = ap (λ (r : List Marks). f (origin_of l) ∷ r) (by_number f lines)

-- the numbers of the lines, in what is read as their addresses
abbrev number : Option ℕ → ℕ
number none = 0
number (some n) = n

numbers-read : (tape area : Text) (tokens lines : List ℕ)
    → map number (map (λ l. l.address) (listing_read tape area tokens numbered lines)) ≡ map origin_of lines
numbers-read tape area tokens [] = refl
numbers-read tape area tokens (l ∷ lines) = ap (λ (r : List ℕ). origin_of l ∷ r) (numbers-read tape area tokens lines)

numbers-now : (s : Contents) → map number (map (λ l. l.address) (listing_now s numbered)) ≡ map origin_of (used_lines s)
numbers-now s = numbers-read s.tape (used s.area s.size) (used_words s.tokens s.size) (used_lines s)

-- lines with the same of these have the same numbers
pub numbers_same : (s s' : Contents) → map (λ l. l.address) (listing_now s' numbered) ≡ map (λ l. l.address) (listing_now s numbered)
    → map origin_of (used_lines s') ≡ map origin_of (used_lines s)
numbers_same s s' e = sym (numbers-now s') ∙ ap (map number) e ∙ numbers-now s

pub numbers-remove : (s s' : Contents) (i : ℕ) → map (λ l. l.address) (listing_now s' numbered) ≡ remove i (map (λ l. l.address) (listing_now s numbered))
    → map origin_of (used_lines s') ≡ remove i (map origin_of (used_lines s))
numbers-remove s s' i e =
    sym (numbers-now s') ∙ ap (map number) e ∙ map-remove number i (map (λ l. l.address) (listing_now s numbered)) ∙ ap (remove i) (numbers-now s)

-- ---- one line takes in a pair

module _ (lows highs : List ℕ) (o low high : ℕ) (h : Held lows highs o) (k : Kept (low, high)) where
  abbrev lows₁ : List ℕ
  lows₁ = set lows o (min (get_or lows o 0) low)

  abbrev highs₁ : List ℕ
  highs₁ = set highs o (max (get_or highs o 0) high)

  there : pair_at lows₁ highs₁ o ≡ joined (pair_at lows highs o) (low, high)
  there =
      let first : get_or lows₁ o 0 ≡ min (get_or lows o 0) low = get_or-set_same lows o _ 0 h.low_inside in
      let second : get_or highs₁ o 0 ≡ max (get_or highs o 0) high = get_or-set_same highs o _ 0 h.high_inside in
      λ i. (first i, second i)

  elsewhere : (p : ℕ) → (p ≡ o → ⊥) → pair_at lows₁ highs₁ p ≡ pair_at lows highs p
  elsewhere p n =
      let first : get_or lows₁ p 0 ≡ get_or lows p 0 = get_or-set_other lows o p _ 0 n in
      let second : get_or highs₁ p 0 ≡ get_or highs p 0 = get_or-set_other highs o p _ 0 n in
      λ i. (first i, second i)

  held_next : (p : ℕ) → Held lows highs p → Held lows₁ highs₁ p
  held_next p q =
      record {
        low_inside = rw (length-set lows o (min (get_or lows o 0) low)) q.low_inside;
        high_inside = rw (length-set highs o (max (get_or highs o 0) high)) q.high_inside;
        kept =
            by_cases (ℕ_discrete p o)
            (λ e. rw (e, there) (kept-joined (pair_at lows highs o) (low, high) h.kept k))
            (λ n. rw (elsewhere p n) q.kept);
      }

  marked_next : {os : List ℕ} → Marked os lows highs → Marked os lows₁ highs₁
  marked_next {os} m = record { rising = m.rising; each = all-other (Held lows highs) (Held lows₁ highs₁) held_next os m.each }

  marks-next : (os : List ℕ) (j : ℕ) → Rising 0 os → j < length os → get_or os j 0 ≡ o
      → map (at_number lows₁ highs₁) os ≡ modify j (λ n. hull n (marks_of (low, high))) (map (at_number lows highs) os)
  marks-next os j r b e =
      changed_at (at_number lows highs) (at_number lows₁ highs₁) o (λ p n. ap marks_of (elsewhere p n)) (λ n. hull n (marks_of (low, high))) 0 os j r b e
      (ap marks_of there ∙ joined-marks (pair_at lows highs o) (low, high) h.kept k)

-- ---- each of some lines takes it in

module _ (low high : ℕ) (k : Kept (low, high)) (os : List ℕ) where
  taken_in : (js : List ℕ) → All (λ j. j < length os) js → (lows highs : List ℕ) → Marked os lows highs
      → let lows' = lowered low (map (λ j. get_or os j 0) js) lows in
      let highs' = raised high (map (λ j. get_or os j 0) js) highs in
      Marked os lows' highs' × (map (at_number lows' highs') os ≡ take_in (marks_of (low, high)) js (map (at_number lows highs) os))
  unfolding lowered raised take_in
  taken_in [] b lows highs m = (m, refl)
  taken_in (j ∷ js) b lows highs m =
      let o : ℕ = get_or os j 0 in
      let h : Held lows highs o = all_at (Held lows highs) 0 os j b.0 m.each in
      let rest = taken_in js b.1 _ _ (marked_next lows highs o low high h k m) in
      (rest.0, rest.1 ∙ ap (take_in (marks_of (low, high)) js) (marks-next lows highs o low high h k os j m.rising b.0 refl))

-- ---- attempts

-- the places' numbers
numbers_at : (lines places : List ℕ) → All (λ j. j < length lines) places → origins_at lines places ≡ map (λ j. get_or (map origin_of lines) j 0) places
numbers_at lines [] b = refl
numbers_at lines (j ∷ js) b = λ i. sym (map_at origin_of lines j 0 b.0) i ∷ numbers_at lines js b.1 i

pub carries_failed : (i : ℕ) (left : Listing) (s : Contents) → Carries (failure i left ∷ []) s s
unfolding carry when◌then◌else◌
carries_failed i left s m = (m, refl)

pub carries_joined : (i : ℕ) (places : List ℕ) (left : Listing) (s s' : Contents) → Handed (used_lines s) i places s.lows s.highs s'.lows s'.highs
    → i < length (used_lines s) → All (λ j. (i < j) × (j < length (used_lines s))) places
    → map origin_of (used_lines s') ≡ remove i (map origin_of (used_lines s)) → Carries (success i places left ∷ []) s s'
unfolding carry when◌then◌else◌
carries_joined i places left s s' handed inside each gone m =
    let lines : List ℕ = used_lines s in
    let lows : List ℕ = s.lows in
    let highs : List ℕ = s.highs in
    let lines' : List ℕ = used_lines s' in
    let lows' : List ℕ = s'.lows in
    let highs' : List ℕ = s'.highs in
    let os : List ℕ = map origin_of lines in
    let o : ℕ = origin_of (get_or lines i 0) in
    let below : All (λ j. j < length lines) places = all-other (λ j. (i < j) × (j < length lines)) (λ j. j < length lines) (λ j b. b.1) places each in
    let within : All (λ j. j < length os) places =
    all-other (λ j. j < length lines) (λ j. j < length os) (λ j b. omega (arith, length-map lines origin_of)) places below in
    let here : get_or os i 0 ≡ o = map_at origin_of lines i 0 inside in
    let held : Held lows highs o = rw here at (all_at (Held lows highs) 0 os i (omega (arith, length-map lines origin_of)) m.each) in
    let t = taken_in (get_or lows o 0) (get_or highs o 0) held.kept os places within lows highs m in
    let same-lows : lows' ≡ lowered (get_or lows o 0) (map (λ j. get_or os j 0) places) lows =
    handed.lows_are ∙ ap (λ (ps : List ℕ). lowered (get_or lows o 0) ps lows) (numbers_at lines places below) in
    let same-highs : highs' ≡ raised (get_or highs o 0) (map (λ j. get_or os j 0) places) highs =
    handed.highs_are ∙ ap (λ (ps : List ℕ). raised (get_or highs o 0) ps highs) (numbers_at lines places below) in
    let marked : Marked os lows' highs' = rw (same-lows, same-highs) t.0 in
    let taken : map (at_number lows' highs') os ≡ take_in (at_number lows highs o) places (map (at_number lows highs) os) =
    rw (same-lows, same-highs) t.1 in
    let own : get_or (marks_by origin_of lows highs lines) i none ≡ at_number lows highs o =
    map_at (λ l. at_number lows highs (origin_of l)) lines i none inside in (
      rw gone (record { rising = rising-remove 0 i os marked.rising; each = all_remove (Held lows' highs') i os marked.each }),
      by_number (at_number lows' highs') lines'
          ∙ ap (map (at_number lows' highs')) gone
          ∙ map-remove (at_number lows' highs') i os
          ∙ ap (remove i) taken
          ∙ rw (own, by_number (at_number lows highs) lines),
    )

carry_append : (xs ys : List Attempt) (marks : List Marks) → carry (xs ++ ys) marks ≡ carry ys (carry xs marks)
unfolding carry
carry_append [] ys marks = refl
carry_append (x ∷ xs) ys marks = carry_append xs ys _

-- one after the other
pub carries_then : (xs ys : List Attempt) (a b c : Contents) → Carries xs a b → Carries ys b c → Carries (xs ++ ys) a c
carries_then xs ys a b c f g m =
    let p = f m in
    let q = g p.0 in
    (q.0, q.1 ∙ ap (carry ys) p.1 ∙ sym (carry_append xs ys (marks_by origin_of a.lows a.highs (used_lines a))))

pub carries_none : (s : Contents) → Carries [] s s
unfolding carry
carries_none s m = (m, refl)

-- other words for the same lines
pub carries_same : (s s' : Contents) → s'.lows ≡ s.lows → s'.highs ≡ s.highs → map origin_of (used_lines s') ≡ map origin_of (used_lines s) → Carries [] s s'
unfolding carry
carries_same s s' el eh e m =
    (rw (el, eh, e) m, rw (el, eh) (by_number (at_number s.lows s.highs) (used_lines s') ∙ ap (map (at_number s.lows s.highs)) e ∙ sym (by_number (at_number s.lows s.highs) (used_lines s))))

-- ---- the cuts move no address

cuts-keep : (rules : Rules) (labels : Labels) (n i : ℕ) (lines : Listing)
    → map (λ l. l.address) (last_of lines (cuts_from rules labels n i lines)) ≡ map (λ l. l.address) lines
unfolding cuts_from last_of
cuts-keep rules labels zero i lines = refl
cuts-keep rules labels (suc n) i lines =
    by-if (λ (cuts : List Listing). map (λ l. l.address) (last_of lines cuts) ≡ map (λ l. l.address) lines)
    (λ e. cuts-keep rules labels n (suc i) (cut_at i lines) ∙ cut-addresses i lines)
    (λ e. cuts-keep rules labels n (suc i) lines)

pub cuts-addresses : (rules : Rules) (lines : Listing) → map (λ l. l.address) (last_of lines (drop_dead_results rules lines)) ≡ map (λ l. l.address) lines
unfolding drop_dead_results
cuts-addresses rules lines = cuts-keep rules _ (length lines) 0 lines
