-- The first round of `laborious n` makes `most_attempts n` attempts, for every n and in every setting. The label fails, the move below it
-- is joined into the next and steps back to the label, until one move is left. Assumes nothing.
use Prim.Native.Nat.{ℕ, zero, suc, pred, ◌+◌, ◌≤◌, ◌<◌}
use Prim.Native.String.{String}
use native.Mathlib.Omega.{arith}
use mathlib.Core.Path.{◌≡◌, refl, ap, ◌∙◌}
use mathlib.Core.Bool.{Bool, true, false}
use mathlib.Core.List.{List, [], ◌∷◌}
use mathlib.Core.Option.{none, some}
use lib.ListN.{length}
use borrow.Author.Tests.{lt-ltb, le-ltb}
use Rattle.reference.specs.Control.{when◌then◌else◌, let_some◌else◌then◌}
use Rattle.reference.specs.Text.{Text, bytes}
use Rattle.reference.specs.Listing.{Listing}
use Rattle.reference.specs.Rules.{Rules}
use Rattle.reference.specs.Life.{Labels}
use Rattle.reference.specs.Join.{try_at}
use Rattle.reference.specs.Run.{labels_from, addressed_in, shift, attempts_from, propagate_once}
use Rattle.reference.proofs.Opened.{opened}
use Rattle.laborious.specs.Most.{most_attempts}
use Rattle.laborious.specs.Listing.{move, to_and_fro, label_and_moves, laborious}

-- ---- one attempt of a round

module _ (rules : Rules) (addressed : List Text) (i : ℕ) (lines : Listing) (labels : Labels) where
  fails : (fuel : ℕ) → i < length lines → try_at rules lines i labels addressed ≡ none
      → length (attempts_from rules addressed (suc fuel) i lines labels) ≡ suc
      (length (attempts_from rules addressed fuel (suc i) lines labels))
  unfolding attempts_from when◌then◌else◌ let_some◌else◌then◌
  fails fuel lt e = rw (lt-ltb i (length lines) lt, when◌then◌else◌, e, let_some◌else◌then◌)

  removes : (fuel : ℕ) {lines' : Listing} → i < length lines → try_at rules lines i labels addressed ≡ some lines'
      → length (attempts_from rules addressed (suc fuel) i lines labels) ≡ suc
      (length (attempts_from rules addressed fuel (pred i) lines' (shift i labels)))
  unfolding attempts_from when◌then◌else◌ let_some◌else◌then◌
  removes fuel lt e = rw (lt-ltb i (length lines) lt, when◌then◌else◌, e, let_some◌else◌then◌)

  ends : (fuel : ℕ) → length lines ≤ i → length (attempts_from rules addressed fuel i lines labels) ≡ 0
  unfolding attempts_from when◌then◌else◌
  ends zero le = refl
  ends (suc fuel) le = rw (le-ltb i (length lines) le, when◌then◌else◌)

-- ---- what the attempts of this round find

abbrev marks : Labels
marks = record { name = bytes "L"; place = 0 } ∷ []

-- two settings by their cases
abbrev with_settings : Bool → Bool → Rules → Rules
with_settings parts profile rules =
    record {
      convention = rules.convention;
      settle = rules.settle;
      edition = rules.edition;
      parts = parts;
      profile = profile;
    }

-- Of the listing with n moves still to go into one another: the first line stays, the second goes into the third as long as there is one.
record Moves (x y : String) : Type 0 where
  stays : (rules : Rules) (n : ℕ) → try_at rules (label_and_moves x y n) 0 marks [] ≡ none
  joined : (rules : Rules) (n : ℕ) → try_at rules (label_and_moves x y (suc n)) 1 marks [] ≡ some (label_and_moves y x n)
  last : (rules : Rules) → try_at rules (label_and_moves x y 0) 1 marks [] ≡ none
  plain : (ls : Listing) → addressed_in (move y x ∷ ls) ≡ addressed_in ls

there : Moves "rbx" "rbp"
unfolding opened to_and_fro
there = record { stays = λ rules n. refl; joined = joins; last = λ rules. refl; plain = λ ls. refl }
  where
    by_settings : (parts profile : Bool) (rules : Rules) (n : ℕ)
        → try_at (with_settings parts profile rules) (label_and_moves "rbx" "rbp" (suc n)) 1 marks [] ≡ some (label_and_moves "rbp" "rbx" n)
    by_settings false false rules zero = refl
    by_settings false false rules (suc n) = refl
    by_settings false true rules zero = refl
    by_settings false true rules (suc n) = refl
    by_settings true false rules zero = refl
    by_settings true false rules (suc n) = refl
    by_settings true true rules zero = refl
    by_settings true true rules (suc n) = refl

    joins : (rules : Rules) (n : ℕ) → try_at rules (label_and_moves "rbx" "rbp" (suc n)) 1 marks [] ≡ some (label_and_moves "rbp" "rbx" n)
    joins rules n = by_settings rules.parts rules.profile rules n

back : Moves "rbp" "rbx"
unfolding opened to_and_fro
back = record { stays = λ rules n. refl; joined = joins; last = λ rules. refl; plain = λ ls. refl }
  where
    by_settings : (parts profile : Bool) (rules : Rules) (n : ℕ)
        → try_at (with_settings parts profile rules) (label_and_moves "rbp" "rbx" (suc n)) 1 marks [] ≡ some (label_and_moves "rbx" "rbp" n)
    by_settings false false rules zero = refl
    by_settings false false rules (suc n) = refl
    by_settings false true rules zero = refl
    by_settings false true rules (suc n) = refl
    by_settings true false rules zero = refl
    by_settings true false rules (suc n) = refl
    by_settings true true rules zero = refl
    by_settings true true rules (suc n) = refl

    joins : (rules : Rules) (n : ℕ) → try_at rules (label_and_moves "rbp" "rbx" (suc n)) 1 marks [] ≡ some (label_and_moves "rbx" "rbp" n)
    joins rules n = by_settings rules.parts rules.profile rules n

-- ---- the round

module _ (rules : Rules) where
  turns : (x y : String) → Moves x y → Moves y x → (n fuel : ℕ) → n + n + 2 ≤ fuel
      → length (attempts_from rules [] fuel 0 (label_and_moves x y n) marks) ≡ n + n + 2
  unfolding to_and_fro shift when◌then◌else◌
  turns x y p q n zero le = omega arith
  turns x y p q n (suc zero) le = omega arith
  turns x y p q zero (suc (suc fuel)) le =
      fails rules [] 0 (label_and_moves x y 0) marks (suc fuel) (omega arith) (p.stays rules 0)
      ∙ ap suc (fails rules [] 1 (label_and_moves x y 0) marks fuel (omega arith) (p.last rules)
      ∙ ap suc (ends rules [] 2 (label_and_moves x y 0) marks fuel (omega arith)))
  turns x y p q (suc n) (suc (suc fuel)) le =
      let h = turns y x q p n fuel (omega arith) in
      let first = fails rules [] 0 (label_and_moves x y (suc n)) marks (suc fuel) (omega arith) (p.stays rules (suc n)) in
      let second = removes rules [] 1 (label_and_moves x y (suc n)) marks fuel (omega arith) (p.joined rules n) in
      omega (arith, h, first, second)

-- ---- what the round begins with

no_labels : (i : ℕ) (x y : String) (n : ℕ) → labels_from i (to_and_fro x y n) ≡ []
unfolding opened to_and_fro
no_labels i x y zero = refl
no_labels i x y (suc n) = no_labels (suc i) y x n

none_addressed : (x y : String) → Moves x y → Moves y x → (n : ℕ) → addressed_in (to_and_fro x y n) ≡ []
unfolding addressed_in to_and_fro
none_addressed x y p q zero = refl
none_addressed x y p q (suc n) = p.plain (to_and_fro y x n) ∙ none_addressed y x q p n

begins_labels : (n : ℕ) → labels_from 0 (label_and_moves "rbx" "rbp" n) ≡ marks
unfolding opened
begins_labels n = ap (λ (ls : Labels). record { name = bytes "L"; place = 0 } ∷ ls) (no_labels 2 "rbx" "rbp" n)

begins-addressed : (n : ℕ) → addressed_in (label_and_moves "rbx" "rbp" n) ≡ []
unfolding opened
begins-addressed n = none_addressed "rbx" "rbp" there back n

pub to_and_fro-length : (x y : String) (n : ℕ) → length (to_and_fro x y n) ≡ n
unfolding to_and_fro
to_and_fro-length x y zero = refl
to_and_fro-length x y (suc n) = ap suc (to_and_fro-length y x n)

pub laborious-length : (n : ℕ) → length (laborious n) ≡ n
unfolding laborious
laborious-length zero = refl
laborious-length (suc zero) = refl
laborious-length (suc (suc n)) = ap (λ (k : ℕ). suc (suc k)) (to_and_fro-length "rbx" "rbp" n)

moves_make : (rules : Rules) (n : ℕ) → length (propagate_once rules (label_and_moves "rbx" "rbp" n)) ≡ n + n + 2
unfolding propagate_once
moves_make rules n =
    rw (begins_labels n, begins-addressed n) (turns rules "rbx" "rbp" there back n _ (omega (arith, to_and_fro-length "rbx" "rbp" n)))

-- M-108, the listing: its first round makes the most attempts
pub makes_most : (rules : Rules) (n : ℕ) → length (propagate_once rules (laborious n)) ≡ most_attempts n
unfolding opened laborious most_attempts
makes_most rules zero = refl
makes_most rules (suc zero) = refl
makes_most rules (suc (suc n)) = moves_make rules n ∙ omega arith
