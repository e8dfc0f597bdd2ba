-- THE LAW (`told`): a copy of the listing in which line k alone has an address, and no 03 stands, tells by its marks the finished lines that line k comes
-- into. With it `same_attempts` and so on: the run of the copy is the run of the listing, but for addresses. Assumes nothing.
use Prim.Native.Nat.{ℕ, zero, suc, ◌<◌}
use native.Mathlib.Omega.{arith}
use mathlib.Core.Path.{◌≡◌, refl, ap, ◌∙◌}
use mathlib.Core.Bool.{Bool, true, false}
use mathlib.Core.List.{List, [], ◌∷◌, ◌++◌, map}
use mathlib.Core.Option.{none}
use lib.Dec.{ltb}
use lib.ListN.{length, get_or}
use borrow.Author.Tests.{lt-ltb, le-ltb}
use Rattle.reference.specs.Control.{◌and◌, when◌then◌else◌, let_some◌else◌then◌}
use Rattle.reference.specs.Lists.{is_some}
use Rattle.reference.specs.Listing.{Listing}
use Rattle.reference.specs.Rules.{Rules}
use Rattle.reference.specs.Spans.{Marks, span_of, hull}
use Rattle.reference.specs.Straight.{breaks}
use Rattle.reference.specs.Run.{run, attempts_of, finished, counts}
use Rattle.reference.specs.Marks.{comes_to, adds, added, of_each, finished_marks}
use Rattle.laws.proofs.Scans.{and_true, and_false, ltb-suc}
use Rattle.joining.specs.Bare.{bare, bare_lines}
use Rattle.sources.specs.Only.{only, came}
use Rattle.sources.proofs.Bared.{did, attempts_same, counts_same, finished_same, finished-length, comes_same, breaks_same}

-- ---- the copy is the listing, but for addresses

bare_twice : (lines : Listing) → bare_lines (bare_lines lines) ≡ bare_lines lines
bare_twice [] = refl
bare_twice (l ∷ ls) = ap {B = Listing} (λ r. bare l ∷ r) (bare_twice ls)

pub only-bare : (k : ℕ) (lines : Listing) → bare_lines (only k lines) ≡ bare_lines lines
unfolding only
only-bare k [] = refl
only-bare zero (l ∷ ls) = ap {B = Listing} (λ r. bare l ∷ r) (bare_twice ls)
only-bare (suc k) (l ∷ ls) = ap {B = Listing} (λ r. bare l ∷ r) (only-bare k ls)

-- ---- what the copy's lines add

nothing-added : (b : Bool) (xs : List ℕ) → (when b then [] else []) ++ xs ≡ xs
unfolding when◌then◌else◌
nothing-added true xs = refl
nothing-added false xs = refl

bare-adds : (P : ℕ → Bool) (lines : Listing) → added P (bare_lines lines) [] ≡ []
unfolding added adds let_some◌else◌then◌
bare-adds P [] = refl
bare-adds P (l ∷ ls) = nothing-added (P 0) _ ∙ bare-adds (λ p. P (suc p)) ls

-- the address of line k, where it is picked out
only-adds : (P : ℕ → Bool) (k : ℕ) (lines : Listing) → added P (only k lines) [] ≡ (when ltb k (length lines) and P k then 0 ∷ [] else [])
unfolding added adds let_some◌else◌then◌ only when◌then◌else◌
only-adds P k [] = rw (and_false (P k) (le-ltb k 0 (omega arith)))
only-adds P zero (l ∷ ls) = rw (and_true (P 0) (lt-ltb 0 (length (l ∷ ls)) (omega arith)), bare-adds (λ p. P (suc p)) ls) (go (P 0))
  where
    go : (b : Bool) → ◌++◌ {A = ℕ} (when b then 0 ∷ [] else []) [] ≡ (when b then 0 ∷ [] else [])
    go true = refl
    go false = refl
only-adds P (suc k) (l ∷ ls) = nothing-added (P 0) _ ∙ only-adds (λ p. P (suc p)) k ls ∙ ap (λ (b : Bool). when b and P (suc k) then 0 ∷ [] else []) (ltb-suc k (length ls))

is_some_span : (b : Bool) → is_some (span_of (when b then 0 ∷ [] else [])) ≡ b
unfolding when◌then◌else◌ span_of hull
is_some_span true = refl
is_some_span false = refl

-- ---- the marks of the copy's finished lines

each_at : (f : ℕ → Marks) (lines : Listing) (q : ℕ) → q < length lines → get_or (of_each f lines) q none ≡ f q
unfolding of_each
each_at f [] q h = absurd (omega arith)
each_at f (l ∷ ls) zero h = refl
each_at f (l ∷ ls) (suc q) h = each_at (λ q. f (suc q)) ls q (omega arith)

module _ (rules : Rules) (input : Listing) (k : ℕ) where
  -- A FINISHED LINE OF THE COPY HAS MARKS EXACTLY IF THERE IS A LINE k AND IT COMES INTO IT
  pub told-came : (q : ℕ) → q < length (finished rules input) → is_some (get_or (finished_marks rules (only k input) []) q none) ≡ came rules input k q
  unfolding finished_marks came
  told-came q h =
      let copy : Listing = only k input in
      let comes : ℕ → Bool = λ p. comes_to (attempts_of (run rules copy)) p q in
      let same : bare_lines copy ≡ bare_lines input = only-bare k input in
      ap is_some
      (each_at (λ q. span_of (added (λ p. comes_to (attempts_of (run rules copy)) p q) copy [])) (finished rules copy) q (omega (arith, finished-length rules copy input same))
      ∙ ap span_of (only-adds comes k input))
      ∙ is_some_span (ltb k (length input) and comes k)
      ∙ ap (λ (b : Bool). ltb k (length input) and b) (comes_same rules copy input same k q)

  -- THE LAW
  pub told : (q : ℕ) → k < length input → q < length (finished rules input)
      → is_some (get_or (finished_marks rules (only k input) []) q none) ≡ comes_to (attempts_of (run rules input)) k q
  unfolding came
  told q h j = told-came q j ∙ and_true _ (lt-ltb k (length input) h)

  -- THE RUN OF THE COPY IS THE RUN OF THE LISTING, BUT FOR ADDRESSES: the same attempts, counts, finished lines and profile
  pub same_attempts : map (map did) (run rules (only k input)).rounds ≡ map (map did) (run rules input).rounds
  same_attempts = attempts_same rules (only k input) input (only-bare k input)

  pub same_counts : counts rules (run rules (only k input)) ≡ counts rules (run rules input)
  same_counts = counts_same rules (only k input) input (only-bare k input)

  pub same_finished : bare_lines (finished rules (only k input)) ≡ bare_lines (finished rules input)
  same_finished = finished_same rules (only k input) input (only-bare k input)

  pub same_length : length (finished rules (only k input)) ≡ length (finished rules input)
  same_length = finished-length rules (only k input) input (only-bare k input)

pub same_profile : (k : ℕ) (input : Listing) → breaks (only k input) ≡ breaks input
same_profile k input = breaks_same (only k input) input (only-bare k input)
