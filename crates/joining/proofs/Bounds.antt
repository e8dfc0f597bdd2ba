-- The limits hold after every attempt; and while an attempt's new listing is built, its lines, not merged and folded yet, fit too:
-- they have 1,024 tokens and 49,152 bytes of room at most. Assumes nothing.
use Prim.Native.Nat.{ℕ, zero, suc, ◌+◌, ◌*◌, ◌≤◌, zero-le}
use native.Mathlib.Omega.{arith}
use native.Mathlib.Nat.{le_refl, le_trans}
use mathlib.Core.Path.{◌≡◌, refl, sym, ap, ◌∙◌}
use mathlib.Core.Bool.{false}
use mathlib.Core.List.{List, [], ◌∷◌}
use mathlib.Core.Option.{some}
use lib.ListN.{length, take}
use Rattle.reference.specs.Lists.{remove, modify}
use Rattle.reference.specs.Text.{Text}
use Rattle.reference.specs.Listing.{Token, Line, Listing, ◌at◌, with_tokens}
use Rattle.reference.specs.Rules.{Rules, volatile}
use Rattle.reference.specs.Shapes.{Assignment}
use Rattle.reference.specs.Life.{Labels}
use Rattle.reference.specs.Join.{substitute, try_at}
use Rattle.reference.specs.Claim.{sum, token_count}
use Rattle.reference.proofs.Cases.{by-if}
use Rattle.reference.proofs.Shapes.{Assigning, assigns}
use Rattle.reference.proofs.Weights.{Weight, weigh, weight, total, Light, count, count_is, plain, excess, light, light_excess, replaced_le, substitute_le}
use Rattle.reference.proofs.Lines.{sum-remove, sum-modify, at_modify}
use Rattle.reference.proofs.Changes.{removed-length}
use Rattle.reference.proofs.Fits.{Fits, removed_fit}
use Rattle.reference.proofs.Attempts.{attempt_removed}
use Rattle.laws.proofs.Scans.{if-false}
use Rattle.joining.specs.Limits.{RunLimits, plain_size, over, room, each_token}
use Rattle.joining.specs.Plan.{Plan, map_from, right_side_of, where_used, unmerged_line, built}
use Rattle.joining.proofs.Acting.{modifies, changed}
use Rattle.joining.proofs.Deciding.{defined_by, inside}
use Rattle.joining.proofs.Planned.{Way, constant, single, Planned}

-- ---- the limits, from step to step

pub limits-after : (rules : Rules) (lines : Listing) (i : ℕ) (labels : Labels) (addressed : List Text) {lines' : Listing}
    → try_at rules lines i labels addressed ≡ some lines' → RunLimits lines → RunLimits lines'
limits-after rules lines i labels addressed e v =
    let r = attempt_removed rules lines i labels addressed e in
    record { lines_fit = omega (arith, removed-length r, v.lines_fit); fits = removed_fit r v.fits }

-- ---- the room of a listing that fits

-- no number's text is past 24 bytes
pub over-fits : {lines : Listing} → Fits lines → each_token over lines ≡ 0
unfolding weigh
over-fits f = f.small

pub room_fits : {lines : Listing} → Fits lines → each_token room lines ≤ 49152
unfolding weigh
room_fits {lines} f =
    let short : each_token plain_size lines ≤ 24576 = f.short in
    omega (arith, rooms lines, f.few)
  where
    tokens : (ts : List Token) → sum room ts ≡ sum plain_size ts + 24 * length ts
    tokens [] = refl
    tokens (t ∷ ts) = omega (arith, tokens ts)

    rooms : (ls : Listing) → each_token room ls ≡ each_token plain_size ls + 24 * token_count ls
    rooms [] = refl
    rooms (l ∷ ls) = omega (arith, rooms ls, tokens l.tokens)

-- ---- the lines of a plan, not merged and folded

sum-map-from {ℓ} : {A : Type ℓ} (F : A → ℕ) (f : ℕ → A → A) → ((k : ℕ) (x : A) → F (f k x) ≤ F x) → (k : ℕ) (xs : List A) → sum F (map_from f k xs) ≤ sum F xs
sum-map-from F f h k [] = omega arith
sum-map-from F f h k (x ∷ xs) = omega (arith, h k x, sum-map-from F f h (suc k) xs)

no_brackets : (p : Plan) → p.brackets ≡ false → right_side_of p ≡ p.expr
unfolding right_side_of
no_brackets p b = if-false _ _ b

module _ {rules : Rules} {lines : Listing} {i : ℕ} {p : Plan} (h : Planned rules lines i p) where
  assigned : (a : Assignment) × Assigning (lines at i).tokens a × (a.expr ≡ p.expr)
  assigned =
      let d = defined_by (lines at i).tokens h.def h.known in
      (d.to, assigns (lines at i).tokens d.to d.assignment_is, sym (h.same_expr ∙ d.expr_is))

module _ {rules : Rules} {lines : Listing} {i : ℕ} {p : Plan} (h : Planned rules lines i p) (w : Weight) where
  substituted : Line → Line
  substituted l = with_tokens (substitute p.fam (right_side_of p) l.tokens) l

  unmerged_by : Way rules lines i p → Light w p.expr → total w (remove i (map_from (unmerged_line (volatile rules) i p) 0 lines)) ≤ total w lines
  unfolding substituted where_used modifies
  unmerged_by (constant n b) lone =
      let each : (k : ℕ) (l : Line) → weight w (unmerged_line (volatile rules) i p k l).tokens ≤ weight w l.tokens =
      (λ k l. by-if (λ (x : Line). weight w x.tokens ≤ weight w l.tokens)
      (λ t. rw (no_brackets p b) (substitute_le w p.fam p.expr (lone n) l.tokens))
      (λ t. le_refl _)) in
      omega (
        arith,
        sum-remove (λ l. weight w l.tokens) refl i (map_from (unmerged_line (volatile rules) i p) 0 lines),
        sum-map-from (λ l. weight w l.tokens) (unmerged_line (volatile rules) i p) each 0 lines,
      )
  unmerged_by (single pos lt only hp same) lone =
      let j : ℕ = p.last in
      let here : weight w (modify j substituted lines at i).tokens ≡ weight w (lines at i).tokens =
      ap (λ (l : Line). weight w l.tokens) (at_modify substituted i j lines (λ e. omega arith)) in
      let one : map_from (unmerged_line (volatile rules) i p) 0 lines ≡ modify j substituted lines =
      changed (volatile rules) i p substituted lines (inside lines i h.def h.known) ∙ ap (λ (us : List ℕ). modifies substituted us lines) only in
      let line : weight w (substituted (lines at j)).tokens ≤ weight w (lines at j).tokens + weight w (lines at i).tokens =
      rw same (rw (assigned h).2 at (replaced_le w rules p.fam (lines at j).tokens pos (assigned h).1 hp)) in
      rw one
      (omega (
        arith,
        sum-remove (λ l. weight w l.tokens) refl i (modify j substituted lines),
        sum-modify (λ l. weight w l.tokens) substituted j lines h.reached.0,
      ))

-- ---- the room, at each line of the loop that builds

module _ {ℓ} {A : Type ℓ} (F : A → ℕ) (f : ℕ → A → A) where
  sum-front : (k j : ℕ) (xs : List A) → sum F (map_from f j (take k xs)) ≤ sum F (map_from f j xs)
  sum-front zero j xs = zero-le
  sum-front (suc k) j [] = zero-le
  sum-front (suc k) j (x ∷ xs) = omega (arith, sum-front k (suc j) xs)

  sum_kept : (i k j : ℕ) (xs : List A) → sum F (remove i (map_from f j (take k xs))) ≤ sum F (remove i (map_from f j xs))
  sum_kept i zero j xs = zero-le
  sum_kept i (suc k) j [] = zero-le
  sum_kept zero (suc k) j (x ∷ xs) = sum-front k (suc j) xs
  sum_kept (suc i) (suc k) j (x ∷ xs) = omega (arith, sum_kept i k (suc j) xs)

module _ {rules : Rules} {lines : Listing} {i : ℕ} {p : Plan} (h : Planned rules lines i p) (v : Fits lines) (k : ℕ) where
  rows : Listing
  rows = built (unmerged_line (volatile rules) i p) i lines k

  rows_le : (w : Weight) → Light w p.expr → total w rows ≤ total w lines
  unfolding rows built
  rows_le w lone = le_trans (sum_kept (λ l. weight w l.tokens) (unmerged_line (volatile rules) i p) i k 0 lines) (unmerged_by h w h.way lone)

  pub unmerged-fits : Fits (built (unmerged_line (volatile rules) i p) i lines k)
  unfolding rows
  unmerged-fits =
      let a = assigned h in
      let none_here : weight excess (lines at i).tokens ≡ 0 = omega (arith, sum-remove (λ l. weight excess l.tokens) refl i lines, v.small) in
      record {
        few = omega (arith, rows_le count (light count (λ m n. le_refl _) p.expr), count_is rows, count_is lines, v.few);
        short = omega (arith, rows_le plain (light plain (λ m n. zero-le) p.expr), v.short);
        small = omega (arith, rows_le excess (rw a.2 at (light_excess a.1 none_here)), v.small);
      }
