-- The room that a changed line of a plan takes, not merged and folded yet: at most its own and that of the line that is joined. Counted off their
-- words, that is what the code adds up. Assumes nothing.
use Prim.Native.Nat.{ℕ, suc, ◌+◌, ◌*◌, ◌≤◌, ◌<◌, zero-le, suc-le-suc}
use native.Mathlib.Omega.{arith}
use native.Mathlib.Nat.{le_refl, zero-add}
use native.Mathlib.Decide.{ℕ_discrete}
use mathlib.Core.Logic.{by_cases}
use mathlib.Core.Path.{◌≡◌, refl, sym, ap, ◌∙◌}
use mathlib.Core.Bool.{Bool, true, false}
use mathlib.Core.List.{List, [], ◌∷◌}
use lib.ListN.{length, get_or, length-map}
use Rattle.reference.specs.Control.{when◌then◌else◌}
use Rattle.reference.specs.Text.{Text}
use Rattle.reference.specs.Listing.{Token, is, Number, Line, Listing, blank, with_tokens, ◌at◌}
use Rattle.reference.specs.Rules.{Rules, volatile}
use Rattle.reference.specs.Join.{substitute}
use Rattle.reference.specs.Claim.{sum, size}
use Rattle.reference.proofs.Cases.{by-if}
use Rattle.reference.proofs.Shapes.{Assigning, assigns}
use Rattle.reference.proofs.Lines.{at_modify}
use Rattle.reference.proofs.Weights.{Weight, weigh, weight, Light, count, plain, light, replaced_le, substitute_le}
use Rattle.laws.proofs.Scans.{if-false}
use Rattle.joining.specs.Limits.{room}
use Rattle.joining.specs.Plan.{Plan, right_side_of, where_used, unmerged_line}
use Rattle.joining.proofs.Acting.{modifies, changed}
use Rattle.joining.proofs.Deciding.{defined_by, inside}
use Rattle.joining.proofs.Indexed.{getD_map_from}
use Rattle.joining.proofs.Planned.{Way, constant, single, Planned}
use Rattle.lines.specs.Words.{token_of, tokens_of, Holds}
use Rattle.lines.specs.Lines.{part_of}
use Rattle.lines.proofs.words.Tokens.{text_length}
use Rattle.lines.proofs.words.Lines.{bare_at}
use Rattle.plan.specs.declared.plans.Join.{Join}
use Rattle.join.specs.Building.{new_tokens, Plannable}
use Rattle.join.specs.Patching.{words_room, line_need}

-- ---- rooms as weights

one_room : (t : Token) → room t ≡ weigh plain t + 24 * weigh count t
unfolding weigh when◌then◌else◌
one_room t = go (is Number t)
  where
    go : (b : Bool) → (when b then 0 else size t) + 24 ≡ (when b then plain.number (size t) else plain.other (size t)) + 24 * (when b then count.number (size t) else count.other (size t))
    go true = omega arith
    go false = omega arith

room_weight : (ts : List Token) → sum room ts ≡ weight plain ts + 24 * weight count ts
room_weight [] = refl
room_weight (t ∷ ts) = omega (arith, one_room t, room_weight ts)

pub room-words : (tape area : Text) (ws : List ℕ) → Holds tape area ws → sum room (tokens_of tape area ws) ≤ words_room ws
unfolding words_room
room-words tape area [] h = zero-le
room-words tape area (w ∷ ws) h =
    let one : room (token_of tape area w) ≤ size (token_of tape area w) + 24 =
    by-if (λ (n : ℕ). n + 24 ≤ size (token_of tape area w) + 24) (λ e. omega arith) (λ e. omega arith) in
    omega (arith, one, text_length (h.at 0 (omega arith)), room-words tape area ws (record { at = λ k b. h.at (suc k) (suc-le-suc b) }))

-- every word takes 24 at least
pub room-count : (ts : List Token) → 24 * length ts ≤ sum room ts
room-count [] = zero-le
room-count (t ∷ ts) = omega (arith, room-count ts)

-- ---- a line of a plan

module _ {rules : Rules} {lines : Listing} {i : ℕ} {p : Plan} (h : Planned rules lines i p) where
  put : Line → Line
  put l = with_tokens (substitute p.fam (right_side_of p) l.tokens) l

  module _ (w : Weight) (lone : Light w p.expr) (k : ℕ) (b : k < length lines) where
    abbrev new : Line
    new = unmerged_line (volatile rules) i p k (lines at k)

    abbrev most : ℕ
    most = weight w (lines at k).tokens + weight w (lines at i).tokens

    row_weight : Way rules lines i p → weight w new.tokens ≤ most
    unfolding put where_used modifies right_side_of
    row_weight (constant n e) =
        by-if (λ (x : Line). weight w x.tokens ≤ most)
        (λ t. rw (if-false {a = p.brackets} _ _ e) (omega (arith, substitute_le w p.fam p.expr (lone n) (lines at k).tokens)))
        (λ t. omega arith)
    row_weight (single pos lt only hp same) = by_cases (ℕ_discrete k p.last)
        (λ e.
        (let d = defined_by (lines at i).tokens h.def h.known in
        let a : Assigning (lines at i).tokens d.to = assigns (lines at i).tokens d.to d.assignment_is in
        let expr : d.to.expr ≡ p.expr = sym (h.same_expr ∙ d.expr_is) in
        let line : weight w (put (lines at p.last)).tokens ≤ weight w (lines at p.last).tokens + weight w (lines at i).tokens =
        rw same (rw expr at (replaced_le w rules p.fam (lines at p.last).tokens pos a hp)) in
        by-if (λ (x : Line). weight w x.tokens ≤ most)
        (λ t. rw e line)
        (λ t. omega arith)))
        (λ n.
        (let one : unmerged_line (volatile rules) i p k (lines at k) ≡ lines at k =
        sym (getD_map_from (unmerged_line (volatile rules) i p) 0 lines k blank blank b ∙ rw (zero-add k))
        ∙ ap (λ (ls : Listing). ls at k) (changed (volatile rules) i p put lines (inside lines i h.def h.known) ∙ ap (λ (us : List ℕ). modifies put us lines) only)
        ∙ at_modify put k p.last lines n in
        rw one (omega arith)))

  row_room : (k : ℕ) → k < length lines → sum room (unmerged_line (volatile rules) i p k (lines at k)).tokens ≤ sum room (lines at k).tokens + sum room (lines at i).tokens
  row_room k b =
      omega (
        arith,
        room_weight (unmerged_line (volatile rules) i p k (lines at k)).tokens,
        room_weight (lines at k).tokens,
        room_weight (lines at i).tokens,
        row_weight plain (light plain (λ m n. zero-le) p.expr) k b h.way,
        row_weight count (light count (λ m n. le_refl _) p.expr) k b h.way,
      )

pub line_room : {rules : Rules} {tape old : Text} {words lines : List ℕ} {j : Join} (h : Plannable rules tape old words lines j) (k : ℕ) → k < length lines
    → sum room (new_tokens rules tape old words (get_or lines j.line 0) j k (get_or lines k 0)) ≤ line_need words (get_or lines j.line 0) (get_or lines k 0)
line_room {tape} {old} {words} {lines} {j} h k b =
    let r = rw (bare_at tape old words [] lines k b, bare_at tape old words [] lines j.line h.inside) at (row_room h.planned k (rw length-map b)) in
    omega (arith, r, room-words tape old (part_of words (get_or lines k 0)) (h.listed.at k b).holds, room-words tape old (part_of words (get_or lines j.line 0)) (h.listed.at j.line h.inside).holds)
