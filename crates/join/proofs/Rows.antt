-- The room of the lines of a plan: not merged and folded yet, they take 49,152 bytes and 1,024 words at most, all of them together. So each has
-- room behind those that were written before it. Assumes nothing.
use Prim.Native.Nat.{ℕ, ◌+◌, ◌≤◌, ◌<◌}
use native.Mathlib.Omega.{arith}
use mathlib.Core.Path.{◌≡◌, ◌∙◌}
use mathlib.Core.List.{List, []}
use lib.ListN.{length, get_or, length-map}
use Rattle.reference.specs.Text.{Text}
use Rattle.reference.specs.Listing.{Token, Line, Listing, blank}
use Rattle.reference.specs.Rules.{Rules, volatile}
use Rattle.reference.specs.Claim.{sum}
use Rattle.reference.proofs.Fits.{Fits}
use Rattle.joining.specs.Limits.{room, over}
use Rattle.joining.specs.Plan.{Plan, unmerged_line}
use Rattle.joining.proofs.Building.{built-skip}
use Rattle.joining.proofs.Bounds.{over-fits, room_fits, unmerged-fits}
use Rattle.joining.proofs.Room.{built-sum}
use Rattle.lines.specs.Lines.{bare_listing}
use Rattle.lines.proofs.words.Lines.{bare_at}
use Rattle.plan.specs.declared.plans.Join.{Join}
use Rattle.lines.specs.declared.texts.Size.{Size}
use Rattle.build.specs.State.{Room}
use Rattle.join.specs.Building.{new_tokens, Placeable, Placed, plan_of, Plannable, unmerged_upto, Within, nothing_used}

module _ {rules : Rules} {tape old : Text} {words lines : List ℕ} {j : Join} (h : Plannable rules tape old words lines j) where
  abbrev plan : Plan
  plan = plan_of tape old words lines j

  abbrev bare_old : Listing
  bare_old = bare_listing tape old words lines

  -- the lines not merged and folded, up to line k
  abbrev rows : ℕ → Listing
  rows = unmerged_upto rules j plan bare_old

  rows_fit : (k : ℕ) → Fits (rows k)
  rows_fit k = unmerged-fits h.planned h.fits k

  pub last-inside : j.last < length lines
  last-inside = rw length-map at h.planned.reached.0

  pub within_begin : Within rules tape old words lines j 0 nothing_used
  within_begin = record { text_most = omega arith; words_most = omega arith }

  -- the line k, if it is not left out
  module _ (k : ℕ) (b : k < length lines) (n : k ≡ j.line → ⊥) where
    abbrev row : List Token
    row = new_tokens rules tape old words (get_or lines j.line 0) j k (get_or lines k 0)

    row_more : (F : Line → ℕ) → sum F (rows (k + 1)) ≡ sum F (rows k) + F (unmerged_line (volatile rules) j.line plan k (get_or bare_old k blank))
    row_more F = built-sum F (unmerged_line (volatile rules) j.line plan) j.line bare_old k blank (rw length-map b) n

    row-tokens : (unmerged_line (volatile rules) j.line plan k (get_or bare_old k blank)).tokens ≡ row
    row-tokens = rw (bare_at tape old words [] lines k b)

    more_room : sum (λ l. sum room l.tokens) (rows (k + 1)) ≡ sum (λ l. sum room l.tokens) (rows k) + sum room row
    more_room = row_more (λ l. sum room l.tokens) ∙ rw row-tokens

    more_over : sum (λ l. sum over l.tokens) (rows (k + 1)) ≡ sum (λ l. sum over l.tokens) (rows k) + sum over row
    more_over = row_more (λ l. sum over l.tokens) ∙ rw row-tokens

    more_words : sum (λ l. length l.tokens) (rows (k + 1)) ≡ sum (λ l. length l.tokens) (rows k) + length row
    more_words = row_more (λ l. length l.tokens) ∙ rw row-tokens

    pub placeable_in : {area : Text} {tokens : List ℕ} {size : Size} → Room area tokens size (sum room row) (length row) → size.tokens < 65536
        → {source l : ℕ} → source ≡ get_or lines j.line 0 → l ≡ get_or lines k 0 → Placeable rules tape old words source j k l area tokens size
    placeable_in r hf es el =
        let fit = rows_fit (k + 1) in
        rw (es, el) (record {
          source_lined = h.listed.at j.line h.inside;
          joins = h.joins;
          lined = h.listed.at k b;
          numbers_short = omega (arith, over-fits fit, more_over);
          has_room = r;
          first_fits = hf;
          few = omega (arith, more_words, fit.few);
        })

  module _ {k : ℕ} {size : Size} (w : Within rules tape old words lines j k size) where
    pub text_few : size.text ≤ 49152
    text_few = omega (arith, w.text_most, room_fits (rows_fit k))

    pub words_few : size.tokens ≤ 1024
    words_few = omega (arith, w.words_most, (rows_fit k).few)

    -- the line that is left out
    pub within_passed : k ≡ j.line → Within rules tape old words lines j (k + 1) size
    within_passed e =
        let same : rows (k + 1) ≡ rows k =
        rw e (built-skip (unmerged_line (volatile rules) j.line plan) j.line bare_old (rw length-map h.inside) blank) in
        record { text_most = rw same w.text_most; words_most = rw same w.words_most }

    module _ (b : k < length lines) (n : k ≡ j.line → ⊥) {source l : ℕ} (es : source ≡ get_or lines j.line 0) (el : l ≡ get_or lines k 0)
        {area : Text} {tokens : List ℕ} where
      pub placeable : 49152 ≤ length area → 1024 ≤ length tokens → Placeable rules tape old words source j k l area tokens size
      placeable ha ht =
          let fit = rows_fit (k + 1) in
          let most : size.text + sum room (row k b n) ≤ 49152 = omega (arith, w.text_most, more_room k b n, room_fits fit) in
          let many : size.tokens + length (row k b n) ≤ 1024 = omega (arith, w.words_most, more_words k b n, fit.few) in
          placeable_in k b n (record { text_fits = omega arith; short = omega arith; words_fit = omega arith }) (omega arith) es el

      -- it is written
      pub within-placed : {area' : Text} {tokens' : List ℕ} {at' : Size} {v : ℕ} → Placed rules tape old words source j k l area tokens size area' tokens' at' v
          → {size' : Size} → size'.text ≡ at'.text → size'.tokens ≡ at'.tokens → Within rules tape old words lines j (k + 1) size'
      within-placed a et ew =
          let p = rw (es, el) at a in
          record { text_most = omega (arith, p.text_most, w.text_most, more_room k b n); words_most = omega (arith, p.words_most, w.words_most, more_words k b n) }
