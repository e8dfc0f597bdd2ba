-- One line of the new listing: whether it is changed, and what is appended for it, kept or rewritten. Assumes nothing.
use Prim.Native.Nat.{ℕ, ◌≤◌}
use native.Mathlib.Omega.{arith}
use native.Mathlib.Nat.{le_refl}
use mathlib.Core.Path.{◌≡◌, sym, ap, ◌∙◌}
use mathlib.Core.Bool.{Bool, true, false}
use mathlib.Core.List.{List}
use lib.ListN.{length, length-map}
use Rattle.reference.specs.Text.{Text}
use Rattle.reference.specs.Listing.{Token, Line}
use Rattle.reference.specs.Rules.{Rules, volatile}
use Rattle.joining.specs.Plan.{Plan, changes, right_side_of}
use Rattle.joining.proofs.Acting.{line_changed, line_kept}
use Rattle.lines.specs.Words.{tokens_of}
use Rattle.lines.specs.Lines.{Reading, part_of, line_read, bare_in}
use Rattle.plan.specs.declared.plans.Join.{Join}
use Rattle.plan.specs.Plans.{join_in}
use Rattle.lines.specs.declared.texts.Size.{Size}
use Rattle.build.specs.Substitution.{right_of}
use Rattle.build.specs.Added.{Added, Keepable, Kept, unmerged, Rewritable, Rewritten}
use Rattle.build.proofs.Rooms.{text_room}
use Rattle.build.proofs.Adding.{part_length}
use Rattle.join.specs.Building.{substitution_of, new_tokens, Placeable, Placed}

-- ---- what is appended

-- the same line, said in other words, and within wider bounds
module _ {tape area : Text} {tokens : List ℕ} {at : Size} {line : Reading → Line} {n k : ℕ} {area' : Text} {tokens' : List ℕ} {at' : Size} {v : ℕ} where
  added_as : Added tape area tokens at line n k area' tokens' at' v → (line' : Reading → Line) (n' k' : ℕ) → ((addresses : Reading) → line addresses ≡ line' addresses) → n ≤ n' → k ≤ k'
      → Added tape area tokens at line' n' k' area' tokens' at' v
  added_as a line' n' k' same hn hk = record {
    lined = a.lined;
    line_is = λ addresses. a.line_is addresses ∙ same addresses;
    first_is = a.first_is;
    end_is = a.end_is;
    fresh = a.fresh;
    lines_are = a.lines_are;
    words_below = a.words_below;
    text_below = a.text_below;
    text_grows = a.text_grows;
    text_most = omega (arith, a.text_most);
    words_most = omega (arith, a.words_most);
  }

module _ {rules : Rules} {tape old : Text} {words : List ℕ} {source : ℕ} {j : Join} {k l : ℕ} {area : Text} {tokens : List ℕ} {at : Size}
    (h : Placeable rules tape old words source j k l area tokens at) where
  abbrev plan : Plan
  plan = join_in tape old (part_of words source) j

  abbrev old_tokens : List Token
  old_tokens = tokens_of tape old (part_of words l)

  -- a line that stays as it is
  module _ {b : Bool} (is : b ≡ changes (volatile rules) j.line plan k (bare_in tape old words l)) (left : b ≡ false) where
    same : changes (volatile rules) j.line plan k (bare_in tape old words l) ≡ false
    same = sym is ∙ left

    kept-tokens : new_tokens rules tape old words source j k l ≡ old_tokens
    kept-tokens = ap (λ (x : Line). x.tokens) (line_kept (volatile rules) j.line plan _ k (bare_in tape old words l) same)

    kept-short : length old_tokens ≡ length (part_of words l)
    kept-short = length-map (part_of words l) _

    pub keepable : Keepable tape old words l area tokens at
    keepable =
        let r = rw kept-tokens at h.has_room in
        let t = text_room old_tokens (rw kept-tokens at h.numbers_short) in
        record {
          lined = h.lined;
          has_room = record {
            text_fits = omega (arith, r.text_fits, t);
            short = omega (arith, r.short, t);
            words_fit = omega (arith, r.words_fit, kept-short, part_length h.lined);
          };
          first_fits = h.first_fits;
        }

    pub placed-kept : {area' : Text} {tokens' : List ℕ} {at' : Size} {v : ℕ} → Kept tape old words l area tokens at area' tokens' at' v
        → Placed rules tape old words source j k l area tokens at area' tokens' at' v
    unfolding changes
    placed-kept a =
        added_as a _ _ _ (λ addresses. sym (line_kept (volatile rules) j.line plan _ k (line_read tape old words addresses l) same))
        (rw kept-tokens (text_room old_tokens (rw kept-tokens at h.numbers_short)))
        (rw kept-tokens (omega (arith, kept-short, part_length h.lined)))

  -- a line with the right side for each token of the family
  module _ {b : Bool} (is : b ≡ changes (volatile rules) j.line plan k (bare_in tape old words l)) (taken : b ≡ true) where
    other : changes (volatile rules) j.line plan k (bare_in tape old words l) ≡ true
    other = sym is ∙ taken

    rewritten_tokens : new_tokens rules tape old words source j k l ≡ unmerged tape old words source (substitution_of j) l
    unfolding right_of right_side_of
    rewritten_tokens = ap (λ (x : Line). x.tokens) (line_changed (volatile rules) j.line plan _ k (bare_in tape old words l) other)

    pub rewritable : Rewritable tape old words source (substitution_of j) l area tokens at
    rewritable = record {
      source_lined = h.source_lined;
      substitutes = record { holds = h.source_lined.holds; expression = h.joins.side; known = h.joins.known };
      lined = h.lined;
      numbers_short = rw rewritten_tokens at h.numbers_short;
      has_room = rw rewritten_tokens at h.has_room;
      first_fits = h.first_fits;
      few = rw rewritten_tokens at h.few;
    }

    pub placed_rewritten : {area' : Text} {tokens' : List ℕ} {at' : Size} {v : ℕ} → Rewritten rules.edition tape old words source (substitution_of j) l area tokens at area' tokens' at' v
        → Placed rules tape old words source j k l area tokens at area' tokens' at' v
    unfolding changes right_of right_side_of
    placed_rewritten a =
        added_as a _ _ _ (λ addresses. sym (line_changed (volatile rules) j.line plan _ k (line_read tape old words addresses l) other))
        (rw rewritten_tokens (le_refl _)) (rw rewritten_tokens (le_refl _))
