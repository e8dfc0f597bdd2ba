-- What `right_side` and `assignment` answer in each of their cases, against `assignment_of`. Assumes nothing.
use Prim.Native.Nat.{ℕ, suc, ◌+◌, ◌-◌, ◌≤◌, ◌<◌}
use native.Mathlib.Omega.{arith}
use native.Mathlib.Decide.{dec_le}
use mathlib.Core.Path.{◌≡◌, refl, sym, ap, ◌∙◌}
use mathlib.Core.Logic.{by_cases}
use mathlib.Core.Bool.{Bool, true, false, false≢true}
use mathlib.Core.List.{List, [], ◌∷◌, ◌++◌}
use mathlib.Core.Option.{none, some}
use lib.Dec.{eqb}
use lib.ListN.{length, get_or, take, drop, length-drop, length-map, drop_of_length-le}
use lib.Seq.{get_or-drop, take_all}
use borrow.Author.Tests.{eq-eqb, ne_eqb, eqb-true}
use Rattle.reference.specs.Control.{when◌then◌else◌, let_some◌else◌then◌}
use Rattle.reference.specs.Lists.{is_empty}
use Rattle.reference.specs.Text.{Text, bytes, starts_with, ends_with}
use Rattle.reference.specs.Listing.{Token, token, is, Punct}
use Rattle.reference.specs.Shapes.{cut_semicolon, begins_assignment, right_side, assignment_of}
use Rattle.reference.proofs.Cases.{both, true-false}
use Rattle.laws.proofs.Scans.{if-true, if-false, starts_short}
use Rattle.lines.specs.Traits.{ends}
use Rattle.lines.specs.Words.{kind_of, len_of, without_first, text_of, token_of, tokens_of, Points, Holds}
use Rattle.lines.specs.declared.shapes.Expr.{Expr}
use Rattle.lines.specs.Shapes.{opened, expr_words, Expression, Opens, Sides, Assigns, sided}
use Rattle.lines.proofs.words.Tokens.{text_length, without_first-means, holds-drop}
use Rattle.lines.proofs.shapes.Right.{opened-length, opened-holds, expr-length}
use Rattle.lines.proofs.shapes.Cuts.{cut_open, cut-gone, cut-kept}
use Rattle.std.specs.Prelude as std
use Rattle.std.specs.Prelude.{Some, None}

-- ---- texts

empty-three : (s : Text) → 3 ≤ length s → is_empty (drop 3 s) ≡ eqb (length s) 3
empty-three [] h = absurd (omega arith)
empty-three (a ∷ []) h = absurd (omega arith)
empty-three (a ∷ b ∷ []) h = absurd (omega arith)
empty-three (a ∷ b ∷ c ∷ []) h = refl
empty-three (a ∷ b ∷ c ∷ d ∷ s) h = sym (ne_eqb (length (a ∷ b ∷ c ∷ d ∷ s)) 3 (λ f. omega arith))

ends_some : (s : Text) → ends_with s (bytes ";") ≡ true → 1 ≤ length s
ends_some [] e = absurd (false≢true e)
ends_some (a ∷ s) e = omega arith

starts_three : (s : Text) → starts_with s (bytes " = ") ≡ true → 3 ≤ length s
starts_three s e = by_cases (dec_le 3 (length s)) (λ h. h) (λ n. absurd (true-false e (starts_short s (bytes " = ") (omega (arith, n)))))

-- ---- the cases of `right_side`

some_side : (tape area : Text) (ws : List ℕ) (ts : List Token) → 0 < length ts
    → some (record { lhs = token_of tape area (get_or ws 0 0); expr = ts }) ≡ sided tape area ws (some ts)
unfolding let_some◌else◌then◌ when◌then◌else◌
some_side tape area ws [] h = absurd (omega arith)
some_side tape area ws (t ∷ ts) h = refl

no_to : {x : Expr} {X : Type 0} → None ≡ Some x → X
no_to e = absurd (let z : ◌≡◌ {A = ℕ} 0 1 = cc in omega arith)

module _ {tape area : Text} {ws : List ℕ} {first : ℕ} (o : Opens tape area ws) (low : 1 ≤ first) where
  nothing : none ≡ sided tape area ws (cut_semicolon (tokens_of tape area (drop first (opened ws)))) → Sides tape area ws first None
  nothing e = record { is = e; side = λ x f. no_to f }

  something : (x : Expr) → Expression ws x → cut_semicolon (tokens_of tape area (drop first (opened ws))) ≡ some (tokens_of tape area (expr_words ws x))
      → Sides tape area ws first (Some x)
  something x h e = record {
    is = some_side tape area ws (tokens_of tape area (expr_words ws x)) (rw (length-map, expr-length h) h.some) ∙ ap (sided tape area ws) (sym e);
    side = λ y f. let q : x ≡ y = cc in rw (sym q) h;
  }

  pub side-empty : length ws ≤ first → Sides tape area ws first None
  unfolding cut_semicolon let_some◌else◌then◌
  side-empty h =
      let e : drop first (opened ws) ≡ [] = drop_of_length-le (opened ws) {i = first} (rw opened-length h) in
      nothing (rw e)

  -- the words after ` = `
  module _ (more : first < length ws) where
    abbrev base : List ℕ
    base = drop first (opened ws)

    abbrev last : ℕ
    last = length ws - first - 1

    base-length : length base ≡ suc last
    base-length = rw (length-drop, opened-length) (omega arith)

    base-last : get_or base last 0 ≡ get_or (opened ws) (length ws - 1) 0
    base-last = let e : first + last ≡ length ws - 1 = omega arith in rw (get_or-drop, e)

    base-holds : Holds tape area base
    base-holds = holds-drop (opened-holds o.holds o.long o.mark) first

    expression : (c : ℕ) (b : Bool) → 0 < c → first + c ≤ length ws → (b ≡ true → 1 ≤ len_of (get_or (opened ws) (first + c - 1) 0))
        → Expression ws (record { first = first; count = c; cut = b })
    expression c b hc hi hb =
        record { mark = o.mark; short = (o.holds.at 1 o.long).short; first_is = low; some = hc; inside = hi; cut_is = hb }

    -- w is the last word, b whether it ends so, n its length
    module _ {w : ℕ} (ew : w ≡ get_or (opened ws) (length ws - 1) 0) where
      last_word : get_or base last 0 ≡ w
      last_word = base-last ∙ sym ew

      pub last-points : Points tape area w
      last-points = rw last_word at (base-holds.at last (omega (arith, base-length)))

      module _ {b : Bool} (eb : b ≡ ends (bytes ";") (token_of tape area w)) where
        told : {y : Bool} → b ≡ y → ends_with (text_of tape area (get_or base last 0)) (bytes ";") ≡ y
        told f = rw last_word (sym eb ∙ f)

        pub side_open : b ≡ false → Sides tape area ws first None
        unfolding let_some◌else◌then◌
        side_open f = nothing (rw (cut_open tape area last base base-length (told f)))

        module _ (e : b ≡ true) {n : ℕ} (en : n ≡ len_of w) where
          some_byte : 1 ≤ len_of w
          some_byte = omega (arith, ends_some (text_of tape area w) (sym eb ∙ e), text_length last-points)

          pub side-kept : (n ≡ 1 → ⊥) → Sides tape area ws first (Some (record { first = first; count = length ws - first; cut = true }))
          unfolding expr_words when◌then◌else◌
          side-kept f =
              something (record { first = first; count = length ws - first; cut = true })
              (expression (length ws - first) true (omega arith) (omega arith)
              (λ z. let q : first + (length ws - first) - 1 ≡ length ws - 1 = omega arith in rw (q, ← ew) some_byte))
              (cut-kept tape area last base base-length base-holds (told e) (rw (last_word, ← en) f)
              ∙ rw (take_all (length ws - first) base (omega (arith, base-length))))

          module _ (one : n ≡ 1) where
            gone : cut_semicolon (tokens_of tape area base) ≡ some (tokens_of tape area (take last base))
            gone = cut-gone tape area last base base-length base-holds (told e) (rw (last_word, ← en) one)

            pub side-only : length ws ≡ first + 1 → Sides tape area ws first None
            unfolding let_some◌else◌then◌ when◌then◌else◌
            side-only f = let z : last ≡ 0 = omega arith in nothing (rw (gone, z))

            pub side-gone : (length ws ≡ first + 1 → ⊥) → Sides tape area ws first (Some (record { first = first; count = length ws - first - 1; cut = false }))
            unfolding expr_words when◌then◌else◌
            side-gone f =
                something (record { first = first; count = length ws - first - 1; cut = false })
                (expression (length ws - first - 1) false (omega (arith, f)) (omega arith) (λ c. absurd (false≢true c)))
                gone

-- ---- the cases of `assignment`

module _ (tape area : Text) where
  assign-short : (ws : List ℕ) → length ws < 2 → none ≡ assignment_of (tokens_of tape area ws)
  unfolding assignment_of
  assign-short [] h = refl
  assign-short (w ∷ []) h = refl
  assign-short (w ∷ u ∷ us) h = absurd (omega arith)

  assign_other : (ws : List ℕ) → 1 < length ws → begins_assignment (token_of tape area (get_or ws 0 0)) (token_of tape area (get_or ws 1 0)) ≡ false
      → none ≡ assignment_of (tokens_of tape area ws)
  unfolding assignment_of
  assign_other [] h e = absurd (omega arith)
  assign_other (w ∷ []) h e = absurd (omega arith)
  assign_other (w ∷ u ∷ us) h e = sym (if-false _ _ e)

  pick_head : (b : Bool) {t : Token} (v w : ℕ) (us : List ℕ) → t ≡ token_of tape area v
      → (when b then [] else t ∷ []) ++ tokens_of tape area us ≡ tokens_of tape area (drop (when b then 2 else 1) (w ∷ v ∷ us))
  unfolding when◌then◌else◌
  pick_head true v w us e = refl
  pick_head false v w us e = ap (λ (x : Token). x ∷ tokens_of tape area us) e

  right-words : (w u : ℕ) (us : List ℕ) → Points tape area u → 3 ≤ len_of u → kind_of u ≡ Punct
      → right_side (token_of tape area u) (tokens_of tape area us) ≡ tokens_of tape area (drop (when eqb (len_of u) 3 then 2 else 1) (w ∷ without_first u 3 ∷ us))
  unfolding right_side
  right-words w u us p m k =
      rw (empty-three (text_of tape area u) (rw (text_length p) m), text_length p)
      (pick_head (eqb (len_of u) 3) (without_first u 3) w us
      (ap (λ (n : ℕ). token n (drop 3 (text_of tape area u))) (sym k) ∙ sym (without_first-means tape area u 3 p m)))

  begins : (w u : ℕ) → begins_assignment (token_of tape area w) (token_of tape area u) ≡ true
      → (kind_of u ≡ Punct) × (starts_with (text_of tape area u) (bytes " = ") ≡ true)
  unfolding begins_assignment is
  begins w u e = (eqb-true _ _ (both (both e).1).0, (both (both e).1).1)

  assign_some : (ws : List ℕ) → Opens tape area ws → begins_assignment (token_of tape area (get_or ws 0 0)) (token_of tape area (get_or ws 1 0)) ≡ true
      → assignment_of (tokens_of tape area ws) ≡ sided tape area ws (cut_semicolon (tokens_of tape area (drop (when eqb (len_of (get_or ws 1 0)) 3 then 2 else 1) (opened ws))))
  unfolding assignment_of opened
  assign_some [] o e = absurd (omega (arith, o.long))
  assign_some (w ∷ []) o e = absurd (omega (arith, o.long))
  assign_some (w ∷ u ∷ us) o e =
      if-true _ _ e
      ∙ ap (λ (ts : List Token). sided tape area (w ∷ u ∷ us) (cut_semicolon ts)) (right-words w u us (o.holds.at 1 o.long) o.mark (begins w u e).0)

module _ {tape area : Text} {ws : List ℕ} (h : Holds tape area ws) where
  pub assigned-short : length ws < 2 → Assigns tape area ws None
  assigned-short l = record { is = assign-short tape area ws l; side = λ x f. no_to f }

  -- b is whether the line begins as an assignment, n the length of the token with ` = `
  module _ (l : 1 < length ws) {b : Bool} (eb : b ≡ begins_assignment (token_of tape area (get_or ws 0 0)) (token_of tape area (get_or ws 1 0))) where
    pub assigned-other : b ≡ false → Assigns tape area ws None
    assigned-other f = record { is = assign_other tape area ws l (sym eb ∙ f); side = λ x f. no_to f }

    module _ (f : b ≡ true) where
      pub opens : Opens tape area ws
      opens = record {
        holds = h;
        long = l;
        mark = omega (arith, text_length (h.at 1 l), starts_three (text_of tape area (get_or ws 1 0)) (begins tape area (get_or ws 0 0) (get_or ws 1 0) (sym eb ∙ f)).1);
      }

      from-side : {first : ℕ} {r : std.Option Expr} → Sides tape area ws first r → (when eqb (len_of (get_or ws 1 0)) 3 then 2 else 1) ≡ first → Assigns tape area ws r
      from-side s e = record { is = s.is ∙ sym (assign_some tape area ws opens (sym eb ∙ f) ∙ rw e); side = s.side }

      module _ {n : ℕ} (en : n ≡ len_of (get_or ws 1 0)) {r : std.Option Expr} where
        pub assigned-next : n ≡ 3 → Sides tape area ws 2 r → Assigns tape area ws r
        assigned-next e s = from-side s (if-true _ _ (eq-eqb _ _ (sym en ∙ e)))

        pub assigned-rest : (n ≡ 3 → ⊥) → Sides tape area ws 1 r → Assigns tape area ws r
        assigned-rest e s = from-side s (if-false _ _ (ne_eqb _ _ (λ q. e (en ∙ q))))

-- what a caller knows of the answer
pub assigned_to : {tape area : Text} {ws : List ℕ} {r : std.Option Expr} {x : Expr} → Assigns tape area ws r → r ≡ Some x
    → assignment_of (tokens_of tape area ws) ≡ some (record { lhs = token_of tape area (get_or ws 0 0); expr = tokens_of tape area (expr_words ws x) })
assigned_to h e = rw (← h.is, e)

pub assigned-not : {tape area : Text} {ws : List ℕ} {r : std.Option Expr} → Assigns tape area ws r → r ≡ None → assignment_of (tokens_of tape area ws) ≡ none
assigned-not h e = rw (← h.is, e)

pub assigned-side : {tape area : Text} {ws : List ℕ} {r : std.Option Expr} {x : Expr} → Assigns tape area ws r → r ≡ Some x → Expression ws x
assigned-side {x = x} h e = h.side x e

-- what `right_side` and `assignment` leave
pub ruleset sides = (side-empty, last-points, side_open, side-kept, side-only, side-gone, assigned-other)
