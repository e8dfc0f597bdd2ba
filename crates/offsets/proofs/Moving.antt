-- Addresses moved in a listing and in marks: what stays, what comes back, and what the moved ones are within. Assumes nothing.
use Prim.Native.Nat.{ℕ, ◌<◌, ◌≤◌, ◌^◌}
use native.Mathlib.Omega.{arith}
use mathlib.Core.Path.{◌≡◌, refl, ap}
use mathlib.Core.List.{List, [], ◌∷◌}
use mathlib.Core.Option.{Option, none, some}
use lib.ListN.{length}
use Rattle.reference.specs.Control.{let_some◌else◌then◌}
use Rattle.reference.specs.Listing.{Line, Listing}
use Rattle.reference.specs.Spans.{Marks}
use Rattle.reference.specs.Tape.{TapeForm, width}
use Rattle.reference.specs.Claim.{token_count, text}
use Rattle.reference.proofs.Commands.{AddressFitsBy}
use Rattle.reference.proofs.Limits.{All, LineFits, Limits, MarksFitBy, TapeFitsBy}
use Rattle.offsets.specs.Offsets.{move_line, move_marks, move_lines, move_all_marks}

-- Q of every address there
abbrev pub OfAddress : (ℕ → Type 0) → Option ℕ → Type 0
OfAddress Q none = Unit {0}
OfAddress Q (some a) = Q a

abbrev pub OfLine : (ℕ → Type 0) → Line → Type 0
OfLine Q l = OfAddress Q l.address

abbrev pub OfMarks : (ℕ → Type 0) → Marks → Type 0
OfMarks Q none = Unit {0}
OfMarks Q (some s) = Q s.lowest × Q s.highest

-- marks whose lowest is not above their highest
abbrev pub Ordered : Marks → Type 0
Ordered none = Unit {0}
Ordered (some s) = s.lowest ≤ s.highest

-- ---- what stays

module _ (f : ℕ → ℕ) where
  pub moved_length : (lines : Listing) → length (move_lines f lines) ≡ length lines
  unfolding move_lines
  moved_length [] = refl
  moved_length (l ∷ ls) = omega (arith, moved_length ls)

  pub moved-marks-length : (marks : List Marks) → length (move_all_marks f marks) ≡ length marks
  unfolding move_all_marks
  moved-marks-length [] = refl
  moved-marks-length (m ∷ ms) = omega (arith, moved-marks-length ms)

  moved-tokens : (lines : Listing) → token_count (move_lines f lines) ≡ token_count lines
  unfolding move_lines move_line
  moved-tokens [] = refl
  moved-tokens (l ∷ ls) = omega (arith, moved-tokens ls)

  moved_text : (lines : Listing) → text (move_lines f lines) ≡ text lines
  unfolding move_lines move_line
  moved_text [] = refl
  moved_text (l ∷ ls) = omega (arith, moved_text ls)

  moved-each : (lines : Listing) → All LineFits lines → All LineFits (move_lines f lines)
  unfolding move_lines move_line
  moved-each [] h = tt
  moved-each (l ∷ ls) h = (record { indent = h.0.indent; tokens = h.0.tokens }, moved-each ls h.1)

  pub moved-limits : (lines : Listing) → Limits lines → Limits (move_lines f lines)
  moved-limits lines h =
      record {
        few_lines = omega (arith, h.few_lines, moved_length lines);
        few_tokens = omega (arith, h.few_tokens, moved-tokens lines);
        short_text = omega (arith, h.short_text, moved_text lines);
        each = moved-each lines h.each;
      }

-- ---- what comes to hold

module _ {A : Type 0} where
  pub all_map : (P Q : A → Type 0) → ((x : A) → P x → Q x) → (xs : List A) → All P xs → All Q xs
  all_map P Q h [] k = tt
  all_map P Q h (x ∷ xs) k = (h x k.0, all_map P Q h xs k.1)

  pub all_both : (P Q : A → Type 0) (xs : List A) → All P xs → All Q xs → All (λ x. P x × Q x) xs
  all_both P Q [] h k = tt
  all_both P Q (x ∷ xs) h k = ((h.0, k.0), all_both P Q xs h.1 k.1)

module _ (Q R : ℕ → Type 0) (f : ℕ → ℕ) (h : (a : ℕ) → Q a → R (f a)) where
  pub moved-lines-are : (lines : Listing) → All (OfLine Q) lines → All (OfLine R) (move_lines f lines)
  unfolding move_lines move_line let_some◌else◌then◌
  moved-lines-are [] k = tt
  moved-lines-are (l ∷ ls) k = (one l.address k.0, moved-lines-are ls k.1)
    where
      one : (o : Option ℕ) → OfAddress Q o → OfAddress R (let_some o else none then λ a. some (f a))
      one none u = tt
      one (some a) u = h a u

  pub moved-marks-are : (marks : List Marks) → All (OfMarks Q) marks → All (OfMarks R) (move_all_marks f marks)
  unfolding move_all_marks move_marks let_some◌else◌then◌
  moved-marks-are [] k = tt
  moved-marks-are (m ∷ ms) k = (one m k.0, moved-marks-are ms k.1)
    where
      one : (m : Marks) → OfMarks Q m → OfMarks R (move_marks f m)
      one none u = tt
      one (some s) u = (h s.lowest u.0, h s.highest u.1)

-- an order that f keeps
pub moved_ordered : (Q : ℕ → Type 0) (f : ℕ → ℕ) → ((a b : ℕ) → Q a → Q b → a ≤ b → f a ≤ f b) → (marks : List Marks) → All (OfMarks Q) marks → All Ordered marks
    → All Ordered (move_all_marks f marks)
unfolding move_all_marks move_marks let_some◌else◌then◌
moved_ordered Q f h [] k o = tt
moved_ordered Q f h (m ∷ ms) k o = (one m k.0 o.0, moved_ordered Q f h ms k.1 o.1)
  where
    one : (m : Marks) → OfMarks Q m → Ordered m → Ordered (move_marks f m)
    one none u v = tt
    one (some s) u v = h s.lowest s.highest u.0 u.1 v

-- ---- there and back

module _ (Q : ℕ → Type 0) (f g : ℕ → ℕ) (h : (a : ℕ) → Q a → g (f a) ≡ a) where
  pub lines-back : (lines : Listing) → All (OfLine Q) lines → move_lines g (move_lines f lines) ≡ lines
  unfolding move_lines move_line let_some◌else◌then◌
  lines-back [] k = refl
  lines-back (l ∷ ls) k =
      let e = one l.address k.0 in
      λ i. record { address = e i; indent = l.indent; tokens = l.tokens } ∷ lines-back ls k.1 i
    where
      one : (o : Option ℕ) → OfAddress Q o → (let_some (let_some o else none then λ a. some (f a)) else none then λ a. some (g a)) ≡ o
      one none u = refl
      one (some a) u = ap some (h a u)

  pub marks-back : (marks : List Marks) → All (OfMarks Q) marks → move_all_marks g (move_all_marks f marks) ≡ marks
  unfolding move_all_marks move_marks let_some◌else◌then◌
  marks-back [] k = refl
  marks-back (m ∷ ms) k = λ i. one m k.0 i ∷ marks-back ms k.1 i
    where
      one : (m : Marks) → OfMarks Q m → move_marks g (move_marks f m) ≡ m
      one none u = refl
      one (some s) u = λ i. some (record { lowest = h s.lowest u.0 i; highest = h s.highest u.1 i })

-- ---- in the words of Limits

module _ (form : TapeForm) where
  abbrev pub Short : ℕ → Type 0
  Short a = a < 256 ^ width form

  pub short-lines : (lines : Listing) → TapeFitsBy form lines → All (OfLine Short) lines
  short-lines lines h = all_map _ _ one lines h.addresses
    where
      go : (o : Option ℕ) → AddressFitsBy form o → OfAddress Short o
      go none u = tt
      go (some a) u = u

      one : (l : Line) → AddressFitsBy form l.address → OfLine Short l
      one l u = go l.address u

  pub fitting-lines : (lines : Listing) → Limits lines → All (OfLine Short) lines → TapeFitsBy form lines
  fitting-lines lines l h = record { limits = l; addresses = all_map _ _ one lines h }
    where
      go : (o : Option ℕ) → OfAddress Short o → AddressFitsBy form o
      go none u = tt
      go (some a) u = u

      one : (l : Line) → OfLine Short l → AddressFitsBy form l.address
      one l u = go l.address u

  pub short-marks : (marks : List Marks) → All (MarksFitBy form) marks → All (OfMarks Short) marks × All Ordered marks
  short-marks marks h = (all_map _ _ one marks h, all_map _ _ two marks h)
    where
      one : (m : Marks) → MarksFitBy form m → OfMarks Short m
      one none u = tt
      one (some s) u = u.0

      two : (m : Marks) → MarksFitBy form m → Ordered m
      two none u = tt
      two (some s) u = u.1

  pub fitting-marks : (marks : List Marks) → All (OfMarks Short) marks → All Ordered marks → All (MarksFitBy form) marks
  fitting-marks marks h k = all_map _ _ one marks (all_both _ _ marks h k)
    where
      one : (m : Marks) → OfMarks Short m × Ordered m → MarksFitBy form m
      one none u = tt
      one (some s) u = (u.0, u.1)
