-- How the examples are written: as crate books writes its own, and beside each finished line its kinds. Assumes nothing.
use Rattle.std.specs.Prelude.{ℕ, ◌≡◌, List, [], ◌∷◌, map}
use Prim.Native.String.{String}
use Rattle.reference.specs.Listing.{Line, Listing}
use Rattle.books.specs.Notation.{listing, K, P, T, line, convention_0, convention_1, convention_1_parts}
use Rattle.books.specs.Notation.{gives, gives_32_bit, gives_parts, turns}
use Rattle.cautions.specs.Cautions.{finished_cautions}

-- an instruction that stands as text
abbrev pub instruction : String → Line
instruction s = line (K "__asm" ∷ P " { " ∷ T s ∷ P " }" ∷ [])

-- a finished line without a kind
abbrev pub plain : {A : Type 0} → A → A × ℕ
plain l = (l, 0)

module _ {A : Type 0} where
  -- the lines, and their sets
  abbrev lines_of : List (A × ℕ) → List A
  lines_of = map (λ r. r.0)

  abbrev sets_of : List (A × ℕ) → List ℕ
  sets_of = map (λ r. r.1)

-- the finished lines under convention 1, each with its kinds
abbrev pub warns : List String → List (String × ℕ) → Type 0
warns before after = gives before (lines_of after) × (finished_cautions convention_1 (listing before) ≡ sets_of after)

-- with no caution
abbrev pub quiet : List String → List String → Type 0
quiet before after = warns before (map plain after)

-- ---- rows, of which crate books shows the finished lines

-- under convention 1
abbrev pub row : (before : List String) (after : List (String × ℕ)) → gives before (lines_of after) → Type 0
row before after shown = finished_cautions convention_1 (listing before) ≡ sets_of after

-- the same of lines, where the kinds of tokens matter
abbrev pub row_of_lines : (before : Listing) (after : List (Line × ℕ)) → turns before (lines_of after) → Type 0
row_of_lines before after shown = finished_cautions convention_1 before ≡ sets_of after

-- under convention 0: 32-bit code
abbrev pub row_32_bit : (before : List String) (after : List (String × ℕ)) → gives_32_bit before (lines_of after) → Type 0
row_32_bit before after shown = finished_cautions convention_0 (listing before) ≡ sets_of after

-- under convention 1 and the parts setting
abbrev pub row_parts : (before : List String) (after : List (String × ℕ)) → gives_parts before (lines_of after) → Type 0
row_parts before after shown = finished_cautions convention_1_parts (listing before) ≡ sets_of after
