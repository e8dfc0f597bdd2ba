-- Which name 16 refuses: the first that is no 64-bit register's, of the chosen one and then those of a list's entries. Assumes nothing.
use Rattle.std.specs.Prelude.{◌≡◌, ℕ, zero, suc, false, List, [], ◌∷◌, map, length}
use Rattle.std.specs.Prelude as std
use Rattle.std.specs.Borrow.{Bor}
use Rattle.std.proofs.Math.Option.{Option, none, some}
use Rattle.reference.specs.Control.{not, let_some◌else◌then◌}
use Rattle.reference.specs.Lists.{find}
use Rattle.reference.specs.Text.{Text}
use Rattle.reference.specs.Listing.{Listing}
use Rattle.reference.specs.Questions.{Refused}
use Rattle.start.specs.Start.{Entry, entries, is_register, solution, ask_names}
use Rattle.start.specs.Items.{head_of}

-- The entries of a list in front of one that is cut. `fuel` bounds them: an entry has a byte or more.
unfoldable pub whole_from : ℕ → List ℕ → List Entry
whole_from zero list = []
whole_from (suc fuel) list = let_some (head_of list) else [] then λ h. h.0 ∷ whole_from fuel h.1

unfoldable pub whole_entries : List ℕ → List Entry
whole_entries list = whole_from (length list) list

unfoldable pub unknown_name : Text → List ℕ → Option Text
unknown_name chosen list = find (λ x. not (is_register x)) (chosen ∷ map (λ (e : Entry). e.name) (whole_entries list))

-- an answer of the code
abbrev pub named : std.Option (Bor Text) → Option Text
named (std.Some x) = some x.now
named std.None = none

-- It is the name for which `ask_names` refuses; where there is none, and no entry is cut, `ask_names` does not refuse with 16.
pub record Names (chosen : Text) (list : List ℕ) : Type 0 where
  pub refuses : (x : Text) → unknown_name chosen list ≡ some x
      → (is_register x ≡ false) × ((lines : Listing) (wanted : ℕ) → ask_names lines chosen list wanted ≡ Refused 16 0)
  pub else_solves : unknown_name chosen list ≡ none → (es : List Entry) → entries list ≡ some es
      → (lines : Listing) (wanted : ℕ) → ask_names lines chosen list wanted ≡ solution lines chosen es wanted
