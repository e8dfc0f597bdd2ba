-- The walk of the definitions, in the parts that the code makes. Assumes nothing.
use Rattle.std.specs.Prelude.{ℕ, suc, Bool, false, List, [], map, eqb, length, get_or, replicate, filter}
use Rattle.reference.specs.Control.{not, ◌and◌, ◌or◌, when◌then◌else◌, let_some◌else◌then◌}
use Rattle.reference.specs.Text.{Text}
use Rattle.reference.specs.Listing.{Listing, ◌at◌}
use Rattle.cautions.specs.Forms.{places, is_case, next, ways, is_dark, ends, reads, onward, reach, sweeps}
use Rattle.flow.specs.Ways.{forms_of}

-- the lines that may come next, none if they are not known
abbrev pub after : Listing → ℕ → List ℕ
after lines k = let_some (next lines (forms_of lines) k) else [] then λ ks. ks

-- the cases among these lines
abbrev pub cases_in : Listing → List ℕ → List ℕ
cases_in lines = filter (λ m. is_case (lines at m).tokens)

module _ (lines : Listing) (i : ℕ) (fam : Text) (volatile : List Text) where
  -- the value of line i goes no further than line k
  unfoldable pub stops_at : ℕ → Bool
  stops_at k = eqb k i or is_dark lines (ways lines) k or ends fam volatile (lines at k).tokens

  -- one line of a sweep
  unfoldable pub stepped : ℕ → List Bool → List Bool
  stepped k seen = when get_or seen k false then reach (onward lines (ways lines) i fam volatile k) seen else seen

  abbrev pub onward_of : List (List ℕ)
  onward_of = map (onward lines (ways lines) i fam volatile) (places lines)

  -- `reached` of the definitions as a table, of which `reached_from 0` has the lines (proofs/Spreading, `reached_is`)
  abbrev pub reached_table : List Bool
  reached_table = sweeps (length lines) onward_of (reach (after lines i) (replicate (suc (length lines)) false))

-- line k is looked into and reads the family: where its value is an older one, it reads that
unfoldable pub is_stale : Listing → Text → ℕ → Bool
is_stale lines fam k = not (is_dark lines (ways lines) k) and reads fam (lines at k).tokens

-- a place that is reached
abbrev pub is_one : Bool → Bool
is_one b = b
