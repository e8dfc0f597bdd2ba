-- What the cuts leave of the tables of cautions. Assumes nothing.
use Rattle.std.specs.Prelude.{ℕ, ◌≡◌, true, false, List, length}
use Rattle.reference.specs.Text.{Text}
use Rattle.reference.specs.Listing.{Listing}
use Rattle.reference.specs.Rules.{Rules}
use Rattle.reference.specs.Life.{Labels}
use Rattle.reference.specs.Run.{labels_from}
use Rattle.cautions.specs.Joins.{cut_cautions}
use Rattle.cautions.specs.Cautions as cautions
use Rattle.cautions.specs.Cautions.{cuts_made, both, with_cuts}
use Rattle.lines.specs.Lines.{Reading, listing_read, bare_listing}
use Rattle.raising.specs.Tables.{is_on, Kept, sets_now}
use Rattle.raising.specs.declared.tables.Raising.{Raising}
use Rattle.cuts.specs.Cuts.{dead_at}

-- the cuts of a listing, its labels being these
abbrev pub cuts_with : Rules → Labels → Listing → List cautions.Cut
cuts_with rules labels lines = cuts_made rules labels (length lines) 0 lines

-- and those that are made after the rounds
abbrev pub dead_cuts : Rules → Listing → List cautions.Cut
dead_cuts rules lines = cuts_with rules (labels_from 0 lines) lines

-- One line: the tables belong to what is left of the listing; their sets have the kinds of the cut of line i too, if it is cut.
pub record DropRaised (rules : Rules) (tape area : Text) (tokens lines labels : List ℕ) (i : ℕ) (r : Raising) (lines' : List ℕ)
    (r' : Raising) : Type 0 where
  pub kept : Kept (bare_listing tape area tokens lines') r'
  pub passed : dead_at rules tape area tokens lines labels i ≡ false
      → sets_now (bare_listing tape area tokens lines') r' ≡ sets_now (bare_listing tape area tokens lines) r
  pub cut : is_on r ≡ true → dead_at rules tape area tokens lines labels i ≡ true → sets_now (bare_listing tape area tokens lines') r'
      ≡ both (sets_now (bare_listing tape area tokens lines) r) (cut_cautions rules (bare_listing tape area tokens lines) i)

-- These cuts: the tables belong to what is left of the listing; their sets have the kinds of each of the cuts, whatever the addresses are.
pub record CutsRaised (rules : Rules) (made : Listing → List cautions.Cut) (tape area : Text) (tokens lines : List ℕ) (r : Raising)
    (lines' : List ℕ) (r' : Raising) : Type 0 where
  pub kept : Kept (bare_listing tape area tokens lines') r'
  pub sets : is_on r ≡ true → (addresses : Reading) → sets_now (bare_listing tape area tokens lines') r'
      ≡ with_cuts rules (made (listing_read tape area tokens addresses lines)) (sets_now (bare_listing tape area tokens lines) r)
