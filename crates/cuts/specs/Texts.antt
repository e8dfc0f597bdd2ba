-- What is said of the cuts, of the struct in which the texts are lent: the same words, the same meaning. Assumes nothing.
use Rattle.std.specs.Prelude.{ℕ, Bool, List}
use Rattle.reference.specs.Listing.{Listing}
use Rattle.reference.specs.Rules.{Rules}
use Rattle.reference.specs.Life.{Labels}
use Rattle.lines.specs.declared.texts.Texts.{Texts}
use Rattle.cautions.specs.Cautions as cautions
use Rattle.lines.specs.Lines.{bare_listing}
use Rattle.raising.specs.Tables as tables
use Rattle.raising.specs.declared.tables.Raising.{Raising}
use Rattle.cuts.specs.Cuts as Cuts
use Rattle.cuts.specs.Cautions as Cautions

abbrev pub Cuttable : Texts → List ℕ → List ℕ → List ℕ → Type 0
Cuttable t tokens lines labels = Cuts.Cuttable t.tape.now t.area.now tokens lines labels

abbrev pub labels_now : Texts → List ℕ → List ℕ → List ℕ → Labels
labels_now t tokens lines labels = Cuts.labels_now t.tape.now t.area.now tokens lines labels

abbrev pub Dropped : Rules → Texts → List ℕ → List ℕ → List ℕ → ℕ → List ℕ → Bool → Type 0
Dropped rules t tokens lines labels i lines' r = Cuts.Dropped rules t.tape.now t.area.now tokens lines labels i lines' r

abbrev pub Cut : (Listing → List Listing) → Texts → List ℕ → List ℕ → List ℕ → ℕ → Type 0
Cut cuts t tokens lines lines' r = Cuts.Cut cuts t.tape.now t.area.now tokens lines lines' r

-- ---- the tables of cautions

abbrev pub Kept : Texts → List ℕ → List ℕ → Raising → Type 0
Kept t tokens lines r = tables.Kept (bare_listing t.tape.now t.area.now tokens lines) r

abbrev pub DropRaised : Rules → Texts → List ℕ → List ℕ → List ℕ → ℕ → Raising → List ℕ → Raising → Type 0
DropRaised rules t tokens lines labels i r lines' r' = Cautions.DropRaised rules t.tape.now t.area.now tokens lines labels i r lines' r'

abbrev pub CutsRaised : Rules → (Listing → List cautions.Cut) → Texts → List ℕ → List ℕ → Raising → List ℕ → Raising → Type 0
CutsRaised rules made t tokens lines r lines' r' = Cautions.CutsRaised rules made t.tape.now t.area.now tokens lines r lines' r'
