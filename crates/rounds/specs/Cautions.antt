-- What attempts and a whole run leave of the tables of cautions. Assumes nothing.
use Rattle.std.specs.Prelude.{◌≡◌, true, List}
use Rattle.reference.specs.Listing.{Listing}
use Rattle.reference.specs.Rules.{Rules}
use Rattle.reference.specs.Run.{Attempt}
use Rattle.cautions.specs.Cautions.{carry, kept_cautions}
use Rattle.lines.specs.Lines.{Reading}
use Rattle.join.specs.Contents.{Contents, listing_now, bare_now}
use Rattle.raising.specs.Tables.{is_on, sets_now}
use Rattle.raising.specs.declared.tables.Raising.{Raising}

-- The sets of the tables after the attempts, which begin with these lines: those that the attempts carry on.
abbrev pub Raises : Rules → Listing → List Attempt → Contents → Raising → Contents → Raising → Type 0
Raises rules lines attempts s t s' t' = is_on t ≡ true → sets_now (bare_now s') t' ≡ carry rules lines attempts (sets_now (bare_now s) t)

-- The sets after the whole run: those of the definition, whatever the addresses are.
abbrev pub CautionsKept : Rules → Contents → Contents → Raising → Raising → Type 0
CautionsKept rules s s' t t' =
    is_on t ≡ true → (addresses : Reading) → sets_now (bare_now s') t' ≡ kept_cautions rules (listing_now s addresses)
