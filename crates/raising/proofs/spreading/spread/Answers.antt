-- `raising::spreading::spread` meets its contract. Assumes nothing.
use native.Mathlib.Omega.{arith}
use mathlib.Core.Path.{refl}
use Rattle.ground.specs.Rules.{rules_of}
use Rattle.lines.specs.Texts.{bare_listing, fam_text}
use Rattle.flow.proofs.Tables.{lines_long}
use Rattle.raising.proofs.Putting.{marked_is, kinds_are}
use Rattle.raising.proofs.spreading.spread.Goals as goal

pub returns-clause-marked : goal.returns-clause-marked
returns-clause-marked c = λ into notes.
    let a = c.args in
    let g = a.g.now in
    marked_is (rules_of a.rules) (bare_listing g.listing) a.i (fam_text g.listing.texts a.f) a.parts.now into notes a.seen.now
    (omega (arith, lines_long g, c.requires.2)) c.requires.5 _ a.sets.now _ c.requires.3 c.mark_others-found.ensures.sets

pub returns-clause-kinds : goal.returns-clause-kinds
returns-clause-kinds c = λ into notes.
    let a = c.args in
    let g = a.g.now in
    let f = c.mark_others-found.ensures in
    rw (c.given.ensures, c.given-2.ensures, c.given-3.ensures, c.is_odd-odd.ensures, c.either-read.ensures)
    (kinds_are (rules_of a.rules) (bare_listing g.listing) a.i (fam_text g.listing.texts a.f) a.parts.now into notes a.seen.now
    (omega (arith, lines_long g, c.requires.2)) c.requires.5 a.again f.dark f.stale refl c.is_handed-handed.ensures)
