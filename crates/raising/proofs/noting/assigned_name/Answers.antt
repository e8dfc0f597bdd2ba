-- `raising::noting::assigned_name` meets its contract. Assumes nothing.
use mathlib.Core.Path.{subst}
use mathlib.Core.Option.{Option}
use Rattle.reference.specs.Names.{Fam}
use Rattle.lines.specs.Fams.{Names}
use Rattle.lines.specs.Texts.{words_at}
use Rattle.raising.proofs.Told.{named_first, named_none, line_is}
use Rattle.raising.proofs.noting.assigned_name.Goals as goal

pub returns-in-Some : goal.returns-in-Some
returns-in-Some c d e =
    let h = c.args.listing.now in
    let by = rw (line_is h c.args.i c.requires.1) at e in
    let first = rw (c.in-Some.is, c.line_of-line.ensures) at c.first.ensures.value in
    subst (λ (o : Option Fam). Names h.texts.tape.now h.texts.area.now o c.name_of.result) (named_first h.texts (words_at h c.args.i) d by c.in-Some.w.now first) c.name_of.ensures

pub returns-in-None : goal.returns-in-None
returns-in-None c d e =
    let h = c.args.listing.now in
    let by = rw (line_is h c.args.i c.requires.1) at e in
    absurd (named_none h.texts (words_at h c.args.i) d by (rw (c.in-None.is, c.line_of-line.ensures) at c.first.ensures.value))
