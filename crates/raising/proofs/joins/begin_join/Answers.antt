-- `raising::joins::begin_join` meets its contract. Assumes nothing.
use native.Mathlib.Omega.{arith}
use mathlib.Core.Path.{◌≡◌, sym, ap, subst}
use mathlib.Core.Option.{Option}
use lib.ListN.{length}
use Rattle.std.specs.Prelude as std
use Rattle.reference.specs.Listing.{◌at◌}
use Rattle.reference.specs.Names.{Fam, family}
use Rattle.lines.specs.Fams.{Names}
use Rattle.lines.specs.Texts.{bare_listing}
use Rattle.lines.specs.declared.fams.Named.{Named}
use Rattle.flow.specs.declared.ways.FormedListing.{FormedListing}
use Rattle.plan.specs.declared.plans.Join.{Join}
use Rattle.usefacts.proofs.Narrow.{named_narrow}
use Rattle.raising.proofs.Told.{assigned, long}
use Rattle.raising.proofs.Before.{forms_of_listing, fam_is, begun}
use Rattle.raising.proofs.joins.begin_join.Goals as goal

pub prepared-n-requires : goal.prepared-n-requires
prepared-n-requires c =
    let h = c.args.listing.now in
    let q = c.requires.0 in
    let names = c.assigned_name.ensures q.planned.def q.planned.known in
    let a = assigned (bare_listing h at c.args.j.line).tokens q.planned.def q.planned.known in
    let narrow = named_narrow a.side.lhs.text (subst (λ (o : std.Option Named). Names h.texts.tape.now h.texts.area.now (family a.side.lhs.text) o) c.in-Some.is
    (subst (λ (o : Option Fam). Names h.texts.tape.now h.texts.area.now o c.assigned_name.result) (sym a.names) names)) in (
      record { listed = q.listed; short = q.lines_few; table = forms_of_listing c.args.forms.now (omega (arith, q.lines_few, c.requires.3)) c.requires.1 },
      q.inside,
      q.joins.known,
      names.known c.in-Some.name c.in-Some.is,
      narrow,
      q.joins.side,
      rw c.line_of.ensures at c.copy_expr.ensures.words,
    )

pub raise-requires : goal.raise-requires
raise-requires c =
    let h = c.args.listing.now in
    let q = c.requires.0 in
    let n = c.prepared-n.result in
    let s = c.prepared-n.ensures.same in
    let e : length n.g.listing.lines.now ≡ length h.lines.now = ap (λ (g : FormedListing). length g.listing.lines.now) s.0 in
    let f : n.plan.last ≡ c.args.j.last = ap (λ (j : Join). j.last) s.1 in (
      c.prepared-n.ensures.sound,
      omega (arith, e, f, q.planned.reached.0, long h),
      omega (arith, e, q.lines_few, c.requires.4),
      c.requires.7,
      omega (arith, e, q.lines_few, c.requires.5),
      omega (arith, e, q.lines_few, c.requires.2),
    )

pub returns-clause-begun : goal.returns-clause-begun
returns-clause-begun c d known =
    let n = c.prepared-n.result in
    let s = c.prepared-n.ensures.same in
    let eh = ap (λ (g : FormedListing). g.listing) s.0 in
    begun n eh s.1 s.2 (fam_is n eh s.1 s.2 s.3 c.in-Some.is (c.assigned_name.ensures d known)) c.raise.ensures.told c.raise.ensures.sets c.raise.ensures.own
