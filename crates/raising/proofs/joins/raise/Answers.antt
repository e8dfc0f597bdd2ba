-- `raising::joins::raise` meets its contract. Assumes nothing.
use Prim.Native.Nat.{ℕ}
use native.Mathlib.Omega.{arith}
use mathlib.Core.Path.{sym, ap, ◌∙◌}
use mathlib.Core.List.{reverse}
use lib.ListN.{length, get_or}
use lib.Seq.{length-take-le}
use Rattle.ground.specs.Rules.{rules_of}
use Rattle.cautions.specs.Kinds.{◌∪◌}
use Rattle.flow.proofs.Tables.{lines_long}
use Rattle.raising.specs.Steps.{into}
use Rattle.raising.specs.Noting.{fam_of, lines_of, plan_of}
use Rattle.raising.specs.Halfway.{own_kinds, shared_kinds}
use Rattle.raising.proofs.Told.{told_front}
use Rattle.raising.proofs.Noted.{notes, last_is}
use Rattle.raising.proofs.joins.raise.Goals as goal

pub returns-clause-sets : goal.returns-clause-sets
returns-clause-sets c =
    let n = c.args.n.now in
    c.spread.ensures.marked (into (rules_of n.rules) (lines_of n) n.plan.line (plan_of n)) (notes c.note.ensures)

pub returns-clause-own : goal.returns-clause-own
unfolding shared_kinds
returns-clause-own c =
    let n = c.args.n.now in
    let m = length n.g.listing.lines.now in
    let i = n.plan.line in
    let js = into (rules_of n.rules) (lines_of n) i (plan_of n) in
    let e = lines_long n.g in
    let long = length-take-le m c.note.new.parts (omega (arith, c.note.auto.parts, c.requires.2)) in
    let front = told_front c.note.ensures (omega (arith, e, c.requires.1)) m c.requires.0.inside (sym e) in
    let last = c.last_noted.ensures.last ∙ last_is front (omega (arith, e, c.requires.0.inside)) (long ∙ sym e) in
    ap (λ (x : ℕ). x ∪ c.spread.result) (c.own_kinds-own.ensures ∙ ap (own_kinds (rules_of n.rules) (lines_of n) i (fam_of n) (plan_of n).expr) last)
    ∙ ap (λ (x : ℕ). own_kinds (rules_of n.rules) (lines_of n) i (fam_of n) (plan_of n).expr (get_or (reverse js) 0 i) ∪ x)
    (c.spread.ensures.kinds js (notes c.note.ensures))
