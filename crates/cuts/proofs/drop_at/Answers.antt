-- `cuts::drop_at` meets its contract. Assumes nothing.
use mathlib.Core.Path.{sym}
use lib.ListN.{length-set}
use Rattle.raising.proofs.Lending.{tables_then}
use Rattle.cuts.proofs.Cutting.{cut-first, cut-count, cut-fewer, dropped-cut}
use Rattle.cuts.proofs.Cautioning.{line_stays, line_goes, line_drops}
use Rattle.cuts.proofs.drop_at.Goals as goal

pub before_cut-requires : goal.before_cut-requires
before_cut-requires c = let p = c.requires in (p.0.listed, p.0.few, p.1, p.2)

pub overflow_sub-count : goal.overflow_sub-count
overflow_sub-count c =
    let p = c.requires in
    rw c.count.ensures (cut-count p.0 _ c.args.i p.1 c.is_dead_result.ensures c.if-not-is_dead_result.false)

pub with_tokens-requires : goal.with_tokens-requires
with_tokens-requires c =
    let p = c.requires in
    let low = cut-first p.0 _ c.args.i p.1 c.is_dead_result.ensures c.if-not-is_dead_result.false in
    (rw c.first.ensures low, rw c.count.ensures (cut-fewer _))

pub after_cut-requires : goal.after_cut-requires
after_cut-requires c =
    let p = c.requires in
    let d = dropped-cut p.0 _ c.args.i p.1 c.is_dead_result.ensures c.if-not-is_dead_result.false (rw (c.first.ensures, c.count.ensures) at c.with_tokens.ensures) in
    ((d.cut (sym d.told)).0, rw length-set p.0.few, rw length-set p.1, c.before_cut.ensures.cautioned.kept.room)

pub returns-then-not-is_dead_result-clause-raised : goal.returns-then-not-is_dead_result-clause-raised
returns-then-not-is_dead_result-clause-raised c =
    let p = c.requires in
    let t = c.args.texts.now in
    line_stays _ t.tape.now t.area.now c.args.tokens.now c.args.lines.now c.args.labels.now c.args.i p.2 c.is_dead_result.ensures c.if-not-is_dead_result.true

pub returns : goal.returns
returns c =
    let p = c.requires in
    let t = c.args.texts.now in
    let d = dropped-cut p.0 _ c.args.i p.1 c.is_dead_result.ensures c.if-not-is_dead_result.false (rw (c.first.ensures, c.count.ensures) at c.with_tokens.ensures) in
    let b = c.before_cut.ensures in
    let a = c.after_cut.ensures in
    record {
      dropped = d;
      raised =
          line_drops _ t.tape.now t.area.now c.args.tokens.now c.args.lines.now c.args.labels.now c.args.i p.2 d b.cautioned
          (a.kept _ b.cautioned.kept (line_goes _ t.tape.now t.area.now c.args.tokens.now c.args.lines.now c.args.labels.now c.args.i p.2 d));
      lent = tables_then b.lent a.lent;
    }
