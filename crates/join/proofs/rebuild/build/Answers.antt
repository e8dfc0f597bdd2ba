-- `join::rebuild::build` meets its contract. Assumes nothing.
use native.Mathlib.Omega.{arith}
use mathlib.Core.Path.{refl}
use Rattle.build.proofs.Lending.{lent_same, lent_then, resized}
use Rattle.join.proofs.Rows.{text_few, words_few, placeable}
use Rattle.join.proofs.Building.{rest_at, begun, passed, placed, finished}
use Rattle.join.proofs.rebuild.build.Goals as goal
use Rattle.join.proofs.rebuild.build.Goals.{then-k-gone, else-k-gone}

pub loop-k-init : goal.loop-k-init
loop-k-init c =
    let b = c.args.second.now in
    record { upto = rw c.requires.1 (begun c.requires.0 b.area.now b.tokens.now); lent = lent_same }

pub build_line-l-requires : goal.build_line-l-requires
build_line-l-requires c =
    let p = c.requires in
    let l = c.loop-k in
    let i = l.invariant in
    placeable p.0 i.upto.within c.loop-k-test.true c.if-k-gone.true refl
    (rest_at l.k l.lines c.args.lines.now i.upto.rest_is) (omega (arith, p.2, i.lent.area_length)) (omega (arith, p.3, i.lent.tokens_length))

pub loop-k-preserved : goal.loop-k-preserved
loop-k-preserved c =
    let p = c.requires in
    let i = c.loop-k.invariant in
    record {
      upto = elim c.if-k-gone.branch [
        | then-k-gone w ↦ rw (w.lines-is, w.second-is) (placed p.0 i.upto c.loop-k-test.true w.if-k-gone.true refl w.build_line-l.ensures.placed)
        | else-k-gone w ↦ rw (w.lines-is, w.second-is) (passed p.0 i.upto w.if-k-gone.false)
      ];
      lent = elim c.if-k-gone.branch [
        | then-k-gone w ↦ rw w.second-is (resized _ (lent_then i.lent w.build_line-l.ensures.lent))
        | else-k-gone w ↦ rw w.second-is i.lent
      ];
    }

pub returns-clause-rebuilt : goal.returns-clause-rebuilt
returns-clause-rebuilt c =
    let p = c.requires in
    let i = c.loop-k.invariant in
    finished p.0 i.upto (omega arith) (omega (arith, text_few p.0 i.upto.within, p.2, i.lent.area_length))
    (omega (arith, words_few p.0 i.upto.within, p.3, i.lent.tokens_length))
