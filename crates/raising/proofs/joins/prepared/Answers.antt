-- `raising::joins::prepared` meets its contract. Assumes nothing.
use native.Mathlib.Omega.{arith}
use mathlib.Core.Path.{◌≡◌, sym, ap, ◌∙◌}
use lib.ListN.{get_or}
use Rattle.lines.specs.Shapes.{expr_words}
use Rattle.lines.specs.Texts.{tokens_of, words_at}
use Rattle.lines.proofs.shapes.Right.{expr-holds, expr-length}
use Rattle.reference.specs.Join.{is_bracketed}
use Rattle.ground.specs.Rules.{rules_of}
use Rattle.raising.proofs.Told.{line_few}
use Rattle.raising.proofs.joins.prepared.Goals as goal

pub is_truth-requires : goal.is_truth-requires
is_truth-requires c =
    let g = c.args.g in
    let h = g.listing in
    let q = c.requires in
    let lined = q.0.listed.at c.args.j.line q.1 in
    let long = expr-length q.5 in
    let few = line_few h.tokens.now (get_or h.lines.now c.args.j.line 0) in
    rw q.6 (expr-holds q.5 lined.holds, omega (arith, long, few, q.5.inside))

pub returns-clause-sound : goal.returns-clause-sound
returns-clause-sound c =
    let g = c.args.g in
    let h = g.listing in
    let q = c.requires in
    let lined = q.0.listed.at c.args.j.line q.1 in
    let long = expr-length q.5 in
    let few = line_few h.tokens.now (get_or h.lines.now c.args.j.line 0) in
    let is : tokens_of h.texts c.args.expr.now ≡ tokens_of h.texts (expr_words (words_at h c.args.j.line) c.args.j.expr) = ap (tokens_of h.texts) q.6 in
    record {
      tabled = q.0;
      inside = q.1;
      known = q.2;
      named = q.3;
      narrow = q.4;
      expr = rw q.6 (expr-holds q.5 lined.holds);
      expr_few = rw q.6 (omega (arith, long, few, q.5.inside));
      expr_is = is;
      truth = c.is_truth.ensures;
      bracketed = (rw c.line_of-source.ensures at c.is_bracketed.ensures) ∙ ap (is_bracketed (rules_of c.args.rules)) (sym is);
    }
