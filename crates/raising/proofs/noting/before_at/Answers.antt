-- `raising::noting::before_at` meets its contract. Assumes nothing.
use mathlib.Core.List.{[]}
use lib.ListN.{get_or}
use Rattle.lines.proofs.words.Lines.{bare_at}
use Rattle.raising.proofs.Told.{line_few, guarded_at}
use Rattle.raising.proofs.noting.before_at.Goals as goal

pub before_line-requires : goal.before_line-requires
before_line-requires c =
    let n = c.args.n.now in
    let s = c.requires.0 in
    let h = n.g.listing in
    let l = get_or h.lines.now c.args.k 0 in
    let lined = s.tabled.listed.at c.args.k c.requires.1 in
    record {
      known = s.named;
      expr = s.expr;
      line = rw c.line_of.ensures lined.holds;
      expr_few = s.expr_few;
      line_few = rw c.line_of.ensures (line_few h.tokens.now l);
      narrow = s.narrow;
      truth = s.truth;
      bracketed = s.bracketed;
      guarded = rw c.line_of.ensures (guarded_at s.tabled c.args.k c.requires.1 c.is_guarded.ensures);
    }

pub returns : goal.returns
returns c lines e =
    let n = c.args.n.now in
    let h = n.g.listing in
    rw (bare_at h.texts.tape.now h.texts.area.now h.tokens.now [] h.lines.now c.args.k c.requires.1) (rw c.line_of.ensures at c.before_line.ensures lines e)
