-- `flow::ways::jump` meets its contract. Assumes nothing.
use borrow.Author.Rules.{rules}
use Rattle.life.proofs.Jumping.{lined-holds, goto_inside, symbol-inside}
use Rattle.lines.specs.Lines.{part_of}
use Rattle.lines.specs.Texts.{bare_listing}
use mathlib.Core.Path.{◌≡◌}
use Rattle.std.specs.Prelude.{None}
use Rattle.flow.proofs.Named.{jumps_not, jumps_unnamed, jumps_to}
use Rattle.flow.proofs.ways.jump.Goals as goal

pub overflow_add-g : goal.overflow_add-g
overflow_add-g c =
    let h = goto_inside _ _ _ c.kw_at.ensures c.in_ok-g.was in
    search rules

pub offset_bounds-line-s : goal.offset_bounds-line-s
offset_bounds-line-s c =
    let t = c.args.listing.now.texts in
    let h = symbol-inside _ _ _ _ (c.symbol_from.ensures t.tape.now t.area.now) c.in_ok-s.was in
    search rules

pub bounds-line-s : goal.bounds-line-s
bounds-line-s c =
    let t = c.args.listing.now.texts in
    symbol-inside _ _ _ _ (c.symbol_from.ensures t.tape.now t.area.now) c.in_ok-s.was

pub label_named-requires : goal.label_named-requires
label_named-requires c =
    let t = c.args.listing.now.texts in
    let p = c.requires in
    (p.0, (lined-holds p.1 c.line_of-line.ensures).at _ (symbol-inside _ _ _ _ (c.symbol_from.ensures t.tape.now t.area.now) c.in_ok-s.was))

pub returns-in_err-g : goal.returns-in_err-g
returns-in_err-g c =
    let g = c.args.listing.now in
    let w : c.kw_at.result ≡ None = c.in_err-g.was in
    let r = c.from_residual.ensures in
    let e = jumps_not (bare_listing g) g.texts.tape.now g.texts.area.now (part_of g.tokens.now c.args.l) c.line_of-line.ensures _ c.kw_at.ensures w in
    rw r e

pub returns-in_err-s : goal.returns-in_err-s
returns-in_err-s c =
    let g = c.args.listing.now in
    let t = g.texts in
    let w : c.symbol_from.result ≡ None = c.in_err-s.was in
    let e = jumps_unnamed (bare_listing g) t.tape.now t.area.now (part_of g.tokens.now c.args.l) c.line_of-line.ensures _ c.kw_at.ensures
    c.in_ok-g.was _ (c.symbol_from.ensures t.tape.now t.area.now) w in
    rw c.from_residual-in_err-s.ensures e

pub returns : goal.returns
returns c =
    let g = c.args.listing.now in
    let t = g.texts in
    jumps_to (bare_listing g) t.tape.now t.area.now (part_of g.tokens.now c.args.l) c.line_of-line.ensures _ c.kw_at.ensures
    c.in_ok-g.was _ (c.symbol_from.ensures t.tape.now t.area.now) c.in_ok-s.was _ c.label_named.ensures
