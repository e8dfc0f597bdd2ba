-- `life::jumps::goto_target` meets its contract. Assumes nothing.
use borrow.Author.Rules.{rules}
use Rattle.life.proofs.Jumping.{lined-holds, target-stays, goto_inside, target_none, symbol-inside, target_label}
use mathlib.Core.Path.{◌≡◌}
use Rattle.std.specs.Prelude.{Some, None}
use Rattle.life.proofs.jumps.goto_target.Goals as goal

pub returns-in_default : goal.returns-in_default
returns-in_default c =
    let t = c.args.scope.now.listing.texts in
    let e = c.symbol_from.ensures t.tape.now t.area.now in
    let w : c.kw_at.result ≡ Some c.in_ok-g.g = c.in_ok-g.was in
    search (rules, target_none)

pub overflow_add-g : goal.overflow_add-g
overflow_add-g c =
    let h = goto_inside _ _ _ c.kw_at.ensures c.in_ok-g.was in
    search rules

pub offset_bounds-line-s : goal.offset_bounds-line-s
offset_bounds-line-s c =
    let t = c.args.scope.now.listing.texts in
    let h = symbol-inside _ _ _ _ (c.symbol_from.ensures t.tape.now t.area.now) c.in-Some.is in
    search rules

pub bounds-line-s : goal.bounds-line-s
bounds-line-s c =
    let t = c.args.scope.now.listing.texts in
    symbol-inside _ _ _ _ (c.symbol_from.ensures t.tape.now t.area.now) c.in-Some.is

pub label_named-requires : goal.label_named-requires
label_named-requires c =
    let t = c.args.scope.now.listing.texts in
    let p = c.requires in
    (p.0, (lined-holds p.1 c.line_of-line.ensures).at _ (symbol-inside _ _ _ _ (c.symbol_from.ensures t.tape.now t.area.now) c.in-Some.is))

pub returns : goal.returns
returns c =
    let t = c.args.scope.now.listing.texts in
    let e = c.symbol_from.ensures t.tape.now t.area.now in
    let w : c.kw_at.result ≡ Some c.in_ok-g.g = c.in_ok-g.was in
    search (rules, target_label)

pub returns-in_err-g : goal.returns-in_err-g
returns-in_err-g c =
    let w : c.kw_at.result ≡ None = c.in_err-g.was in
    let r = c.from_residual.ensures in
    search (rules, target-stays)
