-- `numbers::constant::row` meets its contract. Assumes nothing.
use Rattle.std.proofs.Common.{◌≡◌, ◌<◌, length, drop, sym, ap, ◌∙◌, arith}
use Rattle.std.proofs.lemmas.List.{take_rest}
use Rattle.reference.specs.Options.{option_of}
use Rattle.numbers.specs.Reading.{at_most}
use Rattle.numbers.proofs.Reading.{none_empty, not_empty}
use Rattle.numbers.proofs.Constants.{digit-read, digit-unread, ends_read, ends-cut}
use Rattle.numbers.proofs.constant.row.Goals as goal

pub returns-in_err-v : goal.returns-in_err-v
returns-in_err-v c =
    let a = c.args in
    let l = c.loop-rest in
    ap option_of c.from_residual.ensures ∙ sym (l.invariant ∙ digit-unread a.most a.radix l.v l.rest.now c.requires c.in-len1-up.len_at_least c.in_err-v.ensures)

pub returns-then-is_empty : goal.returns-then-is_empty
returns-then-is_empty c =
    let a = c.args in
    let l = c.loop-rest in
    let r = digit-read a.most a.radix l.v l.rest.now c.requires c.in-len1-up.len_at_least c.in_ok-v.ensures in
    let z : length (drop 1 l.rest.now) ≡ 0 = sym (ap length (take_rest l.rest.now 1)) ∙ none_empty _ c.is_empty.ensures c.if-is_empty.true in
    sym (l.invariant ∙ r.1 ∙ ends_read a.most a.radix c.in_ok-v.v (drop 1 l.rest.now) z r.0)

pub loop-rest-preserved : goal.loop-rest-preserved
loop-rest-preserved c =
    let a = c.args in
    let l = c.loop-rest in
    let d = digit-read a.most a.radix l.v l.rest.now c.requires c.in-len1-up.len_at_least c.in_ok-v.ensures in
    let n = not_empty _ c.is_empty.ensures c.if-is_empty.false in
    let q = rw take_rest at c.past_quote-rest.ensures in
    let m : 0 < length (drop 1 l.rest.now) = omega (arith, n, ap length (take_rest l.rest.now 1)) in
    l.invariant ∙ d.1 ∙ ap (at_most a.most) (q.means a.radix c.in_ok-v.v m)

pub returns : goal.returns
returns c =
    let a = c.args in
    let l = c.loop-rest in
    sym (l.invariant ∙ ends-cut a.most a.radix l.v l.rest.now c.in_default.len_below)
