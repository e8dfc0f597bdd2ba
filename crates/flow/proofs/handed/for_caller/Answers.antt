-- `flow::handed::for_caller` meets its contract. Assumes nothing.
use Rattle.ground.specs.Rules.{rules_of}
use Rattle.lines.specs.Texts.{bare_listing, fam_text}
use Rattle.flow.proofs.Handing.{caller_result, caller_slot, caller_none}
use Rattle.flow.proofs.handed.for_caller.Goals as goal

pub returns-then-is_result : goal.returns-then-is_result
returns-then-is_result c =
    let a = c.args in
    caller_result (rules_of a.rules) (bare_listing a.listing.now) (fam_text a.listing.now.texts a.f) c.is_result.ensures c.if-is_result.true

pub returns-then-not-is_volatile : goal.returns-then-not-is_volatile
returns-then-not-is_volatile c =
    let a = c.args in
    caller_slot (rules_of a.rules) (bare_listing a.listing.now) (fam_text a.listing.now.texts a.f) c.is_result.ensures c.if-is_result.false
    c.is_volatile.ensures c.if-not-is_volatile.true c.is_slot.ensures

pub returns-else-not-is_volatile : goal.returns-else-not-is_volatile
returns-else-not-is_volatile c =
    let a = c.args in
    caller_none (rules_of a.rules) (bare_listing a.listing.now) (fam_text a.listing.now.texts a.f) c.is_result.ensures c.if-is_result.false
    c.is_volatile.ensures c.if-not-is_volatile.false
