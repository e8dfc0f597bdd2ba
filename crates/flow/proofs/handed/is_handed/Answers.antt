-- `flow::handed::is_handed` meets its contract. Assumes nothing.
use Rattle.ground.specs.Rules.{rules_of}
use Rattle.lines.specs.Texts.{bare_listing, fam_text}
use Rattle.flow.proofs.Tables.{lines_long}
use Rattle.flow.proofs.Handing.{handed_on, handed_back, handed_not}
use Rattle.flow.proofs.handed.is_handed.Goals as goal

pub returns-then-to_call : goal.returns-then-to_call
returns-then-to_call c =
    let g = c.args.g.now in
    handed_on (rules_of c.args.rules) (bare_listing g.listing) (fam_text g.listing.texts c.args.f) c.args.seen.now c.to_call.ensures c.if-to_call.true

pub returns-then-seen-g : goal.returns-then-seen-g
returns-then-seen-g c =
    let g = c.args.g.now in
    handed_back (rules_of c.args.rules) (bare_listing g.listing) (fam_text g.listing.texts c.args.f) c.args.seen.now c.to_call.ensures c.if-to_call.false
    (lines_long g) c.if-seen-g.true c.for_caller.ensures

pub returns-else-seen-g : goal.returns-else-seen-g
returns-else-seen-g c =
    let g = c.args.g.now in
    handed_not (rules_of c.args.rules) (bare_listing g.listing) (fam_text g.listing.texts c.args.f) c.args.seen.now c.to_call.ensures c.if-to_call.false
    (lines_long g) c.if-seen-g.false
