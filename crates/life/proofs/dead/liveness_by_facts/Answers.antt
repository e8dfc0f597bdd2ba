-- `life::dead::liveness_by_facts` meets its contract. Assumes nothing.
use borrow.Author.Rules.{rules}
use borrow.Author.Tests.{not-false}
use Rattle.linefacts.proofs.Lacking.{number_fits}
use Rattle.life.proofs.Scanning.{after_transparent, after_keeping, after-calling, after_deep}
use Rattle.life.proofs.dead.liveness_by_facts.Goals.{else-overwritten-via-then-overwritten+else-indent-v, else-overwritten-via-else-overwritten}
use Rattle.life.proofs.dead.liveness_by_facts.Goals as goal

pub is_transparent-requires : goal.is_transparent-requires
is_transparent-requires c = search (rules, number_fits)

pub returns-then-is_transparent : goal.returns-then-is_transparent
returns-then-is_transparent c =
    after_transparent c.args.scope.now.listing.lines.now _ _ _ _ _ _ _ _ c.args.w _ (c.requires.0.0.at c.args.w (search rules)) c.requires.4 c.is_transparent.ensures c.if-is_transparent.true

pub is_calling-requires : goal.is_calling-requires
is_calling-requires c = search (rules, number_fits)

pub returns-then-indent-v : goal.returns-then-indent-v
returns-then-indent-v c =
    after-calling c.args.scope.now.listing.lines.now _ _ _ _ _ _ _ _ c.args.w _ (c.requires.0.0.at c.args.w (search rules)) c.requires.4
    c.is_calling.ensures c.if-is_calling.true c.requires.5 (search (rules, not-false)) c.indent.ensures c.if-indent-v.true

pub returns-then-is_calling : goal.returns-then-is_calling
returns-then-is_calling c =
    elim c.else-overwritten.branch [
      | else-overwritten-via-then-overwritten+else-indent-v w ↦
          after_deep c.args.scope.now.listing.lines.now _ _ _ _ _ _ _ _ c.args.w _ (c.requires.0.0.at c.args.w (search rules)) c.requires.4
          c.is_calling.ensures c.if-is_calling.true c.requires.5 w.if-overwritten.true w.indent.ensures w.if-indent-v.false
      | else-overwritten-via-else-overwritten w ↦
          after_keeping c.args.scope.now.listing.lines.now _ _ _ _ _ _ _ _ c.args.w _ (c.requires.0.0.at c.args.w (search rules)) c.requires.4
          c.is_calling.ensures c.if-is_calling.true c.requires.5 w.if-overwritten.false
    ]
