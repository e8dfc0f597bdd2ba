-- `build::builder::Builder::push_used` meets its contract. Assumes nothing.
use Rattle.build.proofs.Substituting.{used-kept, used-bracketed, used-plain}
use Rattle.build.proofs.builder.Builder.push_used.Goals as goal

pub push-requires : goal.push-requires
push-requires c =
    let a = c.args in
    (c.requires.1, rw (used-kept _ _ a.source.now a.s a.w c.is_of.ensures c.if-not-is_of.true) at c.requires.2)

pub returns-then-not-is_of-clause-pushed : goal.returns-then-not-is_of-clause-pushed
returns-then-not-is_of-clause-pushed c =
    let a = c.args in
    rw (used-kept _ _ a.source.now a.s a.w c.is_of.ensures c.if-not-is_of.true) c.push.ensures.pushed

pub push_bracketed-requires : goal.push_bracketed-requires
push_bracketed-requires c =
    let p = c.requires in
    let a = c.args in
    (p.0.holds, p.0.expression, rw (used-bracketed _ _ a.source.now a.s a.w c.is_of.ensures c.if-not-is_of.false c.if-brackets.true) at p.2)

pub returns-then-brackets-clause-pushed : goal.returns-then-brackets-clause-pushed
returns-then-brackets-clause-pushed c =
    let a = c.args in
    rw (used-bracketed _ _ a.source.now a.s a.w c.is_of.ensures c.if-not-is_of.false c.if-brackets.true) c.push_bracketed.ensures.pushed

pub push_expr-requires : goal.push_expr-requires
push_expr-requires c =
    let p = c.requires in
    let a = c.args in
    (p.0.holds, p.0.expression, rw (used-plain _ _ a.source.now a.s a.w c.is_of.ensures c.if-not-is_of.false c.if-brackets.false) at p.2)

pub returns-else-brackets-clause-pushed : goal.returns-else-brackets-clause-pushed
returns-else-brackets-clause-pushed c =
    let a = c.args in
    rw (used-plain _ _ a.source.now a.s a.w c.is_of.ensures c.if-not-is_of.false c.if-brackets.false) c.push_expr.ensures.pushed
