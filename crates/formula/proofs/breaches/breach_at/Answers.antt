-- `formula::breaches::breach_at` meets its contract. Assumes nothing.
use Rattle.std.proofs.Common.{arith, ◌+◌, length}
use Rattle.formula.proofs.Testing.{same_test}
use Rattle.formula.proofs.Breaking.{tells, nothing_there, indent_breaks, tokens_break}
use Rattle.formula.proofs.breaches.breach_at.Goals as goal

pub returns-then-lines-n-clause-first : goal.returns-then-lines-n-clause-first
returns-then-lines-n-clause-first c = λ reading. nothing_there c.args.tape.now c.args.tokens.now c.args.lines.now reading c.args.n c.if-lines-n.true

pub returns-then-lines-n-clause-tells : goal.returns-then-lines-n-clause-tells
returns-then-lines-n-clause-tells c = λ reading. tells _

pub returns-then-indent-clause-first : goal.returns-then-indent-clause-first
returns-then-indent-clause-first c = λ reading.
    indent_breaks c.args.tape.now c.args.tokens.now c.args.lines.now reading c.args.n (omega (arith, c.if-lines-n.false)) c.indent.ensures c.indent-2.ensures c.if-indent.true

pub returns-then-indent-clause-tells : goal.returns-then-indent-clause-tells
returns-then-indent-clause-tells c = λ reading. tells _

pub returns-clause-first : goal.returns-clause-first
returns-clause-first c = λ reading.
    tokens_break c.args.tape.now c.args.tokens.now c.args.lines.now reading c.args.n (omega (arith, c.if-lines-n.false)) c.indent.ensures c.indent-2.ensures c.if-indent.false
    c.line_of.ensures (same_test _ _ (c.args.n + 1) (length c.args.lines.now) (λ e. omega (arith, e)) (λ e. omega (arith, e))) c.tokens_breach.ensures

pub returns-clause-tells : goal.returns-clause-tells
returns-clause-tells c = λ reading. tells _
