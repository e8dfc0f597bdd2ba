-- `linefacts::gathering::call_facts` meets its contract. Assumes nothing.
use borrow.Author.Rules.{rules}
use Rattle.linefacts.proofs.Making.{unasked_facts, plain_facts, calls_facts, callless_facts}
use Rattle.linefacts.proofs.gathering.call_facts.Goals as goal

pub returns-then-has-ge-CONTROL : goal.returns-then-has-ge-CONTROL
returns-then-has-ge-CONTROL c = unasked_facts _

pub returns-then-has-lt-SYMBOLS : goal.returns-then-has-lt-SYMBOLS
returns-then-has-lt-SYMBOLS c = plain_facts _ c.requires.1 (search rules) (search rules)

pub returns-then-has_call : goal.returns-then-has_call
returns-then-has_call c = calls_facts c.has_call.ensures c.if-has_call.true

pub returns : goal.returns
returns c = callless_facts c.has_call.ensures c.if-has_call.false
