-- `tape::commands::token_at` meets its contract. Assumes nothing.
use Prim.Native.Nat.{ℕ, ◌-◌}
use mathlib.Core.Path.{ap, ◌∙◌}
use Rattle.tape.proofs.commands.Standing.{token-short, token-cut, token-whole}
use Rattle.tape.proofs.little_endian.Bytes.{two_bytes}
use Rattle.tape.proofs.commands.token_at.Goals as goal

pub returns-then-left-lt3 : goal.returns-then-left-lt3
returns-then-left-lt3 g c = rw c.at.ensures (token-short _ _ _ c.requires.1 c.requires.2 c.if-left-lt3.true)

pub returns-then-left-count : goal.returns-then-left-count
returns-then-left-count g c = let count = c.from-count.ensures ∙ c.from_le_bytes.ensures ∙ two_bytes c.args.tape.now c.args.at in
    rw c.at-then-left-count.ensures (token-cut _ _ _ c.requires.1 c.requires.2 count c.if-left-count.true)

pub returns : goal.returns
returns g c = let kind = ap (λ (n : ℕ). n - 16) c.from-kind.ensures in
    let count = c.from-count.ensures ∙ c.from_le_bytes.ensures ∙ two_bytes c.args.tape.now c.args.at in
    token-whole _ _ _ c.requires.1 c.requires.2 count kind c.if-left-lt3.false c.if-left-count.false
