-- `plan::slots::SlotBuffer::push` meets its contract. Assumes nothing.
use Rattle.std.proofs.Common.{rules, arith, length, refl, ap}
use lib.ListN.{set}
use Rattle.std.proofs.lemmas.Slice.{put_mid-paste}
use Rattle.plan.proofs.Noting.{noted_one}
use Rattle.plan.proofs.slots.SlotBuffer.push.Goals as goal

pub returns-clause-noted : goal.returns-clause-noted
returns-clause-noted c =
    let g = c.args.self.now in
    let s = c.args.s.now in
    noted_one c.requires.0 s c.requires.1 (put_mid-paste g.used _ g.text.now _ s (length s) (search rules) (omega arith) refl)
    (ap (λ v. set g.words.now g.count v) c.token_word.ensures) refl refl
