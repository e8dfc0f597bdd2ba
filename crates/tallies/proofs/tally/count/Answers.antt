-- `tallies::tally::count` meets its contract. Assumes nothing.
use native.Mathlib.Omega.{arith}
use mathlib.Core.Path.{◌≡◌, sym, ap, ◌∙◌}
use Rattle.std.proofs.Common.{◌∷◌}
use Rattle.reference.specs.Options.{option_of}
use Rattle.reference.specs.Tape.{old, new_line}
use Rattle.tape.specs.Held.{places, unplaced}
use Rattle.tape.specs.Walk.{event_shown, left}
use Rattle.tape.proofs.walk.Spending.{bytes_of, few}
use Rattle.tallies.proofs.tally.count.Goals as goal

pub loop-c-init : goal.loop-c-init
loop-c-init g c =
    let e : left old c.into_iter-c-iterator.result ≡ places c.args.tape.now = rw c.into_iter-c-iterator.ensures.into_iter_gives c.new-c-items.ensures in
    record { told = ap (λ ps. g.T.Tally.total c.args.start (unplaced ps)) e; few = rw e (omega (arith, few c.args.tape.now, c.requires)) }

pub loop-c-preserved-in-Line : goal.loop-c-preserved-in-Line
loop-c-preserved-in-Line g c =
    let more = unplaced (left old c.next.new.self) in
    let k : unplaced (left old c.loop-c.c-iterator) ≡ new_line (option_of c.in-Line.address) c.in-Line.indent ∷ more
    = ap unplaced c.in-Some.ensures.steps ∙ ap (λ e. event_shown e ∷ more) c.in-Line.is in
    let n = ap bytes_of k in
    let l = c.line-so_far.ensures in
    record {
      told = (l.counts.line (option_of c.in-Line.address) c.in-Line.indent).adds more ∙ ap (g.T.Tally.total c.loop-c.so_far) (sym k)
          ∙ c.loop-c.invariant.told;
      few = omega (arith, l.spends, c.loop-c.invariant.few);
    }
