-- `states::calls::copy_out` meets its contract. Assumes nothing.
use Rattle.std.proofs.Common.{List, ℕ, ap, ◌∙◌, ◌++◌, length, drop, arith, length-take}
use Rattle.states.proofs.Writing.{tape-short}
use Rattle.states.specs.Store.{cell}
use Rattle.states.proofs.calls.copy_out.Goals as goal

pub slice_bounds-copy-end : goal.slice_bounds-copy-end
slice_bounds-copy-end c =
    omega (arith, ap length c.held_tape-tape.ensures, tape-short (cell c.args.store.now.bytes.now c.args.i), c.requires.1, c.requires.2)

pub slice_bounds-copy-end-2 : goal.slice_bounds-copy-end-2
slice_bounds-copy-end-2 c =
    let n = length c.held_tape-tape.result.now in
    omega (arith, length-take n c.args.out.now, ap length c.held_tape-tape.ensures, tape-short (cell c.args.store.now.bytes.now c.args.i), c.requires.1, c.requires.2)

pub copy-requires : goal.copy-requires
copy-requires c =
    let n = length c.held_tape-tape.result.now in
    omega (arith, length-take n c.args.out.now, ap length c.held_tape-tape.ensures, tape-short (cell c.args.store.now.bytes.now c.args.i), c.requires.1, c.requires.2)

pub returns : goal.returns
returns c =
    let e = c.held_tape-tape.ensures in
    let n = length c.held_tape-tape.result.now in record {
      value = ap length e;
      out_after = ap (λ (t : List ℕ). t ++ drop n c.args.out.now) (c.copy.ensures ∙ e);
    }
