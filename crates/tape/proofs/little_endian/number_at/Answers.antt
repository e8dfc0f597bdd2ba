-- `tape::little_endian::number_at` meets its contract. Assumes nothing.
use Prim.Native.Nat.{◌+◌, ◌-◌}
use native.Mathlib.Omega.{arith}
use mathlib.Core.Path.{◌≡◌, ap, ◌∙◌}
use lib.ListN.{length, take, drop, length-drop}
use lib.Seq.{length-take-le}
use Rattle.reference.specs.Tape.{from_le_bytes}
use Rattle.tape.proofs.little_endian.Bytes.{front_read}
use Rattle.tape.proofs.little_endian.number_at.Goals as goal

pub returns : goal.returns
returns c =
    let a = c.args in
    let n : a.at + a.n - a.at ≡ a.n = omega arith in
    let part : c.copy_from_slice.new.self ≡ take a.n (drop a.at a.tape.now) = c.copy_from_slice.ensures.after ∙ rw n in
    let long = length-take-le a.n (drop a.at a.tape.now) (rw length-drop (omega (arith, c.requires))) in
    c.from_le_bytes.ensures ∙ front_read a.n _ (ap length part ∙ long) c.requires.0 ∙ ap from_le_bytes part
