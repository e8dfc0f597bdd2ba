-- `build::builder::Builder::add_text` meets its contract. Assumes nothing.
use Prim.Native.Nat.{◌+◌, ◌-◌}
use native.Mathlib.Omega.{arith}
use mathlib.Core.Path.{refl}
use lib.ListN.{length}
use Rattle.std.proofs.lemmas.Slice.{put_mid-paste}
use Rattle.build.proofs.Appending.{copied, place_at}
use Rattle.build.proofs.builder.Builder.add_text.Goals as goal

pub returns-clause-appends : goal.returns-clause-appends
returns-clause-appends c =
    let b = c.args.self.now in
    let s = c.args.s.now in
    let p = c.requires in
    let pasted = put_mid-paste b.size.text (b.size.text + length s - b.size.text) b.area.now c.copy.new.to
    s (length s) c.copy.ensures (omega arith) refl in
    λ tape. copied tape b.area.now b.tokens.now b.size c.args.kind s p.0 p.1 pasted c.area_word.ensures

pub returns-clause-in_area : goal.returns-clause-in_area
returns-clause-in_area c =
    let b = c.args.self.now in
    let p = c.requires in
    place_at b.tokens.now b.size.tokens c.args.kind b.size.text c.args.s.now (omega (arith, p.1.words_fit)) p.0 (omega (arith, p.1.short)) (omega (arith, p.1.short)) c.area_word.ensures
