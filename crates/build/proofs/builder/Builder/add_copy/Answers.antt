-- `build::builder::Builder::add_copy` meets its contract. Assumes nothing.
use Prim.Native.Nat.{◌+◌, ◌-◌}
use native.Mathlib.Omega.{arith}
use borrow.Author.Rules.{rules}
use mathlib.Core.Path.{◌≡◌, refl, ap, ◌∙◌}
use lib.ListN.{length}
use Rattle.std.proofs.lemmas.Slice.{put_mid-paste}
use Rattle.lines.specs.Words.{len_of}
use Rattle.lines.proofs.words.Tokens.{text_length}
use Rattle.build.proofs.Appending.{copied_word, copied_place}
use Rattle.build.proofs.builder.Builder.add_copy.Goals as goal

pub slice_bounds-copy-end : goal.slice_bounds-copy-end
slice_bounds-copy-end c =
    let p = c.requires in
    let l : length c.text-s.result.now ≡ len_of c.args.w = ap length c.text-s.ensures ∙ text_length p.0 in
    let h = p.1.text_fits in
    search rules

pub returns-clause-appends : goal.returns-clause-appends
returns-clause-appends c =
    let b = c.args.self.now in
    let t = c.args.texts.now in
    let s = c.text-s.result.now in
    let p = c.requires in
    let pasted = put_mid-paste b.size.text (b.size.text + length s - b.size.text) b.area.now c.copy.new.to
    s (length s) c.copy.ensures (omega arith) refl in
    copied_word t.tape.now t.area.now b.area.now b.tokens.now b.size c.args.w p.0 p.1 c.text-s.ensures pasted c.moved.ensures

pub returns-clause-in_area : goal.returns-clause-in_area
returns-clause-in_area c =
    let b = c.args.self.now in
    let t = c.args.texts.now in
    let p = c.requires in
    copied_place t.tape.now t.area.now b.area.now b.tokens.now b.size c.args.w p.0 p.1 c.text-s.ensures c.moved.ensures
