-- `build::builder::Builder::extend_last` meets its contract. Assumes nothing.
use native.Mathlib.Omega.{arith}
use mathlib.Core.Path.{◌≡◌, refl}
use Prim.Native.Nat.{◌+◌, ◌-◌}
use lib.ListN.{length, length-take}
use Rattle.std.proofs.lemmas.Slice.{put_mid-paste}
use Rattle.lines.proofs.words.Tokens.{kind_below, start_below}
use Rattle.build.specs.Builders.{last_word}
use Rattle.build.proofs.Appending.{joined, lengthened_behind-to, behind_at}
use Rattle.build.proofs.builder.Builder.extend_last.Goals as goal

pub word_between-longer-requires : goal.word_between-longer-requires
word_between-longer-requires c =
    let w = last_word c.args.self.now in
    omega (arith, kind_below w, c.kind.ensures, c.start.ensures, c.requires.1.short, c.requires.1.text_fits, c.requires.3)

pub returns-clause-appends : goal.returns-clause-appends
returns-clause-appends c =
    let b = c.args.self.now in
    let s = c.args.s.now in
    let p = c.requires in
    let n = b.size.tokens - 1 in
    let pasted = put_mid-paste b.size.text (b.size.text + length s - b.size.text) b.area.now c.copy.new.to
    s (length s) c.copy.ensures (omega arith) refl in
    let same : n + 1 ≡ b.size.tokens = omega arith in
    let ew = rw (c.kind.ensures, c.start.ensures) at c.word_between-longer.ensures in
    λ tape. lengthened_behind-to tape b.area.now b.tokens.now b.size n s p.1 (omega arith) p.2 p.3 pasted (joined tape b.area.now b.tokens.now b.size n s p.1 (omega arith) p.2 p.3 pasted) ew same

pub returns-clause-in_area : goal.returns-clause-in_area
returns-clause-in_area c =
    let b = c.args.self.now in
    let w = last_word b in
    behind_at b.tokens.now (b.size.tokens - 1) c.kind.result c.start.result _ (omega (arith, c.requires.1.words_fit))
    (omega (arith, kind_below w, c.kind.ensures)) (omega (arith, start_below w, c.start.ensures))
    (simp length-take (omega (arith, c.requires.1.short))) c.word_between-longer.ensures
