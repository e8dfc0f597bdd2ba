-- `build::builder::Builder::push_joined` meets its contract. Assumes nothing.
use native.Mathlib.Omega.{arith}
use native.Mathlib.Nat.{le_refl}
use mathlib.Core.Path.{sym, ap, ◌∙◌}
use lib.ListN.{length}
use Rattle.lines.specs.Words.{kind_of, token_of}
use Rattle.lines.proofs.words.Tokens.{text_length}
use Rattle.build.proofs.Appending.{room_within}
use Rattle.build.proofs.Merging.{no_join_kind, join-now}
use Rattle.build.proofs.Pushing.{extendable-last, extends-false, pushed_joined, pushed_added}
use Rattle.build.proofs.builder.Builder.push_joined.Goals as goal

pub extend_last-requires : goal.extend_last-requires
extend_last-requires c =
    let p = c.requires in
    let l = extendable-last p.0 p.2.extendable (sym (rw c.kind.ensures at c.extends.ensures) ∙ c.if-extends.true) in
    (omega (arith, l.0), room_within (omega (arith, ap length c.text.ensures)) (omega arith) p.2.room, l.2, l.3)

pub add_copy-requires : goal.add_copy-requires
add_copy-requires c =
    let p = c.requires in
    (p.1, room_within (omega (arith, text_length p.1)) (le_refl _) p.2.room)

pub returns-then-extends-clause-pushed : goal.returns-then-extends-clause-pushed
returns-then-extends-clause-pushed c =
    let p = c.requires in
    let e = c.extend_last.ensures in
    let l = extendable-last p.0 p.2.extendable (sym (rw c.kind.ensures at c.extends.ensures) ∙ c.if-extends.true) in
    let a = rw c.text.ensures at (e.appends c.args.texts.now.tape.now) in
    pushed_joined p.2.built e.lent.area_length e.lent.tokens_length (omega (arith, p.2.room.text_fits)) (le_refl _) a l.0 e.in_area
    (join-now _ (token_of _ _ c.args.w) l.1 p.0)

pub returns-else-extends-clause-pushed : goal.returns-else-extends-clause-pushed
returns-else-extends-clause-pushed c =
    let b = c.args.self.now in
    let p = c.requires in
    let e = c.add_copy.ensures in
    pushed_added p.2.built e.lent.area_length e.lent.tokens_length (omega (arith, p.2.room.text_fits, text_length p.1)) (omega (arith, text_length p.1))
    e.appends (omega (arith, p.2.room.words_fit)) (λ _. e.in_area)
    (λ h. no_join_kind _ (token_of _ _ c.args.w)
    (extends-false (kind_of c.args.w) b.tokens.now c.args.from b.size (sym (rw c.kind.ensures at c.extends.ensures) ∙ c.if-extends.false) h))
