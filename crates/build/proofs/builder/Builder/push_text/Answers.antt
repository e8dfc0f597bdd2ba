-- `build::builder::Builder::push_text` meets its contract. Assumes nothing.
use native.Mathlib.Omega.{arith}
use native.Mathlib.Nat.{le_refl}
use mathlib.Core.Path.{sym, ◌∙◌}
use Rattle.reference.specs.Listing.{token}
use Rattle.build.proofs.Appending.{room_within}
use Rattle.build.proofs.Merging.{no_join_kind, join-now}
use Rattle.build.proofs.Pushing.{extendable-last, extends-false, pushed_joined, pushed_added}
use Rattle.build.proofs.builder.Builder.push_text.Goals as goal

pub extend_last-requires : goal.extend_last-requires
extend_last-requires c =
    let p = c.requires in
    let l = extendable-last p.0 p.2 (sym c.extends.ensures ∙ c.if-extends.true) in
    (omega (arith, l.0), room_within (le_refl _) (omega arith) p.3, l.2, l.3)

pub returns-then-extends-clause-pushed : goal.returns-then-extends-clause-pushed
returns-then-extends-clause-pushed c =
    let p = c.requires in
    let e = c.extend_last.ensures in
    let l = extendable-last p.0 p.2 (sym c.extends.ensures ∙ c.if-extends.true) in
    λ tape b.
    pushed_joined b e.lent.area_length e.lent.tokens_length p.3.text_fits (le_refl _) (e.appends tape) l.0 e.in_area
    (join-now _ (token c.args.kind c.args.s.now) l.1 p.0)

pub returns-else-extends-clause-pushed : goal.returns-else-extends-clause-pushed
returns-else-extends-clause-pushed c =
    let a = c.args in
    let b = a.self.now in
    let e = c.add_text.ensures in
    λ tape built.
    pushed_added built e.lent.area_length e.lent.tokens_length c.requires.3.text_fits (le_refl _) (e.appends tape) (omega (arith, c.requires.3.words_fit))
    (λ _. e.in_area)
    (λ h. no_join_kind _ (token a.kind a.s.now) (extends-false a.kind b.tokens.now a.from b.size (sym c.extends.ensures ∙ c.if-extends.false) h))
