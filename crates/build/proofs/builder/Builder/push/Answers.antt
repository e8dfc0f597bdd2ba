-- `build::builder::Builder::push` meets its contract. Assumes nothing.
use native.Mathlib.Omega.{arith}
use native.Mathlib.Nat.{le_refl}
use mathlib.Core.Path.{◌≡◌, sym, ap, ◌∙◌}
use mathlib.Core.Bool.{false}
use Rattle.reference.proofs.Cases.{true-false}
use Rattle.lines.specs.Words.{kind_of, token_of}
use Rattle.lines.proofs.words.Tokens.{text_length}
use Rattle.build.specs.State.{joinable}
use Rattle.build.proofs.Appending.{room_within}
use Rattle.build.proofs.Merging.{no_join_ever}
use Rattle.build.proofs.Pushing.{pushed_added}
use Rattle.build.proofs.builder.Builder.push.Goals as goal

pub push_joined-requires : goal.push_joined-requires
push_joined-requires c =
    let p = c.requires in
    (sym (c.is_joined.ensures ∙ ap joinable c.kind.ensures) ∙ c.if-is_joined.true, p.0, p.1)

pub keep-requires : goal.keep-requires
keep-requires c =
    let p = c.requires in
    (p.0, room_within (omega (arith, text_length p.0)) (le_refl _) p.1.room)

pub returns-else-is_joined-clause-pushed : goal.returns-else-is_joined-clause-pushed
returns-else-is_joined-clause-pushed c =
    let p = c.requires in
    let e = c.keep.ensures in
    let r = p.1 in
    let n : joinable (kind_of c.args.w) ≡ false = sym (c.is_joined.ensures ∙ ap joinable c.kind.ensures) ∙ c.if-is_joined.false in
    pushed_added r.built e.lent.area_length e.lent.tokens_length (omega (arith, r.room.text_fits, text_length p.0)) (omega (arith, text_length p.0))
    e.appends (omega (arith, r.room.words_fit)) (λ y. absurd (true-false y n)) (λ h. no_join_ever _ (token_of _ _ c.args.w) n)
