-- `build::fold::sum_of` meets its contract. Assumes nothing.
use mathlib.Core.Path.{◌≡◌, sym, ap, ◌∙◌}
use mir.Syntax.{w64}
use mir.Val.{to_z, of_z}
use borrow.Author.Rules.{rules}
use Rattle.reference.specs.Options.{option_of}
use Rattle.reference.specs.Listing.{Number}
use Rattle.lines.specs.Words.{token_of}
use Rattle.lines.specs.Traits.{is_sign}
use Rattle.numbers.proofs.Signed.{read_back}
use Rattle.lines.proofs.shapes.Tests.{is_it, is_not}
use Rattle.build.proofs.Folding.{unread_left, unread-right, read-sum, read-difference, sum_left, sum-right, sum-sign, sum_is}
use Rattle.build.proofs.fold.sum_of.Goals as goal
use Rattle.build.proofs.fold.sum_of.Goals.{then-kind-ne-NUMBER-via-then-kind-ne-NUMBER, then-kind-ne-NUMBER-via-else-kind-ne-NUMBER+then-kind-ne-NUMBER-2}

pub returns-then-kind-ne-NUMBER : goal.returns-then-kind-ne-NUMBER
returns-then-kind-ne-NUMBER c =
    let args = c.args in
    let t = args.texts.now.tape.now in
    let a = args.texts.now.area.now in
    elim c.then-kind-ne-NUMBER.branch [
      | then-kind-ne-NUMBER-via-then-kind-ne-NUMBER w ↦ sum_left _ _ _ _ (is_not (token_of t a args.left) Number c.kind.ensures w.if-kind-ne-NUMBER.true)
      | then-kind-ne-NUMBER-via-else-kind-ne-NUMBER+then-kind-ne-NUMBER-2 w ↦
          sum-right _ _ _ _ (is_it (token_of t a args.left) Number c.kind.ensures w.if-kind-ne-NUMBER.false)
          (is_not (token_of t a args.right) Number w.kind-else-kind-ne-NUMBER.ensures w.if-kind-ne-NUMBER-2.true)
    ]

pub returns-then-not-has : goal.returns-then-not-has
unfolding is_sign
returns-then-not-has c =
    let args = c.args in
    let t = args.texts.now.tape.now in
    let a = args.texts.now.area.now in
    sum-sign _ _ _ _ (is_it (token_of t a args.left) Number c.kind.ensures c.if-kind-ne-NUMBER.false)
    (is_it (token_of t a args.right) Number c.kind-else-kind-ne-NUMBER.ensures c.if-kind-ne-NUMBER-2.false) c.has.ensures c.if-not-has.true

pub returns-in_err-x : goal.returns-in_err-x
unfolding is_sign
returns-in_err-x c =
    let args = c.args in
    let t = args.texts.now.tape.now in
    let a = args.texts.now.area.now in
    ap option_of c.from_residual.ensures ∙ unread_left _ _ (sym (rw c.text.ensures at c.read_number.ensures) ∙ ap option_of c.in_err-x.was)
    ∙ sum_is _ _ _ _ (is_it (token_of t a args.left) Number c.kind.ensures c.if-kind-ne-NUMBER.false)
    (is_it (token_of t a args.right) Number c.kind-else-kind-ne-NUMBER.ensures c.if-kind-ne-NUMBER-2.false) c.has.ensures c.if-not-has.false

pub returns-in_err-y : goal.returns-in_err-y
unfolding is_sign
returns-in_err-y c =
    let args = c.args in
    let t = args.texts.now.tape.now in
    let a = args.texts.now.area.now in
    ap option_of c.from_residual-in_err-y.ensures ∙ unread-right _ _ (sym (rw c.text.ensures at c.read_number.ensures) ∙ ap option_of c.in_ok-x.was)
    (sym (rw c.text-2.ensures at c.read_number-2.ensures) ∙ ap option_of c.in_err-y.was)
    ∙ sum_is _ _ _ _ (is_it (token_of t a args.left) Number c.kind.ensures c.if-kind-ne-NUMBER.false)
    (is_it (token_of t a args.right) Number c.kind-else-kind-ne-NUMBER.ensures c.if-kind-ne-NUMBER-2.false) c.has.ensures c.if-not-has.false

pub returns-then-has : goal.returns-then-has
unfolding is_sign
returns-then-has c =
    let args = c.args in
    let t = args.texts.now.tape.now in
    let a = args.texts.now.area.now in
    let x : to_z w64 (of_z w64 c.in_ok-x.x) ≡ c.in_ok-x.x = search rules in
    let y : to_z w64 (of_z w64 c.in_ok-y.y) ≡ c.in_ok-y.y = search rules in
    read-sum _ _ (sym (rw c.text.ensures at c.read_number.ensures) ∙ ap option_of c.in_ok-x.was) (sym (rw c.text-2.ensures at c.read_number-2.ensures) ∙ ap option_of c.in_ok-y.was) x y
    (read_back _ c.wrapping_add.type_inv) (sym c.has-2.ensures ∙ c.if-has.true) c.wrapping_add.ensures
    ∙ sum_is _ _ _ _ (is_it (token_of t a args.left) Number c.kind.ensures c.if-kind-ne-NUMBER.false)
    (is_it (token_of t a args.right) Number c.kind-else-kind-ne-NUMBER.ensures c.if-kind-ne-NUMBER-2.false) c.has.ensures c.if-not-has.false

pub returns-else-has : goal.returns-else-has
unfolding is_sign
returns-else-has c =
    let args = c.args in
    let t = args.texts.now.tape.now in
    let a = args.texts.now.area.now in
    let x : to_z w64 (of_z w64 c.in_ok-x.x) ≡ c.in_ok-x.x = search rules in
    let y : to_z w64 (of_z w64 c.in_ok-y.y) ≡ c.in_ok-y.y = search rules in
    read-difference _ _ (sym (rw c.text.ensures at c.read_number.ensures) ∙ ap option_of c.in_ok-x.was) (sym (rw c.text-2.ensures at c.read_number-2.ensures) ∙ ap option_of c.in_ok-y.was) x y
    (read_back _ c.wrapping_sub.type_inv) (sym c.has-2.ensures ∙ c.if-has.false) c.wrapping_sub.ensures
    ∙ sum_is _ _ _ _ (is_it (token_of t a args.left) Number c.kind.ensures c.if-kind-ne-NUMBER.false)
    (is_it (token_of t a args.right) Number c.kind-else-kind-ne-NUMBER.ensures c.if-kind-ne-NUMBER-2.false) c.has.ensures c.if-not-has.false
