-- `build::fold::fold_step` meets its contract. Assumes nothing.
use native.Mathlib.Omega.{arith}
use mathlib.Core.Path.{◌≡◌, refl}
use mir.Syntax.{w64}
use mir.Val.{to_z, of_z}
use borrow.Author.Rules.{rules}
use Rattle.std.proofs.lemmas.List.{take_rest}
use Rattle.build.proofs.Stepping.{done-whole, left_whole, next_none, next_some, fold-inside, fold-room, fold-short, made_short, stepped_kept, stepped-put}
use Rattle.build.proofs.fold.fold_step.Goals as goal

pub fold_value-requires : goal.fold_value-requires
fold_value-requires c = let s = c.requires.0 in rw take_rest (done-whole s, left_whole s)

pub put_number-requires : goal.put_number-requires
put_number-requires c =
    let z : to_z w64 (of_z w64 c.in-Some.v) ≡ c.in-Some.v = search rules in
    rw (c.new-out.ensures.from, c.new-out.ensures.same_bytes) (fold-room c.requires.0 c.args.edition (next_some c.requires.0 c.args.edition refl z (rw take_rest at c.in-Some.ensures)))

pub token_word-requires : goal.token_word-requires
token_word-requires c =
    let s = c.requires.0 in
    let n = c.args.edition in
    let z : to_z w64 (of_z w64 c.in-Some.v) ≡ c.in-Some.v = search rules in
    let e = next_some s n refl z (rw take_rest at c.in-Some.ensures) in
    omega (arith, fold-short s n e, made_short s n e c.put_number.ensures c.new-out.ensures.same_bytes c.new-out.ensures.from)

pub bounds-line-to : goal.bounds-line-to
bounds-line-to c =
    let z : to_z w64 (of_z w64 c.in-Some.v) ≡ c.in-Some.v = search rules in
    fold-inside c.requires.0 c.args.edition (next_some c.requires.0 c.args.edition refl z (rw take_rest at c.in-Some.ensures))

pub returns-in-Some : goal.returns-in-Some
returns-in-Some c =
    let s = c.requires.0 in
    let z : to_z w64 (of_z w64 c.in-Some.v) ≡ c.in-Some.v = search rules in
    let e = next_some s c.args.edition refl z (rw take_rest at c.in-Some.ensures) in
    stepped-put s c.args.edition e c.put_number.ensures c.new-out.ensures.same_bytes c.new-out.ensures.from c.token_word.ensures (search rules) (search rules)

pub returns-in-None : goal.returns-in-None
returns-in-None c =
    let p = c.requires in
    stepped_kept p.0 c.args.edition p.1 (next_none p.0 c.args.edition refl (rw take_rest at c.in-None.ensures))
