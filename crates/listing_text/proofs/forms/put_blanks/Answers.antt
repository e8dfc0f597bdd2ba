-- `listing_text::forms::put_blanks` meets its contract. Assumes nothing.
use Prim.Native.Nat.{ℕ, ◌+◌, ◌-◌, ◌<◌}
use native.Mathlib.Omega.{arith}
use mathlib.Core.Path.{◌≡◌, refl, sym, ap, ◌∙◌}
use Rattle.listing_text.specs.Room.{page, puts}
use Rattle.listing_text.specs.Forms.{blanks}
use Rattle.listing_text.proofs.Spelling.{blanks-next, blanks-last}
use Rattle.listing_text.proofs.forms.put_blanks.Goals as goal

pub loop-init : goal.loop-init
loop-init c =
    let all : c.args.indent - 0 ≡ c.args.indent = omega arith in
    record { rest = ap (λ (n : ℕ). puts (page c.args.out.now) (blanks n)) all; lent = refl }

pub loop-preserved : goal.loop-preserved
loop-preserved c =
    let left = c.args.indent - c.loop.counter in
    let more : 0 < left = omega arith in
    let fewer : c.args.indent - (c.loop.counter + 1) ≡ left - 1 = omega arith in
    record {
      rest = ap (λ (n : ℕ). puts (page c.put.new.self) (blanks n)) fewer ∙ blanks-next _ left more c.put.ensures.adds ∙ c.loop.invariant.rest;
      lent = c.put.ensures.lent ∙ c.loop.invariant.lent;
    }

pub returns : goal.returns
returns c =
    let none : c.args.indent - c.loop.counter ≡ 0 = omega arith in
    record { adds = record { same = sym (blanks-last (page c.loop.out) _ none) ∙ c.loop.invariant.rest }; lent = c.loop.invariant.lent }
