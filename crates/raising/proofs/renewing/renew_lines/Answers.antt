-- `raising::renewing::renew_lines` meets its contract. Assumes nothing.
use native.Mathlib.Omega.{arith}
use mathlib.Core.Path.{◌≡◌, refl, ◌∙◌, subst}
use Prim.Native.Nat.{ℕ}
use lib.ListN.{length}
use Rattle.raising.specs.Renewing.{RenewedTo}
use Rattle.raising.proofs.Renewed.{renewed_none, renewed_more, renewed_far}
use Rattle.raising.proofs.renewing.renew_lines.Goals as goal

pub loop-q-init : goal.loop-q-init
loop-q-init c =
    let a = c.args in
    record { renewed = renewed_none a.listing.now a.i a.all a.parts.now a.sets.now a.forms.now; sets_long = refl; forms_long = refl }

pub loop-q-preserved : goal.loop-q-preserved
loop-q-preserved c =
    let a = c.args in
    let l = c.loop-q in
    record {
      renewed = renewed_more a.listing.now a.i a.all a.parts.now a.sets.now a.forms.now l.q l.auto.q c.renew.ensures l.invariant.renewed;
      sets_long = c.renew.auto.sets ∙ l.invariant.sets_long;
      forms_long = c.renew.auto.forms ∙ l.invariant.forms_long;
    }

pub returns : goal.returns
returns c =
    let a = c.args in
    let l = c.loop-q in
    let q = c.requires.1 in
    let e : l.q ≡ a.last = omega (arith, c.loop-q-test.false, l.auto.q-end q.above) in
    renewed_far a.listing.now a.i a.all a.parts.now a.sets.now a.forms.now a.last (length a.listing.now.lines.now) q.inside q.behind
    (subst (λ (n : ℕ). RenewedTo a.listing.now a.i n a.all a.parts.now a.sets.now a.forms.now l.sets l.forms) e l.invariant.renewed)
