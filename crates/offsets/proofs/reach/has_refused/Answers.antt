-- `offsets::reach::has_refused` meets its contract. Assumes nothing.
use Rattle.laws.proofs.Scans.{or_true, or_false}
use mathlib.Core.Path.{◌≡◌, refl, sym, ◌∙◌}
use Rattle.std.specs.Prelude.{Some, None}
use Rattle.offsets.specs.Offsets.{addresses}
use Rattle.offsets.proofs.Searching.{or_none}
use Rattle.offsets.proofs.reach.has_refused.Goals as goal

pub returns-in-Line-Some-default : goal.returns-in-Line-Some-default
unfolding addresses
returns-in-Line-Some-default g c =
    let e : c.in-Line-Some-default.address' ≡ Some c.in-Line-Some-default.address = rw c.in-Line-Some-default.is at c.in-Line-Some-default.address-is in
    rw (c.in-Line-Some-default.is, e) (c.is_refused.ensures ∙ sym (or_none _))

pub returns-then-is_refused : goal.returns-then-is_refused
unfolding addresses
returns-then-is_refused g c =
    rw c.in-Marks.is (c.if-is_refused.true ∙ sym (or_true _ (sym c.is_refused-in-Marks.ensures ∙ c.if-is_refused.true)))

pub returns-else-is_refused : goal.returns-else-is_refused
unfolding addresses
returns-else-is_refused g c = rw c.in-Marks.is
    (sym (or_false _ (sym c.is_refused-in-Marks.ensures ∙ c.if-is_refused.false) ∙ or_none _ ∙ sym c.is_refused-else-is_refused.ensures))

pub returns-in-Line-None-default : goal.returns-in-Line-None-default
unfolding addresses
returns-in-Line-None-default g c =
    let e : c.in-Line-None-default.address ≡ None = rw c.in-Line-None-default.is at c.in-Line-None-default.address-is in
    rw (c.in-Line-None-default.is, e) refl

pub returns-in-Token : goal.returns-in-Token
unfolding addresses
returns-in-Token g c = rw c.in-Token.is refl
