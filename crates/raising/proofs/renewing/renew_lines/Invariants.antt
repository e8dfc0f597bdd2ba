-- What the loop of `raising::renewing::renew_lines` keeps true: the lines before line q are renewed. Assumes nothing.
use Rattle.std.proofs.Common.{◌≡◌, length}
use Rattle.raising.specs.Renewing.{RenewedTo}
use Rattle.raising.proofs.renewing.renew_lines.Given as goal

abbrev pub invariant-loop-q : goal.invariant-loop-q
invariant-loop-q l = record {
  renewed : RenewedTo l.listing l.i l.q l.all l.parts l.initial.sets l.initial.forms l.sets l.forms;
  sets_long : length l.sets ≡ length l.initial.sets;
  forms_long : length l.forms ≡ length l.initial.forms;
}
