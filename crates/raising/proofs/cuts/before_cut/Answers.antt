-- `raising::cuts::before_cut` meets its contract. Assumes nothing.
use mathlib.Core.Path.{ap, refl}
use lib.ListN.{length}
use Rattle.std.specs.Prelude.{List}
use Rattle.flow.specs.declared.lineforms.LineForm.{LineForm}
use Rattle.raising.specs.Tables.{SameLent}
use Rattle.raising.proofs.Gathering.{held_long}
use Rattle.raising.proofs.Lending.{on_as_before, room_again}
use Rattle.raising.proofs.cuts.before_cut.Goals as goal

pub returns-clause-lent : goal.returns-clause-lent
returns-clause-lent c =
    let e = c.raise_in.ensures in
    record {
      sets_are = refl;
      forms_are = refl;
      parts_are = refl;
      seen_are = refl;
      expr_are = refl;
      sets_length = e.sets_long;
      forms_length = ap (λ (x : List LineForm). length x) e.forms;
      parts_length = refl;
      seen_length = e.seen_long;
      expr_length = refl;
    }

pub returns-clause-cautioned : goal.returns-clause-cautioned
returns-clause-cautioned c =
    let h = c.args.listing.now in
    let e = c.raise_in.ensures in
    let kept = c.requires.3 in
    let lent : SameLent c.args.r.now _ = returns-clause-lent c in
    record {
      kept = record { room = room_again lent kept.room; formed = λ on. rw e.forms (kept.formed (rw (on_as_before lent) at on)); untold = λ on. kept.untold (rw (on_as_before lent) at on) };
      sets = λ on. rw (held_long h) e.sets;
    }
