-- `tallies::staying::calls_stay` meets its contract. Assumes nothing.
use mathlib.Core.Path.{◌≡◌, sym, ap, ◌∙◌}
use lib.Dec.{eqb}
use Rattle.std.specs.Bool.{then_some}
use Rattle.std.proofs.Common.{◌∷◌, []}
use Rattle.reference.specs.Listing.{Symbol, token}
use Rattle.reference.specs.Options.{option_of}
use Rattle.reference.specs.Tape.{old, new_line, new_token}
use Rattle.tape.specs.Held.{held, unplaced}
use Rattle.tape.specs.Walk.{event_shown, left}
use Rattle.tallies.proofs.Callees.{Asked, Passed, asked_line, asked_token, asked_ends, one_gone, passed-closed, passed-stays, symbol_now}
use Rattle.tallies.proofs.staying.calls_stay.Goals as goal
use Rattle.tallies.proofs.staying.calls_stay.Goals.{else-opens-via-then-opens+else-not-name_stays, else-opens-via-else-opens}

pub loop-c-preserved-in-Line : goal.loop-c-preserved-in-Line
loop-c-preserved-in-Line c =
    let more = unplaced (left old c.next.new.self) in
    let k : unplaced (left old c.loop-c.c-iterator) ≡ new_line (option_of c.in-Line.address) c.in-Line.indent ∷ more
    = ap unplaced c.in-Some.ensures.steps ∙ ap (λ e. event_shown e ∷ more) c.in-Line.is in
    asked_line {symbol = c.loop-c.symbol} (option_of c.in-Line.address) c.in-Line.indent more (record { stays = λ name e. c.loop-c.invariant.stays name (rw k e) })

pub loop-c-preserved : goal.loop-c-preserved
loop-c-preserved c =
    let more = unplaced (left old c.next.new.self) in
    let t = token c.in-Token.kind c.in-Token.text.now in
    let k : unplaced (left old c.loop-c.c-iterator) ≡ new_token t ∷ more
    = ap unplaced c.in-Some.ensures.steps ∙ ap (λ e. event_shown e ∷ more) c.in-Token.is in
    let passed : Passed (held c.args.raw.now) (held c.args.cleaned.now) c.loop-c.symbol t
    = elim c.else-opens.branch [
      | else-opens-via-then-opens+else-not-name_stays w ↦ passed-stays c.loop-c.symbol t (sym w.name_stays.ensures ∙ w.if-not-name_stays.false)
      | else-opens-via-else-opens w ↦ passed-closed t (sym c.opens.ensures ∙ w.if-opens.false)
    ] in
    let asked = asked_token {now = then_some (eqb c.in-Token.kind Symbol) c.in-Token.text} t more passed (symbol_now c.in-Token.kind c.in-Token.text)
    (record { stays = λ name e. c.loop-c.invariant.stays name (rw k e) }) in
    rw c.then_some-symbol.ensures asked

pub returns-then-not-name_stays : goal.returns-then-not-name_stays
returns-then-not-name_stays c = one_gone c.loop-c.symbol (sym c.name_stays.ensures ∙ c.if-not-name_stays.true)

pub returns : goal.returns
returns c =
    let none : Asked (held c.args.raw.now) (held c.args.cleaned.now) c.loop-c.symbol []
    = record { stays = λ name e. c.loop-c.invariant.stays name (rw (ap unplaced c.in-None.ensures.steps.0) e) } in
    rw (c.count_casts.ensures, c.count_casts-2.ensures) (asked_ends none)
