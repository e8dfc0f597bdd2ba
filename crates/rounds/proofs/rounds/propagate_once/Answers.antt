-- `rounds::rounds::propagate_once` meets its contract. Assumes nothing.
use native.Mathlib.Omega.{arith}
use lib.ListN.{length-take}
use Rattle.rounds.proofs.Beginning.{begin_labels, begin_room, begin_attemptable, begin_made}
use Rattle.rounds.proofs.rounds.propagate_once.Goals as goal

pub gather_labels-known-requires : goal.gather_labels-known-requires
gather_labels-known-requires c =
    let l = c.listing-listing.ensures in
    let b = c.requires.0 in
    let few = begin_labels b c.requires.1.for_labels in
    let n = c.args.size.lines in
    rw (l.tape_is, l.area_is, l.tokens_are, l.lines_are)
    (b.current.listed, omega (arith, few, b.current.lines_fit, length-take n c.args.room.now.lines.now))

pub gather_slots-names-requires : goal.gather_slots-names-requires
gather_slots-names-requires c =
    let l = c.listing-listing.ensures in
    let r = begin_room c.requires.0 c.requires.1.for_slots c.requires.1.for_slot_words in
    rw (l.tape_is, l.area_is, l.tokens_are, l.lines_are)
    (record { listed = c.requires.0.current.listed; slots_in_bounds = (r.0, r.1); slot_words_in_bounds = r.2 })

pub turns-requires : goal.turns-requires
turns-requires c =
    let l = c.listing-listing.ensures in (
      begin_attemptable c.requires.0 (rw (l.tape_is, l.area_is, l.tokens_are, l.lines_are) at c.gather_labels-known.ensures) _
          (rw (l.tape_is, l.area_is, l.tokens_are, l.lines_are) at c.gather_slots-names.ensures),
      c.requires.2,
    )

pub returns : goal.returns
returns c =
    let l = c.listing-listing.ensures in
    let t = c.turns.ensures in
    record {
      made =
          begin_made c.requires.0 (rw (l.tape_is, l.area_is, l.tokens_are, l.lines_are) at c.gather_labels-known.ensures) c.gather_slots-names.result
          (rw (l.tape_is, l.area_is, l.tokens_are, l.lines_are) at c.gather_slots-names.ensures) _ t.made;
      lent = t.lent;
      lent_raising = t.lent_raising;
    }
