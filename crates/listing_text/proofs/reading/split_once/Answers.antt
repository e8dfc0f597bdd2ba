-- `listing_text::reading::split_once` meets its contract. Assumes nothing.
use Rattle.std.proofs.Common.{refl, sym, ◌∙◌}
use Rattle.listing_text.proofs.Parts.{no_place, front_without, apart_at}
use Rattle.listing_text.proofs.reading.split_once.Goals as goal

pub returns-in-Some : goal.returns-in-Some
returns-in-Some c =
    let e = sym c.place_of.ensures ∙ c.in-Some.is in
    record { without = front_without c.args.b c.args.text.now e; whole = apart_at c.args.b c.args.text.now e }

pub returns-in-None : goal.returns-in-None
returns-in-None c = record { without = no_place c.args.b c.args.text.now (sym c.place_of.ensures ∙ c.in-None.is); whole = refl }
