-- What the loop of `listing_text::reading::put_fields` keeps true: the fields that are left are still to be put.
use mathlib.Core.Path.{◌≡◌}
use Rattle.listing_text.specs.Room.{page}
use Rattle.listing_text.specs.Exact.{apart, fields_read, line_read}
use Rattle.listing_text.specs.Parsed.{onto_page}
use Rattle.listing_text.proofs.Parts.{parts_of, size_of}
use Rattle.listing_text.proofs.reading.put_fields.Given as goal

abbrev pub invariant-loop-left : goal.invariant-loop-left
invariant-loop-left l =
    record {
      told : onto_page (page l.out) (fields_read (parts_of 9 l.left)) ≡ onto_page (page l.fn.out) (line_read (apart 9 l.fn.line));
      lent : l.out.out.ghost_name ≡ l.fn.out.out.ghost_name;
    }

abbrev pub decreases-loop-left : goal.decreases-loop-left
decreases-loop-left l = size_of l.left
