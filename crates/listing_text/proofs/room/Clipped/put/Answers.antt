-- `listing_text::room::Clipped::put` meets its contract. Assumes nothing.
use mathlib.Core.Path.{sym, ◌∙◌}
use borrow.Author.Rules.{rules}
use Rattle.listing_text.proofs.Pages.{put_next, put_last}
use Rattle.listing_text.proofs.room.Clipped.put.Goals as goal

pub loop-b-preserved : goal.loop-b-preserved
loop-b-preserved c =
    record {
      rest = put_next _ _ c.loop-b.b-index (search rules) c.put_byte.ensures.adds ∙ c.loop-b.invariant.rest;
      lent = c.put_byte.ensures.lent ∙ c.loop-b.invariant.lent;
    }

pub returns : goal.returns
returns c = record { adds = record { same = sym (put_last _ _ c.loop-b.b-index (search rules)) ∙ c.loop-b.invariant.rest }; lent = c.loop-b.invariant.lent }
