-- `listing_text::showing::begun` meets its contract. Assumes nothing.
use Rattle.listing_text.proofs.Telling.{begun_asked}
use Rattle.listing_text.proofs.showing.begun.Goals as goal

pub returns : goal.returns
returns c = begun_asked c.args.at c.args.fresh c.from-lines.ensures
