-- `lines::traits::has` meets its contract. Assumes nothing.
use Rattle.lines.specs.Traits.{TRAITS, traits}
use Rattle.lines.specs.Texts.{token_of}
use Rattle.lines.proofs.traits.Rows.{answer_is}
use Rattle.lines.proofs.traits.has.Goals as goal

pub returns : goal.returns
unfolding traits
returns c = let a = c.args in rw c.traits.ensures (answer_is (token_of a.texts.now a.w) TRAITS a.place)
