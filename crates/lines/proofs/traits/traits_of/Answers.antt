-- `lines::traits::traits_of` meets its contract. Assumes nothing.
use native.Mathlib.Omega.{arith}
use borrow.Author.Tests.{ne_eqb}
use mathlib.Core.Path.{sym, ◌∙◌}
use Rattle.reference.specs.Control.{◌and◌}
use Rattle.reference.specs.Listing.{is}
use Rattle.reference.specs.Shapes.{is_kw, has_brace, writes, is_operator}
use Rattle.lines.specs.Traits.{delimits_before, delimits_after, is_sign, traits}
use Rattle.lines.proofs.traits.traits_of.Goals as goal

pub returns-in_default : goal.returns-in_default
unfolding traits delimits_before delimits_after is_sign is_kw has_brace writes is_operator is ◌and◌
returns-in_default c = c.text_traits.ensures ∙ sym (rw (ne_eqb c.args.kind 3 (λ e. omega arith), ne_eqb c.args.kind 6 (λ e. omega arith)))
