-- Between the two halves of a join: what the lines told before it, and what it has put on them. Assumes nothing.
use Rattle.std.specs.Prelude.{ℕ, ◌≡◌, true, false, List, get_or, length, reverse, take}
use Rattle.std.specs.Prelude as std
use Rattle.reference.specs.Text.{bytes, starts_with}
use Rattle.reference.specs.Listing.{Token, Listing}
use Rattle.reference.specs.Names.{Fam}
use Rattle.reference.specs.Rules.{Rules}
use Rattle.joining.specs.Plan.{Plan}
use Rattle.joining.proofs.Planned.{Planned}
use Rattle.cautions.specs.Kinds.{odd_form, overwritten, slot, ◌∪◌, ◌given◌}
use Rattle.cautions.specs.Forms.{ways}
use Rattle.cautions.specs.Joins.{is_odd, past_call}
use Rattle.usefacts.specs.declared.parts.Before.{Before}
use Rattle.raising.specs.Tables.{is_on, Fitting}
use Rattle.raising.specs.Steps.{into}
use Rattle.raising.specs.Spread.{marked, far_kinds}
use Rattle.raising.specs.Noting.{ToldBy}
use Rattle.raising.specs.declared.tables.Raising.{Raising}

-- the kinds of the join itself, if `last` is the last line that it rewrites: `uses_cautions` of the definitions but for each line's own
unfoldable pub own_kinds : Rules → Listing → ℕ → Fam → List Token → ℕ → ℕ
own_kinds rules lines i f expr last =
    odd_form given is_odd rules lines (ways lines) i f expr last ∪ overwritten given past_call rules lines (ways lines) i f expr last
    ∪ slot given starts_with f.name (bytes "var_")

-- the kinds that each rewritten line gets but for its own
unfoldable pub shared_kinds : Rules → Listing → ℕ → Plan → Fam → ℕ
shared_kinds rules lines i p f =
    own_kinds rules lines i f p.expr (get_or (reverse (into rules lines i p)) 0 i)
    ∪ far_kinds rules lines i f.name (into rules lines i p) false

-- The plan p of line i, which assigns to f, is about to be carried out: `parts` has what each line tells, what the join puts on the lines
-- that the value reaches was put on the sets, and `own` was answered.
pub record Begun (rules : Rules) (lines : Listing) (i : ℕ) (p : Plan) (f : Fam) (parts : List (std.Option Before)) (old new : List ℕ)
    (own : ℕ) : Type 0 where
  pub told : ToldBy rules lines i p f parts
  pub sets : take (length lines) new ≡ marked rules lines i f.name (into rules lines i p) (take (length lines) old)
  pub own_is : own ≡ shared_kinds rules lines i p f

-- The same of the tables: r have become r'.
pub record Halfway (rules : Rules) (lines : Listing) (i : ℕ) (p : Plan) (r r' : Raising) (own : ℕ) : Type 0 where
  pub planned : Planned rules lines i p
  pub kept : Fitting lines r'
  pub long : length r'.sets.now ≡ length r.sets.now
  pub begun : is_on r ≡ true → Begun rules lines i p planned.def.fam r'.parts.now r.sets.now r'.sets.now own
  pub none : is_on r ≡ false → own ≡ 0
