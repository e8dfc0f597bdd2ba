-- What the lines tell of a join before it is carried out. Assumes nothing.
use Rattle.std.specs.Prelude.{ℕ, suc, ◌≤◌, ◌<◌, ◌≡◌, Bool, true, false, List, [], ◌∷◌, length, get_or, drop, reverse}
use Rattle.std.proofs.Math.Seq.{slice}
use Rattle.std.specs.Prelude as std
use Rattle.reference.specs.Control.{when◌then◌else◌}
use Rattle.reference.specs.Listing.{Token, Listing, ◌at◌}
use Rattle.reference.specs.Names.{Fam}
use Rattle.reference.specs.Rules.{Rules, volatile}
use Rattle.reference.specs.Join.{is_bracketed}
use Rattle.joining.specs.Plan.{Plan, changes}
use Rattle.cautions.specs.Kinds.{◌∪◌}
use Rattle.cautions.specs.Uses.{is_truth}
use Rattle.ground.specs.Rules.{rules_of}
use Rattle.lines.specs.Texts.{Holds, Known, bare_listing, fam_text, tokens_of}
use Rattle.flow.specs.Ways.{Tabled}
use Rattle.usefacts.specs.Split.{before_of, after_of, finished}
use Rattle.usefacts.specs.declared.parts.Before.{Before}
use Rattle.raising.specs.Steps.{plan_in}
use Rattle.raising.specs.Spread.{is_told}
use Rattle.raising.specs.declared.noting.Noting.{Noting}

-- ---- a plan with what was found out about it

abbrev pub lines_of : Noting → Listing
lines_of n = bare_listing n.g.listing

abbrev pub plan_of : Noting → Plan
plan_of n = plan_in n.g.listing n.plan

abbrev pub expr_of : Noting → List Token
expr_of n = tokens_of n.g.listing.texts n.expr.now

abbrev pub fam_of : Noting → Fam
fam_of n = record { name = fam_text n.g.listing.texts n.name.family; width = n.name.width; lowest = n.name.lowest }

-- its words can be read, and what is said of it is true
pub record Sound (n : Noting) : Type 0 where
  pub tabled : Tabled n.g
  pub inside : n.plan.line < length n.g.listing.lines.now
  pub known : Known n.g.listing.texts n.plan.family
  pub named : Known n.g.listing.texts n.name.family
  pub narrow : n.name.width ≤ 64
  pub expr : Holds n.g.listing.texts n.expr.now
  pub expr_few : length n.expr.now < 65536
  pub expr_is : expr_of n ≡ (plan_of n).expr
  pub truth : n.truth ≡ is_truth (expr_of n)
  pub bracketed : n.bracketed ≡ is_bracketed (rules_of n.rules) (expr_of n)

-- ---- what each line tells

-- line k, of the plan p of line i, which assigns to f: nothing if it stays as it is
unfoldable pub told : Rules → Listing → ℕ → Plan → Fam → ℕ → std.Option Before
told rules lines i p f k =
    when changes (volatile rules) i p k (lines at k)
    then std.Some (before_of rules f p.expr (lines at k).tokens (slice (suc i) k lines))
    else std.None

-- the table has it of each line
pub record ToldBy (rules : Rules) (lines : Listing) (i : ℕ) (p : Plan) (f : Fam) (parts : List (std.Option Before)) : Type 0 where
  pub each : (k : ℕ) → get_or parts k std.None ≡ told rules lines i p f k

-- the lines from line a on, above line b, tell nothing any more; the others tell what they did
pub record Forgotten (a b : ℕ) (old new : List (std.Option Before)) : Type 0 where
  pub among : (k : ℕ) → a ≤ k → k < b → get_or new k std.None ≡ std.None
  pub before : (k : ℕ) → k < a → get_or new k std.None ≡ get_or old k std.None
  pub behind : (k : ℕ) → b ≤ k → get_or new k std.None ≡ get_or old k std.None

-- the numbers of these, the first of the parts being that of line k
unfoldable pub noted_from : ℕ → List (std.Option Before) → List ℕ
noted_from k [] = []
noted_from k (t ∷ ts) = let r = noted_from (suc k) ts in when is_told t then k ∷ r else r

-- the last of them behind line i, or i
unfoldable pub last_noted : List (std.Option Before) → ℕ → ℕ
last_noted parts i = get_or (reverse (noted_from (suc i) (drop (suc i) parts))) 0 i

-- ---- and what the new lines add

-- the kinds of a line with these new tokens
abbrev pub kinds_told : std.Option Before → List Token → ℕ
kinds_told (std.Some b) new = finished b (after_of new)
kinds_told std.None new = 0

-- of all of them, each with its new line
unfoldable pub kinds_from : List (std.Option Before) → Listing → ℕ
kinds_from [] ls = 0
kinds_from (t ∷ ts) [] = 0
kinds_from (t ∷ ts) (l ∷ ls) = kinds_told t l.tokens ∪ kinds_from ts ls
