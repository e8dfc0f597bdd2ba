-- M-104, what the parts setting promises: under it no attempt joins "a use below 32 bits" into which the assigned register's part does
-- not fit. A use is a token that the joined expression takes the place of. Proved in proofs/Parts.antt. Assumes nothing.
use Rattle.std.specs.Prelude.{ℕ, suc, ◌≤◌, ◌<◌, ◌≡◌, Bool, true, false, List, [], ◌∷◌, drop}
use Rattle.std.proofs.Math.Option.{some}
use Rattle.reference.specs.Control.{not, ◌and◌, let_some◌else◌then◌}
use Rattle.reference.specs.Lists.{position, is_some, get, remove, modify}
use Rattle.reference.specs.Listing.{Token, Listing, ◌at◌}
use Rattle.reference.specs.Names.{Fam, family, fam_of, of_family}
use Rattle.reference.specs.Shapes.{Assignment, assignment, call_at}
use Rattle.reference.specs.Rules.{Rules, volatile}
use Rattle.reference.specs.Life.{Labels}
use Rattle.reference.specs.Join.{rewrite_uses, rewrite_one, propagate_constant, use_from, other_part, lone_number}
use Rattle.reference.specs.Run.{Attempt}

-- the use t, where f was assigned: if it is below 32 bits, then its width and its lowest bit are the assigned register's
pub record SamePart (f : Fam) (t : Token) : Type 0 where
  pub width : (g : Fam) → family t.text ≡ some g → g.width < 32 → g.width ≡ f.width
  pub lowest : (g : Fam) → family t.text ≡ some g → g.width < 32 → g.lowest ≡ f.lowest

-- how the line i, which assigns `expr` to f, was joined: to every token of the family on some lines, or to one token of one line
pub data Joins (rules : Rules) (lines : Listing) (i : ℕ) (f : Fam) (expr : List Token) (lines' : Listing) : Type 0 where
  to_several : (uses : List ℕ) → lines' ≡ remove i (rewrite_uses rules.edition f.name expr uses lines)
      → ((n j k : ℕ) (t : Token) (g : Fam) → get uses n ≡ some j → get (lines at j).tokens k ≡ some t → fam_of t ≡ some g
      → g.name ≡ f.name → 32 ≤ g.width)
      → Joins rules lines i f expr lines'
  to_one : (j pos : ℕ) (t : Token) → get (lines at j).tokens pos ≡ some t
      → lines' ≡ remove i (modify j (rewrite_one rules pos expr) lines) → SamePart f t
      → Joins rules lines i f expr lines'

-- the line i was an assignment, and it was joined so
pub record PartsKept (rules : Rules) (lines : Listing) (i : ℕ) (lines' : Listing) : Type 0 where
  pub to : Assignment
  pub assigned : Fam
  pub is_assignment : assignment (lines at i) ≡ some to
  pub is_register : family to.lhs.text ≡ some assigned
  pub joined : Joins rules lines i assigned to.expr lines'

-- Of attempts in turn, each of which takes what the one before it left, from a listing on: every one that removed a line was joined so.
abbrev pub EachKept : Rules → Listing → List Attempt → Type 0
EachKept rules lines [] = Unit
EachKept rules lines (a ∷ more) = (a.removed ≡ true → PartsKept rules lines a.line a.left) × EachKept rules a.left more

-- ---- which attempts the setting makes fail

-- the same settings, with the parts setting or without it
abbrev pub with_parts : Bool → Rules → Rules
with_parts parts rules =
    record { convention = rules.convention; settle = rules.settle; edition = rules.edition; parts = parts; profile = rules.profile }

-- the use on line j is another part of the register than the assigned one
unfoldable pub is_other_use : Listing → Fam → ℕ → Bool
is_other_use lines f j =
    let_some (position (of_family f.name) (lines at j).tokens) else false then λ pos. other_part f (lines at j).tokens pos

-- Whether an attempt at line i is of a lone number to all its uses. Where it is not, it is of an expression to a single use.
unfoldable pub goes_to_all : Rules → Listing → ℕ → Fam → List Token → Labels → Bool
goes_to_all rules lines i f expr labels =
    lone_number expr and is_some (propagate_constant rules.edition lines i f.name expr labels (volatile rules))

-- whether the single use of the attempt at line i is such another part: "an attempt that would join a use below 32 bits [..], if that
-- use's width or lowest bit is not the assigned register's"
unfoldable pub joins_other_part : Rules → Listing → ℕ → Labels → Bool
joins_other_part rules lines i labels =
    let_some (assignment (lines at i)) else false then λ a.
    let_some (family a.lhs.text) else false then λ f.
    not (goes_to_all rules lines i f a.expr labels)
    and (let_some (use_from (lines at i).indent f.name a.expr (is_some (call_at (lines at i))) (volatile rules) (suc i)
    (drop (suc i) lines))
    else false then λ j. is_other_use lines f j)
