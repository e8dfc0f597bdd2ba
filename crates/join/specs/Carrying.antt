-- The marks of lines in two tables, by the number of the input line that a line was (M-105): what is left of them when a line is joined
-- into others.
-- Assumes nothing.
use Rattle.std.specs.Prelude.{ℕ, suc, min, max, ◌≡◌, Bool, List, [], ◌∷◌, map, get_or, set, drop}
use Rattle.reference.specs.Control.{when◌then◌else◌}
use Rattle.reference.specs.Text.{Text}
use Rattle.reference.specs.Listing.{Line, Listing}
use Rattle.reference.specs.Rules.{Rules, volatile}
use Rattle.joining.specs.Plan.{changes}
use Rattle.lines.specs.Lines.{origin_of, bare_listing}
use Rattle.plan.specs.declared.plans.Join.{Join}
use Rattle.join.specs.Building.{plan_of}

-- the lowest addresses, that of each of these input lines no higher than `low`
unfoldable pub lowered : ℕ → List ℕ → List ℕ → List ℕ
lowered low [] lows = lows
lowered low (o ∷ os) lows = lowered low os (set lows o (min (get_or lows o 0) low))

-- the highest addresses, that of each of these input lines no lower than `high`
unfoldable pub raised : ℕ → List ℕ → List ℕ → List ℕ
raised high [] highs = highs
raised high (o ∷ os) highs = raised high os (set highs o (max (get_or highs o 0) high))

-- the numbers of the input lines that the lines at these places were
abbrev pub origins_at : List ℕ → List ℕ → List ℕ
origins_at lines places = map (λ k. origin_of (get_or lines k 0)) places

-- the places, from k on, that p picks out
unfoldable pub picked : (ℕ → Line → Bool) → ℕ → Listing → List ℕ
picked p k [] = []
picked p k (l ∷ ls) = let r = picked p (suc k) ls in when p k l then k ∷ r else r

-- the places of the lines that the plan changes
abbrev pub changed_by : Rules → Text → Text → List ℕ → List ℕ → Join → List ℕ
changed_by rules tape old words lines j =
    picked (changes (volatile rules) j.line (plan_of tape old words lines j)) (suc j.line)
    (drop (suc j.line) (bare_listing tape old words lines))

-- the lines at these places have taken in the marks of line i
pub record Handed (lines : List ℕ) (i : ℕ) (places lows highs lows' highs' : List ℕ) : Type 0 where
  pub lows_are : lows' ≡ lowered (get_or lows (origin_of (get_or lines i 0)) 0) (origins_at lines places) lows
  pub highs_are : highs' ≡ raised (get_or highs (origin_of (get_or lines i 0)) 0) (origins_at lines places) highs

-- the lines that the plan changes have taken in the marks of the line that is joined
abbrev pub Carried : Rules → Text → Text → List ℕ → List ℕ → Join → List ℕ → List ℕ → List ℕ → List ℕ → Type 0
Carried rules tape old words lines j = Handed lines j.line (changed_by rules tape old words lines j)
