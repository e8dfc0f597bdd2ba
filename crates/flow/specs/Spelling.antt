-- The braces of a text that have no partner in it, and what the code keeps of a form. Assumes nothing.
use Rattle.std.specs.Prelude.{ℕ, suc, pred, ◌+◌, ◌-◌, ◌≤◌, ◌≡◌, [], ◌∷◌, ◌++◌, eqb, take, length}
use Rattle.reference.specs.Control.{when◌then◌else◌}
use Rattle.reference.specs.Text.{Text}
use Rattle.flow.specs.declared.spelling.Spelling.{Spelling}

-- one byte in front of a text with so many `}` and `{` that have no partner: a `{` (123) is the partner of its first `}` (125)
unfoldable pub in_front : ℕ → ℕ × ℕ → ℕ × ℕ
in_front c p =
    when eqb c 123 then (when eqb p.0 0 then (0, suc p.1) else (pred p.0, p.1))
    else when eqb c 125 then (suc p.0, p.1)
    else p

-- how many `}` and how many `{` of a text have no partner
unfoldable pub unmatched : Text → ℕ × ℕ
unmatched [] = (0, 0)
unmatched (c ∷ cs) = in_front c (unmatched cs)

-- the same of two texts, one behind the other
unfoldable pub joined : ℕ × ℕ → ℕ × ℕ → ℕ × ℕ
joined p q = (p.0 + (q.0 - p.1), q.1 + (p.1 - q.0))

-- what is kept of the whole, where s is what follows
unfoldable pub spelled : Spelling → Text → Text × (ℕ × ℕ)
spelled f s = (take 10 (take f.len f.bytes ++ s), joined (f.closes, f.opens) (unmatched s))

-- at most n bytes were read
pub record Short (f : Spelling) (n : ℕ) : Type 0 where
  pub room : f.len ≤ 10
  pub sized : length f.bytes ≡ 10
  pub few : f.closes + f.opens ≤ n

-- what is kept of a text
pub record Spells (f : Spelling) (s : Text) : Type 0 where
  pub room : f.len ≤ 10
  pub front : take f.len f.bytes ≡ take 10 s
  pub braces : (f.closes, f.opens) ≡ unmatched s

-- the parts of a step: the byte is kept, if there is room; it is a brace, or none
pub record FirstByte (f : Spelling) (c : ℕ) (g : Spelling) : Type 0 where
  pub front : (s : Text) → take 10 (take g.len g.bytes ++ s) ≡ take 10 (take f.len f.bytes ++ (c ∷ s))
  pub room : g.len ≤ 10
  pub sized : length g.bytes ≡ length f.bytes
  pub closes_are : g.closes ≡ f.closes
  pub opens_are : g.opens ≡ f.opens

pub record BraceByte (f : Spelling) (c : ℕ) (g : Spelling) : Type 0 where
  pub braces : (s : Text) → joined (g.closes, g.opens) (unmatched s) ≡ joined (f.closes, f.opens) (unmatched (c ∷ s))
  pub few : g.closes + g.opens ≤ f.closes + f.opens + 1
  pub len_is : g.len ≡ f.len
  pub bytes_are : g.bytes ≡ f.bytes
