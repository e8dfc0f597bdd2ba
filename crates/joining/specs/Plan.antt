-- An attempt in two parts: `decide` looks at the listing and answers a plan, `act` carries the plan out. One rule serves both of the Rust's
-- joins: in each line after line i, up to the plan's last one, that uses the family, every token of the family becomes the right side. Each
-- piece is what one function of the code answers; that the two parts are `try_at` is proved in proofs/Deciding.antt. Assumes nothing.
use Rattle.std.specs.Prelude.{ℕ, suc, Bool, true, false, List, [], ◌∷◌, ◌++◌, leb, ltb, eqb, drop, take}
use Rattle.std.proofs.Math.Option.{Option, none, some}
use Rattle.std.proofs.Math.Seq.{slice}
use Rattle.reference.specs.Control.{not, ◌and◌, ◌or◌, when◌then◌else◌, let_some◌else◌then◌}
use Rattle.reference.specs.Lists.{any, position, is_some, remove}
use Rattle.reference.specs.Text.{Text, bytes, has}
use Rattle.reference.specs.Listing.{Token, token, Punct, Line, Listing, ◌at◌, with_tokens}
use Rattle.reference.specs.Names.{Fam, family, of_family}
use Rattle.reference.specs.Rules.{Rules, volatile}
use Rattle.reference.specs.Shapes.{is_label, has_kw, opens_or_closes, call_in, assignment_of}
use Rattle.reference.specs.Life.{touch, match_touch, is_use, is_kill, Labels, dead_after}
use Rattle.reference.specs.Join.{ends_run, bad_use, substitute, rewrite_use, use_from, harmless, text_before}
use Rattle.reference.specs.Join.{text_after, standalone, is_bracketed, replaceable, lone_number}

-- ---- what an attempt starts from

-- a line that assigns to a family what does not mention it: the register or slot, the right side, and whether the line has a call mark
pub record Definition : Type 0 where
  pub fam : Fam
  pub expr : List Token
  pub calls : Bool

unfoldable pub definition_of : List Token → Option Definition
definition_of ts =
    let_some (assignment_of ts) else none then λ a.
    let_some (family a.lhs.text) else none then λ f.
    when any (of_family f.name) a.expr then none
    else some (record { fam = f; expr = a.expr; calls = is_some (call_in ts) })

-- in each line up to `last` that uses the family `fam`, the right side takes its place, in brackets or without
pub record Plan : Type 0 where
  pub fam : Text
  pub expr : List Token
  pub last : ℕ
  pub brackets : Bool

-- ---- a lone number, to several uses

-- how far a constant reaches: whether a line uses it, the last line that uses or overwrites it, and whether the search has ended
pub record Reach : Type 0 where
  pub used : Bool
  pub last : ℕ
  pub ended : Bool

module _ (base-indent : ℕ) (fam : Text) (volatile : List Text) where
  -- the reach `r`, with the line j looked at
  unfoldable pub reach_at : ℕ → Line → Reach → Reach
  reach_at j l r =
      when ends_run base-indent l then record { used = r.used; last = r.last; ended = true }
      else match_touch (touch l fam volatile)
      (record { used = r.used; last = r.last; ended = opens_or_closes l })
      (record { used = r.used; last = j; ended = true })
      (λ n. record { used = true; last = j; ended = opens_or_closes l })

  -- the search from the line j on
  unfoldable pub reach_from : ℕ → Listing → Reach → Reach
  reach_from j [] r = r
  reach_from j (l ∷ rest) r = let next = reach_from (suc j) rest (reach_at j l r) in when r.ended then r else next

-- how far a constant of line i reaches
unfoldable pub reach_of : Listing → ℕ → Text → List Text → Reach
reach_of lines i fam volatile =
    reach_from (lines at i).indent fam volatile (suc i) (drop (suc i) lines) (record { used = false; last = i; ended = false })

-- a line that uses the family and cannot take a constant for it
unfoldable pub refuses : Text → List Text → Line → Bool
refuses fam volatile l = is_use (touch l fam volatile) and bad_use fam l.tokens

-- each of the lines that uses the family takes a constant for it
unfoldable pub all_take : Text → List Text → Listing → Bool
all_take fam volatile ls = not (any (refuses fam volatile) ls)

-- whether the family's value of line i is never read after the line `last`
unfoldable pub ends_at : Listing → ℕ → Text → Labels → List Text → ℕ → Bool
ends_at lines i fam labels volatile last =
    dead_after lines last fam (lines at i).indent labels i volatile or is_kill (touch (lines at last) fam volatile)

-- `propagate_constant`, with the reach found
unfoldable pub plan_reach : Listing → ℕ → Definition → Labels → List Text → Reach → Option Plan
plan_reach lines i d labels volatile r =
    when r.used and ends_at lines i d.fam.name labels volatile r.last
    and all_take d.fam.name volatile (slice (suc i) (suc r.last) lines)
    then some (record { fam = d.fam.name; expr = d.expr; last = r.last; brackets = false })
    else none

unfoldable pub plan_constant : Listing → ℕ → Definition → Labels → List Text → Option Plan
plan_constant lines i d labels volatile = plan_reach lines i d labels volatile (reach_of lines i d.fam.name volatile)

-- ---- an expression, to one use

-- what a line after a definition is to it: its single use, a line that it may pass, or the end of the search
pub data Look : Type 0 where
  found passes stops : Look

unfoldable pub look : ℕ → Definition → List Text → Line → Look
look base-indent d volatile l =
    when is_label l then stops
    else match_touch (touch l d.fam.name volatile)
    (when harmless base-indent d.fam.name d.expr d.calls volatile l then passes else stops)
    stops
    (λ n. when eqb n 1 then found else stops)

-- the line with the single use of the definition of line i
unfoldable pub use_of : Listing → ℕ → Definition → List Text → Option ℕ
use_of lines i d volatile =
    use_from (lines at i).indent d.fam.name d.expr d.calls volatile (suc i) (drop (suc i) lines)

-- whether the right side wants brackets at `pos`
unfoldable pub wants_brackets : Rules → List Token → List Token → ℕ → Bool
wants_brackets rules expr toks pos = is_bracketed rules expr and not (standalone (text_before toks pos) (text_after toks pos))

-- the plan for the use on line j
unfoldable pub plan_use : Rules → Listing → ℕ → Definition → Labels → List Text → ℕ → Option Plan
plan_use rules lines i d labels volatile j =
    when has_kw (lines at j) "while" or not (dead_after lines j d.fam.name (lines at i).indent labels i volatile) then none
    else let_some (position (of_family d.fam.name) (lines at j).tokens) else none then λ pos.
    when replaceable rules.parts d.fam (lines at j).tokens pos
    then some (record {
      fam = d.fam.name;
      expr = d.expr;
      last = j;
      brackets = wants_brackets rules d.expr (lines at j).tokens pos;
    })
    else none

unfoldable pub plan_single : Rules → Listing → ℕ → Definition → Labels → List Text → Option Plan
plan_single rules lines i d labels volatile =
    let_some (use_of lines i d volatile) else none then λ j. plan_use rules lines i d labels volatile j

-- ---- the decision

unfoldable pub plan_for : Rules → Listing → ℕ → Definition → Labels → List Text → Option Plan
plan_for rules lines i d labels volatile =
    let_some (when lone_number d.expr then plan_constant lines i d labels volatile else none)
    else plan_single rules lines i d labels volatile then λ p. some p

unfoldable pub decide : Rules → Listing → ℕ → Labels → List Text → Option Plan
decide rules lines i labels addressed =
    let_some (definition_of (lines at i).tokens) else none then λ d.
    when has addressed d.fam.name then none else plan_for rules lines i d labels (volatile rules)

-- ---- the change

module _ {ℓ κ} {A : Type ℓ} {B : Type κ} where
  -- each element with its index, the first of them k
  abbrev pub map_from : (ℕ → A → B) → ℕ → List A → List B
  map_from f k [] = []
  map_from f k (x ∷ xs) = f k x ∷ map_from f (suc k) xs

-- what takes the place of a token of the family
unfoldable pub right_side_of : Plan → List Token
right_side_of p = when p.brackets then token Punct (bytes "(") ∷ p.expr ++ (token Punct (bytes ")") ∷ []) else p.expr

module _ (volatile : List Text) (i : ℕ) (p : Plan) where
  -- whether the line k is changed
  unfoldable pub changes : ℕ → Line → Bool
  changes k l = ltb i k and leb k p.last and is_use (touch l p.fam volatile)

  -- the line k, by g where it is changed
  unfoldable pub where_used : (Line → Line) → ℕ → Line → Line
  where_used g k l = when changes k l then g l else l

  -- before its tokens are merged and folded
  abbrev pub unmerged_line : ℕ → Line → Line
  unmerged_line = where_used (λ l. with_tokens (substitute p.fam (right_side_of p) l.tokens) l)

-- the line k as the plan of line i leaves it
abbrev pub acted_line : Rules → ℕ → Plan → ℕ → Line → Line
acted_line rules i p = where_used (volatile rules) i p (rewrite_use rules.edition p.fam (right_side_of p))

module _ {ℓ κ} {A : Type ℓ} {B : Type κ} where
  -- what a loop over the first k elements has built, leaving out the element i
  unfoldable pub built : (ℕ → A → B) → ℕ → List A → ℕ → List B
  built f i xs k = remove i (map_from f 0 (take k xs))

unfoldable pub act : Rules → Listing → ℕ → Plan → Listing
act rules lines i p = remove i (map_from (acted_line rules i p) 0 lines)
