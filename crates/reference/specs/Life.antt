-- `touch`, `dead_after` and `killed_first` of pseudo_opt.rs. Assumes nothing.
use Rattle.std.specs.Prelude.{ℕ, suc, ◌+◌, Bool, true, false, List, [], ◌∷◌, leb, ltb, eqb, drop, take}
use Rattle.std.proofs.Math.Option.{Option, none, some}
use Rattle.std.proofs.Math.Seq.{slice}
use Rattle.reference.specs.Control.{not, ◌and◌, when◌then◌else◌, let_some◌else◌then◌}
use Rattle.reference.specs.Lists.{any, count, find, position, last_position, is_some}
use Rattle.reference.specs.Text.{Text, bytes, has, ◌≟◌}
use Rattle.reference.specs.Listing.{Token, is, Symbol, Line, Listing, ◌at◌}
use Rattle.reference.specs.Names.{family, of_family}
use Rattle.reference.specs.Shapes.{is_kw, has_kw, call_in, assignment_of}

pub data Touch : Type 0 where
  None Kill : Touch
  Use : ℕ → Touch

-- `touch`'s first test: an assignment to the family, at width 32 or more, whose right side lacks it
unfoldable pub kills : List Token → Text → Bool
kills ts fam =
    let_some (assignment_of ts) else false then λ a.
    let_some (family a.lhs.text) else false then λ f.
    (f.name ≟ fam) and leb 32 f.width and not (any (of_family fam) a.expr)

-- how the tokens of a line touch the family
unfoldable pub touch_of : List Token → Text → List Text → Touch
touch_of ts fam volatile =
    let uses : ℕ = count (of_family fam) ts in
    when kills ts fam then Kill
    else when ltb 0 uses then Use uses
    else when is_some (call_in ts) and has volatile fam then Kill
    else None

abbrev pub touch : Line → Text → List Text → Touch
touch l fam volatile = touch_of l.tokens fam volatile

module _ {ℓ} {A : Type ℓ} where
  -- `match t { Touch::None => a, Touch::Kill => b, Touch::Use(n) => c(n) }`
  unfoldable pub match_touch : Touch → A → A → (ℕ → A) → A
  match_touch None a b c = a
  match_touch Kill a b c = b
  match_touch (Use n) a b c = c n

abbrev pub is_use : Touch → Bool
is_use t = match_touch t false false (λ n. true)

abbrev pub is_kill : Touch → Bool
is_kill t = match_touch t false true (λ n. false)

-- the labels of a listing and their places: `HashMap<String, usize>`. Of equal ones the last counts.
pub record Label : Type 0 where
  pub name : Text
  pub place : ℕ

abbrev pub Labels : Type 0
Labels = List Label

unfoldable pub lookup : Labels → Text → Option ℕ
lookup [] name = none
lookup (l ∷ ls) name =
    let here : Option ℕ = when l.name ≟ name then some l.place else none in
    let_some (lookup ls name) else here then λ p. some p

unfoldable pub killed_first : Listing → Text → ℕ → List Text → Bool
killed_first [] fam indent volatile = false
killed_first (l ∷ ls) fam indent volatile =
    let next = killed_first ls fam indent volatile in
    match_touch (touch l fam volatile)
    next
    (when leb l.indent indent then true else next)
    (λ n. false)

-- where a `goto` in the line jumps to: none if there is no `goto`, some none if it has no known label
unfoldable pub goto_target : List Token → Labels → Option (Option ℕ)
goto_target ts labels =
    let_some (position (is_kw (bytes "goto")) ts) else none then λ g.
    some (let_some (find (is Symbol) (drop (suc g) ts)) else none then λ t. lookup labels t.text)

-- a line with `do` at this indent
unfoldable pub is_do : ℕ → Line → Bool
is_do indent d = eqb d.indent indent and has_kw d "do"

module _ (lines : Listing) (fam : Text) (start : ℕ) (volatile : List Text) where
  -- a jump back to behind line `to`, at this indent, re-runs the lines up to `start`: whether the value is overwritten there before any
  -- read
  unfoldable pub rerun_kills : ℕ → ℕ → Bool
  rerun_kills to indent = killed_first (slice (suc to) (suc start) lines) fam (indent + 1) volatile

  -- a `while` at line w: the back edge enters the loop's head again
  unfoldable pub while_passes : ℕ → Line → Bool
  while_passes w l =
      when is_use (touch l fam volatile) then false
      else let_some (last_position (is_do l.indent) (take w lines)) else false then λ d.
      not (ltb d start and not (rerun_kills d l.indent))

  unfoldable pub goto_passes : Labels → Line → Bool
  goto_passes labels l =
      let_some (goto_target l.tokens labels) else true then λ target.
      let_some target else false then λ to.
      not (leb to start and not (rerun_kills to (lines at to).indent))

-- what a line that no `while` and no `goto` decides says of the value, where `next` is what the lines after it say
unfoldable pub scan : Text → ℕ → List Text → Line → Bool → Bool
scan fam base-indent volatile l next =
    let after : Bool = when has_kw l "return" and leb l.indent base-indent then true else next in
    match_touch (touch l fam volatile)
    after
    (when leb l.indent base-indent then true else after)
    (λ n. false)

module _ (lines : Listing) (fam : Text) (base-indent : ℕ) (labels : Labels) (start : ℕ) (volatile : List Text) where
  -- the scan from the line w on, `rest` being the lines from there
  unfoldable pub dead_from : ℕ → Listing → Bool
  dead_from w [] = true
  dead_from w (l ∷ rest) =
      let next = dead_from (suc w) rest in
      when has_kw l "while" then (when while_passes lines fam start volatile w l then next else false)
      else when goto_passes lines fam start volatile labels l then scan fam base-indent volatile l next
      else false

-- whether `fam`'s value at the end of the line `from` is never read again
unfoldable pub dead_after : Listing → ℕ → Text → ℕ → Labels → ℕ → List Text → Bool
dead_after lines from fam base-indent labels start volatile =
    dead_from lines fam base-indent labels start volatile (suc from) (drop (suc from) lines)
