-- The forms of lines that the listing generator writes, the lines that may follow each, and how far a register's value goes along them.
-- Assumes nothing.
use Rattle.std.specs.Prelude.{ℕ, zero, suc, pred, Bool, true, false, List, [], ◌∷◌, ◌++◌, map, reverse, eqb, length, get_or, drop, take}
use Rattle.std.specs.Prelude.{set, replicate, filter}
use mathlib.Core.List.{flat_map}
use Rattle.std.proofs.Math.Option.{Option, none, some}
use Rattle.std.proofs.Math.Seq.{slice}
use Rattle.reference.specs.Control.{not, ◌and◌, ◌or◌, when◌then◌else◌, let_some◌else◌then◌}
use Rattle.reference.specs.Lists.{any, find, is_empty, is_some, get}
use Rattle.reference.specs.Text.{Text, bytes, ◌≟◌, has, contains}
use Rattle.reference.specs.Listing.{Token, is, Keyword, Punct, Listing, ◌at◌}
use Rattle.reference.specs.Names.{of_family}
use Rattle.reference.specs.Shapes.{is_kw, call_in}
use Rattle.reference.specs.Life.{kills, goto_target}
use Rattle.reference.specs.Run.{labels_from}
use Rattle.cautions.specs.Texts.{is_opaque}

-- ---- forms

abbrev pub CASES : List Text
CASES = bytes "case" ∷ bytes "default" ∷ []

abbrev pub CONTROL : List Text
CONTROL =
    bytes "if" ∷ bytes "else" ∷ bytes "do" ∷ bytes "while" ∷ bytes "for" ∷ bytes "goto" ∷ bytes "return" ∷ bytes "break"
    ∷ bytes "continue" ∷ bytes "switch" ∷ []

-- the words of control
abbrev pub WORDS : List Text
WORDS = CASES ++ CONTROL

-- the Keywords of a line that are among these
unfoldable pub words_in : List Text → List Token → Text
words_in words = flat_map (λ t. when is Keyword t and has words t.text then t.text else [])

-- the bytes of its Puncts that are among these
unfoldable pub signs_in : Text → List Token → Text
signs_in signs = flat_map (λ t. when is Punct t then filter (λ c. contains signs c) t.text else [])

-- A line's form: its control words, then its bytes `{`, `}`, `;` and `?`; `if (rax) goto L;` has the form `ifgoto;`. Labels and cases in
-- front do not count; where a line has nothing else, its form is `:`.
unfoldable pub form : List Token → Text
form ts =
    let statement : Text = words_in CONTROL ts ++ signs_in (bytes "{};?") ts in
    when is_empty statement then take 1 (signs_in (bytes ":") ts) else statement

-- its first control word is `case` or `default`
unfoldable pub is_case : List Token → Bool
is_case ts = let_some (find (λ t. is Keyword t and has WORDS t.text) ts) else false then λ t. has CASES t.text

-- what it does hangs on a condition in front
unfoldable pub is_guarded : List Token → Bool
is_guarded ts = has (bytes "if;" ∷ bytes "ifreturn;" ∷ bytes "elseif}{" ∷ []) (form ts)

-- control may come to it from elsewhere than from the line above: a label, a case, the end of a block
unfoldable pub is_entered : List Token → Bool
is_entered ts = not (is_empty (signs_in (bytes ":}") ts))

-- ---- blocks

-- the depth behind a form that begins d blocks deep: one byte leads a block deeper, another out of one; none where it leads out of them all
unfoldable pub depth_behind : ℕ → ℕ → ℕ → Text → Option ℕ
depth_behind inward outward d [] = some d
depth_behind inward outward d (c ∷ cs) =
    let deeper = depth_behind inward outward (suc d) cs in
    let higher = depth_behind inward outward (pred d) cs in
    let same = depth_behind inward outward d cs in
    when eqb c inward then deeper else when eqb c outward then (when eqb d 0 then none else higher) else same

-- of forms, numbered from m, the first that closes what was open d blocks above; `{` is 123 and `}` 125
unfoldable pub closer_from : ℕ → ℕ → List Text → Option ℕ
closer_from d m [] = none
closer_from d m (f ∷ fs) = let_some (depth_behind 123 125 d f) else some m then λ e. closer_from e (suc m) fs

-- of forms from the last to the first, the first that opens what is closed d blocks below
unfoldable pub opener_from : ℕ → List Text → Option ℕ
opener_from d [] = none
opener_from d (f ∷ fs) = let_some (depth_behind 125 123 d (reverse f)) else some (length fs) then λ e. opener_from e fs

-- ---- next lines

-- the numbers of a listing's lines
unfoldable pub places_from : ℕ → Listing → List ℕ
places_from i [] = []
places_from i (l ∷ ls) = i ∷ places_from (suc i) ls

abbrev pub places : Listing → List ℕ
places = places_from 0

-- a statement, a label, a brace, `__asm { .. }`, `if (..) S;`, `do {`: the next line follows
abbrev pub FALL : List Text
FALL = map bytes (";" ∷ ":" ∷ "{" ∷ "{}" ∷ "if;" ∷ "do{" ∷ [])

-- what a `}` alone may close
abbrev pub BLOCKS : List Text
BLOCKS = map bytes ("{" ∷ "if{" ∷ "switch{" ∷ "else}{" ∷ "elseif}{" ∷ [])

-- The line behind the last stands for the caller.
module _ (lines : Listing) (forms : List Text) where
  -- the line that opens the block which line k closes
  unfoldable pub opener : ℕ → Option ℕ
  opener k = opener_from 0 (reverse (take k forms))

  -- that line has one of these forms
  unfoldable pub opened_by : List Text → ℕ → Bool
  opened_by fs k = let_some (opener k) else false then λ d. has fs (get_or forms d [])

  -- the line that closes what line k opens
  unfoldable pub closer : ℕ → Option ℕ
  closer k = closer_from 0 (suc k) (drop (suc k) forms)

  -- the label that the line's goto names
  unfoldable pub jump : List Token → Option ℕ
  jump ts = let_some (goto_target ts (labels_from 0 lines)) else none then λ target. target

  -- a bare `return;` hands the registers to the caller; `return e;` hands over e
  unfoldable pub returns_to : List Token → List ℕ
  returns_to ts =
      let_some (get ts (pred (pred (length ts)))) else [] then λ t.
      when is_kw (bytes "return") t then length lines ∷ [] else []

  -- where a condition that is false leads: past an `else`, into its block
  unfoldable pub behind : ℕ → ℕ
  behind c = when get_or forms c [] ≟ bytes "else}{" then suc c else c

  -- from a line that opens a block, which line c closes
  unfoldable pub next_in : ℕ → Text → ℕ → Option (List ℕ)
  next_in k f c =
      when f ≟ bytes "if{" then some (suc k ∷ behind c ∷ [])
      -- reached from the branch above too, and then all is passed over
      else when f ≟ bytes "elseif}{" then some (suc k ∷ behind c ∷ c ∷ [])
      -- reached from the branch above alone
      else when f ≟ bytes "else}{" then some (c ∷ [])
      else when f ≟ bytes "switch{" then some (filter (λ m. is_case (lines at m).tokens) (slice (suc k) c (places lines)) ++ (c ∷ []))
      else none

  -- the lines that may come next after line k, or none if its form is not known
  unfoldable pub next : ℕ → Option (List ℕ)
  next k =
      let ts : List Token = (lines at k).tokens in
      let f : Text = get_or forms k [] in
      when has FALL f or (eqb k 0 and is_empty f) then some (suc k ∷ [])
      else when f ≟ bytes "goto;" then (let_some (jump ts) else none then λ p. some (p ∷ []))
      else when f ≟ bytes "ifgoto;" then (let_some (jump ts) else none then λ p. some (suc k ∷ p ∷ []))
      else when f ≟ bytes "return;" then some (returns_to ts)
      else when f ≟ bytes "ifreturn;" then some (suc k ∷ returns_to ts)
      else when f ≟ bytes "while};"
      then (let_some (opener k) else none then λ d. when get_or forms d [] ≟ bytes "do{" then some (suc k ∷ d ∷ []) else none)
      else when f ≟ bytes "}" then (when opened_by BLOCKS k then some (suc k ∷ []) else none)
      else (let_some (closer k) else none then next_in k f)

-- the lines that may come next after each line
abbrev pub Ways : Type 0
Ways = List (Option (List ℕ))

unfoldable pub ways : Listing → Ways
ways lines = let forms : List Text = map (λ l. form l.tokens) lines in map (next lines forms) (places lines)

-- line i hangs on the line above it, labels left out: an `if (..)` alone, whose form is not known
unfoldable pub hangs : Listing → Ways → ℕ → Bool
hangs lines ways i =
    let_some (find (λ k. not (form (lines at k).tokens ≟ bytes ":")) (reverse (take i (places lines)))) else false then λ k.
    not (is_some (get_or ways k none))

-- a line is not looked into
unfoldable pub is_dark : Listing → Ways → ℕ → Bool
is_dark lines ways k = not (is_some (get_or ways k none)) or is_opaque (lines at k).tokens

-- ---- how far a value goes

-- the line overwrites the family in any case
unfoldable pub ends : Text → List Text → List Token → Bool
ends fam volatile ts = not (is_guarded ts) and (kills ts fam or (has volatile fam and is_some (call_in ts)))

-- the line reads the family
unfoldable pub reads : Text → List Token → Bool
reads fam ts = any (of_family fam) ts and not (kills ts fam)

-- the lines `ks` are reached too
unfoldable pub reach : List ℕ → List Bool → List Bool
reach [] seen = seen
reach (k ∷ ks) seen = reach ks (set seen k true)

-- from each line that is reached on to the next ones, from line k to the last; `onward` has the next ones of those lines
unfoldable pub sweep : ℕ → List (List ℕ) → List Bool → List Bool
sweep k [] seen = seen
sweep k (ks ∷ onward) seen = sweep (suc k) onward (when get_or seen k false then reach ks seen else seen)

unfoldable pub sweeps : ℕ → List (List ℕ) → List Bool → List Bool
sweeps zero onward seen = seen
sweeps (suc n) onward seen = sweeps n onward (sweep 0 onward seen)

-- the numbers of those that are reached, from line k on
unfoldable pub reached_from : ℕ → List Bool → List ℕ
reached_from k [] = []
reached_from k (b ∷ bs) = let r = reached_from (suc k) bs in when b then k ∷ r else r

module _ (lines : Listing) (ways : Ways) (i : ℕ) (fam : Text) (volatile : List Text) where
  abbrev after : ℕ → List ℕ
  after k = let_some (get_or ways k none) else [] then λ ks. ks

  -- where the value goes from line k: not past line i, nor past a line that is not looked into or overwrites it
  unfoldable pub onward : ℕ → List ℕ
  onward k = when eqb k i or is_dark lines ways k or ends fam volatile (lines at k).tokens then [] else after k

  -- The lines, and perhaps the caller, that the value which line i gave the family may reach. Of n lines, none is more than n steps away.
  unfoldable pub reached : List ℕ
  reached =
      reached_from 0
      (sweeps (length lines) (map onward (places lines)) (reach (after i) (replicate (suc (length lines)) false)))
