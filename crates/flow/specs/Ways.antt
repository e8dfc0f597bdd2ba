-- A listing with its table; jumps, and the lines that may come next, as the code answers them. Assumes nothing.
use Rattle.std.specs.Prelude.{ℕ, suc, pred, ◌≤◌, ◌<◌, ◌≡◌, Bool, true, false, List, [], ◌∷◌, ◌++◌, map, length, get_or}
use Rattle.std.specs.Prelude.{filter}
use Rattle.std.proofs.Math.Option.{Option, none, some}
use Rattle.std.proofs.Math.Seq.{slice}
use Rattle.reference.specs.Control.{◌and◌, when◌then◌else◌, let_some◌else◌then◌}
use Rattle.reference.specs.Lists.{get}
use Rattle.reference.specs.Text.{Text, bytes, ◌≟◌}
use Rattle.reference.specs.Listing.{Token, Line, Listing, ◌at◌}
use Rattle.reference.specs.Shapes.{is_kw, is_label}
use Rattle.reference.specs.Join.{text_or_empty}
use Rattle.reference.specs.Life.{goto_target}
use Rattle.reference.specs.Run.{labels_from}
use Rattle.cautions.specs.Forms.{BLOCKS, form, is_case, places, opener, opened_by, closer, next_in, returns_to}
use Rattle.lines.specs.Texts.{Listed, bare_listing}
use Rattle.lines.specs.declared.texts.Listing as held
use Rattle.flow.specs.LineForms.{Formed}
use Rattle.flow.specs.Blocks.{no_form}
use Rattle.flow.specs.declared.lineforms.LineForm.{LineForm}
use Rattle.flow.specs.declared.ways.FormedListing.{FormedListing}
use Rattle.flow.specs.declared.ways.Next.{Next}
use Rattle.flow.specs.declared.ways.Next.TheVariants.{Unknown, Nowhere, One, Two, Three, Cases}

abbrev pub forms_of : Listing → List Text
forms_of lines = map (λ l. form l.tokens) lines

-- the table has what is asked of each line of the listing
pub record FormsOf (h : held.Listing) (forms : List LineForm) : Type 0 where
  pub long : length forms ≡ length h.lines.now
  pub each : (k : ℕ) → k < length h.lines.now → Formed (bare_listing h at k).tokens (get_or forms k no_form)

-- the listing can be read, and the table is its own
pub record Tabled (g : FormedListing) : Type 0 where
  pub listed : Listed g.listing
  pub short : length g.listing.lines.now ≤ 256
  pub table : FormsOf g.listing g.forms.now

-- a label line with this name
unfoldable pub is_named : Text → Line → Bool
is_named name l = is_label l and (text_or_empty (get l.tokens 0) ≟ name)

-- `jump` of the definitions
unfoldable pub jump_in : Listing → List Token → Option ℕ
jump_in lines ts = let_some (goto_target ts (labels_from 0 lines)) else none then λ target. target

-- whether `returns_to` of the definitions has the caller
unfoldable pub gives_back : List Token → Bool
gives_back ts = let_some (get ts (pred (pred (length ts)))) else false then is_kw (bytes "return")

-- the answer of `next_of`
abbrev pub nexts : Listing → ℕ → Next → Option (List ℕ)
nexts lines k Unknown = none
nexts lines k Nowhere = some []
nexts lines k (One a) = some (a ∷ [])
nexts lines k (Two a b) = some (a ∷ b ∷ [])
nexts lines k (Three a b c) = some (a ∷ b ∷ c ∷ [])
nexts lines k (Cases c) = some (filter (λ m. is_case (lines at m).tokens) (slice (suc k) c (places lines)) ++ (c ∷ []))

-- ---- `next` of the definitions, form by form

module _ (lines : Listing) (k : ℕ) where
  abbrev pub block_next : Option (List ℕ)
  block_next = let_some (closer lines (forms_of lines) k) else none then next_in lines (forms_of lines) k (get_or (forms_of lines) k [])

  abbrev pub goto_next : Bool → Option (List ℕ)
  goto_next false = let_some (jump_in lines (lines at k).tokens) else none then λ p. some (p ∷ [])
  goto_next true = let_some (jump_in lines (lines at k).tokens) else none then λ p. some (suc k ∷ p ∷ [])

  abbrev pub return_next : Bool → Option (List ℕ)
  return_next false = some (returns_to lines (forms_of lines) (lines at k).tokens)
  return_next true = some (suc k ∷ returns_to lines (forms_of lines) (lines at k).tokens)

  abbrev pub while_next : Option (List ℕ)
  while_next =
      let_some (opener lines (forms_of lines) k) else none then λ d.
      when get_or (forms_of lines) d [] ≟ bytes "do{" then some (suc k ∷ d ∷ []) else none

  abbrev pub closing_next : Option (List ℕ)
  closing_next = when opened_by lines (forms_of lines) BLOCKS k then some (suc k ∷ []) else none
