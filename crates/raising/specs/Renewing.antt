-- What a join leaves on the lines that it rewrote, the line that was joined being gone. Assumes nothing.
use Rattle.std.specs.Prelude.{ℕ, ◌+◌, ◌≤◌, ◌<◌, ◌≡◌, true, false, List, get_or, length}
use Rattle.std.specs.Prelude as std
use Rattle.reference.specs.Listing.{◌at◌}
use Rattle.cautions.specs.Kinds.{◌∪◌, ◌given◌}
use Rattle.lines.specs.Texts.{bare_listing}
use Rattle.lines.specs.declared.texts.Listing as held
use Rattle.flow.specs.Blocks.{no_form}
use Rattle.flow.specs.LineForms.{Formed}
use Rattle.flow.specs.declared.lineforms.LineForm.{LineForm}
use Rattle.usefacts.specs.declared.parts.Before.{Before}
use Rattle.raising.specs.Spread.{is_noted}

module _ (h : held.Listing) where
  -- line i is gone, and no line behind line `last` tells anything, both by their old numbers
  pub record NotedTo (i last : ℕ) (parts : List (std.Option Before)) : Type 0 where
    pub above : i ≤ last
    pub inside : last ≤ length h.lines.now
    pub room : length h.lines.now < length parts
    pub behind : (k : ℕ) → last < k → k ≤ length h.lines.now → get_or parts k std.None ≡ std.None

  -- line q, which was line q + 1
  pub record Renewed (q all : ℕ) (parts : List (std.Option Before)) (sets : List ℕ) (forms : List LineForm) (sets' : List ℕ)
      (forms' : List LineForm) : Type 0 where
    pub set_is : get_or sets' q 0 ≡ get_or sets q 0 ∪ all given is_noted parts (q + 1)
    pub form_is : is_noted parts (q + 1) ≡ true → Formed (bare_listing h at q).tokens (get_or forms' q no_form)
    pub form_kept : is_noted parts (q + 1) ≡ false → get_or forms' q no_form ≡ get_or forms q no_form
    pub sets_kept : (k : ℕ) → (k ≡ q → ⊥) → get_or sets' k 0 ≡ get_or sets k 0
    pub forms_kept : (k : ℕ) → (k ≡ q → ⊥) → get_or forms' k no_form ≡ get_or forms k no_form

  -- the lines from line i to line n, which is not among them
  pub record RenewedTo (i n all : ℕ) (parts : List (std.Option Before)) (sets : List ℕ) (forms : List LineForm) (sets' : List ℕ)
      (forms' : List LineForm) : Type 0 where
    pub set_is : (k : ℕ) → i ≤ k → k < n → get_or sets' k 0 ≡ get_or sets k 0 ∪ all given is_noted parts (k + 1)
    pub form_is : (k : ℕ) → i ≤ k → k < n → is_noted parts (k + 1) ≡ true → Formed (bare_listing h at k).tokens (get_or forms' k no_form)
    pub form_kept : (k : ℕ) → is_noted parts (k + 1) ≡ false → get_or forms' k no_form ≡ get_or forms k no_form
    pub before : (k : ℕ) → k < i → (get_or sets' k 0 ≡ get_or sets k 0) × (get_or forms' k no_form ≡ get_or forms k no_form)
    pub behind : (k : ℕ) → n ≤ k → (get_or sets' k 0 ≡ get_or sets k 0) × (get_or forms' k no_form ≡ get_or forms k no_form)
