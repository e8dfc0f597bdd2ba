-- The turns of loops over words and over the bytes of a path. Assumes nothing.
use Rattle.std.proofs.Common.{◌≡◌, ℕ, ◌+◌, ◌-◌, ◌≤◌, ◌<◌, ◌&&◌, Bool, true, false, List, [], ◌∷◌, length, take, drop, get_or, Option, Some, None}
use Rattle.std.proofs.Common.{refl, sym, ap, ◌∙◌, arith, drop-cons, add-one, if◌then◌else◌, eq-eqb, ne_eqb}
use lib.ListN.{drop_of_length-le, length-take, length-drop}
use lib.Seq.{take_all}
use Rattle.laws.proofs.Parts.{to_end}
use Rattle.laws.proofs.Scans.{if-true, if-false}
use Rattle.reference.specs.Control.{when◌then◌else◌}
use Rattle.reference.specs.Text.{Text, ◌≟◌}
use Rattle.words.specs.Splitting.{split, EndsAt}
use Rattle.words.proofs.FirstWord.{first_word}
use Rattle.arguments.specs.Words.{FirstWord, is_at}
use Rattle.arguments.specs.Names.{first_of, base_from, base_name, same_later, clash_from, clash_of}
use Rattle.arguments.specs.Requests.{none_yet, step_of, steps_from}
use Rattle.arguments.specs.declared.request.Request.{Request}

-- ---- the first word

module _ (words : List ℕ) {e : ℕ} (some_byte : 0 < length words) (ends : EndsAt words 0 e) where
  first : split words ≡ take e words ∷ split (drop (e + 1) words)
  first = let z : e - 0 ≡ e = omega arith in rw z at (first_word words some_byte ends)

  pub word_before : e < length words → FirstWord words (take e words) (take (length words - (e + 1)) (drop (e + 1) words))
  word_before h =
      let rest : take (length words - (e + 1)) (drop (e + 1) words) ≡ drop (e + 1) words = to_end (e + 1) words in
      let long : length (drop (e + 1) words) ≡ length words - (e + 1) = length-drop (e + 1) words in
      let short : length (take e words) ≤ e = omega (arith, length-take e words) in
      rw rest (record { splits = first; within = omega arith; falls = omega arith; ended = λ _. omega arith })

  pub word_last : length words ≤ e → FirstWord words words []
  unfolding split
  word_last h =
      let whole : take e words ≡ words = take_all e words h in
      let nothing : drop (e + 1) words ≡ [] = drop_of_length-le words {i = e + 1} (omega arith) in
      record {
        splits = first ∙ rw (whole, nothing) refl;
        within = omega arith;
        falls = some_byte;
        ended = λ h. absurd (omega arith);
      }

-- ---- base names

module _ (path base : Text) (i : ℕ) (h : i < length path) where
  pub base_here : get_or path i 0 ≡ 47 → base_from base (drop i path) ≡ base_from (drop (i + 1) path) (drop (i + 1) path)
  unfolding base_from
  base_here e = ap (base_from base) (drop-cons path i 0 h) ∙ if-true _ _ (eq-eqb _ 47 e) ∙ rw add-one refl

  pub base_on : (get_or path i 0 ≡ 47 → ⊥) → base_from base (drop i path) ≡ base_from base (drop (i + 1) path)
  unfolding base_from
  base_on n = ap (base_from base) (drop-cons path i 0 h) ∙ if-false _ _ (ne_eqb _ 47 n) ∙ rw add-one refl

pub base_end : (path base : Text) (i : ℕ) → length path ≤ i → base_from base (drop i path) ≡ base
unfolding base_from
base_end path base i h = rw (drop_of_length-le path h) refl

pub base_begin : (path : Text) → base_name path ≡ base_from path (drop 0 path)
unfolding base_name
base_begin path = refl

-- ---- operands with the same

module _ (left word after : List ℕ) (splits : split left ≡ word ∷ split after) (s : Request) (k : ℕ) (s' : Request) (steps : s' ≡ step_of s k word) where
  pub steps_turn : steps_from s k (split left) ≡ steps_from s' (k + 1) (split after)
  unfolding steps_from
  steps_turn = ap (steps_from s k) splits ∙ ap (λ (r : Request). steps_from r (k + 1) (split after)) (sym steps)

  pub later_turn : (path : Text) → same_later path s k (split left)
      ≡ (if is_at s'.operands.last k && (base_name path ≟ base_name word) then Some k else same_later path s' (k + 1) (split after))
  unfolding same_later
  later_turn path =
      ap (same_later path s k) splits
      ∙ ap (λ (r : Request). if is_at r.operands.last k && (base_name path ≟ base_name word) then Some k else same_later path r (k + 1) (split after)) (sym steps)

  pub later_here : (path : Text) → (is_at s'.operands.last k && (base_name path ≟ base_name word)) ≡ true → same_later path s k (split left) ≡ Some k
  later_here path t = later_turn path ∙ ap (λ (b : Bool). if b then Some k else same_later path s' (k + 1) (split after)) t

  pub later_on : (path : Text) → (is_at s'.operands.last k && (base_name path ≟ base_name word)) ≡ false
      → same_later path s k (split left) ≡ same_later path s' (k + 1) (split after)
  later_on path t = later_turn path ∙ ap (λ (b : Bool). if b then Some k else same_later path s' (k + 1) (split after)) t

  clash_turn : clash_from s k (split left)
      ≡ first_of (if is_at s'.operands.last k then same_later word s' (k + 1) (split after) else None) (clash_from s' (k + 1) (split after))
  unfolding clash_from
  clash_turn =
      ap (clash_from s k) splits
      ∙ ap (λ (r : Request). first_of (if is_at r.operands.last k then same_later word r (k + 1) (split after) else None) (clash_from r (k + 1) (split after))) (sym steps)

  -- `here` is what the code found
  pub clash_by : (here : Option ℕ) → here ≡ (if is_at s'.operands.last k then same_later word s' (k + 1) (split after) else None)
      → clash_from s k (split left) ≡ first_of here (clash_from s' (k + 1) (split after))
  clash_by here f = clash_turn ∙ ap (λ (o : Option ℕ). first_of o (clash_from s' (k + 1) (split after))) (sym f)

pub later_end : (path : Text) (left : List ℕ) (s : Request) (k : ℕ) → split left ≡ [] → same_later path s k (split left) ≡ None
unfolding same_later
later_end path left s k e = ap (same_later path s k) e

pub clash_end : (left : List ℕ) (s : Request) (k : ℕ) → split left ≡ [] → clash_from s k (split left) ≡ None
unfolding clash_from
clash_end left s k e = ap (clash_from s k) e

pub clash_begin : (words : List ℕ) {s : Request} → s ≡ none_yet → clash_of (split words) ≡ clash_from s 0 (split words)
unfolding clash_of
clash_begin words e = ap (λ (r : Request). clash_from r 0 (split words)) (sym e)

pub steps_end : (left : List ℕ) (s : Request) (k : ℕ) → split left ≡ [] → steps_from s k (split left) ≡ s
unfolding steps_from
steps_end left s k e = ap (steps_from s k) e
