-- The search for a single use, line by line, as the code's loop goes. Assumes nothing.
use Prim.Native.Nat.{ℕ, zero, suc, ◌+◌, ◌≤◌, ◌<◌}
use native.Mathlib.Nat.{not-suc-le-zero, le_of_suc-le-suc}
use native.Mathlib.Numerals.{add-one}
use mathlib.Core.Path.{◌≡◌, refl, sym, ap, ◌∙◌}
use mathlib.Core.Bool.{Bool, true, false}
use mathlib.Core.List.{List, [], ◌∷◌}
use mathlib.Core.Option.{Option, none, some}
use lib.Dec.{eqb}
use lib.ListN.{length, get_or, drop, drop_of_length-le}
use lib.Seq.{drop-cons}
use Rattle.reference.specs.Control.{◌or◌, when◌then◌else◌, let_some◌else◌then◌}
use Rattle.reference.specs.Lists.{any, get}
use Rattle.reference.specs.Text.{Text, has, ◌≟◌}
use Rattle.reference.specs.Listing.{Token, Line, Listing, blank, ◌at◌}
use Rattle.reference.specs.Names.{Fam, fam_of, of_family}
use Rattle.reference.specs.Shapes.{is_label}
use Rattle.reference.specs.Life.{Touch, None, Kill, Use, touch, match_touch}
use Rattle.reference.specs.Join.{expr_fams, harmless, use_from, text_or_empty}
use Rattle.laws.proofs.Scans.{or_false}
use Rattle.joining.specs.Plan.{Definition, Look, found, passes, stops, look}

-- ---- tokens by their places

module _ {ℓ} {A : Type ℓ} where
  pub get_at : (xs : List A) (k : ℕ) (d : A) → k < length xs → get xs k ≡ some (get_or xs k d)
  get_at [] k d h = absurd (not-suc-le-zero h)
  get_at (x ∷ xs) zero d h = refl
  get_at (x ∷ xs) (suc k) d h = get_at xs k d (le_of_suc-le-suc h)

  pub get_past : (xs : List A) (k : ℕ) → length xs ≤ k → get xs k ≡ none
  get_past [] k h = refl
  get_past (x ∷ xs) zero h = absurd (not-suc-le-zero h)
  get_past (x ∷ xs) (suc k) h = get_past xs k (le_of_suc-le-suc h)

pub text_at : (ts : List Token) (k : ℕ) (d : Token) → k < length ts → text_or_empty (get ts k) ≡ (get_or ts k d).text
unfolding let_some◌else◌then◌
text_at ts k d h = rw (get_at ts k d h)

pub text_past : (ts : List Token) (k : ℕ) → length ts ≤ k → text_or_empty (get ts k) ≡ []
unfolding let_some◌else◌then◌
text_past ts k h = rw (get_past ts k h)

-- ---- the right side

-- the families of the right side have the name where a token of it is of that family
pub mentions : (expr : List Token) (name : Text) → has (expr_fams expr) name ≡ any (of_family name) expr
unfolding expr_fams of_family let_some◌else◌then◌
mentions [] name = refl
mentions (t ∷ ts) name = go (fam_of t) (mentions ts name)
  where
    go : (o : Option Fam) → has (expr_fams ts) name ≡ any (of_family name) ts
        → has (let_some o else expr_fams ts then λ f. f.name ∷ expr_fams ts) name ≡ ((let_some o else false then λ f. f.name ≟ name) or any (of_family name) ts)
    go none ih = ih ∙ sym (or_false _ refl)
    go (some f) ih = ap (λ (b : Bool). (f.name ≟ name) or b) ih

-- ---- the lines

module _ {ℓ} {A : Type ℓ} where
  unfoldable pub match_look : Look → A → A → A → A
  match_look found a b c = a
  match_look passes a b c = b
  match_look stops a b c = c

module _ (base-indent : ℕ) (d : Definition) (volatile : List Text) where
  looked : (j : ℕ) (l : Line) (ls : Listing) → use_from base-indent d.fam.name d.expr d.calls volatile j (l ∷ ls)
      ≡ match_look (look base-indent d volatile l) (some j) (use_from base-indent d.fam.name d.expr d.calls volatile (suc j) ls) none
  unfolding use_from look when◌then◌else◌ match_touch match_look
  looked j l ls = go (is_label l) (touch l d.fam.name volatile) (harmless base-indent d.fam.name d.expr d.calls volatile l)
    where
      next : Option ℕ
      next = use_from base-indent d.fam.name d.expr d.calls volatile (suc j) ls

      once : (b : Bool) → (when b then some j else none) ≡ match_look (when b then found else stops) (some j) next none
      once true = refl
      once false = refl

      go : (label : Bool) (t : Touch) (safe : Bool)
          → (when label then none else match_touch t (when safe then next else none) none (λ n. when eqb n 1 then some j else none))
          ≡ match_look (when label then stops else match_touch t (when safe then passes else stops) stops (λ n. when eqb n 1 then found else stops)) (some j) next none
      go true t safe = refl
      go false None true = refl
      go false None false = refl
      go false Kill safe = refl
      go false (Use n) safe = once (eqb n 1)

  module _ (lines : Listing) (j : ℕ) where
    looked_at : j < length lines → use_from base-indent d.fam.name d.expr d.calls volatile j (drop j lines)
        ≡ match_look (look base-indent d volatile (lines at j)) (some j)
        (use_from base-indent d.fam.name d.expr d.calls volatile (j + 1) (drop (j + 1) lines)) none
    looked_at h = rw (add-one j, drop-cons lines j blank h) (looked j (lines at j) (drop (suc j) lines))

    pub use_here : j < length lines → look base-indent d volatile (lines at j) ≡ found
        → use_from base-indent d.fam.name d.expr d.calls volatile j (drop j lines) ≡ some j
    unfolding match_look
    use_here h e = looked_at h ∙ rw e

    pub use_later : j < length lines → look base-indent d volatile (lines at j) ≡ passes
        → use_from base-indent d.fam.name d.expr d.calls volatile j (drop j lines)
        ≡ use_from base-indent d.fam.name d.expr d.calls volatile (j + 1) (drop (j + 1) lines)
    unfolding match_look
    use_later h e = looked_at h ∙ rw e

    pub use_stops : j < length lines → look base-indent d volatile (lines at j) ≡ stops
        → use_from base-indent d.fam.name d.expr d.calls volatile j (drop j lines) ≡ none
    unfolding match_look
    use_stops h e = looked_at h ∙ rw e

    pub use_end : length lines ≤ j → use_from base-indent d.fam.name d.expr d.calls volatile j (drop j lines) ≡ none
    unfolding use_from
    use_end h = rw (drop_of_length-le lines h)
