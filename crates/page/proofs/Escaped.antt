-- No byte of a listing can leave its cell: an escaped text holds no markup, its every & begins an entity, and a browser reads it back as the
-- text. Assumes nothing.
use Prim.Native.Nat.{ℕ, zero, suc, ◌*◌, ◌≤◌}
use native.Mathlib.Omega.{arith}
use mathlib.Core.Path.{◌≡◌, refl, sym, ap, ◌∙◌}
use mathlib.Core.Bool.{true, false}
use mathlib.Core.List.{[], ◌∷◌, ◌++◌, append_assoc, append-nil, flat_map}
use lib.Dec.{eqb}
use lib.ListN.{length, length-append}
use borrow.Author.Tests.{eqb-true}
use Rattle.reference.specs.Control.{not, ◌and◌, ◌or◌, when◌then◌else◌}
use Rattle.reference.specs.Lists.{any}
use Rattle.reference.specs.Text.{Text, bytes}
use Rattle.reference.proofs.Cases.{by-if}
use Rattle.page.specs.Escaping.{entity, escaped, begins_entity, ampersands_begin, is_markup, Closed}
use Rattle.page.specs.Escaping.{after_ampersand, unescaped_by, unescaped}

-- ---- the six cases of a byte

-- a byte that is none of the five
pub record Plain (b : ℕ) : Type 0 where
  pub ampersand : eqb b 38 ≡ false
  pub less : eqb b 60 ≡ false
  pub greater : eqb b 62 ≡ false
  pub quote : eqb b 34 ≡ false
  pub apostrophe : eqb b 39 ≡ false

pub data Stands : ℕ → Text → Type 0 where
  amp : Stands 38 (bytes "&amp;")
  lt : Stands 60 (bytes "&lt;")
  gt : Stands 62 (bytes "&gt;")
  quot : Stands 34 (bytes "&quot;")
  apos : Stands 39 (bytes "&#39;")
  same : {b : ℕ} → Plain b → Stands b (b ∷ [])

pub stands : (b : ℕ) → Stands b (entity b)
unfolding entity
stands b =
    by-if (Stands b) (λ e. rw (eqb-true b 38 e) amp)
    (λ a. by-if (Stands b) (λ e. rw (eqb-true b 60 e) lt)
    (λ l. by-if (Stands b) (λ e. rw (eqb-true b 62 e) gt)
    (λ g. by-if (Stands b) (λ e. rw (eqb-true b 34 e) quot)
    (λ q. by-if (Stands b) (λ e. rw (eqb-true b 39 e) apos)
    (λ p. same (record { ampersand = a; less = l; greater = g; quote = q; apostrophe = p }))))))

-- ---- lengths

most_six : {b : ℕ} {s : Text} → Stands b s → length s ≤ 6
most_six amp = omega arith
most_six lt = omega arith
most_six gt = omega arith
most_six quot = omega arith
most_six apos = omega arith
most_six (same p) = omega arith

pub entity-length : (b : ℕ) → length (entity b) ≤ 6
entity-length b = most_six (stands b)

pub escaped-length : (t : Text) → length (escaped t) ≤ 6 * length t
unfolding escaped flat_map
escaped-length [] = omega arith
escaped-length (b ∷ t) = rw length-append (omega (arith, entity-length b, escaped-length t))

pub escaped_append : (s t : Text) → escaped (s ++ t) ≡ escaped s ++ escaped t
unfolding escaped flat_map
escaped_append [] t = refl
escaped_append (b ∷ s) t = ap (λ (r : Text). entity b ++ r) (escaped_append s t) ∙ sym (append_assoc (entity b) (escaped s) (escaped t))

pub escaped_one : (b : ℕ) → escaped (b ∷ []) ≡ entity b
unfolding escaped flat_map
escaped_one b = append-nil (entity b)

-- ---- the law of the cells

-- in front of a text that cannot be left, an entity or a plain byte makes another
clean_front : {b : ℕ} {s : Text} (r : Text) → Stands b s → any is_markup r ≡ false → any is_markup (s ++ r) ≡ false
unfolding ◌or◌
clean_front r amp e = e
clean_front r lt e = e
clean_front r gt e = e
clean_front r quot e = e
clean_front r apos e = e
clean_front r (same p) e = rw (p.less, p.greater, p.quote, p.apostrophe) e

begun-front : {b : ℕ} {s : Text} (r : Text) → Stands b s → ampersands_begin r ≡ true → ampersands_begin (s ++ r) ≡ true
unfolding ampersands_begin begins_entity not ◌and◌ ◌or◌
begun-front r amp e = e
begun-front r lt e = e
begun-front r gt e = e
begun-front r quot e = e
begun-front r apos e = e
begun-front r (same p) e = rw p.ampersand e

no_markup : (t : Text) → any is_markup (escaped t) ≡ false
unfolding escaped flat_map
no_markup [] = refl
no_markup (b ∷ t) = clean_front (escaped t) (stands b) (no_markup t)

only_entities : (t : Text) → ampersands_begin (escaped t) ≡ true
unfolding escaped flat_map ampersands_begin
only_entities [] = refl
only_entities (b ∷ t) = begun-front (escaped t) (stands b) (only_entities t)

-- whatever the text, nothing in it ends its cell or begins anything
pub stays_in_its-cell : (t : Text) → Closed (escaped t)
stays_in_its-cell t = record { no_markup = no_markup t; only_entities = only_entities t }

-- ---- a browser reads the text

read-front : {b : ℕ} {s : Text} (r : Text) (n : ℕ) → Stands b s → unescaped_by (suc n) (s ++ r) ≡ b ∷ unescaped_by n r
unfolding unescaped_by after_ampersand ◌and◌ when◌then◌else◌
read-front r n amp = refl
read-front r n lt = refl
read-front r n gt = refl
read-front r n quot = refl
read-front r n apos = refl
read-front r n (same p) = rw p.ampersand

not_none : {b : ℕ} {s : Text} → Stands b s → 1 ≤ length s
not_none amp = omega arith
not_none lt = omega arith
not_none gt = omega arith
not_none quot = omega arith
not_none apos = omega arith
not_none (same p) = omega arith

enough : (t : Text) (n : ℕ) → length t ≤ n → unescaped_by n (escaped t) ≡ t
unfolding escaped flat_map unescaped_by
enough [] zero h = refl
enough [] (suc n) h = refl
enough (b ∷ t) zero h = absurd (omega arith)
enough (b ∷ t) (suc n) h = read-front (escaped t) n (stands b) ∙ ap (λ (r : Text). b ∷ r) (enough t n (omega arith))

longer : (t : Text) → length t ≤ length (escaped t)
unfolding escaped flat_map
longer [] = omega arith
longer (b ∷ t) = rw length-append (omega (arith, not_none (stands b), longer t))

pub read_back : (t : Text) → unescaped (escaped t) ≡ t
unfolding unescaped
read_back t = enough t (length (escaped t)) (longer t)
