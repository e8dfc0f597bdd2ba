-- Bytes put as far as they fit: one after the other, and all of them together. Assumes nothing.
use Prim.Native.Nat.{ℕ, suc, ◌+◌, ◌≤◌, ◌<◌}
use native.Mathlib.Omega.{arith}
use native.Mathlib.Nat.{add-zero, zero-add}
use native.Mathlib.Numerals.{add-one}
use mathlib.Core.Path.{◌≡◌, refl, sym, ap, ◌∙◌}
use mathlib.Core.Bool.{true, false}
use mathlib.Core.List.{List, [], ◌∷◌, ◌++◌, append-nil}
use lib.Dec.{ltb}
use lib.ListN.{length, take, drop, set, get_or, length-append, drop_of_length-le}
use lib.Seq.{drop-cons, drop-nil, append_snoc}
use borrow.Author.Tests.{lt-ltb, le-ltb}
use Rattle.reference.specs.Text.{Text}
use Rattle.laws.proofs.Scans.{if-true, if-false, ltb-suc}
use Rattle.listing_text.specs.Room.{laid, Page, put_one, puts, Adds, Puts, empty}
use Rattle.listing_text.specs.declared.room.Clipped.{Clipped}

-- ---- one byte

module _ (g : Page) (b : ℕ) where
  put-fits : g.at < length g.bytes → record { bytes = set g.bytes g.at b; at = g.at + 1; cut = g.cut } ≡ put_one g b
  unfolding put_one
  put-fits h = sym (if-true _ _ (lt-ltb g.at (length g.bytes) h))

  put-cut : length g.bytes ≤ g.at → record { bytes = g.bytes; at = g.at; cut = true } ≡ put_one g b
  unfolding put_one
  put-cut h = sym (if-false _ _ (le-ltb g.at (length g.bytes) h))

  pub adds-fits : g.at < length g.bytes → Adds g (b ∷ []) (record { bytes = set g.bytes g.at b; at = g.at + 1; cut = g.cut })
  unfolding puts
  adds-fits h = record { same = put-fits h }

  pub adds-cut : length g.bytes ≤ g.at → Adds g (b ∷ []) (record { bytes = g.bytes; at = g.at; cut = true })
  unfolding puts
  adds-cut h = record { same = put-cut h }

-- ---- one after the other

pub puts_append : (g : Page) (s t : Text) → puts g (s ++ t) ≡ puts (puts g s) t
unfolding puts
puts_append g [] t = refl
puts_append g (b ∷ s) t = puts_append (put_one g b) s t

pub adds_none : {g : Page} → Adds g [] g
unfolding puts
adds_none = record { same = refl }

pub then_adds : {g g₁ g₂ : Page} {s t : Text} → Adds g s g₁ → Adds g₁ t g₂ → Adds g (s ++ t) g₂
then_adds {g} {s = s} {t} e f = record { same = f.same ∙ ap (λ (h : Page). puts h t) e.same ∙ sym (puts_append g s t) }

-- the same into a clipped slice
pub puts_none : {p : Clipped} → Puts p [] p
puts_none = record { adds = adds_none; lent = refl }

pub then_puts : {p p₁ p₂ : Clipped} {s t : Text} → Puts p s p₁ → Puts p₁ t p₂ → Puts p (s ++ t) p₂
then_puts a b = record { adds = then_adds a.adds b.adds; lent = b.lent ∙ a.lent }

pub puts_as : {p p₁ : Clipped} {s t : Text} → s ≡ t → Puts p s p₁ → Puts p t p₁
puts_as e a = rw e at a

-- ---- loops: what is left is still to be put

one_more : (g : Page) {g₁ : Page} {b : ℕ} (t : Text) → Adds g (b ∷ []) g₁ → puts g₁ t ≡ puts g (b ∷ t)
unfolding puts
one_more g t e = ap (λ (h : Page). puts h t) e.same

pub puts_two : (g : Page) {g₁ : Page} {a b : ℕ} (t : Text) → Adds g (a ∷ b ∷ []) g₁ → puts g₁ t ≡ puts g (a ∷ b ∷ t)
unfolding puts
puts_two g t e = ap (λ (h : Page). puts h t) e.same

pub put_next : (g : Page) {g₁ : Page} (s : Text) (i : ℕ) → i < length s → Adds g (get_or s i 0 ∷ []) g₁ → puts g₁ (drop (i + 1) s) ≡ puts g (drop i s)
put_next g s i h e = rw (add-one, drop-cons s i 0 h) (one_more g (drop (suc i) s) e)

pub put_last : (g : Page) (s : Text) (i : ℕ) → length s ≤ i → puts g (drop i s) ≡ g
unfolding puts
put_last g s i h = rw (drop_of_length-le s h)

-- ---- all of them

set_front : (pre : List ℕ) (r b : ℕ) (rest : List ℕ) → set (pre ++ (r ∷ rest)) (length pre) b ≡ (pre ++ (b ∷ [])) ++ rest
set_front [] r b rest = refl
set_front (x ∷ pre) r b rest = ap (λ (l : List ℕ). x ∷ l) (set_front pre r b rest)

stays : (out : List ℕ) (at : ℕ) (t : Text) → length out ≤ at
    → puts (record { bytes = out; at = at; cut = true }) t ≡ record { bytes = out; at = at; cut = true }
unfolding puts
stays out at [] h = refl
stays out at (b ∷ t) h = ap (λ (g : Page). puts g t) (sym (put-cut (record { bytes = out; at = at; cut = true }) b h)) ∙ stays out at t h

abbrev filled : List ℕ → List ℕ → Text → Page
filled pre rest t =
    record { bytes = pre ++ laid rest t; at = length pre + length (take (length rest) t); cut = ltb (length rest) (length t) }

fill : (pre rest : List ℕ) (t : Text) → puts (record { bytes = pre ++ rest; at = length pre; cut = false }) t ≡ filled pre rest t
unfolding puts laid
fill pre [] [] = rw (add-zero (length pre))
fill pre (r ∷ rest) [] =
    let no : ltb (suc (length rest)) 0 ≡ false = le-ltb (suc (length rest)) 0 (omega arith) in
    λ i. record { bytes = pre ++ (r ∷ rest); at = sym (add-zero (length pre)) i; cut = sym no i }
fill pre [] (b ∷ t) =
    let long : length (pre ++ []) ≤ length pre = omega (arith, ap length (append-nil pre)) in
    let short : ltb 0 (suc (length t)) ≡ true = lt-ltb 0 (suc (length t)) (omega arith) in
    let none : drop (suc (length t)) [] ≡ [] = drop-nil (suc (length t)) in
    ap (λ (g : Page). puts g t) (sym (put-cut (record { bytes = pre ++ []; at = length pre; cut = false }) b long))
    ∙ stays (pre ++ []) (length pre) t long
    ∙ (λ i. record { bytes = pre ++ sym none i; at = sym (add-zero (length pre)) i; cut = sym short i })
fill pre (r ∷ rest) (b ∷ t) =
    let room : length pre < length (pre ++ (r ∷ rest)) = omega (arith, length-append pre (r ∷ rest)) in
    let next : length pre + 1 ≡ length (pre ++ (b ∷ [])) = sym (length-append pre (b ∷ [])) in
    let same : ◌≡◌ {A = Page} (record { bytes = set (pre ++ (r ∷ rest)) (length pre) b; at = length pre + 1; cut = false })
    (record { bytes = (pre ++ (b ∷ [])) ++ rest; at = length (pre ++ (b ∷ [])); cut = false }) =
    λ i. record { bytes = set_front pre r b rest i; at = next i; cut = false } in
    let k : ℕ = length (take (length rest) t) in
    let ends : length (pre ++ (b ∷ [])) + k ≡ length pre + suc k = omega (arith, length-append pre (b ∷ [])) in
    ap (λ (g : Page). puts g t) (sym (put-fits (record { bytes = pre ++ (r ∷ rest); at = length pre; cut = false }) b room) ∙ same)
    ∙ fill (pre ++ (b ∷ [])) rest t
    ∙ (λ i. record { bytes = append_snoc pre b (laid rest t) i; at = ends i; cut = ltb-suc (length rest) (length t) i })

-- WHAT IS PUT INTO AN EMPTY SLICE: as much as it has room for
pub all-put : (out : List ℕ) (t : Text)
    → puts (empty out) t ≡ record { bytes = laid out t; at = length (take (length out) t); cut = ltb (length out) (length t) }
all-put out t =
    fill [] out t ∙ (λ i. record { bytes = laid out t; at = zero-add (length (take (length out) t)) i; cut = ltb (length out) (length t) })
