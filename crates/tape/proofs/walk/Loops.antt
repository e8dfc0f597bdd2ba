-- Loops over a tape's commands: one that puts bytes for each leaves the bytes of all, one after the other; one that folds leaves the fold. Of the commands
-- that are still to come, what holds of each is kept turn by turn as it stands (`All P (x ∷ more)` is `P x × All P more`). Assumes nothing.
use Prim.Native.Nat.{ℕ, ◌≤◌}
use native.Mathlib.Omega.{arith}
use mathlib.Core.Path.{◌≡◌, refl, sym, ap, ◌∙◌}
use mathlib.Core.List.{List, [], ◌∷◌, ◌++◌, flat_map, append_assoc, append-nil}
use lib.ListN.{length, length-append}
use Rattle.reference.specs.Tape.{Command}
use Rattle.reference.proofs.Limits.{All}
use Rattle.text.specs.Cursor.{Fits, Puts}
use Rattle.text.specs.declared.cursor.Cursor.{Cursor}
use Rattle.text.proofs.Cursors.{puts_none, then_puts, puts_as, room_left}
use Rattle.tape.specs.Held.{Place, unplaced}

-- ---- bytes put for each

-- so far a part of all bytes is put, and the rest is to come; there is room for all
pub record Coming (p₀ : Cursor) (all : List ℕ) (p : Cursor) (rest : List ℕ) : Type 0 where
  pub done : List ℕ
  pub put : Puts p₀ done p
  pub whole : done ++ rest ≡ all
  pub room : Fits p₀ (length all)

-- before the first turn
abbrev pub coming_begins : {p : Cursor} (all : List ℕ) → Fits p (length all) → Coming p all p all
coming_begins all h = record { done = []; put = puts_none; whole = refl; room = h }

module _ {p₀ p : Cursor} {all rest : List ℕ} (w : Coming p₀ all p rest) where
  -- there is room for what is to come, and so for the bytes that it begins with
  pub coming_room : Fits p (length rest)
  coming_room = room_left w.put (length rest) (omega (arith, w.room, ap length w.whole, length-append w.done rest))

  pub coming_fits : (one more : List ℕ) → rest ≡ one ++ more → Fits p (length one)
  coming_fits one more e = omega (arith, coming_room, ap length e, length-append one more)

  -- one turn
  abbrev pub coming_on : (one : List ℕ) {more : List ℕ} {p₁ : Cursor} → rest ≡ one ++ more → Puts p one p₁ → Coming p₀ all p₁ more
  coming_on one {more} e x =
      record {
        done = w.done ++ one;
        put = then_puts w.put (omega (arith, w.room)) x;
        whole = append_assoc w.done one more ∙ ap (λ (r : List ℕ). w.done ++ r) (sym e) ∙ w.whole;
        room = w.room;
      }

  -- and behind the last
  pub coming_ends : rest ≡ [] → Puts p₀ all p
  coming_ends e = puts_as w.put (sym (append-nil w.done) ∙ ap (λ (r : List ℕ). w.done ++ r) (sym e) ∙ w.whole)

-- the bytes are those of a function of each command, or of each place
module _ {A : Type 0} (g : A → List ℕ) where
  pub next_flat : {xs more : List A} (x : A) → xs ≡ x ∷ more → flat_map g xs ≡ g x ++ flat_map g more
  unfolding flat_map
  next_flat x e = ap (flat_map g) e

  pub flat_none : {xs : List A} → xs ≡ [] → flat_map g xs ≡ []
  unfolding flat_map
  flat_none e = ap (flat_map g) e

-- where no piece is longer, all of them are not
module _ {A : Type 0} (g h : A → List ℕ) (no_longer : (x : A) → length (g x) ≤ length (h x)) where
  pub flat_no-longer : (xs : List A) → length (flat_map g xs) ≤ length (flat_map h xs)
  unfolding flat_map
  flat_no-longer [] = omega arith
  flat_no-longer (x ∷ xs) = rw (length-append, length-append) (omega (arith, no_longer x, flat_no-longer xs))

-- of commands, their places being left out
module _ (g : Command → List ℕ) where
  pub flat_unplaced : (ps : List Place) → flat_map (λ p. g p.1) ps ≡ flat_map g (unplaced ps)
  unfolding flat_map
  flat_unplaced [] = refl
  flat_unplaced (p ∷ ps) = ap (λ (r : List ℕ). g p.1 ++ r) (flat_unplaced ps)

module _ (P : Command → Type 0) where
  pub each_place : (ps : List Place) → All P (unplaced ps) → All (λ p. P p.1) ps
  each_place [] h = tt
  each_place (p ∷ ps) h = (h.0, each_place ps h.1)

  pub each_command : (ps : List Place) → All (λ p. P p.1) ps → All P (unplaced ps)
  each_command [] h = tt
  each_command (p ∷ ps) h = (h.0, each_command ps h.1)

-- A LOOP THAT PUTS g OF EACH, with the list of those to come as an iterator gives it: room for one, one turn, behind the last
module _ {A : Type 0} (g : A → List ℕ) (all : List A) where
  -- what it keeps true
  abbrev pub Putting : Cursor → Cursor → List A → Type 0
  Putting p₀ p left = Coming p₀ (flat_map g all) p (flat_map g left)

  module _ {p₀ p : Cursor} {left : List A} (w : Putting p₀ p left) (x : A) (more : List A) (e : left ≡ x ∷ more) where
    pub putting_fits : Fits p (length (g x))
    putting_fits = coming_fits w (g x) (flat_map g more) (next_flat g x e)

    abbrev pub putting_on : {p₁ : Cursor} → Puts p (g x) p₁ → Putting p₀ p₁ more
    putting_on y = coming_on w (g x) (next_flat g x e) y

  pub putting_ends : {p₀ p : Cursor} {left : List A} → Putting p₀ p left → left ≡ [] → Puts p₀ (flat_map g all) p
  putting_ends w e = coming_ends w (flat_none g e)

-- ---- a fold over each

module _ {A S : Type 0} (f : S → A → S) where
  abbrev pub folded : S → List A → S
  folded s [] = s
  folded s (x ∷ xs) = folded (f s x) xs

  -- what a loop that folds keeps true
  pub record Folding (start : S) (all : List A) (s : S) (left : List A) : Type 0 where
    pub same : folded s left ≡ folded start all

  abbrev pub folding_begins : (start : S) (all : List A) → Folding start all start all
  folding_begins start all = record { same = refl }

  module _ {start s : S} {all left : List A} (w : Folding start all s left) where
    -- one turn
    abbrev pub folding_on : (x : A) {more : List A} {s' : S} → left ≡ x ∷ more → s' ≡ f s x → Folding start all s' more
    folding_on x {more} e k = record { same = ap (λ (t : S). folded t more) k ∙ ap (folded s) (sym e) ∙ w.same }

    -- and behind the last
    pub folding_ends : left ≡ [] → s ≡ folded start all
    folding_ends e = ap (folded s) (sym e) ∙ w.same
