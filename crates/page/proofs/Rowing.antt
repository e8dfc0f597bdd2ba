-- Cells put one behind the other: of a text in pieces, and of a line's tokens. Assumes nothing.
use Prim.Native.Nat.{ℕ, zero, suc, min, ◌+◌, ◌*◌, ◌≤◌, ◌<◌}
use native.Mathlib.Omega.{arith}
use native.Mathlib.Nat.{le_refl}
use mathlib.Core.Path.{◌≡◌, refl, sym, ap, ◌∙◌}
use mathlib.Core.Bool.{Bool, true, false}
use mathlib.Core.List.{List, [], ◌∷◌, ◌++◌, append-nil, flat_map}
use lib.Dec.{leb}
use lib.ListN.{length, take, drop, length-append, length-take, length-drop, drop_of_length-le}
use lib.Seq.{take_all, take-append_seam, drop-append_seam}
use borrow.Author.Tests.{leb-true, leb-false}
use Rattle.reference.specs.Text.{Text}
use Rattle.reference.specs.Listing.{Token}
use Rattle.reference.specs.Tape as Tape
use Rattle.laws.proofs.Scans.{if-true, if-false}
use Rattle.printing.proofs.Decimals.{decimal-length}
use Rattle.tape.specs.Held.{tokens_of}
use Rattle.tape.proofs.walk.Spending.{bytes_of}
use Rattle.page.specs.Cells.{cell, cells_by, cells, line_cells}
use Rattle.page.proofs.Escaped.{escaped-length}

-- ---- how long they are

pub cell-length : (kind : ℕ) (t : Text) → length (cell kind t) ≤ 6 * length t + 35
unfolding cell
cell-length kind t = simp length-append (omega (arith, decimal-length kind, escaped-length t))

none_by : (f kind : ℕ) → cells_by f kind [] ≡ []
unfolding cells_by
none_by zero kind = refl
none_by (suc f) kind = if-true _ _ refl

pub no_cells : (kind : ℕ) (t : Text) → length t ≤ 0 → cells kind t ≡ []
unfolding cells cells_by
no_cells kind [] h = refl
no_cells kind (x ∷ t) h = absurd (omega arith)

unroll : (f kind x : ℕ) (t : Text) → cells_by (suc f) kind (x ∷ t) ≡ cell kind (take 512 (x ∷ t)) ++ cells_by f kind (drop 512 (x ∷ t))
unfolding cells_by
unroll f kind x t = if-false _ _ refl

long : (f kind : ℕ) (s : Text) (b : Bool) → leb 512 (length s) ≡ b → length (cells_by f kind (drop 512 s)) ≤ 7 * length (drop 512 s) + 35
    → length (cell kind (take 512 s)) + length (cells_by f kind (drop 512 s)) ≤ 7 * length s + 35
long f kind s true e h = omega (arith, leb-true 512 (length s) e, cell-length kind (take 512 s), length-take 512 s, length-drop 512 s)
long f kind s false e h =
    let short = leb-false 512 (length s) e in
    let past : length s ≤ 512 = omega arith in
    let none : cells_by f kind (drop 512 s) ≡ [] = ap (cells_by f kind) (drop_of_length-le s past) ∙ none_by f kind in
    omega (arith, cell-length kind (take 512 s), length-take 512 s, ap (λ (r : Text). length r) none)

longer : (f kind : ℕ) (t : Text) → length (cells_by f kind (drop 512 t)) ≤ 7 * length (drop 512 t) + 35 → length (cells_by (suc f) kind t) ≤ 7 * length t + 35
longer f kind [] h = omega (arith, ap (λ (s : Text). length s) (none_by (suc f) kind))
longer f kind (x ∷ t) h = rw (unroll f kind x t, length-append) (long f kind (x ∷ t) (leb 512 (length (x ∷ t))) refl h)

by_length : (f kind : ℕ) (t : Text) → length (cells_by f kind t) ≤ 7 * length t + 35
by_length zero kind t = (unfold cells_by in omega arith)
by_length (suc f) kind t = longer f kind t (by_length f kind (drop 512 t))

pub cells-length : (kind : ℕ) (t : Text) → length (cells kind t) ≤ 7 * length t + 35
unfolding cells
cells-length kind t = by_length (length t) kind t

-- ---- a text, piece by piece

none_left : (f kind : ℕ) (t : Text) → length t ≤ 0 → cells_by f kind t ≡ []
none_left f kind [] h = none_by f kind
none_left f kind (x ∷ t) h = absurd (omega arith)

both_more : (f g kind : ℕ) (t : Text) → cells_by f kind (drop 512 t) ≡ cells_by g kind (drop 512 t) → cells_by (suc f) kind t ≡ cells_by (suc g) kind t
both_more f g kind [] e = none_by (suc f) kind ∙ sym (none_by (suc g) kind)
both_more f g kind (x ∷ t) e = unroll f kind x t ∙ ap (λ (r : Text). cell kind (take 512 (x ∷ t)) ++ r) e ∙ sym (unroll g kind x t)

enough : (f g kind : ℕ) (t : Text) → length t ≤ f → length t ≤ g → cells_by f kind t ≡ cells_by g kind t
enough zero g kind t h k = none_left zero kind t h ∙ sym (none_left g kind t h)
enough (suc f) zero kind t h k = none_left (suc f) kind t k ∙ sym (none_left zero kind t k)
enough (suc f) (suc g) kind t h k =
    both_more f g kind t (enough f g kind (drop 512 t) (omega (arith, length-drop 512 t)) (omega (arith, length-drop 512 t)))

first_cell : (kind : ℕ) (s : Text) → 1 ≤ length s → cells kind s ≡ cell kind (take 512 s) ++ cells kind (drop 512 s)
first_cell kind [] h = absurd (omega arith)
first_cell kind (x ∷ t) h = (unfold cells in
    unroll (length t) kind x t
    ∙ ap (λ (r : Text). cell kind (take 512 (x ∷ t)) ++ r)
    (enough (length t) (length (drop 512 (x ∷ t))) kind (drop 512 (x ∷ t)) (omega (arith, length-drop 512 (x ∷ t))) (le_refl _)))

none_there : (s : Text) → length s ≤ 0 → s ≡ []
none_there [] k = refl
none_there (y ∷ s) k = absurd (omega arith)

-- the rest of a text, of which a piece of 512 bytes is put next, or all of it
piece : (x r : Text) → length x ≡ min 512 (length (x ++ r)) → 0 < length (x ++ r) → (take 512 (x ++ r) ≡ x) × (drop 512 (x ++ r) ≡ r)
piece x r e h = go (leb 512 (length (x ++ r))) refl
  where
    go : (b : Bool) → leb 512 (length (x ++ r)) ≡ b → (take 512 (x ++ r) ≡ x) × (drop 512 (x ++ r) ≡ r)
    go true l =
        let m = leb-true 512 (length (x ++ r)) l in
        let n : length x ≡ 512 = omega arith in
        (rw (← n) (take-append_seam x r), rw (← n) (drop-append_seam x r))
    go false l =
        let m = leb-false 512 (length (x ++ r)) l in
        let n : length r ≤ 0 = omega (arith, length-append x r) in
        let z : r ≡ [] = none_there r n in
        let short : length x ≤ 512 = omega arith in
        rw z (rw append-nil (take_all 512 x short, drop_of_length-le x short))

pub next_cell : (kind : ℕ) (s x r : Text) → s ≡ x ++ r → length x ≡ min 512 (length s) → 0 < length s → cells kind s ≡ cell kind x ++ cells kind r
next_cell kind s x r e l h =
    let p = piece x r (rw e at l) (rw e at h) in
    rw e (first_cell kind (x ++ r) (rw e at h) ∙ λ i. cell kind (p.0 i) ++ cells kind (p.1 i))

-- ---- a line, token by token

pub no_tokens : line_cells [] ≡ []
unfolding line_cells flat_map
no_tokens = refl

pub next_token : (t : Token) (ts : List Token) → line_cells (t ∷ ts) ≡ cells t.kind t.text ++ line_cells ts
unfolding line_cells flat_map
next_token t ts = refl

-- a line's cells have room in twelve times the bytes of its commands
pub line-length : (cs : List Tape.Command) → length (line_cells (tokens_of cs)) ≤ 12 * bytes_of cs
unfolding line_cells flat_map
line-length [] = omega arith
line-length (Tape.new_line address indent ∷ more) = omega arith
line-length (Tape.marked s ∷ more) = line-length more
line-length (Tape.new_token t ∷ more) =
    omega (arith, length-append (cells t.kind t.text) (line_cells (tokens_of more)), cells-length t.kind t.text, line-length more)
line-length (Tape.end ∷ more) = line-length more
