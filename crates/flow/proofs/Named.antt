-- Labels by their names, and a line's last token but one. Assumes nothing.
use Prim.Native.Nat.{ℕ, suc, pred, ◌+◌, ◌-◌, ◌<◌}
use native.Mathlib.Omega.{arith}
use mathlib.Core.Path.{◌≡◌, refl, sym, ap, ◌∙◌}
use mathlib.Core.Bool.{Bool, true, false, false≢true}
use mathlib.Core.List.{List, [], ◌∷◌}
use mathlib.Core.Option.{Option, none, some}
use lib.ListN.{length, get_or, length-map}
use Rattle.std.specs.Prelude as std
use Rattle.std.specs.Prelude.{Some, None}
use Rattle.reference.specs.Options.{option_of}
use Rattle.reference.specs.Control.{◌and◌, when◌then◌else◌, let_some◌else◌then◌}
use Rattle.reference.specs.Lists.{get, last_position, position}
use Rattle.reference.specs.Text.{Text, bytes, ◌≟◌}
use Rattle.reference.specs.Listing.{Listing}
use Rattle.reference.specs.Shapes.{is_label, label_tokens, is_kw}
use Rattle.reference.specs.Join.{text_or_empty}
use Rattle.reference.specs.Life.{lookup}
use Rattle.reference.specs.Run.{labels_from}
use Rattle.laws.proofs.Scans.{from}
use Rattle.lines.specs.Words.{text_of, token_of, tokens_of}
use Rattle.lines.specs.Lines.{bare_in, part_of}
use Rattle.lines.specs.Shapes.{symbol_from}
use Rattle.lines.proofs.shapes.Places.{get_at, get_past}
use Rattle.life.proofs.Jumping.{target-stays, target_none, target_label}
use Rattle.flow.specs.Ways.{is_named, jump_in, gives_back}

-- ---- one label

first_there : (tape area : Text) (ws : List ℕ) → label_tokens (tokens_of tape area ws) ≡ true → 0 < length ws
unfolding label_tokens
first_there tape area [] e = absurd (false≢true e)
first_there tape area (w ∷ ws) e = omega arith

pub label_there : (tape area : Text) (ws : List ℕ) {b : Bool} → b ≡ label_tokens (tokens_of tape area ws) → b ≡ true → 0 < length ws
label_there tape area ws e t = first_there tape area ws (sym e ∙ t)

first_is : (tape area : Text) (ws : List ℕ) → 0 < length ws → text_or_empty (get (tokens_of tape area ws) 0) ≡ text_of tape area (get_or ws 0 0)
unfolding let_some◌else◌then◌
first_is tape area [] h = absurd (omega arith)
first_is tape area (w ∷ ws) h = refl

module _ (tape area : Text) (tokens : List ℕ) (l : ℕ) (name : Text) {ws : List ℕ} (ew : ws ≡ part_of tokens l) {b : Bool} (eb : b ≡ label_tokens (tokens_of tape area ws)) where
  pub named_not : b ≡ false → false ≡ is_named name (bare_in tape area tokens l)
  unfolding is_named ◌and◌
  named_not f = rw (← ew, ← eb, f) refl

  pub named_by : b ≡ true → {x : Bool} → x ≡ (text_of tape area (get_or ws 0 0) ≟ name) → x ≡ is_named name (bare_in tape area tokens l)
  unfolding is_named ◌and◌
  named_by t ex = rw (← ew, ← eb, t, first_is tape area ws (label_there tape area ws eb t)) ex

-- ---- the last label with a name

zero_from : (o : Option ℕ) → from 0 o ≡ o
unfolding from let_some◌else◌then◌
zero_from none = refl
zero_from (some k) = ap some (omega arith)

last_from : (name : Text) (ls : Listing) (i : ℕ) → lookup (labels_from i ls) name ≡ from i (last_position (is_named name) ls)
unfolding lookup labels_from from is_named let_some◌else◌then◌ when◌then◌else◌ ◌and◌
last_from name [] i = refl
last_from name (l ∷ ls) i = go (is_label l) (last_from name ls (suc i))
  where
    found : (o : Option ℕ) → (let_some (from (suc i) o) else some i then λ p. some p) ≡ from i (let_some o else some 0 then λ k. some (suc k))
    found none = ap some (omega arith)
    found (some k) = ap some (omega arith)

    missed : (o : Option ℕ) → from (suc i) o ≡ from i (let_some o else none then λ k. some (suc k))
    missed none = refl
    missed (some k) = ap some (omega arith)

    same : (o : Option ℕ) → (let_some (from (suc i) o) else none then λ p. some p) ≡ from i (let_some o else none then λ k. some (suc k))
    same none = refl
    same (some k) = ap some (omega arith)

    inner : (y : Bool) → lookup (labels_from (suc i) ls) name ≡ from (suc i) (last_position (is_named name) ls)
        → (let_some (lookup (labels_from (suc i) ls) name) else (when y then some i else none) then λ p. some p)
        ≡ from i (let_some (last_position (is_named name) ls) else (when y then some 0 else none) then λ k. some (suc k))
    inner true h = rw h (found (last_position (is_named name) ls))
    inner false h = rw h (same (last_position (is_named name) ls))

    go : (x : Bool) → lookup (labels_from (suc i) ls) name ≡ from (suc i) (last_position (is_named name) ls)
        → lookup (when x then record { name = text_or_empty (get l.tokens 0); place = i } ∷ labels_from (suc i) ls else labels_from (suc i) ls) name
        ≡ from i (let_some (last_position (is_named name) ls) else (when x and (text_or_empty (get l.tokens 0) ≟ name) then some 0 else none) then λ k. some (suc k))
    go true h = inner (text_or_empty (get l.tokens 0) ≟ name) h
    go false h = h ∙ missed (last_position (is_named name) ls)

pub last_named : (name : Text) (ls : Listing) → last_position (is_named name) ls ≡ lookup (labels_from 0 ls) name
last_named name ls = sym (last_from name ls 0 ∙ zero_from (last_position (is_named name) ls))

-- ---- where a line jumps to

module _ (lines : Listing) (tape area : Text) (line : List ℕ) {ws : List ℕ} (ew : ws ≡ line)
    (r : std.Option ℕ) (er : option_of r ≡ position (is_kw (bytes "goto")) (tokens_of tape area ws)) where
  pub jumps_not : r ≡ None → none ≡ jump_in lines (tokens_of tape area line)
  unfolding jump_in let_some◌else◌then◌
  jumps_not e = rw (← target-stays tape area (labels_from 0 lines) line ew r er e) refl

  module _ {g : ℕ} (e : r ≡ Some g) (q : std.Option ℕ) (eq : option_of q ≡ symbol_from (tokens_of tape area ws) (g + 1)) where
    pub jumps_unnamed : q ≡ None → none ≡ jump_in lines (tokens_of tape area line)
    unfolding jump_in let_some◌else◌then◌
    jumps_unnamed f = rw (← target_none tape area (labels_from 0 lines) line ew r er e q eq f) refl

    pub jumps_to : {s : ℕ} → q ≡ Some s → (t : std.Option ℕ) → option_of t ≡ lookup (labels_from 0 lines) (text_of tape area (get_or ws s 0)) → option_of t ≡ jump_in lines (tokens_of tape area line)
    unfolding jump_in let_some◌else◌then◌
    jumps_to f t et = rw (← target_label tape area (labels_from 0 lines) line ew r er e q eq f t et) refl

-- ---- `return;`

pub gives_at : (tape area : Text) (tokens : List ℕ) (l : ℕ) {ws : List ℕ} → ws ≡ part_of tokens l → 0 < length ws → (n : ℕ) → n ≡ length ws - 2
    → {b : Bool} → b ≡ is_kw (bytes "return") (token_of tape area (get_or ws n 0)) → b ≡ gives_back (tokens_of tape area (part_of tokens l))
unfolding gives_back let_some◌else◌then◌
gives_at tape area tokens l {ws} ew h n en eb =
    let e : pred (pred (length (tokens_of tape area ws))) ≡ n = omega (arith, length-map ws (token_of tape area)) in
    rw (← ew, e, get_at (token_of tape area) ws n (omega arith)) eb

pub gives_not : (tape area : Text) (tokens : List ℕ) (l : ℕ) {ws : List ℕ} → ws ≡ part_of tokens l → length ws ≡ 0 → false ≡ gives_back (tokens_of tape area (part_of tokens l))
unfolding gives_back let_some◌else◌then◌
gives_not tape area tokens l {ws} ew h = rw (← ew, get_past (token_of tape area) ws (pred (pred (length (tokens_of tape area ws)))) (omega (arith, length-map ws (token_of tape area)))) refl
