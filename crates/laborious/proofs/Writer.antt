-- The tape of the listing, line by line: what the writer's steps leave. Assumes nothing.
use Prim.Native.Nat.{ℕ, zero, suc, ◌+◌, ◌*◌, ◌%◌, ◌≤◌, ◌<◌}
use Prim.Native.String.{String}
use native.Mathlib.Omega.{arith}
use native.Mathlib.Numerals.{add-one}
use native.Mathlib.Decide.{dec_lt}
use mathlib.Core.Path.{◌≡◌, refl, sym, ap, ◌∙◌}
use mathlib.Core.Logic.{by_cases}
use mathlib.Core.List.{List, [], ◌∷◌, ◌++◌, append_assoc, append-nil}
use mathlib.Core.Option.{none}
use lib.Dec.{eqb}
use lib.ListN.{length, length-append}
use borrow.Author.Tests.{eq-eqb, ne_eqb}
use Rattle.reference.specs.Control.{when◌then◌else◌}
use Rattle.reference.specs.Listing.{Line, Listing}
use Rattle.reference.specs.Tape.{write_line, write_lines, write, write_by, write_command_by, write_lines_by}
use Rattle.reference.proofs.Cases.{by-if}
use Rattle.reference.proofs.Opened.{opened}
use Rattle.laws.proofs.Scans.{if-true, if-false}
use Rattle.text.specs.Cursor.{Fits, Puts}
use Rattle.text.specs.declared.cursor.Cursor.{Cursor}
use Rattle.text.proofs.Cursors.{puts_none, then_puts, puts_as, room_left}
use Rattle.laborious.specs.Listing.{label, move, to_and_fro, laborious, line_of}

-- ---- which line it is

module _ (i : ℕ) where
  pub first_line : i ≡ 0 → line_of i ≡ label
  unfolding line_of
  first_line e = if-true _ _ (eq-eqb i 0 e)

  pub second_line : i ≡ 1 → line_of i ≡ move "rbx" "rsi"
  unfolding line_of
  second_line e = if-false _ _ (ne_eqb i 0 (λ z. omega arith)) ∙ if-true _ _ (eq-eqb i 1 e)

  later_line : 2 ≤ i → line_of i ≡ (when eqb (i % 2) 0 then move "rbp" "rbx" else move "rbx" "rbp")
  unfolding line_of
  later_line h = if-false _ _ (ne_eqb i 0 (λ z. omega arith)) ∙ if-false _ _ (ne_eqb i 1 (λ z. omega arith))

  pub even_line : 2 ≤ i → i % 2 ≡ 0 → line_of i ≡ move "rbp" "rbx"
  even_line h e = later_line h ∙ if-true _ _ (eq-eqb (i % 2) 0 e)

  pub odd_line : 2 ≤ i → i % 2 ≡ 1 → line_of i ≡ move "rbx" "rbp"
  odd_line h e = later_line h ∙ if-false _ _ (ne_eqb (i % 2) 0 (λ z. omega arith))

-- ---- one line more

abbrev turn : String → String → ℕ → Line
turn x y n = when eqb (n % 2) 0 then move y x else move x y

turn_next : (x y : String) (n : ℕ) → turn y x n ≡ turn x y (suc n)
turn_next x y n =
    by_cases (dec_lt (n % 2) 1)
    (λ h. if-true _ _ (eq-eqb (n % 2) 0 (omega arith)) ∙ sym (if-false _ _ (ne_eqb (suc n % 2) 0 (λ z. omega arith))))
    (λ h. if-false _ _ (ne_eqb (n % 2) 0 (λ z. omega arith)) ∙ sym (if-true _ _ (eq-eqb (suc n % 2) 0 (omega arith))))

to_and_fro_snoc : (x y : String) (n : ℕ) → to_and_fro x y (suc n) ≡ to_and_fro x y n ++ (turn x y n ∷ [])
unfolding to_and_fro when◌then◌else◌
to_and_fro_snoc x y zero = refl
to_and_fro_snoc x y (suc n) =
    ap (λ (r : Listing). move y x ∷ r) (to_and_fro_snoc y x n)
    ∙ ap (λ (l : Line). move y x ∷ (to_and_fro y x n ++ (l ∷ []))) (turn_next x y n)

laborious_snoc : (n : ℕ) → laborious (suc n) ≡ laborious n ++ (line_of n ∷ [])
unfolding laborious to_and_fro
laborious_snoc zero = ap (λ (l : Line). l ∷ []) (sym (first_line 0 refl))
laborious_snoc (suc zero) = ap (λ (l : Line). label ∷ l ∷ []) (sym (second_line 1 refl))
laborious_snoc (suc (suc n)) =
    let same : suc (suc n) % 2 ≡ n % 2 = omega arith in
    let last : turn "rbx" "rbp" n ≡ line_of (suc (suc n)) =
    ap (λ (k : ℕ). when eqb k 0 then move "rbp" "rbx" else move "rbx" "rbp") (sym same) ∙ sym (later_line (suc (suc n)) (omega arith)) in
    ap (λ (r : Listing). label ∷ move "rbx" "rsi" ∷ r) (to_and_fro_snoc "rbx" "rbp" n)
    ∙ ap (λ (l : Line). label ∷ move "rbx" "rsi" ∷ (to_and_fro "rbx" "rbp" n ++ (l ∷ []))) last

lines_snoc : (lines : Listing) (l : Line) → write_lines (lines ++ (l ∷ [])) [] ≡ write_lines lines [] ++ write_line l none
unfolding write_lines_by
lines_snoc [] l = append-nil (write_line l none)
lines_snoc (x ∷ lines) l =
    rw (lines_snoc lines l) (sym (append_assoc (write_line x none) (write_lines lines []) (write_line l none)))

abbrev pub Short : Line → Type 0
Short l = length (write_line l none) ≤ 24

lengths : Short label × Short (move "rbx" "rsi") × Short (move "rbp" "rbx") × Short (move "rbx" "rbp")
unfolding opened
lengths = (omega arith, omega arith, omega arith, omega arith)

pub line_short : (i : ℕ) → Short (line_of i)
unfolding line_of
line_short i = by-if Short (λ e. lengths.0) (λ e. by-if Short (λ e. lengths.1) (λ e. by-if Short (λ e. lengths.2) (λ e. lengths.3)))

-- ---- the loop

-- before each turn i lines are put
pub record Turn (n : ℕ) (p₀ p : Cursor) (i : ℕ) : Type 0 where
  pub inside : i ≤ n
  pub short : length (write_lines (laborious i) []) ≤ 24 * i
  pub puts : Puts p₀ (write_lines (laborious i) []) p

pub first_turn : (n : ℕ) (p : Cursor) → Turn n p p 0
unfolding opened laborious
first_turn n p = record { inside = omega arith; short = omega arith; puts = puts_none }

module _ {n : ℕ} {p₀ p : Cursor} {i : ℕ} (few : n ≤ 256) (room : Fits p₀ 6145) (t : Turn n p₀ p i) where
  pub turn-room : {s : List ℕ} → s ≡ write_line (line_of i) none → i < n → Fits p (length s)
  turn-room {s} e lt = room_left t.puts (length s) (omega (arith, t.short, ap length e, line_short i))

  pub next_turn : {s : List ℕ} {p' : Cursor} → s ≡ write_line (line_of i) none → i < n → Puts p s p' → Turn n p₀ p' (i + 1)
  next_turn {s} e lt w =
      let same : write_lines (laborious i) [] ++ write_line (line_of i) none ≡ write_lines (laborious (suc i)) [] =
      sym (ap (λ (ls : Listing). write_lines ls []) (laborious_snoc i) ∙ lines_snoc (laborious i) (line_of i)) in
      let long : length (write_lines (laborious i) []) + length (write_line (line_of i) none) ≡ length (write_lines (laborious (suc i)) []) =
      sym (length-append (write_lines (laborious i) []) (write_line (line_of i) none)) ∙ ap length same in
      rw add-one
      (record {
        inside = lt;
        short = omega (arith, long, line_short i, t.short);
        puts = puts_as (then_puts t.puts (omega (arith, room)) (puts_as w e)) same;
      })

  pub last_turn : {p' : Cursor} → n ≤ i → Puts p (255 ∷ []) p' → Puts p₀ (write (laborious n) []) p'
  unfolding write_by write_command_by
  last_turn ge w =
      let last : i ≡ n = omega (arith, t.inside) in
      rw last at (then_puts t.puts (omega (arith, room)) w)
