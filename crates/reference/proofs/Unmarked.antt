-- A tape without its 03s is the tape of the same listing without marks (M-105): "equality with the Rust leaves these marks out". Assumes nothing.
use Prim.Native.Nat.{ℕ, zero, suc, ◌+◌, ◌≤◌, ◌<◌, ◌^◌}
use native.Mathlib.Omega.{arith}
use mathlib.Core.Path.{◌≡◌, refl, sym, ap, ◌∙◌}
use mathlib.Core.List.{List, [], ◌∷◌, ◌++◌, flat_map, append_assoc, append-nil}
use mathlib.Core.Option.{none, some}
use lib.Dec.{eqb}
use lib.ListN.{length, get_or, take, drop, length-append, length-drop}
use lib.Seq.{take-append_seam, drop-append_seam}
use borrow.Author.Tests.{ne_eqb}
use Rattle.reference.specs.Control.{when◌then◌else◌}
use Rattle.reference.specs.Listing.{Token, Line, Listing}
use Rattle.reference.specs.Spans.{Marks}
use Rattle.reference.specs.Tape.{old, Command, new_line, marked, new_token, end, write_command, write_marks, write_line, write_lines, write, command_size, unmarked_from, unmarked, command_size_by}
use Rattle.reference.specs.Tape.{write_by, write_command_by, write_line_by, write_lines_by, write_marks_by}
use Rattle.reference.proofs.Cases.{by-if}
use Rattle.reference.proofs.Commands.{AddressFits, SpanFits, Writable, read_of-write}
use Rattle.reference.proofs.Limits.{All}

-- ---- the fuel is enough

some_size : (rest : List ℕ) → 1 ≤ command_size rest
unfolding command_size_by
some_size rest =
    by-if (λ (n : ℕ). 1 ≤ n) (λ e. omega arith)
    (λ e. by-if (λ (n : ℕ). 1 ≤ n) (λ e. omega arith)
    (λ e. by-if (λ (n : ℕ). 1 ≤ n) (λ e. omega arith)
    (λ e. by-if (λ (n : ℕ). 1 ≤ n) (λ e. omega arith) (λ e. omega arith))))

drop-nothing : (n : ℕ) → drop {A = ℕ} n [] ≡ []
drop-nothing zero = refl
drop-nothing (suc n) = refl

take-nothing : (n : ℕ) → take {A = ℕ} n [] ≡ []
take-nothing zero = refl
take-nothing (suc n) = refl

nothing : (f : ℕ) → unmarked_from f [] ≡ []
unfolding unmarked_from when◌then◌else◌
nothing zero = refl
nothing (suc f) = rw (take-nothing (command_size []), drop-nothing (command_size [])) (nothing f)

empty : (rest : List ℕ) → length rest ≤ 0 → rest ≡ []
empty [] h = refl
empty (x ∷ rest) h = absurd (omega arith)

enough : (f g : ℕ) (rest : List ℕ) → length rest ≤ f → length rest ≤ g → unmarked_from f rest ≡ unmarked_from g rest
unfolding unmarked_from
enough zero g rest h k = rw (empty rest h) (sym (nothing g))
enough (suc f) zero rest h k = rw (empty rest k) (nothing (suc f))
enough (suc f) (suc g) rest h k =
    let left : length (drop (command_size rest) rest) ≤ f = omega (arith, length-drop (command_size rest) rest, some_size rest) in
    let left' : length (drop (command_size rest) rest) ≤ g = omega (arith, length-drop (command_size rest) rest, some_size rest) in
    rw (enough f g (drop (command_size rest) rest) left left')

-- ---- one command

abbrev kept : Command → List ℕ
kept (new_line address indent) = write_command (new_line address indent)
kept (marked s) = []
kept (new_token t) = write_command (new_token t)
kept end = write_command end

left_out : (c : Command) (post : List ℕ) → Writable c
    → (when eqb (get_or (write_command c ++ post) 0 0) 0x03 then unmarked post else write_command c ++ unmarked post) ≡ kept c ++ unmarked post
unfolding write_command_by when◌then◌else◌
left_out (new_line (some address) indent) post w = refl
left_out (new_line none indent) post w = refl
left_out (marked s) post w = refl
left_out (new_token t) post w = rw (ne_eqb (0x10 + t.kind) 0x03 (λ e. omega arith))
left_out end post w = refl

some_bytes : (c : Command) → (n : ℕ) × (length (write_command c) ≡ suc n)
unfolding write_command_by
some_bytes (new_line (some address) indent) = (_, refl)
some_bytes (new_line none indent) = (_, refl)
some_bytes (marked s) = (_, refl)
some_bytes (new_token t) = (_, refl)
some_bytes end = (_, refl)

step : (f : ℕ) (c : Command) (post : List ℕ) → Writable c → length post ≤ f
    → unmarked_from (suc f) (write_command c ++ post) ≡ kept c ++ unmarked post
unfolding unmarked_from unmarked
step f c post w h =
    let b = read_of-write {form = old} c post w in
    rw (b.size, take-append_seam (write_command c) post, drop-append_seam (write_command c) post, enough f (length post) post h (omega arith)) (left_out c post w)

over-command : (c : Command) (post : List ℕ) → Writable c → unmarked (write_command c ++ post) ≡ kept c ++ unmarked post
unfolding unmarked
over-command c post w =
    let n = some_bytes c in
    let e : length (write_command c ++ post) ≡ suc (n.0 + length post) = omega (arith, n.1, length-append (write_command c) post) in
    ap (λ (k : ℕ). unmarked_from k (write_command c ++ post)) e ∙ step (n.0 + length post) c post w (omega arith)

-- ---- the listing

-- what of a line its bytes can hold
pub record Holdable (l : Line) : Type 0 where
  pub address : AddressFits l.address
  pub tokens : All (λ t. (t.kind < 8) × (length t.text < 2 ^ 16)) l.tokens

abbrev pub HoldableMarks : Marks → Type 0
HoldableMarks none = Unit {0}
HoldableMarks (some s) = SpanFits s

over-tokens : (ts : List Token) (post : List ℕ) → All (λ t. (t.kind < 8) × (length t.text < 2 ^ 16)) ts
    → unmarked (flat_map (λ t. write_command (new_token t)) ts ++ post) ≡ flat_map (λ t. write_command (new_token t)) ts ++ unmarked post
unfolding flat_map
over-tokens [] post h = refl
over-tokens (t ∷ ts) post h =
    let rest : List ℕ = flat_map (λ t. write_command (new_token t)) ts in
    ap unmarked (append_assoc (write_command (new_token t)) rest post)
    ∙ over-command (new_token t) (rest ++ post) h.0
    ∙ ap (λ (r : List ℕ). write_command (new_token t) ++ r) (over-tokens ts post h.1)
    ∙ sym (append_assoc (write_command (new_token t)) rest (unmarked post))

over-marks : (m : Marks) (post : List ℕ) → HoldableMarks m → unmarked (write_marks m ++ post) ≡ unmarked post
unfolding write_marks_by
over-marks none post h = refl
over-marks (some s) post h = over-command (marked s) post h

over_line : (l : Line) (m : Marks) (post : List ℕ) → Holdable l → HoldableMarks m → unmarked (write_line l m ++ post) ≡ write_line l none ++ unmarked post
unfolding write_line_by
over_line l m post h k =
    let c : List ℕ = write_command (new_line l.address l.indent) in
    let ts : List ℕ = flat_map (λ t. write_command (new_token t)) l.tokens in
    let split : (c ++ write_marks m ++ ts) ++ post ≡ c ++ (write_marks m ++ (ts ++ post)) = simp append_assoc in
    let back : c ++ (ts ++ unmarked post) ≡ (c ++ write_marks none ++ ts) ++ unmarked post = unfold write_marks_by in simp (append_assoc, append-nil) in
    ap unmarked split
    ∙ over-command (new_line l.address l.indent) (write_marks m ++ (ts ++ post)) h.address
    ∙ ap (λ (r : List ℕ). c ++ r) (over-marks m (ts ++ post) k ∙ over-tokens l.tokens post h.tokens)
    ∙ back

front : (marks : List Marks) → All HoldableMarks marks → HoldableMarks (get_or marks 0 none) × All HoldableMarks (drop 1 marks)
front [] f = (tt, tt)
front (m ∷ ms) f = (f.0, f.1)

over-lines : (lines : Listing) (marks : List Marks) (post : List ℕ) → All Holdable lines → All HoldableMarks marks
    → unmarked (write_lines lines marks ++ post) ≡ write_lines lines [] ++ unmarked post
unfolding write_lines_by
over-lines [] marks post h k = refl
over-lines (l ∷ ls) marks post h k =
    let f = front marks k in
    let m : Marks = get_or marks 0 none in
    let more : List ℕ = write_lines ls (drop 1 marks) in
    ap unmarked (append_assoc (write_line l m) more post)
    ∙ over_line l m (more ++ post) h.0 f.0
    ∙ ap (λ (r : List ℕ). write_line l none ++ r) (over-lines ls (drop 1 marks) post h.1 f.1)
    ∙ sym (append_assoc (write_line l none) (write_lines ls []) (unmarked post))

none_left : unmarked [] ≡ []
unfolding unmarked
none_left = nothing 0

-- WITHOUT ITS 03S A TAPE IS THAT OF ITS LISTING WITHOUT MARKS
pub unmarked-write : (lines : Listing) (marks : List Marks) → All Holdable lines → All HoldableMarks marks → unmarked (write lines marks) ≡ write lines []
unfolding write_by
unmarked-write lines marks h k = over-lines lines marks (write_command end) h k ∙ ap (λ (r : List ℕ). write_lines lines [] ++ r) last
  where
    last : unmarked (write_command end) ≡ write_command end
    last = ap unmarked (sym (append-nil (write_command end))) ∙ over-command end [] tt ∙ ap (λ (r : List ℕ). write_command end ++ r) none_left ∙ append-nil (write_command end)
