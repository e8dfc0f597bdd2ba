-- Request M-102: "the step that reads one command takes the text sum so far and hands back the new one. Proved: for any sum handed in, its
-- answer depends only on the numbers carried along and the tape from its offset on; read from the start, the sum is the bytes of all texts
-- so far." The step is `read_command`, the numbers carried along are `Totals`. Both are said for a form of the tape (M-110); the names
-- without "-by" are the old form's. Proved in proofs/Steps.antt and proofs/Sums.antt. Assumes nothing.
use Rattle.std.specs.Prelude.{ℕ, ◌+◌, ◌≡◌, false, List, [], ◌∷◌, ◌++◌, length, drop}
use Rattle.reference.specs.Tape.{TapeForm, old, header, Command, new_line, marked, new_token, end}
use Rattle.reference.specs.Questions.{Totals, no_commands, Answer, Refused, Passed, Advance, read_command_by, is_end}
use Rattle.reference.specs.Claim.{sum}

-- ---- "its answer depends only on the numbers carried along and the tape from its offset on"

-- p is as far behind a as q is behind b
pub record AsFar (a p b q : ℕ) : Type 0 where
  pub distance : ℕ
  pub first : p ≡ a + distance
  pub second : q ≡ b + distance

-- The answers at the offsets a and b are the same: the same command, the same new numbers and the next command as far on; or the same
-- refusal, its place as far on.
abbrev pub Same : ℕ → Answer Advance → ℕ → Answer Advance → Type 0
Same a (Passed x) b (Passed y) = (x.command ≡ y.command) × (x.totals ≡ y.totals) × AsFar a x.next b y.next
Same a (Refused m p) b (Refused n q) = (m ≡ n) × AsFar a p b q
Same a (Passed x) b (Refused n q) = ⊥
Same a (Refused m p) b (Passed y) = ⊥

-- an answer at an offset of a tape, with these numbers: wherever another tape goes on as this one does, the step answers the same
abbrev pub FromHereBy : TapeForm → List ℕ → ℕ → Totals → Answer Advance → Type 0
FromHereBy form tape at t answer =
    (other : List ℕ) (b : ℕ) → drop at tape ≡ drop b other → Same at answer b (read_command_by form other b t)

abbrev pub FromHere : List ℕ → ℕ → Totals → Answer Advance → Type 0
FromHere = FromHereBy old

-- ---- "read from the start, the sum is the bytes of all texts so far"

-- the reading of a tape comes to an offset with these numbers, after these commands: each passed and was not the end
pub data ComesBy (form : TapeForm) (tape : List ℕ) : ℕ → Totals → List Command → Type 0 where
  begins : ComesBy form tape (header form) (no_commands) []
  goes_on : {at : ℕ} {t : Totals} {before : List Command} {a : Advance} → ComesBy form tape at t before
      → read_command_by form tape at t ≡ Passed a → is_end a.command ≡ false
      → ComesBy form tape a.next a.totals (before ++ (a.command ∷ []))

abbrev pub Comes : List ℕ → ℕ → Totals → List Command → Type 0
Comes = ComesBy old

-- the bytes of a command's text
abbrev pub text_bytes : Command → ℕ
text_bytes (new_line address indent) = 0
text_bytes (marked s) = 0
text_bytes (new_token s) = length s.text
text_bytes end = 0

-- "the bytes of all texts so far"
abbrev pub all_texts : List Command → ℕ
all_texts = sum text_bytes
