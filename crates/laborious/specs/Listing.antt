-- M-108's listing: "A label, a move from a third register, then moves to and fro between two others". Assumes nothing.
use Rattle.std.specs.Prelude.{ℕ, zero, suc, ◌%◌, ◌≤◌, ◌≡◌, List, [], ◌∷◌, leb, eqb, length}
use Prim.Native.String.{String}
use Rattle.std.proofs.Math.Option.{none}
use Rattle.reference.specs.Control.{when◌then◌else◌}
use Rattle.reference.specs.Text.{bytes}
use Rattle.reference.specs.Listing.{Token, token, Register, Symbol, Punct, Line, Listing}
use Rattle.reference.specs.Rules.{Rules}
use Rattle.reference.specs.Tape.{write}
use Rattle.reference.specs.Questions.{OUTPUT, Answer, Passed, ask, read}
use Rattle.laborious.specs.Most.{first_attempts, most_attempts}

abbrev pub line : List Token → Line
line ts = record { address = none; indent = 0; tokens = ts }

-- `L:`
abbrev pub label : Line
label = line (token Symbol (bytes "L") ∷ token Punct (bytes ":") ∷ [])

-- `rbx = rsi;`
abbrev pub move : String → String → Line
move to from = line (token Register (bytes to) ∷ token Punct (bytes " = ") ∷ token Register (bytes from) ∷ token Punct (bytes ";") ∷ [])

-- n moves to and fro between two registers, the first from x to y
unfoldable pub to_and_fro : String → String → ℕ → Listing
to_and_fro x y zero = []
to_and_fro x y (suc n) = move y x ∷ to_and_fro y x n

-- a label, a move from a third register, then n moves to and fro
abbrev pub label_and_moves : String → String → ℕ → Listing
label_and_moves x y n = label ∷ move x "rsi" ∷ to_and_fro x y n

-- the listing of n lines
unfoldable pub laborious : ℕ → Listing
laborious zero = []
laborious (suc zero) = label ∷ []
laborious (suc (suc n)) = label_and_moves "rbx" "rbp" n

-- the line i of every such listing that is longer
unfoldable pub line_of : ℕ → Line
line_of i =
    when eqb i 0 then label
    else when eqb i 1 then move "rbx" "rsi"
    else when eqb (i % 2) 0 then move "rbp" "rbx"
    else move "rbx" "rbp"

-- "The tool writes such a tape": no line has an address, so there are no marks
abbrev pub laborious_tape : ℕ → List ℕ
laborious_tape n = write (laborious n) []

-- The answer for n lines, the output having so many bytes: "17, n above 256, place 0, before 2, which an output below 59,137 bytes earns"
unfoldable pub laborious_reply : ℕ → ℕ → Answer (List ℕ)
laborious_reply n output = ask (λ number. 0) ((17, leb n 256) ∷ (2, leb OUTPUT output) ∷ []) (Passed (laborious_tape n))

-- Of a tape for n lines: it holds "a listing whose first round, under every convention" and in every other setting "makes the most
-- attempts".
pub record MostLaborious (n : ℕ) (tape : List ℕ) : Type 0 where
  pub listing : Listing
  pub accepted : read tape ≡ Passed listing
  pub of_n_lines : length listing ≡ n
  pub attempts : (rules : Rules) → first_attempts rules listing ≡ most_attempts n
  -- "no accepted listing of n lines needs more", nor any other
  pub no_more : (rules : Rules) (others : Listing) → length others ≡ n → first_attempts rules others ≤ most_attempts n
