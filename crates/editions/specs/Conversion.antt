-- Request M-103 on listings and tapes: two calls, each with a tape and an output. Words in quotes are the request's. Assumes nothing.
use Rattle.std.specs.Prelude.{ℕ, zero, suc, ◌+◌, Bool, false, List, [], ◌∷◌, map, leb, length, drop}
use Rattle.std.proofs.Math.Option.{Option, none, some}
use Rattle.reference.specs.Control.{◌and◌, when◌then◌else◌, let_some◌else◌then◌}
use Rattle.reference.specs.Lists.{any}
use Rattle.reference.specs.Text.{has}
use Rattle.reference.specs.Listing.{Token, token, is, Number, Symbol, Listing, with_tokens}
use Rattle.reference.specs.Tape.{Command, new_line, marked, new_token, end, write, command_size, command_of}
use Rattle.reference.specs.Questions.{Answer, Refused, Passed, ask, let_passed◌then◌, is_end, read, marks_in}
use Rattle.editions.specs.Numbers.{down_text, is_newer, has_no_older, new_keywords}

-- ---- tokens

-- "Kinds .. and all other texts are kept."
unfoldable pub down_token : Token → Token
down_token t = when is Number t then token t.kind (down_text t.text) else t

-- "Going up leaves numbers": and all else
unfoldable pub up_token : Token → Token
up_token t = t

-- the Numbers of the condition "when no Number begins `0b` or `0B` after at most one minus, or holds a quote"
unfoldable pub is_newer_number : Token → Bool
is_newer_number t = is Number t and is_newer t.text

-- 13, "a Number beginning `0b` or `0B`, after at most one minus, or holding a quote, that the 2024 rules do not read, going down"
unfoldable pub earns_13 : Token → Bool
earns_13 t = is Number t and has_no_older t.text

-- 12, "a Symbol that is one of these words, going up"
unfoldable pub earns_12 : Token → Bool
earns_12 t = is Symbol t and has new_keywords t.text

-- ---- listings

-- each token changed; lines are kept
unfoldable pub change : (Token → Token) → Listing → Listing
change f = map (λ l. with_tokens (map f l.tokens) l)

unfoldable pub holds : (Token → Bool) → Listing → Bool
holds p = any (λ l. any p l.tokens)

-- ---- commands

-- a test of tokens, on a command: it fails of a command that is no token
unfoldable pub of_command : (Token → Bool) → Command → Bool
of_command p (new_line address indent) = false
of_command p (marked s) = false
of_command p (new_token t) = p t
of_command p end = false

-- "at its command; .. the leftmost first": the place of the first command of which the test holds, from an offset on. `fuel` is at least
-- the number of commands left.
unfoldable pub first_place : (Command → Bool) → ℕ → List ℕ → ℕ → Option ℕ
first_place p zero tape at = none
first_place p (suc fuel) tape at =
    let c : Command = command_of (drop at tape) in
    let more = first_place p fuel tape (at + command_size (drop at tape)) in
    when p c then some at else when is_end c then none else more

-- ---- tapes

-- 2. "An output shorter than the tape earns 2." Then the tape's questions, then the request's, "both asked once the tape is read". "Kinds,
-- lines and all other texts are kept": the 03s too, as they stand. The tape, and how many bytes the output has; the new tape.
unfoldable pub converted : ℕ → (Token → Bool) → (Token → Token) → List ℕ → ℕ → Answer (List ℕ)
converted number refused f tape output =
    ask (λ question. 0)
    ((2, leb (length tape) output) ∷ [])
    (let_passed (read tape) then λ lines.
    let_some (first_place (of_command refused) (length tape) tape 0) else Passed (write (change f lines) (marks_in tape)) then λ at.
    Refused number at)

abbrev pub to_2018 : List ℕ → ℕ → Answer (List ℕ)
to_2018 = converted 13 earns_13 down_token

abbrev pub to_2024 : List ℕ → ℕ → Answer (List ℕ)
to_2024 = converted 12 earns_12 up_token
