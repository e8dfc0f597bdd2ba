-- Request M-107, "Which start value gives this output": what the call answers, for every tape, chosen name, list of names and wanted value.
-- Words in quotes are document 02's. The meaning of a formula is M-106's (crate reference, specs/Straight.antt). Assumes nothing.
use Rattle.std.specs.Prelude.{ℕ, zero, suc, ◌+◌, ◌^◌, Bool, List, [], ◌∷◌, leb, eqb, length, take, drop}
use Rattle.std.proofs.Math.Option.{Option, none, some}
use Rattle.reference.specs.Control.{not, when◌then◌else◌, let_some◌else◌then◌}
use Rattle.reference.specs.Lists.{any, is_some}
use Rattle.reference.specs.Text.{Text, ◌≟◌}
use Rattle.reference.specs.Listing.{token, Register, Listing}
use Rattle.reference.specs.Tape.{from_le_bytes}
use Rattle.reference.specs.Questions.{Answer, Refused, Passed, let_passed◌then◌, read}
use Rattle.reference.specs.Evaluators.{Store, wide}
use Rattle.reference.specs.Straight.{assign, returned, breaks}

-- ---- "a list of names with 64-bit values"

pub record Entry : Type 0 where
  pub name : Text
  pub value : ℕ

-- "An entry is a length byte, the name, then the value in 8 bytes, little-endian": the one whose length byte is n and whose other bytes
-- are the first of `rest`
abbrev pub entry_of : ℕ → List ℕ → Entry
entry_of n rest = record { name = take n rest; value = from_le_bytes (take 8 (drop n rest)) }

-- The entries of a list; none where it is "cut inside one". `fuel` bounds them: an entry has a byte or more.
unfoldable pub entries_from : ℕ → List ℕ → Option (List Entry)
entries_from zero [] = some []
entries_from zero (n ∷ rest) = none
entries_from (suc fuel) [] = some []
entries_from (suc fuel) (n ∷ rest) =
    let more : Option (List Entry) = entries_from fuel (drop (n + 8) rest) in
    when leb (n + 8) (length rest) then (let_some more else none then λ es. some (entry_of n rest ∷ es)) else none

unfoldable pub entries : List ℕ → Option (List Entry)
entries list = entries_from (length list) list

-- a name that is a 64-bit register's: 16 is earned where "the chosen or a listed name is no 64-bit register or is a `var_` name"
unfoldable pub is_register : Text → Bool
is_register name = is_some (wide (token Register name))

-- the entries of a list all of whose names are registers
unfoldable pub known_entries : List ℕ → Option (List Entry)
known_entries list =
    let_some (entries list) else none then λ es.
    when any (λ e. not (is_register e.name)) es then none else some es

-- ---- the start values

-- "A register not listed is zero, the first of equal names decides"
unfoldable pub listed : List Entry → Store
listed [] x = 0
listed (e ∷ es) x = let r = listed es x in when x ≟ e.name then e.value else r

-- v for the chosen register, "and an entry for the chosen register is ignored"
abbrev pub start_values : Text → List Entry → ℕ → Store
start_values chosen es v = assign chosen v (listed es)

-- ---- the answer

-- the smallest number below n that passes a test, if there is one
unfoldable pub least_below : ℕ → (ℕ → Bool) → Option ℕ
least_below zero works = none
least_below (suc n) works = let_some (least_below n works) else (when works n then some n else none) then λ v. some v

-- whether the formula, started with v in the chosen register, returns the wanted value
unfoldable pub gives : Listing → Text → List Entry → ℕ → ℕ → Bool
gives lines chosen es wanted v = eqb (returned (start_values chosen es v) lines) wanted

-- "the smallest unsigned start value that makes the formula return it modulo 2^64, or that none exists"; 15: "exactly when no start value
-- works, place 0"
unfoldable pub solution : Listing → Text → List Entry → ℕ → Answer ℕ
solution lines chosen es wanted =
    let_some (least_below (2 ^ 64) (gives lines chosen es wanted)) else Refused 15 0 then λ v. Passed v

-- "16, the chosen or a listed name is no 64-bit register or is a `var_` name, place 0, before 15 and after 14"; "a list cut inside one
-- earns 16"
unfoldable pub ask_names : Listing → Text → List ℕ → ℕ → Answer ℕ
ask_names lines chosen list wanted =
    let found : Answer ℕ = let_some (known_entries list) else Refused 16 0 then λ es. solution lines chosen es wanted in
    when is_register chosen then found else Refused 16 0

-- 14, "the first line that breaks the profile", then 16 and 15
unfoldable pub ask_formula : Listing → Text → List ℕ → ℕ → Answer ℕ
ask_formula lines chosen list wanted = let_some (breaks lines) else ask_names lines chosen list wanted then λ n. Refused 14 n

-- the tape's questions first
unfoldable pub start_reply : List ℕ → Text → List ℕ → ℕ → Answer ℕ
start_reply tape chosen list wanted = let_passed (read tape) then λ lines. ask_formula lines chosen list wanted
