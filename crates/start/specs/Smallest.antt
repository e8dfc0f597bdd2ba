-- What the call's answer says of a formula and its start values, in a reader's terms, for every tape, chosen name, list of names and wanted
-- value. Proved in proofs/Answer.antt. Assumes nothing.
use Rattle.std.specs.Prelude.{ℕ, ◌+◌, ◌*◌, ◌%◌, ◌^◌, ◌<◌, ◌≡◌, true, List}
use Rattle.std.proofs.Math.Option.{none, some}
use Rattle.reference.specs.Text.{Text}
use Rattle.reference.specs.Listing.{Listing}
use Rattle.reference.specs.Questions.{Refused, Passed, read}
use Rattle.reference.specs.Straight.{returned, breaks}
use Rattle.solving.specs.Solutions.{Smallest}
use Rattle.start.specs.Start.{Entry, is_register, known_entries, start_values, start_reply}

-- the tape holds a formula in the profile, and the chosen and the listed names are 64-bit registers
pub record Asked (tape : List ℕ) (chosen : Text) (list : List ℕ) : Type 0 where
  pub lines : Listing
  pub known : List Entry
  pub tape_holds : read tape ≡ Passed lines
  pub in_profile : breaks lines ≡ none
  pub chosen_register : is_register chosen ≡ true
  pub list_holds : known_entries list ≡ some known

-- the formula, started with v in the chosen register, returns the wanted value
abbrev pub Gives : {tape : List ℕ} {chosen : Text} {list : List ℕ} → Asked tape chosen list → ℕ → ℕ → Type 0
Gives {chosen = chosen} q wanted v = returned (start_values chosen q.known v) q.lines ≡ wanted

abbrev pub NoneGives : {tape : List ℕ} {chosen : Text} {list : List ℕ} → Asked tape chosen list → ℕ → Type 0
NoneGives q wanted = (v : ℕ) → v < 2 ^ 64 → Gives q wanted v → ⊥

pub record StartValue (tape : List ℕ) (chosen : Text) (list : List ℕ) (wanted : ℕ) : Type 0 where
  -- "the smallest unsigned start value that makes the formula return it modulo 2^64": a value that is told is that, and that is told
  pub smallest : (v : ℕ) → start_reply tape chosen list wanted ≡ Passed v
      → (q : Asked tape chosen list) × (v < 2 ^ 64) × Smallest (Gives q wanted) v
  pub tells : (q : Asked tape chosen list) (v : ℕ) → v < 2 ^ 64 → Smallest (Gives q wanted) v
      → start_reply tape chosen list wanted ≡ Passed v
  -- "15, exactly when no start value works, place 0": only then, and always then
  pub none_works : (place : ℕ) → start_reply tape chosen list wanted ≡ Refused 15 place
      → (q : Asked tape chosen list) × NoneGives q wanted
  pub refuses : (q : Asked tape chosen list) → NoneGives q wanted → start_reply tape chosen list wanted ≡ Refused 15 0
  -- "Each formula has a multiplier for that register", one for all lists: what is returned is m · v + c, modulo 2^64, where c is the list's
  pub multiplier : (lines : Listing) → read tape ≡ Passed lines → breaks lines ≡ none
      → (m : ℕ) × ((known : List Entry) → (c : ℕ) × ((v : ℕ) → returned (start_values chosen known v) lines ≡ (m * v + c) % 2 ^ 64))
