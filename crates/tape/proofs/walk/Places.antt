-- The places of a tape's commands: what stands at each, and the first command that passes a test, as a search that goes from offset to offset finds it.
-- Assumes nothing.
use Prim.Native.Nat.{ℕ, zero, suc, ◌+◌, ◌≤◌, ◌<◌}
use native.Mathlib.Omega.{arith}
use mathlib.Core.Path.{◌≡◌, refl, sym, ap, ◌∙◌}
use mathlib.Core.Bool.{Bool, true, false}
use mathlib.Core.List.{List, [], ◌∷◌, ◌++◌, flat_map, append_assoc, append-nil}
use mathlib.Core.Option.{Option, none, some}
use lib.ListN.{length, take, drop, length-append, length-drop}
use lib.Seq.{drop-drop, drop-append_seam}
use Rattle.reference.specs.Control.{when◌then◌else◌}
use Rattle.reference.specs.Listing.{Listing}
use Rattle.reference.specs.Tape.{TapeForm, header, Command, end, write_command_by, command_size_by, command_by}
use Rattle.reference.specs.Questions.{is_end, Passed, read_by}
use Rattle.reference.proofs.LittleEndian.{Bytes, bytes_drop}
use Rattle.reference.proofs.Commands.{FormBy, WritableBy, form_of, read_of-write, write_of-read}
use Rattle.reference.proofs.Reading.{size_positive}
use Rattle.reference.proofs.Cases.{by-if, none-some}
use Rattle.reference.proofs.Limits.{All}
use Rattle.laws.proofs.Scans.{if-true, if-false}
use Rattle.tape.specs.Held.{Place, places_from, places_at, places_by, placed, commands_by, first_where}
use Rattle.tape.proofs.walk.Following.{goes_by}
use Rattle.tape.proofs.walk.Reading.{InnerBy}
use Rattle.tape.proofs.walk.Accepted.{accepted-places, accepted-commands, accepted-bytes, accepted_fit, all_of, inner_of}

-- ---- what stands at a place

-- the command of a place stands there whole, and is not the end
pub record WholeAt (form : TapeForm) (tape : List ℕ) (p : Place) : Type 0 where
  pub known : FormBy form (drop p.0 tape)
  pub inside : command_size_by form (drop p.0 tape) ≤ length (drop p.0 tape)
  pub same : p.1 ≡ command_by form (drop p.0 tape)
  pub stays : is_end p.1 ≡ false

module _ (form : TapeForm) (tape : List ℕ) where
  whole-from : (fuel at : ℕ) → All (WholeAt form tape) (places_from form fuel at (drop at tape))
  unfolding places_from
  whole-from zero at = tt
  whole-from (suc fuel) at =
      by-if (All (WholeAt form tape))
      (λ e. (let g = goes_by form (drop at tape) e in (
        record { known = g.known; inside = g.inside; same = refl; stays = g.stays },
        rw drop-drop (whole-from fuel (at + command_size_by form (drop at tape))),
      )))
      (λ e. tt)

  -- OF ANY BYTES
  pub whole-places : All (WholeAt form tape) (places_by form tape)
  unfolding places_at
  whole-places = whole-from (length (drop (header form) tape)) (header form)

  -- it ends inside the tape
  pub whole_inside : {p : Place} → WholeAt form tape p → (p.0 < p.0 + command_size_by form (drop p.0 tape)) × (p.0 + command_size_by form (drop p.0 tape) ≤ length tape)
  whole_inside {p} w = omega (arith, size_positive (drop p.0 tape) w.known, w.inside, length-drop p.0 tape)

  -- and its bytes are what is written of it
  pub whole_bytes : Bytes tape → {p : Place} → WholeAt form tape p → take (command_size_by form (drop p.0 tape)) (drop p.0 tape) ≡ write_command_by form p.1
  whole_bytes b {p} w = sym (ap (write_command_by form) w.same ∙ write_of-read (drop p.0 tape) (bytes_drop p.0 tape b) w.known w.inside)

-- ---- the first that passes a test

module _ (test : Command → Bool) where
  pub first_here : (p : Place) (more : List Place) → test p.1 ≡ true → first_where test (p ∷ more) ≡ some p.0
  unfolding first_where
  first_here p more e = if-true _ _ e

  pub first_later : (p : Place) (more : List Place) → test p.1 ≡ false → first_where test (p ∷ more) ≡ first_where test more
  unfolding first_where
  first_later p more e = if-false _ _ e

  pub first-none : first_where test [] ≡ none
  unfolding first_where
  first-none = refl

  -- where none is found, none passes
  pub none-passes : (ps : List Place) → first_where test ps ≡ none → All (λ p. test p.1 ≡ false) ps
  unfolding first_where
  none-passes [] = λ e. tt
  none-passes (p ∷ more) =
      by-if (λ (o : Option ℕ). o ≡ none → All (λ p. test p.1 ≡ false) (p ∷ more))
      (λ yes e. absurd (none-some (sym e)))
      (λ no e. (no, none-passes more e))

  -- and where none passes, none is found
  pub passes_none : (ps : List Place) → All (λ p. test p.1 ≡ false) ps → first_where test ps ≡ none
  unfolding first_where
  passes_none [] h = refl
  passes_none (p ∷ more) h = if-false _ _ h.0 ∙ passes_none more h.1

-- A search from offset to offset: at the command that stands there it answers the offset, or ends, or goes on behind the command.
module _ (form : TapeForm) (test : Command → Bool) (tape : List ℕ) (search-from : ℕ → ℕ → Option ℕ)
    (steps : (fuel at : ℕ) → search-from (suc fuel) at
    ≡ (when test (command_by form (drop at tape)) then some at else when is_end (command_by form (drop at tape)) then none
    else search-from fuel (at + command_size_by form (drop at tape))))
    (ends : test end ≡ false) where
  abbrev post : List Command → List ℕ
  post cs = flat_map (write_command_by form) cs ++ write_command_by form end

  stepped : (n at : ℕ) (c : Command) (rest : List ℕ) → WritableBy form c → drop at tape ≡ write_command_by form c ++ rest
      → search-from (suc n) at
      ≡ (when test c then some at else when is_end c then none else search-from n (at + length (write_command_by form c)))
  stepped n at c rest w e = let b = read_of-write {form = form} c rest w in rw (e, b.same, b.size) at (steps n at)

  -- a command has a byte or more
  some_fuel : (fuel at : ℕ) (c : Command) (rest : List ℕ) → WritableBy form c → drop at tape ≡ write_command_by form c ++ rest → length (drop at tape) ≤ fuel
      → (n : ℕ) × (fuel ≡ suc n) × (length rest ≤ n)
  some_fuel fuel at c rest w e le =
      let b = read_of-write {form = form} c rest w in
      let positive = size_positive (write_command_by form c ++ rest) (form_of _ b.known) in
      go fuel (omega (arith, positive, b.size, ap length e, length-append (write_command_by form c) rest, le))
    where
      go : (fuel : ℕ) → suc (length rest) ≤ fuel → (n : ℕ) × (fuel ≡ suc n) × (length rest ≤ n)
      go zero k = absurd (omega arith)
      go (suc n) k = (n, refl, omega arith)

  along : (cs : List Command) (fuel at : ℕ) → All (InnerBy form) cs → drop at tape ≡ post cs → length (drop at tape) ≤ fuel
      → search-from fuel at ≡ first_where test (placed form at cs)
  unfolding first_where placed flat_map
  along [] fuel at h e le =
      let last : drop at tape ≡ write_command_by form end ++ [] = e ∙ sym (append-nil (write_command_by form end)) in
      let f = some_fuel fuel at end [] tt last le in
      ap (λ (n : ℕ). search-from n at) f.1 ∙ stepped f.0 at end [] tt last ∙ if-false _ _ ends ∙ if-true _ _ refl
  along (c ∷ cs) fuel at h e le =
      let size : ℕ = length (write_command_by form c) in
      let here : drop at tape ≡ write_command_by form c ++ post cs =
      e ∙ append_assoc (write_command_by form c) (flat_map (write_command_by form) cs) (write_command_by form end) in
      let f = some_fuel fuel at c (post cs) h.0.0 here le in
      let behind : drop (at + size) tape ≡ post cs =
      sym (drop-drop size at tape) ∙ ap (drop size) here ∙ drop-append_seam (write_command_by form c) (post cs) in
      ap (λ (n : ℕ). search-from n at) f.1
      ∙ stepped f.0 at c (post cs) h.0.0 here
      ∙ ap (λ (o : Option ℕ). when test c then some at else o)
      (if-false _ _ h.0.1 ∙ along cs f.0 (at + size) h.1 behind (omega (arith, ap length behind, f.2)))

  -- ON AN ACCEPTED TAPE IT FINDS THE FIRST PLACE WHOSE COMMAND PASSES THE TEST
  pub search-finds : (lines : Listing) → Bytes tape → read_by form tape ≡ Passed lines
      → search-from (length tape) (header form) ≡ first_where test (places_by form tape)
  search-finds lines b reads =
      along (commands_by form tape) (length tape) (header form)
      (all_of (inner_of form) (commands_by form tape) (accepted_fit form tape lines b reads))
      (accepted-bytes form tape lines b reads)
      (omega (arith, length-drop (header form) tape))
      ∙ ap (first_where test)
      (ap (placed form (header form)) (accepted-commands form tape lines b reads) ∙ sym (accepted-places form tape lines b reads))
