-- The commands of bytes that were written as commands, whatever stands behind their end. Assumes nothing.
use Prim.Native.Nat.{ℕ, ◌+◌}
use native.Mathlib.Omega.{arith}
use mathlib.Core.Path.{◌≡◌, refl, ap, ◌∙◌}
use mathlib.Core.Bool.{true, false}
use mathlib.Core.List.{List, [], ◌∷◌, ◌++◌, flat_map, append_assoc}
use lib.ListN.{length, length-append}
use lib.Seq.{drop-append_seam}
use Rattle.reference.specs.Tape.{TapeForm, old, Command, end, write_command_by, write_command}
use Rattle.reference.specs.Questions.{is_end}
use Rattle.reference.proofs.Cases.{fails, true-false}
use Rattle.reference.proofs.Commands.{WritableBy, Writable, read_of-write, form_of}
use Rattle.reference.proofs.Limits.{All}
use Rattle.tape.specs.Held.{Place, places_at, placed, unplaced, commands}
use Rattle.tape.proofs.walk.Following.{GoesBy, goes_by, by_goes, more_by, over_by, same_commands}

-- a command that is read back from its bytes, and is not the end
abbrev pub InnerBy : TapeForm → Command → Type 0
InnerBy form c = WritableBy form c × (is_end c ≡ false)

module _ (form : TapeForm) (at : ℕ) (c : Command) (post : List ℕ) (w : WritableBy form c) where
  abbrev here : List ℕ
  here = write_command_by form c ++ post

  on : is_end c ≡ false → GoesBy form here
  on n =
      let b = read_of-write {form = form} c post w in
      record {
        known = form_of here b.known;
        inside = rw b.size (omega (arith, length-append (write_command_by form c) post));
        stays = rw b.same n;
      }

  pub read-on_by : is_end c ≡ false → places_at form at here ≡ (at, c) ∷ places_at form (at + length (write_command_by form c)) post
  read-on_by n =
      let b = read_of-write {form = form} c post w in
      let m = more_by form at here (by_goes form here (on n)) in
      rw (b.same, b.size, drop-append_seam (write_command_by form c) post) at m

  pub read-end_by : is_end c ≡ true → places_at form at here ≡ []
  read-end_by n =
      let b = read_of-write {form = form} c post w in
      over_by form at here (fails (λ y. true-false (rw b.same n) (goes_by form here y).stays))

module _ (form : TapeForm) (behind : List ℕ) where
  -- THE COMMANDS OF WRITTEN COMMANDS ARE THESE, AND THEIR PLACES THOSE WHERE THEY WERE WRITTEN
  pub read-all : (at : ℕ) (cs : List Command) → All (InnerBy form) cs
      → places_at form at (flat_map (write_command_by form) cs ++ (write_command_by form end ++ behind)) ≡ placed form at cs
  unfolding flat_map placed
  read-all at [] h = read-end_by form at end behind tt refl
  read-all at (c ∷ cs) h =
      let more : List ℕ = flat_map (write_command_by form) cs in
      let last : List ℕ = write_command_by form end ++ behind in
      ap (places_at form at) (append_assoc (write_command_by form c) more last)
      ∙ read-on_by form at c (more ++ last) h.0.0 h.0.1
      ∙ ap (λ (r : List Place). (at, c) ∷ r) (read-all (at + length (write_command_by form c)) cs h.1)

pub unplaced-placed : (form : TapeForm) (at : ℕ) (cs : List Command) → unplaced (placed form at cs) ≡ cs
unfolding placed
unplaced-placed form at [] = refl
unplaced-placed form at (c ∷ cs) = ap (λ (r : List Command). c ∷ r) (unplaced-placed form (at + length (write_command_by form c)) cs)

-- of the old form, the commands alone
module _ (c : Command) (post : List ℕ) (w : Writable c) where
  pub read-on : is_end c ≡ false → commands (write_command c ++ post) ≡ c ∷ commands post
  read-on n =
      ap unplaced (read-on_by old 0 c post w n)
      ∙ ap (λ (r : List Command). c ∷ r) (same_commands old (0 + length (write_command c)) 0 post)

  pub read_end : is_end c ≡ true → commands (write_command c ++ post) ≡ []
  read_end n = ap unplaced (read-end_by old 0 c post w n)
