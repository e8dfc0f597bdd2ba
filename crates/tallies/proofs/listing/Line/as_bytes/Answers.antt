-- `tallies::listing::Line::as_bytes` meets its contract: the commands of some bytes do not depend on the place where these stand. Assumes nothing.
use Prim.Native.Nat.{ℕ, zero, suc, ◌+◌}
use mathlib.Core.Path.{◌≡◌, refl, ap, ◌∙◌}
use mathlib.Core.Bool.{Bool, true, false}
use mathlib.Core.List.{List, [], ◌∷◌}
use lib.ListN.{length, drop}
use Rattle.reference.specs.Control.{when◌then◌else◌}
use Rattle.reference.specs.Tape as Tape
use Rattle.reference.specs.Tape.{old, command_size_by, command_by}
use Rattle.tape.specs.Held.{Place, goes_on_by, places_from, places_at, unplaced, commands, tokens_of}
use Rattle.tallies.proofs.listing.Line.as_bytes.Goals as goal

same_when : (b : Bool) (c : Tape.Command) (i j : ℕ) (ps qs : List Place) → unplaced ps ≡ unplaced qs
    → unplaced (when b then (i, c) ∷ ps else []) ≡ unplaced (when b then (j, c) ∷ qs else [])
unfolding when◌then◌else◌
same_when true c i j ps qs e = ap (λ (cs : List Tape.Command). c ∷ cs) e
same_when false c i j ps qs e = refl

same_from : (fuel i j : ℕ) (rest : List ℕ) → unplaced (places_from old fuel i rest) ≡ unplaced (places_from old fuel j rest)
unfolding places_from
same_from zero i j rest = refl
same_from (suc fuel) i j rest =
    let n = command_size_by old rest in
    same_when (goes_on_by old rest) (command_by old rest) i j _ _ (same_from fuel (i + n) (j + n) (drop n rest))

same_at : (i : ℕ) (rest : List ℕ) → commands rest ≡ unplaced (places_at old i rest)
unfolding places_at
same_at i rest = same_from (length rest) 0 i rest

pub returns : goal.returns
returns c = ap (λ bytes. tokens_of (commands bytes)) c.as_bytes.ensures ∙ ap tokens_of (same_at c.args.self.now.body.at (drop c.args.self.now.body.at c.args.self.now.body.tape.now))
