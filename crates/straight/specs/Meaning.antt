-- M-106's promise: "For all starting register values the returned value, modulo 2^64, is the same before and after cleaning." Said of
-- every listing of the run, each of which is in the profile again. Proved in proofs/Cleaning.antt. Assumes nothing.
use Rattle.std.specs.Prelude.{◌≡◌, true}
use Rattle.std.proofs.Math.Option.{none}
use Rattle.reference.specs.Lists.{is_some}
use Rattle.reference.specs.Listing.{Listing}
use Rattle.reference.specs.Rules.{Rules}
use Rattle.reference.specs.Run.{listings, finished}
use Rattle.reference.specs.Demand.{Each}
use Rattle.reference.specs.Evaluators.{modulo, Store}
use Rattle.reference.specs.Straight.{execute, breaks, returned}

-- a listing that came of a listing in the profile
pub record Means (input lines : Listing) : Type 0 where
  pub in_profile : breaks lines ≡ none
  -- there is a value
  pub returns : (σ : Store) → is_some (execute modulo σ lines) ≡ true
  pub same_value : (σ : Store) → returned σ lines ≡ returned σ input

pub record Meaning (rules : Rules) (input : Listing) : Type 0 where
  pub each : Each (Means input) (listings rules input)
  pub finished_means : Means input (finished rules input)
