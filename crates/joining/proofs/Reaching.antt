-- How far a constant reaches: `reach_of` line by line, as the code's loop goes, and that it says what `gather` says. Assumes nothing.
use Prim.Native.Nat.{ℕ, suc, ◌+◌, ◌≤◌, ◌<◌}
use native.Mathlib.Omega.{arith}
use native.Mathlib.Numerals.{add-one}
use mathlib.Core.Path.{◌≡◌, refl, sym, ◌∙◌}
use mathlib.Core.Bool.{Bool, true, false}
use mathlib.Core.List.{List, [], ◌∷◌}
use lib.ListN.{length, drop, drop_of_length-le}
use lib.Seq.{drop-cons}
use Rattle.reference.specs.Control.{not, ◌or◌, when◌then◌else◌}
use Rattle.reference.specs.Lists.{is_empty}
use Rattle.reference.specs.Text.{Text}
use Rattle.reference.specs.Listing.{Listing, blank, ◌at◌}
use Rattle.reference.specs.Shapes.{opens_or_closes}
use Rattle.reference.specs.Life.{Touch, None, Kill, Use, touch, match_touch}
use Rattle.reference.specs.Join.{Uses, ends_run, gather}
use Rattle.laws.proofs.Scans.{or_only}
use Rattle.joining.specs.Plan.{Reach, reach_at, reach_from, reach_of}
use Rattle.joining.proofs.Uses.{uses_upto, gather_uses}
use Rattle.joining.proofs.Straight.{Reached, gather-reached}

or_always : (a : Bool) → (a or true) ≡ true
unfolding ◌or◌
or_always true = refl
or_always false = refl

module _ (base-indent : ℕ) (fam : Text) (volatile : List Text) where
  pub reach-ended : (j : ℕ) (ls : Listing) (r : Reach) → r.ended ≡ true → reach_from base-indent fam volatile j ls r ≡ r
  unfolding reach_from when◌then◌else◌
  reach-ended j [] r e = refl
  reach-ended j (l ∷ ls) r e = rw e

  pub reach_end : (lines : Listing) (j : ℕ) (r : Reach) → length lines ≤ j → reach_from base-indent fam volatile j (drop j lines) r ≡ r
  unfolding reach_from
  reach_end lines j r h = rw (drop_of_length-le lines h)

  pub reach_turn : (lines : Listing) (j : ℕ) (r : Reach) → j < length lines → r.ended ≡ false
      → reach_from base-indent fam volatile j (drop j lines) r
      ≡ reach_from base-indent fam volatile (j + 1) (drop (j + 1) lines) (reach_at base-indent fam volatile j (lines at j) r)
  unfolding reach_from when◌then◌else◌
  reach_turn lines j r h e = rw (add-one, drop-cons lines j blank h, e)

  -- ---- `gather`

  abbrev Same : Reach → Bool → Uses → Type 0
  Same r used u = (r.used ≡ (used or not (is_empty u.uses))) × (r.last ≡ u.last)

  ended : (j : ℕ) (ls : Listing) (used : Bool) (last : ℕ)
      → Same (reach_from base-indent fam volatile j ls (record { used = used; last = last; ended = true })) used (record { uses = []; last = last })
  unfolding ◌or◌ not
  ended j ls used last = rw (reach-ended j ls (record { used = used; last = last; ended = true }) refl) (or_only refl, refl)

  -- by what the tests say of the line j: whether it ends the run, how it touches the family, whether it has a brace
  turn : (j : ℕ) (ls : Listing) (used : Bool) (last : ℕ)
      → ((used : Bool) (last : ℕ)
      → Same (reach_from base-indent fam volatile (suc j) ls (record { used = used; last = last; ended = false })) used (gather base-indent fam volatile (suc j) ls last))
      → (ends : Bool) (t : Touch) (brace : Bool)
      → Same
      (reach_from base-indent fam volatile (suc j) ls
      (when ends then record { used = used; last = last; ended = true }
      else match_touch t
      (record { used = used; last = last; ended = brace })
      (record { used = used; last = j; ended = true })
      (λ n. record { used = true; last = j; ended = brace })))
      used
      (when ends then record { uses = []; last = last }
      else match_touch t
      (when brace then record { uses = []; last = last } else gather base-indent fam volatile (suc j) ls last)
      (record { uses = []; last = j })
      (λ n. when brace then record { uses = j ∷ []; last = j }
      else record { uses = j ∷ (gather base-indent fam volatile (suc j) ls j).uses; last = (gather base-indent fam volatile (suc j) ls j).last }))
  unfolding when◌then◌else◌ match_touch not ◌or◌
  turn j ls used last ih true t brace = ended (suc j) ls used last
  turn j ls used last ih false None true = ended (suc j) ls used last
  turn j ls used last ih false None false = ih used last
  turn j ls used last ih false Kill brace = ended (suc j) ls used j
  turn j ls used last ih false (Use n) true = ((ended (suc j) ls true j).0 ∙ sym (or_always used), (ended (suc j) ls true j).1)
  turn j ls used last ih false (Use n) false = ((ih true j).0 ∙ sym (or_always used), (ih true j).1)

  reach-gather : (j : ℕ) (ls : Listing) (used : Bool) (last : ℕ)
      → Same (reach_from base-indent fam volatile j ls (record { used = used; last = last; ended = false })) used (gather base-indent fam volatile j ls last)
  unfolding reach_from reach_at gather when◌then◌else◌ not
  reach-gather j [] used last = (or_only refl, refl)
  reach-gather j (l ∷ ls) used last =
      turn j ls used last (λ u k. reach-gather (suc j) ls u k) (ends_run base-indent l) (touch l fam volatile) (opens_or_closes l)

-- ---- the whole

module _ (lines : Listing) (i : ℕ) (fam : Text) (volatile : List Text) where
  -- what `propagate_constant` gathers from line i
  unfoldable pub gathered : Uses
  gathered = gather (lines at i).indent fam volatile (suc i) (drop (suc i) lines) i

  pub reach-used : (reach_of lines i fam volatile).used ≡ not (is_empty gathered.uses)
  unfolding reach_of gathered ◌or◌
  reach-used = (reach-gather (lines at i).indent fam volatile (suc i) (drop (suc i) lines) false i).0

  pub reach-last : (reach_of lines i fam volatile).last ≡ gathered.last
  unfolding reach_of gathered
  reach-last = (reach-gather (lines at i).indent fam volatile (suc i) (drop (suc i) lines) false i).1

  pub gathered_uses : gathered.uses ≡ uses_upto fam volatile gathered.last (suc i) (drop (suc i) lines)
  unfolding gathered
  gathered_uses = gather_uses fam volatile (lines at i).indent (suc i) (drop (suc i) lines) i (omega arith)

  -- the last line that a constant reaches
  pub reach-reached : i < length lines → Reached lines (suc i) (reach_of lines i fam volatile).last
  unfolding gathered
  reach-reached h = rw reach-last (gather-reached lines (lines at i).indent fam volatile (suc i) (drop (suc i) lines) i refl (omega arith) h)
