-- A set has no bit but those of the ten kinds. Assumes nothing.
use Prim.Native.Nat.{ℕ, zero, suc, ◌<◌, ◌^◌}
use native.Mathlib.Omega.{arith}
use mathlib.Core.Path.{subst, sym}
use mathlib.Core.Bool.{Bool, false}
use mathlib.Core.List.{List, [], ◌∷◌, map}
use lib.ListN.{get_or}
use Rattle.std.proofs.lemmas.Nat.{or_lt}
use Rattle.reference.specs.Text.{Text}
use Rattle.reference.specs.Listing.{Token, Listing}
use Rattle.reference.specs.Names.{Fam}
use Rattle.reference.specs.Rules.{Rules}
use Rattle.reference.specs.Run.{Attempt, run, attempts_of}
use Rattle.reference.proofs.Cases.{by-if, by-some}
use Rattle.cautions.specs.Kinds.{odd_form, still_read, overwritten, call_moved, read_moved, other_width, other_text, odd_number, slot, handed_over}
use Rattle.cautions.specs.Kinds.{◌∪◌, ◌given◌, union}
use Rattle.cautions.specs.Forms.{Ways, places}
use Rattle.cautions.specs.Uses.{use_cautions}
use Rattle.cautions.specs.Joins.{line_cautions, uses_cautions, none_yet, put, spread, join_cautions, cut_cautions}
use Rattle.cautions.specs.Cautions.{picked, joined, Cut, both, with_cuts, uncut, cuts_of, finished_cautions}
use Rattle.cautions.proofs.Sets.{get_both}

abbrev Small : ℕ → Type 0
Small s = s < 2 ^ 10

abbrev AllSmall : List ℕ → Type 0
AllSmall ss = (q : ℕ) → Small (get_or ss q 0)

or_small : {a b : ℕ} → Small a → Small b → Small (a ∪ b)
or_small {a} {b} p q = or_lt 10 a b p q

given_small : (s : ℕ) (b : Bool) → Small s → Small (s given b)
unfolding ◌given◌
given_small s b h = by-if Small (λ e. h) (λ e. omega arith)

union_small {ℓ} : {A : Type ℓ} (f : A → ℕ) → ((x : A) → Small (f x)) → (xs : List A) → Small (union (map f xs))
unfolding union
union_small f h [] = omega arith
union_small f h (x ∷ xs) = or_small (h x) (union_small f h xs)

-- ---- one step

use_small : (rules : Rules) (f : Fam) (expr ts : List Token) (u : ℕ) (passed : Listing) (new : List Token) → Small (use_cautions rules f expr ts u passed new)
unfolding use_cautions
use_small rules f expr ts u passed new =
    or_small (given_small overwritten _ (omega arith))
    (or_small (given_small call_moved _ (omega arith))
    (or_small (given_small read_moved _ (omega arith)) (or_small (given_small other_width _ (omega arith)) (given_small other_text _ (omega arith)))))

line_small : (rules : Rules) (lines : Listing) (ways : Ways) (i : ℕ) (f : Fam) (expr : List Token) (j : ℕ) (new : List Token)
    → Small (line_cautions rules lines ways i f expr j new)
unfolding line_cautions
line_small rules lines ways i f expr j new =
    or_small (given_small odd_number _ (omega arith)) (union_small _ (λ u. use_small rules f expr _ u _ new) _)

uses_small : (rules : Rules) (lines : Listing) (ways : Ways) (i : ℕ) (f : Fam) (expr : List Token) (into : List ℕ) (left : Listing)
    → Small (uses_cautions rules lines ways i f expr into left)
unfolding uses_cautions
uses_small rules lines ways i f expr into left =
    or_small (given_small odd_form _ (omega arith))
    (or_small (given_small overwritten _ (omega arith))
    (or_small (given_small slot _ (omega arith)) (union_small _ (λ j. line_small rules lines ways i f expr j _) into)))

put_small : (s : ℕ) (js : List ℕ) → Small s → (p : ℕ) (ts : List ℕ) → AllSmall ts → AllSmall (put s js p ts)
unfolding put
put_small s js h p [] g q = omega arith
put_small s js h p (t ∷ ts) g zero = or_small (g 0) (given_small s _ h)
put_small s js h p (t ∷ ts) g (suc q) = put_small s js h (suc p) ts (λ q. g (suc q)) q

none_small : (lines : Listing) → AllSmall (none_yet lines)
none_small [] q = omega arith
none_small (l ∷ lines) zero = omega arith
none_small (l ∷ lines) (suc q) = none_small lines q

spread_small : (rules : Rules) (lines : Listing) (ways : Ways) (i : ℕ) (fam : Text) (far : List ℕ) (s : ℕ) (into : List ℕ) (self : Bool) → Small s
    → AllSmall (spread rules lines ways i fam far s into self)
unfolding spread
spread_small rules lines ways i fam far s into self h =
    put_small odd_form _ (omega arith) 0 _
    (put_small still_read _ (omega arith) 0 _
    (put_small _ into
    (or_small h (or_small (given_small odd_form _ (omega arith)) (or_small (given_small still_read _ (omega arith)) (given_small handed_over _ (omega arith)))))
    0 _ (none_small lines)))

empty_small : AllSmall []
empty_small q = omega arith

join_small : (rules : Rules) (lines : Listing) (a : Attempt) → AllSmall (join_cautions rules lines a)
unfolding join_cautions
join_small rules lines a =
    by-some AllSmall (λ n. empty_small)
    (λ s e. by-some AllSmall (λ n. empty_small)
    (λ f g. spread_small rules lines _ a.line f.name _ _ a.into false (uses_small rules lines _ a.line f s.expr a.into a.left)))

cut_small : (rules : Rules) (lines : Listing) (i : ℕ) → AllSmall (cut_cautions rules lines i)
unfolding cut_cautions
cut_small rules lines i = spread_small rules lines _ i _ _ 0 _ _ (omega arith)

-- ---- the run

picked_small : (P : ℕ → Bool) (ss : List ℕ) → AllSmall ss → Small (picked P ss)
unfolding picked
picked_small P [] h = omega arith
picked_small P (s ∷ ss) h = or_small (given_small s (P 0) (h 0)) (picked_small (λ p. P (suc p)) ss (λ q. h (suc q)))

joined_small : (rules : Rules) (lines : Listing) (attempts : List Attempt) (q : ℕ) → Small (joined rules lines attempts q)
unfolding joined
joined_small rules lines [] q = omega arith
joined_small rules lines (a ∷ more) q =
    let own = picked_small _ (join_cautions rules lines a) (join_small rules lines a) in
    let on = joined_small rules a.left more q in
    by-if Small (λ e. or_small own on) (λ e. on)

both_small : (ss ts : List ℕ) → AllSmall ss → AllSmall ts → AllSmall (both ss ts)
both_small ss ts h g q = subst Small (sym (get_both ss ts q)) (or_small (h q) (g q))

with_cuts_small : (rules : Rules) (cuts : List Cut) (sets : List ℕ) → AllSmall sets → AllSmall (with_cuts rules cuts sets)
unfolding with_cuts
with_cuts_small rules [] sets h = h
with_cuts_small rules (c ∷ cuts) sets h = with_cuts_small rules cuts _ (both_small sets _ h (cut_small rules c.before c.line))

map_small : (f : ℕ → ℕ) → ((q : ℕ) → Small (f q)) → (ps : List ℕ) → AllSmall (map f ps)
map_small f h [] q = omega arith
map_small f h (p ∷ ps) zero = h p
map_small f h (p ∷ ps) (suc q) = map_small f h ps q

-- EACH FINISHED SET IS OF THE TEN KINDS
pub finished_small : (rules : Rules) (input : Listing) → AllSmall (finished_cautions rules input)
unfolding finished_cautions
finished_small rules input =
    with_cuts_small rules (cuts_of rules input) _
    (map_small _ (λ q. joined_small rules input (attempts_of (run rules input)) q) (places (uncut rules input)))
