-- A line's cautions are those of both parts: the old line's, and the new line's. Assumes nothing.
use Prim.Native.Nat.{ℕ, suc}
use mathlib.Core.Path.{◌≡◌, refl, sym, ap, ◌∙◌}
use mathlib.Core.Bool.{Bool, true, false}
use mathlib.Core.List.{List, [], ◌∷◌, ◌++◌, map}
use Rattle.std.specs.Prelude.{bit_or}
use Rattle.std.proofs.lemmas.Nat.{or_comm}
use Rattle.std.specs.Int.Bits.{or_self}
use Rattle.reference.specs.Control.{not, ◌and◌, ◌or◌, when◌then◌else◌}
use Rattle.reference.specs.Lists.{any}
use Rattle.reference.specs.Text.{bytes, has, starts_with}
use lib.Dec.{ltb}
use Rattle.std.proofs.Math.Seq.{slice}
use Rattle.reference.specs.Listing.{Token, is, Number, Listing, ◌at◌}
use Rattle.reference.specs.Names.{Fam}
use Rattle.reference.specs.Rules.{Rules, volatile}
use Rattle.reference.specs.Join.{lone_number, text_before, text_after}
use Rattle.laws.proofs.Scans.{any_append}
use Rattle.laws.proofs.Std.{tests_of_std}
use Rattle.std.proofs.lemmas.Bool.Decides.{nat_tests}
use Rattle.cautions.specs.Kinds.{overwritten, call_moved, read_moved, other_text, odd_number, other_width, ◌∪◌, ◌given◌, union}
use Rattle.cautions.specs.Values.{acts_beside, is_tame}
use Rattle.cautions.specs.Forms.{Ways}
use Rattle.cautions.specs.Uses.{use_cautions, moves_call, moves_read, is_apart, groups, changes_width, sums_numbers, widths, beside_number, is_folded, numbers_odd, places_of}
use Rattle.cautions.specs.Joins.{line_cautions}
use Rattle.cautions.proofs.Sets.{or_assoc}
use Rattle.usefacts.specs.declared.parts.Before.{Before}
use Rattle.usefacts.specs.declared.parts.After.{After}
use Rattle.usefacts.specs.Split.{is_wild, is_negative, use_kinds, use_sums, before_of, after_of, finished}

-- ---- sets

given_or : (s : ℕ) (a b : Bool) → s given (a or b) ≡ (s given a) ∪ (s given b)
unfolding ◌given◌ when◌then◌else◌ ◌or◌
given_or s true true = sym (or_self s)
given_or s true false = or_comm 0 s
given_or s false b = refl

pub given_yes : (s : ℕ) {b : Bool} → b ≡ true → s ≡ s given b
unfolding ◌given◌ when◌then◌else◌
given_yes s e = rw e refl

pub given_no : (s : ℕ) {b : Bool} → b ≡ false → 0 ≡ s given b
unfolding ◌given◌ when◌then◌else◌
given_no s e = rw e refl

pub ruleset givens = (given_yes, given_no)

pub joined_by : (b : Before) (a : After) {x y : Bool} {odd wide : ℕ} → odd ≡ 128 given x → x ≡ ((b.lone or ltb a.numbers b.numbers) and (b.wild or a.wild))
    → wide ≡ 32 given y → y ≡ (b.sums and not (ltb a.numbers b.numbers and not (a.negative or a.wild))) → bit_or odd (bit_or b.kinds wide) ≡ finished b a
unfolding finished
joined_by b a eo ex ew ey = rw (eo, ex, ew, ey) refl

-- the last but one put behind all
moved_last : (o c r w x t : ℕ) → o ∪ (c ∪ (r ∪ ((w ∪ x) ∪ t))) ≡ (o ∪ (c ∪ (r ∪ (w ∪ t)))) ∪ x
moved_last o c r w x t =
    ap (λ y. o ∪ (c ∪ (r ∪ y))) (or_assoc w x t ∙ ap (λ y. w ∪ y) (or_comm x t) ∙ sym (or_assoc w t x))
    ∙ ap (λ y. o ∪ (c ∪ y)) (sym (or_assoc r (w ∪ t) x))
    ∙ ap (λ y. o ∪ y) (sym (or_assoc c (r ∪ (w ∪ t)) x))
    ∙ sym (or_assoc o (c ∪ (r ∪ (w ∪ t))) x)

-- the two inner ones exchanged
turned : (a b c d : ℕ) → (a ∪ b) ∪ (c ∪ d) ≡ (a ∪ c) ∪ (b ∪ d)
turned a b c d =
    or_assoc a b (c ∪ d)
    ∙ ap (λ y. a ∪ y) (sym (or_assoc b c d) ∙ ap (λ y. y ∪ d) (or_comm b c) ∙ or_assoc c b d)
    ∙ sym (or_assoc a c (b ∪ d))

-- ---- tests

and_regroup : (a b c d : Bool) → (a and b and c and d) ≡ ((a and b and c) and d)
unfolding ◌and◌
and_regroup true true true d = refl
and_regroup true true false d = refl
and_regroup true false c d = refl
and_regroup false b c d = refl

-- ---- one use

module _ (rules : Rules) (f : Fam) (expr : List Token) (ts : List Token) where
  -- the new line's numbers were added up, and each that is left is plain
  abbrev small : List Token → Bool
  small new = is_folded f expr ts new and not (any (λ t. is Number t and (starts_with t.text (bytes "-") or not (is_tame t))) new)

  use_parts : (u : ℕ) (passed : Listing) (new : List Token)
      → use_cautions rules f expr ts u passed new ≡ use_kinds rules f expr ts u passed ∪ other_width given (use_sums rules f expr ts u and not (small new))
  unfolding use_cautions use_kinds use_sums sums_numbers
  use_parts u passed new =
      let o : ℕ = overwritten given (has (volatile rules) f.name and acts_beside ts u) in
      let c : ℕ = call_moved given moves_call rules f expr ts u in
      let r : ℕ = read_moved given moves_read rules f expr ts u passed in
      let w : ℕ = other_width given changes_width rules f expr ts u in
      let t : ℕ = other_text given not (is_apart (text_before ts u) (text_after ts u) and groups rules f expr ts u) in
      ap (λ (y : ℕ). o ∪ (c ∪ (r ∪ (y ∪ t))))
      (given_or other_width (changes_width rules f expr ts u) (sums_numbers rules f expr ts u new)
      ∙ ap (λ (b : Bool). w ∪ (other_width given b))
      (and_regroup (lone_number expr) (ltb (widths rules f expr ts u).1 64) (beside_number rules f expr ts u) (not (small new))))
      ∙ moved_last o c r w (other_width given (use_sums rules f expr ts u and not (small new))) t

-- ---- the uses of a line

uses_parts : (k : ℕ → ℕ) (s : ℕ → Bool) (x : Bool) (w : ℕ) (us : List ℕ) → union (map (λ u. k u ∪ w given (s u and x)) us) ≡ union (map k us) ∪ w given (any s us and x)
unfolding union ◌given◌ ◌and◌ ◌or◌ when◌then◌else◌
uses_parts k s x w [] = refl
uses_parts k s x w (u ∷ us) =
    ap (λ y. (k u ∪ w given (s u and x)) ∪ y) (uses_parts k s x w us)
    ∙ turned (k u) (w given (s u and x)) (union (map k us)) (w given (any s us and x))
    ∙ ap (λ y. (k u ∪ union (map k us)) ∪ y) (both (s u) (any s us) x)
  where
    both : (a b x : Bool) → (w given (a and x)) ∪ (w given (b and x)) ≡ w given ((a or b) and x)
    both true true true = or_self w
    both true false true = or_comm w 0
    both true b false = either b
      where
        either : (b : Bool) → (w given (b and false)) ≡ 0
        either true = refl
        either false = refl
    both false b x = refl

-- ---- numbers of the new line

bad_is : (t : Token) → (is Number t and (starts_with t.text (bytes "-") or not (is_tame t))) ≡ (is_negative t or is_wild t)
unfolding is_tame ◌and◌ ◌or◌ not
bad_is t = go (is Number t) _ _
  where
    go : (n m x : Bool) → (n and (m or not (not n or x))) ≡ ((n and m) or not (not n or x))
    go true m x = refl
    go false m x = refl

bad_in : (ts : List Token) → any (λ t. is Number t and (starts_with t.text (bytes "-") or not (is_tame t))) ts ≡ (any is_negative ts or any is_wild ts)
unfolding ◌or◌
bad_in [] = refl
bad_in (t ∷ ts) = ap (λ b. b or any (λ t. is Number t and (starts_with t.text (bytes "-") or not (is_tame t))) ts) (bad_is t)
    ∙ ap (λ b. (is_negative t or is_wild t) or b) (bad_in ts)
    ∙ crossed (is_negative t) (is_wild t) (any is_negative ts) (any is_wild ts)
  where
    crossed : (a b c d : Bool) → ((a or b) or (c or d)) ≡ ((a or c) or (b or d))
    crossed true b c d = refl
    crossed false true true d = refl
    crossed false true false d = refl
    crossed false false c d = refl

wild_in : (a b c : List Token) → any is_wild (a ++ b ++ c) ≡ (any is_wild (a ++ b) or any is_wild c)
wild_in a b c = any_append is_wild (a ++ b) c

-- ---- a line

module _ (rules : Rules) (lines : Listing) (ways : Ways) (i : ℕ) (f : Fam) (expr : List Token) where
  pub line_parts : (j : ℕ) (new : List Token)
      → line_cautions rules lines ways i f expr j new ≡ finished (before_of rules f expr (lines at j).tokens (slice (suc i) j lines)) (after_of new)
  unfolding line_cautions finished before_of after_of numbers_odd is_folded union
  line_parts j new =
      let old : List Token = (lines at j).tokens in
      let passed : Listing = slice (suc i) j lines in
      ap (λ b. (odd_number given ((lone_number expr or is_folded f expr old new) and b)) ∪ union (map (λ u. use_cautions rules f expr old u passed new) (places_of f.name 0 old)))
      (wild_in old expr new)
      ∙ ap (λ y. (odd_number given ((lone_number expr or is_folded f expr old new) and (any is_wild (old ++ expr) or any is_wild new))) ∪ y)
      (same_union (λ u. use_cautions rules f expr old u passed new)
      (λ u. use_kinds rules f expr old u passed ∪ other_width given (use_sums rules f expr old u and not (small rules f expr old new)))
      (λ u. use_parts rules f expr old u passed new) (places_of f.name 0 old)
      ∙ uses_parts (λ u. use_kinds rules f expr old u passed) (use_sums rules f expr old) (not (small rules f expr old new)) other_width (places_of f.name 0 old)
      ∙ ap
      (λ b. union (map (λ u. use_kinds rules f expr old u passed) (places_of f.name 0 old))
      ∪ other_width given (any (use_sums rules f expr old) (places_of f.name 0 old) and not (is_folded f expr old new and not b)))
      (bad_in new))
    where
      same_union : (k l : ℕ → ℕ) → ((u : ℕ) → k u ≡ l u) → (us : List ℕ) → union (map k us) ≡ union (map l us)
      same_union k l e [] = refl
      same_union k l e (u ∷ us) = ap (λ (y : ℕ). y ∪ union (map k us)) (e u) ∙ ap (λ (y : ℕ). l u ∪ y) (same_union k l e us)

  -- with the parts as the code has them
  pub finished_line : (j : ℕ) (new : List Token) {b : Before} {a : After} {r : ℕ} → r ≡ finished b a
      → b ≡ before_of rules f expr (lines at j).tokens (slice (suc i) j lines) → a ≡ after_of new → r ≡ line_cautions rules lines ways i f expr j new
  finished_line j new e eb ea = e ∙ rw (eb, ea) (sym (line_parts j new))

pub ruleset tests = (tests_of_std, nat_tests)
