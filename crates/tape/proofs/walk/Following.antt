-- The commands of some bytes, by what stands at their head, and as the code finds it. Assumes nothing.
use Prim.Native.Nat.{ℕ, zero, suc, ◌+◌, ◌≤◌}
use native.Mathlib.Nat.{le_refl}
use native.Mathlib.Omega.{arith}
use mathlib.Core.Path.{◌≡◌, refl, sym, ap, ◌∙◌}
use mathlib.Core.Bool.{Bool, true, false}
use mathlib.Core.List.{List, [], ◌∷◌}
use lib.ListN.{length, drop, length-drop}
use lib.Seq.{drop-drop}
use borrow.Author.Tests.{leb-true, le-leb}
use Rattle.reference.specs.Control.{not, ◌and◌, when◌then◌else◌}
use Rattle.reference.specs.Tape as Tape
use Rattle.reference.specs.Tape.{TapeForm, old, command_size_by, command_by, command_size, command_of}
use Rattle.reference.specs.Questions.{is_command_by, ends_inside_by, is_end, Refused}
use Rattle.reference.proofs.Cases.{both, pair, fails, not-true, true-false}
use Rattle.reference.proofs.Commands.{FormBy, form_of, is_form}
use Rattle.reference.proofs.Reading.{ask-yes, refused_passed, size_positive}
use Rattle.laws.proofs.Scans.{if-true, if-false}
use Rattle.answers.specs.declared.Refusal.{Refusal}
use Rattle.tape.specs.Commands.{command_in, size_of_by, ends, found_in_by, standing_by}
use Rattle.tape.specs.Held.{goes_on_by, goes_on, Place, places_from, places_at, unplaced, commands}
use Rattle.tape.specs.declared.commands.Command.{Command}
use Rattle.tape.proofs.commands.Standing.{StandsBy, stands_by}
use Rattle.tape.proofs.questions.Asking.{ends_same}
use Rattle.std.specs.Prelude.{Result, Ok, Err, Some, None}
use Rattle.std.specs.Result.{result_ok}

-- ---- the fuel is enough

-- a command that goes on is known, stands whole and is not the end
pub record GoesBy (form : TapeForm) (rest : List ℕ) : Type 0 where
  pub known : FormBy form rest
  pub inside : command_size_by form rest ≤ length rest
  pub stays : is_end (command_by form rest) ≡ false

same_if {ℓ} : {A : Type ℓ} {x y : A} (z : A) (b : Bool) → (b ≡ true → x ≡ y) → (when b then x else z) ≡ (when b then y else z)
unfolding when◌then◌else◌
same_if z true h = h refl
same_if z false h = refl

module _ (form : TapeForm) where
  pub goes_by : (rest : List ℕ) → goes_on_by form rest ≡ true → GoesBy form rest
  unfolding goes_on_by ends_inside_by
  goes_by rest e = let b = both e in let d = both b.1 in record { known = form_of rest b.0; inside = leb-true _ _ d.0; stays = not-true d.1 }

  pub by_goes : (rest : List ℕ) → GoesBy form rest → goes_on_by form rest ≡ true
  unfolding goes_on_by ends_inside_by not
  by_goes rest g = pair (is_form rest g.known) (pair (le-leb _ _ g.inside) (rw g.stays))

  nothing : goes_on_by form [] ≡ false
  unfolding goes_on_by is_command_by ◌and◌
  nothing = refl

  empty : (f at : ℕ) (rest : List ℕ) → length rest ≤ 0 → places_from form f at rest ≡ []
  unfolding places_from
  empty zero at rest h = refl
  empty (suc f) at [] h = if-false _ _ nothing
  empty (suc f) at (x ∷ rest) h = absurd (omega arith)

  enough : (f g at : ℕ) (rest : List ℕ) → length rest ≤ f → length rest ≤ g → places_from form f at rest ≡ places_from form g at rest
  unfolding places_from
  enough zero g at rest h k = sym (empty g at rest h)
  enough (suc f) zero at rest h k = empty (suc f) at rest k
  enough (suc f) (suc g) at rest h k =
      same_if [] (goes_on_by form rest)
      (λ e. let p = goes_by rest e in
      let n = command_size_by form rest in
      let less : length (drop n rest) ≤ f = omega (arith, length-drop n rest, size_positive rest p.known) in
      let less' : length (drop n rest) ≤ g = omega (arith, length-drop n rest, size_positive rest p.known) in
      ap (λ (r : List Place). (at, command_by form rest) ∷ r) (enough f g (at + n) (drop n rest) less less'))

  -- ---- at the head of the bytes

  module _ (at : ℕ) where
    pub more_by : (rest : List ℕ) → goes_on_by form rest ≡ true
        → places_at form at rest ≡ (at, command_by form rest) ∷ places_at form (at + command_size_by form rest) (drop (command_size_by form rest) rest)
    unfolding places_at places_from
    more_by [] e = absurd (true-false e nothing)
    more_by (x ∷ xs) e =
        let p = goes_by (x ∷ xs) e in
        let n = command_size_by form (x ∷ xs) in
        let less : length (drop n (x ∷ xs)) ≤ length xs = omega (arith, length-drop n (x ∷ xs), size_positive (x ∷ xs) p.known) in
        if-true _ _ e
        ∙ ap (λ (r : List Place). (at, command_by form (x ∷ xs)) ∷ r)
        (enough (length xs) (length (drop n (x ∷ xs))) (at + n) (drop n (x ∷ xs)) less (le_refl _))

    pub over_by : (rest : List ℕ) → goes_on_by form rest ≡ false → places_at form at rest ≡ []
    unfolding places_at places_from
    over_by [] e = refl
    over_by (x ∷ xs) e = if-false _ _ e

  -- the commands are the same wherever the bytes stand
  same_from : (f a b : ℕ) (rest : List ℕ) → unplaced (places_from form f a rest) ≡ unplaced (places_from form f b rest)
  unfolding places_from when◌then◌else◌
  same_from zero a b rest = refl
  same_from (suc f) a b rest =
      go (goes_on_by form rest) refl
      (same_from f (a + command_size_by form rest) (b + command_size_by form rest) (drop (command_size_by form rest) rest))
    where
      go : (t : Bool) → goes_on_by form rest ≡ t
          → unplaced (places_from form f (a + command_size_by form rest) (drop (command_size_by form rest) rest))
          ≡ unplaced (places_from form f (b + command_size_by form rest) (drop (command_size_by form rest) rest))
          → unplaced (places_from form (suc f) a rest) ≡ unplaced (places_from form (suc f) b rest)
      go true e h = rw e (ap (λ (r : List Tape.Command). command_by form rest ∷ r) h)
      go false e h = rw e refl

  pub same_commands : (a b : ℕ) (rest : List ℕ) → unplaced (places_at form a rest) ≡ unplaced (places_at form b rest)
  unfolding places_at
  same_commands a b rest = same_from (length rest) a b rest

-- of the old form, the commands alone
pub more : (rest : List ℕ) → goes_on rest ≡ true → commands rest ≡ command_of rest ∷ commands (drop (command_size rest) rest)
more rest e =
    ap unplaced (more_by old 0 rest e)
    ∙ ap (λ (r : List Tape.Command). command_of rest ∷ r) (same_commands old (0 + command_size rest) 0 (drop (command_size rest) rest))

pub over : (rest : List ℕ) → goes_on rest ≡ false → commands rest ≡ []
over rest e = ap unplaced (over_by old 0 rest e)

-- ---- what the code finds at a place

module _ (form : TapeForm) (tape : List ℕ) (at : ℕ) where
  abbrev here : List Place
  here = places_at form at (drop at tape)

  refused : {n place : ℕ} → Refused n place ≡ standing_by form tape at → here ≡ []
  unfolding goes_on_by standing_by
  refused e = over_by form at (drop at tape) (fails (λ y. (let b = both y in refused_passed (e ∙ ask-yes _ _ _ (b.0, ((both b.1).0, tt))))))

  pub stands_ok : {c : Command} (r : Result Command Refusal) → found_in_by form tape at r ≡ standing_by form tape at → Some c ≡ result_ok r → StandsBy form tape at c
  stands_ok {c} (Ok d) e h = let k : c ≡ d = cc in rw k (stands_by form e)
  stands_ok (Err x) e h = absurd cc

  -- no command stands there
  pub none_stands : (r : Result Command Refusal) → found_in_by form tape at r ≡ standing_by form tape at → result_ok r ≡ None → here ≡ []
  none_stands (Ok d) e h = absurd cc
  none_stands (Err x) e h = refused e

  module _ {c : Command} (s : StandsBy form tape at c) where
    pub end_stands : ends c ≡ true → here ≡ []
    end_stands e =
        over_by form at (drop at tape)
        (fails (λ y. true-false (rw s.same at (ends_same form tape at c ∙ e)) (goes_by form (drop at tape) y).stays))

    goes : ends c ≡ false → GoesBy form (drop at tape)
    goes e = record { known = s.known; inside = s.inside; stays = rw s.same at (ends_same form tape at c ∙ e) }

    pub more_stands : ends c ≡ false → here ≡ (at, command_in tape at c) ∷ places_at form (at + size_of_by form c) (drop (at + size_of_by form c) tape)
    more_stands e =
        let m = more_by form at (drop at tape) (by_goes form (drop at tape) (goes e)) in
        rw (s.same, s.size, ← drop-drop (command_size_by form (drop at tape)) at tape) m
