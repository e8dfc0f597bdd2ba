-- No place earns a refusal just where no token of the listing does. Assumes nothing.
use Prim.Native.Nat.{ℕ, zero, suc, ◌+◌, ◌≤◌}
use native.Mathlib.Omega.{arith}
use mathlib.Core.Path.{◌≡◌, refl, sym, ap, ◌∙◌}
use mathlib.Core.Bool.{Bool, true, false, false≢true}
use mathlib.Core.List.{List, [], ◌∷◌, ◌++◌}
use mathlib.Core.Option.{none, some}
use lib.ListN.{length, drop, length-append}
use borrow.Author.Tests.{leb-true}
use Rattle.reference.specs.Control.{◌or◌}
use Rattle.reference.specs.Lists.{any, modify}
use Rattle.reference.specs.Listing.{Token, Listing}
use Rattle.reference.specs.Tape.{Command, new_line, marked, new_token, end, command_size, command_of}
use Rattle.reference.specs.Questions.{Totals, has_line, Answer, Passed, count_in, is_end, add, read_from, read, read_by, read_from_by}
use Rattle.reference.proofs.Cases.{by-if, neither, none-some, fails}
use Rattle.reference.proofs.Lines.{length-modify}
use Rattle.reference.proofs.Reading.{refused_passed, passed_inj, by_passed, command_passed}
use Rattle.reference.proofs.Writing.{with_token}
use Rattle.laws.proofs.Scans.{any_append, if-true, if-false}
use Rattle.editions.specs.Conversion.{holds, of_command, first_place}
use Rattle.editions.proofs.Listings.{or_both}

-- ---- the first place, by the command at the offset

module _ (p : Command → Bool) (fuel : ℕ) (tape : List ℕ) (at : ℕ) where
  -- where the test holds of it, this is the place
  first_here : p (command_of (drop at tape)) ≡ true → first_place p (suc fuel) tape at ≡ some at
  unfolding first_place
  first_here e = if-true _ _ e

  -- otherwise it is looked for behind the command
  first-later : p (command_of (drop at tape)) ≡ false → is_end (command_of (drop at tape)) ≡ false
      → first_place p (suc fuel) tape at ≡ first_place p fuel tape (at + command_size (drop at tape))
  unfolding first_place
  first-later e n = if-false _ _ e ∙ if-false _ _ n

  first-over : p (command_of (drop at tape)) ≡ false → is_end (command_of (drop at tape)) ≡ true
      → first_place p (suc fuel) tape at ≡ none
  unfolding first_place
  first-over e n = if-false _ _ e ∙ if-true _ _ n

-- ---- one command more

module _ (p : Token → Bool) where
  of_end : (c : Command) → is_end c ≡ true → of_command p c ≡ false
  unfolding of_command
  of_end (new_line address indent) e = refl
  of_end (marked s) e = refl
  of_end (new_token t) e = absurd (false≢true e)
  of_end end e = refl

  one_more : (t : Token) (ts : List Token) → any p ts ≡ false → p t ≡ false → any p (ts ++ (t ∷ [])) ≡ false
  one_more t ts h e = any_append p ts (t ∷ []) ∙ or_both h (or_both e refl)

  one_less : (t : Token) (ts : List Token) → any p (ts ++ (t ∷ [])) ≡ false → (any p ts ≡ false) × (p t ≡ false)
  one_less t ts h = let n = neither (sym (any_append p ts (t ∷ [])) ∙ h) in (n.0, (neither n.1).0)

  in_modify : (i : ℕ) (t : Token) (lines : Listing) → holds p lines ≡ false → p t ≡ false → holds p (modify i (with_token t) lines) ≡ false
  unfolding holds
  in_modify i t [] h e = refl
  in_modify zero t (l ∷ ls) h e = or_both (one_more t l.tokens (neither h).0 e) (neither h).1
  in_modify (suc i) t (l ∷ ls) h e = or_both (neither h).0 (in_modify i t ls (neither h).1 e)

  of_modify : (i : ℕ) (t : Token) (lines : Listing) → suc i ≤ length lines → holds p (modify i (with_token t) lines) ≡ false
      → (holds p lines ≡ false) × (p t ≡ false)
  unfolding holds
  of_modify i t [] le h = absurd (omega arith)
  of_modify zero t (l ∷ ls) le h = let o = one_less t l.tokens (neither h).0 in (or_both o.0 (neither h).1, o.1)
  of_modify (suc i) t (l ∷ ls) le h = let o = of_modify i t ls (omega arith) (neither h).1 in (or_both (neither h).0 o.0, o.1)

  holds-add : (c : Command) (lines : Listing) → holds p lines ≡ false → of_command p c ≡ false → holds p (add c lines) ≡ false
  unfolding add of_command holds ◌or◌
  holds-add (new_line address indent) lines h e = any_append (λ l. any p l.tokens) lines _ ∙ or_both h refl
  holds-add (marked s) lines h e = h
  holds-add (new_token t) lines h e = in_modify _ t lines h e
  holds-add end lines h e = h

  add_holds : (t : Totals) (c : Command) (lines : Listing) → t.lines ≡ length lines → has_line t c ≡ true → holds p (add c lines) ≡ false
      → (holds p lines ≡ false) × (of_command p c ≡ false)
  unfolding add of_command has_line holds
  add_holds t (new_line address indent) lines k b h =
      ((neither (sym (any_append (λ l. any p l.tokens) lines _) ∙ h)).0, refl)
  add_holds t (marked s) lines k b h = (h, refl)
  add_holds t (new_token s) lines k b h = of_modify _ s lines (omega (arith, leb-true 1 t.lines b)) h
  add_holds t end lines k b h = (h, refl)

more_lines : (t : Totals) (c : Command) (lines : Listing) → t.lines ≡ length lines → (count_in c t).lines ≡ length (add c lines)
unfolding count_in add
more_lines t (new_line address indent) lines k =
    omega (arith, length-append lines (record { address = address; indent = indent; tokens = [] } ∷ []))
more_lines t (marked s) lines k = k
more_lines t (new_token s) lines k = k ∙ sym (length-modify (with_token s) _ lines)
more_lines t end lines k = k

-- ---- the whole tape

module _ (p : Token → Bool) (tape : List ℕ) (out : Listing) where
  -- where no place is found, no token of the listing is
  clean_from : (fuel at : ℕ) (t : Totals) (lines : Listing) → first_place (of_command p) fuel tape at ≡ none → holds p lines ≡ false
      → read_from fuel tape at t lines ≡ Passed out → holds p out ≡ false
  unfolding read_from_by
  clean_from zero at t lines f h = λ e. absurd (refused_passed e)
  clean_from (suc fuel) at t lines f h =
      by_passed (λ (x : Answer Listing). x ≡ Passed out → holds p out ≡ false)
      (λ number place u e. absurd (refused_passed e))
      (λ a known e.
      (let q = command_passed tape at t a known in
      let no : of_command p (command_of (drop at tape)) ≡ false =
      fails (λ yes. none-some (sym f ∙ first_here (of_command p) fuel tape at yes)) in
      by-if (λ (x : Answer Listing). x ≡ Passed out → holds p out ≡ false)
      (λ ends e. ap (holds p) (sym (passed_inj e)) ∙ h)
      (λ goes e. clean_from fuel _ _ _ (sym (first-later (of_command p) fuel tape at no goes) ∙ f) (holds-add p _ lines h no) e)
      (rw q.1 at e)))

  -- and where none is, no place
  abbrev Nowhere : ℕ → ℕ → Listing → Type 0
  Nowhere fuel at lines = (first_place (of_command p) fuel tape at ≡ none) × (holds p lines ≡ false)

  place_from : (fuel at : ℕ) (t : Totals) (lines : Listing) → t.lines ≡ length lines → holds p out ≡ false
      → read_from fuel tape at t lines ≡ Passed out → Nowhere fuel at lines
  unfolding read_from_by
  place_from zero at t lines k h = λ e. absurd (refused_passed e)
  place_from (suc fuel) at t lines k h =
      by_passed (λ (x : Answer Listing). x ≡ Passed out → Nowhere (suc fuel) at lines)
      (λ number place u e. absurd (refused_passed e))
      (λ a known e.
      (let q = command_passed tape at t a known in
      by-if (λ (x : Answer Listing). x ≡ Passed out → Nowhere (suc fuel) at lines)
      (λ ends e. (first-over (of_command p) fuel tape at (of_end p _ ends) ends, ap (holds p) (passed_inj e) ∙ h))
      (λ goes e.
      (let r = place_from fuel _ _ _ (more_lines t (command_of (drop at tape)) lines k) h e in
      let o = add_holds p t (command_of (drop at tape)) lines k q.0.begun r.1 in
      (first-later (of_command p) fuel tape at o.1 goes ∙ r.0, o.0)))
      (rw q.1 at e)))

  module _ (e : read tape ≡ Passed out) where
    pub clean : first_place (of_command p) (length tape) tape 0 ≡ none → holds p out ≡ false
    unfolding read_by holds
    clean f = clean_from (length tape) 0 _ [] f refl e

    pub no_place : holds p out ≡ false → first_place (of_command p) (length tape) tape 0 ≡ none
    unfolding read_by
    no_place h = (place_from (length tape) 0 _ [] refl h e).0
