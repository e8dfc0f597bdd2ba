-- Request M-102's second statement: the sum that the reading carries along, of accepted and refused tapes alike. Assumes nothing.
use Prim.Native.Nat.{ℕ, zero, suc, ◌+◌, ◌≤◌}
use native.Mathlib.Omega.{arith}
use native.Mathlib.Nat.{add-zero}
use mathlib.Core.Path.{◌≡◌, refl, sym, ap, ◌∙◌}
use mathlib.Core.Bool.{true}
use mathlib.Core.List.{List, [], ◌∷◌}
use lib.ListN.{length, drop}
use Rattle.reference.specs.Listing.{Listing}
use Rattle.reference.specs.Tape.{TapeForm, old, header, Command, new_line, marked, new_token, end, command_by}
use Rattle.reference.specs.Questions.{Totals, Answer, Refused, Passed, count_in, Advance, read_command_by, is_end, no_commands, read_from_by, read_by, read}
use Rattle.reference.specs.Steps.{ComesBy, Comes, begins, goes_on, text_bytes, all_texts}
use Rattle.reference.proofs.Cases.{by-if}
use Rattle.reference.proofs.Weights.{sum-append}
use Rattle.reference.proofs.Reading.{refused_passed, by_passed, command_passed_by, advances, no_byte_by}

text_counted : (c : Command) (t : Totals) → (count_in c t).text ≡ t.text + text_bytes c
unfolding count_in
text_counted (new_line address indent) t = sym (add-zero t.text)
text_counted (marked s) t = sym (add-zero t.text)
text_counted (new_token s) t = refl
text_counted end t = sym (add-zero t.text)

module _ (form : TapeForm) (tape : List ℕ) where
  -- READ FROM THE START, THE SUM AT EVERY COMMAND IS THE BYTES OF ALL TEXTS SO FAR
  pub sum-so_far_by : {at : ℕ} {t : Totals} {before : List Command} → ComesBy form tape at t before → t.text ≡ all_texts before
  sum-so_far_by begins = refl
  sum-so_far_by (goes_on {at = at} {t = t} {before = before} {a = a} r e n) =
      let p = command_passed_by form tape at t a e in
      let c : Command = command_by form (drop at tape) in
      let counted : a.totals.text ≡ t.text + text_bytes c = ap (λ (a : Advance). a.totals.text) p.1 ∙ text_counted c t in
      let same : text_bytes a.command ≡ text_bytes c = ap (λ (a : Advance). text_bytes a.command) p.1 in
      omega (arith, counted, same, sum-so_far_by r, sum-append text_bytes before (a.command ∷ []))

  -- the reading comes to a command, and the step answers this
  pub record StopsBy (answer : Answer Advance) : Type 0 where
    pub at : ℕ
    pub totals : Totals
    pub before : List Command
    pub comes : ComesBy form tape at totals before
    pub answers : read_command_by form tape at totals ≡ answer

  -- A REFUSED TAPE IS REFUSED AT A COMMAND THAT THE READING COMES TO
  pub refused_at_by : {number place : ℕ} → read_by form tape ≡ Refused number place → StopsBy (Refused number place)
  unfolding read_by read_from_by
  refused_at_by {number} {place} = go (length tape) (header form) (no_commands) [] [] begins (omega arith)
    where
      go : (fuel at : ℕ) (t : Totals) (lines : Listing) (before : List Command) → ComesBy form tape at t before → length tape ≤ at + fuel
          → read_from_by form fuel tape at t lines ≡ Refused number place → StopsBy (Refused number place)
      go zero at t lines before r h = λ e.
          (let n : 3 ≡ number = cc in
          let p : at ≡ place = cc in
          record { at = at; totals = t; before = before; comes = r; answers = no_byte_by form tape at t (omega arith) ∙ (λ i. Refused (n i) (p i)) })
      go (suc fuel) at t lines before r h =
          by_passed (λ (x : Answer Listing). x ≡ Refused number place → StopsBy (Refused number place))
          (λ m q u e.
          (let n : m ≡ number = cc in
          let p : q ≡ place = cc in
          record { at = at; totals = t; before = before; comes = r; answers = u ∙ (λ i. Refused (n i) (p i)) }))
          (λ a u.
          by-if (λ (x : Answer Listing). x ≡ Refused number place → StopsBy (Refused number place))
          (λ ends e. absurd (refused_passed (sym e)))
          (λ on e.
          (let c = command_passed_by form tape at t a u in
          let far : length tape ≤ a.next + fuel = omega (arith, advances tape at t c.0, ap (λ (a : Advance). a.next) c.1) in
          go fuel a.next a.totals _ _ (goes_on r u on) far e)))

  -- AN ACCEPTED TAPE IS ACCEPTED AT AN END THAT THE READING COMES TO
  pub accepted_at_by : {out : Listing} → read_by form tape ≡ Passed out → (a : Advance) × (is_end a.command ≡ true) × StopsBy (Passed a)
  unfolding read_by read_from_by
  accepted_at_by {out} = go (length tape) (header form) (no_commands) [] [] begins
    where
      go : (fuel at : ℕ) (t : Totals) (lines : Listing) (before : List Command) → ComesBy form tape at t before → read_from_by form fuel tape at t lines ≡ Passed out
          → (a : Advance) × (is_end a.command ≡ true) × StopsBy (Passed a)
      go zero at t lines before r = λ e. absurd (refused_passed e)
      go (suc fuel) at t lines before r =
          by_passed (λ (x : Answer Listing). x ≡ Passed out → (a : Advance) × (is_end a.command ≡ true) × StopsBy (Passed a))
          (λ m q u e. absurd (refused_passed e))
          (λ a u.
          by-if (λ (x : Answer Listing). x ≡ Passed out → (a : Advance) × (is_end a.command ≡ true) × StopsBy (Passed a))
          (λ ends e. (a, ends, record { at = at; totals = t; before = before; comes = r; answers = u }))
          (λ on e. go fuel a.next a.totals _ _ (goes_on r u on) e))

-- ---- the old form's

abbrev pub Stops : List ℕ → Answer Advance → Type 0
Stops = StopsBy old

module _ (tape : List ℕ) where
  pub sum-so_far : {at : ℕ} {t : Totals} {before : List Command} → Comes tape at t before → t.text ≡ all_texts before
  sum-so_far = sum-so_far_by old tape

  pub refused_at : {number place : ℕ} → read tape ≡ Refused number place → Stops tape (Refused number place)
  refused_at = refused_at_by old tape

  pub accepted_at : {out : Listing} → read tape ≡ Passed out → (a : Advance) × (is_end a.command ≡ true) × Stops tape (Passed a)
  accepted_at = accepted_at_by old tape
