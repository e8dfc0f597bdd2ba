-- What breaks the profile in a loaded listing is what breaks it in the tape's. Assumes nothing.
use Rattle.std.proofs.Common.{◌≡◌, ℕ, ◌≤◌, List, length, take, length-take, sym, ap, ◌∙◌, arith}
use mathlib.Core.Path.{subst}
use Rattle.std.specs.Prelude as std
use Rattle.reference.specs.Listing.{Listing}
use Rattle.reference.specs.Questions.{Refused, Passed, read}
use Rattle.reference.proofs.Reading.{passed_inj, refused_passed}
use Rattle.lines.specs.Lines.{Reading, own, listing_read}
use Rattle.tape.specs.declared.questions.Totals.{Totals}
use Rattle.tables.specs.Tables.{Loaded}
use Rattle.tables.proofs.loading.Loaded.{loaded-limits}
use Rattle.formula.specs.Breaches.{breach_at, Tells}
use Rattle.formula.specs.declared.breaches.Breach.{Breach}
use Rattle.reports.specs.Reports.{meaning}
use Rattle.reports.specs.Profile.{words_of_breach, broken_in, broken}

module _ (tape tokens lines addresses : List ℕ) (t : Totals) (l : Loaded tape tokens lines addresses t) where
  pub few_tokens : length (take t.tokens tokens) ≤ 1024
  few_tokens = omega (arith, length-take t.tokens tokens, loaded-limits l)

  same_listing : (input : Listing) → read tape ≡ Passed input → listing_read tape tape (take t.tokens tokens) (own addresses) (take t.lines lines) ≡ input
  same_listing input e = passed_inj (sym (l.listing tape) ∙ e)

  pub first_is : (n : ℕ) {r : std.Option Breach}
      → ((reading : Reading) → r ≡ breach_at (listing_read tape tape (take t.tokens tokens) reading (take t.lines lines)) n)
      → (input : Listing) → read tape ≡ Passed input → r ≡ breach_at input n
  first_is n h input e = h (own addresses) ∙ ap (λ (x : Listing). breach_at x n) (same_listing input e)

  pub tells_it : ((reading : Reading) → Tells (listing_read tape tape (take t.tokens tokens) reading (take t.lines lines)))
      → (input : Listing) → read tape ≡ Passed input → Tells input
  tells_it h input e = subst Tells (same_listing input e) (h (own addresses))

-- of a tape that is refused nothing need be told
pub none_told : (tape : List ℕ) {number place : ℕ} → read tape ≡ Refused number place → (input : Listing) → read tape ≡ Passed input → Tells input
none_told tape r input e = absurd (refused_passed (sym r ∙ e))

module _ (tape : List ℕ) (n : ℕ) where
  pub of_refused : {number place : ℕ} → read tape ≡ Refused number place → broken tape n ≡ meaning 14
  unfolding broken
  of_refused e = ap (broken_in n) e

  pub of_passed : {lines : Listing} → read tape ≡ Passed lines → broken tape n ≡ words_of_breach (breach_at lines n)
  unfolding broken
  of_passed e = ap (broken_in n) e
