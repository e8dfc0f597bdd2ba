-- A whole tape as text: each turn of the loop over its commands, and what is told at the end. Assumes nothing.
use Prim.Native.Nat.{ℕ, zero, suc, ◌+◌, ◌-◌, ◌<◌}
use native.Mathlib.Omega.{arith}
use native.Mathlib.Decide.{dec_lt}
use mathlib.Core.Path.{◌≡◌, refl, sym, ap, ◌∙◌, subst}
use mathlib.Core.Logic.{by_cases}
use mathlib.Core.Bool.{Bool, true, false, not}
use mathlib.Core.List.{List, [], ◌∷◌, ◌++◌, append-nil}
use mathlib.Core.Option.{some}
use mir.Val.{bool_byte}
use lib.Dec.{eqb, leb, ltb}
use lib.ListN.{length, take, drop, length-drop}
use borrow.Author.Tests.{lt-ltb, le-ltb, le-leb, lt-leb}
use Rattle.std.specs.Prelude as std
use Rattle.reference.specs.Control.{when◌then◌else◌, ◌and◌}
use Rattle.reference.specs.Text.{Text}
use Rattle.reference.specs.Listing.{token}
use Rattle.reference.specs.Tape as Tape
use Rattle.reference.specs.Tape.{command_of, command_size, new_token}
use Rattle.reference.specs.Questions.{Totals, Answer, Refused, Passed, Advance, read_command, is_end}
use Rattle.reference.proofs.Commands.{Sized, sized}
use Rattle.reference.proofs.Reading.{command_passed}
use Rattle.answers.specs.declared.Refusal.{Refusal}
use Rattle.tape.specs.Commands.{command_in, ends}
use Rattle.tape.specs.declared.commands.Command.{Command}
use Rattle.tape.specs.declared.commands.Command.TheVariants.{Addressed, Plain, Marked, Token, End}
use Rattle.listing_text.specs.Room.{laid, Page, puts, Adds, empty}
use Rattle.listing_text.specs.Forms.{line_end, short_hex, span_text, span_of, command_text, TokenEnds}
use Rattle.listing_text.specs.Showing.{Shown, begun, shown_at, shown_from, number_told, place_told, Shows}
use Rattle.lines.specs.declared.marks.Marks.{Marks}
use Rattle.listing_text.proofs.Pages.{puts_append, all-put}

-- ---- marks to read

module _ (own span : Marks) where
  pub same_span : (eqb span.low own.low and eqb span.high own.high) ≡ true → [] ≡ span_text (span_of own) (some (span_of span))
  unfolding span_text when◌then◌else◌
  same_span t = rw t

  pub other_span : (eqb span.low own.low and eqb span.high own.high) ≡ false
      → short_hex span.low ++ (46 ∷ 46 ∷ []) ++ short_hex span.high ++ (32 ∷ []) ≡ span_text (span_of own) (some (span_of span))
  unfolding span_text when◌then◌else◌
  other_span t = rw t

-- ---- a token's text

take_again : (n : ℕ) (s : List ℕ) → take (length (take n s)) s ≡ take n s
take_again zero s = refl
take_again (suc n) [] = refl
take_again (suc n) (x ∷ s) = ap (λ (t : List ℕ). x ∷ t) (take_again n s)

module _ (tape : List ℕ) (at next : ℕ) (t u : Totals) where
  pub token-ends : (c : Command) → Passed (record { command = command_in tape at c; next = next; totals = u }) ≡ read_command tape at t
      → TokenEnds tape at next c
  token-ends (Addressed address indent) e = tt
  token-ends (Plain indent) e = tt
  token-ends (Marked low high) e = tt
  token-ends (Token kind count) e =
      let p = command_passed tape at t _ (sym e) in
      let same : new_token (token kind (take count (drop (at + 3) tape))) ≡ command_of (drop at tape) = ap (λ (a : Advance). a.command) p.1 in
      let size : next ≡ at + command_size (drop at tape) = ap (λ (a : Advance). a.next) p.1 in
      let s : Sized (new_token (token kind (take count (drop (at + 3) tape)))) (command_size (drop at tape)) =
      subst (λ (k : Tape.Command). Sized k (command_size (drop at tape))) (sym same) (sized (drop at tape) p.0.known p.0.inside) in
      let n : ℕ = length (take count (drop (at + 3) tape)) in
      let long : next - (at + 3) ≡ n = omega (arith, s.0) in
      (omega (arith, s.0), omega (arith, p.0.inside, length-drop at tape, s.0), rw long (take_again count (drop (at + 3) tape)))
  token-ends End e = tt

pub ends_same : (tape : List ℕ) (at : ℕ) (c : Command) → is_end (command_in tape at c) ≡ ends c
ends_same tape at (Addressed address indent) = refl
ends_same tape at (Plain indent) = refl
ends_same tape at (Marked low high) = refl
ends_same tape at (Token kind count) = refl
ends_same tape at End = refl

-- ---- each turn

-- a text put onto a page, and how it ended
pub record Told : Type 0 where
  pub where_to : Page
  pub number : ℕ
  pub place : ℕ

unfoldable pub tells : Page → Shown → Told
tells g s = record { where_to = puts g s.text; number = s.number; place = s.place }

module _ (g : Page) (exact : Bool) (tape : List ℕ) (at : ℕ) (fresh : Bool) (turns : ℕ) where
  pub told_over : turns ≡ 0 → record { where_to = g; number = 3; place = at } ≡ tells g (shown_from exact turns tape at fresh)
  unfolding tells shown_from puts
  told_over e = rw e

  module _ (some_left : 0 < turns) {t : Totals} (asked : t ≡ begun at fresh) where
    turn : {x : Answer Advance} → x ≡ read_command tape at t → shown_at exact tape at (shown_from exact (turns - 1) tape) x ≡ shown_from exact turns tape at fresh
    unfolding shown_from
    turn {x} e = step turns some_left
      where
        step : (k : ℕ) → 0 < k → shown_at exact tape at (shown_from exact (k - 1) tape) x ≡ shown_from exact k tape at fresh
        step zero h = absurd (omega arith)
        step (suc k) h =
            let m : suc k - 1 ≡ k = omega arith in
            rw (m, e, asked)

    pub told_refused : {number place : ℕ} {g₁ : Page} → Refused number place ≡ read_command tape at t → Adds g (line_end at) g₁
        → record { where_to = g₁; number = number; place = place } ≡ tells g (shown_from exact turns tape at fresh)
    unfolding tells shown_at
    told_refused {number} {place} e a = rw (← turn e) (λ i. record { where_to = a.same i; number = number; place = place })

    module _ {x : Advance} (e : Passed x ≡ read_command tape at t) {g₁ : Page} (a : Adds g (command_text exact tape at x.next x.command) g₁) where
      pub told_end : is_end x.command ≡ true → record { where_to = g₁; number = 0; place = 0 } ≡ tells g (shown_from exact turns tape at fresh)
      unfolding tells shown_at when◌then◌else◌
      told_end n =
          let s : Text = command_text exact tape at x.next x.command in
          rw (← turn e, n) (λ i. record { where_to = (a.same ∙ ap (puts g) (sym (append-nil s))) i; number = 0; place = 0 })

      pub told-on : is_end x.command ≡ false
          → tells g₁ (shown_from exact (turns - 1) tape x.next x.totals.fresh) ≡ tells g (shown_from exact turns tape at fresh)
      unfolding tells shown_at when◌then◌else◌
      told-on n =
          let s : Text = command_text exact tape at x.next x.command in
          let r : Shown = shown_from exact (turns - 1) tape x.next x.totals.fresh in
          rw (← turn e, n)
          (λ i. record { where_to = (ap (λ (h : Page). puts h r.text) a.same ∙ sym (puts_append g s r.text)) i; number = r.number; place = r.place })

-- ---- what is asked

pub begun_asked : (at : ℕ) (fresh : Bool) {n : ℕ} → n ≡ bool_byte (not (eqb at 0)) → record { lines = n; tokens = 0; text = 0; fresh = fresh } ≡ begun at fresh
unfolding begun when◌then◌else◌
begun_asked at fresh e = (λ i. record { lines = (e ∙ go (eqb at 0)) i; tokens = 0; text = 0; fresh = fresh })
  where
    go : (b : Bool) → bool_byte (not b) ≡ (when b then 0 else 1)
    go true = refl
    go false = refl

-- ---- the end

whole_when : (m n : ℕ) → not (ltb m n) ≡ leb n m
whole_when m n =
    by_cases (dec_lt m n) (λ h. ap not (lt-ltb m n h) ∙ sym (lt-leb n m h)) (λ h. ap not (le-ltb m n (omega arith)) ∙ sym (le-leb n m (omega arith)))

module _ (out : List ℕ) (s : Shown) {g : Page} {number place : ℕ} (e : record { where_to = g; number = number; place = place } ≡ tells (empty out) s) where
  pub told-shows : {out' : List ℕ} → out' ≡ g.bytes → {refusal : std.Option Refusal} → number_told refusal ≡ number → place_told refusal ≡ place
      → Shows s out out' (record { length = g.at; whole = not g.cut; refusal = refusal })
  unfolding tells
  told-shows f m p =
      let all : g ≡ record { bytes = laid out s.text; at = length (take (length out) s.text); cut = ltb (length out) (length s.text) } =
      ap (λ (k : Told). k.where_to) e ∙ all-put out s.text in
      record {
        bytes_are = f ∙ ap (λ (k : Page). k.bytes) all;
        length_is = ap (λ (k : Page). k.at) all;
        whole_is = ap (λ (k : Page). not k.cut) all ∙ whole_when (length out) (length s.text);
        number_is = m ∙ ap (λ (k : Told). k.number) e;
        place_is = p ∙ ap (λ (k : Told). k.place) e;
      }
