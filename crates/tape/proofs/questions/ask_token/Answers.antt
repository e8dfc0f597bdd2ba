-- `tape::questions::ask_token` meets its contract. Assumes nothing.
use Prim.Native.Nat.{ℕ, ◌+◌, ◌≤◌, ◌<◌}
use native.Mathlib.Omega.{arith}
use mathlib.Core.Path.{◌≡◌, sym, ap, ◌∙◌}
use mathlib.Core.Bool.{true, false}
use lib.Dec.{leb}
use borrow.Author.Tests.{le-leb, lt-leb}
use Rattle.reference.specs.Control.{not, when◌then◌else◌, let_some◌else◌then◌}
use Rattle.reference.specs.Lists.{is_some}
use Rattle.reference.specs.Questions.{has_line, is_few, is_short, is_printable, is_over, is_offending, first_offending, place_at, ask}
use Rattle.tape.proofs.questions.Asking.{found}
use Rattle.tape.proofs.questions.ask_token.Goals as goal

-- the tests as the code makes them
begun : {n : ℕ} → (n ≡ 0 → ⊥) → leb 1 n ≡ true
begun {n} h = le-leb 1 n (omega (arith, h))

few : (n : ℕ) → n < 1024 → leb (n + 1) 1024 ≡ true
few n h = le-leb (n + 1) 1024 (omega arith)

many : (n : ℕ) → 1024 ≤ n → leb (n + 1) 1024 ≡ false
many n h = lt-leb (n + 1) 1024 (omega arith)

pub returns-then-totals-eq0 : goal.returns-then-totals-eq0
unfolding ask has_line place_at when◌then◌else◌
returns-then-totals-eq0 c = rw (c.at.ensures, lt-leb 1 c.args.totals.lines (omega arith))

pub returns-then-not-token_fits : goal.returns-then-not-token_fits
unfolding ask has_line place_at when◌then◌else◌
returns-then-not-token_fits c = let no = sym c.token_fits.ensures ∙ c.if-not-token_fits.true in
    rw (c.at-then-not-token_fits.ensures, begun c.if-totals-eq0.false, no)

pub returns-then-totals-ge1024 : goal.returns-then-totals-ge1024
unfolding ask has_line is_few place_at when◌then◌else◌
returns-then-totals-ge1024 c = let within = sym c.token_fits.ensures ∙ c.if-not-token_fits.false in
    rw (c.at-then-totals-ge1024.ensures, begun c.if-totals-eq0.false, within, many c.args.totals.tokens c.if-totals-ge1024.true)

pub returns-then-not-text_fits : goal.returns-then-not-text_fits
unfolding ask has_line is_few is_short place_at when◌then◌else◌
returns-then-not-text_fits c = let within = sym c.token_fits.ensures ∙ c.if-not-token_fits.false in
    let no = sym c.text_fits.ensures ∙ c.if-not-text_fits.true in
    rw (c.at-then-not-text_fits.ensures, begun c.if-totals-eq0.false, within, few c.args.totals.tokens c.if-totals-ge1024.false, no)

pub returns-in-Some : goal.returns-in-Some
unfolding ask has_line is_few is_short is_printable not first_offending place_at when◌then◌else◌ let_some◌else◌then◌
returns-in-Some c = let within = sym c.token_fits.ensures ∙ c.if-not-token_fits.false in
    let short = sym c.text_fits.ensures ∙ c.if-not-text_fits.false in
    let here = sym c.in-Some.ensures.place in
    let no = sym (found is_offending c.args.text.now) ∙ ap is_some here in
    let place : c.args.at + (3 + c.in-Some.i) ≡ c.args.at + 3 + c.in-Some.i = omega arith in
    rw (c.at-in-Some.ensures, begun c.if-totals-eq0.false, within, few c.args.totals.tokens c.if-totals-ge1024.false, short, no, here, place)

pub returns-in-None : goal.returns-in-None
unfolding ask has_line is_few is_short is_printable is_over not when◌then◌else◌
returns-in-None c = let within = sym c.token_fits.ensures ∙ c.if-not-token_fits.false in
    let short = sym c.text_fits.ensures ∙ c.if-not-text_fits.false in
    let clean = sym (found is_offending c.args.text.now) ∙ ap is_some (sym c.in-None.ensures.place) in
    rw (begun c.if-totals-eq0.false, within, few c.args.totals.tokens c.if-totals-ge1024.false, short, clean)
