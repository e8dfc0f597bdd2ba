-- The cut of a longer tape. Assumes nothing.
use Prim.Native.Nat.{ℕ, suc, ◌<◌}
use native.Mathlib.Omega.{arith}
use native.Mathlib.Nat.{le_refl}
use mathlib.Core.Path.{◌≡◌, refl}
use mathlib.Core.Bool.{true, false}
use mathlib.Core.List.{List, [], ◌∷◌}
use lib.Dec.{leb}
use lib.ListN.{length, take, length-take}
use lib.Seq.{take-take}
use borrow.Author.Tests.{le-leb, lt-leb}
use Rattle.reference.specs.Questions.{WORK, OUTPUT, Refused}
use Rattle.reference.specs.Reply.{reply}
use Rattle.reference.proofs.Opened.{opened}
use Rattle.filter.specs.Response.{refusal, shown, settings, LONGEST, response}

-- What stands behind a convention byte and 65,536 bytes does not matter, so it need not be read: `main` reads no more.
pub unread : (input : List ℕ) → response (take (suc LONGEST) input) ≡ response input
unfolding response
unread [] = refl
unread (convention ∷ tape) = rw (take-take LONGEST LONGEST tape (le_refl LONGEST))

past_the_tape : (front : List ℕ) → length front < 65535
    → reply (settings 1) (0x02 ∷ 0x00 ∷ 0x10 ∷ 0xFF ∷ 0xFF ∷ front) WORK WORK OUTPUT ≡ Refused 4 2
unfolding opened
past_the_tape front h =
    let line : leb 2 (suc (suc (suc (suc (suc (length front)))))) ≡ true = le-leb 2 (suc (suc (suc (suc (suc (length front)))))) (omega arith) in
    let text : leb 65538 (suc (suc (suc (length front)))) ≡ false = lt-leb 65538 (suc (suc (suc (length front)))) (omega arith) in
    simp (line, text)

-- A token that says of itself that it has 65,535 bytes, behind a line without address, never ends inside 65,536 bytes of tape: refused 4 at 2, whatever
-- follows. Where 65,535 bytes of text and FF follow, a filter that did not cut would say 11 at 2.
pub long_text : (rest : List ℕ) → response (0x01 ∷ 0x02 ∷ 0x00 ∷ 0x10 ∷ 0xFF ∷ 0xFF ∷ rest) ≡ refusal 4 2
unfolding response LONGEST shown
long_text rest = rw (past_the_tape (take 65531 rest) (simp length-take (omega arith)))
