-- Where a refusal is: how long the pieces of its line are, and the spot command by command. Assumes nothing.
use Rattle.std.proofs.Common.{◌≡◌, ℕ, ◌+◌, ◌≤◌, ◌<◌, Bool, true, false, List, [], ◌∷◌, ◌++◌, ltb, eqb, length, refl, arith, if◌then◌else◌}
use lib.ListN.{length-append}
use borrow.Author.Tests.{ne_eqb, lt-ltb, le-ltb}
use Rattle.reference.specs.Control.{when◌then◌else◌}
use Rattle.std.specs.Prelude.{Option, Some, None}
use Rattle.reference.specs.Listing.{Listing}
use Rattle.reference.specs.Questions.{Answer, Refused, Passed, read}
use Rattle.formula.specs.Breaches.{breach_at}
use Rattle.formula.specs.declared.breaches.Breach.{Breach}
use Rattle.formula.specs.declared.breaches.Breach.TheVariants as breach
use Rattle.reference.specs.Text.{Text, bytes}
use Rattle.reference.specs.Tape as Tape
use Rattle.printing.specs.Decimals.{decimal}
use Rattle.printing.proofs.Decimals.{decimal-length}
use Rattle.tape.specs.Commands.{Sized, standing}
use Rattle.tape.specs.Held.{Place}
use Rattle.tape.proofs.walk.Spending.{bytes_of}
use Rattle.reports.specs.declared.places.Spot.{Spot}
use Rattle.reports.specs.Places.{after, spot_from}
use Rattle.reports.specs.Why.{no_command, misplaced, unbounded, too_many, words_by, words_at, words}
use Rattle.reports.specs.Reports.{head}
use Rattle.reports.specs.Explained.{is_behind, to_line, token_part, located}
use Rattle.reports.specs.Profile.{breach_words, words_of_breach, broken_in, broken}
use Rattle.reports.proofs.Putting.{meaning-length}

-- ---- how long the pieces are

pub head-length : (number place : ℕ) → length (head number place) ≤ 52
unfolding head
head-length n p = simp length-append (omega (arith, decimal-length n, decimal-length p))

pub to_line-length : (number : ℕ) → length (to_line number) ≤ 14
to_line-length n = either (is_behind n)
  where
    either : (t : Bool) → length (if t then bytes ", behind line " else bytes ", line ") ≤ 14
    either true = omega arith
    either false = omega arith

token-length : (s : Spot) → length (token_part s) ≤ 28
token-length s = either (eqb s.token 0)
  where
    either : (t : Bool) → length (if t then [] else bytes ", token " ++ decimal s.token) ≤ 28
    either true = omega arith
    either false = simp length-append (omega (arith, decimal-length s.token))

pub located-length : (number : ℕ) (s : Spot) → length (located number s) ≤ 62
unfolding located
located-length n s = either (eqb s.line 0)
  where
    either : (t : Bool) → length (if t then [] else to_line n ++ decimal s.line ++ token_part s) ≤ 62
    either true = omega arith
    either false = simp length-append (omega (arith, decimal-length s.line, to_line-length n, token-length s))

pub located-begun : (number : ℕ) (s : Spot) → (s.line ≡ 0 → ⊥) → located number s ≡ (to_line number ++ decimal s.line) ++ token_part s
unfolding located
located-begun n s h = rw (ne_eqb s.line 0 h) refl

-- ---- the words

abbrev Short : Text → Type 0
Short t = length t ≤ 200

if_short : (t : Bool) (a b : Text) → Short a → Short b → Short (if t then a else b)
if_short true a b h k = h
if_short false a b h k = k

no_command-short : (tape : List ℕ) (place : ℕ) → Short (no_command tape place)
unfolding no_command
no_command-short tape place = if_short (ltb place (length tape)) _ _ (omega arith) (omega arith)

misplaced-short : (c : Tape.Command) → Short (misplaced c)
unfolding misplaced
misplaced-short (Tape.new_line a i) = omega arith
misplaced-short (Tape.marked s) = if_short (ltb s.highest s.lowest) _ _ (omega arith) (omega arith)
misplaced-short (Tape.new_token t) = omega arith
misplaced-short Tape.end = omega arith

unbounded-short : (c : Tape.Command) (size : ℕ) → Short (unbounded c size)
unfolding unbounded
unbounded-short (Tape.new_line a i) n = omega arith
unbounded-short (Tape.marked s) n = omega arith
unbounded-short (Tape.new_token t) n = if_short (eqb n 3) _ _ (omega arith) (omega arith)
unbounded-short Tape.end n = omega arith

too_many-short : (c : Tape.Command) → Short (too_many c)
unfolding too_many
too_many-short (Tape.new_line a i) = omega arith
too_many-short (Tape.marked s) = omega arith
too_many-short (Tape.new_token t) = omega arith
too_many-short Tape.end = omega arith

by-short : (number : ℕ) (c : Sized) → Short (words_by number c)
unfolding words_by
by-short n c =
    if_short (eqb n 5) _ _ (misplaced-short c.0)
    (if_short (eqb n 6) _ _ (unbounded-short c.0 c.1) (if_short (eqb n 10) _ _ (too_many-short c.0) (meaning-length n)))

at-short : (number : ℕ) (r : Answer Sized) → Short (words_at number r)
at-short n (Passed c) = by-short n c
at-short n (Refused m place) = meaning-length n

breach-short : (b : Breach) → Short (breach_words b)
breach-short breach.NoLine = omega arith
breach-short breach.Indent = omega arith
breach-short breach.NoToken = omega arith
breach-short breach.NoReturn = omega arith
breach-short breach.NoTarget = omega arith
breach-short breach.NarrowRegister = omega arith
breach-short breach.UntidyNumber = omega arith
breach-short breach.UnreadNumber = omega arith
breach-short breach.ForeignToken = omega arith
breach-short breach.NoBlank = omega arith
breach-short breach.NoEquals = omega arith
breach-short breach.Brackets = omega arith
breach-short breach.Signs = omega arith
breach-short breach.TwoPuncts = omega arith

broken-short : (tape : List ℕ) (n : ℕ) → Short (broken tape n)
unfolding broken
broken-short tape n = go (read tape)
  where
    told : (o : Option Breach) → Short (words_of_breach o)
    told (Some b) = breach-short b
    told None = meaning-length 14

    go : (r : Answer Listing) → Short (broken_in n r)
    go (Passed lines) = told (breach_at lines n)
    go (Refused number place) = meaning-length 14

pub words-length : (tape : List ℕ) (number place : ℕ) → length (words tape number place) ≤ 200
unfolding words
words-length tape n place =
    if_short (eqb n 3) _ _ (no_command-short tape place) (if_short (eqb n 14) _ _ (broken-short tape place) (at-short n (standing tape place)))

-- ---- the spot

module _ (s : Spot) (place : ℕ) where
  pub spot_end : s ≡ spot_from s place []
  unfolding spot_from
  spot_end = refl

  module _ (at : ℕ) (c : Tape.Command) (more : List Place) where
    pub spot_here : place < at → s ≡ spot_from s place ((at, c) ∷ more)
    unfolding spot_from when◌then◌else◌
    spot_here h = rw (lt-ltb place at h) refl

    pub spot_on : at ≤ place → spot_from s place ((at, c) ∷ more) ≡ spot_from (after s c) place more
    unfolding spot_from when◌then◌else◌
    spot_on h = rw (le-ltb place at h) refl

-- each command has a byte for its line or token
pub few_next : (s : Spot) (c : Tape.Command) (more : List Tape.Command)
    → ((after s c).line + bytes_of more ≤ s.line + bytes_of (c ∷ more)) × ((after s c).token + bytes_of more ≤ s.token + bytes_of (c ∷ more))
few_next s (Tape.new_line a i) more = (omega arith, omega arith)
few_next s (Tape.marked m) more = (omega arith, omega arith)
few_next s (Tape.new_token t) more = (omega arith, omega arith)
few_next s Tape.end more = (omega arith, omega arith)
