-- The tape of `laborious n` is accepted, for every n up to 256: it has 2 + 4 (n - 1) tokens, 1,022 at most, and 2 + 10 (n - 1) bytes of
-- text. With it all that M-108 claims. Assumes nothing.
use Prim.Native.Nat.{ℕ, zero, suc, ◌*◌, ◌≤◌, ◌<◌}
use Prim.Native.String.{String}
use native.Mathlib.Omega.{arith}
use mathlib.Core.Path.{◌≡◌, refl, ◌∙◌, subst}
use mathlib.Core.Bool.{false}
use mathlib.Core.List.{List, [], ◌∷◌}
use mathlib.Core.Option.{none}
use lib.Dec.{ltb}
use lib.ListN.{length, replicate, length-replicate}
use Rattle.reference.specs.Control.{◌or◌}
use Rattle.reference.specs.Lists.{any}
use Rattle.reference.specs.Text.{bytes}
use Rattle.reference.specs.Listing.{Token, token, Register, Listing}
use Rattle.reference.specs.Claim.{token_count, text}
use Rattle.reference.specs.Run.{propagate_once}
use Rattle.reference.specs.Spans.{Marks}
use Rattle.reference.specs.Tape.{write_lines, write_by, write_lines_by}
use Rattle.reference.proofs.Limits.{All, MarksFit, TokenFits, LineFits, TapeFits}
use Rattle.reference.proofs.Commands.{AddressFits}
use Rattle.reference.proofs.Written.{read-write}
use Rattle.laborious.specs.Most.{most_attempts}
use Rattle.laborious.specs.Listing.{label, move, to_and_fro, laborious, laborious_tape, MostLaborious}
use Rattle.laborious.proofs.Most.{at_most, first_round}
use Rattle.laborious.proofs.Attained.{to_and_fro-length, laborious-length, makes_most}

-- ---- each line

fits : (t : Token) → t.kind < 8 → 1 ≤ length t.text → length t.text ≤ 24 → any (λ b. ltb b 0x20 or ltb 0x7E b) t.text ≡ false
    → TokenFits t
fits t k some_text short p = record { kind = k; some_text = some_text; number = λ e. short; printable = p }

label-fits : LineFits label
unfolding ◌or◌
label-fits =
    record {
      indent = omega arith;
      tokens = (fits _ (omega arith) (omega arith) (omega arith) refl, (fits _ (omega arith) (omega arith) (omega arith) refl, tt));
    }

move-fits : (to from : String) → TokenFits (token Register (bytes to)) → TokenFits (token Register (bytes from)) → LineFits (move to from)
unfolding ◌or◌
move-fits to from p q =
    record {
      indent = omega arith;
      tokens =
          (p, (fits _ (omega arith) (omega arith) (omega arith) refl, (q, (fits _ (omega arith) (omega arith) (omega arith) refl, tt))));
    }

-- ---- the lines together

-- a register's name, of three bytes
record Name (s : String) : Type 0 where
  token_fits : TokenFits (token Register (bytes s))
  three : length (bytes s) ≡ 3

rbx : Name "rbx"
unfolding ◌or◌
rbx = record { token_fits = fits _ (omega arith) (omega arith) (omega arith) refl; three = refl }

rbp : Name "rbp"
unfolding ◌or◌
rbp = record { token_fits = fits _ (omega arith) (omega arith) (omega arith) refl; three = refl }

rsi : Name "rsi"
unfolding ◌or◌
rsi = record { token_fits = fits _ (omega arith) (omega arith) (omega arith) refl; three = refl }

record Moves (lines : Listing) (n : ℕ) : Type 0 where
  tokens : token_count lines ≡ 4 * n
  bytes_of : text lines ≡ 10 * n
  each : All LineFits lines
  addresses : All (λ l. AddressFits l.address) lines

to_and_fro-moves : (x y : String) → Name x → Name y → (n : ℕ) → Moves (to_and_fro x y n) n
unfolding to_and_fro
to_and_fro-moves x y p q zero = record { tokens = refl; bytes_of = refl; each = tt; addresses = tt }
to_and_fro-moves x y p q (suc n) =
    let h = to_and_fro-moves y x q p n in
    record {
      tokens = omega (arith, h.tokens);
      bytes_of = omega (arith, h.bytes_of, p.three, q.three);
      each = (move-fits y x q.token_fits p.token_fits, h.each);
      addresses = (tt, h.addresses);
    }

laborious-fits : (n : ℕ) → n ≤ 256 → TapeFits (laborious n)
unfolding laborious
laborious-fits zero le =
    record {
      limits = record { few_lines = omega arith; few_tokens = omega arith; short_text = omega arith; each = tt };
      addresses = tt;
    }
laborious-fits (suc zero) le =
    record {
      limits = record { few_lines = omega arith; few_tokens = omega arith; short_text = omega arith; each = (label-fits, tt) };
      addresses = (tt, tt);
    }
laborious-fits (suc (suc n)) le =
    let h = to_and_fro-moves "rbx" "rbp" rbx rbp n in
    record {
      limits =
          record {
            few_lines = omega (arith, to_and_fro-length "rbx" "rbp" n);
            few_tokens = omega (arith, h.tokens);
            short_text = omega (arith, h.bytes_of);
            each = (label-fits, (move-fits "rbx" "rsi" rbx.token_fits rsi.token_fits, h.each));
          };
      addresses = (tt, (tt, h.addresses));
    }

-- ---- the tape

-- none of n lines has marks
abbrev unmarked : ℕ → List Marks
unmarked n = replicate n none

unmarked_fit : (n : ℕ) → All MarksFit (unmarked n)
unmarked_fit zero = tt
unmarked_fit (suc n) = (tt, unmarked_fit n)

write-unmarked : (lines : Listing) → write_lines lines (unmarked (length lines)) ≡ write_lines lines []
unfolding write_lines_by
write-unmarked [] = refl
write-unmarked (l ∷ ls) = rw (write-unmarked ls)

-- M-108
pub most-laborious : (n : ℕ) → n ≤ 256 → MostLaborious n (laborious_tape n)
unfolding write_by
most-laborious n le =
    let lines = laborious n in
    let r = read-write lines (unmarked (length lines)) (laborious-fits n le) (unmarked_fit (length lines))
    (length-replicate (length lines) none) in
    record {
      listing = lines;
      accepted = rw (write-unmarked lines) at r.0;
      of_n_lines = laborious-length n;
      attempts = λ rules. first_round rules lines ∙ makes_most rules n;
      no_more =
          λ rules others e.
          rw (first_round rules others) (subst (λ (k : ℕ). length (propagate_once rules others) ≤ most_attempts k) e
          (at_most rules others));
    }
