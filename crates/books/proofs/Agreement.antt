-- The reference agrees with the books. Assumes nothing.
use Prim.Native.Nat.{ℕ, ◌<◌, ◌^◌}
use native.Mathlib.Omega.{arith}
use mathlib.Core.Path.{◌≡◌, refl, ap, ◌∙◌}
use mathlib.Core.List.{map}
use mathlib.Core.Option.{Option, none, some}
use lib.Dec.{ltb}
use lib.IntN.{pos}
use borrow.Author.Tests.{lt-ltb}
use Rattle.reference.specs.Control.{when◌then◌else◌}
use Rattle.reference.specs.Text.{Text}
use Rattle.reference.specs.Names.{Fam, family}
use Rattle.reference.specs.Numbers.{parse_c_number}
use Rattle.reference.proofs.Opened.{opened}
use Rattle.books.specs.Registers.{Register, registers, register, family_of}
use Rattle.books.specs.Constants.{Octal}
use Rattle.books.specs.Agreement.{Agreement}
use Rattle.books.proofs.Entries.{at_each}
use Rattle.books.proofs.Names.{known}
use Rattle.books.proofs.Reading.{as_i64_is}
use Rattle.books.proofs.Grammar.{decimal_is, hexadecimal_is, octal_is}

abbrev read : Register → Option Fam
read r = family r.name

abbrev meant : Register → Option Fam
meant r = some (record { name = r.family; width = r.width; lowest = r.lowest })

every_name : map read registers ≡ map meant registers
unfolding opened
every_name = refl

-- a number below the bound is read
kept {ℓ} : {A : Type ℓ} (n bound : ℕ) (a : A) → n < bound → (when ltb n bound then some a else none) ≡ some a
unfolding when◌then◌else◌
kept n bound a h = rw (lt-ltb n bound h)

octal-below : {s : Text} {n : ℕ} → Octal s n → n < 8 → parse_c_number s ≡ some (pos n)
octal-below {n = n} r h =
    let q = octal_is r in
    let e : q.0 ≡ n = q.2 h in
    q.1 ∙ kept q.0 (2 ^ 63) (pos q.0) (omega arith) ∙ ap (λ k. some (pos k)) e

pub agreement : Agreement
unfolding opened register family_of
agreement =
    record {
      names = at_each read meant registers every_name;
      no_other_name = λ {s} {f} e. known s f e;
      volatile_32_bit = refl;
      volatile_system_v = refl;
      volatile_microsoft = refl;
      decimal_read = λ {s} {n} r h. decimal_is r ∙ kept n (2 ^ 63) (pos n) h;
      hexadecimal_read = λ {s} {n} r h. hexadecimal_is r ∙ kept n (2 ^ 64) _ h ∙ ap some (as_i64_is n h);
      octal_read = octal-below;
    }
