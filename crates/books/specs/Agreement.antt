-- Where the reference agrees with the books. Assumes nothing.
use Rattle.std.specs.Prelude.{ℕ, ◌<◌, ◌^◌, ◌≡◌, true, map, pos, get_or}
use Rattle.std.proofs.Math.Option.{some}
use Rattle.reference.specs.Text.{Text, bytes, starts_with}
use Rattle.reference.specs.Names.{Fam, is_digit, family, volatile_of}
use Rattle.reference.specs.Numbers.{parse_c_number}
use Rattle.books.specs.Tables.{◌∈◌}
use Rattle.books.specs.Registers.{Register, registers, family_of, by_the_manual}
use Rattle.books.specs.Conventions.{system_v, microsoft, thirty_two_bit}
use Rattle.books.specs.Constants.{Decimal, Octal, Hexadecimal, twos_complement}

-- the texts to which the reference gives a family: the manual's names, `r` with a digit behind it, and `var_` with anything
pub data Known (s : Text) (f : Fam) : Type 0 where
  in_the_manual : by_the_manual s ≡ some f → Known s f
  with_number : starts_with s (bytes "r") ≡ true → is_digit (get_or s 1 0) ≡ true → Known s f
  stack : starts_with s (bytes "var_") ≡ true → Known s f

pub record Agreement : Type 0 where
  -- every register of the manual has the manual's family, width and lowest bit
  pub names : {r : Register} → r ∈ registers → family r.name ≡ some (record { name = r.family; width = r.width; lowest = r.lowest })
  -- and no text has a family but these, the numbered ones and the stack slots
  pub no_other_name : {s : Text} {f : Fam} → family s ≡ some f → Known s f
  -- the volatile lists, in the order of the books
  pub volatile_32_bit : volatile_of 0 ≡ map family_of thirty_two_bit
  pub volatile_system_v : volatile_of 1 ≡ system_v
  pub volatile_microsoft : volatile_of 2 ≡ microsoft
  -- C's constants, of any length
  pub decimal_read : {s : Text} {n : ℕ} → Decimal s n → n < 2 ^ 63 → parse_c_number s ≡ some (pos n)
  pub hexadecimal_read : {s : Text} {n : ℕ} → Hexadecimal (bytes "0x") s n → n < 2 ^ 64 → parse_c_number s ≡ some (twos_complement n)
  -- octal ones below eight, 0 among them
  pub octal_read : {s : Text} {n : ℕ} → Octal s n → n < 8 → parse_c_number s ≡ some (pos n)
