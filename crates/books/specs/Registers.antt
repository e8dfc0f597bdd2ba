-- The general-purpose registers of the Intel 64 and IA-32 Architectures Software Developer's Manual, volume 1, section 3.4.1: their names
-- (table 3-2), the parts of a 64-bit register that they name (figure 3-5), and what an instruction that writes a part leaves in the rest
-- (section 3.4.1.1). The manual prints the names in capitals; they are in small letters here, as listings write them. Assumes nothing.
use Rattle.std.specs.Prelude.{ℕ, ◌+◌, ◌*◌, ◌/◌, ◌%◌, ◌^◌, cond, List, [], ◌∷◌, ◌++◌, leb}
use Prim.Native.String.{String}
use Rattle.std.proofs.Math.Option.{Option, none, some}
use Rattle.reference.specs.Control.{let_some◌else◌then◌}
use Rattle.reference.specs.Text.{Text, bytes, ◌≟◌}
use Rattle.reference.specs.Lists.{find}
use Rattle.reference.specs.Names.{Fam}
use Rattle.books.specs.Tables.{words}

-- a name, the 64-bit register that it is a part of, its width in bits, and the lowest of these bits
pub record Register : Type 0 where
  pub name : Text
  pub family : Text
  pub width : ℕ
  pub lowest : ℕ

-- the 64-bit registers, in the order of each row of table 3-2
abbrev pub quadwords : List Text
quadwords = words "rax rbx rcx rdx rdi rsi rbp rsp r8 r9 r10 r11 r12 r13 r14 r15"

-- a row of the table: the names stand in the order of the 64-bit registers
abbrev pub row : ℕ → ℕ → List Text → List Text → List Register
row width lowest families [] = []
row width lowest [] (n ∷ ns) = []
row width lowest (f ∷ fs) (n ∷ ns) = record { name = n; family = f; width = width; lowest = lowest } ∷ row width lowest fs ns

-- Table 3-2 in 64-bit mode. It writes the low bytes of R8 to R15 as R8L to R15L; AMD's manual (volume 1, section 3.1.2) and assemblers
-- write R8B to R15B, so both stand here. AH, BH, CH and DH are bits 8 to 15.
abbrev pub registers : List Register
registers =
    row 64 0 quadwords quadwords
    ++ row 32 0 quadwords (words "eax ebx ecx edx edi esi ebp esp r8d r9d r10d r11d r12d r13d r14d r15d")
    ++ row 16 0 quadwords (words "ax bx cx dx di si bp sp r8w r9w r10w r11w r12w r13w r14w r15w")
    ++ row 8 0 quadwords (words "al bl cl dl dil sil bpl spl r8l r9l r10l r11l r12l r13l r14l r15l")
    ++ row 8 0 (words "r8 r9 r10 r11 r12 r13 r14 r15") (words "r8b r9b r10b r11b r12b r13b r14b r15b")
    ++ row 8 8 quadwords (words "ah bh ch dh")

-- the register of this name, and the 64-bit register that it is a part of
unfoldable pub register : Text → Option Register
register name = find (λ r. r.name ≟ name) registers

unfoldable pub family_of : Text → Text
family_of name = let_some (register name) else [] then λ r. r.family

-- family, width and lowest bit, as the reference puts them
unfoldable pub by_the_manual : Text → Option Fam
by_the_manual name = let_some (register name) else none then λ r. some (record { name = r.family; width = r.width; lowest = r.lowest })

-- ---- parts

-- the register of a name that the table has
unfoldable pub the : String → Register
the s = let_some (register (bytes s)) else record { name = []; family = []; width = 0; lowest = 0 } then λ r. r

-- the value of the part, where its 64-bit register holds `whole`
abbrev pub read : Register → ℕ → ℕ
read r whole = whole / 2 ^ r.lowest % 2 ^ r.width

-- what the 64-bit register holds after v was written to the part: a 32-bit result is zero-extended to 64 bits, an 8- or 16-bit one leaves
-- the other bits as they were (3.4.1.1)
abbrev pub write : Register → ℕ → ℕ → ℕ
write r whole v =
    cond (leb 32 r.width) (v % 2 ^ r.width)
    (whole / 2 ^ (r.lowest + r.width) * 2 ^ (r.lowest + r.width) + v % 2 ^ r.width * 2 ^ r.lowest + whole % 2 ^ r.lowest)
