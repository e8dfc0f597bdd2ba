-- A tape of two lines in both forms, and a text whose second line is wrong, by computation. Assumes nothing.
use Prim.Native.Nat.{ℕ}
use mathlib.Core.Path.{◌≡◌, refl}
use mathlib.Core.Bool.{true, false}
use mathlib.Core.List.{List, [], ◌∷◌, ◌++◌}
use mathlib.Core.Option.{some}
use Rattle.reference.specs.Text.{Text, bytes}
use Rattle.reference.proofs.Opened.{opened}
use Rattle.tape.specs.Commands.{standing_by}
use Rattle.printing.specs.Decimals.{decimal}
use Rattle.words.specs.Splitting.{onto}
use Rattle.words.specs.Numerals.{digit, digits_from, number_in}
use Rattle.listing_text.specs.Forms.{line_end, hexadecimal, enough, short_hex, blanks, exact_address, exact_command, own_span, span_text, read_address, read_command_text}
use Rattle.listing_text.specs.Showing.{begun, shown_at, shown_from, shown}
use Rattle.listing_text.specs.Exact.{ended, apart, address_in, indent_in, line_command, then_read, fields_read, line_read, then_lines, lines_read, tape_of}

-- 401000, an indent, marks from 400ff0; then a label without an address
abbrev pub sample : List ℕ
sample =
    (0x01 ∷ 0x00 ∷ 0x10 ∷ 0x40 ∷ 0 ∷ 0 ∷ 0 ∷ 0 ∷ 0 ∷ 1 ∷ [])
    ++ (0x03 ∷ 0xF0 ∷ 0x0F ∷ 0x40 ∷ 0 ∷ 0 ∷ 0 ∷ 0 ∷ 0 ∷ 0x00 ∷ 0x10 ∷ 0x40 ∷ 0 ∷ 0 ∷ 0 ∷ 0 ∷ 0 ∷ [])
    ++ (0x11 ∷ 3 ∷ 0 ∷ bytes "rax") ++ (0x16 ∷ 3 ∷ 0 ∷ bytes " = ") ++ (0x12 ∷ 1 ∷ 0 ∷ bytes "5")
    ++ (0x02 ∷ 0 ∷ []) ++ (0x14 ∷ 1 ∷ 0 ∷ bytes "L") ++ (0x16 ∷ 1 ∷ 0 ∷ bytes ":") ++ (0xFF ∷ [])

abbrev pub tab : Text
tab = 9 ∷ []

pub in_exact_form : shown true sample ≡ record {
  text =
      bytes "0000000000401000" ++ tab ++ bytes "1" ++ tab ++ bytes "m:0000000000400ff0..0000000000401000" ++ tab ++ bytes "r:rax" ++ tab ++ bytes "p: = "
      ++ tab ++ bytes "n:5" ++ (10 ∷ []) ++ bytes "-" ++ tab ++ bytes "0" ++ tab ++ bytes "s:L" ++ tab ++ bytes "p::" ++ (10 ∷ []);
  number = 0;
  place = 0;
}
unfolding opened decimal line_end hexadecimal exact_address exact_command begun shown_at shown_from shown
in_exact_form = refl

pub to_read : shown false sample ≡ record {
  text = bytes "00400ff0..00401000 00401000    rax = 5" ++ (10 ∷ []) ++ bytes "          L:" ++ (10 ∷ []);
  number = 0;
  place = 0;
}
unfolding opened standing_by line_end hexadecimal enough short_hex blanks own_span span_text read_address read_command_text begun shown_at shown_from shown
to_read = refl

-- the second line has no indent
pub wrong_line : tape_of (bytes "-" ++ tab ++ bytes "0" ++ (10 ∷ []) ++ bytes "401000") ≡ record { bytes = 0x02 ∷ 0 ∷ []; wrong = some 1 }
unfolding opened onto digit digits_from number_in ended apart address_in indent_in line_command then_read fields_read line_read then_lines lines_read tape_of
wrong_line = refl
