-- Symbols, and small tapes both ways, by computation. Assumes nothing.
use mathlib.Core.Path.{refl}
use Rattle.reference.proofs.Opened.{opened}
use Rattle.editions.specs.Numbers.{without_quotes, as_hexadecimal, down_constant, down_text, begins_binary, is_newer, has_no_older}
use Rattle.editions.specs.Conversion.{down_token, up_token, earns_12, earns_13, change, of_command, first_place, converted}
use Rattle.editions.specs.Promises.{OnSymbols, TapeExamples}

pub on_symbols : OnSymbols
unfolding opened earns_12
on_symbols = record { symbol = refl; keyword = refl; capital = refl; longer = refl }

pub tape_examples : TapeExamples
unfolding opened without_quotes as_hexadecimal down_constant down_text begins_binary is_newer has_no_older
    down_token up_token earns_12 earns_13 change of_command first_place converted
tape_examples =
    record {
      lowered = refl;
      raised = refl;
      leftmost_13 = refl;
      leftmost_12 = refl;
      short_output = refl;
      no_tape = refl;
    }
