-- The reference differs from the books there. Assumes nothing.
use Prim.Native.Nat.{ℕ, ◌<◌, ◌≤◌, ◌^◌}
use native.Mathlib.Omega.{arith}
use mathlib.Core.Path.{◌≡◌, refl, sym, ◌∙◌}
use mathlib.Core.Bool.{Bool, true, false}
use mathlib.Core.Option.{none, some}
use lib.Dec.{ltb}
use lib.IntN.{pos}
use borrow.Author.Tests.{le-ltb}
use Rattle.reference.specs.Control.{when◌then◌else◌}
use Rattle.reference.specs.Text.{Text, bytes}
use Rattle.reference.specs.Claim.{opens, is_call_mark, calls_in}
use Rattle.reference.specs.Numbers.{parse_c_number}
use Rattle.books.specs.Registers.{register, the}
use Rattle.books.specs.Constants.{nonzero_digit, zero_digit, then_octal, prefix_then, then_hexadecimal, decimal, octal, hexadecimal, unsuffixed, suffixed, Octal}
use Rattle.books.specs.Notation.{spelled_out}
use Rattle.books.specs.Differences.{Differences}
use Rattle.books.proofs.Grammar.{decimal_is, hexadecimal_is, octal_is, signed_is_none, zero-eight_is_none, capital_x-unread, suffixed-unread}

-- a number from the bound on is not read
refused {ℓ} : {A : Type ℓ} (n bound : ℕ) (a : A) → bound ≤ n → (when ltb n bound then some a else none) ≡ none
unfolding when◌then◌else◌
refused n bound a h = rw (le-ltb n bound h)

other : (m n : ℕ) (b : Bool) → n < m → (when b then some (pos m) else none) ≡ some (pos n) → ⊥
unfolding when◌then◌else◌
other m n true h w = let e : m ≡ n = cc in omega arith
other m n false h w = let z : ◌≡◌ {A = ℕ} 0 1 = cc in omega arith

octal_never : {s : Text} {n : ℕ} → Octal s n → 8 ≤ n → parse_c_number s ≡ some (pos n) → ⊥
octal_never {n = n} r h e = let q = octal_is r in other q.0 n (ltb q.0 (2 ^ 63)) (q.3 h) (sym q.1 ∙ e)

pub differences : Differences
unfolding spelled_out register the opens is_call_mark calls_in
differences =
    record {
      r99 = (refl, refl);
      r16 = (refl, refl);
      r0 = (refl, refl);
      r08 = ((refl, refl), refl);
      capitals = refl;
      other_registers = refl;
      stack_slot = ((refl, refl), refl);
      slot_past_pointer = refl;
      slots_overlap = refl;
      frame_by_index = refl;
      slot_width = refl;
      al_for_rax = (refl, refl);
      ah_for_al = (refl, refl);
      ah_for_al_parts = refl;
      al_for_rax_parts = refl;
      eax_minus_one = (refl, refl);
      eax_of_rax = (refl, refl);
      sum_of_32_bits = (refl, refl);
      copy_of_32_bits = (refl, refl);
      upper_half_kept = (refl, refl, refl);
      sum_narrowed = (refl, refl, refl);
      byte_sum_widened = (refl, refl, refl);
      sign_extension = (refl, refl, refl);
      argument_register = refl;
      return_value = refl;
      stack_pointer_at_return = refl;
      preserved_at_return = refl;
      volatile_named = (refl, refl, refl);
      this_pointer = refl;
      end_of_listing = (refl, refl);
      keyword_call = (refl, refl, refl);
      interlocked_passed = refl;
      register_in_text = refl;
      hidden_registers = (refl, refl, refl);
      jump_in_text = refl;
      flags_passed = refl;
      octal = (unsuffixed (octal (then_octal (then_octal zero_digit (1, refl)) (0, refl))), refl);
      octal_from_eight = octal_never;
      octal_digit_eight = (λ n r. zero-eight_is_none r refl, refl);
      plus = (signed_is_none _ refl, refl);
      minus = (signed_is_none _ refl, refl);
      two_minuses = (signed_is_none _ refl, refl);
      minus_plus = (signed_is_none _ refl, refl);
      hexadecimal_plus = (signed_is_none _ refl, refl);
      capital_x = (unsuffixed (hexadecimal {p = bytes "0X"} (1, refl) (then_hexadecimal (prefix_then (1, refl)) (15, refl))), refl);
      every_capital_x = capital_x-unread;
      suffix_u = (suffixed (decimal (nonzero_digit (4, refl))) (0, refl), refl);
      suffix_l = (suffixed (decimal (nonzero_digit (4, refl))) (11, refl), refl);
      every_suffix = λ {s} u m. (suffixed u m, suffixed-unread s m);
      decimal_from_2^63 = λ {s} {n} r h. decimal_is r ∙ refused n (2 ^ 63) _ h;
      hexadecimal_from_2^64 = λ {s} {n} r h. hexadecimal_is r ∙ refused n (2 ^ 64) _ h;
      all_ones = refl;
      sum_of_unsigned_int = refl;
      sum_of_signed = refl;
      sum_of_unsigned = refl;
      minus_minus_number = refl;
      minus_minus_register = refl;
      lost_brackets = refl;
      call_order = refl;
      call_skipped = refl;
      read_past_store = refl;
      increment_moved = refl;
      register_called = refl;
      unspaced_sum = refl;
      comma_to_argument = (refl, refl);
      two_changes = refl;
      read_past_call = refl;
      call_under_condition = refl;
      second_statement = refl;
      two_statements_moved = (refl, refl);
      cut_beside_a_reader = refl;
      no_function = refl;
      increment_under_condition = refl;
      input_changed = refl;
      volatile_read_beside_call = refl;
      call_behind_a_read = (refl, refl, refl);
      reads_change_places = (refl, refl);
      glued_punctuators = (refl, refl);
      postfix_on_unary = refl;
      address_in_a_sum = (refl, refl);
      signed_comparison = (refl, refl);
      unknown_write = (refl, refl, refl, refl);
      jump_past_overwrite = refl;
      conditional_return = refl;
      conditional_call = (refl, refl);
      overwrite_in_another_block = refl;
      label_with_statement = refl;
      label_with_comment = refl;
      while_loop = refl;
      for_loop = refl;
      break_past_overwrite = refl;
      continue_past_overwrite = refl;
      switch_case = refl;
      case_passed_over = refl;
      for_head = refl;
      for_head_call = refl;
      jump_on_the_use_line = refl;
      back_and_back_again = refl;
      overwrite_in_loop_jumped_past = refl;
      overwrite_one_step_deeper = refl;
      second_goto = refl;
      return_in_another_block = refl;
      assigned_under_condition = refl;
      other_branch = refl;
      else_overwrite = refl;
      case_entry = refl;
      result_cut_and_read = (refl, refl, refl, refl, refl);
    }
