-- The rows hold, by computation. Assumes nothing.
use mathlib.Core.Path.{refl}
use Rattle.books.specs.Notation.{spelled_out}
use Rattle.cautions.specs.Rows.{Rows}
use Rattle.cautions.proofs.Opened.{opened_cautions}

pub rows : Rows
unfolding opened_cautions spelled_out
rows =
    record {
      stack_slot = refl;
      slot_past_pointer = refl;
      slots_overlap = refl;
      frame_by_index = refl;
      slot_width = refl;
      al_for_rax = refl;
      ah_for_al = refl;
      ah_for_al_parts = refl;
      al_for_rax_parts = refl;
      eax_minus_one = refl;
      eax_of_rax = refl;
      sum_of_32_bits = refl;
      copy_of_32_bits = refl;
      upper_half_kept = (refl, refl);
      sum_narrowed = refl;
      byte_sum_widened = (refl, refl);
      sign_extension = (refl, refl, refl);
      argument_register = refl;
      return_value = refl;
      stack_pointer_at_return = refl;
      preserved_at_return = refl;
      volatile_named = (refl, refl);
      this_pointer = refl;
      end_of_listing = (refl, refl);
      keyword_call = (refl, refl);
      interlocked_passed = refl;
      register_in_text = refl;
      hidden_registers = (refl, refl, refl);
      jump_in_text = refl;
      flags_passed = refl;
      minus_minus_number = refl;
      minus_minus_register = refl;
      lost_brackets = refl;
      call_order = refl;
      call_skipped = refl;
      read_past_store = refl;
      increment_moved = refl;
      register_called = refl;
      unspaced_sum = refl;
      comma_to_argument = (refl, refl);
      two_changes = refl;
      read_past_call = refl;
      call_under_condition = refl;
      second_statement = refl;
      two_statements_moved = (refl, refl);
      cut_beside_a_reader = refl;
      no_function = refl;
      increment_under_condition = refl;
      input_changed = refl;
      volatile_read_beside_call = refl;
      call_behind_a_read = (refl, refl, refl);
      reads_change_places = (refl, refl);
      glued_punctuators = (refl, refl);
      postfix_on_unary = refl;
      address_in_a_sum = (refl, refl);
      signed_comparison = (refl, refl);
      unknown_write = (refl, refl, refl, refl);
      jump_past_overwrite = refl;
      conditional_return = refl;
      conditional_call = (refl, refl);
      overwrite_in_another_block = refl;
      label_with_statement = refl;
      label_with_comment = refl;
      while_loop = refl;
      for_loop = refl;
      break_past_overwrite = refl;
      continue_past_overwrite = refl;
      switch_case = refl;
      case_passed_over = refl;
      for_head = refl;
      for_head_call = refl;
      jump_on_the_use_line = refl;
      back_and_back_again = refl;
      overwrite_in_loop_jumped_past = refl;
      overwrite_one_step_deeper = refl;
      second_goto = refl;
      return_in_another_block = refl;
      assigned_under_condition = refl;
      other_branch = refl;
      else_overwrite = refl;
      case_entry = refl;
      result_cut_and_read = (refl, refl, refl, refl, refl);
    }
