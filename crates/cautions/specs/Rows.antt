-- What the cautions say of each row of docs/DIFFERENCES.md that shows a listing: the finished lines, each with its kinds. The listings are
-- those of crate books, whose proof that they become these lines stands behind each (`differences`). Proved in proofs/Rows.antt. Assumes
-- nothing.
use Rattle.std.specs.Prelude.{[], ◌∷◌}
use Rattle.books.specs.Notation.{said, T, R, N, K, S, P, line}
use Rattle.books.proofs.Differences.{differences}
use Rattle.cautions.specs.Kinds.{odd_form, still_read, overwritten, call_moved, read_moved}
use Rattle.cautions.specs.Kinds.{other_width, other_text, odd_number, slot, handed_over, ◌∪◌}
use Rattle.cautions.specs.Notation.{plain, instruction, row, row_32_bit, row_of_lines, row_parts}

pub record Rows : Type 0 where
  -- ---- names of registers
  pub stack_slot : row ("var_8 = 5;" ∷ "rbx = var_8;" ∷ []) (("rbx = 5;", slot) ∷ []) differences.stack_slot.1
  pub slot_past_pointer :
      row
      ("var_8 = 5;" ∷ "*(rcx) = 6;" ∷ "rbx = var_8;" ∷ [])
      (("*(rcx) = 6;", odd_form) ∷ ("rbx = 5;", odd_form ∪ slot) ∷ [])
      differences.slot_past_pointer
  pub slots_overlap :
      row ("var_8 = 5;" ∷ "var_4 = 6;" ∷ "rbx = var_8;" ∷ []) (plain "var_4 = 6;" ∷ ("rbx = 5;", slot) ∷ []) differences.slots_overlap
  pub frame_by_index :
      row
      ("var_8 = 5;" ∷ "g(rsp + rdx * 8);" ∷ "h(var_8);" ∷ [])
      (plain "g(rsp + rdx * 8);" ∷ ("h(5);", slot) ∷ [])
      differences.frame_by_index
  pub slot_width : row ("var_8 = ecx;" ∷ "rbx = var_8;" ∷ []) (("rbx = ecx;", slot) ∷ []) differences.slot_width
  -- ---- parts of registers
  pub al_for_rax : row ("al = 5;" ∷ "rbx = rax;" ∷ []) (("rbx = 5;", other_width ∪ handed_over) ∷ []) differences.al_for_rax.1
  pub ah_for_al : row ("ah = 5;" ∷ "bl = al;" ∷ []) (("bl = 5;", other_width ∪ handed_over) ∷ []) differences.ah_for_al.1
  pub ah_for_al_parts : row_parts ("ah = 5;" ∷ "bl = al;" ∷ []) (plain "ah = 5;" ∷ plain "bl = al;" ∷ []) differences.ah_for_al_parts
  pub al_for_rax_parts :
      row_parts ("al = 5;" ∷ "rbx = rax;" ∷ []) (("rbx = 5;", other_width ∪ handed_over) ∷ []) differences.al_for_rax_parts
  pub eax_minus_one : row ("eax = -1;" ∷ "rbx = rax;" ∷ []) (("rbx = -1;", other_width ∪ handed_over) ∷ []) differences.eax_minus_one.1
  pub eax_of_rax :
      row
      ("rax = 0x100000005;" ∷ "rbx = eax;" ∷ [])
      (("rbx = 0x100000005;", other_width ∪ odd_number ∪ handed_over) ∷ [])
      differences.eax_of_rax.1
  pub sum_of_32_bits :
      row ("eax = 0xffffffff;" ∷ "f(eax + 1);" ∷ []) (("f(0x100000000);", other_width ∪ odd_number) ∷ []) differences.sum_of_32_bits.1
  pub copy_of_32_bits :
      row ("eax = rcx;" ∷ "rbx = rax;" ∷ []) (("rbx = rcx;", other_width ∪ handed_over) ∷ []) differences.copy_of_32_bits.1
  pub upper_half_kept :
      row ("rax = rcx;" ∷ "rbx = eax;" ∷ []) (("rbx = rcx;", other_width ∪ handed_over) ∷ []) differences.upper_half_kept.1
      × row
      ("rax = f();" ∷ "if (eax < 5) {" ∷ " g();" ∷ "}" ∷ [])
      (("if (f() < 5) {", other_width ∪ handed_over) ∷ plain " g();" ∷ plain "}" ∷ [])
      differences.upper_half_kept.2
  pub sum_narrowed : row ("ecx = edx;" ∷ "rax = rcx + 8;" ∷ []) (("rax = edx + 8;", other_width) ∷ []) differences.sum_narrowed.2
  pub byte_sum_widened :
      row
      ("al = cl + 1;" ∷ "if (al == 0) {" ∷ " f();" ∷ "}" ∷ [])
      (("if ((cl + 1) == 0) {", other_width ∪ handed_over) ∷ plain " f();" ∷ plain "}" ∷ [])
      differences.byte_sum_widened.1
      × row ("al = ~cl;" ∷ "f(al);" ∷ []) (("f(~cl);", other_width) ∷ []) differences.byte_sum_widened.2
  pub sign_extension :
      row
      ("ecx = 0xffffffff;" ∷ "rax = (int64_t)ecx;" ∷ [])
      (("rax = (int64_t)0xffffffff;", other_width ∪ odd_number) ∷ [])
      differences.sign_extension.0
      × row
      ("al = 0x80;" ∷ "if (al < 0) {" ∷ " f();" ∷ "}" ∷ [])
      (("if (0x80 < 0) {", other_width ∪ handed_over) ∷ plain " f();" ∷ plain "}" ∷ [])
      differences.sign_extension.1
      × row
      ("rax = 5;" ∷ "if (eax <= 0x80000000) {" ∷ " f();" ∷ "}" ∷ [])
      (("if (5 <= 0x80000000) {", odd_number ∪ handed_over) ∷ plain " f();" ∷ plain "}" ∷ [])
      differences.sign_extension.2
  -- ---- calling conventions
  pub argument_register :
      row ("rdi = 5;" ∷ "rbx = rdi;" ∷ "f();" ∷ []) (("rbx = 5;", handed_over) ∷ plain "f();" ∷ []) differences.argument_register
  pub return_value : row ("rax = f();" ∷ "return;" ∷ []) (("f();", handed_over) ∷ plain "return;" ∷ []) differences.return_value
  pub stack_pointer_at_return :
      row
      ("rsp = rbp;" ∷ "rbx = rsp;" ∷ "return;" ∷ [])
      (("rbx = rbp;", handed_over) ∷ plain "return;" ∷ [])
      differences.stack_pointer_at_return
  pub preserved_at_return :
      row
      ("rbx = var_8;" ∷ "rdi = rbx;" ∷ "return;" ∷ [])
      (("rdi = var_8;", handed_over) ∷ plain "return;" ∷ [])
      differences.preserved_at_return
  pub volatile_named :
      row
      ("rcx = 5;" ∷ "f(rcx);" ∷ "rbx = rcx;" ∷ [])
      (("f(5);", overwritten) ∷ ("rbx = 5;", overwritten) ∷ [])
      differences.volatile_named.1
      × row
      ("rcx = 5;" ∷ "rax = f(rcx);" ∷ "rdx = 7;" ∷ "rax = g(rcx, rdx);" ∷ [])
      (("f(5);", overwritten) ∷ ("g(5, 7);", overwritten ∪ handed_over) ∷ [])
      differences.volatile_named.2
  pub this_pointer :
      row_32_bit ("ecx = esi;" ∷ "ebx = ecx;" ∷ "f();" ∷ []) (("ebx = esi;", handed_over) ∷ plain "f();" ∷ []) differences.this_pointer
  pub end_of_listing :
      row ("rax = f();" ∷ []) (("f();", handed_over) ∷ []) differences.end_of_listing.0
      × row ("rax = rcx;" ∷ "rbx = rax;" ∷ []) (("rbx = rcx;", handed_over) ∷ []) differences.end_of_listing.1
  -- ---- instructions and operations by name
  pub keyword_call :
      row
      ("rbx = __pop();" ∷ "rcx = __pop();" ∷ "rdx = rbx;" ∷ [])
      (("rcx = __pop();", odd_form) ∷ ("rdx = __pop();", odd_form) ∷ [])
      differences.keyword_call.1
      × row
      ("eax = 1;" ∷ "__cpuid(eax, ecx);" ∷ "esi = eax;" ∷ [])
      (("__cpuid(1, ecx);", odd_form) ∷ ("esi = 1;", odd_form) ∷ [])
      differences.keyword_call.2
  pub interlocked_passed :
      row
      ("rbx = counter;" ∷ "r12 = _InterlockedExchange(&counter, r12);" ∷ "h(rbx);" ∷ [])
      (("r12 = _InterlockedExchange(&counter, r12);", odd_form) ∷ ("h(counter);", odd_form) ∷ [])
      differences.interlocked_passed
  pub register_in_text :
      row_of_lines
      (said "rax = rcx;" ∷ said "rbx = rax;" ∷ instruction "mul rax" ∷ [])
      ((said "rbx = rcx;", odd_form) ∷ (instruction "mul rax", odd_form) ∷ [])
      differences.register_in_text
  pub hidden_registers :
      row_of_lines
      (said "rax = rcx;" ∷ said "rbx = rax;" ∷ instruction "mul rcx" ∷ [])
      ((said "rbx = rcx;", odd_form) ∷ (instruction "mul rcx", odd_form) ∷ [])
      differences.hidden_registers.0
      × row
      ("rbx = 5;" ∷ "__cpuid(eax, ecx);" ∷ "h(rbx);" ∷ [])
      (("__cpuid(eax, ecx);", odd_form) ∷ ("h(5);", odd_form) ∷ [])
      differences.hidden_registers.1
      × row
      ("rcx = rsp;" ∷ "rbx = __pop();" ∷ "g(rcx);" ∷ [])
      (("rbx = __pop();", odd_form) ∷ ("g(rsp);", odd_form) ∷ [])
      differences.hidden_registers.2
  pub jump_in_text :
      row_of_lines
      (said "rax = rcx;" ∷ said "rbx = rax;" ∷ instruction "jrcxz L" ∷ said "rax = 1;" ∷ said "L:" ∷ said "rdx = rax;" ∷ [])
      ((said "rbx = rcx;", odd_form) ∷ (instruction "jrcxz L", odd_form) ∷ plain (said "rax = 1;") ∷ plain (said "L:")
      ∷ plain (said "rdx = rax;") ∷ [])
      differences.jump_in_text
  pub flags_passed :
      row
      ("al = __flags_o;" ∷ "rcx = rdx * 3;" ∷ "bl = al;" ∷ [])
      (plain "rcx = rdx * 3;" ∷ ("bl = __flags_o;", odd_form ∪ handed_over) ∷ [])
      differences.flags_passed
  -- ---- expressions
  pub minus_minus_number :
      row ("rax = -5;" ∷ "rbx = -rax;" ∷ []) (("rbx = --5;", other_text ∪ handed_over) ∷ []) differences.minus_minus_number
  pub minus_minus_register :
      row ("rax = -rcx;" ∷ "rbx = -rax;" ∷ []) (("rbx = --rcx;", other_text ∪ handed_over) ∷ []) differences.minus_minus_register
  pub lost_brackets :
      row
      ("rax = (rcx) - (rdx);" ∷ "rbx = rsi - rax;" ∷ [])
      (("rbx = rsi - (rcx) - (rdx);", other_text ∪ handed_over) ∷ [])
      differences.lost_brackets
  pub call_order :
      row ("rax = f();" ∷ "rbx = g() + rax;" ∷ []) (("rbx = g() + f();", overwritten ∪ call_moved) ∷ []) differences.call_order
  pub call_skipped :
      row ("rax = f();" ∷ "rbx = rcx && rax;" ∷ []) (("rbx = rcx && f();", odd_form ∪ call_moved) ∷ []) differences.call_skipped
  pub read_past_store :
      row
      ("rax = *(rcx);" ∷ "var_8 = 5;" ∷ "rbx = rax;" ∷ [])
      (plain "var_8 = 5;" ∷ ("rbx = *(rcx);", odd_form ∪ handed_over) ∷ [])
      differences.read_past_store
  pub increment_moved :
      row
      ("rax = rcx++;" ∷ "rbx = rcx;" ∷ "rdx = rax;" ∷ [])
      (plain "rbx = rcx;" ∷ ("rdx = rcx++;", odd_form ∪ handed_over) ∷ [])
      differences.increment_moved
  pub register_called :
      row
      ("rbx = rax();" ∷ "rcx = 5;" ∷ "rdx = rbx;" ∷ [])
      (plain "rcx = 5;" ∷ ("rdx = rax();", odd_form ∪ handed_over) ∷ [])
      differences.register_called
  pub unspaced_sum :
      row ("rax = rcx+1;" ∷ "rbx = rax * 2;" ∷ []) (("rbx = rcx+1 * 2;", other_text ∪ handed_over) ∷ []) differences.unspaced_sum
  pub comma_to_argument :
      row ("rax = rcx, rdx;" ∷ "rbx = f(rax);" ∷ []) (("rbx = f(rcx, rdx);", odd_form ∪ other_text) ∷ []) differences.comma_to_argument.0
      × row ("rax = rcx, rdx;" ∷ "return rax;" ∷ []) (("return rcx, rdx;", odd_form ∪ other_text) ∷ []) differences.comma_to_argument.1
  pub two_changes :
      row
      ("rax = rcx++;" ∷ "rbx = rcx + rax;" ∷ [])
      (("rbx = rcx + rcx++;", odd_form ∪ other_text ∪ handed_over) ∷ [])
      differences.two_changes
  pub read_past_call :
      row ("rax = var_8;" ∷ "rbx = f() + rax;" ∷ []) (("rbx = f() + var_8;", overwritten ∪ read_moved) ∷ []) differences.read_past_call
  pub call_under_condition :
      row
      ("rax = f();" ∷ "if (rcx) rbx = rax;" ∷ [])
      (("if (rcx) rbx = f();", call_moved ∪ handed_over) ∷ [])
      differences.call_under_condition
  pub second_statement :
      row ("rax = rcx;" ∷ "rcx = 1; rbx = rax;" ∷ []) (("rcx = 1; rbx = rcx;", odd_form) ∷ []) differences.second_statement
  pub two_statements_moved :
      row ("rax = rsi; rsi = rdi;" ∷ "h(rax);" ∷ []) (("h(rsi; rsi = rdi);", odd_form) ∷ []) differences.two_statements_moved.0
      × row_of_lines
      (line (R "rax" ∷ P " = " ∷ N "5" ∷ P "; " ∷ T "// five;" ∷ []) ∷ said "h(rax);" ∷ [])
      ((line (S "h" ∷ P "(" ∷ N "5" ∷ P "; " ∷ T "// five" ∷ P ");" ∷ []), odd_form ∪ other_width) ∷ [])
      differences.two_statements_moved.1
  pub cut_beside_a_reader : row ("rax = f(); rbx = rax;" ∷ []) (("f(); rbx = rax;", odd_form) ∷ []) differences.cut_beside_a_reader
  pub no_function :
      row
      ("rax = rcx;" ∷ "rbx = rax;" ∷ "rdx = sizeof(x);" ∷ "r12 = rax;" ∷ [])
      (("rbx = rcx;", odd_form) ∷ ("rdx = sizeof(x);", odd_form) ∷ plain "r12 = rax;" ∷ [])
      differences.no_function
  pub increment_under_condition :
      row
      ("rax = rcx++;" ∷ "if (rsi) rbx = rax;" ∷ [])
      (("if (rsi) rbx = rcx++;", odd_form ∪ handed_over) ∷ [])
      differences.increment_under_condition
  pub input_changed :
      row
      ("rax = rcx;" ∷ "rdx = rcx++;" ∷ "rbx = rax;" ∷ [])
      (("rdx = rcx++;", odd_form) ∷ ("rbx = rcx;", odd_form) ∷ [])
      differences.input_changed
  pub volatile_read_beside_call :
      row
      ("rbx = rcx;" ∷ "rdx = f() + rbx;" ∷ [])
      (("rdx = f() + rcx;", read_moved ∪ handed_over) ∷ [])
      differences.volatile_read_beside_call
  pub call_behind_a_read :
      row ("rax = f();" ∷ "counter += rax;" ∷ []) (("counter += f();", call_moved ∪ handed_over) ∷ []) differences.call_behind_a_read.0
      × row ("rax = f();" ∷ "g(counter, rax);" ∷ []) (("g(counter, f());", call_moved) ∷ []) differences.call_behind_a_read.1
      × row ("rax = f();" ∷ "*(rcx + 8) = rax;" ∷ []) (("*(rcx + 8) = f();", odd_form ∪ call_moved) ∷ []) differences.call_behind_a_read.2
  pub reads_change_places :
      row
      ("rbx = status;" ∷ "r12 = data;" ∷ "h(r12, rbx);" ∷ [])
      (("h(data, status);", read_moved ∪ handed_over) ∷ [])
      differences.reads_change_places.0
      × row
      ("rax = status;" ∷ "if (rsi) rbx = rax;" ∷ [])
      (("if (rsi) rbx = status;", read_moved ∪ handed_over) ∷ [])
      differences.reads_change_places.1
  pub glued_punctuators :
      row
      ("rax = *rcx;" ∷ "rbx = (rdx)/rax;" ∷ [])
      (("rbx = (rdx)/*rcx;", odd_form ∪ other_text ∪ handed_over) ∷ [])
      differences.glued_punctuators.0
      × row ("rax = &var_8;" ∷ "rbx = rcx&rax;" ∷ []) (("rbx = rcx&&var_8;", other_text ∪ handed_over) ∷ []) differences.glued_punctuators.1
  pub postfix_on_unary :
      row ("rax = &table;" ∷ "rbx = rax[2];" ∷ []) (("rbx = &table[2];", other_text ∪ handed_over) ∷ []) differences.postfix_on_unary
  pub address_in_a_sum :
      row ("rcx = &table;" ∷ "rdx = rcx + 8;" ∷ []) (("rdx = &table + 8;", other_text) ∷ []) differences.address_in_a_sum.0
      × row ("rcx = &table;" ∷ "rdx = rcx & 7;" ∷ []) (("rdx = &table & 7;", other_text) ∷ []) differences.address_in_a_sum.1
  pub signed_comparison :
      row_of_lines
      (line (R "eax" ∷ P " = " ∷ K "*(uint32_t *)" ∷ R "rcx" ∷ P ";" ∷ []) ∷ said "if (eax < 0) {" ∷ said " f();" ∷ said "}" ∷ [])
      ((line (K "if" ∷ P " (" ∷ K "*(uint32_t *)" ∷ R "rcx" ∷ P " < " ∷ N "0" ∷ P ") {" ∷ []), other_width ∪ handed_over)
      ∷ plain (said " f();") ∷ plain (said "}") ∷ [])
      differences.signed_comparison.0
      × row
      ("eax = 0xffffffff;" ∷ "if (ecx < eax) {" ∷ " f();" ∷ "}" ∷ [])
      (("if (ecx < 0xffffffff) {", other_width ∪ odd_number ∪ handed_over) ∷ plain " f();" ∷ plain "}" ∷ [])
      differences.signed_comparison.1
  pub unknown_write :
      row ("rax = rcx;" ∷ "rax %= rdx;" ∷ "f(rcx);" ∷ []) (("rcx %= rdx;", other_text) ∷ plain "f(rcx);" ∷ []) differences.unknown_write.0
      × row
      ("rax = 5;" ∷ "++rax;" ∷ "rbx = rax;" ∷ [])
      (("++5;", other_text ∪ handed_over) ∷ ("rbx = 5;", other_text ∪ handed_over) ∷ [])
      differences.unknown_write.1
      × row
      ("rax = 5;" ∷ "if (rsi) rax=1;" ∷ "rbx = rax;" ∷ [])
      (("if (rsi) 5=1;", other_text ∪ handed_over) ∷ ("rbx = 5;", other_text ∪ handed_over) ∷ [])
      differences.unknown_write.2
      × row
      ("var_8 = rcx;" ∷ "var_8.f = 1;" ∷ "f(rcx);" ∷ [])
      (("rcx.f = 1;", other_text ∪ slot) ∷ plain "f(rcx);" ∷ [])
      differences.unknown_write.3
  -- ---- statements
  pub jump_past_overwrite :
      row
      ("rax = rcx;" ∷ "rbx = rax;" ∷ "if (rsi) goto L;" ∷ "rax = 1;" ∷ "L:" ∷ "rdx = rax;" ∷ [])
      (("rbx = rcx;", still_read ∪ handed_over) ∷ plain "if (rsi) goto L;" ∷ plain "rax = 1;" ∷ plain "L:"
      ∷ ("rdx = rax;", still_read) ∷ [])
      differences.jump_past_overwrite
  pub conditional_return :
      row
      ("rax = rcx;" ∷ "rbx = rax;" ∷ "if (rsi) return;" ∷ "rdx = rax;" ∷ [])
      (("rbx = rcx;", still_read ∪ handed_over) ∷ plain "if (rsi) return;" ∷ ("rdx = rax;", still_read) ∷ [])
      differences.conditional_return
  pub conditional_call :
      row
      ("rax = rcx;" ∷ "rbx = rax;" ∷ "if (rsi) f();" ∷ "rdx = rax;" ∷ [])
      (("rbx = rcx;", still_read ∪ handed_over) ∷ plain "if (rsi) f();" ∷ ("rdx = rax;", still_read) ∷ [])
      differences.conditional_call.0
      × row
      ("rax = rcx;" ∷ "rbx = rax;" ∷ "rdx = rsi && f();" ∷ "r12 = rax;" ∷ [])
      (("rbx = rcx;", odd_form) ∷ ("rdx = rsi && f();", odd_form) ∷ plain "r12 = rax;" ∷ [])
      differences.conditional_call.1
  pub overwrite_in_another_block :
      row
      ("if (rsi) {" ∷ " rax = rcx;" ∷ " rbx = rax;" ∷ "}" ∷ "if (rdi) {" ∷ " rax = 1;" ∷ "}" ∷ "rdx = rax;" ∷ [])
      (plain "if (rsi) {" ∷ (" rbx = rcx;", still_read ∪ handed_over) ∷ plain "}" ∷ plain "if (rdi) {" ∷ plain " rax = 1;"
      ∷ plain "}" ∷ ("rdx = rax;", still_read) ∷ [])
      differences.overwrite_in_another_block
  pub label_with_statement :
      row
      ("rax = 5;" ∷ "L: rbx = rax;" ∷ "rax = 6;" ∷ "goto L;" ∷ [])
      (("L: rbx = 5;", odd_form) ∷ plain "rax = 6;" ∷ plain "goto L;" ∷ [])
      differences.label_with_statement
  pub label_with_comment :
      row_of_lines
      (said "rax = 5;" ∷ line (S "L" ∷ P ":" ∷ T " // again" ∷ []) ∷ said "rbx = rax;" ∷ said "rax = 6;" ∷ said "goto L;" ∷ [])
      ((line (S "L" ∷ P ":" ∷ T " // again" ∷ []), odd_form) ∷ (said "rbx = 5;", odd_form) ∷ plain (said "rax = 6;")
      ∷ plain (said "goto L;") ∷ [])
      differences.label_with_comment
  pub while_loop :
      row
      ("while (rdx) {" ∷ " rbx = rax;" ∷ " rax = 5;" ∷ " rcx = rax;" ∷ "}" ∷ [])
      (plain "while (rdx) {" ∷ plain " rbx = rax;" ∷ (" rcx = 5;", odd_form) ∷ ("}", odd_form) ∷ [])
      differences.while_loop
  pub for_loop :
      row
      ("for (;;) {" ∷ " rbx = rax;" ∷ " rax = 5;" ∷ " rcx = rax;" ∷ "}" ∷ [])
      (plain "for (;;) {" ∷ plain " rbx = rax;" ∷ (" rcx = 5;", odd_form) ∷ ("}", odd_form) ∷ [])
      differences.for_loop
  pub break_past_overwrite :
      row
      ("do {" ∷ " rax = rcx;" ∷ " rbx = rax;" ∷ " if (rsi) break;" ∷ " rax = 1;" ∷ "} while (rdx);" ∷ "rdi = rax;" ∷ [])
      (plain "do {" ∷ (" rbx = rcx;", odd_form) ∷ (" if (rsi) break;", odd_form) ∷ plain " rax = 1;" ∷ plain "} while (rdx);"
      ∷ plain "rdi = rax;" ∷ [])
      differences.break_past_overwrite
  pub continue_past_overwrite :
      row
      ("do {" ∷ " rax = rcx;" ∷ " rbx = rax;" ∷ " if (rsi) continue;" ∷ " rax = 1;" ∷ "} while (rdx);" ∷ "rdi = rax;" ∷ [])
      (plain "do {" ∷ (" rbx = rcx;", odd_form) ∷ (" if (rsi) continue;", odd_form) ∷ plain " rax = 1;" ∷ plain "} while (rdx);"
      ∷ plain "rdi = rax;" ∷ [])
      differences.continue_past_overwrite
  pub switch_case :
      row
      ("switch (rsi) {" ∷ " case 0:" ∷ " rax = rcx;" ∷ " rbx = rax;" ∷ " break;" ∷ " case 1:" ∷ " rax = 1;" ∷ "}" ∷ "rdx = rax;" ∷ [])
      (plain "switch (rsi) {" ∷ plain " case 0:" ∷ (" rbx = rcx;", odd_form) ∷ (" break;", odd_form) ∷ plain " case 1:"
      ∷ plain " rax = 1;" ∷ plain "}" ∷ plain "rdx = rax;" ∷ [])
      differences.switch_case
  pub case_passed_over :
      row
      ("rax = rcx;" ∷ "rbx = rax;" ∷ "switch (rsi) {" ∷ "case 1:" ∷ "rax = 1;" ∷ "}" ∷ "rdx = rax;" ∷ [])
      (("rbx = rcx;", still_read ∪ handed_over) ∷ plain "switch (rsi) {" ∷ plain "case 1:" ∷ plain "rax = 1;" ∷ plain "}"
      ∷ ("rdx = rax;", still_read) ∷ [])
      differences.case_passed_over
  pub for_head :
      row
      ("rax = rcx;" ∷ "for (; rax; ) {" ∷ " rcx = 1;" ∷ "}" ∷ [])
      (("for (; rcx; ) {", odd_form) ∷ plain " rcx = 1;" ∷ plain "}" ∷ [])
      differences.for_head
  pub for_head_call :
      row
      ("rax = f();" ∷ "for (; rax; ) {" ∷ " g();" ∷ "}" ∷ [])
      (("for (; f(); ) {", odd_form) ∷ plain " g();" ∷ plain "}" ∷ [])
      differences.for_head_call
  -- ---- the same, where the Rust looks at a jump, a loop, a return or a condition, but only in part
  pub jump_on_the_use_line :
      row
      ("L:" ∷ "h(rbx);" ∷ "rbx = counter;" ∷ "if (rbx != 0) goto L;" ∷ [])
      (plain "L:" ∷ ("h(rbx);", still_read) ∷ ("if (counter != 0) goto L;", still_read ∪ handed_over) ∷ [])
      differences.jump_on_the_use_line
  pub back_and_back_again :
      row
      ("L:" ∷ "h(r12);" ∷ "M:" ∷ "if (rbp) goto L;" ∷ "r12 = rdi;" ∷ "rbx = r12;" ∷ "rbp = g(rbx);" ∷ "goto M;" ∷ [])
      (plain "L:" ∷ ("h(r12);", still_read) ∷ plain "M:" ∷ plain "if (rbp) goto L;" ∷ ("rbp = g(rdi);", still_read) ∷ plain "goto M;"
      ∷ [])
      differences.back_and_back_again
  pub overwrite_in_loop_jumped_past :
      row
      ("do {" ∷ " if (rsi) goto L;" ∷ " rbx = 1;" ∷ "L:" ∷ " h(rbx);" ∷ " rbx = var_8;" ∷ " rsi = g(rbx);" ∷ "} while (rsi);" ∷ [])
      (plain "do {" ∷ plain " if (rsi) goto L;" ∷ plain " rbx = 1;" ∷ plain "L:" ∷ (" h(rbx);", still_read)
      ∷ (" rsi = g(var_8);", still_read ∪ handed_over) ∷ plain "} while (rsi);" ∷ [])
      differences.overwrite_in_loop_jumped_past
  pub overwrite_one_step_deeper :
      row
      ("L:" ∷ "if (r12) {" ∷ " rbx = 1;" ∷ "}" ∷ "h(rbx);" ∷ "rbx = counter;" ∷ "g(rbx);" ∷ "goto L;" ∷ [])
      (plain "L:" ∷ plain "if (r12) {" ∷ plain " rbx = 1;" ∷ plain "}" ∷ ("h(rbx);", still_read) ∷ ("g(counter);", still_read)
      ∷ plain "goto L;" ∷ [])
      differences.overwrite_one_step_deeper
  pub second_goto :
      row
      ("M:" ∷ "h(rbx);" ∷ "rbx = rdi;" ∷ "g(rbx);" ∷ "if (r13) goto L; else goto M;" ∷ "L:" ∷ "return;" ∷ [])
      (plain "M:" ∷ plain "h(rbx);" ∷ ("g(rdi);", odd_form) ∷ ("if (r13) goto L; else goto M;", odd_form) ∷ plain "L:"
      ∷ plain "return;" ∷ [])
      differences.second_goto
  pub return_in_another_block :
      row
      ("if (rsi) {" ∷ " rax = rcx;" ∷ " rbx = rax;" ∷ "}" ∷ "if (rdi) {" ∷ " return;" ∷ "}" ∷ "rdx = rax;" ∷ [])
      (plain "if (rsi) {" ∷ (" rbx = rcx;", still_read ∪ handed_over) ∷ plain "}" ∷ plain "if (rdi) {" ∷ plain " return;" ∷ plain "}"
      ∷ ("rdx = rax;", still_read) ∷ [])
      differences.return_in_another_block
  pub assigned_under_condition :
      row
      ("if (rsi)" ∷ " rax = rcx;" ∷ "rbx = rax;" ∷ [])
      (plain "if (rsi)" ∷ ("rbx = rcx;", odd_form ∪ handed_over) ∷ [])
      differences.assigned_under_condition
  pub other_branch :
      row
      ("if (rsi) {" ∷ " rax = f();" ∷ "} else if (rax) {" ∷ " g();" ∷ "}" ∷ [])
      (plain "if (rsi) {" ∷ ("} else if (f()) {", odd_form ∪ call_moved ∪ handed_over) ∷ plain " g();" ∷ plain "}" ∷ [])
      differences.other_branch
  pub else_overwrite :
      row
      ("if (rsi) {" ∷ " rax = f();" ∷ "} else {" ∷ " g();" ∷ "}" ∷ "return rax;" ∷ [])
      (plain "if (rsi) {" ∷ (" f();", still_read) ∷ plain "} else {" ∷ plain " g();" ∷ plain "}" ∷ ("return rax;", still_read) ∷ [])
      differences.else_overwrite
  pub case_entry :
      row
      ("switch (rsi) {" ∷ " case 0:" ∷ " rax = 5;" ∷ " case 1:" ∷ " rbx = rax;" ∷ "}" ∷ [])
      (plain "switch (rsi) {" ∷ plain " case 0:" ∷ plain " case 1:" ∷ (" rbx = 5;", odd_form ∪ handed_over) ∷ plain "}" ∷ [])
      differences.case_entry
  pub result_cut_and_read :
      row
      ("rax = f();" ∷ "if (rsi) goto L;" ∷ "rax = g();" ∷ "L:" ∷ "return rax;" ∷ [])
      (("f();", still_read) ∷ plain "if (rsi) goto L;" ∷ plain "rax = g();" ∷ plain "L:" ∷ ("return rax;", still_read) ∷ [])
      differences.result_cut_and_read.0
      × row
      ("rax = f();" ∷ "if (rsi) return;" ∷ "rbx = rax;" ∷ [])
      (("f();", still_read ∪ handed_over) ∷ plain "if (rsi) return;" ∷ ("rbx = rax;", still_read) ∷ [])
      differences.result_cut_and_read.1
      × row
      ("while (r12) {" ∷ " h(rax);" ∷ " rax = f();" ∷ "}" ∷ [])
      (plain "while (r12) {" ∷ plain " h(rax);" ∷ (" f();", odd_form) ∷ ("}", odd_form) ∷ [])
      differences.result_cut_and_read.2
      × row
      ("if (rsi) {" ∷ " rax = f();" ∷ "}" ∷ "if (rbx) {" ∷ " rax = 5;" ∷ "}" ∷ "return rax;" ∷ [])
      (plain "if (rsi) {" ∷ (" f();", still_read) ∷ plain "}" ∷ plain "if (rbx) {" ∷ plain " rax = 5;" ∷ plain "}"
      ∷ ("return rax;", still_read) ∷ [])
      differences.result_cut_and_read.3
      × row_of_lines
      (said "rax = f();" ∷ instruction "mul rbx" ∷ [])
      ((said "f();", odd_form) ∷ (instruction "mul rbx", odd_form) ∷ [])
      differences.result_cut_and_read.4
