-- Listings beside the rows (Rows): the numbers of the page's rows that show no listing, what a hunt by execution found, and harmless
-- listings, which get no caution: the starred examples of document 01, their result returned, and pieces of samples/press. Proved in
-- proofs/Examples.antt. Assumes nothing.
use Rattle.std.specs.Prelude.{[], ◌∷◌}
use Rattle.cautions.specs.Kinds.{still_read, read_moved, other_width, odd_number}
use Rattle.cautions.specs.Notation.{plain, warns, quiet}

pub record Others : Type 0 where
  -- ---- integer constants and sums
  pub octal : warns ("rcx = 010;" ∷ "rbx = rcx + 1;" ∷ []) (("rbx = 0xb;", odd_number) ∷ [])
  pub sum_of_unsigned_int : warns ("rcx = 0xffffffff;" ∷ "rbx = rcx + 1;" ∷ []) (("rbx = 0x100000000;", odd_number) ∷ [])
  pub sum_of_signed : warns ("rcx = 9223372036854775807;" ∷ "rbx = rcx + 1;" ∷ []) (("rbx = -0x8000000000000000;", odd_number) ∷ [])
  pub sum_of_unsigned : warns ("rcx = 0xfffffffffffffffe;" ∷ "rbx = rcx + 1;" ∷ []) (("rbx = -1;", odd_number) ∷ [])
  -- ---- found by execution
  pub sign_of_a_byte : warns ("al = 0x80;" ∷ "ecx = (int32_t)al;" ∷ "h(ecx);" ∷ []) (("h((int32_t)0x80);", other_width) ∷ [])
  pub result_through_32_bits : warns ("rax = h();" ∷ "ebp = eax;" ∷ "return ebp;" ∷ []) (("return h();", other_width) ∷ [])
  -- the second case is entered from the switch, past the overwrite in the first
  pub entered_from_the_switch :
      warns
      ("rax = rcx;" ∷ "rbx = rax;" ∷ "switch (rsi) {" ∷ "case 0:" ∷ "rax = 1;" ∷ "goto M;" ∷ "case 1:" ∷ "h(rax);" ∷ "}" ∷ "M:"
      ∷ "return rbx;" ∷ [])
      (("rbx = rcx;", still_read) ∷ plain "switch (rsi) {" ∷ plain "case 0:" ∷ plain "rax = 1;" ∷ plain "goto M;" ∷ plain "case 1:"
      ∷ ("h(rax);", still_read) ∷ plain "}" ∷ plain "M:" ∷ plain "return rbx;" ∷ [])
  -- the caution of the first join comes to the finished line through the second
  pub through_another_line :
      warns
      ("h(rbx);" ∷ "r13 = counter;" ∷ "r12 = counter;" ∷ "rbx = r12 + r13;" ∷ "r14 = 7;" ∷ "g(rbx, r14);" ∷ "return 0;" ∷ [])
      (plain "h(rbx);" ∷ ("g(counter + counter, 7);", read_moved) ∷ plain "return 0;" ∷ [])

pub record Harmless : Type 0 where
  -- ---- document 01
  pub constant : quiet ("rax = 5;" ∷ "rbx = rax + 4;" ∷ "return rbx;" ∷ []) ("return 9;" ∷ [])
  pub byte_use : quiet ("rax = 5;" ∷ "al = 1;" ∷ []) ("rax = 5;" ∷ "al = 1;" ∷ [])
  pub call : quiet ("rax = f();" ∷ "rbx = g(rax);" ∷ []) ("rbx = g(f());" ∷ [])
  pub brackets :
      quiet ("rax = rcx - rdx;" ∷ "rbx = rsi - rax;" ∷ "return rbx;" ∷ []) ("return (rsi - (rcx - rdx));" ∷ [])
  -- ---- samples/press
  pub result_kept :
      quiet ("rax = recipe_of(rdi);" ∷ "rbx = rax;" ∷ "h(rbx);" ∷ "return 0;" ∷ []) ("h(recipe_of(rdi));" ∷ "return 0;" ∷ [])
  pub heater :
      quiet
      ("ecx = 180;" ∷ "edx = ecx + 20;" ∷ "eax = heater_set(1, edx);" ∷ "eax = 0;" ∷ "return eax;" ∷ [])
      ("heater_set(1, 0xc8);" ∷ "return 0;" ∷ [])
  pub sensor :
      quiet
      ("eax = sensor_read(3, &var_10);" ∷ "if (eax == 0) {" ∷ " edi = 17;" ∷ " eax = alarm_raise(edi);" ∷ " goto open_up;" ∷ "}"
      ∷ "eax = close_mould(rbx, 250);" ∷ "open_up:" ∷ "eax = 0;" ∷ "return eax;" ∷ [])
      ("if (sensor_read(3, &var_10) == 0) {" ∷ " alarm_raise(17);" ∷ " goto open_up;" ∷ "}" ∷ "close_mould(rbx, 250);" ∷ "open_up:"
      ∷ "return 0;" ∷ [])
  pub valve :
      quiet
      ("r8d = 5;" ∷ "r9 = r8 + 4;" ∷ "eax = valve_open(r9);" ∷ "eax = 0;" ∷ "return eax;" ∷ [])
      ("valve_open(9);" ∷ "return 0;" ∷ [])
  pub filling :
      quiet
      ("do {" ∷ " rax = pressure_now(1);" ∷ " rdx = rax;" ∷ " rcx = rdx - rbx;" ∷ " r10 = rcx * 2;" ∷ " rdi = r10 >> 1;"
      ∷ " eax = valve_trim(rdi);" ∷ "} while (r12d != 0);" ∷ "return 0;" ∷ [])
      ("do {" ∷ " valve_trim(((pressure_now(1) - rbx) * 2) >> 1);" ∷ "} while (r12d != 0);" ∷ "return 0;" ∷ [])
  pub timer :
      quiet
      ("rax = timer_start(9, 250);" ∷ "r13 = rax;" ∷ "r14 = r13 + 0x10;" ∷ "timer_wait(r14);" ∷ "return 0;" ∷ [])
      ("timer_wait(timer_start(9, 250) + 0x10);" ∷ "return 0;" ∷ [])
  pub jump_past :
      quiet
      ("rax = f(rbx);" ∷ "if (rax == 0) goto L;" ∷ "rax = g(rbx);" ∷ "h(rax);" ∷ "L:" ∷ "return 0;" ∷ [])
      ("if (f(rbx) == 0) goto L;" ∷ "h(g(rbx));" ∷ "L:" ∷ "return 0;" ∷ [])
  pub overwritten_on_both_ways :
      quiet
      ("rdi = rbx;" ∷ "f(rdi);" ∷ "if (r12) {" ∷ " rdi = r13;" ∷ " g(rdi);" ∷ "}" ∷ "return 0;" ∷ [])
      ("f(rbx);" ∷ "if (r12) {" ∷ " g(r13);" ∷ "}" ∷ "return 0;" ∷ [])
