-- Where the reference, and so the Rust, differs from the books: a smallest example of each, or what holds at every length.
-- docs/DIFFERENCES.md cites the fields by name and says what follows for a reader. Assumes nothing.
use Rattle.std.specs.Prelude.{ℕ, ◌+◌, ◌-◌, ◌≤◌, ◌^◌, ◌≡◌, true, false, List, [], ◌∷◌, ◌++◌, map, ℤ, pos, negsuc}
use Prim.Native.String.{String}
use Rattle.std.proofs.Math.Option.{none, some}
use Rattle.reference.specs.Text.{Text, bytes, has}
use Rattle.reference.specs.Listing.{token, Number, Punct, Line}
use Rattle.reference.specs.Names.{family, volatile_of}
use Rattle.reference.specs.Numbers.{parse_c_number, fold}
use Rattle.reference.specs.Claim.{calls}
use Rattle.books.specs.Tables.{words, ◌∈◌}
use Rattle.books.specs.Registers.{register, read, write, the}
use Rattle.books.specs.Constants.{Decimal, Octal, Hexadecimal, Unsuffixed, integer_suffix, Constant}
use Rattle.books.specs.Notation.{listing, said, T, R, N, K, S, P, line, gives, gives_parts, gives_32_bit, turns}

-- the book has no such register, and the Rust has it as a family of its own
abbrev invented : String → Type 0
invented s = (register (bytes s) ≡ none) × (family (bytes s) ≡ some (record { name = bytes s; width = 64; lowest = 0 }))

-- the manual's registers beside the general-purpose ones, one of each sort (volume 1, figure 3-2)
abbrev others : List Text
others = words "rip eip ip rflags eflags cs ds es fs gs ss xmm0 ymm0 zmm0 k0 mm0 st0 cr0 dr0"

abbrev pub reads : String → ℤ → Type 0
reads s z = parse_c_number (bytes s) ≡ some z

abbrev pub unread : String → Type 0
unread s = parse_c_number (bytes s) ≡ none

abbrev pub no_constant : String → Type 0
no_constant s = (n : ℕ) → Constant (bytes s) n → ⊥

-- what the fold makes of a sum
abbrev sums_to : String → String → String → Type 0
sums_to a b r = fold 0 (token Number (bytes a) ∷ token Punct (bytes " + ") ∷ token Number (bytes b) ∷ []) ≡ token Number (bytes r) ∷ []

-- an instruction that stands as text, as the listing generator writes one that it does not know
abbrev instruction : String → Line
instruction s = line (K "__asm" ∷ P " { " ∷ T s ∷ P " }" ∷ [])

pub record Differences : Type 0 where
  -- ---- names of registers: Intel, volume 1, table 3-2
  pub r99 : invented "r99"
  pub r16 : invented "r16"
  pub r0 : invented "r0"
  -- no second name of r8, and no volatile register
  pub r08 : invented "r08" × (has (volatile_of 1) (bytes "r08") ≡ false)
  pub capitals : family (bytes "RAX") ≡ none
  pub other_registers : map family others ≡ map (λ n. none) others
  -- a stack slot is no register, and its store is removed as an assignment is
  pub stack_slot : invented "var_8" × gives ("var_8 = 5;" ∷ "rbx = var_8;" ∷ []) ("rbx = 5;" ∷ [])
  -- rcx may point to var_8, and then rbx was 6
  pub slot_past_pointer : gives ("var_8 = 5;" ∷ "*(rcx) = 6;" ∷ "rbx = var_8;" ∷ []) ("*(rcx) = 6;" ∷ "rbx = 5;" ∷ [])
  -- var_4 may be the upper half of var_8
  pub slots_overlap : gives ("var_8 = 5;" ∷ "var_4 = 6;" ∷ "rbx = var_8;" ∷ []) ("var_4 = 6;" ∷ "rbx = 5;" ∷ [])
  -- g may be handed the address of var_8; only `&var_8` would spare it
  pub frame_by_index : gives ("var_8 = 5;" ∷ "g(rsp + rdx * 8);" ∷ "h(var_8);" ∷ []) ("g(rsp + rdx * 8);" ∷ "h(5);" ∷ [])
  -- four bytes were stored, and eight are read
  pub slot_width : gives ("var_8 = ecx;" ∷ "rbx = var_8;" ∷ []) ("rbx = ecx;" ∷ [])
  -- ---- parts of registers: section 3.4.1.1
  -- where rax held 256, it holds 261 after `al = 5;`
  pub al_for_rax : (read (the "rax") (write (the "al") 256 5) ≡ 261) × gives ("al = 5;" ∷ "rbx = rax;" ∷ []) ("rbx = 5;" ∷ [])
  -- where rax held 0, al is 0 after `ah = 5;`
  pub ah_for_al : (read (the "al") (write (the "ah") 0 5) ≡ 0) × gives ("ah = 5;" ∷ "bl = al;" ∷ []) ("bl = 5;" ∷ [])
  -- gone under the parts setting (M-104): the lines stand
  pub ah_for_al_parts : gives_parts ("ah = 5;" ∷ "bl = al;" ∷ []) ("ah = 5;" ∷ "bl = al;" ∷ [])
  -- which asks uses below 32 bits alone: this difference stays
  pub al_for_rax_parts : gives_parts ("al = 5;" ∷ "rbx = rax;" ∷ []) ("rbx = 5;" ∷ [])
  -- `eax = -1;` makes rax 2^32 - 1
  pub eax_minus_one : (write (the "eax") 0 (2 ^ 64 - 1) ≡ 2 ^ 32 - 1) × gives ("eax = -1;" ∷ "rbx = rax;" ∷ []) ("rbx = -1;" ∷ [])
  pub eax_of_rax : (read (the "eax") 0x100000005 ≡ 5) × gives ("rax = 0x100000005;" ∷ "rbx = eax;" ∷ []) ("rbx = 0x100000005;" ∷ [])
  pub sum_of_32_bits : (read (the "eax") (0xffffffff + 1) ≡ 0) × gives ("eax = 0xffffffff;" ∷ "f(eax + 1);" ∷ []) ("f(0x100000000);" ∷ [])
  -- where rcx held 2^32 + 5, rbx was 5
  pub copy_of_32_bits :
      (read (the "rax") (write (the "eax") 0 0x100000005) ≡ 5) × gives ("eax = rcx;" ∷ "rbx = rax;" ∷ []) ("rbx = rcx;" ∷ [])
  -- where rcx held 2^32 + 5, rbx was 5; the lower half of f's result was compared
  pub upper_half_kept :
      (read (the "eax") 0x100000005 ≡ 5)
      × gives ("rax = rcx;" ∷ "rbx = eax;" ∷ []) ("rbx = rcx;" ∷ [])
      × gives ("rax = f();" ∷ "if (eax < 5) {" ∷ " g();" ∷ "}" ∷ []) ("if (f() < 5) {" ∷ " g();" ∷ "}" ∷ [])
  -- where edx held 2^32 - 1, rax was 2^32 + 7, and a sum of 32 bits is 7
  pub sum_narrowed :
      (read (the "rcx") (write (the "ecx") 0 0xffffffff) + 8 ≡ 0x100000007) × (read (the "eax") (0xffffffff + 8) ≡ 7)
      × gives ("ecx = edx;" ∷ "rax = rcx + 8;" ∷ []) ("rax = edx + 8;" ∷ [])
  -- where cl held 255, al was 0; and ~cl is below 0 as C has it
  pub byte_sum_widened :
      (read (the "al") (255 + 1) ≡ 0)
      × gives ("al = cl + 1;" ∷ "if (al == 0) {" ∷ " f();" ∷ "}" ∷ []) ("if ((cl + 1) == 0) {" ∷ " f();" ∷ "}" ∷ [])
      × gives ("al = ~cl;" ∷ "f(al);" ∷ []) ("f(~cl);" ∷ [])
  -- MOVSXD made rax -1; al was below 0; beside eax 0x80000000 is the lowest number of 32 bits
  pub sign_extension :
      gives ("ecx = 0xffffffff;" ∷ "rax = (int64_t)ecx;" ∷ []) ("rax = (int64_t)0xffffffff;" ∷ [])
      × gives ("al = 0x80;" ∷ "if (al < 0) {" ∷ " f();" ∷ "}" ∷ []) ("if (0x80 < 0) {" ∷ " f();" ∷ "}" ∷ [])
      × gives
      ("rax = 5;" ∷ "if (eax <= 0x80000000) {" ∷ " f();" ∷ "}" ∷ [])
      ("if (5 <= 0x80000000) {" ∷ " f();" ∷ "}" ∷ [])
  -- ---- calling conventions
  -- rdi hands over the first argument (System V)
  pub argument_register : gives ("rdi = 5;" ∷ "rbx = rdi;" ∷ "f();" ∷ []) ("rbx = 5;" ∷ "f();" ∷ [])
  -- rax hands back the result
  pub return_value : gives ("rax = f();" ∷ "return;" ∷ []) ("f();" ∷ "return;" ∷ [])
  -- the caller finds rsp as it was (System V, 3.2.1; Microsoft)
  pub stack_pointer_at_return : gives ("rsp = rbp;" ∷ "rbx = rsp;" ∷ "return;" ∷ []) ("rbx = rbp;" ∷ "return;" ∷ [])
  -- and rbx
  pub preserved_at_return : gives ("rbx = var_8;" ∷ "rdi = rbx;" ∷ "return;" ∷ []) ("rdi = var_8;" ∷ "return;" ∷ [])
  -- rcx is volatile, so f may leave anything in it; but its line names it
  pub volatile_named :
      (has (volatile_of 1) (bytes "rcx") ≡ true)
      × gives ("rcx = 5;" ∷ "f(rcx);" ∷ "rbx = rcx;" ∷ []) ("f(5);" ∷ "rbx = 5;" ∷ [])
      × gives ("rcx = 5;" ∷ "rax = f(rcx);" ∷ "rdx = 7;" ∷ "rax = g(rcx, rdx);" ∷ []) ("f(5);" ∷ "g(5, 7);" ∷ [])
  -- ecx hands over `this` (Microsoft's __thiscall), or the first argument (__fastcall)
  pub this_pointer : gives_32_bit ("ecx = esi;" ∷ "ebx = ecx;" ∷ "f();" ∷ []) ("ebx = esi;" ∷ "f();" ∷ [])
  -- whatever stands behind the last line may read rax
  pub end_of_listing : gives ("rax = f();" ∷ []) ("f();" ∷ []) × gives ("rax = rcx;" ∷ "rbx = rax;" ∷ []) ("rbx = rcx;" ∷ [])
  -- ---- instructions and operations by name: Intel, volume 2
  -- not counted as a call; two of them are exchanged, and so are the values; CPUID overwrites eax
  pub keyword_call :
      (calls (some (bytes "__pop")) (listing ("rbx = __pop();" ∷ [])) ≡ 0)
      × gives ("rbx = __pop();" ∷ "rcx = __pop();" ∷ "rdx = rbx;" ∷ []) ("rcx = __pop();" ∷ "rdx = __pop();" ∷ [])
      × gives ("eax = 1;" ∷ "__cpuid(eax, ecx);" ∷ "esi = eax;" ∷ []) ("__cpuid(1, ecx);" ∷ "esi = 1;" ∷ [])
  -- rbx was counter before the exchange
  pub interlocked_passed :
      gives
      ("rbx = counter;" ∷ "r12 = _InterlockedExchange(&counter, r12);" ∷ "h(rbx);" ∷ [])
      ("r12 = _InterlockedExchange(&counter, r12);" ∷ "h(counter);" ∷ [])
  -- MUL reads rax, which the text names
  pub register_in_text :
      turns (said "rax = rcx;" ∷ said "rbx = rax;" ∷ instruction "mul rax" ∷ []) (said "rbx = rcx;" ∷ instruction "mul rax" ∷ [])
  -- and here does not name; CPUID overwrites rbx, and POP moves rsp
  pub hidden_registers :
      turns (said "rax = rcx;" ∷ said "rbx = rax;" ∷ instruction "mul rcx" ∷ []) (said "rbx = rcx;" ∷ instruction "mul rcx" ∷ [])
      × gives ("rbx = 5;" ∷ "__cpuid(eax, ecx);" ∷ "h(rbx);" ∷ []) ("__cpuid(eax, ecx);" ∷ "h(5);" ∷ [])
      × gives ("rcx = rsp;" ∷ "rbx = __pop();" ∷ "g(rcx);" ∷ []) ("rbx = __pop();" ∷ "g(rsp);" ∷ [])
  -- JRCXZ jumps to L where rcx is 0, past the overwrite
  pub jump_in_text :
      turns
      (said "rax = rcx;" ∷ said "rbx = rax;" ∷ instruction "jrcxz L" ∷ said "rax = 1;" ∷ said "L:" ∷ said "rdx = rax;" ∷ [])
      (said "rbx = rcx;" ∷ instruction "jrcxz L" ∷ said "rax = 1;" ∷ said "L:" ∷ said "rdx = rax;" ∷ [])
  -- the multiplication changes the flag
  pub flags_passed : gives ("al = __flags_o;" ∷ "rcx = rdx * 3;" ∷ "bl = al;" ∷ []) ("rcx = rdx * 3;" ∷ "bl = __flags_o;" ∷ [])
  -- ---- integer constants: C, 6.4.4.1
  pub octal : Constant (bytes "010") 8 × reads "010" (pos 10)
  pub octal_from_eight : {s : Text} {n : ℕ} → Octal s n → 8 ≤ n → parse_c_number s ≡ some (pos n) → ⊥
  pub octal_digit_eight : no_constant "08" × reads "08" (pos 8)
  pub plus : no_constant "+5" × reads "+5" (pos 5)
  pub minus : no_constant "-5" × reads "-5" (negsuc 4)
  pub two_minuses : no_constant "--5" × reads "--5" (pos 5)
  pub minus_plus : no_constant "-+5" × reads "-+5" (negsuc 4)
  pub hexadecimal_plus : no_constant "0x+5" × reads "0x+5" (pos 5)
  pub capital_x : Constant (bytes "0X1f") 31 × unread "0X1f"
  pub every_capital_x : {s : Text} {n : ℕ} → Hexadecimal (bytes "0X") s n → parse_c_number s ≡ none
  pub suffix_u : Constant (bytes "5u") 5 × unread "5u"
  pub suffix_l : Constant (bytes "5L") 5 × unread "5L"
  pub every_suffix : {s t : Text} {n : ℕ} → Unsuffixed s n → t ∈ integer_suffix → Constant (s ++ t) n × (parse_c_number (s ++ t) ≡ none)
  pub decimal_from_2^63 : {s : Text} {n : ℕ} → Decimal s n → 2 ^ 63 ≤ n → parse_c_number s ≡ none
  pub hexadecimal_from_2^64 : {s : Text} {n : ℕ} → Hexadecimal (bytes "0x") s n → 2 ^ 64 ≤ n → parse_c_number s ≡ none
  -- its value is 2^64 - 1
  pub all_ones : reads "0xffffffffffffffff" (negsuc 0)
  -- ---- sums: C, 6.4.4.1 paragraph 5, 6.5 paragraph 5, 6.2.5 paragraph 9
  -- `0xffffffff` is an unsigned int: where that has 32 bits, the sum is 0
  pub sum_of_unsigned_int : sums_to "0xffffffff" "1" "0x100000000"
  -- undefined
  pub sum_of_signed : sums_to "9223372036854775807" "1" "-0x8000000000000000"
  -- 0xffffffffffffffff, unsigned
  pub sum_of_unsigned : sums_to "0xfffffffffffffffe" "1" "-1"
  -- ---- expressions: C, 6.4 paragraph 4, 6.5
  -- `--` is one token, and wants a variable
  pub minus_minus_number : gives ("rax = -5;" ∷ "rbx = -rax;" ∷ []) ("rbx = --5;" ∷ [])
  -- and here decrements one
  pub minus_minus_register : gives ("rax = -rcx;" ∷ "rbx = -rax;" ∷ []) ("rbx = --rcx;" ∷ [])
  pub lost_brackets : gives ("rax = (rcx) - (rdx);" ∷ "rbx = rsi - rax;" ∷ []) ("rbx = rsi - (rcx) - (rdx);" ∷ [])
  -- f was called first
  pub call_order : gives ("rax = f();" ∷ "rbx = g() + rax;" ∷ []) ("rbx = g() + f();" ∷ [])
  -- f was called in any case
  pub call_skipped : gives ("rax = f();" ∷ "rbx = rcx && rax;" ∷ []) ("rbx = rcx && f();" ∷ [])
  -- rcx may point to var_8
  pub read_past_store : gives ("rax = *(rcx);" ∷ "var_8 = 5;" ∷ "rbx = rax;" ∷ []) ("var_8 = 5;" ∷ "rbx = *(rcx);" ∷ [])
  -- rbx was rcx + 1
  pub increment_moved : gives ("rax = rcx++;" ∷ "rbx = rcx;" ∷ "rdx = rax;" ∷ []) ("rbx = rcx;" ∷ "rdx = rcx++;" ∷ [])
  -- a call through a register is no call
  pub register_called : gives ("rbx = rax();" ∷ "rcx = 5;" ∷ "rdx = rbx;" ∷ []) ("rcx = 5;" ∷ "rdx = rax();" ∷ [])
  -- rcx+1 was to be doubled
  pub unspaced_sum : gives ("rax = rcx+1;" ∷ "rbx = rax * 2;" ∷ []) ("rbx = rcx+1 * 2;" ∷ [])
  -- C assigns only what stands before the comma: f had one argument, and rcx was returned
  pub comma_to_argument :
      gives ("rax = rcx, rdx;" ∷ "rbx = f(rax);" ∷ []) ("rbx = f(rcx, rdx);" ∷ [])
      × gives ("rax = rcx, rdx;" ∷ "return rax;" ∷ []) ("return rcx, rdx;" ∷ [])
  -- rcx is changed and read with no order between (6.5 paragraph 2)
  pub two_changes : gives ("rax = rcx++;" ∷ "rbx = rcx + rax;" ∷ []) ("rbx = rcx + rcx++;" ∷ [])
  -- var_8 was read before f was called
  pub read_past_call : gives ("rax = var_8;" ∷ "rbx = f() + rax;" ∷ []) ("rbx = f() + var_8;" ∷ [])
  -- f was called in any case
  pub call_under_condition : gives ("rax = f();" ∷ "if (rcx) rbx = rax;" ∷ []) ("if (rcx) rbx = f();" ∷ [])
  -- rbx was the old rcx
  pub second_statement : gives ("rax = rcx;" ∷ "rcx = 1; rbx = rax;" ∷ []) ("rcx = 1; rbx = rcx;" ∷ [])
  -- the line that the joined expression comes from had two, or a comment
  pub two_statements_moved :
      gives ("rax = rsi; rsi = rdi;" ∷ "h(rax);" ∷ []) ("h(rsi; rsi = rdi);" ∷ [])
      × turns
      (line (R "rax" ∷ P " = " ∷ N "5" ∷ P "; " ∷ T "// five;" ∷ []) ∷ said "h(rax);" ∷ [])
      (line (S "h" ∷ P "(" ∷ N "5" ∷ P "; " ∷ T "// five" ∷ P ");" ∷ []) ∷ [])
  -- rbx was f's result
  pub cut_beside_a_reader : gives ("rax = f(); rbx = rax;" ∷ []) ("f(); rbx = rax;" ∷ [])
  -- it calls nothing, and so overwrites nothing
  pub no_function :
      gives
      ("rax = rcx;" ∷ "rbx = rax;" ∷ "rdx = sizeof(x);" ∷ "r12 = rax;" ∷ [])
      ("rbx = rcx;" ∷ "rdx = sizeof(x);" ∷ "r12 = rax;" ∷ [])
  -- rcx grew in any case
  pub increment_under_condition : gives ("rax = rcx++;" ∷ "if (rsi) rbx = rax;" ∷ []) ("if (rsi) rbx = rcx++;" ∷ [])
  -- rbx was rcx before it grew
  pub input_changed : gives ("rax = rcx;" ∷ "rdx = rcx++;" ∷ "rbx = rax;" ∷ []) ("rdx = rcx++;" ∷ "rbx = rcx;" ∷ [])
  -- rcx was read before f was called, which may leave anything in it
  pub volatile_read_beside_call : gives ("rbx = rcx;" ∷ "rdx = f() + rbx;" ∷ []) ("rdx = f() + rcx;" ∷ [])
  -- counter and rcx were read after f was called
  pub call_behind_a_read :
      gives ("rax = f();" ∷ "counter += rax;" ∷ []) ("counter += f();" ∷ [])
      × gives ("rax = f();" ∷ "g(counter, rax);" ∷ []) ("g(counter, f());" ∷ [])
      × gives ("rax = f();" ∷ "*(rcx + 8) = rax;" ∷ []) ("*(rcx + 8) = f();" ∷ [])
  -- status was read first; it was read in any case
  pub reads_change_places :
      gives ("rbx = status;" ∷ "r12 = data;" ∷ "h(r12, rbx);" ∷ []) ("h(data, status);" ∷ [])
      × gives ("rax = status;" ∷ "if (rsi) rbx = rax;" ∷ []) ("if (rsi) rbx = status;" ∷ [])
  -- `/*` begins a comment, and `&&` is one operator
  pub glued_punctuators :
      gives ("rax = *rcx;" ∷ "rbx = (rdx)/rax;" ∷ []) ("rbx = (rdx)/*rcx;" ∷ [])
      × gives ("rax = &var_8;" ∷ "rbx = rcx&rax;" ∷ []) ("rbx = rcx&&var_8;" ∷ [])
  -- rbx was an element, and is the address of one
  pub postfix_on_unary : gives ("rax = &table;" ∷ "rbx = rax[2];" ∷ []) ("rbx = &table[2];" ∷ [])
  -- C adds elements to an address, and has no `&` of one
  pub address_in_a_sum :
      gives ("rcx = &table;" ∷ "rdx = rcx + 8;" ∷ []) ("rdx = &table + 8;" ∷ [])
      × gives ("rcx = &table;" ∷ "rdx = rcx & 7;" ∷ []) ("rdx = &table & 7;" ∷ [])
  -- eax was compared with its sign; what it was read from has none, and neither has the number
  pub signed_comparison :
      turns
      (line (R "eax" ∷ P " = " ∷ K "*(uint32_t *)" ∷ R "rcx" ∷ P ";" ∷ []) ∷ said "if (eax < 0) {" ∷ said " f();" ∷ said "}" ∷ [])
      (line (K "if" ∷ P " (" ∷ K "*(uint32_t *)" ∷ R "rcx" ∷ P " < " ∷ N "0" ∷ P ") {" ∷ []) ∷ said " f();" ∷ said "}" ∷ [])
      × gives
      ("eax = 0xffffffff;" ∷ "if (ecx < eax) {" ∷ " f();" ∷ "}" ∷ [])
      ("if (ecx < 0xffffffff) {" ∷ " f();" ∷ "}" ∷ [])
  -- four writes that the Rust takes for reads: `%=`, `++` in front, `=` without spaces, a member
  pub unknown_write :
      gives ("rax = rcx;" ∷ "rax %= rdx;" ∷ "f(rcx);" ∷ []) ("rcx %= rdx;" ∷ "f(rcx);" ∷ [])
      × gives ("rax = 5;" ∷ "++rax;" ∷ "rbx = rax;" ∷ []) ("++5;" ∷ "rbx = 5;" ∷ [])
      × gives ("rax = 5;" ∷ "if (rsi) rax=1;" ∷ "rbx = rax;" ∷ []) ("if (rsi) 5=1;" ∷ "rbx = 5;" ∷ [])
      × gives ("var_8 = rcx;" ∷ "var_8.f = 1;" ∷ "f(rcx);" ∷ []) ("rcx.f = 1;" ∷ "f(rcx);" ∷ [])
  -- ---- statements: C, 6.8
  pub jump_past_overwrite :
      gives
      ("rax = rcx;" ∷ "rbx = rax;" ∷ "if (rsi) goto L;" ∷ "rax = 1;" ∷ "L:" ∷ "rdx = rax;" ∷ [])
      ("rbx = rcx;" ∷ "if (rsi) goto L;" ∷ "rax = 1;" ∷ "L:" ∷ "rdx = rax;" ∷ [])
  pub conditional_return :
      gives
      ("rax = rcx;" ∷ "rbx = rax;" ∷ "if (rsi) return;" ∷ "rdx = rax;" ∷ [])
      ("rbx = rcx;" ∷ "if (rsi) return;" ∷ "rdx = rax;" ∷ [])
  pub conditional_call :
      gives
      ("rax = rcx;" ∷ "rbx = rax;" ∷ "if (rsi) f();" ∷ "rdx = rax;" ∷ [])
      ("rbx = rcx;" ∷ "if (rsi) f();" ∷ "rdx = rax;" ∷ [])
      × gives
      ("rax = rcx;" ∷ "rbx = rax;" ∷ "rdx = rsi && f();" ∷ "r12 = rax;" ∷ [])
      ("rbx = rcx;" ∷ "rdx = rsi && f();" ∷ "r12 = rax;" ∷ [])
  pub overwrite_in_another_block :
      gives
      ("if (rsi) {" ∷ " rax = rcx;" ∷ " rbx = rax;" ∷ "}" ∷ "if (rdi) {" ∷ " rax = 1;" ∷ "}" ∷ "rdx = rax;" ∷ [])
      ("if (rsi) {" ∷ " rbx = rcx;" ∷ "}" ∷ "if (rdi) {" ∷ " rax = 1;" ∷ "}" ∷ "rdx = rax;" ∷ [])
  pub label_with_statement :
      gives ("rax = 5;" ∷ "L: rbx = rax;" ∷ "rax = 6;" ∷ "goto L;" ∷ []) ("L: rbx = 5;" ∷ "rax = 6;" ∷ "goto L;" ∷ [])
  pub label_with_comment :
      turns
      (said "rax = 5;" ∷ line (S "L" ∷ P ":" ∷ T " // again" ∷ []) ∷ said "rbx = rax;" ∷ said "rax = 6;" ∷ said "goto L;" ∷ [])
      (line (S "L" ∷ P ":" ∷ T " // again" ∷ []) ∷ said "rbx = 5;" ∷ said "rax = 6;" ∷ said "goto L;" ∷ [])
  pub while_loop :
      gives
      ("while (rdx) {" ∷ " rbx = rax;" ∷ " rax = 5;" ∷ " rcx = rax;" ∷ "}" ∷ [])
      ("while (rdx) {" ∷ " rbx = rax;" ∷ " rcx = 5;" ∷ "}" ∷ [])
  pub for_loop :
      gives
      ("for (;;) {" ∷ " rbx = rax;" ∷ " rax = 5;" ∷ " rcx = rax;" ∷ "}" ∷ [])
      ("for (;;) {" ∷ " rbx = rax;" ∷ " rcx = 5;" ∷ "}" ∷ [])
  pub break_past_overwrite :
      gives
      ("do {" ∷ " rax = rcx;" ∷ " rbx = rax;" ∷ " if (rsi) break;" ∷ " rax = 1;" ∷ "} while (rdx);" ∷ "rdi = rax;" ∷ [])
      ("do {" ∷ " rbx = rcx;" ∷ " if (rsi) break;" ∷ " rax = 1;" ∷ "} while (rdx);" ∷ "rdi = rax;" ∷ [])
  pub continue_past_overwrite :
      gives
      ("do {" ∷ " rax = rcx;" ∷ " rbx = rax;" ∷ " if (rsi) continue;" ∷ " rax = 1;" ∷ "} while (rdx);" ∷ "rdi = rax;" ∷ [])
      ("do {" ∷ " rbx = rcx;" ∷ " if (rsi) continue;" ∷ " rax = 1;" ∷ "} while (rdx);" ∷ "rdi = rax;" ∷ [])
  pub switch_case :
      gives
      ("switch (rsi) {" ∷ " case 0:" ∷ " rax = rcx;" ∷ " rbx = rax;" ∷ " break;" ∷ " case 1:" ∷ " rax = 1;" ∷ "}" ∷ "rdx = rax;" ∷ [])
      ("switch (rsi) {" ∷ " case 0:" ∷ " rbx = rcx;" ∷ " break;" ∷ " case 1:" ∷ " rax = 1;" ∷ "}" ∷ "rdx = rax;" ∷ [])
  pub case_passed_over :
      gives
      ("rax = rcx;" ∷ "rbx = rax;" ∷ "switch (rsi) {" ∷ "case 1:" ∷ "rax = 1;" ∷ "}" ∷ "rdx = rax;" ∷ [])
      ("rbx = rcx;" ∷ "switch (rsi) {" ∷ "case 1:" ∷ "rax = 1;" ∷ "}" ∷ "rdx = rax;" ∷ [])
  -- the head is read again in each turn, and rax was not
  pub for_head : gives ("rax = rcx;" ∷ "for (; rax; ) {" ∷ " rcx = 1;" ∷ "}" ∷ []) ("for (; rcx; ) {" ∷ " rcx = 1;" ∷ "}" ∷ [])
  -- f was called once
  pub for_head_call : gives ("rax = f();" ∷ "for (; rax; ) {" ∷ " g();" ∷ "}" ∷ []) ("for (; f(); ) {" ∷ " g();" ∷ "}" ∷ [])
  -- ---- the same, where the Rust looks at a jump, a loop, a return or a condition, but only in part
  -- h was handed counter from the second turn on
  pub jump_on_the_use_line :
      gives ("L:" ∷ "h(rbx);" ∷ "rbx = counter;" ∷ "if (rbx != 0) goto L;" ∷ []) ("L:" ∷ "h(rbx);" ∷ "if (counter != 0) goto L;" ∷ [])
  -- from M the way leads on to L, where r12 is read
  pub back_and_back_again :
      gives
      ("L:" ∷ "h(r12);" ∷ "M:" ∷ "if (rbp) goto L;" ∷ "r12 = rdi;" ∷ "rbx = r12;" ∷ "rbp = g(rbx);" ∷ "goto M;" ∷ [])
      ("L:" ∷ "h(r12);" ∷ "M:" ∷ "if (rbp) goto L;" ∷ "rbp = g(rdi);" ∷ "goto M;" ∷ [])
  pub overwrite_in_loop_jumped_past :
      gives
      ("do {" ∷ " if (rsi) goto L;" ∷ " rbx = 1;" ∷ "L:" ∷ " h(rbx);" ∷ " rbx = var_8;" ∷ " rsi = g(rbx);" ∷ "} while (rsi);" ∷ [])
      ("do {" ∷ " if (rsi) goto L;" ∷ " rbx = 1;" ∷ "L:" ∷ " h(rbx);" ∷ " rsi = g(var_8);" ∷ "} while (rsi);" ∷ [])
  -- L stands at the indent of its code, and so the block counts as that code
  pub overwrite_one_step_deeper :
      gives
      ("L:" ∷ "if (r12) {" ∷ " rbx = 1;" ∷ "}" ∷ "h(rbx);" ∷ "rbx = counter;" ∷ "g(rbx);" ∷ "goto L;" ∷ [])
      ("L:" ∷ "if (r12) {" ∷ " rbx = 1;" ∷ "}" ∷ "h(rbx);" ∷ "g(counter);" ∷ "goto L;" ∷ [])
  -- h is reached by the second of two jumps on a line
  pub second_goto :
      gives
      ("M:" ∷ "h(rbx);" ∷ "rbx = rdi;" ∷ "g(rbx);" ∷ "if (r13) goto L; else goto M;" ∷ "L:" ∷ "return;" ∷ [])
      ("M:" ∷ "h(rbx);" ∷ "g(rdi);" ∷ "if (r13) goto L; else goto M;" ∷ "L:" ∷ "return;" ∷ [])
  pub return_in_another_block :
      gives
      ("if (rsi) {" ∷ " rax = rcx;" ∷ " rbx = rax;" ∷ "}" ∷ "if (rdi) {" ∷ " return;" ∷ "}" ∷ "rdx = rax;" ∷ [])
      ("if (rsi) {" ∷ " rbx = rcx;" ∷ "}" ∷ "if (rdi) {" ∷ " return;" ∷ "}" ∷ "rdx = rax;" ∷ [])
  -- rax was rcx only where rsi was not 0
  pub assigned_under_condition : gives ("if (rsi)" ∷ " rax = rcx;" ∷ "rbx = rax;" ∷ []) ("if (rsi)" ∷ "rbx = rcx;" ∷ [])
  -- f was called in the first branch
  pub other_branch :
      gives
      ("if (rsi) {" ∷ " rax = f();" ∷ "} else if (rax) {" ∷ " g();" ∷ "}" ∷ [])
      ("if (rsi) {" ∷ "} else if (f()) {" ∷ " g();" ∷ "}" ∷ [])
  -- g would overwrite f's result, but is called in the other branch
  pub else_overwrite :
      gives
      ("if (rsi) {" ∷ " rax = f();" ∷ "} else {" ∷ " g();" ∷ "}" ∷ "return rax;" ∷ [])
      ("if (rsi) {" ∷ " f();" ∷ "} else {" ∷ " g();" ∷ "}" ∷ "return rax;" ∷ [])
  -- where rsi is 1, rbx was rax as it stood before
  pub case_entry :
      gives
      ("switch (rsi) {" ∷ " case 0:" ∷ " rax = 5;" ∷ " case 1:" ∷ " rbx = rax;" ∷ "}" ∷ [])
      ("switch (rsi) {" ∷ " case 0:" ∷ " case 1:" ∷ " rbx = 5;" ∷ "}" ∷ [])
  -- a cut asks what a join asks: a jump, a conditional return, a loop, another block, an instruction (`end_of_listing` too)
  pub result_cut_and_read :
      gives
      ("rax = f();" ∷ "if (rsi) goto L;" ∷ "rax = g();" ∷ "L:" ∷ "return rax;" ∷ [])
      ("f();" ∷ "if (rsi) goto L;" ∷ "rax = g();" ∷ "L:" ∷ "return rax;" ∷ [])
      × gives ("rax = f();" ∷ "if (rsi) return;" ∷ "rbx = rax;" ∷ []) ("f();" ∷ "if (rsi) return;" ∷ "rbx = rax;" ∷ [])
      × gives ("while (r12) {" ∷ " h(rax);" ∷ " rax = f();" ∷ "}" ∷ []) ("while (r12) {" ∷ " h(rax);" ∷ " f();" ∷ "}" ∷ [])
      × gives
      ("if (rsi) {" ∷ " rax = f();" ∷ "}" ∷ "if (rbx) {" ∷ " rax = 5;" ∷ "}" ∷ "return rax;" ∷ [])
      ("if (rsi) {" ∷ " f();" ∷ "}" ∷ "if (rbx) {" ∷ " rax = 5;" ∷ "}" ∷ "return rax;" ∷ [])
      × turns (said "rax = f();" ∷ instruction "mul rbx" ∷ []) (said "f();" ∷ instruction "mul rbx" ∷ [])
