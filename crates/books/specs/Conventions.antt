-- The integer registers that a called function may overwrite, by calling convention. Assumes nothing.
use Rattle.std.specs.Prelude.{List}
use Rattle.reference.specs.Text.{Text}
use Rattle.books.specs.Tables.{words}

-- System V Application Binary Interface, AMD64 Architecture Processor Supplement, section 3.2.1 and figure 3.4 ("preserved across function
-- calls: no"). It preserves rbx, rsp, rbp and r12 to r15.
abbrev pub system_v : List Text
system_v = words "rax rcx rdx rsi rdi r8 r9 r10 r11"

-- Microsoft, "x64 calling convention", "Caller/callee saved registers" (volatile). It preserves rdi and rsi too.
abbrev pub microsoft : List Text
microsoft = words "rax rcx rdx r8 r9 r10 r11"

-- 32-bit code: System V Application Binary Interface, Intel386 Architecture Processor Supplement, chapter 3, "Function Calling Sequence",
-- and Microsoft's __cdecl, __stdcall and __fastcall. They preserve ebx, esi, edi, ebp and esp.
abbrev pub thirty_two_bit : List Text
thirty_two_bit = words "eax ecx edx"
