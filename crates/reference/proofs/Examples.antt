-- The starred examples of document 01, as one statement, and small listings that tell a wrong port. Assumes nothing.
use Prim.Native.Nat.{ℕ}
use Prim.Native.String.{String}
use mathlib.Core.Path.{◌≡◌, refl}
use mathlib.Core.Bool.{true, false}
use mathlib.Core.List.{List, [], ◌∷◌, ◌++◌}
use mathlib.Core.Option.{Option, none, some}
use lib.IntN.{pos, negsuc}
use Rattle.reference.specs.Text.{bytes}
use Rattle.reference.specs.Listing.{Token, token, Register, Number, Keyword, Symbol, Punct, Line, Listing}
use Rattle.reference.specs.Names.{Fam, family}
use Rattle.reference.specs.Rules.{Rules}
use Rattle.reference.specs.Numbers.{parse_c_number, fold}
use Rattle.reference.specs.Run.{run, finished, three, settled, Counts, counts}
use Rattle.reference.specs.Questions.{WORK, OUTPUT, Passed}
use Rattle.reference.specs.Reply.{Reply, reply, report}
use Rattle.reference.proofs.Opened.{opened}

abbrev fam : String → ℕ → ℕ → Option Fam
fam s w l = some (record { name = bytes s; width = w; lowest = l })

abbrev R : String → Token
R s = token Register (bytes s)

abbrev N : String → Token
N s = token Number (bytes s)

abbrev S : String → Token
S s = token Symbol (bytes s)

abbrev P : String → Token
P s = token Punct (bytes s)

abbrev K : String → Token
K s = token Keyword (bytes s)

abbrev line : List Token → Line
line ts = record { address = none; indent = 0; tokens = ts }

abbrev made : ℕ → ℕ → ℕ → ℕ → ℕ → Counts
made a b c r x = record { tally = three a b c; lines_removed = r; results_cut = x }

abbrev convention_1 : Rules
convention_1 = record { convention = 1; settle = false; edition = 0; parts = false; profile = false }

-- the finished listing under convention 1, and the counts
abbrev cleans : Listing → Listing → Counts → Type 0
cleans before after c = (finished convention_1 before ≡ after) × (counts convention_1 (run convention_1 before) ≡ c)

-- the reply to the tape of FF alone, with just enough room
abbrev end_alone-reply : Reply
end_alone-reply = reply convention_1 (0xFF ∷ []) WORK WORK OUTPUT

pub record Starred : Type 0 where
  pub ah : family (bytes "ah") ≡ fam "rax" 8 8
  pub r8l : family (bytes "r8l") ≡ fam "r8" 8 0
  pub r8x : family (bytes "r8x") ≡ none
  pub r99 : family (bytes "r99") ≡ fam "r99" 64 0
  pub all_ones : parse_c_number (bytes "0xffffffffffffffff") ≡ some (negsuc 0)
  pub ten : parse_c_number (bytes "010") ≡ some (pos 10)
  pub two_minuses : parse_c_number (bytes "--5") ≡ some (pos 5)
  pub no_digits : parse_c_number (bytes "0x") ≡ none
  pub too_large : parse_c_number (bytes "9223372036854775808") ≡ none
  pub minus_nine : fold 0 (N "4" ∷ P " - " ∷ N "13" ∷ []) ≡ N "-9" ∷ []
  pub minus_ten : fold 0 (N "4" ∷ P " - " ∷ N "14" ∷ []) ≡ N "-0xa" ∷ []
  pub wraps : fold 0 (N "9223372036854775807" ∷ P " + " ∷ N "1" ∷ []) ≡ N "-0x8000000000000000" ∷ []
  pub constant :
      cleans
      (line (R "rax" ∷ P " = " ∷ N "5" ∷ P ";" ∷ []) ∷ line (R "rbx" ∷ P " = " ∷ R "rax" ∷ P " + " ∷ N "4" ∷ P ";" ∷ []) ∷ [])
      (line (R "rbx" ∷ P " = " ∷ N "9" ∷ P ";" ∷ []) ∷ [])
      (made 2 1 0 1 0)
  pub byte_use :
      cleans
      (line (R "rax" ∷ P " = " ∷ N "5" ∷ P ";" ∷ []) ∷ line (R "al" ∷ P " = " ∷ N "1" ∷ P ";" ∷ []) ∷ [])
      (line (R "rax" ∷ P " = " ∷ N "5" ∷ P ";" ∷ []) ∷ line (R "al" ∷ P " = " ∷ N "1" ∷ P ";" ∷ []) ∷ [])
      (made 2 0 0 0 0)
  pub call :
      cleans
      (line (R "rax" ∷ P " = " ∷ S "f" ∷ P "();" ∷ []) ∷ line (R "rbx" ∷ P " = " ∷ S "g" ∷ P "(" ∷ R "rax" ∷ P ");" ∷ []) ∷ [])
      (line (R "rbx" ∷ P " = " ∷ S "g" ∷ P "(" ∷ S "f" ∷ P "());" ∷ []) ∷ [])
      (made 2 1 0 1 0)
  pub brackets :
      cleans
      (line (R "rax" ∷ P " = " ∷ R "rcx" ∷ P " - " ∷ R "rdx" ∷ P ";" ∷ []) ∷ line (R "rbx" ∷ P " = " ∷ R "rsi" ∷ P " - " ∷ R "rax" ∷ P ";" ∷ []) ∷ [])
      (line (R "rbx" ∷ P " = " ∷ R "rsi" ∷ P " - (" ∷ R "rcx" ∷ P " - " ∷ R "rdx" ∷ P ");" ∷ []) ∷ [])
      (made 2 1 0 1 0)
  pub nothing : cleans [] [] (made 0 0 0 0 0)
  pub end_alone : (end_alone-reply ≡ Passed (record { tape = 0xFF ∷ []; counts = made 0 0 0 0 0 })) × ((report end_alone-reply).length ≡ 1)

pub starred : Starred
unfolding opened
starred =
    record {
      ah = refl;
      r8l = refl;
      r8x = refl;
      r99 = refl;
      all_ones = refl;
      ten = refl;
      two_minuses = refl;
      no_digits = refl;
      too_large = refl;
      minus_nine = refl;
      minus_ten = refl;
      wraps = refl;
      constant = (refl, refl);
      byte_use = (refl, refl);
      call = (refl, refl);
      brackets = (refl, refl);
      nothing = (refl, refl);
      end_alone = (refl, refl);
    }

-- Small listings of which each shows one thing that a wrong port gets wrong, with what the Rust made of them.
pub record Telling : Type 0 where
  -- the join makes a label during the first round, and the labels are those of its beginning: the `goto` is to no known label until the second
  pub labels_frozen :
      cleans
      (line (R "rbx" ∷ P " = " ∷ S "L" ∷ P ";" ∷ [])
      ∷ line (R "rbx" ∷ P ":" ∷ [])
      ∷ line (R "rbx" ∷ P " = " ∷ N "2" ∷ P ";" ∷ [])
      ∷ line (R "rax" ∷ P " = " ∷ N "5" ∷ P ";" ∷ [])
      ∷ line (S "f" ∷ P "(" ∷ R "rax" ∷ P ");" ∷ [])
      ∷ line (K "goto" ∷ P " " ∷ S "L" ∷ P ";" ∷ [])
      ∷ [])
      (line (S "L" ∷ P ":" ∷ [])
      ∷ line (R "rbx" ∷ P " = " ∷ N "2" ∷ P ";" ∷ [])
      ∷ line (S "f" ∷ P "(" ∷ N "5" ∷ P ");" ∷ [])
      ∷ line (K "goto" ∷ P " " ∷ S "L" ∷ P ";" ∷ [])
      ∷ [])
      (made 6 6 4 2 0)
  -- the line before a line removed is tried again at once
  pub steps_back :
      cleans
      (line (R "r12" ∷ P " = " ∷ R "rcx" ∷ P " - " ∷ N "1" ∷ P ";" ∷ [])
      ∷ line (R "rbx" ∷ P " = " ∷ S "h" ∷ P "();" ∷ [])
      ∷ line (S "g" ∷ P "(" ∷ R "r12" ∷ P ", " ∷ R "rbx" ∷ P ");" ∷ [])
      ∷ [])
      (line (S "g" ∷ P "(" ∷ R "rcx" ∷ P " - " ∷ N "1" ∷ P ", " ∷ S "h" ∷ P "());" ∷ []) ∷ [])
      (made 4 1 0 2 0)
  -- an assignment to 16 bits reads the rest of the register, so the result is not dead; to 32 bits it kills
  pub word_reads :
      cleans
      (line (R "rax" ∷ P " = " ∷ S "f" ∷ P "();" ∷ []) ∷ line (R "ax" ∷ P " = " ∷ N "1" ∷ P ";" ∷ []) ∷ [])
      (line (R "rax" ∷ P " = " ∷ S "f" ∷ P "();" ∷ []) ∷ line (R "ax" ∷ P " = " ∷ N "1" ∷ P ";" ∷ []) ∷ [])
      (made 2 0 0 0 0)
  pub double_word_kills :
      cleans
      (line (R "rax" ∷ P " = " ∷ S "f" ∷ P "();" ∷ []) ∷ line (R "eax" ∷ P " = " ∷ N "1" ∷ P ";" ∷ []) ∷ [])
      (line (S "f" ∷ P "();" ∷ []) ∷ line (R "eax" ∷ P " = " ∷ N "1" ∷ P ";" ∷ []) ∷ [])
      (made 2 0 0 0 1)

pub telling : Telling
unfolding opened
telling = record { labels_frozen = (refl, refl); steps_back = (refl, refl); word_reads = (refl, refl); double_word_kills = (refl, refl) }

-- ---- a fourth round (M-112)

abbrev settling_1 : Rules
settling_1 = record { convention = 1; settle = true; edition = 0; parts = false; profile = false }

abbrev settles : Listing → Listing → Counts → Type 0
settles before after c = (finished settling_1 before ≡ after) × (counts settling_1 (run settling_1 before) ≡ c)

-- `r13 = r13 + 1;`, which no attempt removes: an attempt that removes the line behind it steps back onto it, and no further
abbrev stays : Line
stays = line (R "r13" ∷ P " = " ∷ R "r13" ∷ P " + " ∷ N "1" ∷ P ";" ∷ [])

-- The call is joined in the first round, and each of the three lines above it only in the round after the line below it went.
abbrev chain : Listing
chain =
    line (R "r15" ∷ P " = " ∷ R "r14" ∷ P " + " ∷ N "3" ∷ P ";" ∷ [])
    ∷ stays
    ∷ line (R "r14" ∷ P " = " ∷ R "r12" ∷ P " + " ∷ N "2" ∷ P ";" ∷ [])
    ∷ stays
    ∷ line (R "r12" ∷ P " = " ∷ R "rcx" ∷ P " - " ∷ N "1" ∷ P ";" ∷ [])
    ∷ stays
    ∷ line (R "rbx" ∷ P " = " ∷ S "h" ∷ P "();" ∷ [])
    ∷ line (S "g" ∷ P "(" ∷ R "r15" ∷ P ", " ∷ R "r14" ∷ P ", " ∷ R "r12" ∷ P ", " ∷ R "rbx" ∷ P ");" ∷ [])
    ∷ []

pub record FourthRound : Type 0 where
  pub three_rounds :
      cleans chain
      (line (R "r15" ∷ P " = " ∷ R "r14" ∷ P " + " ∷ N "3" ∷ P ";" ∷ [])
      ∷ stays
      ∷ stays
      ∷ stays
      ∷ line (S "g" ∷ P "(" ∷ R "r15" ∷ P ", " ∷ R "r12" ∷ P " + " ∷ N "2" ∷ P ", " ∷ R "rcx" ∷ P " - " ∷ N "1" ∷ P ", " ∷ S "h" ∷ P "());" ∷ [])
      ∷ [])
      (made 9 8 7 3 0)
  pub until_it_settles :
      settles chain
      (stays
      ∷ stays
      ∷ stays
      ∷ line (S "g" ∷ P "(" ∷ R "r14" ∷ P " + " ∷ N "3" ∷ P ", " ∷ R "r12" ∷ P " + " ∷ N "2" ∷ P ", " ∷ R "rcx" ∷ P " - " ∷ N "1" ∷ P ", " ∷ S "h" ∷ P "());" ∷ [])
      ∷ [])
      (record { tally = settled 5 33; lines_removed = 4; results_cut = 0 })
  pub nothing : settles [] [] (record { tally = settled 1 0; lines_removed = 0; results_cut = 0 })

pub fourth_round : FourthRound
unfolding opened
fourth_round = record { three_rounds = (refl, refl); until_it_settles = (refl, refl); nothing = (refl, refl) }

-- ---- two editions (M-100)

-- `rax = a;` and `rbx = rax + b;` become `rbx = ` and these tokens and `;`, in the edition
abbrev joins_to : ℕ → String → String → List Token → Type 0
joins_to edition a b made =
    finished (record { convention = 1; settle = false; edition = edition; parts = false; profile = false })
    (line (R "rax" ∷ P " = " ∷ N a ∷ P ";" ∷ []) ∷ line (R "rbx" ∷ P " = " ∷ R "rax" ∷ P " + " ∷ N b ∷ P ";" ∷ []) ∷ [])
    ≡ line (R "rbx" ∷ P " = " ∷ (made ++ (P ";" ∷ []))) ∷ []

pub record TwoEditions : Type 0 where
  pub ten_by_the_rust : joins_to 0 "010" "1" (N "0xb" ∷ [])
  pub eight_by_the_book : joins_to 1 "010" "1" (N "9" ∷ [])
  -- a Number that is not read is joined and not folded
  pub unread_by_the_book : joins_to 1 "08" "1" (N "08" ∷ P " + " ∷ N "1" ∷ [])
  pub unread_by_the_rust : joins_to 0 "0b1" "1'0" (N "0b1" ∷ P " + " ∷ N "1'0" ∷ [])
  pub quotes_and_bits : joins_to 1 "0b1" "1'0" (N "0xb" ∷ [])

pub two_editions : TwoEditions
unfolding opened
two_editions =
    record { ten_by_the_rust = refl; eight_by_the_book = refl; unread_by_the_book = refl; unread_by_the_rust = refl; quotes_and_bits = refl }

-- M-104: high byte and low byte, with the setting (`under_parts`) and without it (`cleans`)
abbrev parts_1 : Rules
parts_1 = record { convention = 1; settle = false; edition = 0; parts = true; profile = false }

abbrev under_parts : Listing → Listing → Counts → Type 0
under_parts before after c = (finished parts_1 before ≡ after) × (counts parts_1 (run parts_1 before) ≡ c)

-- an assignment `to = e;`
abbrev sets : String → Token → Line
sets to e = line (R to ∷ P " = " ∷ e ∷ P ";" ∷ [])

pub record Bytes : Type 0 where
  -- "8 for ah, bh, ch and dh, 0 otherwise"
  pub dh : family (bytes "dh") ≡ fam "rdx" 8 8
  pub al : family (bytes "al") ≡ fam "rax" 8 0
  pub slot : family (bytes "var_8") ≡ fam "var_8" 64 0
  -- "With it `ah = 5;` `bl = al;` is left standing; without it the Rust's reply holds."
  pub flag_stands : under_parts (sets "ah" (N "5") ∷ sets "bl" (R "al") ∷ []) (sets "ah" (N "5") ∷ sets "bl" (R "al") ∷ []) (made 2 0 0 0 0)
  pub flag_joins : cleans (sets "ah" (N "5") ∷ sets "bl" (R "al") ∷ []) (sets "bl" (N "5") ∷ []) (made 2 1 0 1 0)
  -- the same part joins
  pub same_part : under_parts (sets "ah" (R "rcx") ∷ sets "bl" (R "ah") ∷ []) (sets "bl" (R "rcx") ∷ []) (made 2 1 0 1 0)
  -- a use of 32 bits or more goes as without the setting
  pub wide_use : under_parts (sets "al" (N "5") ∷ sets "rbx" (R "rax") ∷ []) (sets "rbx" (N "5") ∷ []) (made 2 1 0 1 0)
  pub high_wide_use : under_parts (sets "ah" (N "5") ∷ sets "ebx" (R "eax") ∷ []) (sets "ebx" (N "5") ∷ []) (made 2 1 0 1 0)

pub high_and_low : Bytes
unfolding opened
high_and_low =
    record {
      dh = refl;
      al = refl;
      slot = refl;
      flag_stands = (refl, refl);
      flag_joins = (refl, refl);
      same_part = (refl, refl);
      wide_use = (refl, refl);
      high_wide_use = (refl, refl);
    }
