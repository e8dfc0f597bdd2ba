-- M-107's sentences on small lists and formulas, by computation; the answers of two whole calls, by what is proved of them, since 2^64
-- start values are not tried one by one. Assumes nothing.
use Prim.Native.Nat.{ℕ, ◌+◌, ◌*◌, ◌-◌, ◌%◌, ◌^◌}
use Prim.Native.String.{String}
use native.Mathlib.Omega.{arith}
use mathlib.Core.Path.{◌≡◌, refl}
use mathlib.Core.Bool.{true, false}
use mathlib.Core.List.{List, [], ◌∷◌, ◌++◌}
use mathlib.Core.Option.{none, some}
use Rattle.reference.specs.Text.{bytes}
use Rattle.reference.specs.Listing.{Token, token, Register, Number, Keyword, Punct, Line, Listing}
use Rattle.reference.specs.Tape.{write}
use Rattle.reference.specs.Questions.{Refused, Passed}
use Rattle.reference.specs.Evaluators.{plus, minus, of_integer, wide, is_tidy, number_of, lexemes_of, lexemes, behind, operator}
use Rattle.reference.specs.Evaluators.{combine, expression, evaluate}
use Rattle.reference.specs.Straight.{breaks, returned, assigned_value, returned_value, line_step, execute}
use Rattle.reference.specs.Straight.{puncts_apart, assigns_wide, returns_value, breaks_from}
use Rattle.reference.proofs.Opened.{opened}
use Rattle.start.specs.Start.{Entry, entries, entries_from, is_register, known_entries, listed, start_values}
use Rattle.start.specs.Start.{ask_names, ask_formula, start_reply}
use Rattle.start.specs.Pairs.{returned_pair}
use Rattle.start.specs.Smallest.{Asked}
use Rattle.start.proofs.Formula.{formula_is}
use Rattle.start.proofs.Answer.{start_value}

abbrev R : String → Token
R s = token Register (bytes s)

abbrev P : String → Token
P s = token Punct (bytes s)

abbrev line : List Token → Line
line ts = record { address = none; indent = 0; tokens = ts }

abbrev ret : List Token → Line
ret ts = line (token Keyword (bytes "return") ∷ P " " ∷ ts)

-- an entry: a name of three letters, and a value below 256
abbrev entry : String → ℕ → List ℕ
entry name value = (3 ∷ bytes name) ++ (value ∷ 0 ∷ 0 ∷ 0 ∷ 0 ∷ 0 ∷ 0 ∷ 0 ∷ [])

abbrev named : String → ℕ → Entry
named name value = record { name = bytes name; value = value }

-- `rcx = rax + rax - (rbx - -3);` `return rcx - rax + rcx;`
abbrev formula : Listing
formula =
    line
    (R "rcx" ∷ P " = " ∷ R "rax" ∷ P " + " ∷ R "rax" ∷ P " - (" ∷ R "rbx" ∷ P " - " ∷ token Number (bytes "-3") ∷ P ");" ∷ [])
    ∷ ret (R "rcx" ∷ P " - " ∷ R "rax" ∷ P " + " ∷ R "rcx" ∷ P ";" ∷ [])
    ∷ []

-- `return rax + rax;`
abbrev double : Listing
double = ret (R "rax" ∷ P " + " ∷ R "rax" ∷ P ";" ∷ []) ∷ []

abbrev rbx_twice : List Entry
rbx_twice = named "rbx" 7 ∷ named "rbx" 8 ∷ named "rax" 9 ∷ []

abbrev double_tape : List ℕ
double_tape = write double []

-- every definition that the examples compute with
computed : Unit {0}
unfolding opened lexemes_of lexemes wide number_of is_tidy behind operator combine expression evaluate plus minus of_integer assigned_value
    returned_value line_step execute returned puncts_apart assigns_wide returns_value breaks_from breaks entries_from entries is_register
    known_entries listed ask_names ask_formula start_reply
computed = tt

pub record Sentences : Type 0 where
  pub no_entry : entries [] ≡ some []
  pub two_entries : entries (entry "rax" 5 ++ entry "r99" 6) ≡ some (named "rax" 5 ∷ named "r99" 6 ∷ [])
  -- little-endian
  pub high_byte_last : entries (0 ∷ 1 ∷ 0 ∷ 0 ∷ 0 ∷ 0 ∷ 0 ∷ 0 ∷ 1 ∷ []) ≡ some (named "" (1 + 2 ^ 56) ∷ [])
  -- cut inside the value, and inside the name
  pub cut_value : entries (entry "rax" 5 ++ (3 ∷ bytes "rbx") ++ (0 ∷ 0 ∷ 0 ∷ 0 ∷ 0 ∷ 0 ∷ 0 ∷ [])) ≡ none
  pub cut_name : entries (3 ∷ bytes "ra") ≡ none
  pub registers : (is_register (bytes "rax") ≡ true) × (is_register (bytes "r99") ≡ true)
  pub no_registers : (is_register [] ≡ false) × (is_register (bytes "eax") ≡ false) × (is_register (bytes "r8d") ≡ false)
  pub slot : is_register (bytes "var_8") ≡ false
  -- "A register not listed is zero, the first of equal names decides, and an entry for the chosen register is ignored"
  pub not_listed : start_values (bytes "rax") rbx_twice 3 (bytes "rcx") ≡ 0
  pub first_decides : start_values (bytes "rax") rbx_twice 3 (bytes "rbx") ≡ 7
  pub chosen_ignored : start_values (bytes "rax") rbx_twice 3 (bytes "rax") ≡ 3
  -- 3 · rax - 20
  pub pair : returned_pair (bytes "rax") rbx_twice formula ≡ some (3, 2 ^ 64 - 20)
  pub value : returned (start_values (bytes "rax") rbx_twice 10) formula ≡ 10
  -- a register that the formula does not read has the multiplier 0
  pub multiplier_zero : returned_pair (bytes "rdx") rbx_twice formula ≡ some (0, 7)
  -- the tape's questions, 14, 16
  pub tape_first : start_reply [] (bytes "eax") (1 ∷ []) 6 ≡ Refused 3 0
  pub profile_next : start_reply (0xFF ∷ []) (bytes "eax") (1 ∷ []) 6 ≡ Refused 14 0
  pub narrow_chosen : start_reply double_tape (bytes "eax") [] 6 ≡ Refused 16 0
  pub narrow_listed : start_reply double_tape (bytes "rax") (entry "eax" 5) 6 ≡ Refused 16 0
  pub cut_list : start_reply double_tape (bytes "rax") (3 ∷ []) 6 ≡ Refused 16 0

pub sentences : Sentences
unfolding computed
sentences =
    record {
      no_entry = refl;
      two_entries = refl;
      high_byte_last = refl;
      cut_value = refl;
      cut_name = refl;
      registers = (refl, refl);
      no_registers = (refl, refl, refl);
      slot = refl;
      not_listed = refl;
      first_decides = refl;
      chosen_ignored = refl;
      pair = refl;
      value = refl;
      multiplier_zero = refl;
      tape_first = refl;
      profile_next = refl;
      narrow_chosen = refl;
      narrow_listed = refl;
      cut_list = refl;
    }

-- ---- "none and many both occur": rax + rax is 6 for 3 and for 3 + 2^63, and 1 for no start value

double_asked : Asked double_tape (bytes "rax") []
unfolding computed
double_asked =
    record { lines = double; known = []; tape_holds = refl; in_profile = refl; chosen_register = refl; list_holds = refl }

double_is : (v : ℕ) → returned (start_values (bytes "rax") [] v) double ≡ (2 * v + 0) % 2 ^ 64
unfolding computed
double_is v = formula_is (bytes "rax") [] double 2 0 refl v

pub many : start_reply double_tape (bytes "rax") [] 6 ≡ Passed 3
unfolding double_asked
many =
    (start_value double_tape (bytes "rax") [] 6).tells double_asked 3 (omega arith)
    (record { does = double_is 3; least = λ y l e. omega (arith, double_is y, e) })

pub not_one : start_reply double_tape (bytes "rax") [] 1 ≡ Refused 15 0
unfolding double_asked
not_one = (start_value double_tape (bytes "rax") [] 1).refuses double_asked (λ y l e. omega (arith, double_is y, e))
