-- M-106's profile on small listings, by computation. Assumes nothing.
use Prim.Native.String.{String}
use mathlib.Core.Path.{◌≡◌, refl}
use mathlib.Core.Bool.{true, false}
use mathlib.Core.List.{List, [], ◌∷◌}
use mathlib.Core.Option.{none, some}
use Rattle.reference.specs.Control.{when◌then◌else◌}
use Rattle.reference.specs.Text.{bytes, ◌≟◌}
use Rattle.reference.specs.Listing.{Token, token, Register, Number, Keyword, Punct, Line, Listing}
use Rattle.reference.specs.Rules.{Rules}
use Rattle.reference.specs.Run.{finished}
use Rattle.reference.specs.Questions.{WORK, OUTPUT, Refused}
use Rattle.reference.specs.Reply.{reply}
use Rattle.reference.specs.Evaluators.{Store, plus, minus, of_integer, wide, is_tidy, number_of, lexemes_of, lexemes, behind, operator, combine, expression, evaluate}
use Rattle.reference.specs.Straight.{breaks, returned, assigned_value, returned_value, line_step, execute, puncts_apart, assigns_wide, returns_value, breaks_from}
use Rattle.reference.proofs.Opened.{opened}

abbrev R : String → Token
R s = token Register (bytes s)

abbrev N : String → Token
N s = token Number (bytes s)

abbrev P : String → Token
P s = token Punct (bytes s)

abbrev K : String → Token
K s = token Keyword (bytes s)

abbrev line : List Token → Line
line ts = record { address = none; indent = 0; tokens = ts }

abbrev profiled : Rules
profiled = record { convention = 1; settle = false; edition = 0; parts = false; profile = true }

abbrev unprofiled : Rules
unprofiled = record { convention = 1; settle = false; edition = 0; parts = false; profile = false }

-- rcx 100, rdx 7, rsi 1, r99 5, the others 11
abbrev some_store : Store
some_store x = when x ≟ bytes "rcx" then 100 else when x ≟ bytes "rdx" then 7 else when x ≟ bytes "rsi" then 1 else when x ≟ bytes "r99" then 5 else 11

abbrev ret : List Token → Line
ret ts = line (K "return" ∷ ts)

-- document 01's lost brackets
abbrev lost : Listing
lost =
    line (R "rax" ∷ P " = (" ∷ R "rcx" ∷ P ") - (" ∷ R "rdx" ∷ P ");" ∷ [])
    ∷ line (R "rbx" ∷ P " = " ∷ R "rsi" ∷ P " - " ∷ R "rax" ∷ P ";" ∷ [])
    ∷ ret (P " " ∷ R "rbx" ∷ P ";" ∷ [])
    ∷ []

-- a constant to several uses, folded, a register assigned twice, r99, negative numbers
abbrev several : Listing
several =
    line (R "rax" ∷ P " = " ∷ N "-5" ∷ P ";" ∷ [])
    ∷ line (R "rbx" ∷ P " = " ∷ R "rax" ∷ P " - " ∷ R "rax" ∷ P " + " ∷ R "r99" ∷ P ";" ∷ [])
    ∷ line (R "r99" ∷ P " = (" ∷ R "rax" ∷ P " - " ∷ N "0x10" ∷ P ") - (" ∷ N "1" ∷ P " - " ∷ R "rax" ∷ P ");" ∷ [])
    ∷ line (R "rax" ∷ P " = " ∷ R "rbx" ∷ P " - " ∷ R "r99" ∷ P ";" ∷ [])
    ∷ ret (P " (" ∷ R "rax" ∷ P " - (" ∷ R "rdx" ∷ P " - " ∷ R "rax" ∷ P "));" ∷ [])
    ∷ []

-- Why "Two Puncts side by side break the profile": ` ` and `= ` as two tokens make no assignment, so its register is taken for a use, and the
-- right side of the line before would take its place: `rcx = 5;`
abbrev split : Listing
split =
    line (R "rax" ∷ P " = " ∷ R "rcx" ∷ P ";" ∷ [])
    ∷ line (R "rax" ∷ P " " ∷ P "= " ∷ N "5" ∷ P ";" ∷ [])
    ∷ ret (P " " ∷ R "rcx" ∷ P ";" ∷ [])
    ∷ []

-- folds that wrap, the lowest number, and brackets that are spared
abbrev wraps : Listing
wraps =
    line (R "rax" ∷ P " = " ∷ N "9223372036854775807" ∷ P ";" ∷ [])
    ∷ line (R "rbx" ∷ P " = " ∷ R "rax" ∷ P " + " ∷ N "1" ∷ P ";" ∷ [])
    ∷ line (R "rcx" ∷ P " = (" ∷ R "rdx" ∷ P " - " ∷ R "rbx" ∷ P ") - (" ∷ R "rbx" ∷ P ");" ∷ [])
    ∷ line (R "rcx" ∷ P " = " ∷ R "rcx" ∷ P " - " ∷ N "-0xffffffffffffffff" ∷ P ";" ∷ [])
    ∷ ret (P " (" ∷ R "rcx" ∷ P ") - ((" ∷ R "rcx" ∷ P "));" ∷ [])
    ∷ []

pub record Straight : Type 0 where
  pub only_return : breaks (ret (P " " ∷ N "5" ∷ P ";" ∷ []) ∷ []) ≡ none
  pub only_value : returned some_store (ret (P " " ∷ N "-5" ∷ P ";" ∷ []) ∷ []) ≡ 18446744073709551611
  pub empty : breaks [] ≡ some 0
  pub empty_call : reply profiled (0xFF ∷ []) WORK WORK OUTPUT ≡ Refused 14 0
  pub no_return : breaks (line (R "rax" ∷ P " = " ∷ N "5" ∷ P ";" ∷ []) ∷ []) ≡ some 0
  pub two_puncts : breaks (ret (P " " ∷ P "(" ∷ N "5" ∷ P ");" ∷ []) ∷ []) ≡ some 0
  pub narrow : breaks (line (R "eax" ∷ P " = " ∷ N "5" ∷ P ";" ∷ []) ∷ ret (P " " ∷ N "5" ∷ P ";" ∷ []) ∷ []) ≡ some 0
  pub slot : breaks (line (R "rax" ∷ P " = " ∷ R "var_8" ∷ P ";" ∷ []) ∷ ret (P " " ∷ N "5" ∷ P ";" ∷ []) ∷ []) ≡ some 0
  pub octal : breaks (line (R "rax" ∷ P " = " ∷ N "5" ∷ P ";" ∷ []) ∷ ret (P " " ∷ N "05" ∷ P ";" ∷ []) ∷ []) ≡ some 1
  -- numbers: `-0` and `0x0010` pass; `00`, `-010` and `0X1f` break, and so does a minus in the Punct
  pub minus_zero : breaks (ret (P " " ∷ N "-0" ∷ P ";" ∷ []) ∷ []) ≡ none
  pub hexadecimal : breaks (ret (P " " ∷ N "0x0010" ∷ P ";" ∷ []) ∷ []) ≡ none
  pub two_zeros : breaks (ret (P " " ∷ N "00" ∷ P ";" ∷ []) ∷ []) ≡ some 0
  pub minus_octal : breaks (ret (P " " ∷ N "-010" ∷ P ";" ∷ []) ∷ []) ≡ some 0
  pub large_x : breaks (ret (P " " ∷ N "0X1f" ∷ P ";" ∷ []) ∷ []) ≡ some 0
  pub minus_outside : breaks (ret (P " -" ∷ N "5" ∷ P ";" ∷ []) ∷ []) ≡ some 0
  pub plus_inside : breaks (ret (P " " ∷ N "+5" ∷ P ";" ∷ []) ∷ []) ≡ some 0
  pub updated : breaks (line (R "rax" ∷ P " = " ∷ R "rax" ∷ P " + " ∷ N "1" ∷ P ";" ∷ []) ∷ ret (P " " ∷ R "rax" ∷ P ";" ∷ []) ∷ []) ≡ none
  -- the first line that breaks it, and another indent
  pub first_one : breaks (line [] ∷ line [] ∷ ret (P " " ∷ N "5" ∷ P ";" ∷ []) ∷ []) ≡ some 0
  pub other_indent : breaks (line (R "rax" ∷ P " = " ∷ N "5" ∷ P ";" ∷ []) ∷ record { address = none; indent = 1; tokens = K "return" ∷ P " " ∷ N "5" ∷ P ";" ∷ [] } ∷ []) ≡ some 1
  -- brackets are given to every expression of more than one token
  pub bracketed_again :
      finished profiled
      (line (R "rax" ∷ P " = (" ∷ R "rbx" ∷ P ");" ∷ []) ∷ line (R "rcx" ∷ P " = " ∷ R "rsi" ∷ P " - " ∷ R "rax" ∷ P ";" ∷ [])
      ∷ line (R "rcx" ∷ P " = " ∷ R "rcx" ∷ P " - " ∷ R "rcx" ∷ P ";" ∷ []) ∷ ret (P " " ∷ R "rcx" ∷ P ";" ∷ []) ∷ [])
      ≡ line (R "rcx" ∷ P " = " ∷ R "rsi" ∷ P " - ((" ∷ R "rbx" ∷ P "));" ∷ [])
      ∷ line (R "rcx" ∷ P " = " ∷ R "rcx" ∷ P " - " ∷ R "rcx" ∷ P ";" ∷ []) ∷ ret (P " " ∷ R "rcx" ∷ P ";" ∷ []) ∷ []
  pub lost_fits : breaks lost ≡ none
  pub lost_value : returned some_store lost ≡ 18446744073709551524
  pub lost_kept : returned some_store (finished profiled lost) ≡ 18446744073709551524
  -- without the profile the brackets are lost, and the value is another
  pub lost_without : returned some_store (finished unprofiled lost) ≡ 18446744073709551510
  pub lost_again : breaks (finished profiled lost) ≡ none
  -- the space behind `return` is no delimiter: a joined expression gets brackets there, and a sum is not folded
  pub return_brackets :
      finished profiled (line (R "rax" ∷ P " = " ∷ R "rcx" ∷ P " - " ∷ R "rdx" ∷ P ";" ∷ []) ∷ ret (P " " ∷ R "rax" ∷ P ";" ∷ []) ∷ [])
      ≡ ret (P " (" ∷ R "rcx" ∷ P " - " ∷ R "rdx" ∷ P ");" ∷ []) ∷ []
  pub return_unfolded :
      finished profiled (line (R "rax" ∷ P " = " ∷ N "5" ∷ P ";" ∷ []) ∷ ret (P " " ∷ R "rax" ∷ P " + " ∷ N "3" ∷ P ";" ∷ []) ∷ [])
      ≡ ret (P " " ∷ N "5" ∷ P " + " ∷ N "3" ∷ P ";" ∷ []) ∷ []
  pub split_breaks : breaks split ≡ some 1
  pub split_before : returned some_store split ≡ 100
  pub split_after : returned some_store (finished profiled split) ≡ 5
  pub wraps_fits : breaks wraps ≡ none
  pub wraps_kept : returned some_store (finished profiled wraps) ≡ returned some_store wraps
  pub wraps_again : breaks (finished profiled wraps) ≡ none
  pub several_fits : breaks several ≡ none
  pub several_kept : returned some_store (finished profiled several) ≡ returned some_store several
  pub several_again : breaks (finished profiled several) ≡ none

pub straight : Straight
unfolding opened breaks returned plus minus of_integer wide is_tidy number_of lexemes_of lexemes behind operator combine expression evaluate assigned_value returned_value line_step execute
    puncts_apart assigns_wide returns_value breaks_from
straight =
    record {
      only_return = refl;
      only_value = refl;
      empty = refl;
      empty_call = refl;
      no_return = refl;
      two_puncts = refl;
      narrow = refl;
      slot = refl;
      octal = refl;
      minus_zero = refl;
      hexadecimal = refl;
      two_zeros = refl;
      minus_octal = refl;
      large_x = refl;
      minus_outside = refl;
      plus_inside = refl;
      updated = refl;
      first_one = refl;
      other_indent = refl;
      bracketed_again = refl;
      lost_fits = refl;
      lost_value = refl;
      lost_kept = refl;
      lost_without = refl;
      lost_again = refl;
      return_brackets = refl;
      return_unfolded = refl;
      split_breaks = refl;
      split_before = refl;
      split_after = refl;
      wraps_fits = refl;
      wraps_kept = refl;
      wraps_again = refl;
      several_fits = refl;
      several_kept = refl;
      several_again = refl;
    }
