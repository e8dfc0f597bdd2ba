-- `family` and `fam_of` of pseudo_opt.rs, and the volatile lists. Assumes nothing.
use Rattle.std.specs.Prelude.{ℕ, Bool, false, List, [], ◌∷◌, ◌++◌, leb, eqb, get_or, drop, length}
use Rattle.std.proofs.Math.Option.{Option, none, some}
use Rattle.reference.specs.Control.{◌and◌, ◌or◌, when◌then◌else◌, let_some◌else◌then◌}
use Rattle.reference.specs.Lists.{position, is_empty}
use Rattle.reference.specs.Text.{Text, bytes, has, strip_prefix, ◌≟◌, starts_with}
use Rattle.reference.specs.Listing.{Token, is, Register}

-- what a name says: a register family, named by its 64-bit register, a width in bits, and (M-104) "the lowest bit of the part, 8 for ah,
-- bh, ch and dh, 0 otherwise"
abbrev pub Fam : Type 0
Fam = record { name : Text; width : ℕ; lowest : ℕ }

abbrev pub LEGACY : List (List Text)
LEGACY =
    (bytes "rax" ∷ bytes "eax" ∷ bytes "ax" ∷ bytes "al" ∷ [])
    ∷ (bytes "rbx" ∷ bytes "ebx" ∷ bytes "bx" ∷ bytes "bl" ∷ [])
    ∷ (bytes "rcx" ∷ bytes "ecx" ∷ bytes "cx" ∷ bytes "cl" ∷ [])
    ∷ (bytes "rdx" ∷ bytes "edx" ∷ bytes "dx" ∷ bytes "dl" ∷ [])
    ∷ (bytes "rsi" ∷ bytes "esi" ∷ bytes "si" ∷ bytes "sil" ∷ [])
    ∷ (bytes "rdi" ∷ bytes "edi" ∷ bytes "di" ∷ bytes "dil" ∷ [])
    ∷ (bytes "rbp" ∷ bytes "ebp" ∷ bytes "bp" ∷ bytes "bpl" ∷ [])
    ∷ (bytes "rsp" ∷ bytes "esp" ∷ bytes "sp" ∷ bytes "spl" ∷ [])
    ∷ []

-- `for (f, names) in LEGACY { if let Some(i) = names.iter().position(|n| *n == name) { return .. } }`
unfoldable pub legacy : List (List Text) → Text → Option Fam
legacy [] name = none
legacy (names ∷ rest) name =
    let next = legacy rest name in
    let_some (position (◌≟ name) names) else next then λ i.
    some (record { name = get_or names 0 []; width = get_or (64 ∷ 32 ∷ 16 ∷ 8 ∷ []) i 0; lowest = 0 })

abbrev pub is_digit : ℕ → Bool
is_digit c = leb 48 c and leb c 57

abbrev pub digits_of : Text → Text
digits_of [] = []
digits_of (c ∷ cs) = let r = digits_of cs in when is_digit c then c ∷ r else []

-- the width that a numbered register's suffix says
unfoldable pub suffix : Text → Option ℕ
suffix s =
    when s ≟ [] then some 64
    else when s ≟ bytes "d" then some 32
    else when s ≟ bytes "w" then some 16
    else when (s ≟ bytes "b") or (s ≟ bytes "l") then some 8
    else none

-- Stack variables behave like registers.
unfoldable pub stack_slot : Text → Option Fam
stack_slot name = when starts_with name (bytes "var_") then some (record { name = name; width = 64; lowest = 0 }) else none

-- `if let Some(rest) = name.strip_prefix('r') { .. }`, and what follows it
unfoldable pub numbered : Text → Option Fam
numbered name =
    let_some (strip_prefix (bytes "r") name) else stack_slot name then λ rest.
    let digits : Text = digits_of rest in
    when is_empty digits then stack_slot name
    else let_some (suffix (drop (length digits) rest)) else none then λ w.
    some (record { name = bytes "r" ++ digits; width = w; lowest = 0 })

-- `if matches!(name, "ah" | "bh" | "ch" | "dh") { .. }`, and what follows it
unfoldable pub high_byte : Text → Option Fam
high_byte name =
    when has (bytes "ah" ∷ bytes "bh" ∷ bytes "ch" ∷ bytes "dh" ∷ []) name
    then some (record { name = bytes "r" ++ (get_or name 0 0 ∷ []) ++ bytes "x"; width = 8; lowest = 8 })
    else numbered name

unfoldable pub family : Text → Option Fam
family name = let_some (legacy LEGACY name) else high_byte name then λ f. some f

unfoldable pub fam_of : Token → Option Fam
fam_of t = when is Register t then family t.text else none

-- `fam_of(t).is_some_and(|x| x.0 == fam)`
unfoldable pub of_family : Text → Token → Bool
of_family fam t = let_some (fam_of t) else false then λ f. f.name ≟ fam

-- the families that a call overwrites, by convention: document 01's volatile lists, `optimize`'s first lines
unfoldable pub volatile_of : ℕ → List Text
volatile_of c =
    when eqb c 0 then bytes "rax" ∷ bytes "rcx" ∷ bytes "rdx" ∷ []
    else when eqb c 1 then
    bytes "rax" ∷ bytes "rcx" ∷ bytes "rdx" ∷ bytes "rsi" ∷ bytes "rdi" ∷ bytes "r8" ∷ bytes "r9" ∷ bytes "r10" ∷ bytes "r11" ∷ []
    else bytes "rax" ∷ bytes "rcx" ∷ bytes "rdx" ∷ bytes "r8" ∷ bytes "r9" ∷ bytes "r10" ∷ bytes "r11" ∷ []
