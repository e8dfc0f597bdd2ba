-- `parse_c_number`, `fold` and `merge` of pseudo_opt.rs, and how the 2024 edition of C reads a number (M-100). An i64 is an integer from
-- -2^63 to 2^63 - 1. Assumes nothing.
use Rattle.std.specs.Prelude.{ℕ, zero, suc, ◌+◌, ◌*◌, ◌-◌, ◌/◌, ◌%◌, ◌^◌, Bool, true, false, List, [], ◌∷◌, ◌++◌, leb, ltb, eqb, ℤ, pos}
use Rattle.std.specs.Prelude.{negsuc, neg_ℤ, ◌+ℤ◌, ◌-ℤ◌, drop}
use Rattle.std.proofs.Math.Option.{Option, none, some}
use Rattle.reference.specs.Control.{◌and◌, ◌or◌, when◌then◌else◌, let_some◌else◌then◌}
use Rattle.reference.specs.Lists.{is_empty}
use Rattle.reference.specs.Text.{Text, bytes, strip_prefix, ◌≟◌, starts_with, ends_with}
use Rattle.reference.specs.Listing.{Token, token, is, Number, Punct, Plain}

-- ---- reading

-- `char::to_digit(radix)`
unfoldable pub to_digit : ℕ → ℕ → Option ℕ
to_digit radix c =
    let v : ℕ =
    when leb 48 c and leb c 57 then c - 48
    else when leb 97 c and leb c 122 then c - 87
    else when leb 65 c and leb c 90 then c - 55
    else 99 in
    when ltb v radix then some v else none

-- the number that digits spell, after the number `acc`; none where one is no digit
unfoldable pub digits_value : ℕ → ℕ → Text → Option ℕ
digits_value radix acc [] = some acc
digits_value radix acc (c ∷ cs) = let_some (to_digit radix c) else none then λ d. digits_value radix (acc * radix + d) cs

-- one digit or more
unfoldable pub unsigned : ℕ → Text → Option ℕ
unsigned radix s = when is_empty s then none else digits_value radix 0 s

-- `u64::from_str_radix(s, radix)`
unfoldable pub read_u64 : ℕ → Text → Option ℕ
read_u64 radix s =
    let_some (unsigned radix (let_some (strip_prefix (bytes "+") s) else s then λ r. r)) else none then λ n.
    when ltb n (2 ^ 64) then some n else none

-- `s.parse::<i64>()`
unfoldable pub read_i64 : Text → Option ℤ
read_i64 s =
    let_some (strip_prefix (bytes "-") s) else
    (let_some (unsigned 10 (let_some (strip_prefix (bytes "+") s) else s then λ r. r)) else none then λ n.
    when ltb n (2 ^ 63) then some (pos n) else none)
    then λ r. let_some (unsigned 10 r) else none then λ n.
    when leb n (2 ^ 63) then some (neg_ℤ (pos n)) else none

-- `n as i64`, and the wrap of a sum, a difference or a negation to 64 bits
unfoldable pub as_i64 : ℕ → ℤ
as_i64 n = let m : ℕ = n % 2 ^ 64 in when ltb m (2 ^ 63) then pos m else negsuc (2 ^ 64 - suc m)

unfoldable pub wrap : ℤ → ℤ
wrap (pos n) = as_i64 n
wrap (negsuc n) = as_i64 (2 ^ 64 - suc (n % 2 ^ 64))

unfoldable pub parse_c_number : Text → Option ℤ
parse_c_number s =
    let neg : Bool = starts_with s (bytes "-") in
    let s' : Text = let_some (strip_prefix (bytes "-") s) else s then λ r. r in
    let v : Option ℤ =
    let_some (strip_prefix (bytes "0x") s') else read_i64 s' then λ h.
    let_some (read_u64 16 h) else none then λ n. some (as_i64 n) in
    let_some v else none then λ n. when neg then some (wrap (neg_ℤ n)) else some n

-- ---- reading by ISO/IEC 9899:2024 (M-100)
--
-- The syntax of 6.4.4.2, without the suffixes ("A suffix leaves the number unread"); `'(opt)` is an optional single quote:
--   decimal-constant: nonzero-digit, or decimal-constant '(opt) digit
--   octal-constant: 0, or octal-constant '(opt) octal-digit
--   hexadecimal-constant: hexadecimal-prefix hexadecimal-digit-sequence
--   hexadecimal-digit-sequence: hexadecimal-digit, or hexadecimal-digit-sequence '(opt) hexadecimal-digit
--   binary-constant: binary-prefix binary-digit, or binary-constant '(opt) binary-digit
-- A constant is a base and a row of digits: behind the prefix of 16 and 2, from the first byte on to 8 and 10.

-- hexadecimal-prefix: one of 0x 0X; binary-prefix: one of 0b 0B. A leading 0 is the first digit of an octal constant.
unfoldable pub base_of : Text → ℕ
base_of s =
    when starts_with s (bytes "0x") or starts_with s (bytes "0X") then 16
    else when starts_with s (bytes "0b") or starts_with s (bytes "0B") then 2
    else when starts_with s (bytes "0") then 8
    else 10

-- the bytes of the prefix
unfoldable pub prefix_size : ℕ → ℕ
prefix_size base = when eqb base 16 or eqb base 2 then 2 else 0

-- the row, its quotes left out: "one single quote may stand between two digits, never two together". `digit-before` tells that a digit
-- stands just before; 39 is the quote. That the others are digits of the base, `digits_value` asks.
unfoldable pub unquoted : Bool → Text → Option Text
unquoted digit-before [] = when digit-before then some [] else none
unquoted digit-before (c ∷ cs) =
    let quoted = unquoted false cs in
    let more = unquoted true cs in
    when eqb c 39 then (when digit-before then quoted else none)
    else let_some more else none then λ ds. some (c ∷ ds)

-- the digits of a constant, without prefix and quotes: one or more
unfoldable pub constant_digits : Text → Option Text
constant_digits s = unquoted false (drop (prefix_size (base_of s)) s)

-- "The value of a decimal constant is computed base 10; that of an octal constant, base 8; ..", of any size
unfoldable pub constant_value : Text → Option ℕ
constant_value s = let_some (constant_digits s) else none then λ ds. digits_value (base_of s) 0 ds

-- "A decimal of 2^63 or more stays unread; the other bases go to 64 bits"
unfoldable pub value_limit : ℕ → ℕ
value_limit base = when eqb base 10 then 2 ^ 63 else 2 ^ 64

-- ", read as two's complement"
unfoldable pub read_constant : Text → Option ℤ
read_constant s =
    let_some (constant_value s) else none then λ n. when ltb n (value_limit (base_of s)) then some (as_i64 n) else none

-- "One minus in front is still taken off."
unfoldable pub parse_2024 : Text → Option ℤ
parse_2024 s =
    let_some (strip_prefix (bytes "-") s) else read_constant s then λ r.
    let_some (read_constant r) else none then λ n. some (wrap (neg_ℤ n))

-- "a number edition passed with each call: 0 reads as today, 1 by that standard"
unfoldable pub read_number : ℕ → Text → Option ℤ
read_number edition s = when eqb edition 0 then parse_c_number s else parse_2024 s

-- ---- printing

abbrev pub digit_byte : ℕ → ℕ
digit_byte d = when ltb d 10 then 48 + d else 87 + d

-- the digits of n to a base up to 16, in front of `rest`; `fuel` is at least their number
unfoldable pub digits : ℕ → ℕ → ℕ → Text → Text
digits zero base n rest = rest
digits (suc fuel) base n rest =
    let r = digits fuel base (n / base) (digit_byte (n % base) ∷ rest) in
    when ltb n base then digit_byte (n % base) ∷ rest else r

unfoldable pub show_natural : ℕ → Text
show_natural n = when ltb n 10 then digits 16 10 n [] else bytes "0x" ++ digits 16 16 n []

-- -9 to 9 in decimal, the others in hexadecimal, the minus in front
unfoldable pub show : ℤ → Text
show (pos n) = show_natural n
show (negsuc n) = bytes "-" ++ show_natural (suc n)

-- ---- folding

unfoldable pub delim_before : Option Token → Bool
delim_before none = true
delim_before (some p) =
    ends_with p.text (bytes "(") or ends_with p.text (bytes ", ") or ends_with p.text (bytes " = ")

unfoldable pub delim_after : List Token → Bool
delim_after [] = true
delim_after (t ∷ ts) =
    starts_with t.text (bytes ")") or starts_with t.text (bytes ",") or starts_with t.text (bytes ";")

-- the number that `a b c` fold to, between `before` and `after`, numbers being read by an edition
unfoldable pub folded : ℕ → Option Token → Token → Token → Token → List Token → Option Token
folded edition before a b c after =
    when delim_before before and delim_after after and is Number a and is Number c
    and ((b.text ≟ bytes " + ") or (b.text ≟ bytes " - "))
    then
    (let_some (read_number edition a.text) else none then λ x.
    let_some (read_number edition c.text) else none then λ y.
    some (token Number (show (wrap (when b.text ≟ bytes " + " then x +ℤ y else x -ℤ y)))))
    else none

-- the loop at the token `a`, with the token before it and those after it. A fold stays at its place, and what it made may fold again.
unfoldable pub fold_at : ℕ → Option Token → Token → List Token → List Token
fold_at edition before a [] = a ∷ []
fold_at edition before a (b ∷ []) = a ∷ b ∷ []
fold_at edition before a (b ∷ c ∷ rest) =
    let on = fold_at edition (some a) b (c ∷ rest) in
    let_some (folded edition before a b c rest) else (a ∷ on) then λ n. fold_at edition before n rest

unfoldable pub fold : ℕ → List Token → List Token
fold edition [] = []
fold edition (a ∷ rest) = fold_at edition none a rest

-- ---- merging

unfoldable pub joins : Token → Token → Bool
joins a b = eqb a.kind b.kind and (is Punct b or is Plain b)

-- `out`'s last token, and what is still to come
unfoldable pub merge_into : Token → List Token → List Token
merge_into last [] = last ∷ []
merge_into last (t ∷ ts) =
    let joined = merge_into (token last.kind (last.text ++ t.text)) ts in
    let on = merge_into t ts in
    when joins last t then joined else last ∷ on

unfoldable pub merge : List Token → List Token
merge [] = []
merge (t ∷ ts) = merge_into t ts
