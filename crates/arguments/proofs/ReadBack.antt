-- The library reads the list of the words' entries as what the words say. Assumes nothing.
use Prim.Native.Nat.{ℕ, zero, suc, ◌+◌, ◌-◌, ◌^◌, ◌≤◌, ◌<◌}
use native.Mathlib.Omega.{arith}
use mathlib.Core.Path.{◌≡◌, refl, ap, ◌∙◌}
use mathlib.Core.Bool.{Bool, true, false}
use mathlib.Core.List.{List, [], ◌∷◌, ◌++◌, append_assoc}
use mathlib.Core.Option.{Option, none, some}
use lib.Dec.{leb}
use lib.ListN.{length, take, drop, length-append}
use lib.Seq.{take_at, drop_at}
use borrow.Author.Tests.{ltb-true, eqb-false, le-leb}
use Rattle.reference.specs.Control.{when◌then◌else◌, let_some◌else◌then◌}
use Rattle.reference.specs.Text.{Text}
use Rattle.reference.specs.Tape.{to_le_bytes, from_le_bytes}
use Rattle.reference.proofs.Cases.{by-if, by-some}
use Rattle.reference.proofs.LittleEndian.{to_length, from_to}
use Rattle.laws.proofs.Scans.{if-true}
use Rattle.start.specs.Start as L
use Rattle.start.specs.Start.{Entry}
use Rattle.arguments.specs.declared.request.Request.{Request}
use Rattle.words.specs.Numerals.{within_64, unsigned_in, magnitude_in, negated, negative_in, integer_in}
use Rattle.std.proofs.Common.{if◌then◌else◌}
use Rattle.arguments.specs.Words.{is_at}
use Rattle.arguments.specs.Entries.{equals_at, entry_value, named_value, entry_bytes}
use Rattle.arguments.specs.Requests.{step_of, entries_from, entries_of}
use Rattle.arguments.specs.Given.{said, given_from, given_of}

-- ---- a value has 64 bits

abbrev Below : Option ℕ → Type 0
Below o = (v : ℕ) → o ≡ some v → v < 2 ^ 64

none_below : Below none
none_below v e = let z : ◌≡◌ {A = ℕ} 0 1 = cc in absurd (omega arith)

some_below : (n : ℕ) → n < 2 ^ 64 → Below (some n)
some_below n h v e = let z : n ≡ v = cc in omega arith

within-below : (o : Option ℕ) → Below (within_64 o)
unfolding within_64
within-below o = by-some Below (λ e. none_below) (λ a e. by-if Below (λ t. some_below a (ltb-true a (2 ^ 64) t)) (λ t. none_below))

unsigned-below : (base : ℕ) (w : Text) → Below (unsigned_in base w)
unfolding unsigned_in
unsigned-below base w = by-if Below (λ t. none_below) (λ t. within-below _)

magnitude_below : (w : Text) → Below (magnitude_in w)
unfolding magnitude_in
magnitude_below w = by-if Below (λ t. unsigned-below 16 _) (λ t. unsigned-below 10 w)

negated-below : (v : ℕ) → Below (negated v)
unfolding negated
negated-below v =
    by-if Below (λ t. some_below 0 (omega arith))
    (λ t. by-if Below (λ u. none_below) (λ u. let z : v ≡ 0 → ⊥ = eqb-false v 0 t in some_below (2 ^ 64 - v) (omega arith)))

integer_below : (w : Text) → Below (integer_in w)
unfolding integer_in negative_in
integer_below w = by-if Below (λ t. by-some Below (λ e. none_below) (λ a e. negated-below a)) (λ t. magnitude_below w)

entry_below : (w : Text) → Below (entry_value w)
unfolding entry_value
entry_below w = by-if Below (λ t. none_below) (λ t. by-if Below (λ u. integer_below _) (λ u. none_below))

-- ---- an entry in front of a list

named-read : (name : Text) (v : ℕ) (rest : Text) (f : ℕ) {es : List Entry} → v < 2 ^ 64 → L.entries_from f rest ≡ some es
    → L.entries_from (suc f) (named_value name v ++ rest) ≡ some (record { name = name; value = v } ∷ es)
unfolding L.entries_from named_value let_some◌else◌then◌
named-read name v rest f {es} h r =
    let le : Text = to_le_bytes 8 v in
    let tail : Text = (name ++ le) ++ rest in
    let n : ℕ = length name in
    let whole : tail ≡ name ++ (le ++ rest) = append_assoc name le rest in
    let long : length (name ++ le) ≡ n + 8 = length-append name le ∙ ap (λ (k : ℕ). n + k) (to_length 8 v) in
    let a : drop (n + 8) tail ≡ rest = drop_at (name ++ le) rest (n + 8) long in
    let b : take n tail ≡ name = ap (take n) whole ∙ take_at name (le ++ rest) n refl in
    let c : drop n tail ≡ le ++ rest = ap (drop n) whole ∙ drop_at name (le ++ rest) n refl in
    let d : from_le_bytes (take 8 (drop n tail)) ≡ v =
    ap (λ (t : Text). from_le_bytes (take 8 t)) c ∙ ap from_le_bytes (take_at le rest 8 (to_length 8 v)) ∙ from_to 8 v (omega arith) in
    let t : leb (n + 8) (length tail) ≡ true = le-leb (n + 8) (length tail) (omega (arith, length-append (name ++ le) rest)) in
    if-true _ _ t ∙ rw (a, r, b, d) refl

-- what is read of a rest, whatever the fuel
abbrev Reads : Text → List Entry → Type 0
Reads rest es = (f : ℕ) → length rest ≤ f → L.entries_from f rest ≡ some es

some_read : (o : Option ℕ) (name rest : Text) (es : List Entry) → Below o → Reads rest es
    → Reads ((let_some o else [] then λ v. named_value name v) ++ rest) (let_some o else es then λ v. record { name = name; value = v } ∷ es)
unfolding let_some◌else◌then◌ named_value
some_read none name rest es b r f h = r f h
some_read (some v) name rest es b r zero h = absurd (omega arith)
some_read (some v) name rest es b r (suc f) h =
    named-read name v rest f (b v refl) (r f (omega (arith, length-append (name ++ to_le_bytes 8 v) rest)))

turn : (t : Bool) (w rest : Text) (es : List Entry) → Reads rest es → Reads ((if t then entry_bytes w else []) ++ rest) (if t then said w es else es)
unfolding entry_bytes said
turn true w rest es r = some_read (entry_value w) (take (equals_at w) w) rest es (entry_below w) r
turn false w rest es r = r

reads : (ws : List Text) (s : Request) (k : ℕ) → Reads (entries_from s k ws) (given_from s k ws)
unfolding entries_from given_from L.entries_from
reads [] s k zero h = refl
reads [] s k (suc f) h = refl
reads (w ∷ ws) s k f h =
    let after : Request = step_of s k w in
    turn (is_at after.start.entry k) w (entries_from after (k + 1) ws) (given_from after (k + 1) ws) (reads ws after (k + 1)) f h

pub read_back : (ws : List Text) → L.entries (entries_of ws) ≡ some (given_of ws)
unfolding entries_of given_of L.entries
read_back ws = reads ws _ 0 _ (omega arith)
