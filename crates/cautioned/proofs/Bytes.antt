-- Sets as bytes: put one behind the other they are `caution_bytes`, and set q is the number that the bytes 2q and 2q + 1 are. Assumes nothing.
use Rattle.std.proofs.Common.{◌≡◌, ℕ, zero, suc, ◌+◌, ◌*◌, ◌/◌, ◌%◌, ◌^◌, ◌<◌, ◌≤◌, List, [], ◌∷◌, ◌++◌, length, take, get_or, refl, sym, arith, add-one, length-take}
use mathlib.Core.List.{flat_map}
use lib.Seq.{take-suc, take-length}
use Rattle.reference.specs.Tape.{to_le_bytes}
use Rattle.reference.proofs.Writing.{flat_append}
use Rattle.cautions.specs.Cautions.{caution_bytes}
use Rattle.cautions.proofs.Carried.{bytes-length}
use Rattle.cautioned.specs.Replies.{set_at}

-- ---- put one behind the other

pub none_put : [] ≡ caution_bytes []
unfolding caution_bytes flat_map
none_put = refl

-- what the sets before i leave of the room for all has room for one more
pub room_for : (ss : List ℕ) (i : ℕ) → i < length ss → length (caution_bytes (take i ss)) + 2 ≤ 2 * length ss
room_for ss i h = omega (arith, bytes-length (take i ss), length-take i ss)

pub put_next : (ss : List ℕ) (i : ℕ) → i < length ss → let s = get_or ss i 0 in
    caution_bytes (take i ss) ++ (s % 256 ∷ s / 256 % 256 ∷ []) ≡ caution_bytes (take (i + 1) ss)
unfolding caution_bytes flat_map to_le_bytes
put_next ss i h =
    let s : ℕ = get_or ss i 0 in
    rw (add-one, take-suc ss i 0 h) (sym (flat_append (to_le_bytes 2) (take i ss) (s ∷ [])))

pub all_put : (ss : List ℕ) (i : ℕ) → i ≡ length ss → caution_bytes (take i ss) ≡ caution_bytes ss
all_put ss i e = rw (e, take-length) refl

-- ---- read again

pub read_set : (ss rest : List ℕ) → ((q : ℕ) → get_or ss q 0 < 2 ^ 10) → (q : ℕ) → q < length ss → set_at (caution_bytes ss ++ rest) q ≡ get_or ss q 0
unfolding caution_bytes flat_map to_le_bytes
read_set [] rest small q h = absurd (omega arith)
read_set (s ∷ ss) rest small zero h = let low = small 0 in omega (arith, low)
read_set (s ∷ ss) rest small (suc q) h =
    let two : 2 * suc q ≡ suc (suc (2 * q)) = omega arith in
    rw two (read_set ss rest (λ p. small (suc p)) q (omega arith))
