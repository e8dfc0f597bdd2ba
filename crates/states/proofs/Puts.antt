-- Bytes put into a list, seen through a part of it that they lie behind, before or inside. Assumes nothing.
use Prim.Native.Nat.{ℕ, ◌+◌, ◌-◌, ◌≤◌}
use native.Mathlib.Omega.{arith}
use mathlib.Core.Path.{◌≡◌, sym, ap, ◌∙◌}
use mathlib.Core.List.{List, ◌++◌, append_assoc}
use lib.ListN.{length, take, drop, length-append, length-drop}
use lib.Seq.{length-take-le, take-append-le, drop-append-le, take-append-add, drop_at, drop-drop, take-take}
use Rattle.laws.proofs.Parts.{drop-take, part-below}
use Rattle.tape.specs.Bytes.{put}

module _ (s : List ℕ) (bs : List ℕ) where
  -- a part that ends before them
  pub part-before : (at a n : ℕ) → a + n ≤ at → at ≤ length s → take n (drop a (put s at bs)) ≡ take n (drop a s)
  unfolding put
  part-before at a n h k =
      let m : length (take at s) ≡ at = length-take-le at s k in
      let l : n ≤ length (drop a (take at s)) = simp (length-drop, m) (omega arith) in
      rw (
        append_assoc (take at s) bs (drop (at + length bs) s),
        drop-append-le a (take at s) (bs ++ drop (at + length bs) s)
            (omega arith),
        take-append-le n (drop a (take at s)) (bs ++ drop (at + length bs) s) l,
      )
      (part-below a n at s h)

  -- what stands behind them
  pub part-behind : (at a : ℕ) → at + length bs ≤ a → at ≤ length s → drop a (put s at bs) ≡ drop a s
  unfolding put
  part-behind at a h k =
      let m : length (take at s ++ bs) ≡ at + length bs = rw length-append (omega (arith, length-take-le at s k)) in
      let e : at + length bs + (a - (at + length bs)) ≡ a = omega arith in
      let x : drop (at + length bs + (a - (at + length bs))) (take at s ++ bs ++ drop (at + length bs) s) ≡ drop
      (at + length bs + (a - (at + length bs))) s =
      sym (drop-drop (a - (at + length bs)) (at + length bs) (take at s ++ bs ++ drop (at + length bs) s))
      ∙ ap (drop (a - (at + length bs))) (drop_at (take at s ++ bs) (drop (at + length bs) s) (at + length bs) m)
      ∙ drop-drop (a - (at + length bs)) (at + length bs) s in
      rw e at x

  -- the list from b on
  pub part-from : (b o : ℕ) → b + o ≤ length s → drop b (put s (b + o) bs) ≡ put (drop b s) o bs
  unfolding put
  part-from b o k =
      let m : length (take (b + o) s) ≡ b + o = length-take-le (b + o) s k in
      let w : b + o - b ≡ o = omega arith in
      let e : b + (o + length bs) ≡ b + o + length bs = omega arith in
      rw (
        append_assoc (take (b + o) s) bs (drop (b + o + length bs) s),
        drop-append-le b (take (b + o) s)
            (bs ++ drop (b + o + length bs) s) (omega arith),
        drop-take b (b + o) s,
        w,
        drop-drop (o + length bs) b s,
        e,
        append_assoc
            (take o (drop b s)) bs (drop (b + o + length bs) s),
      )

  -- a front that holds them
  pub front_of : (n o : ℕ) → o + length bs ≤ n → n ≤ length s → take n (put s o bs) ≡ put (take n s) o bs
  unfolding put
  front_of n o h k =
      let m : length (take o s ++ bs) ≡ o + length bs = rw length-append (omega (arith, length-take-le o s (omega arith))) in
      let e : length (take o s ++ bs) + (n - (o + length bs)) ≡ n = omega arith in
      let x : take (length (take o s ++ bs) + (n - (o + length bs))) (take o s ++ bs ++ drop (o + length bs) s) ≡ take o s ++ bs ++ take
      (n - (o + length bs)) (drop (o + length bs) s) =
      take-append-add (take o s ++ bs) (drop (o + length bs) s) (n - (o + length bs)) in
      (rw e at x) ∙ rw (take-take o n s (omega arith), drop-take (o + length bs) n s)
