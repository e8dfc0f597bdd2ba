-- Items that move up by one, one after the other. Assumes nothing.
use Prim.Native.Nat.{ℕ, suc, ◌+◌, ◌-◌, ◌<◌}
use native.Mathlib.Omega.{arith}
use mathlib.Core.Path.{◌≡◌, sym, ap, ◌∙◌}
use mathlib.Core.List.{List}
use lib.ListN.{length, get_or, set, drop, length-drop}
use lib.Seq.{paste, paste-zero, paste-suc, drop-paste, get_or-drop}
use Rattle.std.specs.List.{copy_within}

module _ {X : Type 0} (xs : List X) (i : ℕ) where
  pub none_moved : xs ≡ copy_within xs (i + 1) (i + 1) i
  none_moved =
      let none : 0 ≡ i + 1 - (i + 1) = omega arith in
      paste-zero xs i (drop (i + 1) xs) ∙ ap (paste xs i (drop (i + 1) xs)) none

  -- j items have moved, and the next one, which is read ahead of them, follows
  follows : (j : ℕ) (x : X) → i + 1 + j < length xs → x ≡ get_or (paste xs i (drop (i + 1) xs) j) (i + 1 + j) x
      → set (paste xs i (drop (i + 1) xs) j) (i + j) x ≡ paste xs i (drop (i + 1) xs) (j + 1)
  follows j x b read =
      let behind : List X = drop (i + 1) xs in
      let moved : List X = paste xs i behind j in
      let long = length-drop (i + 1) xs in
      let place : i + 1 + j ≡ i + j + 1 = omega arith in
      let on : suc j ≡ j + 1 = omega arith in
      let same : x ≡ get_or behind j x =
      read ∙ ap (λ (k : ℕ). get_or moved k x) place ∙ sym (get_or-drop (i + j) moved 1 x)
      ∙ ap (λ (l : List X). get_or l 1 x) (drop-paste xs i behind j (omega arith) (omega (arith, long, b))) ∙ get_or-drop (i + j) xs 1 x
      ∙ ap (λ (k : ℕ). get_or xs k x) (sym place) ∙ sym (get_or-drop (i + 1) xs j x) in
      ap (set moved (i + j)) same ∙ paste-suc xs i behind j x (omega (arith, long, b)) (omega (arith, b)) ∙ ap (paste xs i behind) on

  -- item k follows those before it
  pub one-more : (k : ℕ) (x : X) {ws : List X} → i < k → k < length xs → ws ≡ copy_within xs (i + 1) k i → x ≡ get_or ws k x
      → set ws (k - 1) x ≡ copy_within xs (i + 1) (k + 1) i
  one-more k x h b e read =
      let j : ℕ = k - (i + 1) in
      let from : i + 1 + j ≡ k = omega (arith, h) in
      let to : i + j ≡ k - 1 = omega (arith, h) in
      let on : j + 1 ≡ k + 1 - (i + 1) = omega (arith, h) in
      ap (λ (l : List X). set l (k - 1) x) e
      ∙ ap (λ (n : ℕ). set (copy_within xs (i + 1) k i) n x) (sym to)
      ∙ follows j x (omega (arith, from, b))
      (read ∙ ap (λ (l : List X). get_or l k x) e ∙ ap (λ (n : ℕ). get_or (copy_within xs (i + 1) k i) n x) (sym from))
      ∙ ap (paste xs i (drop (i + 1) xs)) on
