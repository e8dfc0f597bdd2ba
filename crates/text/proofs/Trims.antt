-- A text without the spaces at its edges, as the cut that the code makes. Assumes nothing.
use Rattle.std.proofs.Common.{◌≡◌, ℕ, ◌-◌, ◌≤◌, ◌∙◌, ◌++◌, eqb, reverse, length, take, drop, sym, ap, arith}
use Rattle.std.specs.List.{prefix_len, suffix_len}
use Rattle.std.proofs.lemmas.List.{reverse-reverse, reverse-append, take-append-drop, length-reverse, take_rest}
use Rattle.std.proofs.lemmas.List.Sums.{prefix_len-le-length}
use Rattle.std.proofs.lemmas.Grind.{common_steps}
use Rattle.reference.specs.Text.{Text, trim_start}
use Rattle.laws.proofs.Std.{spaces-std}

-- the last n cut off, from the front or from the back
cut_last : (s : Text) (n : ℕ) → n ≤ length s → reverse (drop n (reverse s)) ≡ take (length s - n) s
cut_last s n h =
    let m = length s - n in
    let e : reverse s ≡ reverse (drop m s) ++ reverse (take m s) = ap reverse (sym (take-append-drop m s)) ∙ reverse-append (take m s) (drop m s) in
    let f : drop n (reverse (drop m s) ++ reverse (take m s)) ≡ reverse (take m s) = grind (arith, common_steps) in
    ap reverse (ap (drop n) e ∙ f) ∙ reverse-reverse (take m s)

module _ (s : Text) where
  pub front_cut : trim_start s ≡ drop (prefix_len (λ b. eqb b 32) s) s
  front_cut = sym (spaces-std s)

  pub front_bound : prefix_len (λ b. eqb b 32) s ≤ length s
  front_bound = prefix_len-le-length (λ b. eqb b 32) s

  pub end_bound : suffix_len (λ b. eqb b 32) s ≤ length s
  end_bound = omega (arith, length-reverse s, prefix_len-le-length (λ b. eqb b 32) (reverse s))

pub end_cut : (s : Text) → reverse (trim_start (reverse s)) ≡ take (length s - suffix_len (λ b. eqb b 32) s) s
end_cut s = ap reverse (front_cut (reverse s)) ∙ cut_last s (suffix_len (λ b. eqb b 32) s) (end_bound s)

pub ruleset edges = (front_cut, front_bound, end_bound, end_cut, take_rest)
