-- `written_from`, place by place. Assumes nothing.
use Prim.Native.Nat.{ℕ, suc, ◌+◌, ◌<◌}
use native.Mathlib.Omega.{arith}
use native.Mathlib.Nat.{add-zero, zero-add}
use mathlib.Core.Path.{◌≡◌, refl, sym, ap}
use mathlib.Core.Bool.{Bool}
use mathlib.Core.List.{List, [], ◌∷◌}
use lib.ListN.{length, get_or, length-map, get_or-map}
use Rattle.std.specs.List.{list_any, range_with_len}
use Rattle.reference.specs.Control.{◌and◌}
use Rattle.reference.specs.Text.{Text}
use Rattle.reference.specs.Listing.{Token}
use Rattle.reference.specs.Names.{of_family}
use Rattle.reference.specs.Shapes.{is_written}
use Rattle.reference.specs.Join.{written_from}
use Rattle.lines.specs.Words.{token_of, tokens_of}
use Rattle.laws.proofs.Std.{or-std}

-- t asks of the places of a line, from a on, whether one of the family stands there that is written
written_places : (fam : Text) (d : Token) (t : ℕ → Bool) (ts : List Token) (a : ℕ) → ((k : ℕ) → k < length ts → t (a + k) ≡ (of_family fam (get_or ts k d) and is_written ts k))
    → list_any t (range_with_len a (length ts)) ≡ written_from fam ts
unfolding written_from is_written
written_places fam d t [] a h = refl
written_places fam d t (x ∷ xs) a h =
    rw (sym (rw add-zero at (h 0 (omega arith))), written_places fam d t xs (a + 1) (λ k b. let e : a + 1 + k ≡ a + suc k = omega arith in rw e (h (suc k) (omega arith))))
    (or-std (t a) (written_from fam xs))

pub written_any : (tape area fam : Text) (ws : List ℕ)
    → list_any (λ k. of_family fam (token_of tape area (get_or ws k 0)) and is_written (tokens_of tape area ws) k) (range_with_len 0 (length ws)) ≡ written_from fam (tokens_of tape area ws)
written_any tape area fam ws =
    rw (sym (length-map ws (token_of tape area)))
    (written_places fam (token_of tape area 0) _ (tokens_of tape area ws) 0
    (λ k b. rw zero-add (ap (λ t. of_family fam t and is_written (tokens_of tape area ws) k) (sym (get_or-map (token_of tape area) ws k 0)))))
