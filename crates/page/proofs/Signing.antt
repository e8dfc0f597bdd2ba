-- How long the words of a kind are on the page. Assumes nothing.
use Prim.Native.Nat.{◌≤◌}
use native.Mathlib.Omega.{arith}
use lib.ListN.{length, length-append}
use Rattle.caution_words.specs.declared.each.Caution.{Caution}
use Rattle.caution_words.specs.Told.{sentence_of}
use Rattle.caution_words.proofs.Telling.{name-length, sentence-length}
use Rattle.page.specs.Signs.{kind_cell}
use Rattle.page.proofs.Escaped.{escaped-length}

pub kind-length : (k : Caution) → length (kind_cell k) ≤ 1500
unfolding kind_cell
kind-length k = simp length-append (omega (arith, name-length k, sentence-length k, escaped-length (sentence_of k)))
