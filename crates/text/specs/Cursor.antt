-- What is put into a lent slice, from a place on. Assumes nothing.
use Rattle.std.specs.Prelude.{ℕ, ◌+◌, ◌≤◌, ◌≡◌, length}
use Rattle.std.proofs.Math.Seq.{paste}
use Rattle.reference.specs.Text.{Text}
use Rattle.text.specs.declared.cursor.Cursor.{Cursor}

-- the text stands at `at`, and ends at `end`; all else is as it was
pub record Written (out : Text) (at : ℕ) (s : Text) (out' : Text) (end : ℕ) : Type 0 where
  pub bytes_are : out' ≡ paste out at s (length s)
  pub end_is : end ≡ at + length s

-- there is room for n bytes more
abbrev pub Fits : Cursor → ℕ → Type 0
Fits p n = p.at + n ≤ length p.out.now

-- a text is put, into the same slice
pub record Puts (p : Cursor) (t : Text) (p' : Cursor) : Type 0 where
  pub written : Written p.out.now p.at t p'.out.now p'.at
  pub lent : p'.out.ghost_name ≡ p.out.ghost_name
