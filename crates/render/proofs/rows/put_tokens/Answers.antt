-- `render::rows::put_tokens` meets its contract. Assumes nothing.
use mathlib.Core.Path.{sym}
use Prim.Native.Nat.{ℕ}
use lib.ListN.{length-replicate}
use Rattle.render.proofs.rows.put_tokens.Goals as goal

pub slice_bounds-put_tokens_by-end : goal.slice_bounds-put_tokens_by-end
slice_bounds-put_tokens_by-end c = sym (length-replicate {0} {A = ℕ} 709644 0)
