-- When the list has the frame at its front whole. Assumes nothing.
use Prim.Native.Nat.{ℕ, ◌-◌, ◌≤◌, ◌<◌}
use mathlib.Core.Path.{◌≡◌, sym}
use mathlib.Core.List.{List}
use lib.ListN.{length, take, drop, length-drop}
use borrow.Author.Tests.{le-leb, lt-leb}
use Rattle.laws.proofs.Parts.{to_end}
use Rattle.laws.proofs.Scans.{if-true, if-false}
use Rattle.test_replay.specs.Frames.{said_size, frame_size}

module _ (list : List ℕ) where
  pub cut_off : length list < said_size list → 0 ≡ frame_size list
  unfolding frame_size
  cut_off h = sym (if-false _ _ (lt-leb _ _ h))

  pub whole : said_size list ≤ length list → said_size list ≡ frame_size list
  unfolding frame_size
  whole h = sym (if-true _ _ (le-leb _ _ h))

  -- how much is left behind n bytes
  pub left_behind : (n : ℕ) → length (take (length list - n) (drop n list)) ≡ length list - n
  left_behind n = rw (to_end n list, length-drop n list)
