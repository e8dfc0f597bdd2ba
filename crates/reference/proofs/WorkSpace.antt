-- M-109, "the reply, counts and output for every tape are identical": a reply depends on the work areas only through whether each has at least the figure
-- that is asked for. Assumes nothing.
use Prim.Native.Nat.{ℕ, ◌≤◌}
use mathlib.Core.Path.{◌≡◌, ap}
use mathlib.Core.List.{List}
use lib.ListN.{length}
use borrow.Author.Tests.{le-leb}
use Rattle.reference.specs.Rules.{Rules}
use Rattle.reference.specs.Questions.{WORK, has_room_by}
use Rattle.reference.specs.Reply.{reply_by, reply, output_after, report}

-- ANY TWO FIGURES, EACH WITH AREAS THAT REACH IT, GIVE THE SAME REPLY
pub same_by_figure : (m n : ℕ) (rules : Rules) (tape : List ℕ) (a b c d output : ℕ) → m ≤ a → m ≤ b → n ≤ c → n ≤ d
    → reply_by m rules tape a b output ≡ reply_by n rules tape c d output
unfolding reply_by has_room_by
same_by_figure m n rules tape a b c d output ma mb nc nd = rw (le-leb m a ma, le-leb m b mb, le-leb n c nc, le-leb n d nd)

-- "Take two work areas of 49,152 bytes in place of 65,536": `work_a` and `work_b` bytes by the figure of today, `old-a` and `old-b` by the old one
pub record AsBefore (rules : Rules) (tape : List ℕ) (work_a work_b old-a old-b : ℕ) (output : List ℕ) : Type 0 where
  -- refusal, or the finished listing's tape and the counts
  pub same_reply : reply rules tape work_a work_b (length output) ≡ reply_by 65536 rules tape old-a old-b (length output)
  -- every number that is told
  pub same_report : report (reply rules tape work_a work_b (length output)) ≡ report (reply_by 65536 rules tape old-a old-b (length output))
  -- every byte of the output
  pub same_output : output_after (reply rules tape work_a work_b (length output)) output
      ≡ output_after (reply_by 65536 rules tape old-a old-b (length output)) output

-- FOR EVERY TAPE AND OUTPUT
pub as_before : (rules : Rules) (tape : List ℕ) (work_a work_b old-a old-b : ℕ) (output : List ℕ) → 49152 ≤ work_a → 49152 ≤ work_b → 65536 ≤ old-a → 65536 ≤ old-b
    → AsBefore rules tape work_a work_b old-a old-b output
as_before rules tape work_a work_b old-a old-b output a b c d =
    let same = same_by_figure WORK 65536 rules tape work_a work_b old-a old-b (length output) a b c d in
    record { same_reply = same; same_report = ap report same; same_output = ap (λ r. output_after r output) same }
