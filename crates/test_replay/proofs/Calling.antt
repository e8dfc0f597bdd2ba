-- One call, by the tests that the code makes before it. Assumes nothing.
use Prim.Native.Nat.{ℕ, ◌≤◌, ◌<◌}
use mathlib.Core.Path.{◌≡◌, sym, ◌∙◌}
use mathlib.Core.Bool.{Bool, false}
use mathlib.Core.List.{List, ◌++◌}
use lib.ListN.{length, take, drop}
use borrow.Author.Tests.{le-leb, lt-leb}
use Rattle.laws.proofs.Scans.{and_true, and_false}
use Rattle.reference.specs.Rules.{Rules}
use Rattle.reference.specs.Reply.{Report}
use Rattle.clean.specs.Replies.{Cleans}
use Rattle.test_replay.specs.Frames.{number_in, tape_in}
use Rattle.test_replay.specs.Answers.{is_right, rules_in, called, agrees}

module _ (list a b o : List ℕ) where
  pub short_a : length a < number_in list 2 → false ≡ agrees list a b o
  unfolding agrees
  short_a h = sym (and_false _ (lt-leb _ _ h))

  module _ (fits-a : number_in list 2 ≤ length a) where
    pub short_b : length b < number_in list 3 → false ≡ agrees list a b o
    unfolding agrees
    short_b h = sym (and_true _ (le-leb _ _ fits-a) ∙ and_false _ (lt-leb _ _ h))

    module _ (fits-b : number_in list 3 ≤ length b) where
      pub short_o : length o < number_in list 4 → false ≡ agrees list a b o
      unfolding agrees
      short_o h = sym (and_true _ (le-leb _ _ fits-a) ∙ and_true _ (le-leb _ _ fits-b) ∙ and_false _ (lt-leb _ _ h))

      pub fits : number_in list 4 ≤ length o → {r : Bool}
          → r ≡ called list (take (number_in list 2) a) (drop (number_in list 2) a) (take (number_in list 3) b) (drop (number_in list 3) b)
          (take (number_in list 4) o) (drop (number_in list 4) o) → r ≡ agrees list a b o
      unfolding agrees
      fits h e = e ∙ sym (and_true _ (le-leb _ _ fits-a) ∙ and_true _ (le-leb _ _ fits-b) ∙ and_true _ (le-leb _ _ h))

  -- what the call promises, and what was found of it
  pub made : {na nb no : ℕ} {rules : Rules} {tape a' b' o' : List ℕ} {report : Report} {r : Bool} → na ≡ number_in list 2 → nb ≡ number_in list 3 → no ≡ number_in list 4
      → rules ≡ rules_in list → tape ≡ tape_in list → na ≤ length a → nb ≤ length b → no ≤ length o
      → Cleans rules tape (take na a) (take nb b) (take no o) a' b' o' report
      → r ≡ is_right list report (a' ++ drop na a) (b' ++ drop nb b) (o' ++ drop no o) → r ≡ agrees list a b o
  made ea eb eo en et ha hb ho k e =
      fits (rw ea at ha) (rw eb at hb) (rw eo at ho)
      (let l = k.leaves in rw (l.report_is, l.work_a_is, l.work_b_is, l.output_is, ea, eb, eo, en, et) at e)
