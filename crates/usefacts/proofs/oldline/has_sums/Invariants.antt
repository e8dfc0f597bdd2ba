-- What the loop of `usefacts::oldline::has_sums` keeps true: the answer is that of the uses from u on. Assumes nothing.
use Rattle.std.specs.Prelude.{◌≡◌, drop}
use Rattle.reference.specs.Lists.{any}
use Rattle.cautions.specs.Uses.{places_of}
use Rattle.lines.specs.Texts.{tokens_of}
use Rattle.usefacts.specs.Split.{use_sums}
use Rattle.usefacts.specs.Uses.{asked, fam_in, line_in}
use Rattle.usefacts.proofs.oldline.has_sums.Given as goal

abbrev pub invariant-loop-u : goal.invariant-loop-u
invariant-loop-u l =
    any (asked use_sums l.j) (places_of (fam_in l.j).name l.u (tokens_of l.j.texts (drop l.u l.j.line.now)))
    ≡ any (asked use_sums l.j) (places_of (fam_in l.j).name 0 (line_in l.j))
