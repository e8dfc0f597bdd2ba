-- What the loop of `usefacts::oldline::kinds_of` keeps true: the kinds so far and those of the uses from u on are those of all. Assumes nothing.
use Rattle.std.specs.Prelude.{◌≡◌, map, drop}
use Rattle.reference.specs.Lists.{any}
use Rattle.reference.specs.Listing.{Listing}
use Rattle.cautions.specs.Kinds.{◌∪◌, union}
use Rattle.cautions.specs.Uses.{places_of}
use Rattle.cautions.specs.Values.{world}
use Rattle.lines.specs.Texts.{tokens_of}
use Rattle.usefacts.specs.Split.{use_kinds}
use Rattle.usefacts.specs.Uses.{asked, fam_in, line_in}
use Rattle.usefacts.proofs.oldline.kinds_of.Given as goal

abbrev pub invariant-loop-u : goal.invariant-loop-u
invariant-loop-u l =
    (lines : Listing) → l.passed ≡ any (λ m. world m.tokens) lines
    → l.kinds ∪ union (map (λ u. asked use_kinds l.j u lines) (places_of (fam_in l.j).name l.u (tokens_of l.j.texts (drop l.u l.j.line.now))))
    ≡ union (map (λ u. asked use_kinds l.j u lines) (places_of (fam_in l.j).name 0 (line_in l.j)))
