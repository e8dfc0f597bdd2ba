-- `cautioned::telling::tell` meets its contract. Assumes nothing.
use Rattle.std.proofs.Common.{rules, ◌≡◌, length, refl}
use Rattle.ground.specs.Rules.{rules_of}
use Rattle.lines.specs.Lines.{own}
use Rattle.clean.proofs.Running.{loaded-runnable}
use Rattle.cautioned.proofs.Running.{sets_are, written}
use Rattle.cautioned.proofs.telling.tell.Goals as goal

pub optimized-r-requires : goal.optimized-r-requires
optimized-r-requires c =
    let p = c.requires in
    let lines_long : length c.args.own.now.lines ≡ 256 = search rules in
    let marks_long : length c.args.own.now.marks ≡ 256 = search rules in (
      loaded-runnable _ p.loaded.0 p.first_text p.second_text (search rules) lines_long (search rules) marks_long,
      λ on. record { for_sets = search rules; for_forms = search rules; for_parts = search rules; for_seen = search rules; for_expr = search rules },
    )

pub returns : goal.returns
returns c input e =
    let o = c.optimized-r in
    let sets = sets_are (rules_of c.args.rules) c.args.tape.now _ _ (own c.args.own.now.addresses) (c.requires.loaded.0.listing _) o.ensures.ran
    o.new.raising.sets.now (o.ensures.cautioned refl) input e in
    written o.result.size.lines sets (search rules) c.write_sets.ensures
