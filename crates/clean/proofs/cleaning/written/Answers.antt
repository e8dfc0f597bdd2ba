-- `clean::cleaning::written` meets its contract. Assumes nothing.
use Rattle.std.proofs.Common.{rules, ◌≡◌, length}
use Rattle.ground.specs.Rules.{rules_of}
use mathlib.Core.Path.{refl}
use Rattle.raising.proofs.Lending.{none_kept}
use Rattle.clean.proofs.Running.{loaded-runnable, fits-output, writes}
use Rattle.clean.proofs.cleaning.written.Goals as goal

pub optimized-r-requires : goal.optimized-r-requires
optimized-r-requires c =
    let p = c.requires in
    let lines_long : length c.args.own.now.lines ≡ 256 = search rules in
    let marks_long : length c.args.own.now.marks ≡ 256 = search rules in
    (loaded-runnable _ p.loaded.0 p.first_text p.second_text (search rules) lines_long (search rules) marks_long, none_kept refl)

pub returns : goal.returns
returns c =
    let a = c.args in
    let l = c.requires.loaded in
    let lines_long : length a.own.now.lines ≡ 256 = search rules in
    let marks_long : length a.own.now.marks ≡ 256 = search rules in
    writes l.0 a.area.now _ l.1 lines_long marks_long (rules_of a.rules) c.optimized-r.new.room c.optimized-r.ensures.ran
    (search rules) (search rules) (search rules) (search rules) c.write-length.ensures

pub write-length-requires-clause-lines_in_bounds : goal.write-length-requires-clause-lines_in_bounds
write-length-requires-clause-lines_in_bounds c =
    let a = c.args in
    let l = c.requires.loaded in
    let lines_long : length a.own.now.lines ≡ 256 = search rules in
    let marks_long : length a.own.now.marks ≡ 256 = search rules in
    fits-output l.0 a.area.now _ l.1 lines_long marks_long (rules_of a.rules) c.optimized-r.new.room c.optimized-r.ensures.ran
    (search rules) (search rules) (search rules) (search rules) c.requires.room
