-- `raising::cuts::after_cut` meets its contract. Assumes nothing.
use native.Mathlib.Omega.{arith}
use mathlib.Core.Path.{ap, sym, subst, ◌∙◌}
use lib.ListN.{length, set, take, drop, length-set}
use Rattle.std.specs.Prelude.{ℕ}
use Rattle.reference.specs.Listing.{Line, Listing, with_tokens, ◌at◌}
use Rattle.reference.proofs.Lines.{length-modify}
use Rattle.flow.specs.LineForms.{Formed}
use Rattle.raising.specs.Tables.{Gathered}
use Rattle.raising.proofs.Gathering.{gathered_again}
use Rattle.raising.proofs.cuts.after_cut.Goals as goal

pub returns-clause-kept : goal.returns-clause-kept
returns-clause-kept c = λ lines kept e.
    let r = c.args.r.now in
    let i = c.args.i in
    let f = c.form_at.result in
    let cut : Line → Line = λ l. with_tokens (drop 2 l.tokens) l in (
      record {
        room = λ on.
            let room = c.requires.3 on in
            record {
              for_sets = room.for_sets;
              for_forms = omega (arith, room.for_forms, length-set r.forms.now i f);
              for_parts = room.for_parts;
              for_seen = room.for_seen;
              for_expr = room.for_expr;
            };
        untold = kept.untold;
        formed = λ on.
            let room = c.requires.3 on in
            subst (λ (ls : Listing). Gathered ls (set r.forms.now i f)) (sym e)
            (gathered_again cut i lines r.forms.now f (omega (arith, room.for_forms, c.requires.1, c.requires.2)) (kept.formed on)
            (subst (λ (ls : Listing). Formed (ls at i).tokens f) e c.form_at.ensures));
      },
      ap (λ (ls : Listing). take (length ls) r.sets.now) e ∙ ap (λ (n : ℕ). take n r.sets.now) (length-modify cut i lines),
    )
