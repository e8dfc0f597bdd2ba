-- `flow::spelling::with_first` meets its contract. Assumes nothing.
use mathlib.Core.Path.{refl, sym, ◌∙◌}
use mathlib.Core.List.{◌∷◌}
use Rattle.flow.proofs.Unmatched.{ten_full}
use Rattle.flow.proofs.spelling.with_first.Goals as goal

pub returns : goal.returns
returns c =
    let f = c.args.f in
    record {
      front = λ s. ten_full f.bytes f.len s c.requires.1 c.if-f-lt10.false ∙ sym (ten_full f.bytes f.len (c.args.b ∷ s) c.requires.1 c.if-f-lt10.false);
      room = c.requires.0;
      sized = refl;
      closes_are = refl;
      opens_are = refl;
    }
