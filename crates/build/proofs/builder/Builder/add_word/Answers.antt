-- `build::builder::Builder::add_word` meets its contract. Assumes nothing.
use Rattle.build.proofs.Appending.{unmoved}
use Rattle.build.proofs.builder.Builder.add_word.Goals as goal

pub returns-clause-appends : goal.returns-clause-appends
returns-clause-appends c =
    let b = c.args.self.now in
    λ tape old. unmoved tape old b.area.now b.tokens.now b.size c.args.w c.requires.0 c.requires.1
