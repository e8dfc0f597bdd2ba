-- What the loop of `build::builder::Builder::push_expr` keeps true.
use lib.ListN.{take}
use Rattle.lines.specs.Texts.{tokens_of}
use Rattle.lines.specs.Shapes.{expr_words}
use Rattle.build.specs.Builders.{SameLent, Pushed}
use Rattle.build.proofs.builder.Builder.push_expr.Given as goal

abbrev pub invariant-loop-k : goal.invariant-loop-k
invariant-loop-k l =
    record {
      pushed : Pushed l.texts.tape.now l.initial.self l.from (tokens_of l.texts (take l.k (expr_words l.source l.x))) l.self;
      lent : SameLent l.initial.self l.self;
    }
