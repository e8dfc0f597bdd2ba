-- What the loop of `build::builder::Builder::merge` keeps true.
use lib.ListN.{take}
use Rattle.build.specs.Builders.{SameLent, Pushed}
use Rattle.build.specs.Substitution.{substituted}
use Rattle.build.proofs.builder.Builder.merge.Given as goal

abbrev pub invariant-loop-w : goal.invariant-loop-w
invariant-loop-w l =
    record {
      pushed : Pushed l.texts.tape.now l.initial.self l.from (substituted l.texts.tape.now l.texts.area.now l.source l.s (take l.w-index l.line)) l.self;
      lent : SameLent l.initial.self l.self;
    }
