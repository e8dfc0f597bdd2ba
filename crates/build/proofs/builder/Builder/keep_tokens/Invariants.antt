-- What the loop of `build::builder::Builder::keep_tokens` keeps true.
use lib.ListN.{take}
use Rattle.reference.specs.Claim.{text_in}
use Rattle.lines.specs.Texts.{tokens_of}
use Rattle.build.specs.Builders.{SameLent, LineAdded}
use Rattle.build.proofs.builder.Builder.keep_tokens.Given as goal

abbrev pub invariant-loop-w : goal.invariant-loop-w
invariant-loop-w l =
    let done = tokens_of l.texts (take l.w-index l.line) in
    record {
      added : LineAdded l.texts.tape.now l.initial.self done (text_in done) l.w-index l.self;
      lent : SameLent l.initial.self l.self;
    }
