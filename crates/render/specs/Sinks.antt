-- What is known of a sink after something was put into it: it is the same, and after a failure it stays failed. Assumes nothing.
use Rattle.std.specs.Prelude.{◌≡◌, false}
use Rattle.render.specs.declared.sink.Sink.{Sink}

pub record Later (before after : Sink) : Type 0 where
  pub same : after.fd ≡ before.fd
  pub stays_failed : before.sound ≡ false → after.sound ≡ false
