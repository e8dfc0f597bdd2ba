-- `arguments::entries::is_entry` meets its contract. Assumes nothing.
use Rattle.std.proofs.Common.{refl, sym, ap, ◌∙◌}
use Rattle.std.specs.Option.{is_some}
use Rattle.arguments.proofs.Naming.{is_found}
use Rattle.reference.specs.Text.{bytes}
use Rattle.laws.proofs.Std.{starts-std}
use Rattle.laws.proofs.Scans.{if_here, if-there}
use Rattle.arguments.specs.Entries.{is_entry}
use Rattle.arguments.proofs.entries.is_entry.Goals.{then-starts_with-via-then-starts_with, then-starts_with-via-else-starts_with+then-starts_with-2}
use Rattle.arguments.proofs.entries.is_entry.Goals as goal

pub returns-then-starts_with : goal.returns-then-starts_with
unfolding is_entry
returns-then-starts_with c = let w = c.args.word.now in
    elim c.then-starts_with.branch [
      | then-starts_with-via-then-starts_with b ↦ if_here _ (sym (starts-std w (bytes ".")) ∙ sym c.starts_with.ensures.value ∙ b.if-starts_with.true) refl
      | then-starts_with-via-else-starts_with+then-starts_with-2 b ↦
          if-there _ (sym (starts-std w (bytes ".")) ∙ sym c.starts_with.ensures.value ∙ b.if-starts_with.false)
          (if_here _ (sym (starts-std w (bytes "/")) ∙ sym b.starts_with-else-starts_with.ensures.value ∙ b.if-starts_with-2.true) refl)
    ]

pub returns : goal.returns
unfolding is_entry
returns c = let w = c.args.word.now in
    if-there _ (sym (starts-std w (bytes ".")) ∙ sym c.starts_with.ensures.value ∙ c.if-starts_with.false)
    (if-there _ (sym (starts-std w (bytes "/")) ∙ sym c.starts_with-else-starts_with.ensures.value ∙ c.if-starts_with-2.false)
    (c.is_some.ensures ∙ ap is_some c.equals_in.ensures ∙ is_found w))
