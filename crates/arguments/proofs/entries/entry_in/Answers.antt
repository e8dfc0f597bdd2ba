-- `arguments::entries::entry_in` meets its contract. Assumes nothing.
use Rattle.std.proofs.Common.{◌≡◌, sym, ap, ◌∙◌, rules}
use Rattle.std.proofs.Math.Option.{none}
use Rattle.arguments.specs.Entries.{entry_value}
use Rattle.reference.specs.Options.{option_of}
use Rattle.arguments.proofs.Naming.{entry_missing, entry_long, entry_read, entry_is}
use Rattle.arguments.proofs.entries.entry_in.Goals as goal

pub returns-in_err-n : goal.returns-in_err-n
returns-in_err-n c = let e : entry_value c.args.word.now ≡ none = entry_missing _ (sym c.equals_in.ensures ∙ c.in_err-n.was) in search rules

pub returns-then-n-gt-LONGEST : goal.returns-then-n-gt-LONGEST
returns-then-n-gt-LONGEST c = entry_long _ (sym c.equals_in.ensures ∙ c.in_ok-n.was) c.if-n-gt-LONGEST.true

pub returns-in_err-value : goal.returns-in_err-value
returns-in_err-value c =
    let e : entry_value c.args.word.now ≡ none = entry_read _ (sym c.equals_in.ensures ∙ c.in_ok-n.was) c.if-n-gt-LONGEST.false _ c.integer_in.ensures ∙ ap option_of c.in_err-value.was in
    search rules

pub returns : goal.returns
returns c = entry_is _ (sym c.equals_in.ensures ∙ c.in_ok-n.was) c.if-n-gt-LONGEST.false _ _ c.integer_in.ensures c.in_ok-value.was
