-- `lines::shapes::symbol_from` meets its contract. Assumes nothing.
use borrow.Author.Rules.{rules}
use mathlib.Core.Path.{refl}
use Prim.Native.Nat.{◌-◌}
use lib.ListN.{length, get_or}
use Rattle.std.proofs.lemmas.Iterator.{YieldsList-from_range}
use Rattle.std.proofs.lemmas.Iterator.Search.{find_from_yields_List}
use Rattle.reference.specs.Listing.{is, Symbol}
use Rattle.lines.specs.Words.{token_of}
use Rattle.lines.proofs.shapes.Places.{symbol_found}
use Rattle.lines.proofs.shapes.symbol_from.Goals as goal

pub returns : goal.returns
unfolding is
returns c =
    λ tape area.
    let a = c.args in
    symbol_found tape area a.line.now a.from _
    (find_from_yields_List (λ k. is Symbol (token_of tape area (get_or a.line.now k 0))) _ _ _ c.find.ensures.ran
    (YieldsList-from_range a.from (length a.line.now) (length a.line.now - a.from) (cc) refl) (λ x b q k. search rules))
