-- What a substitution puts, over texts as the code lends them: each name means what the definition of that name says. Assumes nothing.
use Rattle.std.specs.Prelude.{ℕ, List}
use Rattle.reference.specs.Listing.{Token}
use Rattle.lines.specs.declared.texts.Texts.{Texts}
use Rattle.build.specs.declared.merge.Substitution.{Substitution}
use Rattle.build.specs.Substitution as put

abbrev pub Substitutes : Texts → List ℕ → Substitution → Type 0
Substitutes t source s = put.Substitutes t.tape.now t.area.now source s

-- what a token becomes
abbrev pub used_as : Texts → List ℕ → Substitution → Token → List Token
used_as t source s a = put.used_as t.tape.now t.area.now source s a

-- what a line becomes, before it is merged
abbrev pub substituted : Texts → List ℕ → Substitution → List ℕ → List Token
substituted t source s line = put.substituted t.tape.now t.area.now source s line
