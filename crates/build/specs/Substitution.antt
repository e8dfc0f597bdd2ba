-- What a substitution puts in the place of a token of its family. Assumes nothing.
use Rattle.std.specs.Prelude.{ℕ, List, [], ◌∷◌, ◌++◌}
use Rattle.reference.specs.Control.{when◌then◌else◌}
use Rattle.reference.specs.Text.{Text, bytes}
use Rattle.reference.specs.Listing.{Token, token, Punct}
use Rattle.reference.specs.Names.{of_family}
use Rattle.reference.specs.Join.{substitute}
use Rattle.lines.specs.Words.{tokens_of, Holds}
use Rattle.lines.specs.Shapes.{expr_words, Expression}
use Rattle.lines.specs.Fams.{fam_text, Known}
use Rattle.build.specs.declared.merge.Substitution.{Substitution}

abbrev pub bracketed : List Token → List Token
bracketed expr = token Punct (bytes "(") ∷ expr ++ (token Punct (bytes ")") ∷ [])

-- the right side of the line `source`, in brackets or without
unfoldable pub right_of : Text → Text → List ℕ → Substitution → List Token
right_of tape area source j =
    when j.brackets
    then bracketed (tokens_of tape area (expr_words source j.expr))
    else tokens_of tape area (expr_words source j.expr)

-- what a token becomes
unfoldable pub used_as : Text → Text → List ℕ → Substitution → Token → List Token
used_as tape area source j t = when of_family (fam_text tape area j.family) t then right_of tape area source j else t ∷ []

-- what a line becomes, before it is merged
abbrev pub substituted : Text → Text → List ℕ → Substitution → List ℕ → List Token
substituted tape area source j line = substitute (fam_text tape area j.family) (right_of tape area source j) (tokens_of tape area line)

-- the source can be read, its right side is a part of it, and the family is known
pub record Substitutes (tape area : Text) (source : List ℕ) (j : Substitution) : Type 0 where
  pub holds : Holds tape area source
  pub expression : Expression source j.expr
  pub known : Known tape area j.family
