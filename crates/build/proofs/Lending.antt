-- The same slices, lent on from call to call. Assumes nothing.
use mathlib.Core.Path.{refl, ◌∙◌}
use Rattle.lines.specs.declared.texts.Size.{Size}
use Rattle.build.specs.declared.builder.Builder.{Builder}
use Rattle.build.specs.Builders.{SameLent}

pub lent_same : {b : Builder} → SameLent b b
lent_same = record { area_is = refl; tokens_are = refl; area_length = refl; tokens_length = refl }

pub lent_then : {b b₁ b₂ : Builder} → SameLent b b₁ → SameLent b₁ b₂ → SameLent b b₂
lent_then f g = record {
  area_is = g.area_is ∙ f.area_is;
  tokens_are = g.tokens_are ∙ f.tokens_are;
  area_length = g.area_length ∙ f.area_length;
  tokens_length = g.tokens_length ∙ f.tokens_length;
}

-- whatever is in use
pub resized : (at : Size) {b b₁ : Builder} → SameLent b b₁ → SameLent b (record { area = b₁.area; tokens = b₁.tokens; size = at })
resized at f = record { area_is = f.area_is; tokens_are = f.tokens_are; area_length = f.area_length; tokens_length = f.tokens_length }
