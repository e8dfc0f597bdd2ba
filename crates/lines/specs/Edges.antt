-- Words: texts whose edges tell that most traits are not theirs. Assumes nothing.
use Rattle.std.specs.Prelude.{ℕ, ◌-◌, ◌≤◌, ◌≡◌, length, get_or}
use Rattle.reference.specs.Text.{Text}

-- above the space, `&`, `(`, `)` and `,`, and neither `:` nor `;`
pub record Plain (b : ℕ) : Type 0 where
  pub high : 45 ≤ b
  pub no_colon : b ≡ 58 → ⊥
  pub no_semicolon : b ≡ 59 → ⊥

-- several bytes, plain at both edges
pub record Word (s : Text) : Type 0 where
  pub long : 2 ≤ length s
  pub first : Plain (get_or s 0 0)
  pub last : Plain (get_or s (length s - 1) 0)
