-- A listing is lines, a line has an optional address, an indent and tokens, a token a kind and a text (document 01's terms). Assumes
-- nothing.
use Rattle.std.specs.Prelude.{ℕ, Bool, List, [], eqb, get_or}
use Rattle.std.proofs.Math.Option.{Option, none}
use Rattle.reference.specs.Text.{Text}

pub record Token : Type 0 where
  pub kind : ℕ
  pub text : Text

-- the eight kinds, in the tape's order; `Plain` is document 01's kind Text
abbrev pub Plain : ℕ
Plain = 0

abbrev pub Register : ℕ
Register = 1

abbrev pub Number : ℕ
Number = 2

abbrev pub Keyword : ℕ
Keyword = 3

abbrev pub Symbol : ℕ
Symbol = 4

abbrev pub Address : ℕ
Address = 5

abbrev pub Punct : ℕ
Punct = 6

abbrev pub Prefix : ℕ
Prefix = 7

unfoldable pub is : ℕ → Token → Bool
is k t = eqb t.kind k

abbrev pub token : ℕ → Text → Token
token k s = record { kind = k; text = s }

pub record Line : Type 0 where
  pub address : Option ℕ
  pub indent : ℕ
  pub tokens : List Token

abbrev pub Listing : Type 0
Listing = List Line

abbrev pub blank : Line
blank = record { address = none; indent = 0; tokens = [] }

-- `lines[i]`
infix 60 ◌at◌
abbrev pub ◌at◌ : Listing → ℕ → Line
lines at i = get_or lines i blank

abbrev pub with_tokens : List Token → Line → Line
with_tokens ts l = record { address = l.address; indent = l.indent; tokens = ts }
