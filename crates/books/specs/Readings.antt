-- Where document 01 is silent or looser than the Rust: what the reference takes, which is what the Rust does, by a smallest example of
-- each.
-- docs/DIFFERENCES.md cites the fields by name. Assumes nothing.
use Prim.Native.String.{String}
use Rattle.std.specs.Prelude.{◌≡◌, List, [], ◌∷◌}
use Rattle.std.proofs.Math.Option.{some}
use Rattle.reference.specs.Text.{bytes}
use Rattle.reference.specs.Names.{family}
use Rattle.reference.specs.Numbers.{fold}
use Rattle.reference.specs.Run.{run, three, counts}
use Rattle.books.specs.Notation.{convention_1, said, listing, T, R, N, K, S, P, line, gives, turns}

abbrev stays : List String → Type 0
stays ls = gives ls ls

pub record Readings : Type 0 where
  -- 1: a cut goes by texts alone, and wants no `;`
  pub cut_of_any_kind : turns (line (T "rax" ∷ T " = " ∷ S "f" ∷ P "(" ∷ []) ∷ []) (line (S "f" ∷ P "(" ∷ []) ∷ [])
  pub cast_is_not_cut : stays ("rax = (int)f();" ∷ "return;" ∷ [])
  -- 2: one token gets no brackets, and `), ` is an operator
  pub lone_token :
      turns
      (line (R "rax" ∷ P " = " ∷ P " x ;" ∷ []) ∷ line (R "rbx" ∷ P " = " ∷ R "rsi" ∷ P " - " ∷ R "rax" ∷ P ";" ∷ []) ∷ [])
      (line (R "rbx" ∷ P " = " ∷ R "rsi" ∷ P " -  x ;" ∷ []) ∷ [])
  pub comma_behind_bracket : gives ("rax = f(g(rbx), rcx);" ∷ "rdx = rsi - rax;" ∷ []) ("rdx = rsi - (f(g(rbx), rcx));" ∷ [])
  pub comma_alone : gives ("rax = f(rbx, rcx);" ∷ "rdx = rsi - rax;" ∷ []) ("rdx = rsi - f(rbx, rcx);" ∷ [])
  -- 3: the middle of a fold may be of any kind, and three terms do not fold
  pub fold_of_any_kind : fold 0 (N "5" ∷ T " + " ∷ N "4" ∷ []) ≡ N "9" ∷ []
  pub three_terms : gives ("rax = 5;" ∷ "rbx = rax + 4 + 1;" ∷ []) ("rbx = 5 + 4 + 1;" ∷ [])
  -- 4: a Register whose text ends `;`
  pub semicolon_in_register :
      turns
      (line (R "rax" ∷ P " = " ∷ N "5" ∷ P ";" ∷ []) ∷ line (R "rbx" ∷ P " = " ∷ R "rax;" ∷ []) ∷ [])
      (line (R "rax" ∷ P " = " ∷ N "5" ∷ P ";" ∷ []) ∷ line (R "rbx" ∷ P " = " ∷ R "rax;" ∷ []) ∷ [])
  pub semicolon_in_slot : family (bytes "var_8;") ≡ some (record { name = bytes "var_8;"; width = 64; lowest = 0 })
  -- 5: `*(` in the Punct of the ` = ` reads no memory (`read_past_store` of Differences), a Keyword `*(` does
  pub keyword_reads_memory :
      turns
      (line (R "rax" ∷ P " = " ∷ K "*(" ∷ R "rcx" ∷ P ");" ∷ []) ∷ line (R "var_8" ∷ P " = " ∷ N "5" ∷ P ";" ∷ [])
      ∷ line (R "rbx" ∷ P " = " ∷ R "rax" ∷ P ";" ∷ []) ∷ [])
      (line (R "rax" ∷ P " = " ∷ K "*(" ∷ R "rcx" ∷ P ");" ∷ []) ∷ line (R "var_8" ∷ P " = " ∷ N "5" ∷ P ";" ∷ [])
      ∷ line (R "rbx" ∷ P " = " ∷ R "rax" ∷ P ";" ∷ []) ∷ [])
  -- 6: a lone number goes to one use, or to several, by different rules
  pub one_use_at_another_indent : gives ("rax = 5;" ∷ " rbx = rax;" ∷ []) (" rbx = 5;" ∷ [])
  pub two_uses_at_another_indent : stays ("rax = 5;" ∷ " rbx = rax + rax;" ∷ [])
  pub past_return : gives ("rax = 5;" ∷ "return;" ∷ "rbx = rax;" ∷ []) ("return;" ∷ "rbx = 5;" ∷ [])
  pub past_call : gives ("rbx = 5;" ∷ "f();" ∷ "rcx = rbx;" ∷ []) ("f();" ∷ "rcx = 5;" ∷ [])
  -- 7: addressed names, of any kinds, gathered when the round begins
  pub addressed_of_any_kind :
      turns
      (line (S "&" ∷ S "var_8" ∷ []) ∷ line (R "var_8" ∷ P " = " ∷ N "5" ∷ P ";" ∷ []) ∷ line (R "rbx" ∷ P " = " ∷ R "var_8" ∷ P ";" ∷ [])
      ∷ [])
      (line (S "&" ∷ S "var_8" ∷ []) ∷ line (R "var_8" ∷ P " = " ∷ N "5" ∷ P ";" ∷ []) ∷ line (R "rbx" ∷ P " = " ∷ R "var_8" ∷ P ";" ∷ [])
      ∷ [])
  pub addressed_later : gives ("rax = var_8;" ∷ "g(&rax);" ∷ "var_8 = 5;" ∷ "h(var_8);" ∷ []) ("g(&var_8);" ∷ "h(5);" ∷ [])
  -- 8: a join can make a label, which is no target in its round, and a call
  pub label_made : gives ("rbx = L;" ∷ "rbx:" ∷ []) ("L:" ∷ [])
  pub call_made : gives ("rax = f;" ∷ "rax();" ∷ []) ("f();" ∷ [])
  pub label_made_late :
      counts convention_1 (run convention_1 (listing ("rbx = L;" ∷ "rbx:" ∷ "rbx = 2;" ∷ "rax = 5;" ∷ "f(rax);" ∷ "goto L;" ∷ [])))
      ≡ record { tally = three 6 6 4; lines_removed = 2; results_cut = 0 }
  -- 9: of a line with `while` only a use and its `do` count
  pub while_without_do : stays ("rax = rcx;" ∷ "rbx = rax;" ∷ "while (rdx);" ∷ [])
  pub while_with_call : stays ("do {" ∷ " rax = rcx;" ∷ " rbx = rax;" ∷ "} while (f());" ∷ "rdx = rax;" ∷ [])
  -- 11: a line that is not rewritten stays as it is, and so does an assignment that nobody reads
  pub sum_left : stays ("rax = 4 + 5;" ∷ [])
  pub dead_assignment_left : stays ("rax = 5;" ∷ "rax = 6;" ∷ [])
  -- the release form, in which a negation wraps as sums do
  pub negation_wraps :
      turns
      (line (R "rax" ∷ P " = " ∷ N "--9223372036854775808" ∷ P ";" ∷ []) ∷ said "rbx = rax + 1;" ∷ [])
      (said "rbx = -0x7fffffffffffffff;" ∷ [])
