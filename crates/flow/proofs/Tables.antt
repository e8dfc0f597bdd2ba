-- The table's forms are those of the definitions, and say which of their tests hold. Assumes nothing.
use Prim.Native.Nat.{ℕ, zero, suc, ◌+◌, ◌<◌}
use native.Mathlib.Omega.{arith}
use mathlib.Core.Path.{◌≡◌, refl, sym, ap, ◌∙◌}
use mathlib.Core.Bool.{Bool, true, false, false≢true}
use mathlib.Core.List.{List, [], ◌∷◌, ◌++◌, map, reverse}
use lib.Dec.{eqb}
use lib.ListN.{length, get_or, set, take, drop, length-map, length-drop, length-set}
use lib.Seq.{get_or-set_same, get_or-set_other}
use borrow.Author.Tests.{eq-eqb}
use Rattle.std.proofs.Common.{eqb-true}
use Rattle.laws.proofs.Scans.{by_test}
use Rattle.reference.specs.Control.{◌and◌, ◌or◌, when◌then◌else◌}
use Rattle.reference.specs.Text.{Text, bytes, ◌≟◌, has}
use Rattle.reference.specs.Listing.{Line, Listing, ◌at◌}
use Rattle.cautions.specs.Forms.{form}
use Rattle.lines.specs.declared.texts.Listing as held
use Rattle.lines.specs.Texts.{bare_in, bare_listing, tokens_of}
use Rattle.lines.specs.Lines.{part_of}
use Rattle.lines.proofs.words.Lines.{bare_at}
use Rattle.flow.specs.declared.lineforms.Form.{Form}
use Rattle.flow.specs.declared.lineforms.Form.TheVariants.{Empty, Statement, Label, Opening, Block, Guarded, Do, Goto, IfGoto, Return, IfReturn, While, Closing, If, ElseIf, Else, Switch, Other}
use Rattle.flow.specs.declared.lineforms.LineForm.{LineForm}
use Rattle.flow.specs.declared.ways.FormedListing.{FormedListing}
use Rattle.flow.specs.LineForms.{text_of_form, is_other, KNOWN, Classed, Formed}
use Rattle.flow.specs.Blocks.{no_form, closer_by, opener_by, FewBraces}
use Rattle.flow.specs.Spelling.{unmatched}
use Rattle.flow.specs.Ways.{Tabled, forms_of}
use Rattle.flow.proofs.Classes.{same_true}
use Rattle.flow.proofs.Matching.{braces_of, closer_is, opener_is, closer_below, opener_below}
use Rattle.std.specs.Prelude as std
use Rattle.reference.specs.Options.{option_of}
use Rattle.std.proofs.lemmas.List.{reverse-append, map-append, drop-map, take-map, length-reverse, length-take}
use native.Mathlib.Numerals.{add-one}
use Rattle.cautions.specs.Forms.{closer, opener}

-- ---- one form

named : Text → Form
named s =
    when s ≟ [] then Empty
    else when s ≟ bytes ";" then Statement
    else when s ≟ bytes ":" then Label
    else when s ≟ bytes "{" then Opening
    else when s ≟ bytes "{}" then Block
    else when s ≟ bytes "if;" then Guarded
    else when s ≟ bytes "do{" then Do
    else when s ≟ bytes "goto;" then Goto
    else when s ≟ bytes "ifgoto;" then IfGoto
    else when s ≟ bytes "return;" then Return
    else when s ≟ bytes "ifreturn;" then IfReturn
    else when s ≟ bytes "while};" then While
    else when s ≟ bytes "}" then Closing
    else when s ≟ bytes "if{" then If
    else when s ≟ bytes "elseif}{" then ElseIf
    else when s ≟ bytes "else}{" then Else
    else when s ≟ bytes "switch{" then Switch
    else Other

named_back : (f : Form) → is_other f ≡ false → named (text_of_form f) ≡ f
unfolding named when◌then◌else◌ ◌and◌
named_back Empty e = refl
named_back Statement e = refl
named_back Label e = refl
named_back Opening e = refl
named_back Block e = refl
named_back Guarded e = refl
named_back Do e = refl
named_back Goto e = refl
named_back IfGoto e = refl
named_back Return e = refl
named_back IfReturn e = refl
named_back While e = refl
named_back Closing e = refl
named_back If e = refl
named_back ElseIf e = refl
named_back Else e = refl
named_back Switch e = refl
named_back Other e = absurd (false≢true (sym e))

is_known : (f : Form) → is_other f ≡ false → has KNOWN (text_of_form f) ≡ true
unfolding ◌or◌ ◌and◌
is_known Empty e = refl
is_known Statement e = refl
is_known Label e = refl
is_known Opening e = refl
is_known Block e = refl
is_known Guarded e = refl
is_known Do e = refl
is_known Goto e = refl
is_known IfGoto e = refl
is_known Return e = refl
is_known IfReturn e = refl
is_known While e = refl
is_known Closing e = refl
is_known If e = refl
is_known ElseIf e = refl
is_known Else e = refl
is_known Switch e = refl
is_known Other e = absurd (false≢true (sym e))

by_other : {X : Type 0} (f : Form) → (is_other f ≡ true → X) → (is_other f ≡ false → X) → X
by_other {X} f a b = go (is_other f) a b
  where
    go : (x : Bool) → (x ≡ true → X) → (x ≡ false → X) → X
    go true a b = a refl
    go false a b = b refl

classed_only : (s : Text) (f t : Form) → Classed s f → is_other t ≡ false → s ≡ text_of_form t → f ≡ t
classed_only s f t c o e =
    by_other f
    (λ x. absurd (false≢true (sym (c.other x) ∙ ap (has KNOWN) e ∙ is_known t o)))
    (λ x. sym (named_back f x) ∙ ap named (sym (c.known x) ∙ e) ∙ named_back t o)

pub not_form : {s : Text} {f : Form} (t : Form) → Classed s f → is_other t ≡ false → (f ≡ t → ⊥) → (s ≟ text_of_form t) ≡ false
not_form {s} {f} t c o n = go (s ≟ text_of_form t) refl
  where
    go : (b : Bool) → (s ≟ text_of_form t) ≡ b → b ≡ false
    go true e = absurd (n (classed_only s f t c o (same_true s (text_of_form t) e)))
    go false e = refl

pub the_form : {s : Text} {f : Form} (t : Form) → Classed s f → is_other t ≡ false → f ≡ t → s ≡ text_of_form t
the_form {s} {f} t c o e = c.known (ap is_other e ∙ o) ∙ ap text_of_form e

-- ---- in the table

at_form : (lines : Listing) (k : ℕ) → k < length lines → get_or (forms_of lines) k [] ≡ form (lines at k).tokens
at_form [] k h = absurd (omega arith)
at_form (l ∷ ls) zero h = refl
at_form (l ∷ ls) (suc k) h = at_form ls k (omega arith)

pub lines_long : (g : FormedListing) → length (bare_listing g.listing) ≡ length g.listing.lines.now
lines_long g = length-map g.listing.lines.now (bare_in g.listing.texts g.listing.tokens.now)

pub table_form : (g : FormedListing) (k : ℕ) → Tabled g → k < length g.listing.lines.now
    → Classed (get_or (forms_of (bare_listing g.listing)) k []) (get_or g.forms.now k no_form).form
table_form g k t h =
    let e = at_form (bare_listing g.listing) k (omega (arith, lines_long g)) in
    rw e (t.table.each k h).form_is

-- lists that agree at every place
agree : (rs : List LineForm) (ls : Listing) → length rs ≡ length ls
    → ((k : ℕ) → k < length ls → braces_of (get_or rs k no_form) ≡ unmatched (form (ls at k).tokens)) → map braces_of rs ≡ map unmatched (forms_of ls)
agree [] [] e h = refl
agree [] (l ∷ ls) e h = absurd (omega arith)
agree (r ∷ rs) [] e h = absurd (omega arith)
agree (r ∷ rs) (l ∷ ls) e h = rw (h 0 (omega arith), agree rs ls (omega arith) (λ k b. h (suc k) (omega arith))) refl

pub table_braces : (g : FormedListing) → Tabled g → map braces_of g.forms.now ≡ map unmatched (forms_of (bare_listing g.listing))
table_braces g t =
    agree g.forms.now (bare_listing g.listing) (omega (arith, t.table.long, lines_long g)) (λ k h. (t.table.each k (omega (arith, lines_long g))).braces)

-- ---- closers and openers

pub table_few : (g : FormedListing) → Tabled g → FewBraces g.forms.now
table_few g t k h = (t.table.each k (omega (arith, t.table.long))).few

map_reverse : (f : LineForm → ℕ × ℕ) (rs : List LineForm) → map f (reverse rs) ≡ reverse (map f rs)
map_reverse f [] = refl
map_reverse f (r ∷ rs) =
    ap (map f) (reverse-append (r ∷ []) rs) ∙ map-append f (reverse rs) (r ∷ []) ∙ ap (λ x. x ++ (f r ∷ [])) (map_reverse f rs) ∙ sym (reverse-append (f r ∷ []) (map f rs))

map_back : (f : Text → ℕ × ℕ) (rs : List Text) → map f (reverse rs) ≡ reverse (map f rs)
map_back f [] = refl
map_back f (r ∷ rs) =
    ap (map f) (reverse-append (r ∷ []) rs) ∙ map-append f (reverse rs) (r ∷ []) ∙ ap (λ x. x ++ (f r ∷ [])) (map_back f rs) ∙ sym (reverse-append (f r ∷ []) (map f rs))

module _ (g : FormedListing) (k : ℕ) (t : Tabled g) (o : std.Option ℕ) where
  pub table_closer : option_of o ≡ closer_by 0 (k + 1) (drop (k + 1) g.forms.now) → option_of o ≡ closer (bare_listing g.listing) (forms_of (bare_listing g.listing)) k
  unfolding closer
  table_closer e =
      e ∙ rw (add-one k)
      (closer_is (drop (suc k) g.forms.now) (drop (suc k) (forms_of (bare_listing g.listing))) 0 (suc k)
      (sym (drop-map braces_of (suc k) g.forms.now) ∙ ap (drop (suc k)) (table_braces g t) ∙ drop-map unmatched (suc k) (forms_of (bare_listing g.listing))))

  pub table_opener : option_of o ≡ opener_by 0 (reverse (take k g.forms.now)) → option_of o ≡ opener (bare_listing g.listing) (forms_of (bare_listing g.listing)) k
  unfolding opener
  table_opener e =
      let fs = forms_of (bare_listing g.listing) in
      e ∙ opener_is (reverse (take k g.forms.now)) (reverse (take k fs)) 0
      (map_reverse braces_of (take k g.forms.now)
      ∙ ap reverse (sym (take-map braces_of k g.forms.now) ∙ ap (take k) (table_braces g t) ∙ take-map unmatched k fs) ∙ sym (map_back unmatched (take k fs)))

pub closer_inside : (g : FormedListing) (k : ℕ) → k < length g.forms.now → {o : std.Option ℕ} → option_of o ≡ closer_by 0 (k + 1) (drop (k + 1) g.forms.now) → {c : ℕ} → o ≡ std.Some c
    → c < length g.forms.now
closer_inside g k h e {c} f =
    let p : option_of (std.Some c) ≡ closer_by 0 (k + 1) (drop (k + 1) g.forms.now) = rw f at e in
    let q = closer_below (drop (k + 1) g.forms.now) 0 (k + 1) (sym p) in
    omega (arith, q.1, length-drop (k + 1) g.forms.now)

pub opener_inside : (g : FormedListing) (k : ℕ) → k < length g.forms.now → {o : std.Option ℕ} → option_of o ≡ opener_by 0 (reverse (take k g.forms.now)) → {c : ℕ} → o ≡ std.Some c
    → c < length g.forms.now
opener_inside g k h e {c} f =
    let p : option_of (std.Some c) ≡ opener_by 0 (reverse (take k g.forms.now)) = rw f at e in
    let q = opener_below (reverse (take k g.forms.now)) 0 (sym p) in
    omega (arith, q, length-reverse (take k g.forms.now), length-take k g.forms.now)

-- o is the code's answer to which line opens the block that line k closes, and d that line
module _ (g : FormedListing) (k : ℕ) (t : Tabled g) (h : k < length g.listing.lines.now) {o : std.Option ℕ} (e : option_of o ≡ opener_by 0 (reverse (take k g.forms.now))) {d : ℕ}
    (f : o ≡ std.Some d) where
  pub opened_inside : d < length g.forms.now
  opened_inside = opener_inside g k (omega (arith, h, t.table.long)) e f

  pub opened_form : Classed (get_or (forms_of (bare_listing g.listing)) d []) (get_or g.forms.now d no_form).form
  opened_form = table_form g d t (omega (arith, opened_inside, t.table.long))

pub listed_tokens : (h : held.Listing) (k : ℕ) → k < length h.lines.now
    → tokens_of h.texts (part_of h.tokens.now (get_or h.lines.now k 0)) ≡ (bare_listing h at k).tokens
listed_tokens h k b = ap (λ (l : Line). l.tokens) (sym (bare_at h.texts.tape.now h.texts.area.now h.tokens.now [] h.lines.now k b))

pub table_tokens : (g : FormedListing) (k : ℕ) → k < length g.listing.lines.now
    → tokens_of g.listing.texts (part_of g.listing.tokens.now (get_or g.listing.lines.now k 0)) ≡ (bare_listing g.listing at k).tokens
table_tokens g k h = listed_tokens g.listing k h

-- ---- filled line by line

module _ (h : held.Listing) where
  -- the table as far as the first n lines
  abbrev pub FilledTo : ℕ → List LineForm → Type 0
  FilledTo n forms =
      (length forms ≡ length h.lines.now) × ((j : ℕ) → j < n → Formed (bare_listing h at j).tokens (get_or forms j no_form))

  pub filled_more : (n : ℕ) (forms : List LineForm) (r : LineForm) → n < length h.lines.now → FilledTo n forms
      → Formed (bare_listing h at n).tokens r → FilledTo (n + 1) (set forms n r)
  filled_more n forms r b f e = (
    length-set forms n r ∙ f.0,
    λ j i.
        by_test (eqb j n)
        (λ q. rw (eqb-true j n q, get_or-set_same forms n r no_form (omega (arith, f.0))) e)
        (λ q. let other : j ≡ n → ⊥ = λ p. false≢true (sym q ∙ eq-eqb j n p) in
        rw (get_or-set_other forms n j r no_form other) (f.1 j (omega (arith, other)))),
  )
