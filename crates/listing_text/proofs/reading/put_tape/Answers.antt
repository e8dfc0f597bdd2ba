-- `listing_text::reading::put_tape` meets its contract. Assumes nothing.
use native.Mathlib.Omega.{arith}
use mathlib.Core.Path.{◌≡◌, refl, sym, ap, ◌∙◌}
use mathlib.Core.List.{List}
use lib.Dec.{eqb}
use lib.ListN.{length, length-append}
use mathlib.Core.Logic.{inl, inr}
use borrow.Author.Rules.{rules}
use Rattle.std.proofs.Common.{of_calls}
use Rattle.std.proofs.lemmas.Fn.{always_returns_same}
use Rattle.reference.specs.Text.{Text}
use Rattle.listing_text.specs.Room.{page}
use Rattle.listing_text.specs.Exact.{ended, lines_read, tape_of}
use Rattle.listing_text.proofs.Parts.{no_lines, piece_line}
use Rattle.listing_text.proofs.Fielding.{lies_by, ending, line_wrong, line_right, made-wrong, made_cut, made_whole}
use Rattle.listing_text.proofs.reading.put_tape.Goals as goal

pub loop-n-init : goal.loop-n-init
unfolding tape_of
loop-n-init c =
    let g = c.into_iter-n-iterator.ensures.into_iter_gives in
    let r = ap (λ i. i.b.rest.now) g ∙ ap (λ i. i.rest.now) c.zip-n-items.ensures.second ∙ c.split_inclusive.ensures.rest in
    let z = ap (λ i. i.a.start) g ∙ ap (λ i. i.start) c.zip-n-items.ensures.first in
    record {
      told = (λ i. ending (c.new-page.ensures.empty i) (lines_read (z i) (ended 10 (r i))));
      few = omega (arith, z, ap length r);
      lent = refl;
    }

pub returns-then-is_err : goal.returns-then-is_err
returns-then-is_err c =
    let l = c.loop-n in
    let s = l.n-iterator.b.rest.now in
    let k = c.in-Some.ensures.steps.0 in
    let m = c.in-Some.ensures.steps.1 in
    let first = (m.1.2 (λ x. eqb x 10) (always_returns_same _ (λ a r. r ≡ eqb a.0.now 10) _ (λ a r q k. (search (rules, of_calls), refl)))).1 in
    let o = c.split_once in
    let lines = piece_line 10 s c.in-Some.piece.now c.next.new.self.b.rest.now m.1.0 m.0 m.1.1 first.0 first.1 m.2 o.result.0.now o.result.1 o.ensures.without o.ensures.whole in
    let laid = rw (lies_by c.put_fields.new.out c.put_fields.result (sym c.is_err.ensures.value ∙ c.if-is_err.true)) at c.put_fields.ensures.lays in
    rw k.0
    (made-wrong c.args.out.now (tape_of c.args.text.now)
    (line_wrong (page l.page) l.n-iterator.a.start o.result.0.now (ended 10 c.next.new.self.b.rest.now) laid refl
    ∙ ap (λ (ls : List Text). ending (page l.page) (lines_read l.n-iterator.a.start ls)) (sym lines) ∙ l.invariant.told)
    (search rules))

pub loop-n-preserved : goal.loop-n-preserved
loop-n-preserved c =
    let l = c.loop-n in
    let s = l.n-iterator.b.rest.now in
    let k = c.in-Some.ensures.steps.0 in
    let m = c.in-Some.ensures.steps.1 in
    let first = (m.1.2 (λ x. eqb x 10) (always_returns_same _ (λ a r. r ≡ eqb a.0.now 10) _ (λ a r q k. (search (rules, of_calls), refl)))).1 in
    let o = c.split_once in
    let lines = piece_line 10 s c.in-Some.piece.now c.next.new.self.b.rest.now m.1.0 m.0 m.1.1 first.0 first.1 m.2 o.result.0.now o.result.1 o.ensures.without o.ensures.whole in
    let laid = rw (lies_by c.put_fields.new.out c.put_fields.result (sym c.is_err.ensures.value ∙ c.if-is_err.false)) at c.put_fields.ensures.lays in
    record {
      told = rw (k.1, k.0) (line_right (page l.page) l.n-iterator.a.start o.result.0.now (ended 10 c.next.new.self.b.rest.now) laid refl
          ∙ ap (λ (ls : List Text). ending (page l.page) (lines_read l.n-iterator.a.start ls)) (sym lines) ∙ l.invariant.told);
      few = omega (arith, k.0, k.1, l.invariant.few, ap length m.0, length-append c.in-Some.piece.now c.next.new.self.b.rest.now, m.1.1, m.2);
      lent = c.put_fields.ensures.lent ∙ l.invariant.lent;
    }

pub returns-then-page : goal.returns-then-page
returns-then-page c =
    let l = c.loop-n in
    let none : length l.n-iterator.b.rest.now ≡ 0 = elim c.in-None.ensures.steps [ inl h ↦ omega (arith, h.1.0, l.invariant.few) | inr h ↦ h.1.0 ] in
    made_cut c.args.out.now (tape_of c.args.text.now) (page l.page) l.n-iterator.a.start c.put_byte.ensures.adds
    (ap (λ (ls : List Text). ending (page l.page) (lines_read l.n-iterator.a.start ls)) (sym (no_lines 10 l.n-iterator.b.rest.now none)) ∙ l.invariant.told) (search rules) c.if-page.true

pub returns : goal.returns
returns c =
    let l = c.loop-n in
    let none : length l.n-iterator.b.rest.now ≡ 0 = elim c.in-None.ensures.steps [ inl h ↦ omega (arith, h.1.0, l.invariant.few) | inr h ↦ h.1.0 ] in
    made_whole c.args.out.now (tape_of c.args.text.now) (page l.page) l.n-iterator.a.start c.put_byte.ensures.adds
    (ap (λ (ls : List Text). ending (page l.page) (lines_read l.n-iterator.a.start ls)) (sym (no_lines 10 l.n-iterator.b.rest.now none)) ∙ l.invariant.told) (search rules) c.if-page.false
