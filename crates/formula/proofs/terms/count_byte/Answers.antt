-- `formula::terms::count_byte` meets its contract. Assumes nothing.
use Rattle.std.proofs.Common.{◌≡◌, ℕ, rules, Bool, eqb, count_by, ap, ◌∙◌}
use Rattle.reference.specs.Lists.{count}
use Rattle.laws.proofs.Std.{count-std, eqb_turn}
use Rattle.formula.proofs.terms.count_byte.Goals as goal

pub returns : goal.returns
returns c =
    let b = c.args.b in
    let s = c.args.s.now in
    let e : c.count.result ≡ count_by (λ y. eqb y b) s = search rules in
    e ∙ count-std (λ y. eqb y b) s ∙ ap (λ (p : ℕ → Bool). count p s) (λ i y. eqb_turn y b i)
