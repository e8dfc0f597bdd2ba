-- `tables::loading::fill` meets its contract: the commands so far are taken, one more at each turn. Assumes nothing.
use Prim.Native.Nat.{ℕ}
use native.Mathlib.Omega.{arith}
use mathlib.Core.Path.{◌≡◌, ap, ◌∙◌}
use Rattle.reference.proofs.LittleEndian.{Bytes}
use Rattle.std.proofs.lemmas.Result.{err_from_is_err_and}
use lib.ListN.{length, length-replicate}
use Rattle.tables.specs.Memo.{PLACES}
use Rattle.tables.proofs.memo.Remembering.{memory_empty}
use Rattle.tables.proofs.loading.Turns.{loading_start, loading-loadable, loading_more, loading-less, loading-recorded, loading-verdict, loading-refused}
use Rattle.tables.proofs.loading.fill.Goals as goal

pub loop-next-init : goal.loop-next-init
loop-next-init c = let n = c.new-reader.ensures in
    let same : c.new-reader.result.tape.now ≡ c.args.tape.now = ap (λ b. b.now) n.0 in
    let bytes : Bytes c.args.tape.now = λ i. omega (arith, c.type_inv.tape i) in
    (same, rw n.1 (loading_start c.new-reader.result.tape.now c.args.tokens.now c.args.records.now (rw same bytes) c.requires.0 c.requires.1), memory_empty _ (length-replicate {A = ℕ} PLACES 0))

pub load_next-requires : goal.load_next-requires
load_next-requires c = let i = c.loop-next.invariant in (loading-loadable i.1, i.2)

pub returns-in_err-next-clause-asked : goal.returns-in_err-next-clause-asked
returns-in_err-next-clause-asked c = let i = c.loop-next.invariant in
    let p = err_from_is_err_and c.from_residual.result c.from_residual.ensures.1 in
    rw (p.1, p.2) (rw i.0 at (loading-refused i.1 c.in_err-next.ensures.loads))

pub loop-next-smaller : goal.loop-next-smaller
loop-next-smaller c = let i = c.loop-next.invariant in
    let r = rw c.in-Some.is at c.in_ok-next.ensures.loads in
    omega (arith, loading-less i.1 r, ap length i.0, c.moved-reader.ensures.1)

pub loop-next-preserved : goal.loop-next-preserved
loop-next-preserved c = let i = c.loop-next.invariant in
    let r = rw c.in-Some.is at c.in_ok-next.ensures.loads in
    let m = c.moved-reader.ensures in
    (ap (λ b. b.now) m.0 ∙ i.0, rw (m.0, m.1) (loading_more i.1 r), c.load_next.ensures.memory)

pub returns-clause-asked : goal.returns-clause-asked
returns-clause-asked c = let i = c.loop-next.invariant in
    let r = rw c.in_default.is at c.in_ok-next.ensures.loads in
    rw i.0 at (loading-verdict i.1 r.last r.passed)

pub returns-clause-recorded : goal.returns-clause-recorded
returns-clause-recorded c = let i = c.loop-next.invariant in
    let r = rw c.in_default.is at c.in_ok-next.ensures.loads in
    rw i.0 at (loading-recorded i.1 r)
