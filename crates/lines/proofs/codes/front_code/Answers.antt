-- `lines::codes::front_code` meets its contract. Assumes nothing.
use native.Mathlib.Omega.{arith}
use Rattle.lines.proofs.codes.Coding.{bucket-small, code-front, placed, front-place}
use mathlib.Core.Path.{refl}
use Rattle.lines.proofs.codes.front_code.Goals as goal

pub overflow_mul-result : goal.overflow_mul-result
overflow_mul-result c = omega (arith, bucket-small _ c.bucket.ensures)

pub overflow_add-result : goal.overflow_add-result
overflow_add-result c = omega (arith, bucket-small _ c.bucket.ensures)

pub overflow_add-result-2 : goal.overflow_add-result-2
overflow_add-result-2 c = let p = placed c.place_of.ensures c.in_ok-place_of.was in omega (arith, bucket-small _ c.bucket.ensures)

pub returns : goal.returns
returns c =
    let p = placed c.place_of.ensures c.in_ok-place_of.was in
    code-front _ c.requires c.if-n-s.false c.bucket.ensures (front-place p.1 c.if-width-eq64.false) p.0 p.1 refl
