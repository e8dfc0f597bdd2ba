-- `arguments::entries::put_named` meets its contract. Assumes nothing.
use Rattle.std.proofs.Common.{◌∙◌, ap, arith, get_or}
use Rattle.arguments.proofs.Naming.{low_byte, named_put}
use Rattle.arguments.proofs.entries.put_named.Goals as goal

pub returns : goal.returns
returns c =
    named_put c.args.name.now c.args.v (ap (λ bs. get_or bs 0 0) c.to_le_bytes.ensures ∙ low_byte _ c.requires.0) (omega arith) c.put_byte.ensures c.put.ensures
    c.put_le.ensures
