-- `editions::texts::put_down` meets its contract. Assumes nothing.
use Rattle.reference.specs.Text.{bytes}
use Rattle.laws.proofs.Std.{prefix-std}
use Rattle.editions.proofs.Putting.{unsigned_ready, unsigned-put, signed-room, signed_ready, signed-put}
use Rattle.editions.proofs.texts.put_down.Goals as goal

pub put_constant-requires : goal.put_constant-requires
put_constant-requires c =
    let s = c.args.s.now in
    let e = c.in-Some.ensures.cases in
    let x = prefix-std s (bytes "-") in
    (signed_ready s x e.0 e.1 c.requires.0, signed-room s x e.0 e.1 c.requires.1 c.put_byte.ensures)

pub put_constant-requires-in-None : goal.put_constant-requires-in-None
put_constant-requires-in-None c =
    (unsigned_ready _ (prefix-std c.args.s.now (bytes "-")) c.in-None.ensures.cases c.requires.0, c.requires.1)

pub returns-in-Some : goal.returns-in-Some
returns-in-Some c =
    let e = c.in-Some.ensures.cases in
    signed-put c.args.s.now (prefix-std c.args.s.now (bytes "-")) e.0 e.1 c.requires.1 c.put_byte.ensures c.put_constant.ensures

pub returns-in-None : goal.returns-in-None
returns-in-None c = unsigned-put c.args.s.now (prefix-std c.args.s.now (bytes "-")) c.in-None.ensures.cases c.put_constant-in-None.ensures
