-- `tape::writing::put_command` meets its contract. Assumes nothing.
use Rattle.reference.specs.Listing.{token}
use Rattle.tape.specs.Commands.{form_of}
use Rattle.tape.proofs.writing.Putting.{token_same}
use Rattle.tape.specs.contracts.writing.put_command as code
use denote.Param.{number}
use Rattle.tape.proofs.writing.put_command.Goals as goal

pub put_token-requires : goal.put_token-requires
put_token-requires g c = let form = form_of (code.BASED-type (number g.row.BASED)) in
    let r = rw c.in-Token.is at c.requires in
    (r.0, rw (token_same form (token c.in-Token.kind c.in-Token.text.now)) at r.1)

pub returns-in-Token : goal.returns-in-Token
returns-in-Token g c = let form = form_of (code.BASED-type (number g.row.BASED)) in
    rw (c.in-Token.is, token_same form (token c.in-Token.kind c.in-Token.text.now)) c.put_token.ensures
