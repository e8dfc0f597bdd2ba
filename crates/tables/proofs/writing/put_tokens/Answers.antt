-- `tables::writing::put_tokens` meets its contract. Assumes nothing.
use lib.ListN.{get_or}
use Rattle.lines.specs.Texts.{tokens_of, token_of}
use Rattle.lines.proofs.words.Tokens.{kind_below}
use Rattle.tape.proofs.walk.Loops.{coming_begins}
use Rattle.tables.specs.Writing.{token_bytes, tokens_bytes}
use Rattle.tables.proofs.writing.Putting.{next_room, put_more, put_all}
use Rattle.tables.proofs.writing.put_tokens.Goals as goal

pub loop-w-init : goal.loop-w-init
loop-w-init c = coming_begins (tokens_bytes (tokens_of c.args.texts.now c.args.ws.now)) c.requires.ws_in_bounds

pub put_token-requires : goal.put_token-requires
put_token-requires c = let l = c.loop-w in
    rw (c.kind.ensures, c.text.ensures) (
      kind_below (get_or c.args.ws.now l.w-index 0),
      next_room (token_of c.args.texts.now) token_bytes c.args.ws.now l.invariant 0 c.loop-w-test.true,
    )

pub loop-w-preserved : goal.loop-w-preserved
loop-w-preserved c = let l = c.loop-w in
    put_more (token_of c.args.texts.now) token_bytes c.args.ws.now l.invariant 0 c.loop-w-test.true
    (rw (c.kind.ensures, c.text.ensures) at c.put_token.ensures)

pub returns : goal.returns
returns c = put_all (token_of c.args.texts.now) token_bytes c.args.ws.now c.loop-w.invariant c.loop-w-test.false
