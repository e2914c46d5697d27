use Rattle.ws_handshake.proofs.Heads.{ruled}
use Rattle.ws_handshake.proofs.replies.reply_to_request.Goals as goal

pub returns-in-Ok-request_of : goal.returns-in-Ok-request_of
returns-in-Ok-request_of c =
    ruled c.args.head.now c.args.spans.now c.args.found.now c.in-Ok.accept_key c.in-Ok-request_of.request c.args.rules.now c.ruled.result
    c.requires.parsed c.if-found-head.false c.in-Ok.ensures c.in-Ok-request_of.ensures c.ruled.ensures
