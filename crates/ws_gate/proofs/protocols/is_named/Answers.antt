use Rattle.ws_gate.proofs.Names.{name_found}
use Rattle.ws_gate.proofs.protocols.is_named.Goals as goal

pub returns-in-Some : goal.returns-in-Some
returns-in-Some c =
    name_found c.args.name.now c.args.part.now c.skip_blanks.result.now c.in-Some.rest.now c.are_blank.result c.skip_blanks.ensures c.in-Some.ensures.cases.0 c.in-Some.ensures.cases.1
    c.are_blank.ensures
