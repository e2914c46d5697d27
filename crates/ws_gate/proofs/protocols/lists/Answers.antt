use Rattle.std.proofs.Common.{rules, tests}
use Rattle.std.proofs.lemmas.Iterator.Search.{any_from_yields_List}
use Rattle.std.proofs.lemmas.Iterator.Splits.{YieldsList-from_slice_split}
use Rattle.ws_gate.specs.Protocols.{is_comma, is_named}
use Rattle.ws_gate.proofs.protocols.lists.Goals as goal

pub returns : goal.returns
returns c =
    any_from_yields_List (is_named c.args.name.now) _ _ _ c.any.ensures.ran
    (YieldsList-from_slice_split _ is_comma c.args.header.now c.split.ensures.rest c.split.ensures.done c.split.ensures.closure (λ x r q k. search (rules, tests))) (λ x b q k. search (rules, tests))
