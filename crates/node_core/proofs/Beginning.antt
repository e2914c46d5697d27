-- A log begins with a Boot whatever is cut.
use Rattle.std.proofs.Common.{List, [], ◌∷◌, ap}
use Rattle.cable_base.specs.declared.numbers.ConnNo.{ConnNo}
use Rattle.cable_model.specs.declared.journals.Entry.{Entry}
use Rattle.node_log.specs.Logs.{left_of}
use Rattle.node_core.specs.Journals.{BeginsWithBoot}

pub begins-cut : (c : ConnNo) (log : List Entry) → BeginsWithBoot log → BeginsWithBoot (left_of (c ∷ []) log)
begins-cut c log b = (b.0, left_of (c ∷ []) b.1, ap (left_of (c ∷ [])) b.2)
