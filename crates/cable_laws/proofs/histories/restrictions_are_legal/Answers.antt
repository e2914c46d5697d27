use Rattle.cable_model.proofs.Restricting.{legal_restrictions}
use Rattle.cable_model.proofs.TableLegal.{legal-table}
use Rattle.cable_laws.proofs.histories.restrictions_are_legal.Goals as goal

pub returns : goal.returns
returns c = record { all = legal_restrictions; table = legal-table }
