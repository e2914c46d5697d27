use Rattle.cable_laws.proofs.Differing.{all-differ}
use Rattle.cable_laws.proofs.streams.streams_and_identifiers_differ.Goals as goal

pub returns : goal.returns
returns c = all-differ
