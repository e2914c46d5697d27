use Rattle.channel_book.proofs.Places.{contained}
use Rattle.channel_book.proofs.names.Indexed.contains.Goals as goal

pub returns : goal.returns
returns g c = rw (c.contains_key.ensures, ← c.self.view_is) (contained g.T.Named.name_of c.self.inside.places c.self.inside.items c.args.name.now c.self.invariant)
