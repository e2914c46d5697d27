use Rattle.std.proofs.Common.{ap, ◌∙◌}
use Rattle.channel_book.proofs.Places.{stood, is_before}
use Rattle.channel_book.proofs.names.Indexed.stood_before.Goals as goal

pub returns-in-Some : goal.returns-in-Some
returns-in-Some g c = rw (← c.self.view_is) (ap (is_before c.args.place) c.in-Some.ensures.value ∙ stood g.T.Named.name_of c.self.inside.places c.self.inside.items c.args.name.now c.args.place c.self.invariant)

pub returns-in-None : goal.returns-in-None
returns-in-None g c = rw (← c.self.view_is) (ap (is_before c.args.place) c.in-None.ensures.value ∙ stood g.T.Named.name_of c.self.inside.places c.self.inside.items c.args.name.now c.args.place c.self.invariant)
