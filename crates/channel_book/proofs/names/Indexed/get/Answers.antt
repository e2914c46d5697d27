use Rattle.std.proofs.Common.{sym, ◌∙◌, ap}
use Rattle.std.specs.Prelude.{slice_get}
use Rattle.channel_book.proofs.Places.{looked_up, looked_up_none}
use Rattle.channel_book.proofs.names.Indexed.get.Goals as goal

pub returns-in-Some : goal.returns-in-Some
returns-in-Some g c =
    rw (← c.self.view_is)
    (c.item_at.ensures ∙ ap (λ (xs : _). slice_get xs c.in-Some.place.now) c.as_slice.ensures ∙ looked_up g.T.Named.name_of c.self.inside.places c.self.inside.items c.args.name.now c.in-Some.place.now c.self.invariant (sym c.in-Some.ensures.value))

pub returns-in-None : goal.returns-in-None
returns-in-None g c = rw (← c.self.view_is) (sym (looked_up_none g.T.Named.name_of c.self.inside.places c.self.inside.items c.args.name.now c.self.invariant (sym c.in-None.ensures.value)))
