use Rattle.std.proofs.Common.{refl}
use Rattle.conn_seat.proofs.Struck.{strikes-none, strikes-stopped, strikes-removed, strikes-all}
use Rattle.conn_seat.proofs.striking.strike.Goals as goal

pub returns-in-Nothing : goal.returns-in-Nothing
returns-in-Nothing c = rw c.in-Nothing.is (strikes-none _ _ _ (λ p. refl) refl)

pub returns-in-Add : goal.returns-in-Add
returns-in-Add c = rw c.in-Add.is (strikes-none _ _ _ (λ p. refl) refl)

pub returns-in-Streams : goal.returns-in-Streams
returns-in-Streams c = rw (c.in-Streams.is, ← c.as_str.ensures, ← c.as_slice.ensures) (strikes-stopped _ _ _ _ _ _ c.strike_stops.ensures)

pub returns-in-Remove : goal.returns-in-Remove
returns-in-Remove c = rw (c.in-Remove.is, ← c.as_str-in-Remove.ensures) (strikes-removed _ _ _ _ c.strike_removed.ensures)

pub returns-in-Close : goal.returns-in-Close
returns-in-Close c = rw c.in-Close.is (strikes-all _ _ _ c.drop_waiting.ensures)
