use Rattle.std.proofs.Common.{rules, refl, inl, inr}
use Rattle.worker_gate.proofs.listening.listen_once.Goals as goal

pub returns-in-Err : goal.returns-in-Err
returns-in-Err g c =
    inr
    (inl (
      c.in-Err.turn,
      record {
        turn = c.in-Some.turn;
        between = record { ears = c.ask.new.self; store = c.args.store.now };
        asks = record { asked = (search rules); store_is = refl };
        read = (search rules);
        ears_are = refl;
      },
    ))

pub returns-in-Ok-deliver : goal.returns-in-Ok-deliver
returns-in-Ok-deliver g c =
    record {
      caught = c.in-Ok.caught;
      between = record { ears = c.ask.new.self; store = c.read.new.self };
      reads =
          record {
            turn = c.in-Some.turn;
            between = record { ears = c.ask.new.self; store = c.args.store.now };
            asks = record { asked = (search rules); store_is = refl };
            read = (search rules);
            ears_are = refl;
          };
      delivered = (search rules);
      store_is = refl;
    }

pub returns-in-Err-deliver : goal.returns-in-Err-deliver
returns-in-Err-deliver g c =
    inr
    (inr (
      c.in-Err-deliver.caught,
      record {
        caught = c.in-Ok.caught;
        between = record { ears = c.ask.new.self; store = c.read.new.self };
        reads =
            record {
              turn = c.in-Some.turn;
              between = record { ears = c.ask.new.self; store = c.args.store.now };
              asks = record { asked = (search rules); store_is = refl };
              read = (search rules);
              ears_are = refl;
            };
        delivered = (search rules);
        store_is = refl;
      },
    ))
