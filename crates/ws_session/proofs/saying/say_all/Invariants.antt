use Rattle.ws_session.proofs.SaysMore.{SaysSoFar}
use Rattle.ws_session.proofs.saying.say_all.Given as goal

-- as many were taken out and said as were counted
abbrev pub invariant-loop : goal.invariant-loop
invariant-loop g l =
    SaysSoFar
    (record {
      link = record { gives = g.L.Link.gives; says = g.L.Link.says; coming = g.L.Link.coming; said = g.L.Link.said; faults = g.L.Link.faults };
      desk = record { arrives = g.D.Desk.arrives; goes = g.D.Desk.goes; takes_out = g.D.Desk.takes_out; tells_over = g.D.Desk.tells_over };
    })
    l.conn (record { link = l.fn.link; desk = l.fn.desk }) l.any l.counter (record { link = l.link; desk = l.desk })
