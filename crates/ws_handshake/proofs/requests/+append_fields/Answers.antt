-- The spans of the first header, and those of the rest, lie in the head.
use Rattle.std.proofs.Common.{rules, All, ◌∷◌, arith, suc}
use Rattle.httparse.specs.Spans.{IsHeaderWithin}
use Rattle.ws_handshake.proofs.requests.+append_fields.Goals as goal

pub of-requires-clause-ordered : goal.of-requires-clause-ordered
of-requires-clause-ordered t c =
    let e = c.in-Some.ensures.cases.0 in
    let a : All (IsHeaderWithin c.args.limit) (c.in-Some.first.now ∷ c.in-Some.rest.now) = rw e at c.requires.within in
    let h : IsHeaderWithin c.args.limit c.in-Some.first.now = a 0 c.in-Some.first.now (omega arith) in
    h.0.0

pub of-requires-clause-in_range : goal.of-requires-clause-in_range
of-requires-clause-in_range t c =
    let e = c.in-Some.ensures.cases.0 in
    let a : All (IsHeaderWithin c.args.limit) (c.in-Some.first.now ∷ c.in-Some.rest.now) = rw e at c.requires.within in
    let h : IsHeaderWithin c.args.limit c.in-Some.first.now = a 0 c.in-Some.first.now (omega arith) in
    let f = c.requires.fits in
    let b = h.0.1 in
    omega arith

pub of-requires-2-clause-ordered : goal.of-requires-2-clause-ordered
of-requires-2-clause-ordered t c =
    let e = c.in-Some.ensures.cases.0 in
    let a : All (IsHeaderWithin c.args.limit) (c.in-Some.first.now ∷ c.in-Some.rest.now) = rw e at c.requires.within in
    let h : IsHeaderWithin c.args.limit c.in-Some.first.now = a 0 c.in-Some.first.now (omega arith) in
    h.1.0

pub of-requires-2-clause-in_range : goal.of-requires-2-clause-in_range
of-requires-2-clause-in_range t c =
    let e = c.in-Some.ensures.cases.0 in
    let a : All (IsHeaderWithin c.args.limit) (c.in-Some.first.now ∷ c.in-Some.rest.now) = rw e at c.requires.within in
    let h : IsHeaderWithin c.args.limit c.in-Some.first.now = a 0 c.in-Some.first.now (omega arith) in
    let f = c.requires.fits in
    let b = h.1.1 in
    omega arith

pub append_fields-requires : goal.append_fields-requires
append_fields-requires t c =
    let e = c.in-Some.ensures.cases.0 in
    let a : All (IsHeaderWithin c.args.limit) (c.in-Some.first.now ∷ c.in-Some.rest.now) = rw e at c.requires.within in
    let r : All (IsHeaderWithin c.args.limit) c.in-Some.rest.now = λ k d l. a (suc k) d (omega arith) in
    (search rules, (c.requires.fits, r))
