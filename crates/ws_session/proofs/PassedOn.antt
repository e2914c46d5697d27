-- In each round, and in all of them, texts go on in their order.
use Rattle.std.proofs.Common.{◌≡◌, ℕ, Bool, List, [], ◌∷◌, ◌++◌, flat_map, Option, Some, None, Result, Ok, Err, refl, sym, ap, subst, ◌∙◌, append_assoc, inl, inr}
use Rattle.std.proofs.lemmas.List.{append-nil}
use Rattle.cable_base.specs.declared.faults.OutOfMemory.{OutOfMemory}
use Rattle.cable_base.specs.declared.faults.Trouble.{Trouble}
use Rattle.cable_base.specs.declared.numbers.ConnNo.{ConnNo}
use Rattle.cable_link.specs.Links.{Adds, Comes, taken_by}
use Rattle.cable_link.specs.declared.links.Came.{Came}
use Rattle.cable_link.specs.declared.links.Came.TheVariants as came
use Rattle.node_core.specs.declared.arriving.ArriveFault.{ArriveFault}
use Rattle.node_core.specs.declared.arriving.ArriveFault.TheVariants as refusal
use Rattle.conn_seat.specs.declared.outs.Out.{Out}
use Rattle.conn_seat.specs.declared.outs.Out.TheVariants as out
use Rattle.ws_session.specs.declared.outcomes.PumpFault.{PumpFault}
use Rattle.ws_session.specs.declared.outcomes.Pumped.{Pumped}
use Rattle.ws_session.specs.Calls.{Both, Calls, DeskCalls, LinkCalls, Sends}
use Rattle.ws_session.specs.Pumping.{Gets, Hears, Makes, Offer, Passes, Round, SaysAll, SaysEach, SaysSome, kept_after, texts_of}
use Rattle.ws_session.specs.Rounds.{CameFirst, PassesOn, PumpsOn, SaidMore, as_list, came_in, given_in, items_of, said_in, settled_by, settled_in, texts_in}

-- ---- what is offered

-- the text that was got, if it is one
text_got : Came → List (List ℕ)
text_got got = texts_in (taken_by (Ok got))

gets-text : {L : Type 0} (by : LinkCalls L) (kept : Option (List ℕ)) (old : L) (given : Option Came) (got : Came) (new : L)
    → Gets by kept old given got new → as_list kept ++ texts_in (items_of given) ≡ texts_in (taken_by (Ok got))
gets-text by (Some text) old given got new h = ap (λ g. text ∷ texts_in (items_of g)) h.0 ∙ sym (ap (λ c. texts_in (taken_by (Ok c))) h.1)
gets-text by None old given got new h = ap (λ g. texts_in (items_of g)) h.0

answer-settles : (text : List ℕ) (answer : Result (Unit {0}) ArriveFault)
    → text ∷ [] ≡ settled_by (Some (record { text = text; answer = answer })) ++ as_list (kept_after text answer)
answer-settles text (Ok u) = refl
answer-settles text (Err refusal.Unknown) = refl
answer-settles text (Err refusal.Shut) = refl
answer-settles text (Err refusal.TooLong) = refl
answer-settles text (Err refusal.Busy) = refl
answer-settles text (Err refusal.OutOfMemory) = refl

none-settles : (offer : Option Offer) (kept : Option (List ℕ)) → offer ≡ None → kept ≡ None → [] ≡ settled_by offer ++ as_list kept
none-settles offer kept o k = sym (ap (λ x. settled_by x ++ as_list kept) o ∙ ap (λ x. as_list x) k)

passes-settles : {D : Type 0} (by : DeskCalls D) (conn : ConnNo) (old : D) (got : Came) (offer : Option Offer) (kept : Option (List ℕ))
    (goes_on : Result (Unit {0}) OutOfMemory) (new : D)
    → Passes by conn old got offer kept goes_on new → texts_in (taken_by (Ok got)) ≡ settled_by offer ++ as_list kept
passes-settles by conn old (came.Text text) offer kept goes_on new h =
    answer-settles text h.answer ∙ sym (ap (λ o. settled_by o ++ as_list kept) h.offer_is
    ∙ ap (λ k. settled_by (Some (record { text = text; answer = h.answer })) ++ as_list k) h.kept_is)
passes-settles by conn old came.Closed offer kept goes_on new h = none-settles offer kept h.1 h.2
passes-settles by conn old came.Binary offer kept goes_on new h = none-settles offer kept h.1 h.2
passes-settles by conn old came.Quiet offer kept goes_on new h = none-settles offer kept h.1 h.2

hears-offers : {L D : Type 0} (t : Calls L D) (conn : ConnNo) (kept : Option (List ℕ)) (old : Both L D) (r : Round) (got : Came)
    (goes_on : Result (Unit {0}) OutOfMemory) (kept' : Option (List ℕ)) (new : Both L D)
    → Hears t conn kept old r got goes_on kept' new → as_list kept ++ given_in r ≡ settled_in r ++ as_list kept'
hears-offers t conn kept old r got goes_on kept' new h =
    gets-text t.link kept old.link r.given got new.link h.gets ∙ passes-settles t.desk conn old.desk got r.offer kept' goes_on new.desk h.passes

nothing-offered : (r : Round) (kept kept' : Option (List ℕ)) → r ≡ record { given = None; offer = None; outs = []; lost = None } → kept ≡ None → kept' ≡ None
    → as_list kept ++ given_in r ≡ settled_in r ++ as_list kept'
nothing-offered r kept kept' is k k' =
    ap (λ x. as_list x ++ given_in r) k ∙ (ap given_in is ∙ sym (ap (λ x. settled_in x ++ as_list kept') is ∙ ap (λ x. as_list x) k'))

-- ---- what came

came-none : (a b : Option (List Came)) → b ≡ a → CameFirst a [] b
came-none None b is = tt
came-none (Some xs) None is = absurd (let e : None ≡ Some xs = is in cc e)
came-none (Some xs) (Some ys) is = let e : Some ys ≡ Some xs = is in cc e

came-then : (a : Option (List Came)) (xs : List Came) (b : Option (List Came)) (ys : List Came) (c : Option (List Came)) → CameFirst a xs b
    → CameFirst b ys c → CameFirst a (xs ++ ys) c
came-then None xs b ys c h k = tt
came-then (Some u) xs None ys c h k = absurd h
came-then (Some u) xs (Some v) ys None h k = absurd k
came-then (Some u) xs (Some v) ys (Some w) h k = h ∙ (ap (λ zs. xs ++ zs) k ∙ sym (append_assoc xs ys w))

comes-first : (a b : Option (List Came)) (c : Came) → Comes a b (Ok c) → CameFirst a (taken_by (Ok c)) b
comes-first None b c h = tt
comes-first (Some u) None c h = h
comes-first (Some u) (Some v) c h = h

comes-nothing : (a b : Option (List Came)) (e : Trouble) → Comes a b (Err e) → CameFirst a [] b
comes-nothing None b e h = tt
comes-nothing (Some u) None e h = h
comes-nothing (Some u) (Some v) e h = h

gets-came : {L : Type 0} (by : LinkCalls L) (kept : Option (List ℕ)) (old : L) (given : Option Came) (got : Came) (new : L)
    → Gets by kept old given got new → CameFirst (by.coming old) (items_of given) (by.coming new)
gets-came by (Some text) old given got new h = subst (λ g. CameFirst (by.coming old) (items_of g) (by.coming new)) (sym h.0) (came-none
    (by.coming old) (by.coming new) (ap by.coming h.2))
gets-came by None old given got new h = subst (λ g. CameFirst (by.coming old) (items_of g) (by.coming new)) (sym h.0) (comes-first (by.coming old)
    (by.coming new) got h.1.comes)

sends-coming : {L : Type 0} (by : LinkCalls L) (old : L) (o : Out) (new : L) → Sends by old o new → by.coming new ≡ by.coming old
sends-coming by old (out.Text text) new h = h.coming_is
sends-coming by old (out.Note n) new h = ap by.coming h

each-coming : {L D : Type 0} (t : Calls L D) (conn : ConnNo) (old : Both L D) (outs : List Out) (new : Both L D) → SaysEach t conn old outs new
    → t.link.coming new.link ≡ t.link.coming old.link
each-coming {L} {D} t conn old [] new h = ap (λ (b : Both L D). t.link.coming b.link) h
each-coming t conn old (o ∷ outs) new h = each-coming t conn h.0 outs new h.3 ∙ sends-coming t.link old.link o h.0.link h.2

came-still : (a b c : Option (List Came)) (items : List Came) → CameFirst a items b → c ≡ b → CameFirst a items c
came-still a b c items h is = subst (λ x. CameFirst a items x) (sym is) h

-- ---- what was said

said-none : (a b : Option (List (List ℕ))) → b ≡ a → SaidMore a [] b
said-none None b is = tt
said-none (Some xs) None is = absurd (let e : None ≡ Some xs = is in cc e)
said-none (Some xs) (Some ys) is = let e : Some ys ≡ Some xs = is in let same : ys ≡ xs = cc e in same ∙ sym (append-nil xs)

said-then : (a : Option (List (List ℕ))) (xs : List (List ℕ)) (b : Option (List (List ℕ))) (ys : List (List ℕ)) (c : Option (List (List ℕ)))
    → SaidMore a xs b → SaidMore b ys c → SaidMore a (xs ++ ys) c
said-then None xs b ys c h k = tt
said-then (Some u) xs None ys c h k = absurd h
said-then (Some u) xs (Some v) ys None h k = absurd k
said-then (Some u) xs (Some v) ys (Some w) h k = k ∙ (ap (λ zs. zs ++ ys) h ∙ append_assoc u xs ys)

adds-text : (a b : Option (List (List ℕ))) (text : List ℕ) → Adds a b text (Ok tt) → SaidMore a (text ∷ []) b
adds-text None b text h = tt
adds-text (Some u) None text h = h
adds-text (Some u) (Some v) text h = h

adds-nothing : (a b : Option (List (List ℕ))) (text : List ℕ) (e : Trouble) → Adds a b text (Err e) → SaidMore a [] b
adds-nothing None b text e h = tt
adds-nothing (Some u) None text e h = h
adds-nothing (Some u) (Some v) text e h = h

gets-said : {L : Type 0} (by : LinkCalls L) (kept : Option (List ℕ)) (old : L) (given : Option Came) (got : Came) (new : L)
    → Gets by kept old given got new → by.said new ≡ by.said old
gets-said by (Some text) old given got new h = ap by.said h.2
gets-said by None old given got new h = h.1.said_is

each-said : {L D : Type 0} (t : Calls L D) (conn : ConnNo) (old : Both L D) (outs : List Out) (new : Both L D)
    → SaysEach t conn old outs new → SaidMore (t.link.said old.link) (texts_of outs) (t.link.said new.link)
each-said {L} {D} t conn old [] new h = said-none (t.link.said old.link) (t.link.said new.link) (ap (λ (b : Both L D). t.link.said b.link) h)
each-said t conn old (out.Text text ∷ outs) new h =
    said-then (t.link.said old.link) (text ∷ []) (t.link.said h.0.link) (texts_of outs) (t.link.said new.link)
    (adds-text (t.link.said old.link) (t.link.said h.0.link) text h.2.adds) (each-said t conn h.0 outs new h.3)
each-said t conn old (out.Note n ∷ outs) new h =
    subst (λ x. SaidMore x (texts_of outs) (t.link.said new.link)) (ap t.link.said h.2) (each-said t conn h.0 outs new h.3)

said-from : (a b c : Option (List (List ℕ))) (texts : List (List ℕ)) → b ≡ a → SaidMore b texts c → SaidMore a texts c
said-from a b c texts is h = subst (λ x. SaidMore x texts c) is h

said-still : (a b c : Option (List (List ℕ))) (texts : List (List ℕ)) → SaidMore a texts b → c ≡ b → SaidMore a texts c
said-still a b c texts h is = subst (λ x. SaidMore a texts x) (sym is) h

said-nothing : (a b c : Option (List (List ℕ))) (texts : List (List ℕ)) → SaidMore a texts b → SaidMore b [] c → SaidMore a texts c
said-nothing a b c texts h k = subst (λ x. SaidMore a x c) (append-nil texts) (said-then a texts b [] c h k)

-- ---- a round

-- what a round does with texts
pub record RoundPasses {L D : Type 0} (t : Calls L D) (kept : Option (List ℕ)) (old : Both L D) (r : Round) (kept' : Option (List ℕ))
    (new : Both L D) : Type 0 where
  pub came : CameFirst (t.link.coming old.link) (came_in r) (t.link.coming new.link)
  pub offered : as_list kept ++ given_in r ≡ settled_in r ++ as_list kept'
  pub said : SaidMore (t.link.said old.link) (said_in r) (t.link.said new.link)

-- what follows what was heard leaves what is to come
says-behind : {L D : Type 0} (t : Calls L D) (conn : ConnNo) (kept : Option (List ℕ)) (old : Both L D) (r : Round) (got : Came)
    (goes_on : Result (Unit {0}) OutOfMemory) (kept' : Option (List ℕ)) (mid new : Both L D)
    → Hears t conn kept old r got goes_on kept' mid → t.link.coming new.link ≡ t.link.coming mid.link
    → SaidMore (t.link.said mid.link) (said_in r) (t.link.said new.link)
    → RoundPasses t kept old r kept' new
says-behind t conn kept old r got goes_on kept' mid new h coming said = record {
  came = came-still (t.link.coming old.link) (t.link.coming mid.link) (t.link.coming new.link) (came_in r)
      (gets-came t.link kept old.link r.given got mid.link h.gets) coming;
  offered = hears-offers t conn kept old r got goes_on kept' mid h;
  said = said-from (t.link.said old.link) (t.link.said mid.link) (t.link.said new.link) (said_in r)
      (gets-said t.link kept old.link r.given got mid.link h.gets) said;
}

all-said : {L D : Type 0} (t : Calls L D) (conn : ConnNo) (old : Both L D) (outs : List Out) (over : Bool) (new : Both L D)
    → SaysAll t conn old outs over new → (t.link.coming new.link ≡ t.link.coming old.link) × SaidMore (t.link.said old.link) (texts_of outs)
    (t.link.said new.link)
all-said t conn old outs over new s = (
  ap t.link.coming s.link_is ∙ each-coming t conn old outs s.last s.each,
  said-still (t.link.said old.link) (t.link.said s.last.link) (t.link.said new.link) (texts_of outs) (each-said t conn old outs s.last s.each)
      (ap t.link.said s.link_is),
)

some-said : {L D : Type 0} (t : Calls L D) (conn : ConnNo) (old : Both L D) (outs : List Out) (lost : List ℕ) (f : PumpFault) (new : Both L D)
    → SaysSome t conn old outs lost f new → (t.link.coming new.link ≡ t.link.coming old.link) × SaidMore (t.link.said old.link) (texts_of outs)
    (t.link.said new.link)
some-said t conn old outs lost f new s = (
  s.refused.coming_is ∙ each-coming t conn old outs s.last s.each,
  said-nothing (t.link.said old.link) (t.link.said s.last.link) (t.link.said new.link) (texts_of outs) (each-said t conn old outs s.last s.each)
      (adds-nothing (t.link.said s.last.link) (t.link.said new.link) lost s.trouble s.refused.adds),
)

pub round-passes : {L D : Type 0} (t : Calls L D) (conn : ConnNo) (kept : Option (List ℕ)) (old : Both L D) (r : Round)
    (answer : Result Pumped PumpFault) (kept' : Option (List ℕ)) (new : Both L D)
    → Makes t conn kept old r answer kept' new → RoundPasses t kept old r kept' new
round-passes t conn kept old r (Ok p) kept' new m =
    let s = all-said t conn m.mid r.outs m.over new m.says in
    says-behind t conn kept old r m.got (Ok tt) kept' m.mid new m.hears s.0 s.1
round-passes t conn kept old r (Err f) kept' new m =
    elim m [
      | inl a ↦ record {
        came = subst (λ x. CameFirst (t.link.coming old.link) (came_in x) (t.link.coming new.link)) (sym a.round_is)
            (comes-nothing (t.link.coming old.link) (t.link.coming new.link) a.trouble a.refused.comes);
        offered = nothing-offered r kept kept' a.round_is a.none_kept a.kept_is;
        said = subst (λ x. SaidMore (t.link.said old.link) (said_in x) (t.link.said new.link)) (sym a.round_is)
            (said-none (t.link.said old.link) (t.link.said new.link) a.refused.said_is);
      }
      | inr b ↦ elim b [
        | inl d ↦ says-behind t conn kept old r d.got (Err d.wants) kept' new new d.hears refl
            (subst (λ os. SaidMore (t.link.said new.link) (texts_of os) (t.link.said new.link)) (sym d.none_out) (said-none (t.link.said new.link)
            (t.link.said new.link) refl))
        | inr c ↦ elim c [
          | inl s ↦ (let x = some-said t conn s.mid r.outs s.lost f new s.says in says-behind t conn kept old r s.got (Ok tt) kept' s.mid new s.hears x.0 x.1)
          | inr n ↦ says-behind t conn kept old r n.got (Ok tt) kept' n.mid new n.hears (each-coming t conn n.mid r.outs new n.says)
              (each-said t conn n.mid r.outs new n.says)
        ]
      ]
    ]

-- ---- rounds

offered-then : (kept k kept' : Option (List ℕ)) (given settled gs ss : List (List ℕ)) → as_list kept ++ given ≡ settled ++ as_list k
    → as_list k ++ gs ≡ ss ++ as_list kept'
    → as_list kept ++ (given ++ gs) ≡ settled ++ ss ++ as_list kept'
offered-then kept k kept' given settled gs ss h i =
    sym (append_assoc (as_list kept) given gs) ∙ ap (λ xs. xs ++ gs) h ∙ append_assoc settled (as_list k) gs ∙ ap (λ xs. settled ++ xs) i
    ∙ sym (append_assoc settled ss (as_list kept'))

pub rounds-pass : {L D : Type 0} (t : Calls L D) (between : D → D → Type 0) (conn : ConnNo) (kept : Option (List ℕ)) (old : Both L D)
    (rounds : List Round) (kept' : Option (List ℕ)) (new : Both L D)
    → PumpsOn t between conn kept old rounds kept' new → PassesOn t kept old rounds kept' new
rounds-pass t between conn kept old [] kept' new h = record {
  came = came-none (t.link.coming old.link) (t.link.coming new.link) (ap t.link.coming h.1);
  offered = append-nil (as_list kept) ∙ sym (ap as_list h.0);
  said = said-none (t.link.said old.link) (t.link.said new.link) (ap t.link.said h.1);
}
rounds-pass {L} {D} t between conn kept old (r ∷ rs) kept' new h =
    let begun : Both L D = record { link = old.link; desk = h.0 } in
    let one = round-passes t conn kept begun r h.1 h.2 h.3 h.5 in
    let rest = rounds-pass t between conn h.2 h.3 rs kept' new h.6 in
    record {
      came = came-then (t.link.coming old.link) (came_in r) (t.link.coming h.3.link) (flat_map came_in rs) (t.link.coming new.link) one.came rest.came;
      offered = offered-then kept h.2 kept' (given_in r) (settled_in r) (flat_map given_in rs) (flat_map settled_in rs) one.offered rest.offered;
      said = said-then (t.link.said old.link) (said_in r) (t.link.said h.3.link) (flat_map said_in rs) (t.link.said new.link) one.said rest.said;
    }
