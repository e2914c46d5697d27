-- Where nothing fails a script is replayed whole, and other bytes are refused with their first break.
use Rattle.std.proofs.Common.{◌≡◌, ◌⊎◌, ◌↔◌, inl, inr, ℕ, ◌≤◌, List, ◌++◌, length, Option, None, Some, refl, sym, ap, subst, ◌∙◌, arith, append-nil, length-append}
use Rattle.std.specs.Io.KnownBytes.{Consumes, IsAtEnd}
use Rattle.cable_model.specs.declared.statuses.Status.{Status}
use Rattle.cable_model.specs.declared.statuses.Status.TheVariants as status
use Rattle.cable_model.specs.Breaks.{GoodLines, BreaksIn, FirstBreak}
use Rattle.cable_model.specs.Script.{Script, IsScript}
use Rattle.replay_cli.specs.declared.modes.Mode.{Mode}
use Rattle.replay_cli.specs.declared.modes.Order.{Order}
use Rattle.replay_cli.specs.declared.modes.Order.TheVariants as order
use Rattle.replay_cli.specs.Inputs.{Reading}
use Rattle.replay_cli.specs.Modes.{order_of}
use Rattle.replay_cli.specs.Replay.{Call, Broke, Refused, ReadOutcome, MadeOutcome, OutcomeFor, Outcome, NothingFailed, Tells, IsComplete}

-- what a source that told its bytes gave is the beginning of them
gave_front : (left left' : Option (List ℕ)) (all given : List ℕ) → left ≡ Some all → Consumes left left' given → (more : List ℕ) × (given ++ more ≡ all)
gave_front (Some xs) (Some ys) all given e c = let same : xs ≡ all = cc in (ys, sym c ∙ same)
gave_front (Some xs) None all given e c = absurd c
gave_front None left' all given e c = absurd cc

-- and all of them, where it was read to its end
gave_all : (left left' : Option (List ℕ)) (all given : List ℕ) → left ≡ Some all → Consumes left left' given → IsAtEnd left' → given ≡ all
gave_all (Some xs) (Some ys) all given e c end = let same : xs ≡ all = cc in sym (append-nil given) ∙ ap (λ (t : List ℕ). given ++ t) (sym end) ∙ sym c ∙ same
gave_all (Some xs) None all given e c end = absurd c
gave_all None left' all given e c end = absurd cc

-- so no more than all
gave_few : (left left' : Option (List ℕ)) (all given : List ℕ) → left ≡ Some all → Consumes left left' given → length given ≤ length all
gave_few left left' all given e c = let front = gave_front left left' all given e c in omega (arith, length-append given front.0, ap length front.1)

module _ (stays : (bytes more : List ℕ) (a : GoodLines) (s : Status) → BreaksIn bytes a s → BreaksIn (bytes ++ more) a s)
    (scripts : (bytes : List ℕ) (a : GoodLines) (s : Status) (script : Script) → FirstBreak bytes a s → IsScript bytes script → ⊥)
    (one : (bytes : List ℕ) (a b : GoodLines) (s t : Status) → FirstBreak bytes a s → FirstBreak bytes b t → s ≡ t) where
  -- the first break of what was given is the first of all
  broke_all : (r : Reading) (all given : List ℕ) (lines : GoodLines) (s : Status) → r.left ≡ Some all → Broke r given lines s → FirstBreak all lines s
  broke_all r all given lines s e (inl b) =
      let front = gave_front r.left r.left_behind all given e b.0.gave in
      inl (subst (λ (xs : List ℕ). BreaksIn xs lines s) front.1 (stays given front.0 lines s b.1))
  broke_all r all given lines s e (inr b) =
      subst (λ (xs : List ℕ). FirstBreak xs lines s) (gave_all r.left r.left_behind all given e b.0.gave.gave b.0.nothing_left) (inr b.1)

  -- a script isn't refused
  no_refusal : (c : Call) (m : Mode) (s : Status) (all : List ℕ) (script : Script) → Tells c all → IsScript all script → Refused m c s → ⊥
  no_refusal c m s all script t is o = scripts all o.1 s script (broke_all c.source all o.0 o.1 s t.left o.2.0) is

  -- the source that tells few bytes doesn't give many
  no_flood : (c : Call) (m : Mode) (all : List ℕ) → Tells c all → ReadOutcome m status.TooMuch c → ⊥
  no_flood c m all t o =
      let few = gave_few c.source.left c.source.left_behind all (o.0 ++ o.1) t.left o.3.0 in
      let most = t.few in
      let many = o.3.2 in
      omega arith

  -- a script is replayed whole
  whole : (m : Mode) (s : Status) (c : Call) → ReadOutcome m s c → NothingFailed c → (all : List ℕ) → Tells c all → (script : Script) → IsScript all script
      → (s ≡ status.Ok) ⊎ (s ≡ status.OutOfMemory)
  whole m status.Ok c o n all t script is = inl refl
  whole m (status.BadScript line why) c o n all t script is = absurd (no_refusal c m (status.BadScript line why) all script t is o)
  whole m (status.BadBook fault) c o n all t script is = absurd (no_refusal c m (status.BadBook fault) all script t is o)
  whole m status.Unended c o n all t script is = absurd (no_refusal c m status.Unended all script t is o)
  whole m (status.TooLong line) c o n all t script is = absurd (no_refusal c m (status.TooLong line) all script t is o)
  whole m status.ReadFault c o n all t script is = absurd (n.read o.2.2)
  whole m status.TooMuch c o n all t script is = absurd (no_flood c m all t o)
  whole m status.WriteFault c o n all t script is = absurd (n.wrote o.0)
  whole m status.OutOfMemory c o n all t script is = inr refl
  whole m s c o n all t script is = absurd o

  -- the break that is told is the first of all
  same_break : (c : Call) (m : Mode) (s : Status) (all : List ℕ) (lines : GoodLines) (b : Status) → Tells c all → FirstBreak all lines b → Refused m c s
      → (s ≡ b) ⊎ (s ≡ status.OutOfMemory)
  same_break c m s all lines b t is o = inl (one all o.1 lines s b (broke_all c.source all o.0 o.1 s t.left o.2.0) is)

  -- other bytes are refused with their first break
  broken : (m : Mode) (s : Status) (c : Call) → ReadOutcome m s c → NothingFailed c → (all : List ℕ) → Tells c all
      → (lines : GoodLines) (b : Status) → FirstBreak all lines b → (s ≡ b) ⊎ (s ≡ status.OutOfMemory)
  broken m status.Ok c o n all t lines b is =
      let same = gave_all c.source.left c.source.left_behind all o.0 t.left o.2.0.gave.gave o.2.0.nothing_left in
      absurd (scripts all lines b o.1 is (subst (λ (xs : List ℕ). IsScript xs o.1) same o.2.1))
  broken m (status.BadScript line why) c o n all t lines b is = same_break c m (status.BadScript line why) all lines b t is o
  broken m (status.BadBook fault) c o n all t lines b is = same_break c m (status.BadBook fault) all lines b t is o
  broken m status.Unended c o n all t lines b is = same_break c m status.Unended all lines b t is o
  broken m (status.TooLong line) c o n all t lines b is = same_break c m (status.TooLong line) all lines b t is o
  broken m status.ReadFault c o n all t lines b is = absurd (n.read o.2.2)
  broken m status.TooMuch c o n all t lines b is = absurd (no_flood c m all t o)
  broken m status.WriteFault c o n all t lines b is = absurd (n.wrote o.0)
  broken m status.OutOfMemory c o n all t lines b is = inr refl
  broken m s c o n all t lines b is = absurd o

  -- a made script is run
  made : (seed count : ℕ) (s : Status) (c : Call) → MadeOutcome seed count s c → NothingFailed c → (s ≡ status.Ok) ⊎ (s ≡ status.OutOfMemory)
  made seed count status.Ok c o n = inl refl
  made seed count status.OutOfMemory c o n = inr refl
  made seed count status.WriteFault c o n = absurd (n.wrote o.2.4)
  made seed count s c o n = absurd o

  -- what words that ask for the script of the source came to
  read_outcome : (o : Option Order) (m : Mode) (s : Status) (c : Call) → o ≡ Some (order.Read m) → OutcomeFor o s c → ReadOutcome m s c
  read_outcome o m s c e p = rw e at p

  -- what words that ask for a made script came to
  made_outcome : (o : Option Order) (seed count : ℕ) (s : Status) (c : Call) → o ≡ Some (order.Make seed count) → OutcomeFor o s c → MadeOutcome seed count s c
  made_outcome o seed count s c e p = rw e at p

  -- so each call is complete
  complete : (s : Status) (c : Call) → Outcome s c → IsComplete s c
  complete s c o = record {
    whole = λ n m e all t script is. whole m s c (read_outcome (order_of c.words) m s c e o) n all t script is;
    broken = λ n m e all t lines b is. broken m s c (read_outcome (order_of c.words) m s c e o) n all t lines b is;
    made = λ n seed count e. made seed count s c (made_outcome (order_of c.words) seed count s c e o) n;
  }

  pub complete_read : (m : Mode) (s : Status) (c : Call) → order_of c.words ≡ Some (order.Read m) → ReadOutcome m s c → IsComplete s c
  complete_read m s c e o = complete s c (rw e o)

-- words that ask for a script are good usage
pub read_usage : (o : Option Order) (m : Mode) (s : Status) (c : Call) → o ≡ Some (order.Read m) → ReadOutcome m s c → (s ≡ status.Usage) ↔ (o ≡ None)
read_usage o m s c e p = (λ is. absurd (rw is at p), λ none. absurd cc)
