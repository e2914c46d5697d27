-- What a callback answered, and what its answers are made of.
use Rattle.std.specs.Prelude.{◌≡◌, ⊤, Result, Ok, Err, All}
use Rattle.channel_book.specs.declared.answers.Answer.{Answer}
use Rattle.channel_book.specs.declared.answers.Cast.{Cast}
use Rattle.channel_book.specs.declared.answers.CallFault.{CallFault}
use Rattle.channel_book.specs.declared.answers.CallFault.TheVariants as fault
use Rattle.cable_base.specs.Squeeze.{IsSqueezedJson}

-- the fault is the one that is expected, unless memory ran out
abbrev pub Faults : {X : Type 0} → CallFault → Result X CallFault → Type 0
Faults fault.BadIdentifier expected = expected ≡ Err fault.BadIdentifier
Faults fault.UnknownChannel expected = expected ≡ Err fault.UnknownChannel
Faults fault.BadData expected = expected ≡ Err fault.BadData
Faults fault.UnknownAction expected = expected ≡ Err fault.UnknownAction
Faults fault.OutOfMemory expected = ⊤

-- a call answered what is expected, unless memory ran out
abbrev pub Gives : {X : Type 0} → Result X CallFault → Result X CallFault → Type 0
Gives (Ok x) expected = expected ≡ Ok x
Gives (Err f) expected = Faults f expected

-- a call answered what is expected, seen by view
abbrev pub GivesBy : {X Y : Type 0} → (X → Y) → Result X CallFault → Result Y CallFault → Type 0
GivesBy view (Ok x) expected = expected ≡ Ok (view x)
GivesBy view (Err f) expected = Faults f expected

-- the says and the payloads are squeezed JSON
pub record SpeaksJson (answer : Answer) : Type 0 where
  pub says : All IsSqueezedJson answer.says
  pub casts : All (λ (c : Cast). IsSqueezedJson c.payload) answer.casts
