-- What the application answers in a session.
use Rattle.std.specs.Prelude.{ℕ, List, Option, Result}
use Rattle.channel_book.specs.declared.answers.Answer.{Answer}
use Rattle.channel_book.specs.declared.answers.CallFault.{CallFault}

-- the application's side of a session. Each answer is a function of the user and the identifier, and for `perform` of the payload
pub record Callbacks : Type 0 where
  pub identify : (token : List ℕ) → Option (List ℕ)
  pub subscribed : (user identifier : List ℕ) → Result Answer CallFault
  pub unsubscribed : (user identifier : List ℕ) → Result Answer CallFault
  pub perform : (user identifier payload : List ℕ) → Result Answer CallFault
