-- Callbacks that always answer have answered what each plan is made of. The callbacks of a book are such.
use Rattle.std.proofs.Common.{◌≡◌, ℕ, List, [], ◌∷◌, Option, Some, None, Result, Err}
use Rattle.std.specs.List.{AllByRecursion}
use Rattle.channel_book.specs.declared.answers.CallFault.{CallFault}
use Rattle.channel_book.specs.declared.answers.CallFault.TheVariants as fault
use Rattle.channel_book.specs.Steps.{◌>>=◌, or_fault}
use Rattle.channel_book.specs.Shapes.{Declared}
use Rattle.channel_book.specs.Answers.{identifier_of, channel_among, object_of, action_among}
use Rattle.cable_model.specs.declared.plans.Task.{Task}
use Rattle.cable_model.specs.declared.plans.Task.TheVariants as task
use Rattle.cable_model.specs.Plans.{Callbacks, IsAnswer, AlwaysAnswer, IsAnswered}
use Rattle.channel_book.specs.Answers.{callbacks_of}

all-left : (c : Callbacks) (user : List ℕ) → AlwaysAnswer c → (identifiers : List (List ℕ))
    → AllByRecursion (λ (identifier : List ℕ). IsAnswer (c.unsubscribed user identifier)) identifiers
all-left c user a [] = tt
all-left c user a (identifier ∷ identifiers) = (a.unsubscribed user identifier, all-left c user a identifiers)

pub always-answered : (c : Callbacks) → AlwaysAnswer c → (user : List ℕ) (t : Task) → IsAnswered c user t
always-answered c a user (task.Subscribe identifier) = (a.subscribed user identifier, λ rejected. a.unsubscribed user identifier)
always-answered c a user (task.Unsubscribe identifier) = a.unsubscribed user identifier
always-answered c a user (task.Perform identifier payload streams) = a.perform user identifier payload
always-answered c a user (task.Close how identifiers) = all-left c user a identifiers
always-answered c a user _ = tt

-- a step whose own fault is no want of memory
no-memory : {A B : Type 0} (why : CallFault) (o : Option A) (rest : A → Result B CallFault) → ¬ (why ≡ fault.OutOfMemory)
    → ((x : A) → ¬ (rest x ≡ Err fault.OutOfMemory))
    → ¬ ((or_fault why o >>= rest) ≡ Err fault.OutOfMemory)
no-memory why None rest n r h = n (cc (h))
no-memory why (Some x) rest n r h = r x h

pub books-answer : (book : Declared) → AlwaysAnswer (callbacks_of book)
books-answer book =
    record {
      subscribed = λ user text.
          no-memory fault.BadIdentifier (identifier_of text) _ (λ e. cc (e)) (λ identifier.
          no-memory fault.UnknownChannel (channel_among book.channels identifier) _ (λ e. cc (e)) (λ channel e. cc (e)));
      unsubscribed = λ user text.
          no-memory fault.BadIdentifier (identifier_of text) _ (λ e. cc (e)) (λ identifier.
          no-memory fault.UnknownChannel (channel_among book.channels identifier) _ (λ e. cc (e)) (λ channel e. cc (e)));
      perform = λ user text payload.
          no-memory fault.BadIdentifier (identifier_of text) _ (λ e. cc (e)) (λ identifier.
          no-memory fault.UnknownChannel (channel_among book.channels identifier) _ (λ e. cc (e)) (λ channel.
          no-memory fault.BadData (object_of payload) _ (λ e. cc (e)) (λ asked.
          no-memory fault.UnknownAction (action_among channel.rules.actions asked) _ (λ e. cc (e)) (λ action e. cc (e)))));
    }
