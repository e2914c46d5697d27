-- The text of the made book is one.
use Rattle.std.proofs.Common.{◌≡◌, refl, ℕ, true}
use Rattle.std.specs.Prelude.{Ok, Err, Result, is_ok}
use Rattle.channel_book.specs.Books.{book_of}
use Rattle.channel_book.specs.Shapes.{Declared, tokens_in, template_in, json_in, cast_in, name_in, flag_in, requires_in, action_in, rules_in, channel_in, channels_in}
use Rattle.channel_book.specs.Paths.{within, list_of}
use Rattle.channel_book.specs.declared.faults.BookFault.{BookFault}
use Rattle.cable_model.specs.Script.{Script}
use Rattle.cable_model.proofs.Cases.{texts}
use Rattle.replay_cli.specs.Made.{made_book, made_script}
use Rattle.replay_cli.specs.Replay.{IsMade}

-- the text declares a book: computed
pub book_is_read : is_ok (book_of made_book) ≡ true
unfolding texts tokens_in template_in json_in cast_in name_in flag_in requires_in action_in rules_in channel_in channels_in within list_of
book_is_read = refl

-- what is read is a book
declared : (r : Result Declared BookFault) → is_ok r ≡ true → (b : Declared) × (r ≡ Ok b)
declared (Ok b) e = (b, refl)
declared (Err f) e = absurd cc

-- so the script of a seed is there, whatever comes of running it
pub any_made : (seed count : ℕ) → (s : Script) × IsMade seed count s
any_made seed count =
    let found = declared (book_of made_book) book_is_read in
    (made_script seed count found.0, record { declares = found.1; made = refl })
