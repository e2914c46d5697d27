use Rattle.std.proofs.Common.{◌≡◌}
use Rattle.serde_json.specs.View.{members_view}
use Rattle.channel_book.specs.Shapes.{users_in}
use Rattle.channel_book.proofs.Reading.{behind}
use Rattle.channel_book.proofs.shapes.users_in.Given as goal

-- the users so far, and those of the members that are left
abbrev pub invariant-loop-token : goal.invariant-loop-token
invariant-loop-token l = behind l.users (users_in (members_view l.token-iterator)) ≡ users_in (members_view l.members.entries)
