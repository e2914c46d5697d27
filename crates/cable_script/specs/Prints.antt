-- A script that is printed and read again.
use Rattle.std.specs.Prelude.{◌≡◌}
use Rattle.cable_model.specs.Printed.{printed}
use Rattle.cable_model.specs.Script.{Script, IsScript, events_of}

-- what is printed of a script is a script of the same book and the same events
pub record PrintsAs (s : Script) : Type 0 where
  pub again : Script
  pub is_script : IsScript (printed s) again
  pub same_book : again.book ≡ s.book
  pub same_events : events_of again ≡ events_of s
