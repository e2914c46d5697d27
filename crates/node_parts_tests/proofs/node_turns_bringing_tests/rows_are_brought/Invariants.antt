use Rattle.node_parts_tests.proofs.node_turns_bringing_tests.rows_are_brought.Given as goal

-- the steps are counted in the ledger of the blank
abbrev pub ghosts-run : goal.ghosts-run
ghosts-run g a = record { name = a.blank.name; parts = a.blank.parts }
