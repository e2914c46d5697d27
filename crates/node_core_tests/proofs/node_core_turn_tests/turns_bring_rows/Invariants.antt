use Rattle.node_core_tests.proofs.node_core_turn_tests.turns_bring_rows.Given as goal

-- the steps are counted in the ledger of the blank
abbrev pub ghosts-run : goal.ghosts-run
ghosts-run g a = record { name = a.blank.name; parts = a.blank.parts }
