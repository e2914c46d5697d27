use Rattle.node_parts_tests.proofs.subscriber_map_tests.holds_of_names.Given as goal

-- the steps are counted in the ledger of the blank
abbrev pub ghosts-run : goal.ghosts-run
ghosts-run g a = record { name = a.blank.name; parts = a.blank.parts }
