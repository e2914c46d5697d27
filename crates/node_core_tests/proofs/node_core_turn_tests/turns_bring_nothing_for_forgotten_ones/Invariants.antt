use Rattle.node_core_tests.proofs.node_core_turn_tests.turns_bring_nothing_for_forgotten_ones.Given as goal

-- the steps are counted in the ledger of the blank
abbrev pub ghosts-run_forgetting : goal.ghosts-run_forgetting
ghosts-run_forgetting g a = record { name = a.blank.name; parts = a.blank.parts }
