use Rattle.node_parts_tests.proofs.node_turns_bringing_tests.holds_cost_no_steps.Given as goal

-- the steps are counted in the ledger of the blank
abbrev pub ghosts-run_counted : goal.ghosts-run_counted
ghosts-run_counted g a = record { name = a.blank.name; parts = a.blank.parts }
