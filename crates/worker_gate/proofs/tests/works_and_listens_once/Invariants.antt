use Rattle.worker_gate.proofs.tests.works_and_listens_once.Given as goal

-- the steps are counted in the ledger of the blank
abbrev pub ghosts-run : goal.ghosts-run
ghosts-run g a = record { name = a.blank.name; parts = a.blank.parts }
