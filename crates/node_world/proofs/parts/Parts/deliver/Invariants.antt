use Rattle.node_world.proofs.parts.Parts.deliver.Given as goal

-- the steps are counted in the ledger of the blank
abbrev pub ghosts-deliver_counted : goal.ghosts-deliver_counted
ghosts-deliver_counted a = record { name = a.blank.name; parts = a.blank.parts }
