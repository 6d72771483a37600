use Rattle.step_book.proofs.tests.two_draws_and_no_third.Given as goal

abbrev pub ghosts-three_draws-N-Ledger : goal.ghosts-three_draws-N-Ledger
ghosts-three_draws-N-Ledger g a = record { name = a.tries.name; parts = a.tries.parts }

abbrev pub ghosts-three_draws-M-Ledger : goal.ghosts-three_draws-M-Ledger
ghosts-three_draws-M-Ledger g a = record { name = a.cap.name; parts = a.cap.parts }
