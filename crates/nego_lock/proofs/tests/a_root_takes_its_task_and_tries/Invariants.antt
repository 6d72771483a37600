use Rattle.std.proofs.Common.{Some}
use Rattle.nego_lock.proofs.tests.a_root_takes_its_task_and_tries.Given as goal

abbrev pub ghosts-two_visits-K-SetKey : goal.ghosts-two_visits-K-SetKey
ghosts-two_visits-K-SetKey g a = record { sets = Some a.field.now.tree }

abbrev pub ghosts-two_visits-N-Ledger : goal.ghosts-two_visits-N-Ledger
ghosts-two_visits-N-Ledger g a = record { name = a.tries.name; parts = a.tries.parts }

abbrev pub ghosts-two_visits-M-Ledger : goal.ghosts-two_visits-M-Ledger
ghosts-two_visits-M-Ledger g a = record { name = a.cap.name; parts = a.cap.parts }

abbrev pub ghosts-handed_back : goal.ghosts-handed_back
ghosts-handed_back g a = record { sets = Some a.field.now.tree }
