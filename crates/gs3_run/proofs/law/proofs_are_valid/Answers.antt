use Rattle.gs3_run.proofs.Valid.{written_valid, ends_valid}
use Rattle.gs3_run.proofs.law.proofs_are_valid.Goals as goal

pub returns-clause-written : goal.returns-clause-written
returns-clause-written c = λ problem tree symbols refutes spellable. written_valid problem tree symbols refutes spellable

pub returns-clause-valid : goal.returns-clause-valid
returns-clause-valid c = λ words holds before after old new faults faults' s h ran. ends_valid words holds before after old new faults faults' s h ran
