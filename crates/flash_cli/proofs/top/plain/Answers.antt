use mathlib.Core.Logic.{inl}
use Rattle.std.proofs.Common.{refl, subst}
use Rattle.flash_cli.specs.Status.{IsWork}
use Rattle.flash_cli.proofs.OutcomeLemmas.{commands_puts, is_work, no_device, nothing_done}
use Rattle.flash_cli.proofs.top.plain.Goals as goal

-- the work ended before a file was put
pub returns-in-Err-clause-unput : goal.returns-in-Err-clause-unput
returns-in-Err-clause-unput g c = λ _. nothing_done _ _ _ _ c.work.ensures.same

-- the work ran out of memory
pub returns-in-Err-clause-memory : goal.returns-in-Err-clause-memory
returns-in-Err-clause-memory g c = λ _. inl (nothing_done _ _ _ _ c.work.ensures.same)

-- only a command puts files
pub returns-in-Err-put_files-clause-command : goal.returns-in-Err-put_files-clause-command
returns-in-Err-put_files-clause-command g c = λ _.
    commands_puts _ _ _ c.in-Ok.finished.answer.puts.items c.in-Ok.ensures.ok refl
    (rw c.deref.ensures.value at c.in-Err-put_files.ensures.some)

-- a call whose text was pushed has a status of the work
pub returns-in-Ok-push-clause-unput : goal.returns-in-Ok-push-clause-unput
returns-in-Ok-push-clause-unput g c = λ is. absurd (subst IsWork is (is_work _ _ _ c.in-Ok.ensures.ok))

pub returns-in-Ok-push-clause-store_fault : goal.returns-in-Ok-push-clause-store_fault
returns-in-Ok-push-clause-store_fault g c = λ is. absurd (subst IsWork is (is_work _ _ _ c.in-Ok.ensures.ok))

pub returns-in-Ok-push-clause-sink_fault : goal.returns-in-Ok-push-clause-sink_fault
returns-in-Ok-push-clause-sink_fault g c = λ is. absurd (subst IsWork is (is_work _ _ _ c.in-Ok.ensures.ok))

pub returns-in-Ok-push-clause-no_device : goal.returns-in-Ok-push-clause-no_device
returns-in-Ok-push-clause-no_device g c = no_device _ (is_work _ _ _ c.in-Ok.ensures.ok)

pub returns-in-Ok-push-clause-command : goal.returns-in-Ok-push-clause-command
returns-in-Ok-push-clause-command g c = λ is. absurd (subst IsWork is (is_work _ _ _ c.in-Ok.ensures.ok))
