-- what was counted and what is still to count are the room of the script
use Rattle.duo_run.proofs.RoomLemmas.{IsCounted}
use Rattle.duo_run.proofs.room.worker_room.Given as goal

abbrev pub invariant-loop-i : goal.invariant-loop-i
invariant-loop-i l = IsCounted l.script l.i l.entries l.bytes
