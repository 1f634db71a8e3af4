-- What each event of a core does to what is safe for that core and for the other one.
use Rattle.std.proofs.Common.{◌≡◌, ◌≢◌, ℕ, ◌+◌, ◌≤◌, Option, Some, None, arith}
use Rattle.std.specs.Prelude.{IsSome, IsNone}
use Rattle.core_state.specs.declared.registers.Regs.{Regs}
use Rattle.core_state.specs.declared.registers.Record.{Record}
use Rattle.core_state.specs.Registers.{saved_and_masked, restored}
use Rattle.duo_machine.specs.declared.machine.Gate.{Gate}
use Rattle.duo_machine.specs.declared.machine.Gate.TheVariants.{Rest as AtRest, Run, Asked, Parked as AtParked, Freed, Held}
use Rattle.duo_machine.specs.declared.machine.Phase.{Phase}
use Rattle.duo_machine.specs.declared.machine.Phase.TheVariants.{Resting, Running, Owning, Asking, Quiet, Parked}
use Rattle.duo_machine.specs.Machine.{KeepsAway, let_go}
use Rattle.duo_machine.specs.Safe.{SafeAt}
use Rattle.duo_machine.specs.Table.{IsAwake}

-- what is safe for a core and for the other one
abbrev pub SafeForBoth :
    ℕ → ℕ → ℕ → Gate → Gate → Phase → Phase → Record → Record → Option ℕ → Type 0
SafeForBoth c o lock gate gate' phase phase' registers registers' running =
    SafeAt c lock gate phase phase' registers running
    × SafeAt o lock gate' phase' phase registers' running

module _ {c o lock : ℕ} {gate gate' : Gate} {phase phase' : Phase}
    {registers registers' : Record} {running : Option ℕ}
    (apart : c + o ≡ 1)
    (mine : SafeAt c lock gate phase phase' registers running)
    (theirs : SafeAt o lock gate' phase' phase registers' running)
  where
    -- a core that rests begins to run
    pub start : phase ≡ Resting → gate ≡ AtRest
        → SafeForBoth c o lock Run gate' Running phase' registers registers' running
    start at b = (grind arith, grind arith)

    -- a masked core that runs goes to rest
    pub rest : phase ≡ Running → IsSome registers.saved → gate ≡ Run
        → SafeForBoth c o lock AtRest gate' Resting phase' registers registers' running
    rest at b h = (grind arith, grind arith)

    -- a running core takes a free lock
    pub take : phase ≡ Running → lock ≡ 0
        → SafeForBoth c o (c + 1) gate gate' Owning phase' registers registers' running
    take at b = (grind arith, grind arith)

    -- an owner gives the lock back
    pub give : phase ≡ Owning → IsNone registers.saved → lock ≡ c + 1
        → SafeForBoth c o 0 gate gate' Running phase' registers registers' running
    give at b h = (grind arith, grind arith)

    -- a core that is awake saves its registers
    pub save : IsAwake phase → IsNone registers.saved
        → SafeForBoth c o lock gate gate' phase phase' (saved_and_masked registers) registers'
        running
    save at b = (grind arith, theirs)

    -- a core that is awake puts its registers back
    pub back : IsAwake phase → IsSome registers.saved
        → SafeForBoth c o lock gate gate' phase phase' (restored registers) registers' running
    back at b = (grind arith, theirs)

    -- an owner holds the other core at rest
    pub hold : phase ≡ Owning → IsSome registers.saved → gate' ≡ AtRest
        → SafeForBoth c o lock gate Held Quiet phase' registers registers' running
    hold at b h = (grind arith, grind arith)

    -- an owner asks the other core to park
    pub ask : phase ≡ Owning → IsSome registers.saved → gate' ≡ Run
        → SafeForBoth c o lock gate Asked Asking phase' registers registers' running
    ask at b h = (grind arith, grind arith)

    -- a masked core parks as it was asked
    pub park : phase ≡ Running → IsSome registers.saved → gate ≡ Asked
        → SafeForBoth c o lock AtParked gate' Parked phase' registers registers' running
    park at b h = (grind arith, grind arith)

    -- a core that asked sees the other one parked
    pub see : phase ≡ Asking → gate' ≡ AtParked
        → SafeForBoth c o lock gate gate' Quiet phase' registers registers' running
    see at b = (grind arith, grind arith)

    -- a quiet core begins a step
    pub begin : phase ≡ Quiet → running ≢ Some c
        → SafeForBoth c o lock gate gate' phase phase' registers registers' (Some c)
    begin at b = (grind arith, grind arith)

    -- a quiet core ends its step
    pub done : phase ≡ Quiet → running ≡ Some c
        → SafeForBoth c o lock gate gate' phase phase' registers registers' None
    done at b = (grind arith, grind arith)

    -- a quiet core with no step lets the other one go
    pub end : phase ≡ Quiet → running ≢ Some c → KeepsAway gate'
        → SafeForBoth c o lock gate (let_go gate') Owning phase' registers registers' running
    end at b h = (grind arith, grind arith)

    -- a freed core runs again
    pub leave : phase ≡ Parked → gate ≡ Freed
        → SafeForBoth c o lock Run gate' Running phase' registers registers' running
    leave at b = (grind arith, grind arith)

    -- a running core sets its registers
    pub set_own : (wanted : Regs) → phase ≡ Running → IsNone registers.saved → wanted.mask ≤ 3
        → SafeForBoth c o lock gate gate' phase phase' (record registers { regs = wanted })
        registers' running
    set_own wanted at b h = (grind arith, theirs)
