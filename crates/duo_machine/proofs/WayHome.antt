-- A way home from each safe machine: each core that neither asks nor is quiet goes home by itself, and
-- a core that asks or is quiet comes to that first.
use Rattle.std.proofs.Common.{◌≡◌, ◌≢◌, ℕ, zero, suc, ◌+◌, ◌≤◌, ◌<◌, ◌∙◌, inl, inr, ◌⊎◌, Bool, true, false, [], ◌∷◌, Option, Some, None, arith, refl}
use Rattle.std.specs.Prelude.{IsSome, IsNone, if◌then◌else◌}
use Rattle.core_state.specs.declared.registers.Regs.{Regs}
use Rattle.core_state.specs.declared.registers.Record.{Record}
use Rattle.core_state.specs.Registers.{restored}
use Rattle.duo_machine.specs.declared.machine.Gate.{Gate}
use Rattle.duo_machine.specs.declared.machine.Gate.TheVariants.{Rest as AtRest, Run, Parked as AtParked, Freed}
use Rattle.duo_machine.specs.declared.machine.Phase.{Phase}
use Rattle.duo_machine.specs.declared.machine.Phase.TheVariants.{Resting, Running, Owning, Asking, Quiet, Parked}
use Rattle.duo_machine.specs.declared.machine.Machine.{Machine}
use Rattle.duo_machine.specs.declared.events.Kind.{Kind}
use Rattle.duo_machine.specs.declared.events.Kind.TheVariants.{Start, Give, Save, Back, Park, See, Done, End, Leave, Set}
use Rattle.duo_machine.specs.declared.events.Event.{Event}
use Rattle.duo_machine.specs.Machine.{own_of}
use Rattle.duo_machine.specs.Safe.{SafeAt, Safe}
use Rattle.duo_machine.specs.Table.{Allows, changed, after}
use Rattle.duo_machine.specs.Runs.{set_by}
use Rattle.duo_machine.specs.WaysOut.{BeginsNothing, IsWindingUp, WindsUp, IsHome, HasWayHome}
use Rattle.duo_machine.proofs.StepKeeps.{of_two, by_two, event_keeps_safe}
use Rattle.duo_machine.proofs.RunLemmas.{none_saved, event_keeps_own}
use Rattle.duo_machine.proofs.Waits.{no_event, in_front, at_most, saved_or_none, runs_or_not, asking_is_saved}

-- an event that begins nothing new sets no registers
pub nothing_set : (b : Bool) (kind : Kind) (own : Regs) → BeginsNothing kind
    → (if b then set_by kind own else own) ≡ own
nothing_set false kind own nothing = refl
nothing_set true (Set wanted) own nothing = absurd nothing
nothing_set true kind own nothing = refl

-- an event that winds up begins nothing new
pub begins_nothing : (m : Machine) (c : ℕ) (kind : Kind) → IsWindingUp m c kind → BeginsNothing kind
begins_nothing m c Save w = tt
begins_nothing m c Back w = tt
begins_nothing m c kind w = w

-- so it leaves each core's own registers as they were
pub winding_keeps_own : (m : Machine) (e : Event) → Safe m → WindsUp m e → (d : ℕ) → d < 2
    → own_of (after m e) d ≡ own_of m d
winding_keeps_own m e safe w d small =
    event_keeps_own m e d w.core small safe.two_cores w.can
    ∙ nothing_set _ e.kind (own_of m d) (begins_nothing m e.core e.kind w.winds_up)

-- an event that winds up, in front of a way home
go : {most : ℕ} (m : Machine) (c : ℕ) (kind : Kind) → c < 2 → IsWindingUp m c kind → Safe m
    → Allows m c kind → (Safe (changed m c kind) → HasWayHome most (changed m c kind))
    → HasWayHome (suc most) m
go m c kind core winds_up safe can rest =
    let e : Event = record { core = c; kind = kind } in
    let w : WindsUp m e = record { core = core; can = can; winds_up = winds_up } in
    let home = rest (event_keeps_safe m e core safe can) in
    record {
      way = e ∷ home.way;
      is_way_out = in_front e w home.is_way_out;
      home = record {
        cores = λ d small. let there = home.home.cores d small in record {
          phase = there.phase;
          gate = there.gate;
          none_saved = there.none_saved;
          in_force = there.in_force ∙ winding_keeps_own m e safe w d small;
        };
        keeps_own = λ d small. home.home.keeps_own d small ∙ winding_keeps_own m e safe w d small;
        free = home.home.free;
        idle = home.home.idle;
      };
    }

-- a way of few events is one of at most more
more : {few most : ℕ} {m : Machine} → few ≤ most → HasWayHome few m → HasWayHome most m
more below home = record {
  way = home.way;
  is_way_out = at_most below home.is_way_out;
  home = home.home;
}

-- a core in this phase neither asks nor is quiet
abbrev pub IsCalm : Phase → Type 0
IsCalm phase = (phase ≢ Quiet) × (phase ≢ Asking)

-- a core is quiet, or asks, or does neither
pub calm_or_not : (phase : Phase) → (phase ≡ Quiet) ⊎ (phase ≡ Asking) ⊎ IsCalm phase
calm_or_not Resting = inr (inr ((λ is. absurd (cc)), (λ is. absurd (cc))))
calm_or_not Running = inr (inr ((λ is. absurd (cc)), (λ is. absurd (cc))))
calm_or_not Owning = inr (inr ((λ is. absurd (cc)), (λ is. absurd (cc))))
calm_or_not Asking = inr (inl refl)
calm_or_not Quiet = inl refl
calm_or_not Parked = inr (inr ((λ is. absurd (cc)), (λ is. absurd (cc))))

-- a core is home, as its gate, its phase and its record say
pub record AtHome (gate : Gate) (phase : Phase) (registers : Record) : Type 0 where
  pub phase_is : phase ≡ Running
  pub gate_is : gate ≡ Run
  pub none : IsNone registers.saved

-- what a core may be in that goes home by itself
abbrev pub GoesHome : ℕ → ℕ → Gate → Phase → Record → Type 0
GoesHome c lock gate phase registers =
    ((phase ≡ Resting) × (gate ≡ AtRest) × IsSome registers.saved)
    ⊎ ((phase ≡ Parked) × (gate ≡ Freed) × IsSome registers.saved)
    ⊎ ((phase ≡ Running) × (gate ≡ Run))
    ⊎ ((phase ≡ Owning) × (gate ≡ Run) × (lock ≡ c + 1))

module _ {c o lock : ℕ} {gate gate' : Gate} {phase phase' : Phase}
    {registers registers' : Record} {running : Option ℕ}
    (apart : c + o ≡ 1)
    (mine : SafeAt c lock gate phase phase' registers running)
    (theirs : SafeAt o lock gate' phase' phase registers' running)
  where
    -- a core goes home by itself where neither core asks or is quiet
    pub goes_home : IsCalm phase → IsCalm phase' → GoesHome c lock gate phase registers
    goes_home calm calm' = by_phase phase refl
      where
        by_phase : (p : Phase) → phase ≡ p → GoesHome c lock gate phase registers
        by_phase Resting is = inl (is, grind arith, grind arith)
        by_phase Running is = inr (inr (inl (is, grind arith)))
        by_phase Owning is = inr (inr (inr (is, grind arith, grind arith)))
        by_phase Asking is = absurd (calm.1 is)
        by_phase Quiet is = absurd (calm.0 is)
        by_phase Parked is = inr (inl (is, grind arith, grind arith))

    -- beside a quiet core the other one is calm
    calm_beside_quiet : phase ≡ Quiet → IsCalm phase'
    calm_beside_quiet quiet = ((λ is. absurd (grind arith)), (λ is. absurd (grind arith)))

    -- where both cores are home, the lock is free and no step runs
    home_is_free : phase ≡ Running → phase' ≡ Running → (lock ≡ 0) × (running ≡ None)
    home_is_free runs runs' = (grind arith, grind arith)

-- where both cores are home the machine is
pub at_home : {lock : ℕ} {gate gate' : Gate} {phase phase' : Phase} {registers registers' : Record}
    {running : Option ℕ} → Safe (of_two lock gate gate' phase phase' registers registers' running)
    → AtHome gate phase registers → AtHome gate' phase' registers'
    → IsHome (of_two lock gate gate' phase phase' registers registers' running) (of_two lock gate gate' phase phase' registers registers' running)
at_home {registers = registers} {registers' = registers'} safe home home' =
    let still = home_is_free refl safe.zero_safe safe.one_safe home.phase_is home'.phase_is in
    record {
      cores = elim [
        | zero ↦ λ small. record {
          phase = home.phase_is;
          gate = home.gate_is;
          none_saved = home.none;
          in_force = none_saved registers home.none;
        }
        | suc zero ↦ λ small. record {
          phase = home'.phase_is;
          gate = home'.gate_is;
          none_saved = home'.none;
          in_force = none_saved registers' home'.none;
        }
        | suc (suc c) ↦ λ small. absurd (omega arith)
      ];
      keeps_own = λ c small. refl;
      free = still.0;
      idle = still.1;
    }

-- then no event is needed
arrived : {lock : ℕ} {gate gate' : Gate} {phase phase' : Phase} {registers registers' : Record}
    {running : Option ℕ} → Safe (of_two lock gate gate' phase phase' registers registers' running)
    → AtHome gate phase registers → AtHome gate' phase' registers'
    → HasWayHome 0 (of_two lock gate gate' phase phase' registers registers' running)
arrived safe home home' = record {
  way = [];
  is_way_out = no_event;
  home = at_home safe home home';
}

-- core 0 goes home by itself
zero_goes : {most lock : ℕ} {gate gate' : Gate} {phase phase' : Phase} {registers registers' : Record}
    {running : Option ℕ} → Safe (of_two lock gate gate' phase phase' registers registers' running)
    → GoesHome 0 lock gate phase registers
    → ((lock' : ℕ) (gate'' : Gate) (phase'' : Phase) (registers'' : Record)
    → Safe (of_two lock' gate'' gate' phase'' phase' registers'' registers' running)
    → AtHome gate'' phase'' registers''
    → HasWayHome most (of_two lock' gate'' gate' phase'' phase' registers'' registers' running))
    → HasWayHome (suc (suc most)) (of_two lock gate gate' phase phase' registers registers' running)
zero_goes {most = most} {lock = lock} {gate = gate} {gate' = gate'} {phase = phase} {phase' = phase'}
    {registers = registers} {registers' = registers'} safe goes rest =
    elim goes [
      | inl rests ↦
          go _ 0 Start (omega arith) tt safe (rests.0, rests.1)
          (λ safe. go _ 0 Back (omega arith) (λ is. absurd (cc)) safe (inl refl, rests.2)
          (λ safe. rest lock Run Running (restored registers) safe
          (record { phase_is = refl; gate_is = refl; none = refl })))
      | inr (inl parked) ↦
          go _ 0 Leave (omega arith) tt safe (parked.0, parked.1)
          (λ safe. go _ 0 Back (omega arith) (λ is. absurd (cc)) safe (inl refl, parked.2)
          (λ safe. rest lock Run Running (restored registers) safe
          (record { phase_is = refl; gate_is = refl; none = refl })))
      | inr (inr (inl runs)) ↦ elim (saved_or_none registers.saved) [
        | inl saved ↦
            more {few = suc most} (omega arith) (go _ 0 Back (omega arith) (λ is. absurd (cc)) safe (inl runs.0, saved)
            (λ safe. rest lock gate phase (restored registers) safe
            (record { phase_is = runs.0; gate_is = runs.1; none = refl })))
        | inr none ↦
            more {few = most} (omega arith) (rest lock gate phase registers safe
            (record { phase_is = runs.0; gate_is = runs.1; none = none }))
      ]
      | inr (inr (inr owns)) ↦ elim (saved_or_none registers.saved) [
        | inl saved ↦
            go _ 0 Back (omega arith) (λ is. absurd (cc)) safe (inr owns.0, saved)
            (λ safe. go _ 0 Give (omega arith) tt safe (owns.0, refl, owns.2)
            (λ safe. rest 0 gate Running (restored registers) safe
            (record { phase_is = refl; gate_is = owns.1; none = refl })))
        | inr none ↦
            more {few = suc most} (omega arith) (go _ 0 Give (omega arith) tt safe
            (owns.0, none, owns.2)
            (λ safe. rest 0 gate Running registers safe
            (record { phase_is = refl; gate_is = owns.1; none = none })))
      ]
    ]

-- core 1 goes home by itself
one_goes : {most lock : ℕ} {gate gate' : Gate} {phase phase' : Phase} {registers registers' : Record}
    {running : Option ℕ} → Safe (of_two lock gate gate' phase phase' registers registers' running)
    → GoesHome 1 lock gate' phase' registers'
    → ((lock' : ℕ) (gate'' : Gate) (phase'' : Phase) (registers'' : Record)
    → Safe (of_two lock' gate gate'' phase phase'' registers registers'' running)
    → AtHome gate'' phase'' registers''
    → HasWayHome most (of_two lock' gate gate'' phase phase'' registers registers'' running))
    → HasWayHome (suc (suc most)) (of_two lock gate gate' phase phase' registers registers' running)
one_goes {most = most} {lock = lock} {gate = gate} {gate' = gate'} {phase = phase} {phase' = phase'}
    {registers = registers} {registers' = registers'} safe goes rest =
    elim goes [
      | inl rests ↦
          go _ 1 Start (omega arith) tt safe (rests.0, rests.1)
          (λ safe. go _ 1 Back (omega arith) (λ is. absurd (cc)) safe (inl refl, rests.2)
          (λ safe. rest lock Run Running (restored registers') safe
          (record { phase_is = refl; gate_is = refl; none = refl })))
      | inr (inl parked) ↦
          go _ 1 Leave (omega arith) tt safe (parked.0, parked.1)
          (λ safe. go _ 1 Back (omega arith) (λ is. absurd (cc)) safe (inl refl, parked.2)
          (λ safe. rest lock Run Running (restored registers') safe
          (record { phase_is = refl; gate_is = refl; none = refl })))
      | inr (inr (inl runs)) ↦ elim (saved_or_none registers'.saved) [
        | inl saved ↦
            more {few = suc most} (omega arith) (go _ 1 Back (omega arith) (λ is. absurd (cc)) safe (inl runs.0, saved)
            (λ safe. rest lock gate' phase' (restored registers') safe
            (record { phase_is = runs.0; gate_is = runs.1; none = refl })))
        | inr none ↦
            more {few = most} (omega arith) (rest lock gate' phase' registers' safe
            (record { phase_is = runs.0; gate_is = runs.1; none = none }))
      ]
      | inr (inr (inr owns)) ↦ elim (saved_or_none registers'.saved) [
        | inl saved ↦
            go _ 1 Back (omega arith) (λ is. absurd (cc)) safe (inr owns.0, saved)
            (λ safe. go _ 1 Give (omega arith) tt safe (owns.0, refl, owns.2)
            (λ safe. rest 0 gate' Running (restored registers') safe
            (record { phase_is = refl; gate_is = owns.1; none = refl })))
        | inr none ↦
            more {few = suc most} (omega arith) (go _ 1 Give (omega arith) tt safe
            (owns.0, none, owns.2)
            (λ safe. rest 0 gate' Running registers' safe
            (record { phase_is = refl; gate_is = owns.1; none = none })))
      ]
    ]

-- where neither core asks or is quiet, core 0 goes home, and then core 1
both_go : {lock : ℕ} {gate gate' : Gate} {phase phase' : Phase} {registers registers' : Record}
    {running : Option ℕ} → Safe (of_two lock gate gate' phase phase' registers registers' running) → IsCalm phase → IsCalm phase'
    → HasWayHome 4 (of_two lock gate gate' phase phase' registers registers' running)
both_go safe calm calm' =
    zero_goes safe (goes_home refl safe.zero_safe safe.one_safe calm calm')
    (λ lock gate phase registers safe home.
    one_goes safe (goes_home refl safe.one_safe safe.zero_safe calm' (runs_calm home.phase_is))
    (λ lock gate phase registers safe home'. arrived safe home home'))
  where
    runs_calm : {phase : Phase} → phase ≡ Running → IsCalm phase
    runs_calm is = ((λ quiet. absurd (cc)), (λ asks. absurd (cc)))

-- an owner neither asks nor is quiet
owning_calm : IsCalm Owning
owning_calm = ((λ is. absurd (cc)), (λ is. absurd (cc)))

-- core 0 is quiet and runs no step: it lets the other core go
zero_quiet : {lock : ℕ} {gate gate' : Gate} {phase phase' : Phase} {registers registers' : Record}
    {running : Option ℕ} → Safe (of_two lock gate gate' phase phase' registers registers' running) → phase ≡ Quiet → running ≢ Some 0
    → HasWayHome 5 (of_two lock gate gate' phase phase' registers registers' running)
zero_quiet safe quiet idle =
    let beside = calm_beside_quiet refl safe.zero_safe safe.one_safe quiet in
    go _ 0 End (omega arith) tt safe (quiet, idle, safe.one_safe.gate_has_reason.quiet quiet)
    (λ safe. both_go safe owning_calm beside)

-- core 0 is quiet: where its step runs, that ends first
zero_ends : {lock : ℕ} {gate gate' : Gate} {phase phase' : Phase} {registers registers' : Record}
    {running : Option ℕ} → Safe (of_two lock gate gate' phase phase' registers registers' running) → phase ≡ Quiet
    → HasWayHome 6 (of_two lock gate gate' phase phase' registers registers' running)
zero_ends {running = running} safe quiet = elim (runs_or_not 0 running) [
  | inl runs ↦
      go _ 0 Done (omega arith) tt safe (quiet, runs)
      (λ safe. zero_quiet safe quiet (λ is. absurd (cc)))
  | inr idle ↦ more (omega arith) (zero_quiet safe quiet idle)
]

-- core 0 asks and the other core is parked: it sees that
zero_sees : {lock : ℕ} {gate gate' : Gate} {phase phase' : Phase} {registers registers' : Record}
    {running : Option ℕ} → Safe (of_two lock gate gate' phase phase' registers registers' running) → phase ≡ Asking → gate' ≡ AtParked
    → HasWayHome 6 (of_two lock gate gate' phase phase' registers registers' running)
zero_sees safe asks parked =
    let idle = (asking_is_saved refl safe.one_safe safe.zero_safe asks).1 in
    go _ 0 See (omega arith) tt safe (asks, parked) (λ safe. zero_quiet safe refl idle)

-- core 0 asks: where the other core is not parked, it saves its registers and parks
zero_asks : {lock : ℕ} {gate gate' : Gate} {phase phase' : Phase} {registers registers' : Record}
    {running : Option ℕ} → Safe (of_two lock gate gate' phase phase' registers registers' running) → phase ≡ Asking
    → HasWayHome 8 (of_two lock gate gate' phase phase' registers registers' running)
zero_asks {registers = registers} {registers' = registers'} safe asks =
    elim (safe.one_safe.gate_has_reason.asking asks) [
      | inl asked ↦
          let runs = safe.one_safe.gate_fits.asked asked in
          elim (saved_or_none registers'.saved) [
            | inl saved ↦
                more {few = 7} (omega arith) (go _ 1 Park (omega arith) tt safe (runs, saved, asked)
                (λ safe. zero_sees safe asks refl))
            | inr none ↦
                go _ 1 Save (omega arith) asked safe (inl runs, none)
                (λ safe. go _ 1 Park (omega arith) tt safe (runs, refl, asked)
                (λ safe. zero_sees safe asks refl))
          ]
      | inr parked ↦ more {few = 6} (omega arith) (zero_sees safe asks parked)
    ]

-- core 1 is quiet and runs no step: it lets the other core go
one_quiet : {lock : ℕ} {gate gate' : Gate} {phase phase' : Phase} {registers registers' : Record}
    {running : Option ℕ} → Safe (of_two lock gate gate' phase phase' registers registers' running) → phase' ≡ Quiet → running ≢ Some 1
    → HasWayHome 5 (of_two lock gate gate' phase phase' registers registers' running)
one_quiet safe quiet idle =
    let beside = calm_beside_quiet refl safe.one_safe safe.zero_safe quiet in
    go _ 1 End (omega arith) tt safe (quiet, idle, safe.zero_safe.gate_has_reason.quiet quiet)
    (λ safe. both_go safe beside owning_calm)

-- core 1 is quiet: where its step runs, that ends first
one_ends : {lock : ℕ} {gate gate' : Gate} {phase phase' : Phase} {registers registers' : Record}
    {running : Option ℕ} → Safe (of_two lock gate gate' phase phase' registers registers' running) → phase' ≡ Quiet
    → HasWayHome 6 (of_two lock gate gate' phase phase' registers registers' running)
one_ends {running = running} safe quiet = elim (runs_or_not 1 running) [
  | inl runs ↦
      go _ 1 Done (omega arith) tt safe (quiet, runs)
      (λ safe. one_quiet safe quiet (λ is. absurd (cc)))
  | inr idle ↦ more (omega arith) (one_quiet safe quiet idle)
]

-- core 1 asks and the other core is parked: it sees that
one_sees : {lock : ℕ} {gate gate' : Gate} {phase phase' : Phase} {registers registers' : Record}
    {running : Option ℕ} → Safe (of_two lock gate gate' phase phase' registers registers' running) → phase' ≡ Asking → gate ≡ AtParked
    → HasWayHome 6 (of_two lock gate gate' phase phase' registers registers' running)
one_sees safe asks parked =
    let idle = (asking_is_saved refl safe.zero_safe safe.one_safe asks).1 in
    go _ 1 See (omega arith) tt safe (asks, parked) (λ safe. one_quiet safe refl idle)

-- core 1 asks: where the other core is not parked, it saves its registers and parks
one_asks : {lock : ℕ} {gate gate' : Gate} {phase phase' : Phase} {registers registers' : Record}
    {running : Option ℕ} → Safe (of_two lock gate gate' phase phase' registers registers' running) → phase' ≡ Asking
    → HasWayHome 8 (of_two lock gate gate' phase phase' registers registers' running)
one_asks {registers = registers} {registers' = registers'} safe asks =
    elim (safe.zero_safe.gate_has_reason.asking asks) [
      | inl asked ↦
          let runs = safe.zero_safe.gate_fits.asked asked in
          elim (saved_or_none registers.saved) [
            | inl saved ↦
                more {few = 7} (omega arith) (go _ 0 Park (omega arith) tt safe (runs, saved, asked)
                (λ safe. one_sees safe asks refl))
            | inr none ↦
                go _ 0 Save (omega arith) asked safe (inl runs, none)
                (λ safe. go _ 0 Park (omega arith) tt safe (runs, refl, asked)
                (λ safe. one_sees safe asks refl))
          ]
      | inr parked ↦ more {few = 6} (omega arith) (one_sees safe asks parked)
    ]

-- by what each core does
home_of_two : (lock : ℕ) (gate gate' : Gate) (phase phase' : Phase) (registers registers' : Record)
    (running : Option ℕ) → Safe (of_two lock gate gate' phase phase' registers registers' running)
    → HasWayHome 8 (of_two lock gate gate' phase phase' registers registers' running)
home_of_two lock gate gate' phase phase' registers registers' running safe =
    elim (calm_or_not phase) [
      | inl quiet ↦ more {few = 6} (omega arith) (zero_ends safe quiet)
      | inr (inl asks) ↦ zero_asks safe asks
      | inr (inr calm) ↦ elim (calm_or_not phase') [
        | inl quiet ↦ more {few = 6} (omega arith) (one_ends safe quiet)
        | inr (inl asks) ↦ one_asks safe asks
        | inr (inr calm') ↦ more {few = 4} (omega arith) (both_go safe calm calm')
      ]
    ]

-- from every safe machine at most eight events lead home
pub way_home : (m : Machine) → Safe m → HasWayHome 8 m
way_home m safe = by_two (λ m. Safe m → HasWayHome 8 m) home_of_two m safe.two_cores safe
