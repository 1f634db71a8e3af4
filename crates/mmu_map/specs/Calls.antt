-- What a list of calls makes of the map, and of each address alone.
use Rattle.std.specs.Prelude.{ℕ, ◌+◌, ◌-◌, ◌*◌, ◌&&◌, nat_le, nat_lt, if◌then◌else◌, List, [], ◌∷◌, Option, Some, None}
use Rattle.mmu_map.specs.Map.{Map, fixed, mapped, freed, IsFreeRun, IsRun}

-- a call that was made: these flash pages were fixed at the address, or mapped there, or as many
-- pages from there on were freed
pub data Call : Type 0 where
  FixedAt : ℕ → ℕ → ℕ → Call
  MappedAt : ℕ → ℕ → ℕ → Call
  FreedAt : ℕ → ℕ → Call

-- the call may be made: the pages are free, or are a run that was mapped
abbrev pub CanMake : Map → Call → Type 0
CanMake m (FixedAt at flash_page n) = IsFreeRun m at n
CanMake m (MappedAt at flash_page n) = IsFreeRun m at n
CanMake m (FreedAt at n) = IsRun m at n

-- the map after the call
abbrev pub after_call : Map → Call → Map
after_call m (FixedAt at flash_page n) = fixed m at flash_page n
after_call m (MappedAt at flash_page n) = mapped m at flash_page n
after_call m (FreedAt at n) = freed m at n

-- the calls may be made one after the other
abbrev pub CanMakeAll : Map → List Call → Type 0
CanMakeAll m [] = Unit {0}
CanMakeAll m (call ∷ calls) = CanMake m call × CanMakeAll (after_call m call) calls

-- the map after them
abbrev pub after_calls : Map → List Call → Map
after_calls m [] = m
after_calls m (call ∷ calls) = after_calls (after_call m call) calls

-- the answer for an address where it lies in so many pages from another one on, else the other
-- answer
abbrev pub within_run : ℕ → ℕ → ℕ → Option ℕ → Option ℕ → Option ℕ
within_run at n a there elsewhere =
    if nat_le at a && nat_lt a (at + n * 65536) then there else elsewhere

-- where an address leads after the call, by where it led before
abbrev pub leads_to : Call → ℕ → Option ℕ → Option ℕ
leads_to (FixedAt at flash_page n) a before =
    within_run at n a (Some (flash_page * 65536 + (a - at))) before
leads_to (MappedAt at flash_page n) a before =
    within_run at n a (Some (flash_page * 65536 + (a - at))) before
leads_to (FreedAt at n) a before = within_run at n a None before

-- where it leads after the calls: by the last of them that is about its page
abbrev pub leads_after : List Call → ℕ → Option ℕ → Option ℕ
leads_after [] a before = before
leads_after (call ∷ calls) a before = leads_after calls a (leads_to call a before)
