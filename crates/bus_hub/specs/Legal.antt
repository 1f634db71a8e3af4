-- Which journals can be: a step's end only behind its begin, and nothing in between.
use Rattle.std.specs.Prelude.{◌≡◌, ℕ, ◌<◌, List, [], ◌∷◌, Option, Some, None}
use Rattle.bus_hub.specs.declared.entry.Act.{Act}
use Rattle.bus_hub.specs.declared.entry.Act.TheVariants.{Open, Close, Fetch, Set, Mapped, Unmapped, Wrote, Refused}
use Rattle.bus_hub.specs.declared.entry.Entry.{Entry}

-- the entry of a core may stand where a step of this core is open, or none
abbrev pub MayStand : ℕ → Act → Option ℕ → Type 0
MayStand core (Open erase at len) o = o ≡ None
MayStand core (Close end) o = o ≡ Some core
MayStand core (Fetch at start len) o = o ≡ None
MayStand core Set o = o ≡ None
MayStand core (Mapped at) o = o ≡ None
MayStand core (Unmapped at) o = o ≡ None
MayStand core Wrote o = o ≡ None
MayStand core (Refused why) o = o ≡ None

-- the core whose step is open behind it
abbrev pub core_after : ℕ → Act → Option ℕ
core_after core (Open erase at len) = Some core
core_after core (Close end) = None
core_after core (Fetch at start len) = None
core_after core Set = None
core_after core (Mapped at) = None
core_after core (Unmapped at) = None
core_after core Wrote = None
core_after core (Refused why) = None

-- each entry of core 0 or 1 may stand where it does, from an open step or none to one or none
abbrev pub LegalTo : Option ℕ → List Entry → Option ℕ → Type 0
LegalTo o [] p = o ≡ p
LegalTo o (e ∷ entries) p =
    (e.core < 2) × MayStand e.core e.act o × LegalTo (core_after e.core e.act) entries p

-- the same from the first entry on, and no step is open at the end
abbrev pub IsLegal : List Entry → Type 0
IsLegal entries = LegalTo None entries None
