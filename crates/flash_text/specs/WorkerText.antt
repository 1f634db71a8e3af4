-- The lines of what one core did beside the other, by the entries of a journal.
use Rattle.std.specs.Prelude.{ℕ, ◌==◌, ◌+◌, ◌≤◌, cond, List, [], ◌∷◌, ◌++◌, take, drop, codes, decimal}
use Rattle.pipe_ends.specs.Hex.{hex_text}
use Rattle.core_state.specs.declared.registers.Regs.{Regs}
use Rattle.bus_hub.specs.declared.entry.Why.{Why}
use Rattle.bus_hub.specs.declared.entry.Why.TheVariants as why
use Rattle.bus_hub.specs.declared.entry.Act.{Act}
use Rattle.bus_hub.specs.declared.entry.Act.TheVariants.{Open, Close, Fetch, Set, Mapped, Unmapped, Wrote, Refused}
use Rattle.bus_hub.specs.declared.entry.Entry.{Entry}
use Rattle.flash_text.specs.TableText.{hex_number}

-- why an action was refused, in a word
abbrev pub why_text : Why → List ℕ
why_text why.Unmapped = codes "unmapped"
why_text why.Masked = codes "masked"
why_text why.NoPages = codes "nopages"
why_text why.NotMapped = codes "notmapped"
why_text why.NoLabel = codes "nolabel"
why_text why.Dangerous = codes "dangerous"
why_text why.ReadOnly = codes "readonly"
why_text why.Encrypted = codes "encrypted"
why_text why.Unaligned = codes "unaligned"
why_text why.Range = codes "range"

-- bytes by two hex digits each
abbrev pub bytes_hex : List ℕ → List ℕ
bytes_hex [] = []
bytes_hex (byte ∷ bytes) = hex_text 2 byte ++ bytes_hex bytes

-- the registers in force
unfoldable pub regs_text : Regs → List ℕ
regs_text regs = codes " mask " ++ decimal regs.mask ++ codes " irq" ++ hex_number 8 regs.irq

-- the line of the action of this number, of words
unfoldable pub action_line : ℕ → List ℕ → List ℕ
action_line k text = codes "worker " ++ decimal k ++ text ++ codes "\n"

-- bytes that were fetched from an address
unfoldable pub fetch_text : ℕ → Regs → List ℕ → List ℕ
fetch_text at regs bytes =
    codes " fetch" ++ hex_number 8 at ++ regs_text regs ++ codes " " ++ bytes_hex bytes

-- registers that were set
unfoldable pub set_text : Regs → List ℕ
set_text regs = codes " set" ++ regs_text regs

-- an action that was refused
unfoldable pub refused_text : Why → List ℕ
refused_text reason = codes " refused " ++ why_text reason

-- the line of an entry, of a journal with these bytes; the steps of an action have none
unfoldable pub act_line : List ℕ → ℕ → Regs → Act → List ℕ
act_line bytes k regs (Open erase at len) = []
act_line bytes k regs (Close end) = []
act_line bytes k regs (Fetch at start len) =
    action_line k (fetch_text at regs (take len (drop start bytes)))
act_line bytes k regs Set = action_line k (set_text regs)
act_line bytes k regs (Mapped at) = action_line k (codes " mapped" ++ hex_number 8 at)
act_line bytes k regs (Unmapped at) = action_line k (codes " unmapped" ++ hex_number 8 at)
act_line bytes k regs Wrote = action_line k (codes " done")
act_line bytes k regs (Refused reason) = action_line k (refused_text reason)

-- the line of an entry, where it is of this core
abbrev pub line_of : ℕ → List ℕ → Entry → List ℕ
line_of core bytes entry =
    cond (entry.core == core) (act_line bytes entry.k entry.regs entry.act) []

-- the lines of the entries of a core, of a journal with these bytes
abbrev pub core_lines : ℕ → List ℕ → List Entry → List ℕ
core_lines core bytes [] = []
core_lines core bytes (entry ∷ entries) =
    line_of core bytes entry ++ core_lines core bytes entries

-- the bytes of a fetch are in a journal with so many
abbrev pub IsInside : ℕ → Act → Type 0
IsInside n (Open erase at len) = Unit {0}
IsInside n (Close end) = Unit {0}
IsInside n (Fetch at start len) = start + len ≤ n
IsInside n Set = Unit {0}
IsInside n (Mapped at) = Unit {0}
IsInside n (Unmapped at) = Unit {0}
IsInside n Wrote = Unit {0}
IsInside n (Refused reason) = Unit {0}

-- the bytes of each fetch are in a journal with so many
abbrev pub AreInside : ℕ → List Entry → Type 0
AreInside n [] = Unit {0}
AreInside n (entry ∷ entries) = IsInside n entry.act × AreInside n entries
