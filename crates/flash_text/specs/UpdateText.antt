-- The lines of an update: the legs, what the core beside the driver did in them, how each ended,
-- and what boots.
use Rattle.std.specs.Prelude.{ℕ, ◌-◌, List, [], ◌∷◌, ◌++◌, Option, Some, None, codes, decimal, length}
use Rattle.image_verify.specs.declared.bad.BadImage.{BadImage}
use Rattle.bus_hub.specs.Room.{Kept}
use Rattle.power_cut.specs.declared.legs.Leg.{Leg}
use Rattle.power_cut.specs.declared.legs.LegEnd.{LegEnd}
use Rattle.power_cut.specs.declared.legs.LegEnd.TheVariants.{Done, Device, Cut, FirstByte, Empty, Bad}
use Rattle.power_cut.specs.declared.outcome.Trial.{Trial}
use Rattle.flash_text.specs.TableText.{hex_number}
use Rattle.flash_text.specs.ImageText.{bad_image_text}
use Rattle.flash_text.specs.BootText.{boots_line, steps_line}
use Rattle.flash_text.specs.WorkerText.{AreInside, core_lines}

-- that the bytes are no whole image
unfoldable pub bad_end_text : BadImage → List ℕ
bad_end_text why = codes "refused " ++ bad_image_text why

-- how a leg ended; steps count over the whole update
unfoldable pub end_text : LegEnd → List ℕ
end_text Done = codes "done"
end_text (Device step) = codes "device step " ++ decimal step
end_text (Cut step) = codes "power step " ++ decimal step
end_text (FirstByte byte) = codes "refused first byte" ++ hex_number 2 byte
end_text Empty = codes "refused empty"
end_text (Bad why) = bad_end_text why

-- the line of how a leg ended
unfoldable pub end_line : LegEnd → List ℕ
end_line end = codes "end " ++ end_text end ++ codes "\n"

-- the line of the leg that begins
unfoldable pub phase_line : List ℕ → List ℕ
phase_line name = codes "phase " ++ name ++ codes "\n"

-- the lines behind the actions of a leg: its steps, and how it ended
unfoldable pub leg_lines : Leg → List ℕ
leg_lines leg = steps_line leg.steps ++ end_line leg.end

-- the lines of a core, of a journal
abbrev pub journal_lines : ℕ → Kept → List ℕ
journal_lines core journal = core_lines core journal.bytes journal.entries

-- the same, where there is a journal
abbrev pub lines_in : ℕ → Option Kept → List ℕ
lines_in core None = []
lines_in core (Some journal) = journal_lines core journal

-- the lines of a leg with these of a core
unfoldable pub leg_text : List ℕ → List ℕ → Leg → List ℕ
leg_text name lines leg = phase_line name ++ lines ++ leg_lines leg

-- the lines of the confirmation, where there is one
abbrev pub confirm_lines : ℕ → Option Kept → List Leg → List ℕ
confirm_lines core journal [] = []
confirm_lines core journal (leg ∷ legs) = leg_text (codes "confirm") (lines_in core journal) leg

-- the lines of the boot and of what follows, where there is one
abbrev pub boot_lines : ℕ → Option Kept → List Leg → List ℕ
boot_lines core journal [] = []
boot_lines core journal (leg ∷ legs) =
    leg_text (codes "boot") [] leg ++ confirm_lines core journal legs

-- the lines of all legs: the session, the boot, the confirmation
abbrev pub legs_lines : ℕ → Kept → Option Kept → List Leg → List ℕ
legs_lines core session confirm [] = []
legs_lines core session confirm (leg ∷ legs) =
    leg_text (codes "session") (journal_lines core session) leg ++ boot_lines core confirm legs

-- the lines of an update that this core drove: its legs, and what boots of the flash that is left
unfoldable pub update_text : ℕ → Trial → List ℕ
update_text driver trial =
    legs_lines (1 - driver) trial.session trial.confirm trial.legs.items
    ++ boots_line trial.after.app trial.after.info.length

-- the bytes of each fetch of a journal, where there is one, are in it
abbrev pub IsReadable : Option Kept → Type 0
IsReadable None = Unit {0}
IsReadable (Some journal) = AreInside (length journal.bytes) journal.entries
