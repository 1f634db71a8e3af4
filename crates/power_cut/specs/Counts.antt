-- How many steps were begun.
use Rattle.std.specs.Prelude.{ℕ, ◌+◌, List, [], ◌∷◌}
use Rattle.bus_hub.specs.declared.did.Did.{Did}
use Rattle.bus_hub.specs.declared.did.Did.TheVariants.{Opened, Closed, Broken, Fetched, Noted, Denied, Mapping, Unmapping, Missed, Masked, Unfetched}

-- by an item
abbrev pub opened_by : Did → ℕ
opened_by (Opened k regs step) = 1
opened_by (Closed k regs) = 0
opened_by (Broken k regs why left) = 0
opened_by (Fetched k regs at bytes) = 0
opened_by (Noted k regs act) = 0
opened_by (Denied why) = 0
opened_by (Mapping flash_page n space answer) = 0
opened_by (Unmapping at answer) = 0
opened_by (Missed at len) = 0
opened_by (Masked at len) = 0
opened_by (Unfetched at len why) = 0

-- in a share, or in a whole log
abbrev pub opened_in : List Did → ℕ
opened_in [] = 0
opened_in (did ∷ share) = opened_by did + opened_in share
