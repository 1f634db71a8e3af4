-- Where a leg begins: its duty is good, and both cores can do what they are to.
use Rattle.std.proofs.Common.{◌≡◌, ◌≢◌, inl, inr, ℕ, zero, suc, ◌+◌, ◌*◌, ◌^◌, ◌<◌, ◌≤◌, List, [], length, take, drop, Option, Some, None, IfSome, refl, sym, ap, subst, ◌∙◌, arith}
use Rattle.std.specs.Int.{IsBitSet}
use Rattle.std.proofs.lemmas.List.{length-take-le, length-drop}
use Rattle.core_state.specs.Registers.{reset}
use Rattle.atomic_table.specs.Seated.{TableId}
use Rattle.nor_device.specs.FlashSize.{IsFlashSize}
use Rattle.nor_device.specs.Ram.{Ram}
use Rattle.crash_images.specs.declared.cut.CutSetting.{CutSetting}
use Rattle.crash_images.specs.Cut.{CutDevice}
use Rattle.partition_table.specs.declared.app.App.TheVariants.{Ota}
use Rattle.partition_table.specs.declared.row.Row.{Row}
use Rattle.partition_table.specs.Rules.{FitsFlash}
use Rattle.partition_table.specs.Layout.{IsPlaced, Places}
use Rattle.otadata.specs.Entry.{entry_bytes, entry_of}
use Rattle.otadata.proofs.EntryLemmas.{length-entry_bytes}
use Rattle.otadata.proofs.ChoiceLemmas.{active-lt}
use Rattle.rollback.specs.declared.rewrite.Rewrite.{Rewrite}
use Rattle.boot_select.specs.Boots.{entries_in}
use Rattle.image_layout.specs.declared.space.Space.{Space}
use Rattle.image_layout.specs.declared.space.Space.TheVariants.{Data, Code}
use Rattle.image_verify.specs.declared.info.SegmentNote.{SegmentNote}
use Rattle.mmu_map.specs.Map.{Map}
use Rattle.bus_hub.specs.declared.did.Base.{Base}
use Rattle.bus_hub.specs.declared.did.Did.{Did}
use Rattle.bus_hub.specs.declared.journal.Room.{Room}
use Rattle.bus_hub.specs.Fetch.{IsFixed, bit_of, space_at}
use Rattle.cache_gate.specs.Own.{HasRoomIn, IsFirst, Own}
use Rattle.core_script.specs.declared.action.Action.{Action}
use Rattle.update_steps.proofs.DataLemmas.{aligned_row}
use Rattle.update_steps.proofs.TableLemmas.{layout_placed, table_fits}
use Rattle.flash_ops.specs.Asked.{CanLook}
use Rattle.flash_ops.specs.Moves.{steps_of}
use Rattle.ota_session.specs.Course.{Confirm, Confirms, Course, Grants, Install, IsFor, IsGood, Purpose, course_from, part_after, part_of, steps_for}
use Rattle.ota_session.proofs.MoveLemmas.{steps_of_entry}
use Rattle.ota_session.proofs.OpeningLemmas.{opening_good}
use Rattle.ota_session.proofs.PartLemmas.{other_may}
use Rattle.ota_session.proofs.SessionLemmas.{steps_of_session}
use Rattle.duo_run.specs.Both.{CanRunBoth, MayBegin, base_with, leg_base, rooms_of}
use Rattle.duo_run.specs.Jobs.{CanDrive, IsAsLong, driver_room, length_for, most_moves_for, moves_for}
use Rattle.duo_run.specs.Pages.{AreInPlace, application_pages, probe_in}
use Rattle.duo_run.specs.Room.{bytes_in_all, entries_in_all, worker_room}
use Rattle.duo_run.specs.Worker.{worker_steps}
use Rattle.duo_run.specs.Works.{CanWork}
use Rattle.duo_run.proofs.DriverRoomLemmas.{NeedsAtMost, entry_needs, session_needs}
use Rattle.duo_run.proofs.OpenLemmas.{script_inside}
use Rattle.duo_run.proofs.PageLemmas.{probe_is_fixed}

-- ---- sizes

pub largest : (n : ℕ) → IsFlashSize n → n ≤ 2 ^ 25
largest n (inl is) = omega arith
largest n (inr (inl is)) = omega arith
largest n (inr (inr (inl is))) = omega arith
largest n (inr (inr (inr (inl is)))) = omega arith
largest n (inr (inr (inr (inr (inl is))))) = omega arith
largest n (inr (inr (inr (inr (inr is))))) = omega arith

-- an image has the length that its aim is for
as_long : (layout : Places) (first : List ℕ) (purpose : Purpose) → IsFor layout first purpose
    → IsAsLong purpose
as_long layout first (Install aim image) for = for.opens.length_is
as_long layout first (Confirm write) for = tt

-- and it fits its slot, which ends in the first 16 MiB
short : (layout : Places) (first : List ℕ) (purpose : Purpose) → IsFor layout first purpose
    → length_for purpose ≤ 2 ^ 24
short layout first (Install aim image) for =
    let begins = for.opens.begins in
    let low = for.opens.placed.low (Ota aim.slot) begins.row begins.row_is in
    let fits = begins.fits in
    let long = for.opens.length_is in
    omega arith
short layout first (Confirm write) for = omega arith

-- ---- room

-- the label of an entry in a flash has 20 bytes
label_of : (flash : List ℕ) (at : ℕ) → at + 32 ≤ length flash
    → length (entry_of (take 32 (drop at flash))).label ≡ 20
unfolding entry_of
label_of flash at inside =
    let dropped = length-drop at flash in
    let long = length-take-le 32 (drop at flash) (omega arith) in
    let rest = length-drop 4 (take 32 (drop at flash)) in
    length-take-le 20 (drop 4 (take 32 (drop at flash))) (omega arith)

-- an entry that is confirmed has 32 bytes
confirm_long : (layout : Places) (first : List ℕ) (write : Rewrite)
    → IsPlaced layout (length first) → Confirms layout first write
    → length (entry_bytes write.entry) ≡ 32
confirm_long layout first write placed is =
    let es = entries_in layout first in
    let two : is.sector < 2 = subst (λ (o : Option ℕ). IfSome o (λ number. number < 2)) is.active
    (active-lt (es 0) (es 1)) in
    let inside = placed.inside in
    let label = label_of first (layout.otadata + 4096 * is.sector) (omega arith) in
    let same : length write.entry.label ≡ length (es is.sector).label =
    ap (λ (w : Rewrite). length w.entry.label) is.is in
    let long = length-entry_bytes write.entry in omega arith

needed : (layout : Places) (first : List ℕ) (purpose : Purpose) (probe : Option ℕ)
    → IsPlaced layout (length first) → IsFor layout first purpose
    → NeedsAtMost (driver_room (length_for purpose)).entries
    (driver_room (length_for purpose)).bytes
    (most_moves_for layout purpose probe)
needed layout first (Install aim image) probe placed for =
    let begins = for.opens.begins in
    let sectors = aligned_row (length first) begins.row
    (for.opens.placed.stands (Ota aim.slot) begins.row begins.row_is) in
    let at = sectors.0 in
    let label = for.opens.stored.sized.label in
    let long = length-entry_bytes aim.next.entry in
    session_needs layout aim probe image begins.row begins.row_is for.opens.length_is placed.aligned
    (omega arith) (omega arith)
needed layout first (Confirm write) probe placed for =
    entry_needs probe layout.otadata write placed.aligned
    (confirm_long layout first write placed for)

-- the steps of the moves are those that the job is for
pub moves_steps : (layout : Places) (first : List ℕ) (purpose : Purpose) (probe : Option ℕ)
    → IsPlaced layout (length first) → IsFor layout first purpose
    → steps_of (moves_for layout purpose probe) ≡ steps_for layout purpose
moves_steps layout first (Install aim image) probe placed for =
    let label = for.opens.stored.sized.label in
    let long = length-entry_bytes aim.next.entry in
    steps_of_session layout aim probe placed.aligned (omega arith) image for.opens.length_is
moves_steps layout first (Confirm write) probe placed for =
    steps_of_entry probe layout.otadata write placed.aligned
    (confirm_long layout first write placed for)

-- both rooms together are few
pub few_entries : (len mine theirs sum : ℕ) → len ≤ 2 ^ 24
    → mine ≡ (driver_room len).entries → theirs ≤ 143360 → sum ≡ mine + theirs → sum < 2 ^ 32
few_entries len mine theirs sum small m t s = omega arith

-- ---- the probe

served_in : (space : Space) → IsBitSet 3 (bit_of space)
served_in Data = λ (e : 1 ≡ 0). omega arith
served_in Code = λ (e : 2 ≡ 0). omega arith

look_at : {S : Type 0} (b : Base S Course) (probe : Option ℕ)
    → IfSome probe (λ at. IsFixed b.map (length b.flash) at 4) → CanLook (Some b) reset probe
look_at b None is = tt
look_at b (Some at) is = (is, served_in (space_at at))

-- ---- a leg

module _ (rows : List Row) (script : List Action) (driver : ℕ) (layout : Places)
    (purpose : Purpose) (offset : ℕ) (notes : List SegmentNote) (dev : CutDevice Ram)
    (begins : MayBegin rows layout purpose offset notes dev) where
  abbrev flash : List ℕ
  flash = dev.inner.bytes

  abbrev base : Base (CutSetting (Unit {0})) Course
  base = leg_base rows script driver layout purpose offset notes dev

  -- the flash is good by the duty of the leg
  pub begins_good : IsGood flash (course_from driver rows layout purpose) flash
  begins_good = opening_good flash driver rows layout purpose begins.table.table
      begins.table.layout_is begins.for

  pub begins_long : IsAsLong purpose
  begins_long = as_long layout flash purpose begins.for

  small : length flash ≤ 2 ^ 25
  small = largest (length flash) begins.table.size

  pub begins_short : length_for purpose ≤ 2 ^ 24
  begins_short = short layout flash purpose begins.for

  -- the pages of the application are ones that the cache can map
  pub begins_placed : AreInPlace (2 ^ 24) offset notes
  begins_placed = begins.low

  obeyed : FitsFlash (length flash) rows
  obeyed = table_fits (take 0xC00 (drop 0x8000 flash)) (length flash) rows begins.table.table

  placed : IsPlaced layout (length flash)
  placed = layout_placed (length flash) rows layout obeyed begins.table.layout_is

  -- the driver, whichever core it is
  drives : (o : Own (Base (CutSetting (Unit {0})) Course) Did) (words : TableId) → driver < 2
      → HasRoomIn base driver [] (driver_room (length_for purpose)).entries
      (driver_room (length_for purpose)).bytes
      → IsFirst words driver base o → CanDrive layout purpose (probe_in notes) o
  drives o words two room is =
      let needs = needed layout flash purpose (probe_in notes) placed begins.for in
      let e = needs.entries_are in
      let b = needs.bytes_are in
      let x = room.entries_fit in
      let y = room.bytes_fit in
      let size = small in
      subst (λ (z : Own (Base (CutSetting (Unit {0})) Course) Did).
      CanDrive layout purpose (probe_in notes) z) (sym is) (record {
        drives = record {
          base = base;
          base_is = refl;
          small = omega arith;
          two = two;
          rows = rows;
          duty = refl;
          made_for = record {
            table = begins.table.table;
            layout = begins.table.layout_is;
            purpose = begins.for;
            steps = refl;
          };
          made_is = refl;
        };
        room = record { entries_fit = omega arith; bytes_fit = omega arith };
        look = look_at base (probe_in notes)
            (probe_is_fixed (length flash) offset notes begins.placed begins_placed);
      })

  -- the other core
  works : (o : Own (Base (CutSetting (Unit {0})) Course) Did) (words : TableId) (c : ℕ)
      → c ≢ driver → HasRoomIn base c [] (entries_in_all script) (bytes_in_all script)
      → IsFirst words c base o → CanWork part_of Grants part_after rows script o
  works o words c apart room is =
      let size = small in
      subst (λ (z : Own (Base (CutSetting (Unit {0})) Course) Did).
      CanWork part_of Grants part_after rows script z) (sym is) (record {
        mask = omega arith;
        base = record { fits = obeyed; small = omega arith };
        room = room;
        may = other_may base c [] (worker_steps rows script) apart
            (script_inside (length flash) rows script obeyed);
      })

  -- both can do what they are to
  can_both : (d : ℕ) → d ≡ driver → d < 2
      → (left right : Own (Base (CutSetting (Unit {0})) Course) Did) (words : TableId)
      → IsFirst words 0 base left → IsFirst words 1 base right
      → CanRunBoth d layout purpose notes rows script left right
  can_both zero is two left right words first second = (
    drives left words (omega arith)
        (subst (λ (c : ℕ). HasRoomIn base c [] (driver_room (length_for purpose)).entries
        (driver_room (length_for purpose)).bytes) is
        (subst (λ (c : ℕ). HasRoomIn (leg_base rows script c layout purpose offset notes dev) 0 []
        (driver_room (length_for purpose)).entries (driver_room (length_for purpose)).bytes) is
        (record { entries_fit = omega arith; bytes_fit = omega arith })))
        (subst (λ (c : ℕ). IsFirst words c base left) is first),
    works right words 1 (omega arith)
        (subst (λ (c : ℕ). HasRoomIn (leg_base rows script c layout purpose offset notes dev) 1 []
        (entries_in_all script) (bytes_in_all script)) is
        (record { entries_fit = omega arith; bytes_fit = omega arith })) second,
  )
  can_both (suc zero) is two left right words first second = (
    drives right words (omega arith)
        (subst (λ (c : ℕ). HasRoomIn base c [] (driver_room (length_for purpose)).entries
        (driver_room (length_for purpose)).bytes) is
        (subst (λ (c : ℕ). HasRoomIn (leg_base rows script c layout purpose offset notes dev) 1 []
        (driver_room (length_for purpose)).entries (driver_room (length_for purpose)).bytes) is
        (record { entries_fit = omega arith; bytes_fit = omega arith })))
        (subst (λ (c : ℕ). IsFirst words c base right) is second),
    works left words 0 (omega arith)
        (subst (λ (c : ℕ). HasRoomIn (leg_base rows script c layout purpose offset notes dev) 0 []
        (entries_in_all script) (bytes_in_all script)) is
        (record { entries_fit = omega arith; bytes_fit = omega arith })) first,
  )
  can_both (suc (suc d)) is two left right words first second = absurd (omega arith)

  -- the base of the bus of these parts is that of the leg
  pub base_is : (pages : Map) (rooms : List Room) (mine theirs : Room) (duty : Course)
      → pages ≡ application_pages offset notes → rooms ≡ rooms_of driver mine theirs
      → mine ≡ driver_room (length_for purpose) → theirs ≡ worker_room script
      → duty ≡ course_from driver rows layout purpose → base_with dev pages rooms duty ≡ base
  base_is pages rooms mine theirs duty p r m t d =
      let both : rooms ≡ rooms_of driver (driver_room (length_for purpose)) (worker_room script) =
      r ∙ (λ i. rooms_of driver (m i) (t i)) in
      λ i. base_with dev (p i) (both i) (d i)

  pub begins_steps : (probe : Option ℕ)
      → steps_of (moves_for layout purpose probe) ≡ steps_for layout purpose
  begins_steps probe = moves_steps layout flash purpose probe placed begins.for

  pub begins_can : driver < 2 → (left right : Own (Base (CutSetting (Unit {0})) Course) Did)
      (words : TableId) → IsFirst words 0 base left → IsFirst words 1 base right
      → CanRunBoth driver layout purpose notes rows script left right
  begins_can two left right words first second =
      can_both driver refl two left right words first second
