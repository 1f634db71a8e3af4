-- The room of the driver is enough for its moves.
use Rattle.std.proofs.Common.{◌≡◌, ℕ, ◌+◌, ◌*◌, ◌/◌, ◌%◌, ◌≤◌, Bool, true, false, List, ◌++◌, length, Option, Some, None, sym, subst, arith}
use Rattle.std.specs.Prelude.{◌==◌, if◌then◌else◌, slice_get}
use Rattle.partition_table.specs.declared.row.Row.{Row}
use Rattle.partition_table.specs.Layout.{Places}
use Rattle.otadata.specs.Entry.{entry_bytes}
use Rattle.rollback.specs.declared.rewrite.Rewrite.{Rewrite}
use Rattle.boot_run.specs.declared.aims.Aim.{Aim}
use Rattle.flash_steps.specs.Steps.{pages_in, write_steps}
use Rattle.flash_steps.proofs.WriteLemmas.{count_of_write}
use Rattle.update_steps.specs.Driver.{next_rewrite, whole_sectors}
use Rattle.flash_ops.specs.Moves.{Move, bytes_for, entries_for, erase_moves, periods_of, write_moves}
use Rattle.flash_ops.proofs.Runs.{bytes_for-append, entries_for-append}
use Rattle.flash_ops.proofs.Pieces.{bytes_of_erase, bytes_of_write, entries_of_erase, entries_of_write}
use Rattle.ota_session.specs.Stages.{begin_moves, entry_moves, in_slot, slot_moves}
use Rattle.duo_run.specs.Driving.{all_moves}

-- moves need at most so many entries and bytes
pub record NeedsAtMost (entries bytes : ℕ) (moves : List Move) : Type 0 where
  pub entries_are : entries_for moves ≤ entries
  pub bytes_are : bytes_for moves ≤ bytes

need_both : (e f n m : ℕ) (a b : List Move) → NeedsAtMost e n a → NeedsAtMost f m b
    → NeedsAtMost (e + f) (n + m) (a ++ b)
need_both e f n m a b x y =
    let p = entries_for-append a b in
    let q = bytes_for-append a b in
    let s = x.entries_are in
    let t = x.bytes_are in
    let u = y.entries_are in
    let v = y.bytes_are in
    record { entries_are = omega arith; bytes_are = omega arith }

need_less : (e f n m : ℕ) (a : List Move) → e ≤ f → n ≤ m → NeedsAtMost e n a → NeedsAtMost f m a
need_less e f n m a few small x =
    let s = x.entries_are in
    let t = x.bytes_are in
    record { entries_are = omega arith; bytes_are = omega arith }

-- an erase: three entries and four bytes for a sector
erase_needs : (probe : Option ℕ) (at len : ℕ)
    → NeedsAtMost (3 * (len / 4096)) (4 * (len / 4096)) (erase_moves probe at len)
erase_needs None at len =
    let e : entries_for (erase_moves None at len) ≡ len / 4096 * 2 = entries_of_erase None at len in
    let b : bytes_for (erase_moves None at len) ≡ len / 4096 * 0 = bytes_of_erase None at len in
    record { entries_are = omega arith; bytes_are = omega arith }
erase_needs (Some look) at len =
    let e : entries_for (erase_moves (Some look) at len) ≡ len / 4096 * 3 =
    entries_of_erase (Some look) at len in
    let b : bytes_for (erase_moves (Some look) at len) ≡ len / 4096 * 4 =
    bytes_of_erase (Some look) at len in
    record { entries_are = omega arith; bytes_are = omega arith }

few_pages : (at len : ℕ) → at % 256 ≡ 0 → pages_in at len ≤ (len + 255) / 256
unfolding pages_in
few_pages at len begins = by (len == 0)
  where
    by : (none : Bool) → (if none then 0 else (at % 256 + len + 255) / 256) ≤ (len + 255) / 256
    by true = omega arith
    by false = omega arith

-- a write: two entries for a page, and one and four bytes for sixteen of them
write_needs : (probe : Option ℕ) (at : ℕ) (bytes : List ℕ) → at % 256 ≡ 0
    → NeedsAtMost (2 * ((length bytes + 255) / 256) + (length bytes + 4095) / 4096)
    (4 * ((length bytes + 4095) / 4096)) (write_moves probe at bytes)
write_needs None at bytes begins =
    let n = count_of_write at bytes in
    let p = few_pages at (length bytes) begins in
    let e : entries_for (write_moves None at bytes)
    ≡ 2 * length (write_steps at bytes) + periods_of (write_steps at bytes) * 0 =
    entries_of_write None at bytes in
    let b : bytes_for (write_moves None at bytes) ≡ periods_of (write_steps at bytes) * 0 =
    bytes_of_write None at bytes in
    record { entries_are = omega arith; bytes_are = omega arith }
write_needs (Some look) at bytes begins =
    let n = count_of_write at bytes in
    let p = few_pages at (length bytes) begins in
    let e : entries_for (write_moves (Some look) at bytes)
    ≡ 2 * length (write_steps at bytes) + periods_of (write_steps at bytes) * 1 =
    entries_of_write (Some look) at bytes in
    let b : bytes_for (write_moves (Some look) at bytes)
    ≡ periods_of (write_steps at bytes) * 4 = bytes_of_write (Some look) at bytes in
    record { entries_are = omega arith; bytes_are = omega arith }

-- the rewrite of an entry: six entries and eight bytes
pub entry_needs : (probe : Option ℕ) (otadata : ℕ) (write : Rewrite) → otadata % 4096 ≡ 0
    → length (entry_bytes write.entry) ≡ 32 → NeedsAtMost 6 8 (entry_moves probe otadata write)
unfolding entry_moves
entry_needs probe otadata write aligned long =
    let at : ℕ = otadata + 4096 * write.sector in
    need_less (3 * (4096 / 4096) + (2 * ((length (entry_bytes write.entry) + 255) / 256)
    + (length (entry_bytes write.entry) + 4095) / 4096)) 6
    (4 * (4096 / 4096) + 4 * ((length (entry_bytes write.entry) + 4095) / 4096)) 8
    (erase_moves probe at 4096 ++ write_moves probe at (entry_bytes write.entry)) (omega arith)
    (omega arith)
    (need_both (3 * (4096 / 4096)) (2 * ((length (entry_bytes write.entry) + 255) / 256)
    + (length (entry_bytes write.entry) + 4095) / 4096) (4 * (4096 / 4096))
    (4 * ((length (entry_bytes write.entry) + 4095) / 4096)) (erase_moves probe at 4096)
    (write_moves probe at (entry_bytes write.entry)) (erase_needs probe at 4096)
    (write_needs probe at (entry_bytes write.entry) (omega arith)))

-- a whole session, whatever its bytes are
pub session_needs : (layout : Places) (aim : Aim) (probe : Option ℕ) (image : List ℕ) (row : Row)
    → slice_get layout.slots aim.slot ≡ Some row → length image ≡ aim.length
    → layout.otadata % 4096 ≡ 0 → length (entry_bytes (next_rewrite aim).entry) ≡ 32
    → row.offset % 256 ≡ 0
    → NeedsAtMost (4 * ((length image + 4095) / 4096) + 2 * ((length image + 255) / 256) + 6)
    (8 * ((length image + 4095) / 4096) + 8) (all_moves layout aim probe image)
unfolding begin_moves
session_needs layout aim probe image row is long aligned label begins =
    let slot : List Move = slot_moves probe row.offset aim.length in
    let writes : List Move = write_moves probe row.offset image in
    let entry : List Move = entry_moves probe layout.otadata (next_rewrite aim) in
    let sectors : ℕ = (length image + 4095) / 4096 in
    let pages : ℕ = (length image + 255) / 256 in
    subst (λ (o : Option Row). NeedsAtMost (4 * sectors + 2 * pages + 6) (8 * sectors + 8)
    (in_slot o (λ (r : Row). slot_moves probe r.offset aim.length) ++ in_slot o (λ (r : Row).
    write_moves probe r.offset image ++ entry))) (sym is)
    (need_less (3 * (whole_sectors aim.length / 4096) + ((2 * pages + sectors) + 6))
    (4 * sectors + 2 * pages + 6) (4 * (whole_sectors aim.length / 4096) + (4 * sectors + 8))
    (8 * sectors + 8) (slot ++ (writes ++ entry)) (omega arith) (omega arith)
    (need_both (3 * (whole_sectors aim.length / 4096)) ((2 * pages + sectors) + 6)
    (4 * (whole_sectors aim.length / 4096)) (4 * sectors + 8) slot (writes ++ entry)
    (erase_needs probe row.offset (whole_sectors aim.length))
    (need_both (2 * pages + sectors) 6 (4 * sectors) 8 writes entry
    (write_needs probe row.offset image begins)
    (entry_needs probe layout.otadata (next_rewrite aim) aligned label))))
