-- What a core is asked for each action, by what it is asked for the script.
use Rattle.std.proofs.Common.{◌≡◌, ℕ, ◌+◌, ◌*◌, ◌/◌, ◌%◌, ◌^◌, ◌<◌, ◌≤◌, List, ◌∷◌, ◌++◌, length, Option, Some, None, Result, Ok, Err, inl, inr, refl, sym, ap, subst, ◌∙◌, arith}
use Rattle.std.specs.Prelude.{IfOk, IfErr}
use Rattle.arrayvec.specs.ArrayVec.{ArrayVec}
use Rattle.core_state.specs.declared.registers.Regs.{Regs}
use Rattle.nor_device.specs.declared.step.Step.{Step}
use Rattle.partition_table.specs.declared.row.Row.{Row}
use Rattle.flash_steps.specs.declared.refusal.PartNo.{PartNo}
use Rattle.flash_steps.specs.Rules.{IsOpenFor, erase_checked, write_checked}
use Rattle.flash_steps.specs.Parts.{steps_in, part_erase_steps, part_write_steps}
use Rattle.flash_steps.specs.Steps.{erase_steps, write_steps}
use Rattle.flash_steps.proofs.RuleLemmas.{part_of}
use Rattle.flash_steps.proofs.WriteLemmas.{one_program}
use Rattle.flash_steps.proofs.EraseLemmas.{count_of_erase}
use Rattle.flash_steps.proofs.PartLemmas.{erase_open, write_open}
use Rattle.core_script.specs.declared.action.Action.{Action}
use Rattle.core_script.specs.declared.action.Action.TheVariants.{Fetch, Mask, Irq, Map, Unmap, Write, Erase}
use Rattle.core_script.specs.Action.{IsInBounds, sectors_in}
use Rattle.bus_hub.specs.declared.did.Base.{Base}
use Rattle.bus_hub.specs.declared.did.Did.{Did}
use Rattle.bus_hub.specs.Hub.{needs, byte_needs}
use Rattle.bus_hub.specs.Shares.{made, moved_by}
use Rattle.bus_hub.proofs.Parts.{moved_by-append}
use Rattle.cache_gate.specs.Own.{Own, OnBase, HasRoom, IsInside, Keeps, Adds}
use Rattle.cache_gate.proofs.Taken.{needs-append, byte_needs-append}
use Rattle.cache_gate.proofs.Rooms.{room_added, room_kept}
use Rattle.flash_ops.specs.declared.refusal.OpNo.{OpNo}
use Rattle.flash_ops.specs.declared.refusal.OpNo.TheVariants as ops
use Rattle.flash_ops.specs.Moves.{makes, bytes_for}
use Rattle.flash_ops.specs.Asked.{GrantsAll, MayMakeAll, CanChange}
use Rattle.flash_ops.specs.Told.{HasChanged}
use Rattle.flash_ops.proofs.Can.{grants_first, grants_then}
use Rattle.flash_ops.proofs.Runs.{bytes_for_makes, entries_for_makes, steps_of_makes}
use Rattle.duo_run.specs.Worker.{HasLeft, HasWritten, action_steps, regs_after}
use Rattle.duo_run.specs.Room.{entries_in, bytes_in}
use Rattle.duo_run.specs.Works.{CanAct, CanWork, FitsBase, HasActed}
use Rattle.duo_run.proofs.StepsLemmas.{MakesSteps, made_behind, follows_needs, stops_needs}
use Rattle.duo_run.proofs.ShareLemmas.{left_makes}

-- ---- what the duty allows

module _ {S K P : Type 0} (part : K → ℕ → P) (grants : P → Step → Type 0)
    (moved : P → Step → P) where
  pub may_first : (base : Option (Base S K)) (c : ℕ) (share : List Did) (s t : List Step)
      → MayMakeAll part grants moved base c share (s ++ t)
      → MayMakeAll part grants moved base c share s
  may_first None c share s t may = absurd may
  may_first (Some b) c share s t may =
      grants_first grants moved (moved_by moved (part b.duty c) (made share)) s t may

  -- behind items that make the first ones
  pub may_rest : (base : Option (Base S K)) (c : ℕ) (share items : List Did) (s t : List Step)
      → MakesSteps s items → MayMakeAll part grants moved base c share (s ++ t)
      → MayMakeAll part grants moved base c (share ++ items) t
  may_rest None c share items s t m may = absurd may
  may_rest (Some b) c share items s t m may =
      subst (λ (p : P). GrantsAll grants moved p t)
      (sym (ap (moved_by moved (part b.duty c)) (made_behind share items s m)
      ∙ moved_by-append moved (part b.duty c) (made share) s))
      (grants_then grants moved (moved_by moved (part b.duty c) (made share)) s t may)

-- ---- room

module _ {S K : Type 0} where
  -- less room
  pub room_less : (base : Option (Base S K)) (c : ℕ) (share : List Did) (n m i j : ℕ)
      → HasRoom base c share n m → i ≤ n → j ≤ m → HasRoom base c share i j
  room_less None c share n m i j room few small = absurd room
  room_less (Some b) c share n m i j room few small =
      let x = room.entries_fit in
      let y = room.bytes_fit in
      record { entries_fit = omega arith; bytes_fit = omega arith }

  -- behind items that need less than the first part
  pub room_later : (base : Option (Base S K)) (c : ℕ) (share items : List Did) (i j n m : ℕ)
      → HasRoom base c share (i + n) (j + m) → needs items ≤ i → byte_needs items ≤ j
      → HasRoom base c (share ++ items) n m
  room_later None c share items i j n m room few small = absurd room
  room_later (Some b) c share items i j n m room few small =
      let e = needs-append share items in
      let f = byte_needs-append share items in
      let x = room.entries_fit in
      let y = room.bytes_fit in
      record { entries_fit = omega arith; bytes_fit = omega arith }

  -- a range of a partition that may be changed lies in the flash
  pub inside_part : (base : Option (Base S K)) (rows : List Row) (label : List ℕ)
      (offset len : ℕ) (row : Row) → OnBase base (FitsBase rows)
      → IsOpenFor rows label offset len row
      → IsInside base (row.offset + offset + len) × (row.offset + offset + len < 2 ^ 32)
  inside_part None rows label offset len row fits is = absurd fits
  inside_part (Some b) rows label offset len row fits is =
      let there = part_of (length b.flash) rows label offset len row fits.fits is in
      let x = there.inside in
      let y = fits.small in (x, omega arith)

  -- and begins at a sector
  at_sector : (base : Option (Base S K)) (rows : List Row) (label : List ℕ) (offset len : ℕ)
      (row : Row) → OnBase base (FitsBase rows) → IsOpenFor rows label offset len row
      → row.offset % 4096 ≡ 0
  at_sector None rows label offset len row fits is = absurd fits
  at_sector (Some b) rows label offset len row fits is =
      (part_of (length b.flash) rows label offset len row fits.fits is).sector

-- ---- steps

-- a write that is not refused
write_is : (rows : List Row) (label : List ℕ) (offset : ℕ) (bytes : List ℕ) (row : Row)
    → write_checked rows label offset (length bytes) ≡ Ok row
    → part_write_steps rows label offset bytes ≡ write_steps (row.offset + offset) bytes
unfolding part_write_steps
write_is rows label offset bytes row is =
    ap (λ (r : Result Row PartNo). steps_in r (λ row. write_steps (row.offset + offset) bytes)) is

erase_is : (rows : List Row) (label : List ℕ) (offset len : ℕ) (row : Row)
    → erase_checked rows label offset len ≡ Ok row
    → part_erase_steps rows label offset len ≡ erase_steps (row.offset + offset) len
unfolding part_erase_steps
erase_is rows label offset len row is =
    ap (λ (r : Result Row PartNo). steps_in r (λ row. erase_steps (row.offset + offset) len)) is

same_page : (a b n : ℕ) → a % 4096 ≡ 0 → b % 256 + n ≤ 256 → (a + b) % 256 + n ≤ 256
same_page a b n sector inside = omega arith

-- a write that stays in a page of its partition is one program
pub one_step : (rows : List Row) (label : List ℕ) (offset : ℕ) (bytes : List ℕ) (row : Row)
    → row.offset % 4096 ≡ 0 → 1 ≤ length bytes → offset % 256 + length bytes ≤ 256
    → write_checked rows label offset (length bytes) ≡ Ok row
    → length (part_write_steps rows label offset bytes) ≤ 1
one_step rows label offset bytes row sector some inside is =
    let e = ap length (write_is rows label offset bytes row is
    ∙ one_program (row.offset + offset) bytes some
    (same_page row.offset offset (length bytes) sector inside)) in omega arith

-- an erase has as many steps as its length has sectors
pub few_steps : (rows : List Row) (label : List ℕ) (offset len : ℕ) (row : Row)
    → erase_checked rows label offset len ≡ Ok row
    → length (part_erase_steps rows label offset len) ≤ len / 4096
few_steps rows label offset len row is =
    let e = ap length (erase_is rows label offset len row is)
    ∙ count_of_erase (row.offset + offset) len in omega arith

-- ---- what an action needs

written_needs : (k : ℕ) (regs : Regs) (checked : Result Row PartNo) (steps : List Step)
    (items : List Did) (n : ℕ) → ((row : Row) → checked ≡ Ok row → length steps ≤ n)
    → HasWritten k regs checked steps items
    → (needs items ≤ 2 * n + 1) × (byte_needs items ≤ 0)
written_needs k regs (Ok row) steps items n few w =
    let l = few row refl in
    let both = follows_needs k regs steps w.did w.follows in
    let a = both.0 in
    let b = both.1 in
    let e = ap needs w.is ∙ needs-append w.did _ in
    let f = ap byte_needs w.is ∙ byte_needs-append w.did _ in
    (omega arith, omega arith)
written_needs k regs (Err refusal) steps items n few w =
    let e = ap needs w in
    let f = ap byte_needs w in (omega arith, omega arith)

module _ {S K : Type 0} where
  pub left_needs : (base : Option (Base S K)) (rows : List Row) (k : ℕ) (regs : Regs)
      (action : Action) (items : List Did) → OnBase base (FitsBase rows) → IsInBounds action
      → HasLeft rows k regs action items
      → (needs items ≤ entries_in action) × (byte_needs items ≤ bytes_in action)
  left_needs base rows k regs (Fetch at len) items fits bounds (inl f) =
      let e = ap needs f.is in
      let g = ap byte_needs f.is in
      let m = f.many in (omega arith, omega arith)
  left_needs base rows k regs (Fetch at len) items fits bounds (inr (inl m)) =
      let e = ap needs m in
      let g = ap byte_needs m in (omega arith, omega arith)
  left_needs base rows k regs (Fetch at len) items fits bounds (inr (inr m)) =
      let e = ap needs m.is in
      let g = ap byte_needs m.is in (omega arith, omega arith)
  left_needs base rows k regs (Mask mask) items fits bounds s =
      let e = ap needs s in
      let g = ap byte_needs s in (omega arith, omega arith)
  left_needs base rows k regs (Irq irq) items fits bounds s =
      let e = ap needs s in
      let g = ap byte_needs s in (omega arith, omega arith)
  left_needs base rows k regs (Map space page n) items fits bounds m =
      let e = ap needs m.is in
      let g = ap byte_needs m.is in (omega arith, omega arith)
  left_needs base rows k regs (Unmap at) items fits bounds m =
      let e = ap needs m.is in
      let g = ap byte_needs m.is in (omega arith, omega arith)
  left_needs base rows k regs (Write label offset bytes) items fits bounds w =
      written_needs k regs (write_checked rows label.items offset (length bytes)) _ items 1
      (λ row is. one_step rows label.items offset bytes row
      (at_sector base rows label.items offset (length bytes) row fits
      (write_open rows label.items offset (length bytes) row is)) bounds.0 bounds.1 is) w
  left_needs base rows k regs (Erase label offset len) items fits bounds w =
      written_needs k regs (erase_checked rows label.items offset len) _ items
      (sectors_in (Erase label offset len))
      (λ row is. let e = few_steps rows label.items offset len row is in omega arith) w

-- ---- the calls of an action

module _ {S K P : Type 0} (part : K → ℕ → P) (grants : P → Step → Type 0)
    (moved : P → Step → P) where
  change_of : (o : Own (Base S K) Did) (at len : ℕ) (steps : List Step)
      → IsInside o.base (at + len) × (at + len < 2 ^ 32)
      → MayMakeAll part grants moved o.base o.core o.share steps
      → HasRoom o.base o.core o.share (2 * length steps) 0
      → CanChange part grants moved at len steps o
  change_of o at len steps there may room = record {
    inside = there.0;
    small = there.1;
    can = record {
      may = subst (λ (s : List Step). MayMakeAll part grants moved o.base o.core o.share s)
          (sym (steps_of_makes steps)) may;
      room = subst (λ (n : ℕ). HasRoom o.base o.core o.share n (bytes_for (makes steps)))
          (sym (entries_for_makes steps))
          (subst (λ (m : ℕ). HasRoom o.base o.core o.share (2 * length steps) m)
          (sym (bytes_for_makes steps)) room);
      look = tt;
    };
  }

  -- a write of a partition
  pub can_write : (o : Own (Base S K) Did) (rows : List Row) (label : ArrayVec ℕ) (offset : ℕ)
      (bytes : List ℕ) → CanAct part grants moved rows (Write label offset bytes) o
      → IfOk (write_checked rows label.items offset (length bytes))
      (λ row. CanChange part grants moved (row.offset + offset) (length bytes)
      (part_write_steps rows label.items offset bytes) o)
  can_write o rows label offset bytes can =
      by (write_checked rows label.items offset (length bytes)) refl
    where
      by : (checked : Result Row PartNo)
          → write_checked rows label.items offset (length bytes) ≡ checked
          → IfOk checked (λ row. CanChange part grants moved (row.offset + offset) (length bytes)
          (part_write_steps rows label.items offset bytes) o)
      by (Err refusal) is = tt
      by (Ok row) is =
          let open_for = write_open rows label.items offset (length bytes) row is in
          let few = one_step rows label.items offset bytes row
          (at_sector o.base rows label.items offset (length bytes) row can.base open_for)
          can.bounds.0 can.bounds.1 is in
          change_of o (row.offset + offset) (length bytes) _
          (inside_part o.base rows label.items offset (length bytes) row can.base open_for)
          can.may
          (room_less o.base o.core o.share 3 0 _ 0 can.room (omega arith) (omega arith))

  -- an erase of a partition
  pub can_erase : (o : Own (Base S K) Did) (rows : List Row) (label : ArrayVec ℕ) (offset len : ℕ)
      → CanAct part grants moved rows (Erase label offset len) o
      → IfOk (erase_checked rows label.items offset len)
      (λ row. CanChange part grants moved (row.offset + offset) len
      (part_erase_steps rows label.items offset len) o)
  can_erase o rows label offset len can =
      by (erase_checked rows label.items offset len) refl
    where
      by : (checked : Result Row PartNo) → erase_checked rows label.items offset len ≡ checked
          → IfOk checked (λ row. CanChange part grants moved (row.offset + offset) len
          (part_erase_steps rows label.items offset len) o)
      by (Err refusal) is = tt
      by (Ok row) is =
          let open_for = (erase_open rows label.items offset len row is).0 in
          let few = few_steps rows label.items offset len row is in
          change_of o (row.offset + offset) len _
          (inside_part o.base rows label.items offset len row can.base open_for) can.may
          (room_less o.base o.core o.share _ 0 _ 0 can.room (omega arith) (omega arith))

  -- its partition begins at a sector
  pub erase_sector : (o : Own (Base S K) Did) (rows : List Row) (label : ArrayVec ℕ)
      (offset len : ℕ) → CanAct part grants moved rows (Erase label offset len) o
      → IfOk (erase_checked rows label.items offset len) (λ row. row.offset % 4096 ≡ 0)
  erase_sector o rows label offset len can =
      by (erase_checked rows label.items offset len) refl
    where
      by : (checked : Result Row PartNo) → erase_checked rows label.items offset len ≡ checked
          → IfOk checked (λ row. row.offset % 4096 ≡ 0)
      by (Err refusal) is = tt
      by (Ok row) is =
          at_sector o.base rows label.items offset len row can.base
          (erase_open rows label.items offset len row is).0

-- room is left to note the end of a write or an erase
module _ {S K : Type 0} where
  added_room : (o a : Own (Base S K) Did) (items : List Did) (n : ℕ) (steps : List Step)
      → length steps ≤ n → HasRoom o.base o.core o.share (2 * n + 1) 0
      → (needs items ≤ 2 * length steps) × (byte_needs items ≡ 0) → Adds items o a
      → HasRoom a.base a.core a.share 1 0
  added_room o a items n steps few room both adds =
      let x = both.0 in
      let y = both.1 in
      room_added o a items 1 0 (2 * n) 0 adds
      (room_less o.base o.core o.share (2 * n + 1) 0 _ _ room (omega arith) (omega arith))
      (omega arith) (omega arith)

  changed_room : (o a : Own (Base S K) Did) (k n : ℕ) (steps : List Step)
      (r : Result (Unit {0}) OpNo) → length steps ≤ n
      → HasRoom o.base o.core o.share (2 * n + 1) 0 → HasChanged k steps r o a
      → HasRoom a.base a.core a.share 1 0
  changed_room o a k n steps (Ok u) few room h =
      added_room o a h.items n steps few room (follows_needs k o.regs steps h.items h.ran) h.adds
  changed_room o a k n steps (Err (ops.Barred why)) few room h = absurd h
  changed_room o a k n steps (Err ops.Device) few room h =
      added_room o a h.items n steps few room (stops_needs k o.regs _ steps h.items h.ran) h.adds
  changed_room o a k n steps (Err ops.Cut) few room h =
      added_room o a h.items n steps few room (stops_needs k o.regs _ steps h.items h.ran) h.adds

  -- the same, whether it was refused or not
  end_room : (o a : Own (Base S K) Did) (k n : ℕ) (checked : Result Row PartNo)
      (steps : List Step) (r : Result (Unit {0}) OpNo)
      → ((row : Row) → checked ≡ Ok row → length steps ≤ n)
      → HasRoom o.base o.core o.share (2 * n + 1) 0
      → IfErr checked (λ why. (r ≡ Err (ops.Barred why)) × Keeps o a)
      → IfOk checked (λ _. HasChanged k steps r o a) → HasRoom a.base a.core a.share 1 0
  end_room o a k n (Ok row) steps r few room barred ran =
      changed_room o a k n steps r (few row refl) room ran
  end_room o a k n (Err refusal) steps r few room barred ran =
      room_kept o a 1 0 barred.1
      (room_less o.base o.core o.share (2 * n + 1) 0 1 0 room (omega arith) (omega arith))

-- the mask of an action
mask_after : (regs : Regs) (action : Action) → IsInBounds action → regs.mask ≤ 3
    → (regs_after regs action).mask ≤ 3
mask_after regs (Fetch at len) bounds small = small
mask_after regs (Mask mask) bounds small = bounds
mask_after regs (Irq irq) bounds small = small
mask_after regs (Map space page n) bounds small = small
mask_after regs (Unmap at) bounds small = small
mask_after regs (Write label offset bytes) bounds small = small
mask_after regs (Erase label offset len) bounds small = small

module _ {S K P : Type 0} (part : K → ℕ → P) (grants : P → Step → Type 0)
    (moved : P → Step → P) where
  pub write_room : (o a : Own (Base S K) Did) (k : ℕ) (rows : List Row) (label : ArrayVec ℕ)
      (offset : ℕ) (bytes : List ℕ) (r : Result (Unit {0}) OpNo)
      → CanAct part grants moved rows (Write label offset bytes) o
      → IfErr (write_checked rows label.items offset (length bytes))
      (λ why. (r ≡ Err (ops.Barred why)) × Keeps o a)
      → IfOk (write_checked rows label.items offset (length bytes))
      (λ _. HasChanged k (part_write_steps rows label.items offset bytes) r o a)
      → HasRoom a.base a.core a.share 1 0
  write_room o a k rows label offset bytes r can barred ran =
      end_room o a k 1 (write_checked rows label.items offset (length bytes))
      (part_write_steps rows label.items offset bytes) r
      (λ row is. one_step rows label.items offset bytes row
      (at_sector o.base rows label.items offset (length bytes) row can.base
      (write_open rows label.items offset (length bytes) row is)) can.bounds.0 can.bounds.1 is)
      can.room barred ran

  pub erase_room : (o a : Own (Base S K) Did) (k : ℕ) (rows : List Row) (label : ArrayVec ℕ)
      (offset len : ℕ) (r : Result (Unit {0}) OpNo)
      → CanAct part grants moved rows (Erase label offset len) o
      → IfErr (erase_checked rows label.items offset len)
      (λ why. (r ≡ Err (ops.Barred why)) × Keeps o a)
      → IfOk (erase_checked rows label.items offset len)
      (λ _. HasChanged k (part_erase_steps rows label.items offset len) r o a)
      → HasRoom a.base a.core a.share 1 0
  erase_room o a k rows label offset len r can barred ran =
      end_room o a k (sectors_in (Erase label offset len))
      (erase_checked rows label.items offset len)
      (part_erase_steps rows label.items offset len) r
      (λ row is. let e = few_steps rows label.items offset len row is in omega arith)
      can.room barred ran

  -- ---- the actions of a script

  -- the first one
  pub can_first : (o : Own (Base S K) Did) (rows : List Row) (action : Action)
      (later : List Action) → IsInBounds action → CanWork part grants moved rows (action ∷ later) o
      → CanAct part grants moved rows action o
  can_first o rows action later bounds can = record {
    bounds = bounds;
    mask = can.mask;
    base = can.base;
    room = room_less o.base o.core o.share _ _ _ _ can.room (omega arith) (omega arith);
    may = may_first part grants moved o.base o.core o.share (action_steps rows action) _ can.may;
  }

  -- the ones behind it
  pub can_rest : (o a : Own (Base S K) Did) (rows : List Row) (k : ℕ) (action : Action)
      (later : List Action) → IsInBounds action → CanWork part grants moved rows (action ∷ later) o
      → HasActed rows k action (Ok tt) o a → CanWork part grants moved rows later a
  can_rest o a rows k action later bounds can x =
      let both = left_needs o.base rows k o.regs action x.items can.base bounds x.acted in
      subst (λ (z : Own (Base S K) Did). CanWork part grants moved rows later z) (sym x.adds.is)
      (record {
        mask = mask_after o.regs action bounds can.mask;
        base = can.base;
        room = room_later o.base o.core o.share x.items _ _ _ _ can.room both.0 both.1;
        may = may_rest part grants moved o.base o.core o.share x.items
            (action_steps rows action) _ (left_makes rows k o.regs action x.items x.acted) can.may;
      })
