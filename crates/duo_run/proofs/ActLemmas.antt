-- What a core did for each action.
use Rattle.std.proofs.Common.{◌≡◌, ◌≢◌, ℕ, List, [], ◌∷◌, ◌++◌, length, Result, Ok, Err, inl, inr, refl, sym, ap, subst, ◌∙◌, arith}
use Rattle.std.specs.Prelude.{IfOk, IfErr, ◌↔◌}
use Rattle.arrayvec.specs.ArrayVec.{ArrayVec}
use Rattle.core_state.specs.declared.registers.Regs.{Regs}
use Rattle.nor_device.specs.declared.step.Step.{Step}
use Rattle.nor_device.specs.declared.nor.NorFault.{NorFault}
use Rattle.image_layout.specs.declared.space.Space.{Space}
use Rattle.mmu_map.specs.declared.runs.NoPages.{NoPages}
use Rattle.mmu_map.specs.declared.runs.NotMapped.{NotMapped}
use Rattle.partition_table.specs.declared.row.Row.{Row}
use Rattle.flash_steps.specs.declared.refusal.PartNo.{PartNo}
use Rattle.flash_steps.specs.declared.refusal.PartNo.TheVariants as part
use Rattle.flash_steps.specs.Rules.{erase_checked, write_checked}
use Rattle.flash_steps.specs.Parts.{part_erase_steps, part_write_steps}
use Rattle.core_script.specs.declared.action.Action.TheVariants.{Fetch, Mask, Irq, Map, Unmap, Write, Erase}
use Rattle.bus_hub.specs.declared.entry.Act.{Act}
use Rattle.bus_hub.specs.declared.entry.Act.TheVariants as acts
use Rattle.bus_hub.specs.declared.entry.Why.TheVariants as whys
use Rattle.bus_hub.specs.declared.did.Did.{Did}
use Rattle.bus_hub.specs.declared.did.Did.TheVariants.{Noted, Mapping, Unmapping, Missed, Masked}
use Rattle.bus_hub.specs.declared.reads.FetchNo.{FetchNo}
use Rattle.bus_hub.specs.declared.reads.FetchNo.TheVariants as refusals
use Rattle.bus_hub.specs.Fetch.{IsServed}
use Rattle.bus_hub.specs.declared.did.Base.{Base}
use Rattle.bus_hub.specs.Hub.{needs, byte_needs}
use Rattle.bus_hub.specs.Log.{IsNote}
use Rattle.cache_gate.specs.Works.{events_in}
use Rattle.cache_gate.specs.Own.{Own, Adds, Keeps, HasFetched, HasRoom, did, saw, set_to}
use Rattle.cache_gate.proofs.Rooms.{room_added}
use Rattle.cache_gate.proofs.Walks.{works_first, works_last}
use Rattle.flash_ops.specs.declared.refusal.OpNo.{OpNo}
use Rattle.flash_ops.specs.declared.refusal.OpNo.TheVariants as ops
use Rattle.flash_ops.specs.declared.refusal.StepNo.{StepNo}
use Rattle.flash_ops.specs.declared.refusal.StepNo.TheVariants.{Device, Cut}
use Rattle.flash_ops.specs.Told.{HasChanged, fault_of}
use Rattle.flash_ops.proofs.Runs.{adds_then, regs_same}
use Rattle.duo_run.specs.Worker.{BreaksOff, HasWritten, mapped_act, note, refused, unmapped_act, why_of}
use Rattle.duo_run.specs.Works.{HasActed}
use Rattle.duo_run.specs.Ends.{NotesEnd, end_act}
use Rattle.duo_run.proofs.AskLemmas.{room_less}

-- ---- what was added, one after the other

module _ {B : Type 0} where
  pub adds_keeps : (xs : List Did) (o a b : Own B Did) → Adds xs o a → Keeps a b → Adds xs o b
  adds_keeps xs o a b x y = record {
    is = y.is ∙ ap (λ (z : Own B Did). saw z b.seen) x.is;
    works = works_last (events_in xs) o.core a.core b.core o.seen a.seen b.seen x.works y.works;
  }

  pub keeps_adds : (xs : List Did) (o a b : Own B Did) → Keeps o a → Adds xs a b → Adds xs o b
  keeps_adds xs o a b x y = record {
    is = y.is ∙ ap (λ (z : Own B Did). did z xs b.seen) x.is;
    works = works_first (events_in xs) o.core a.core b.core o.seen a.seen b.seen x.works y.works;
  }

  -- the same with other registers before and behind
  pub adds_set : (xs : List Did) (regs : Regs) (o a : Own B Did) → Adds xs o a
      → Adds xs (set_to o regs) (set_to a regs)
  adds_set xs regs o a x =
      record { is = ap (λ (z : Own B Did). set_to z regs) x.is; works = x.works }

  -- an entry behind a mark of the same core, which shows its registers
  marked : (mark : Did) (k : ℕ) (act : Act) (o a b : Own B Did) → Adds (mark ∷ []) o a
      → Adds (Noted k a.regs act ∷ []) a b → Adds (mark ∷ note k o.regs act) o b
  marked mark k act o a b x y =
      adds_then (mark ∷ []) (note k o.regs act) o a b x
      (subst (λ (regs : Regs). Adds (note k regs act) a b) (regs_same (mark ∷ []) o a x) y)

-- ---- fetch

-- what is masked is not served
pub masked_out : (mask at : ℕ) (r : Result (Unit {0}) FetchNo) → r ≡ Err refusals.Masked
    → (r ≢ Err refusals.Unmapped → r ≡ Err refusals.Masked ↔ (¬ IsServed mask at))
    → ¬ IsServed mask at
masked_out mask at r is told = (told (λ unmapped. cc)).0 is

module _ {B : Type 0} where
  pub fetch_missed : (rows : List Row) (k at len : ℕ) (o a b : Own B Did)
      → HasFetched k at len (Err refusals.Unmapped) o a
      → Adds (Noted k a.regs (acts.Refused whys.Unmapped) ∷ []) a b
      → HasActed rows k (Fetch at len) (Ok tt) o b
  fetch_missed rows k at len o a b f n = record {
    items = Missed at len ∷ refused k o.regs whys.Unmapped;
    adds = marked (Missed at len) k (acts.Refused whys.Unmapped) o a b f n;
    acted = inr (inl refl);
  }

  pub fetch_masked : (rows : List Row) (k at len : ℕ) (o a b : Own B Did)
      → HasFetched k at len (Err refusals.Masked) o a → ¬ IsServed o.regs.mask at
      → Adds (Noted k a.regs (acts.Refused whys.Masked) ∷ []) a b
      → HasActed rows k (Fetch at len) (Ok tt) o b
  fetch_masked rows k at len o a b f is n = record {
    items = Masked at len ∷ refused k o.regs whys.Masked;
    adds = marked (Masked at len) k (acts.Refused whys.Masked) o a b f n;
    acted = inr (inr (record { unserved = is; is = refl }));
  }

-- ---- registers

module _ {B : Type 0} where
  pub mask_set : (rows : List Row) (k mask : ℕ) (regs : Regs) (o a : Own B Did)
      → regs ≡ record o.regs { mask = mask } → Adds (Noted k regs acts.Set ∷ []) (set_to o regs) a
      → HasActed rows k (Mask mask) (Ok tt) o a
  mask_set rows k mask regs o a is adds = record {
    items = _;
    adds = subst (λ (z : Regs). Adds (Noted k z acts.Set ∷ []) (set_to o z) a) is adds;
    acted = refl;
  }

  pub irq_set : (rows : List Row) (k irq : ℕ) (regs : Regs) (o a : Own B Did)
      → regs ≡ record o.regs { irq = irq } → Adds (Noted k regs acts.Set ∷ []) (set_to o regs) a
      → HasActed rows k (Irq irq) (Ok tt) o a
  irq_set rows k irq regs o a is adds = record {
    items = _;
    adds = subst (λ (z : Regs). Adds (Noted k z acts.Set ∷ []) (set_to o z) a) is adds;
    acted = refl;
  }

-- ---- pages

-- an answer of the map is noted
pub mapped_note : (answer : Result ℕ NoPages) → IsNote (mapped_act answer)
mapped_note (Ok at) = tt
mapped_note (Err refusal) = tt

pub unmapped_note : (at : ℕ) (answer : Result (Unit {0}) NotMapped)
    → IsNote (unmapped_act at answer)
unmapped_note at (Ok u) = tt
unmapped_note at (Err refusal) = tt

module _ {B : Type 0} where
  pub pages_mapped : (rows : List Row) (k page n : ℕ) (space : Space)
      (answer : Result ℕ NoPages) (act : Act) (o a b : Own B Did) → act ≡ mapped_act answer
      → Adds (Mapping page n space answer ∷ []) o a → Adds (Noted k a.regs act ∷ []) a b
      → HasActed rows k (Map space page n) (Ok tt) o b
  pages_mapped rows k page n space answer act o a b is m adds = record {
    items = _;
    adds = marked (Mapping page n space answer) k (mapped_act answer) o a b m
        (subst (λ (z : Act). Adds (Noted k a.regs z ∷ []) a b) is adds);
    acted = record { answer = answer; is = refl };
  }

  pub pages_freed : (rows : List Row) (k at : ℕ) (answer : Result (Unit {0}) NotMapped)
      (act : Act) (o a b : Own B Did) → act ≡ unmapped_act at answer
      → Adds (Unmapping at answer ∷ []) o a → Adds (Noted k a.regs act ∷ []) a b
      → HasActed rows k (Unmap at) (Ok tt) o b
  pages_freed rows k at answer act o a b is m adds = record {
    items = _;
    adds = marked (Unmapping at answer) k (unmapped_act at answer) o a b m
        (subst (λ (z : Act). Adds (Noted k a.regs z ∷ []) a b) is adds);
    acted = record { answer = answer; is = refl };
  }

-- ---- writes and erases

-- a write or an erase of a partition and its note, by whether the device refused
abbrev Wrote : ℕ → Regs → Result Row PartNo → List Step → Result (Unit {0}) NorFault → List Did
    → Type 0
Wrote k regs checked steps (Ok _) items = HasWritten k regs checked steps items
Wrote k regs checked steps (Err why) items = BreaksOff k regs why checked steps items

record HasWrote {B : Type 0} (k : ℕ) (checked : Result Row PartNo) (steps : List Step)
    (r : Result (Unit {0}) StepNo) (o b : Own B Did) : Type 0 where
  items : List Did
  adds : Adds items o b
  wrote : Wrote k o.regs checked steps (fault_of r) items

module _ {B : Type 0} where
  -- it was refused
  wrote_barred : (k : ℕ) (refusal : PartNo) (steps : List Step) (end' : Result (Unit {0}) OpNo)
      (r : Result (Unit {0}) StepNo) (o a b : Own B Did) → end' ≡ Err (ops.Barred refusal)
      → Keeps o a → NotesEnd k (end_act end') r a b → HasWrote k (Err refusal) steps r o b
  wrote_barred k refusal steps end' r o a b is keeps notes =
      let act_is : end_act end' ≡ Ok (acts.Refused (why_of refusal)) = ap end_act is in
      let both : (r ≡ Ok tt) × Adds (refused k a.regs (why_of refusal)) a b =
      subst (λ (x : Result Act StepNo). NotesEnd k x r a b) act_is notes in
      record {
        items = refused k o.regs (why_of refusal);
        adds = keeps_adds (refused k o.regs (why_of refusal)) o a b keeps
            (subst (λ (regs : Regs). Adds (refused k regs (why_of refusal)) a b)
            (ap (λ (z : Own B Did). z.regs) keeps.is) both.1);
        wrote = subst (λ (x : Result (Unit {0}) StepNo). Wrote k o.regs (Err refusal) steps
            (fault_of x) (refused k o.regs (why_of refusal))) (sym both.0) refl;
      }

  -- it was not
  wrote_ran : (k : ℕ) (row : Row) (steps : List Step) (end' : Result (Unit {0}) OpNo)
      (r : Result (Unit {0}) StepNo) (o a b : Own B Did) → HasChanged k steps end' o a
      → NotesEnd k (end_act end') r a b → HasWrote k (Ok row) steps r o b
  wrote_ran k row steps (Ok u) r o a b h notes = record {
    items = h.items ++ note k o.regs acts.Wrote;
    adds = adds_then h.items (note k o.regs acts.Wrote) o a b h.adds
        (subst (λ (regs : Regs). Adds (note k regs acts.Wrote) a b)
        (regs_same h.items o a h.adds) notes.1);
    wrote = subst (λ (x : Result (Unit {0}) StepNo). Wrote k o.regs (Ok row) steps (fault_of x)
        (h.items ++ note k o.regs acts.Wrote)) (sym notes.0)
        (record { did = h.items; follows = h.ran; is = refl });
  }
  wrote_ran k row steps (Err (ops.Barred why)) r o a b h notes = absurd h
  wrote_ran k row steps (Err ops.Device) r o a b h notes = record {
    items = h.items;
    adds = subst (λ (z : Own B Did). Adds h.items o z) (sym notes.1) h.adds;
    wrote = subst (λ (x : Result (Unit {0}) StepNo). Wrote k o.regs (Ok row) steps (fault_of x)
        h.items) (sym notes.0) h.ran;
  }
  wrote_ran k row steps (Err ops.Cut) r o a b h notes = record {
    items = h.items;
    adds = subst (λ (z : Own B Did). Adds h.items o z) (sym notes.1) h.adds;
    wrote = subst (λ (x : Result (Unit {0}) StepNo). Wrote k o.regs (Ok row) steps (fault_of x)
        h.items) (sym notes.0) h.ran;
  }

  wrote_by : (k : ℕ) (checked : Result Row PartNo) (steps : List Step)
      (end' : Result (Unit {0}) OpNo) (r : Result (Unit {0}) StepNo) (o a b : Own B Did)
      → IfErr checked (λ why. (end' ≡ Err (ops.Barred why)) × Keeps o a)
      → IfOk checked (λ _. HasChanged k steps end' o a) → NotesEnd k (end_act end') r a b
      → HasWrote k checked steps r o b
  wrote_by k (Ok row) steps end' r o a b barred ran notes =
      wrote_ran k row steps end' r o a b ran notes
  wrote_by k (Err refusal) steps end' r o a b barred ran notes =
      wrote_barred k refusal steps end' r o a b barred.0 barred.1 notes

  write_by : (rows : List Row) (k : ℕ) (label : ArrayVec ℕ) (offset : ℕ) (bytes : List ℕ)
      (r : Result (Unit {0}) StepNo) (o b : Own B Did)
      → HasWrote k (write_checked rows label.items offset (length bytes))
      (part_write_steps rows label.items offset bytes) r o b
      → HasActed rows k (Write label offset bytes) (fault_of r) o b
  write_by rows k label offset bytes (Ok u) o b w =
      record { items = w.items; adds = w.adds; acted = w.wrote }
  write_by rows k label offset bytes (Err Device) o b w =
      record { items = w.items; adds = w.adds; acted = w.wrote }
  write_by rows k label offset bytes (Err Cut) o b w =
      record { items = w.items; adds = w.adds; acted = w.wrote }

  erase_by : (rows : List Row) (k : ℕ) (label : ArrayVec ℕ) (offset len : ℕ)
      (r : Result (Unit {0}) StepNo) (o b : Own B Did)
      → HasWrote k (erase_checked rows label.items offset len)
      (part_erase_steps rows label.items offset len) r o b
      → HasActed rows k (Erase label offset len) (fault_of r) o b
  erase_by rows k label offset len (Ok u) o b w =
      record { items = w.items; adds = w.adds; acted = w.wrote }
  erase_by rows k label offset len (Err Device) o b w =
      record { items = w.items; adds = w.adds; acted = w.wrote }
  erase_by rows k label offset len (Err Cut) o b w =
      record { items = w.items; adds = w.adds; acted = w.wrote }

  pub write_acted : (rows : List Row) (k : ℕ) (label : ArrayVec ℕ) (offset : ℕ) (bytes : List ℕ)
      (end' : Result (Unit {0}) OpNo) (r : Result (Unit {0}) StepNo) (o a b : Own B Did)
      → IfErr (write_checked rows label.items offset (length bytes))
      (λ why. (end' ≡ Err (ops.Barred why)) × Keeps o a)
      → IfOk (write_checked rows label.items offset (length bytes))
      (λ _. HasChanged k (part_write_steps rows label.items offset bytes) end' o a)
      → NotesEnd k (end_act end') r a b
      → HasActed rows k (Write label offset bytes) (fault_of r) o b
  write_acted rows k label offset bytes end' r o a b barred ran notes =
      write_by rows k label offset bytes r o b
      (wrote_by k (write_checked rows label.items offset (length bytes)) _ end' r o a b barred ran
      notes)

  pub erase_acted : (rows : List Row) (k : ℕ) (label : ArrayVec ℕ) (offset len : ℕ)
      (end' : Result (Unit {0}) OpNo) (r : Result (Unit {0}) StepNo) (o a b : Own B Did)
      → IfErr (erase_checked rows label.items offset len)
      (λ why. (end' ≡ Err (ops.Barred why)) × Keeps o a)
      → IfOk (erase_checked rows label.items offset len)
      (λ _. HasChanged k (part_erase_steps rows label.items offset len) end' o a)
      → NotesEnd k (end_act end') r a b
      → HasActed rows k (Erase label offset len) (fault_of r) o b
  erase_acted rows k label offset len end' r o a b barred ran notes =
      erase_by rows k label offset len r o b
      (wrote_by k (erase_checked rows label.items offset len) _ end' r o a b barred ran notes)

-- room is left to note a mark
module _ {S K : Type 0} where
  pub mark_room : (o a : Own (Base S K) Did) (mark : Did) (n : ℕ) → needs (mark ∷ []) ≡ 0
      → byte_needs (mark ∷ []) ≡ 0 → HasRoom o.base o.core o.share 1 n → Adds (mark ∷ []) o a
      → HasRoom a.base a.core a.share 1 0
  mark_room o a mark n few small room adds =
      room_added o a (mark ∷ []) 1 0 0 n adds
      (room_less o.base o.core o.share 1 n _ _ room (omega arith) (omega arith))
      (omega arith) (omega arith)
