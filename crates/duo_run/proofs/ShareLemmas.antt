-- The steps that the share of a script has made, and the registers that it leaves.
use Rattle.std.proofs.Common.{◌≡◌, ℕ, ◌+◌, List, [], ◌∷◌, ◌++◌, length, None, Result, Ok, Err, inl, inr, refl, sym, ap, subst, ◌∙◌, append-nil}
use Rattle.core_state.specs.declared.registers.Regs.{Regs}
use Rattle.nor_device.specs.declared.step.Step.{Step}
use Rattle.nor_device.specs.declared.nor.NorFault.{NorFault}
use Rattle.mmu_map.specs.declared.runs.NoPages.{NoPages}
use Rattle.mmu_map.specs.declared.runs.NotMapped.{NotMapped}
use Rattle.partition_table.specs.declared.row.Row.{Row}
use Rattle.flash_steps.specs.declared.refusal.PartNo.{PartNo}
use Rattle.flash_steps.specs.Rules.{erase_checked, write_checked}
use Rattle.flash_steps.specs.Parts.{steps_in, part_erase_steps, part_write_steps}
use Rattle.flash_steps.specs.Steps.{erase_steps, write_steps}
use Rattle.core_script.specs.declared.action.Action.{Action}
use Rattle.core_script.specs.declared.action.Action.TheVariants.{Fetch, Mask, Irq, Map, Unmap, Write, Erase}
use Rattle.bus_hub.specs.declared.entry.Act.TheVariants as acts
use Rattle.bus_hub.specs.declared.did.Did.{Did}
use Rattle.bus_hub.specs.Shares.{made}
use Rattle.duo_run.specs.Worker.{BreaksOff, HasDone, HasEnded, HasLeft, HasStopped, HasWritten, IsFirstPart, ShareFrom, action_steps, mapped_act, note, regs_after, regs_at, regs_by, regs_by_act, unmapped_act, worker_steps}
use Rattle.duo_run.proofs.StepsLemmas.{MakesSteps, MakesSome, makes_none, makes_then, makes_then_some, some_of_more, follows_makes, stops_makes, regs_by-append, follows_regs, stops_regs}

-- ---- one action

-- items that end no step
pub none_made : (items shown : List Did) → items ≡ shown → MakesSteps [] shown → MakesSteps [] items
none_made items shown is m = subst (λ (s : List Did). MakesSteps [] s) (sym is) m

-- where it is refused there are no steps
no_write : (rows : List Row) (label : List ℕ) (offset : ℕ) (bytes : List ℕ) (refusal : PartNo)
    → write_checked rows label offset (length bytes) ≡ Err refusal
    → part_write_steps rows label offset bytes ≡ []
unfolding part_write_steps
no_write rows label offset bytes refusal is =
    ap (λ (r : Result Row PartNo). steps_in r (λ row. write_steps (row.offset + offset) bytes)) is

no_erase : (rows : List Row) (label : List ℕ) (offset len : ℕ) (refusal : PartNo)
    → erase_checked rows label offset len ≡ Err refusal
    → part_erase_steps rows label offset len ≡ []
unfolding part_erase_steps
no_erase rows label offset len refusal is =
    ap (λ (r : Result Row PartNo). steps_in r (λ row. erase_steps (row.offset + offset) len)) is

-- a write or an erase, whose steps are none where it is refused
written_makes : (k : ℕ) (regs : Regs) (checked : Result Row PartNo) (steps : List Step)
    (items : List Did) → ((refusal : PartNo) → checked ≡ Err refusal → steps ≡ [])
    → HasWritten k regs checked steps items → MakesSteps steps items
written_makes k regs (Ok row) steps items none w =
    subst (λ (s : List Did). MakesSteps steps s) (sym w.is)
    (subst (λ (s : List Step). MakesSteps s (w.did ++ note k regs acts.Wrote)) (append-nil steps)
    (makes_then steps [] w.did (note k regs acts.Wrote) (follows_makes k regs steps w.did w.follows)
    (record { makes = λ o. refl })))
written_makes k regs (Err refusal) steps items none w =
    subst (λ (s : List Step). MakesSteps s items) (sym (none refusal refl))
    (none_made items _ w (record { makes = λ o. refl }))

pub left_makes : (rows : List Row) (k : ℕ) (regs : Regs) (action : Action) (items : List Did)
    → HasLeft rows k regs action items → MakesSteps (action_steps rows action) items
left_makes rows k regs (Fetch at len) items (inl f) =
    none_made items _ f.is (record { makes = λ o. refl })
left_makes rows k regs (Fetch at len) items (inr (inl m)) =
    none_made items _ m (record { makes = λ o. refl })
left_makes rows k regs (Fetch at len) items (inr (inr m)) =
    none_made items _ m.is (record { makes = λ o. refl })
left_makes rows k regs (Mask mask) items s = none_made items _ s (record { makes = λ o. refl })
left_makes rows k regs (Irq irq) items s = none_made items _ s (record { makes = λ o. refl })
left_makes rows k regs (Map space page n) items m =
    none_made items _ m.is (record { makes = λ o. refl })
left_makes rows k regs (Unmap at) items m =
    none_made items _ m.is (record { makes = λ o. refl })
left_makes rows k regs (Write label offset bytes) items w =
    written_makes k regs (write_checked rows label.items offset (length bytes))
    (part_write_steps rows label.items offset bytes) items
    (no_write rows label.items offset bytes) w
left_makes rows k regs (Erase label offset len) items w =
    written_makes k regs (erase_checked rows label.items offset len)
    (part_erase_steps rows label.items offset len) items (no_erase rows label.items offset len) w

broken_makes : (k : ℕ) (regs : Regs) (why : NorFault) (checked : Result Row PartNo)
    (steps : List Step) (items : List Did) → BreaksOff k regs why checked steps items
    → MakesSome steps items
broken_makes k regs why (Ok row) steps items b = stops_makes k regs why steps items b
broken_makes k regs why (Err refusal) steps items b = absurd b

ended_makes : (rows : List Row) (why : NorFault) (k : ℕ) (regs : Regs) (action : Action)
    (items : List Did) → HasEnded rows why k regs action items
    → MakesSome (action_steps rows action) items
ended_makes rows why k regs (Fetch at len) items f = record {
  first = [];
  makes = none_made items _ f.is (record { makes = λ o. refl });
  part = record { later = []; is = refl };
}
ended_makes rows why k regs (Mask mask) items e = absurd e
ended_makes rows why k regs (Irq irq) items e = absurd e
ended_makes rows why k regs (Map space page n) items e = absurd e
ended_makes rows why k regs (Unmap at) items e = absurd e
ended_makes rows why k regs (Write label offset bytes) items e =
    broken_makes k regs why (write_checked rows label.items offset (length bytes))
    (part_write_steps rows label.items offset bytes) items e
ended_makes rows why k regs (Erase label offset len) items e =
    broken_makes k regs why (erase_checked rows label.items offset len)
    (part_erase_steps rows label.items offset len) items e

-- an answer of the map is no Set
mapped_regs : (regs shown : Regs) (answer : Result ℕ NoPages)
    → regs_by_act regs shown (mapped_act answer) ≡ regs
mapped_regs regs shown (Ok at) = refl
mapped_regs regs shown (Err refusal) = refl

unmapped_regs : (regs shown : Regs) (at : ℕ) (answer : Result (Unit {0}) NotMapped)
    → regs_by_act regs shown (unmapped_act at answer) ≡ regs
unmapped_regs regs shown at (Ok u) = refl
unmapped_regs regs shown at (Err refusal) = refl

written_regs : (k : ℕ) (regs : Regs) (checked : Result Row PartNo) (steps : List Step)
    (items : List Did) → HasWritten k regs checked steps items → regs_by regs items ≡ regs
written_regs k regs (Ok row) steps items w =
    ap (regs_by regs) w.is
    ∙ (regs_by-append regs w.did (note k regs acts.Wrote)
    ∙ follows_regs k regs regs steps w.did w.follows)
written_regs k regs (Err refusal) steps items w = ap (regs_by regs) w

-- the registers that an action leaves are those of its items
pub left_regs : (rows : List Row) (k : ℕ) (regs : Regs) (action : Action) (items : List Did)
    → HasLeft rows k regs action items → regs_by regs items ≡ regs_after regs action
left_regs rows k regs (Fetch at len) items (inl f) = ap (regs_by regs) f.is
left_regs rows k regs (Fetch at len) items (inr (inl m)) = ap (regs_by regs) m
left_regs rows k regs (Fetch at len) items (inr (inr m)) = ap (regs_by regs) m.is
left_regs rows k regs (Mask mask) items s = ap (regs_by regs) s
left_regs rows k regs (Irq irq) items s = ap (regs_by regs) s
left_regs rows k regs (Map space page n) items m =
    ap (regs_by regs) m.is ∙ mapped_regs regs regs m.answer
left_regs rows k regs (Unmap at) items m =
    ap (regs_by regs) m.is ∙ unmapped_regs regs regs at m.answer
left_regs rows k regs (Write label offset bytes) items w =
    written_regs k regs (write_checked rows label.items offset (length bytes)) _ items w
left_regs rows k regs (Erase label offset len) items w =
    written_regs k regs (erase_checked rows label.items offset len) _ items w

broken_regs : (k : ℕ) (regs : Regs) (why : NorFault) (checked : Result Row PartNo)
    (steps : List Step) (items : List Did) → BreaksOff k regs why checked steps items
    → regs_by regs items ≡ regs
broken_regs k regs why (Ok row) steps items b = stops_regs k regs regs why steps items b
broken_regs k regs why (Err refusal) steps items b = absurd b

pub ended_regs : (rows : List Row) (why : NorFault) (k : ℕ) (regs : Regs) (action : Action)
    (items : List Did) → HasEnded rows why k regs action items
    → regs_by regs items ≡ regs_after regs action
ended_regs rows why k regs (Fetch at len) items f = ap (regs_by regs) f.is
ended_regs rows why k regs (Mask mask) items e = absurd e
ended_regs rows why k regs (Irq irq) items e = absurd e
ended_regs rows why k regs (Map space page n) items e = absurd e
ended_regs rows why k regs (Unmap at) items e = absurd e
ended_regs rows why k regs (Write label offset bytes) items e =
    broken_regs k regs why (write_checked rows label.items offset (length bytes)) _ items e
ended_regs rows why k regs (Erase label offset len) items e =
    broken_regs k regs why (erase_checked rows label.items offset len) _ items e

-- ---- the script

done_makes : (rows : List Row) (k : ℕ) (regs : Regs) (script : List Action) (share : List Did)
    → HasDone rows k regs script share → MakesSteps (worker_steps rows script) share
done_makes rows k regs [] share d = makes_none share d
done_makes rows k regs (action ∷ later) share d =
    subst (λ (s : List Did). MakesSteps (action_steps rows action ++ worker_steps rows later) s)
    (sym d.is)
    (makes_then (action_steps rows action) (worker_steps rows later) d.items d.rest
    (left_makes rows k regs action d.items d.left)
    (done_makes rows (k + 1) (regs_after regs action) later d.rest d.on))

stopped_makes : (rows : List Row) (why : NorFault) (k : ℕ) (regs : Regs) (script : List Action)
    (share : List Did) → HasStopped rows why k regs script share
    → MakesSome (worker_steps rows script) share
stopped_makes rows why k regs [] share s = absurd s
stopped_makes rows why k regs (action ∷ later) share (inl e) =
    some_of_more (action_steps rows action) (worker_steps rows later) share
    (ended_makes rows why k regs action share e)
stopped_makes rows why k regs (action ∷ later) share (inr j) =
    subst (λ (s : List Did). MakesSome (action_steps rows action ++ worker_steps rows later) s)
    (sym j.is)
    (makes_then_some (action_steps rows action) (worker_steps rows later) j.items j.rest
    (left_makes rows k regs action j.items j.left)
    (stopped_makes rows why (k + 1) (regs_after regs action) later j.rest j.on))

-- a share that was not ended by the device made the steps of the script
pub done_made : (rows : List Row) (k : ℕ) (regs : Regs) (script : List Action)
    (share : List Did) → HasDone rows k regs script share → made share ≡ worker_steps rows script
done_made rows k regs script share d = (done_makes rows k regs script share d).makes None

-- another one made a first part of them
pub stopped_made : (rows : List Row) (why : NorFault) (k : ℕ) (regs : Regs)
    (script : List Action) (share : List Did) → HasStopped rows why k regs script share
    → IsFirstPart (made share) (worker_steps rows script)
stopped_made rows why k regs script share s =
    let m = stopped_makes rows why k regs script share s in
    subst (λ (steps : List Step). IsFirstPart steps (worker_steps rows script))
    (sym (m.makes.makes None)) m.part

-- in either case these steps were a first part
pub share_made : (rows : List Row) (k : ℕ) (regs : Regs) (script : List Action)
    (r : Result (Unit {0}) NorFault) (share : List Did) → ShareFrom rows k regs script r share
    → IsFirstPart (made share) (worker_steps rows script)
share_made rows k regs script (Ok u) share d = record {
  later = [];
  is = sym (done_made rows k regs script share d) ∙ sym (append-nil (made share));
}
share_made rows k regs script (Err why) share s = stopped_made rows why k regs script share s

-- the registers at the end of a whole script
pub done_regs : (rows : List Row) (k : ℕ) (regs : Regs) (script : List Action)
    (share : List Did) → HasDone rows k regs script share
    → regs_by regs share ≡ regs_at regs script
done_regs rows k regs [] share d = ap (regs_by regs) d
done_regs rows k regs (action ∷ later) share d =
    ap (regs_by regs) d.is
    ∙ (regs_by-append regs d.items d.rest
    ∙ (ap (λ (z : Regs). regs_by z d.rest) (left_regs rows k regs action d.items d.left)
    ∙ done_regs rows (k + 1) (regs_after regs action) later d.rest d.on))
