-- One action of a script behind the other.
use Rattle.std.proofs.Common.{◌≡◌, ℕ, zero, suc, ◌+◌, ◌≤◌, List, [], ◌∷◌, ◌++◌, length, drop, Some, Result, Ok, Err, inl, inr, refl, sym, ap, subst, ◌∙◌, add-one, arith}
use Rattle.std.specs.List.{slice_get}
use Rattle.core_state.specs.declared.registers.Regs.{Regs}
use Rattle.nor_device.specs.declared.step.Step.{Step}
use Rattle.nor_device.specs.declared.nor.NorFault.{NorFault}
use Rattle.partition_table.specs.declared.row.Row.{Row}
use Rattle.core_script.specs.declared.action.Action.{Action}
use Rattle.core_script.specs.Action.{IsInBounds}
use Rattle.bus_hub.specs.declared.did.Base.{Base}
use Rattle.bus_hub.specs.declared.did.Did.{Did}
use Rattle.cache_gate.specs.Own.{Own, Adds, Keeps, set_to}
use Rattle.flash_ops.specs.declared.refusal.StepNo.{StepNo}
use Rattle.flash_ops.specs.declared.refusal.StepNo.TheVariants.{Device, Cut}
use Rattle.flash_ops.specs.Told.{fault_of}
use Rattle.flash_ops.proofs.Runs.{adds_none, adds_then, keeps_same}
use Rattle.duo_run.specs.Worker.{HasLeft, ShareFrom, regs_after, regs_by}
use Rattle.duo_run.specs.Works.{CanAct, CanWork, HasActed, HasWorked, HasWorkedFrom}
use Rattle.duo_run.proofs.StepsLemmas.{regs_by-append}
use Rattle.duo_run.proofs.ShareLemmas.{ended_regs, left_regs}
use Rattle.duo_run.proofs.AskLemmas.{can_first, can_rest}
use Rattle.duo_run.proofs.ActLemmas.{adds_keeps, adds_set, keeps_adds}

-- the share of one action and of those behind it
joined : (rows : List Row) (k : ℕ) (regs : Regs) (action : Action) (later : List Action)
    (r : Result (Unit {0}) NorFault) (items rest : List Did) → HasLeft rows k regs action items
    → ShareFrom rows (k + 1) (regs_after regs action) later r rest
    → ShareFrom rows k regs (action ∷ later) r (items ++ rest)
joined rows k regs action later (Ok u) items rest x y =
    record { items = items; rest = rest; is = refl; left = x; on = y }
joined rows k regs action later (Err why) items rest x y =
    inr (record { items = items; rest = rest; is = refl; left = x; on = y })

module _ {B : Type 0} where
  -- a core that served its gate behind an action
  pub acted_keeps : (rows : List Row) (k : ℕ) (action : Action) (r : Result (Unit {0}) NorFault)
      (o a b : Own B Did) → HasActed rows k action r o a → Keeps a b
      → HasActed rows k action r o b
  acted_keeps rows k action r o a b x y = record {
    items = x.items;
    adds = adds_keeps x.items (set_to o (regs_after o.regs action)) a b x.adds y;
    acted = x.acted;
  }

  -- no action is left
  worked_none : (rows : List Row) (k : ℕ) (o : Own B Did) → HasWorkedFrom rows k [] (Ok tt) o o
  worked_none rows k o = record {
    items = [];
    adds = adds_none o o (keeps_same o);
    share = refl;
  }

  -- an action, and those behind it
  worked_more : (rows : List Row) (k : ℕ) (action : Action) (later : List Action)
      (r : Result (Unit {0}) NorFault) (o a z : Own B Did)
      → HasActed rows k action (Ok tt) o a → HasWorkedFrom rows (k + 1) later r a z
      → HasWorkedFrom rows k (action ∷ later) r o z
  worked_more rows k action later r o a z x y =
      let own : a.regs ≡ regs_after o.regs action = ap (λ (w : Own B Did). w.regs) x.adds.is in
      let last : regs_by a.regs y.items ≡ regs_by o.regs (x.items ++ y.items) =
      ap (λ (w : Regs). regs_by w y.items)
      (own ∙ sym (left_regs rows k o.regs action x.items x.acted))
      ∙ sym (regs_by-append o.regs x.items y.items) in
      let end_regs : Regs = regs_by o.regs (x.items ++ y.items) in
      record {
        items = x.items ++ y.items;
        adds = adds_then x.items y.items (set_to o end_regs) (set_to a end_regs) z
            (adds_set x.items end_regs (set_to o (regs_after o.regs action)) a x.adds)
            (subst (λ (w : Regs). Adds y.items (set_to a w) z) last y.adds);
        share = joined rows k o.regs action later r x.items y.items x.acted
            (subst (λ (w : Regs). ShareFrom rows (k + 1) w later r y.items) own y.share);
      }

  -- an action in which the device refused
  worked_stop : (rows : List Row) (k : ℕ) (action : Action) (later : List Action)
      (why : NorFault) (o a : Own B Did) → HasActed rows k action (Err why) o a
      → HasWorkedFrom rows k (action ∷ later) (Err why) o a
  worked_stop rows k action later why o a x = record {
    items = x.items;
    adds = subst (λ (w : Regs). Adds x.items (set_to o w) a)
        (sym (ended_regs rows why k o.regs action x.items x.acted)) x.adds;
    share = inl x.acted;
  }

-- the action at a place, and those behind it
pub drop_at : (script : List Action) (i : ℕ) (action : Action)
    → slice_get script i ≡ Some action → drop i script ≡ action ∷ drop (suc i) script
drop_at [] i action is = absurd cc
drop_at (x ∷ xs) zero action is =
    let same : x ≡ action = cc in ap (λ (a : Action). a ∷ xs) same
drop_at (x ∷ xs) (suc i) action is = drop_at xs i action is

-- behind the last one there is none
pub dropped : (script : List Action) (i : ℕ) → length script ≤ i → drop i script ≡ []
dropped [] zero behind = refl
dropped [] (suc i) behind = refl
dropped (x ∷ xs) zero behind = absurd (omega arith)
dropped (x ∷ xs) (suc i) behind = dropped xs i (omega arith)

-- so many actions of a script were done: those to come can be done, and whatever they come to,
-- the whole script does
pub record IsAt {S K P : Type 0} (part : K → ℕ → P) (grants : P → Step → Type 0)
    (moved : P → Step → P) (rows : List Row) (script : List Action) (i : ℕ)
    (o o' : Own (Base S K) Did) : Type 0 where
  pub can : CanWork part grants moved rows (drop i script) o'
  pub on : (r : Result (Unit {0}) NorFault) (z : Own (Base S K) Did)
      → HasWorkedFrom rows (i + 1) (drop i script) r o' z → HasWorked rows script r o z

module _ {S K P : Type 0} (part : K → ℕ → P) (grants : P → Step → Type 0)
    (moved : P → Step → P) where
  pub at_first : (rows : List Row) (script : List Action) (o : Own (Base S K) Did)
      → CanWork part grants moved rows script o → IsAt part grants moved rows script 0 o o
  at_first rows script o can = record { can = can; on = λ r z w. w }

  -- the next action can be done
  pub at_can : (rows : List Row) (script : List Action) (i : ℕ) (action : Action)
      (o o' : Own (Base S K) Did) → slice_get script i ≡ Some action → IsInBounds action
      → IsAt part grants moved rows script i o o' → CanAct part grants moved rows action o'
  at_can rows script i action o o' is bounds at =
      can_first part grants moved o' rows action (drop (suc i) script) bounds
      (subst (λ (s : List Action). CanWork part grants moved rows s o') (drop_at script i action is)
      at.can)

  -- it was done
  pub at_next : (rows : List Row) (script : List Action) (i : ℕ) (action : Action)
      (o o' a : Own (Base S K) Did) → slice_get script i ≡ Some action → IsInBounds action
      → IsAt part grants moved rows script i o o' → HasActed rows (i + 1) action (Ok tt) o' a
      → IsAt part grants moved rows script (i + 1) o a
  at_next rows script i action o o' a is bounds at x =
      let here = drop_at script i action is in
      subst (λ (n : ℕ). IsAt part grants moved rows script n o a) (sym (add-one i))
      (record {
        can = can_rest part grants moved o' a rows (i + 1) action (drop (suc i) script) bounds
            (subst (λ (s : List Action). CanWork part grants moved rows s o') here at.can) x;
        on = λ r z w. at.on r z
            (subst (λ (s : List Action). HasWorkedFrom rows (i + 1) s r o' z) (sym here)
            (worked_more rows (i + 1) action (drop (suc i) script) r o' a z x
            (subst (λ (n : ℕ). HasWorkedFrom rows (n + 1) (drop (suc i) script) r a z)
            (sym (add-one i)) w)));
      })

  -- the device refused in it
  stopped : (rows : List Row) (script : List Action) (i : ℕ) (action : Action) (why : NorFault)
      (o o' a : Own (Base S K) Did) → slice_get script i ≡ Some action
      → IsAt part grants moved rows script i o o' → HasActed rows (i + 1) action (Err why) o' a
      → HasWorked rows script (Err why) o a
  stopped rows script i action why o o' a is at x =
      at.on (Err why) a
      (subst (λ (s : List Action). HasWorkedFrom rows (i + 1) s (Err why) o' a)
      (sym (drop_at script i action is))
      (worked_stop rows (i + 1) action (drop (suc i) script) why o' a x))

  pub at_stop : (rows : List Row) (script : List Action) (i : ℕ) (action : Action)
      (refusal : StepNo) (o o' a : Own (Base S K) Did) → slice_get script i ≡ Some action
      → IsAt part grants moved rows script i o o'
      → HasActed rows (i + 1) action (fault_of (Err refusal)) o' a
      → HasWorked rows script (fault_of (Err refusal)) o a
  at_stop rows script i action Device o o' a is at x =
      stopped rows script i action _ o o' a is at x
  at_stop rows script i action Cut o o' a is at x =
      stopped rows script i action _ o o' a is at x

  -- all were done
  pub at_end : (rows : List Row) (script : List Action) (i : ℕ) (o o' : Own (Base S K) Did)
      → drop i script ≡ [] → IsAt part grants moved rows script i o o'
      → HasWorked rows script (Ok tt) o o'
  at_end rows script i o o' none at =
      at.on (Ok tt) o'
      (subst (λ (s : List Action). HasWorkedFrom rows (i + 1) s (Ok tt) o' o') (sym none)
      (worked_none rows (i + 1) o'))

  -- a core that only saw more of the run
  pub can_kept : (rows : List Row) (script : List Action) (o a : Own (Base S K) Did) → Keeps o a
      → CanWork part grants moved rows script o → CanWork part grants moved rows script a
  can_kept rows script o a keeps can =
      subst (λ (z : Own (Base S K) Did). CanWork part grants moved rows script z) (sym keeps.is)
      (record { mask = can.mask; base = can.base; room = can.room; may = can.may })

-- the work, from rest to rest
pub worked_kept : {B : Type 0} (rows : List Row) (k : ℕ) (script : List Action)
    (r : Result (Unit {0}) NorFault) (o a b c : Own B Did) → Keeps o a
    → HasWorkedFrom rows k script r a b → Keeps b c → HasWorkedFrom rows k script r o c
worked_kept rows k script r o a b c first x last =
    let own : a.regs ≡ o.regs = ap (λ (w : Own _ Did). w.regs) first.is in
    let end_regs : Regs = regs_by o.regs x.items in
    record {
      items = x.items;
      adds = adds_keeps x.items (set_to o end_regs) b c
          (keeps_adds x.items (set_to o end_regs) (set_to a end_regs) b
          (record { is = ap (λ (w : Own _ Did). set_to w end_regs) first.is; works = first.works })
          (subst (λ (w : Regs). Adds x.items (set_to a (regs_by w x.items)) b) own x.adds)) last;
      share = subst (λ (w : Regs). ShareFrom rows k w script r x.items) own x.share;
    }
