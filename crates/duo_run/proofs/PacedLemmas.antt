-- What the pace of a leg is told, one call behind the other.
use Rattle.std.proofs.Common.{◌≡◌, ◌⊎◌, inl, inr, ℕ, zero, suc, ◌+◌, ◌-◌, ◌*◌, ◌/◌, ◌%◌, ◌^◌, ◌<◌, ◌≤◌, Bool, true, false, List, [], ◌∷◌, length, take, drop, Option, Some, None, IfOk, IsOk, OnOk, Result, Ok, Err, refl, sym, ap, ◌∙◌, subst, arith, length-drop}
use Rattle.std.specs.Prelude.{◌==◌, not, if◌then◌else◌, min}
use Rattle.std.proofs.lemmas.Bool.{cases_lt}
use Rattle.partition_table.specs.Layout.{Places}
use Rattle.image_verify.specs.declared.bad.BadImage.{BadImage}
use Rattle.image_verify.specs.Bad.{bad}
use Rattle.boot_run.specs.declared.aims.Aim.{Aim}
use Rattle.bus_hub.specs.declared.did.Base.{Base}
use Rattle.bus_hub.specs.declared.did.Did.{Did}
use Rattle.cache_gate.specs.Own.{Own}
use Rattle.flash_ops.specs.declared.pace.Point.{Point}
use Rattle.flash_ops.specs.declared.pace.Point.TheVariants.{WorkerAct, WorkerActDone}
use Rattle.flash_ops.specs.declared.refusal.StepNo.{StepNo}
use Rattle.flash_ops.specs.Told.{ToldOf, count_behind}
use Rattle.ota_session.specs.declared.refusal.EndNo.{EndNo}
use Rattle.ota_session.specs.declared.refusal.EndNo.TheVariants as refusals
use Rattle.ota_session.specs.declared.refusal.WriteNo.{WriteNo}
use Rattle.ota_session.specs.declared.refusal.WriteNo.TheVariants as writes
use Rattle.ota_session.specs.Course.{Confirm, Course, Install, Purpose}
use Rattle.ota_session.specs.SessionTold.{HasCountedSome, IsNotVerified, begin_periods, wrong_byte}
use Rattle.ota_session.specs.Stages.{Writing}
use Rattle.ota_session.proofs.CountLemmas.{counted_on}
use Rattle.power_cut.specs.declared.legs.LegEnd.{LegEnd}
use Rattle.power_cut.specs.declared.legs.Ran.{Ran}
use Rattle.power_cut.specs.Device.{IsWholeEnd}
use Rattle.power_cut.specs.Update.{slot_size}
use Rattle.duo_run.specs.Driving.{IsNotAllWritten, unsealed_as, unwritten_as}
use Rattle.duo_run.specs.Jobs.{IsAsLong, length_for}
use Rattle.duo_run.specs.Paced.{HasCountedNone, IsTold, IsToldLeg, TellsActs, TellsOps, ToldOfActs, closed_ops, entry_ops, image_ops, ops_for, pieces_of, session_ops}

-- ---- the actions of the other core

pub told_no_act : (told : Point → Type 0) → ToldOfActs told 0
told_no_act told k some within =
    let none : ⊥ = omega (arith, some, within) in absurd none

-- one action more
pub told_act : (told : Point → Type 0) (i : ℕ) → ToldOfActs told i → told (WorkerAct (i + 1))
    → told (WorkerActDone (i + 1)) → ToldOfActs told (i + 1)
told_act told i before begun done k some within = elim (cases_lt i k) [
  | inl last ↦
      let same : i + 1 ≡ k = omega (arith, last, within) in
      subst (λ (n : ℕ). told (WorkerAct n) × told (WorkerActDone n)) same (begun, done)
  | inr among ↦ before k some among
]

-- all of them
pub told_all : (told : Point → Type 0) (i n : ℕ) → n ≤ i → ToldOfActs told i → ToldOfActs told n
told_all told i n all acts k some within = acts k some (omega (arith, all, within))

-- ---- the quiet periods of a write, piece by piece

-- the pieces that are left are one fewer behind a piece
pub piece_counts : (before now whole : ℕ) (rest later : List ℕ) (n : ℕ) → later ≡ drop 4096 rest
    → 1 ≤ length rest → n ≡ 1 → now ≡ count_behind before n
    → count_behind before (pieces_of (length rest)) ≡ whole
    → count_behind now (pieces_of (length later)) ≡ whole
piece_counts before now whole rest later n back some one is left =
    let size : length later ≡ length (drop 4096 rest) = ap length back in
    let cut = length-drop 4096 rest in
    let more : pieces_of (length rest) ≡ pieces_of (length later) + 1 = omega arith in
    ap (λ (m : ℕ). count_behind m (pieces_of (length later))) (is ∙ ap (count_behind before) one)
    ∙ counted_on before 1 (pieces_of (length later)) (pieces_of (length rest)) more ∙ left

-- none is left
pub pieces_counted : (now whole : ℕ) (rest : List ℕ) → length rest ≡ 0
    → count_behind now (pieces_of (length rest)) ≡ whole → now ≡ whole
pieces_counted now whole rest none left =
    let gone : pieces_of (length rest) ≡ 0 = omega (arith, none) in
    sym (ap (count_behind now) gone) ∙ left

-- the first byte of all is refused before anything was counted
pub uncounted : (n first before now : ℕ) (refused_so : WriteNo)
    → ((byte : ℕ) → refused_so ≡ writes.FirstByte byte → before ≡ first)
    → HasCountedSome n refused_so before now → HasCountedNone refused_so first now
uncounted n first before now (writes.FirstByte byte) at_first is = is ∙ at_first byte refl
uncounted n first before now writes.Device at_first is = tt
uncounted n first before now writes.Cut at_first is = tt

-- ---- the end of a session

module _ {S : Type 0} (w : Writing (Base S Course)) where
  -- the image is not announced
  pub not_sealed_ops : (image : List ℕ) (refused_so : EndNo) (o : Own (Base S Course) Did) (n : ℕ)
      → IsNotVerified image w refused_so o
      → IfOk (unsealed_as refused_so) (λ end. n ≡ count_behind n (closed_ops w.target.size image))
  not_sealed_ops [] refusals.Empty o n x = refl
  not_sealed_ops (byte ∷ bytes) refusals.Empty o n x = let refused_so = x.0 in absurd cc
  not_sealed_ops [] (refusals.Bad why) o n x = absurd (x.0 refl)
  not_sealed_ops (byte ∷ bytes) (refusals.Bad why) o n x =
      sym (ap (λ (found : Option BadImage). count_behind n (entry_ops found)) x.1)
  not_sealed_ops image refusals.Device o n x = tt
  not_sealed_ops image refusals.Cut o n x = tt

-- ---- a whole session

wrong_ops : (size : ℕ) (image : List ℕ) (byte : ℕ) → wrong_byte 0 image ≡ Some byte
    → image_ops size image ≡ 0
unfolding wrong_byte
wrong_ops size [] byte is = absurd cc
wrong_ops size (first ∷ bytes) byte is = by (first == 0xE9) is
  where
    by : (mark : Bool) → (if not mark then Some first else None) ≡ Some byte
        → (if mark then pieces_of (length (first ∷ bytes)) + entry_ops (bad size (first ∷ bytes))
        else 0)
        ≡ 0
    by true is = absurd cc
    by false is = refl

right_ops : (size : ℕ) (image : List ℕ) → wrong_byte 0 image ≡ None
    → image_ops size image ≡ pieces_of (length image) + closed_ops size image
unfolding wrong_byte
right_ops size [] is = refl
right_ops size (first ∷ bytes) is = by (first == 0xE9) is
  where
    by : (mark : Bool) → (if not mark then Some first else None) ≡ None
        → (if mark then pieces_of (length (first ∷ bytes)) + entry_ops (bad size (first ∷ bytes))
        else 0)
        ≡ pieces_of (length (first ∷ bytes)) + entry_ops (bad size (first ∷ bytes))
    by true is = refl
    by false is = absurd cc

module _ (layout : Places) (aim : Aim) (image : List ℕ) where
  abbrev size : ℕ
  size = slot_size layout aim.slot

  -- the image is not written to its end
  pub unwritten_ops : {S : Type 0} (probe : Option ℕ) (w : Writing (Base S Course))
      (refused_so : WriteNo) (o : Own (Base S Course) Did) (before begun now : ℕ)
      → begun ≡ count_behind before (begin_periods aim)
      → IsNotAllWritten probe image w refused_so o → HasCountedNone refused_so begun now
      → IfOk (unwritten_as refused_so) (λ end. now ≡ count_behind before (session_ops layout aim image))
  unwritten_ops probe w (writes.FirstByte byte) o before begun now is x none =
      let no_more : begin_periods aim ≡ session_ops layout aim image =
      let gone = wrong_ops size image byte x.0 in omega arith in
      none ∙ is ∙ ap (count_behind before) no_more
  unwritten_ops probe w writes.Device o before begun now is x none = tt
  unwritten_ops probe w writes.Cut o before begun now is x none = tt

  -- it is
  pub session_counts : (before begun written now closes : ℕ) (r : Result LegEnd StepNo)
      → wrong_byte 0 image ≡ None → begun ≡ count_behind before (begin_periods aim)
      → written ≡ count_behind begun (pieces_of (length image)) → closes ≡ closed_ops size image
      → IfOk r (λ end. now ≡ count_behind written closes)
      → IfOk r (λ end. now ≡ count_behind before (session_ops layout aim image))
  session_counts before begun written now closes (Err why) right is next closing last = tt
  session_counts before begun written now closes (Ok end) right is next closing last =
      let all : session_ops layout aim image
      ≡ closes + (pieces_of (length image) + begin_periods aim) =
      let sum = right_ops size image right in omega (arith, closing) in
      last
      ∙ ap (λ (m : ℕ). count_behind m closes) (next
      ∙ ap (λ (m : ℕ). count_behind m (pieces_of (length image))) is
      ∙ counted_on before (begin_periods aim) (pieces_of (length image))
      (pieces_of (length image) + begin_periods aim) refl)
      ∙ counted_on before (pieces_of (length image) + begin_periods aim) closes
      (session_ops layout aim image) all

-- ---- a leg

-- a count that is small is the number itself
counted_small : (n : ℕ) → n < 2 ^ 32 → count_behind 0 n ≡ n
counted_small zero small = refl
counted_small (suc n) small =
    let before : count_behind 0 n ≡ n = counted_small n (omega (arith, small)) in
    ap (λ (m : ℕ). min (m + 1) (2 ^ 32 - 1)) before ∙ omega (arith, small)

entry_few : (found : Option BadImage) → entry_ops found ≤ 2
entry_few None = omega arith
entry_few (Some why) = omega arith

image_few : (size : ℕ) (image : List ℕ) → image_ops size image ≤ pieces_of (length image) + 2
image_few size [] = omega arith
image_few size (byte ∷ bytes) = by (byte == 0xE9)
  where
    by : (mark : Bool)
        → (if mark then pieces_of (length (byte ∷ bytes)) + entry_ops (bad size (byte ∷ bytes))
        else 0)
        ≤ pieces_of (length (byte ∷ bytes)) + 2
    by true = let few = entry_few (bad size (byte ∷ bytes)) in omega arith
    by false = omega arith

-- a job has few of them
pub few_ops : (layout : Places) (purpose : Purpose) → length_for purpose ≤ 2 ^ 24
    → IsAsLong purpose → ops_for layout purpose < 2 ^ 32
few_ops layout (Install aim image) small long =
    let few = image_few (slot_size layout aim.slot) image in omega (arith, few, small, long)
few_ops layout (Confirm write) small long = omega arith

-- of a driver and of another core that came to their ends
pub told_leg : (told : Point → Type 0) (ops acts : ℕ) (driven : Result LegEnd StepNo)
    (worked : Result (Unit {0}) StepNo) → ops < 2 ^ 32 → IsOk driven → IsOk worked
    → TellsOps told ops driven → TellsActs told acts worked → IsTold told ops acts
told_leg told ops acts (Ok end) (Ok u) small one other ops_told acts_told = record {
  driver = subst (λ (n : ℕ). ToldOf told 0 n) (counted_small ops small) ops_told;
  worker = acts_told;
}
told_leg told ops acts (Err why) worked small one other ops_told acts_told = absurd cc
told_leg told ops acts (Ok end) (Err why) small one other ops_told acts_told = absurd cc
