-- Where the other core makes no step, the flash of an update that was cut is that of its steps, of
-- which the chosen one is torn.
use Rattle.std.proofs.Common.{◌≡◌, inl, inr, ◌≤◌, ◌<◌, Bool, true, false, ℕ, ◌+◌, ◌-◌, ◌^◌, List, [], ◌∷◌, ◌++◌, length, length-append, append-nil, append_assoc, take, drop, Option, Some, None, Result, Ok, Err, refl, sym, ap, ◌∙◌, subst, arith}
use Rattle.std.specs.Prelude.{◌&&◌}
use Rattle.std.proofs.Math.Seq.{drop-append_seam, take-append_seam}
use Rattle.std.specs.Borrow.{Bor}
use Rattle.core_state.specs.Registers.{reset}
use Rattle.nor_device.specs.declared.step.Step.{Step}
use Rattle.nor_device.specs.declared.nor.StepEnd.TheVariants as ends
use Rattle.nor_device.specs.declared.nor.NorFault.{NorFault}
use Rattle.nor_device.specs.declared.nor.NorFault.TheVariants.{Failed, Off}
use Rattle.nor_device.specs.Flash.{after_steps}
use Rattle.nor_device.specs.Nor.{one_more}
use Rattle.nor_device.specs.Ram.{Ram}
use Rattle.nor_device.specs.Torn.{Torn}
use Rattle.nor_device.proofs.FlashLaws.{after_steps_append}
use Rattle.crash_images.specs.Cut.{CutDevice, IsAhead, NotBoth, restarted}
use Rattle.crash_images.specs.Tear.{torn_by}
use Rattle.crash_images.proofs.CutLaws.{chosen_tears}
use Rattle.partition_table.specs.declared.row.Row.{Row}
use Rattle.partition_table.specs.Layout.{Places, layout_in}
use Rattle.otadata.specs.Entry.{entry_bytes}
use Rattle.otadata.proofs.EntryLemmas.{length-entry_bytes}
use Rattle.rollback.specs.declared.rewrite.Rewrite.{Rewrite}
use Rattle.rollback.specs.Rewrite.{restated}
use Rattle.bus_hub.specs.declared.did.Did.{Did}
use Rattle.boot_run.specs.declared.aims.Aim.{Aim}
use Rattle.boot_run.specs.declared.booted.Booted.{Booted}
use Rattle.boot_run.specs.Made.{AreMadeBy, EachDone, StopsAt, count_after}
use Rattle.boot_run.specs.Rewriting.{rewrite, rewrites}
use Rattle.core_script.specs.declared.action.Action.{Action}
use Rattle.flash_steps.specs.Parts.{open_addresses}
use Rattle.update_steps.specs.Driver.{driver_steps}
use Rattle.update_steps.proofs.SessionLemmas.{ShowsNone}
use Rattle.ota_session.specs.Stages.{confirm_moves, session_moves}
use Rattle.ota_session.proofs.MoveLemmas.{steps_of_entry}
use Rattle.ota_session.proofs.SessionLemmas.{steps_of_session}
use Rattle.power_cut.specs.declared.legs.Leg.{Leg}
use Rattle.power_cut.specs.declared.legs.LegEnd.{LegEnd}
use Rattle.power_cut.specs.declared.legs.LegEnd.TheVariants.{Done, Cut}
use Rattle.power_cut.specs.declared.legs.Ran.{Ran}
use Rattle.power_cut.specs.declared.legs.Upto.{Upto}
use Rattle.power_cut.specs.declared.outcome.Trial.{Trial}
use Rattle.power_cut.specs.Behind.{IsAnnounced}
use Rattle.power_cut.specs.Counts.{opened_in}
use Rattle.power_cut.specs.Device.{BrokeAt, HasEnd, IsWholeEnd, MayEnd, MayRefuse, MayTear, MustRefuse, RamMayEnd, RamMayRefuse, setting_of}
use Rattle.power_cut.specs.Kept.{MayConfirm}
use Rattle.power_cut.specs.Leg.{share_of}
use Rattle.power_cut.specs.Update.{Opens, session_end, slot_size}
use Rattle.power_cut.specs.Whole.{BehindBoot, BehindSession, IsBootLeg, IsTrial, end_by, is_done, last_end, wants_boot, wants_confirm}
use Rattle.boot_run.specs.BootSteps.{boot_steps}
use Rattle.power_cut.proofs.BehindLemmas.{announced_writes, booted_waits, waiting}
use Rattle.power_cut.proofs.EndsLemmas.{by_choice}
use Rattle.power_cut.proofs.InstalledLemmas.{confirms_new, session_announces}
use Rattle.duo_run.specs.Both.{HasTable}
use Rattle.duo_run.specs.Legs.{IsDuoConfirm, IsDuoSession, ShowsApp}
use Rattle.duo_run.specs.Pages.{probe_in}
use Rattle.duo_run.specs.Worker.{WorkerShare, worker_steps}
use Rattle.duo_run.proofs.TakenLegs.{AnyMap, session_taken}
use Rattle.duo_run.proofs.TakenLemmas.{HasTaken, taken_few, worker_taken}
use Rattle.power_cut.specs.CutFlash.{all_steps, cut_flash, cut_in, torn_by_first}
use Rattle.duo_run.proofs.BegunLemmas.{BeginsSteps, begun_in, moved_begun, none_begun}
use Rattle.duo_run.proofs.BrokenLemmas.{AreAllMade, IsTornIn, leg_made, leg_torn}
use Rattle.update_run.proofs.EndLemmas.{Chooses, Leads, again, done_is, leads, second_true}
use Rattle.duo_run.proofs.TakenTrials.{apart, theirs}

-- ---- one list of steps

-- the torn step of a list is the k-th one
cut_at : (flash : List ℕ) (steps made rest : List Step) (step : Step) (k tear : ℕ)
    → steps ≡ made ++ step ∷ rest → k ≡ length made + 1
    → torn_by (after_steps flash made) step tear ≡ cut_in flash steps k tear
cut_at flash steps made rest step k tear split number =
    let place : k - 1 ≡ length made = omega (arith, number) in
    let front : take (k - 1) steps ≡ made =
    ap (λ n. take n steps) place ∙ ap (take (length made)) split
    ∙ take-append_seam made (step ∷ rest) in
    let back : drop (k - 1) steps ≡ step ∷ rest =
    ap (λ n. drop n steps) place ∙ ap (drop (length made)) split
    ∙ drop-append_seam made (step ∷ rest) in
    sym (ap (λ (l : List Step). torn_by_first (after_steps flash (take (k - 1) steps)) l tear) back
    ∙ ap (λ (l : List Step). torn_by (after_steps flash l) step tear) front)

-- the torn step of a part of it, once the part in front is made
cut_behind : (flash : List ℕ) (front part back : List Step) (k tear : ℕ) (left : List ℕ)
    → IsTornIn (after_steps flash front) part tear (length front) k left
    → left ≡ cut_in flash (front ++ (part ++ back)) k tear
cut_behind flash front part back k tear left torn =
    let split : front ++ (part ++ back)
    ≡ (front ++ torn.made) ++ torn.step ∷ (torn.rest ++ back) =
    ap (λ (l : List Step). front ++ (l ++ back)) torn.split
    ∙ ap (λ (l : List Step). front ++ l) (append_assoc torn.made (torn.step ∷ torn.rest) back)
    ∙ sym (append_assoc front torn.made (torn.step ∷ (torn.rest ++ back))) in
    let number : k ≡ length (front ++ torn.made) + 1 =
    (let counted = torn.counted in let both = length-append front torn.made in
    omega (arith, counted, both)) in
    torn.left_is
    ∙ sym (ap (λ (f : List ℕ). torn_by f torn.step tear)
    (after_steps_append flash front torn.made))
    ∙ cut_at flash (front ++ (part ++ back)) (front ++ torn.made) (torn.rest ++ back) torn.step k
    tear split number

-- ---- a boot

-- the number of steps once these were begun, as long as the count can show them
count_is : (n : ℕ) (steps : List Step) → n + length steps ≤ 2 ^ 64 - 1
    → count_after n steps ≡ n + length steps
count_is n [] small = omega arith
count_is n (step ∷ steps) small =
    let one : one_more n ≡ n + 1 = grind (arith, small) in
    let later = count_is (n + 1) steps (omega (arith, small)) in
    let here = ap (λ m. count_after m steps) one in omega (arith, later, here)

module _ (layout : Places) (old new : CutDevice Ram) (leg : Leg)
    (boot : IsBootLeg layout old new leg)
    (small : old.steps + length (boot_steps layout old.inner.bytes) ≤ 2 ^ 64 - 1) where
  abbrev steps : List Step
  steps = boot_steps layout old.inner.bytes

  abbrev Made : Result (Option Booted) NorFault → Type 0
  Made answer = AreMadeBy MayEnd MayTear MayRefuse MustRefuse (setting_of old) steps old.steps
      new.steps (Some old.inner.bytes) (Some new.inner.bytes) answer

  -- where it is done, all its steps are made
  pub boot_made : leg.end ≡ Done
      → AreAllMade old.inner.bytes steps old.steps new.steps new.inner.bytes
  boot_made end = at boot.answer boot.made (sym end ∙ boot.end)
    where
      at : (answer : Result (Option Booted) NorFault) → Made answer → Done ≡ end_by new.steps answer
          → AreAllMade old.inner.bytes steps old.steps new.steps new.inner.bytes
      at (Ok booted) made is = record {
        counted = made.counted ∙ count_is old.steps steps small;
        left_is = let e = made.bytes in cc;
      }
      at (Err Failed) made is = absurd cc
      at (Err Off) made is = absurd cc

  -- steps that ended whole leave the chosen number ahead
  still_ahead : (n : ℕ) (made : List Step)
      → EachDone MayEnd MayTear MayRefuse MustRefuse (setting_of old) n made → IsAhead old.cut n
      → IsAhead old.cut (count_after n made)
  still_ahead n [] each ahead = ahead
  still_ahead n (step ∷ made) each ahead =
      still_ahead (one_more n) made each.1
      (by_choice (setting_of old) (one_more n) ends.Done each.0.ended).0

  -- where the power went off in it, the chosen one is torn
  pub boot_torn : (k : ℕ) → leg.end ≡ Cut k
      → IsTornIn old.inner.bytes steps old.tear old.steps new.steps new.inner.bytes
  boot_torn k end = at boot.answer boot.made (sym end ∙ boot.end)
    where
      broke : BrokeAt old.cut old.steps new.steps k
      broke = subst (HasEnd old new.steps Done) end boot.ran.end

      -- all that were begun were made: then the chosen one is ahead
      never : (made : List Step)
          → EachDone MayEnd MayTear MayRefuse MustRefuse (setting_of old) old.steps made
          → new.steps ≡ count_after old.steps made → ⊥
      never made each counted =
          let first : IsAhead old.cut old.steps =
          subst (λ (c : Option ℕ). IsAhead c old.steps) (sym broke.chosen_is) broke.later in
          let ahead : count_after old.steps made < k =
          subst (λ (c : Option ℕ). IsAhead c (count_after old.steps made)) broke.chosen_is
          (still_ahead old.steps made each first) in
          let last = broke.last in omega (arith, ahead, last, counted)

      tears : (flash : List ℕ) (step : Step)
          → (left : List ℕ) × (Some new.inner.bytes ≡ Some left) × Torn flash step left
          × MayTear (setting_of old) new.steps flash step left
          → new.inner.bytes ≡ torn_by flash step old.tear
      tears flash step (left, is, torn, may) =
          let same : new.inner.bytes ≡ left = cc is in
          same ∙ (chosen_tears RamMayEnd RamMayRefuse (λ u m e e_is. e_is) (λ u m w no. no)
          (setting_of old) new.steps flash step left).0 may

      stops : (made rest : List Step) → steps ≡ made ++ rest
          → EachDone MayEnd MayTear MayRefuse MustRefuse (setting_of old) old.steps made
          → StopsAt MayEnd MayTear MayRefuse MustRefuse (setting_of old) made rest old.steps
          new.steps (Some old.inner.bytes) (Some new.inner.bytes) Off
          → IsTornIn old.inner.bytes steps old.tear old.steps new.steps new.inner.bytes
      stops made [] split each stop = absurd (never made each stop.counted)
      stops made (step ∷ rest) split each (inl stop) = absurd (never made each stop.counted)
      stops made (step ∷ rest) split each (inr stop) =
          let all = ap (λ (l : List Step). length l) split in
          let both = length-append made (step ∷ rest) in
          let count = count_is old.steps made (omega (arith, small, all, both)) in
          let next : one_more (count_after old.steps made) ≡ count_after old.steps made + 1 =
          grind (arith, small, all, both, count) in
          let counted = stop.counted in
          record {
            made = made;
            step = step;
            rest = rest;
            split = split;
            counted = omega (arith, counted, next, count);
            left_is = tears (after_steps old.inner.bytes made) step stop.left;
          }

      at : (answer : Result (Option Booted) NorFault) → Made answer
          → Cut k ≡ end_by new.steps answer
          → IsTornIn old.inner.bytes steps old.tear old.steps new.steps new.inner.bytes
      at (Ok booted) made is = absurd cc
      at (Err Failed) made is = absurd cc
      at (Err Off) made is = stops made.made made.rest made.split made.each made.stops

-- ---- an update

module _ (shown : ShowsNone) (rows : List Row) (script : List Action) (driver : ℕ)
    (below : driver < 2) (layout : Places) (aim : Aim) (image : List ℕ) (old : CutDevice Ram)
    (has : HasTable rows layout old.inner.bytes) (laid : layout_in old.inner.bytes ≡ Ok layout)
    (opens : Opens layout old.inner.bytes aim image) (silent : worker_steps rows script ≡ [])
    (k : ℕ) (chooses : Chooses (Some k) None 0 old)
    (short : length (driver_steps layout aim image) ≤ 2 ^ 40) where
  abbrev first : List ℕ
  first = old.inner.bytes

  abbrev session_list : List Step
  session_list = driver_steps layout aim image

  abbrev written : List ℕ
  written = after_steps first session_list

  abbrev boot_list : List Step
  boot_list = boot_steps layout written

  abbrev confirm_list : List Step
  confirm_list = rewrite layout.otadata (restated 2 aim.next.sector aim.next.entry)

  abbrev whole : LegEnd
  whole = session_end (slot_size layout aim.slot) image

  abbrev confirms : CutDevice Ram → Bor Booted → Bor Rewrite → Ran → Type 0
  confirms dev at write ran = IsDuoConfirm rows script driver layout at.now write.now dev ran

  -- the other core begins none
  none_by : (r : Result (Unit {0}) NorFault) (share : List Did)
      → WorkerShare rows reset script r share → begun_in share ≡ []
  none_by r share is =
      none_begun share (subst (λ (w : List Step). opened_in share ≤ length w) silent
      (taken_few (worker_steps rows script) r share (worker_taken rows script r share is)))

  long : length (entry_bytes aim.next.entry) ≡ 32
  long =
      let label = opens.stored.sized.label in
      let bytes = length-entry_bytes aim.next.entry in omega (arith, label, bytes)

  one : NotBoth (Some k) None
  one = inr refl

  module _ (ran : Ran) (is : IsDuoSession rows script driver layout aim image old ran) where
    abbrev mine : List Did
    mine = share_of driver is.leg.leg.left is.leg.leg.right

    drove : BeginsSteps session_list is.leg.leg.drove mine
    drove = moved_begun 0 reset
        (session_moves layout aim (probe_in aim.info.segments.items) image) session_list
        is.leg.leg.drove mine
        (steps_of_session layout aim (probe_in aim.info.segments.items) opens.placed.aligned long
        image opens.length_is) is.leg.leg.driver_share

    worked : begun_in (share_of (1 - driver) is.leg.leg.left is.leg.leg.right) ≡ []
    worked = none_by is.leg.leg.worked _ is.leg.leg.worker_share

    few : old.steps + length session_list ≤ 2 ^ 64 - 1
    few = let fresh = chooses.steps_are in omega (arith, fresh, short)

    session_torn : ran.leg.end ≡ Cut k
        → ran.dev.inner.bytes ≡ cut_flash layout aim image first old.tear k
    session_torn end =
        let broke : BrokeAt old.cut old.steps ran.dev.steps k =
        subst (HasEnd old ran.dev.steps whole) end is.leg.ran_is.end in
        let torn = leg_torn _ _ driver _ _ old ran.dev ran.journal is.leg.leg below session_list
        drove worked few k broke chooses.fail_is in
        cut_behind first [] session_list (boot_list ++ confirm_list) k old.tear ran.dev.inner.bytes
        (subst (λ n. IsTornIn first session_list old.tear n k ran.dev.inner.bytes) chooses.steps_are
        (subst (λ n. IsTornIn first session_list old.tear old.steps n ran.dev.inner.bytes)
        broke.last torn))

    module _ (done : ran.leg.end ≡ Done) where
      ended : HasEnd old ran.dev.steps whole Done
      ended = subst (HasEnd old ran.dev.steps whole) done is.leg.ran_is.end

      made : AreAllMade first session_list old.steps ran.dev.steps ran.dev.inner.bytes
      made = leg_made _ _ driver _ _ old ran.dev ran.journal is.leg.leg below session_list
          drove worked few ended.0 (is.leg.both (subst IsWholeEnd (sym done) tt)).0

      mid : Chooses (Some k) None ran.leg.steps (restarted ran.dev)
      mid =
          let number : 0 + ran.leg.steps ≡ ran.leg.steps = omega arith in
          again (Some k) None ran.leg.steps whole ran.dev ran.leg.end
          (subst (λ n. Leads (Some k) None n whole ran.dev ran.leg.end) number
          (leads (Some k) None 0 old ran.dev whole ran.leg one chooses is.leg.ran_is)) done

      tear_is : ran.dev.tear ≡ old.tear
      tear_is = ap (λ set. set.tear) is.leg.ran_is.setting

      session_number : ran.dev.steps ≡ length session_list
      session_number =
          let counted = made.counted in
          let fresh = chooses.steps_are in omega (arith, counted, fresh)

      announced : IsAnnounced layout first aim image 0 ran.dev.inner.bytes
      announced = session_announces shown layout aim image old opens (open_addresses rows)
          (apart rows script driver layout aim image old has laid opens) (worker_steps rows script)
          (theirs rows script driver layout aim image old has laid opens) driver below
          (HasTaken session_list) (HasTaken (worker_steps rows script)) AnyMap ran
          (session_taken rows script driver (ShowsApp layout aim.running aim.info) layout
          (open_addresses rows) aim image old ran opens is.leg) done
          (λ share taken. taken.0) (λ share taken. taken.0)

      rewrites_are : boot_steps layout ran.dev.inner.bytes
          ≡ rewrite layout.otadata (waiting layout first aim image opens)
      rewrites_are = ap (rewrites layout.otadata)
          (announced_writes layout first aim image opens ran.dev.inner.bytes announced)

      module _ (dev : CutDevice Ram) (leg : Leg)
          (boot : IsBootLeg layout (restarted ran.dev) dev leg) where
        boot_few : (restarted ran.dev).steps + length (boot_steps layout ran.dev.inner.bytes)
            ≤ 2 ^ 64 - 1
        boot_few =
            let number = session_number in
            let two = ap (λ (l : List Step). length l) rewrites_are in
            omega (arith, number, two, short)

        booted_torn : leg.end ≡ Cut k
            → dev.inner.bytes ≡ cut_flash layout aim image first old.tear k
        booted_torn end =
            let broke : BrokeAt (restarted ran.dev).cut (restarted ran.dev).steps dev.steps k =
            subst (HasEnd (restarted ran.dev) dev.steps Done) end boot.ran.end in
            let torn = boot_torn layout (restarted ran.dev) dev leg boot boot_few k end in
            cut_behind first session_list boot_list confirm_list k old.tear dev.inner.bytes
            (subst (λ (f : List ℕ). IsTornIn f (boot_steps layout f) old.tear (length session_list)
            k dev.inner.bytes) made.left_is
            (subst (λ t. IsTornIn ran.dev.inner.bytes (boot_steps layout ran.dev.inner.bytes) t
            (length session_list) k dev.inner.bytes) tear_is
            (subst (λ n. IsTornIn ran.dev.inner.bytes (boot_steps layout ran.dev.inner.bytes)
            ran.dev.tear n k dev.inner.bytes) session_number
            (subst (λ n. IsTornIn ran.dev.inner.bytes (boot_steps layout ran.dev.inner.bytes)
            ran.dev.tear ran.dev.steps n dev.inner.bytes) broke.last torn))))

        module _ (booted : leg.end ≡ Done) (at : Bor Booted) (write : Bor Rewrite)
            (may : MayConfirm layout first dev at.now write.now) (last : Ran)
            (con : IsDuoConfirm rows script driver layout at.now write.now dev last) where
          all : AreAllMade ran.dev.inner.bytes (boot_steps layout ran.dev.inner.bytes)
              ran.dev.steps dev.steps dev.inner.bytes
          all = boot_made layout (restarted ran.dev) dev leg boot boot_few booted

          waits : IsAnnounced layout first aim image 1 dev.inner.bytes
          waits = subst (IsAnnounced layout first aim image 1)
              (sym (all.left_is ∙ ap (after_steps ran.dev.inner.bytes) rewrites_are))
              (booted_waits layout first aim image opens ran.dev.inner.bytes announced)

          write_is : write.now ≡ restated 2 aim.next.sector aim.next.entry
          write_is = confirms_new shown layout aim image old opens (open_addresses rows)
              (apart rows script driver layout aim image old has laid opens)
              (worker_steps rows script)
              (theirs rows script driver layout aim image old has laid opens) driver below
              dev at.now write.now waits may

          abbrev confirm_mine : List Did
          confirm_mine = share_of driver con.leg.leg.left con.leg.leg.right

          entry_long : length (entry_bytes write.now.entry) ≡ 32
          entry_long =
              let label = opens.stored.sized.label in
              let bytes = length-entry_bytes write.now.entry in
              let same = ap (λ (w : Rewrite). length w.entry.label) write_is in
              omega (arith, label, bytes, same)

          confirm_drove : BeginsSteps (rewrite layout.otadata write.now) con.leg.leg.drove
              confirm_mine
          confirm_drove = moved_begun 0 reset
              (confirm_moves layout write.now (probe_in at.now.info.segments.items))
              (rewrite layout.otadata write.now) con.leg.leg.drove confirm_mine
              (steps_of_entry (probe_in at.now.info.segments.items) layout.otadata write.now
              opens.placed.aligned entry_long) con.leg.leg.driver_share

          confirm_few : dev.steps + length (rewrite layout.otadata write.now) ≤ 2 ^ 64 - 1
          confirm_few =
              let number = session_number in
              let counted = all.counted in
              let two = ap (λ (l : List Step). length l) rewrites_are in
              omega (arith, number, counted, two, short)

          flash_is : dev.inner.bytes ≡ after_steps first (session_list ++ boot_list)
          flash_is = all.left_is
              ∙ ap (λ (f : List ℕ). after_steps f (boot_steps layout f)) made.left_is
              ∙ sym (after_steps_append first session_list boot_list)

          number_is : dev.steps ≡ length (session_list ++ boot_list)
          number_is =
              let number = session_number in
              let counted = all.counted in
              let same = ap (λ (f : List ℕ). length (boot_steps layout f)) made.left_is in
              let both = length-append session_list boot_list in
              omega (arith, number, counted, same, both)

          joined : (session_list ++ boot_list) ++ (confirm_list ++ [])
              ≡ all_steps layout aim image first
          joined =
              append_assoc session_list boot_list (confirm_list ++ [])
              ∙ ap (λ (l : List Step). session_list ++ (boot_list ++ l))
              (append-nil confirm_list)

          confirm_tear : dev.tear ≡ old.tear
          confirm_tear = ap (λ set. set.tear) boot.ran.setting ∙ tear_is

          confirm_fail : dev.fail ≡ None
          confirm_fail = ap (λ set. set.fail) boot.ran.setting ∙ mid.fail_is

          confirmed_torn : last.leg.end ≡ Cut k
              → last.dev.inner.bytes ≡ cut_flash layout aim image first old.tear k
          confirmed_torn end =
              let broke : BrokeAt dev.cut dev.steps last.dev.steps k =
              subst (HasEnd dev last.dev.steps Done) end con.leg.ran_is.end in
              let torn = leg_torn _ _ driver _ _ dev last.dev last.journal con.leg.leg below
              (rewrite layout.otadata write.now) confirm_drove
              (none_by con.leg.leg.worked _ con.leg.leg.worker_share) confirm_few k broke
              confirm_fail in
              cut_behind first (session_list ++ boot_list) confirm_list [] k old.tear
              last.dev.inner.bytes
              (subst (λ (f : List ℕ). IsTornIn f confirm_list old.tear
              (length (session_list ++ boot_list)) k last.dev.inner.bytes) flash_is
              (subst (λ (w : Rewrite). IsTornIn dev.inner.bytes (rewrite layout.otadata w) old.tear
              (length (session_list ++ boot_list)) k last.dev.inner.bytes) write_is
              (subst (λ t. IsTornIn dev.inner.bytes (rewrite layout.otadata write.now) t
              (length (session_list ++ boot_list)) k last.dev.inner.bytes) confirm_tear
              (subst (λ n. IsTornIn dev.inner.bytes (rewrite layout.otadata write.now) dev.tear
              n k last.dev.inner.bytes) number_is
              (subst (λ n. IsTornIn dev.inner.bytes (rewrite layout.otadata write.now) dev.tear
              dev.steps n last.dev.inner.bytes) broke.last torn)))))
              ∙ ap (λ (l : List Step). cut_in first l k old.tear) joined

        behind_boot : (upto : Upto) (t : Trial) (goes : Bool)
            → (wants_confirm upto && is_done leg.end) ≡ goes
            → BehindBoot confirms layout first aim image goes (ran.leg ∷ leg ∷ []) dev t
            → last_end Done t.legs.items ≡ Cut k
            → t.flash.items ≡ cut_flash layout aim image first old.tear k
        behind_boot upto t false halts ends end =
            ends.flash_is ∙ booted_torn (sym (ap (last_end Done) ends.legs_are) ∙ end)
        behind_boot upto t true goes ends end =
            ends.ends.flash_is
            ∙ confirmed_torn
            (done_is leg.end (second_true (wants_confirm upto) (is_done leg.end) goes))
            ends.at ends.write ends.may ends.ran ends.confirmed
            (sym (ap (last_end Done) ends.ends.legs_are) ∙ end)

    behind_session : (upto : Upto) (t : Trial) (goes : Bool)
        → (wants_boot upto && is_done ran.leg.end) ≡ goes
        → BehindSession confirms layout first aim image goes upto ran.leg ran.dev t
        → last_end Done t.legs.items ≡ Cut k
        → t.flash.items ≡ cut_flash layout aim image first old.tear k
    behind_session upto t false halts ends end =
        ends.flash_is ∙ session_torn (sym (ap (last_end Done) ends.legs_are) ∙ end)
    behind_session upto t true goes ends end =
        behind_boot
        (done_is ran.leg.end (second_true (wants_boot upto) (is_done ran.leg.end) goes)) ends.new
        ends.leg ends.booted upto t (wants_confirm upto && is_done ends.leg.end) refl ends.behind
        end

  -- an update that ends with a cut in step k leaves the flash of its steps whose k-th is torn
  pub trial_cut : (upto : Upto) (t : Trial)
      → IsTrial (λ ran. IsDuoSession rows script driver layout aim image old ran) confirms layout
      first aim image upto t
      → last_end Done t.legs.items ≡ Cut k
      → t.flash.items ≡ cut_flash layout aim image first old.tear k
  trial_cut upto t trial end =
      behind_session trial.session trial.written upto t
      (wants_boot upto && is_done trial.session.leg.end) refl trial.behind end
