-- A fetch, by its answer.
use Rattle.std.specs.Prelude.{◌≡◌, ℕ, ◌<◌, Bool, false, List, [], ◌∷◌, length, drop, refl, Option, Some, None, Result, Ok, Err, IfSome}
use Rattle.std.proofs.Common.{◌∙◌, sym, ap, subst, arith}
use Rattle.std.proofs.Math.Seq.{drop_at}
use Rattle.core_state.specs.declared.registers.Regs.{Regs}
use Rattle.core_state.specs.Sharing.{GoesOn}
use Rattle.nor_device.specs.declared.step.Step.{Step}
use Rattle.nor_device.specs.declared.nor.StepEnd.{StepEnd}
use Rattle.nor_device.specs.declared.nor.NorFault.{NorFault}
use Rattle.nor_device.specs.declared.nor.NorFault.TheVariants.{Failed, Off}
use Rattle.bus_hub.specs.declared.reads.FetchNo.{FetchNo}
use Rattle.bus_hub.specs.declared.reads.FetchNo.TheVariants as refusals
use Rattle.bus_hub.specs.declared.span.Span.{Span}
use Rattle.bus_hub.specs.declared.did.Did.{Did}
use Rattle.bus_hub.specs.declared.did.Did.TheVariants.{Fetched, Missed, Masked, Unfetched}
use Rattle.bus_hub.specs.declared.did.Base.{Base}
use Rattle.bus_hub.specs.Log.{State, Rule, change}
use Rattle.bus_hub.specs.Fetch.{IsReachable, IsUnmapped, IsRead, IsServed}
use Rattle.bus_hub.specs.Hub.{Hub, Fits, Stands, state_of}
use Rattle.bus_hub.specs.Told.{Asks, IsSplit, IsBothParts, IsFetched, IsDenied, Fetches, with_device, fetched, fetch_items, added}
use Rattle.bus_hub.proofs.Adds.{adds}
use Rattle.bus_hub.proofs.Stepping.{power_on, powered, refused}
use Rattle.bus_hub.proofs.Spans.{split_reaches, parts_read}

module _ {D S K P : Type 0}
    (bytes : D → Option (List ℕ)) (size : D → ℕ) (off : D → Bool) (steps faults : D → ℕ)
    (setting : D → S)
    (may_end : S → ℕ → StepEnd → Type 0) (may_tear : S → ℕ → List ℕ → Step → List ℕ → Type 0)
    (may_refuse : S → ℕ → NorFault → Type 0) (must_refuse : S → ℕ → Type 0)
    (part : K → ℕ → P) (grants : P → Step → Type 0) (after : K → ℕ → Step → K)
    (good : List ℕ → K → List ℕ → Type 0)
    (sized : (device : D) (flash : List ℕ) → bytes device ≡ Some flash
    → length flash ≡ size device) where
  abbrev pub StandsBy : Hub D K → Base S K → List Did → List Did → Type 0
  StandsBy = Stands bytes off steps faults setting may_end may_tear may_refuse must_refuse
      part grants after good

  -- the device refused a read of a range that is there and served
  pub denied_is : (old new : Hub D K) (regs : Regs) (at len : ℕ) (span : Span)
      (r : Result (Unit {0}) NorFault) (why : NorFault)
      → IsSplit old.map (size old.dev) at len span → IsServed regs.mask at → r ≡ Err why
      → Asks bytes size off steps faults setting may_refuse must_refuse old.dev new.dev r
      → new ≡ with_device old new.dev
      → IsDenied bytes size off steps faults setting may_refuse must_refuse old new regs at len why
  denied_is old new regs at len span r why split served is a same = record {
    reachable = split_reaches old.map (size old.dev) at len span split;
    served = served;
    device = subst (λ (x : Result (Unit {0}) NorFault). Asks bytes size off steps faults setting
        may_refuse must_refuse old.dev new.dev x) is a;
    is = same;
  }

  -- the bytes were read and noted
  pub fetched_is : (old mid new : Hub D K) (c k : ℕ) (regs : Regs) (at len : ℕ) (span : Span)
      (r : Result (Unit {0}) NorFault) (out : List ℕ)
      → IsSplit old.map (size old.dev) at len span → IsServed regs.mask at → r ≡ Ok tt
      → Asks bytes size off steps faults setting may_refuse must_refuse old.dev mid.dev r
      → mid ≡ with_device old mid.dev → length out ≡ len
      → IsBothParts (bytes old.dev) span out → new ≡ fetched mid c k regs at out
      → IsFetched bytes size off steps faults setting may_refuse must_refuse old new c k regs at len
  fetched_is old mid new c k regs at len span r out split served is a same many parts kept =
      let there : new ≡ fetched (with_device old mid.dev) c k regs at out =
      kept ∙ ap (λ (h : Hub D K). fetched h c k regs at out) same in
      let dev_is : mid.dev ≡ new.dev = sym (ap (λ (h : Hub D K). h.dev) there) in
      record {
        data_bytes = out;
        many = many;
        reachable = split_reaches old.map (size old.dev) at len span split;
        served = served;
        device = subst (λ (d : D). Asks bytes size off steps faults setting may_refuse must_refuse
            old.dev d (Ok tt)) dev_is
            (subst (λ (x : Result (Unit {0}) NorFault). Asks bytes size off steps faults setting
            may_refuse must_refuse old.dev mid.dev x) is a);
        read = parts_read old.map (size old.dev) at span (bytes old.dev) out
            (subst (λ (n : ℕ). IsSplit old.map (size old.dev) at n span) (sym many) split)
            (sized old.dev) parts;
        is = there ∙ ap (λ (d : D). fetched (with_device old d) c k regs at out) dev_is;
      }

  -- what was added to the journal
  added_is : (old new : Hub D K) (dev : D) (c k : ℕ) (regs : Regs) (at : ℕ) (out : List ℕ)
      → new ≡ fetched (with_device old dev) c k regs at out → added old.journal new.journal ≡ out
  added_is old new dev c k regs at out is =
      ap (λ (h : Hub D K). drop (length old.journal.bytes) h.journal.bytes) is
      ∙ drop_at old.journal.bytes out (length old.journal.bytes) refl

  -- an answered fetch is an entry with its bytes
  entry_is : (old new : Hub D K) (c k : ℕ) (regs : Regs) (at len : ℕ) → c < 2
      → old.running ≡ None
      → IsFetched bytes size off steps faults setting may_refuse must_refuse old new c k regs at len
      → GoesOn StandsBy Fits old new c (Fetched k regs at (added old.journal new.journal) ∷ [])
  entry_is old new c k regs at len small idle f =
      let on : off new.dev ≡ false =
      power_on tt (faults old.dev) (faults new.dev) (off new.dev) f.device.cause in
      let out_is = added_is old new new.dev c k regs at f.data_bytes f.is in
      subst (λ (out : List ℕ). GoesOn StandsBy Fits old new c (Fetched k regs at out ∷ []))
      (sym out_is)
      (subst (λ (h : Hub D K). GoesOn StandsBy Fits old h c (Fetched k regs at f.data_bytes ∷ []))
      (sym f.is)
      (adds bytes off steps faults setting may_end may_tear may_refuse must_refuse
      part grants after good
      old (fetched (with_device old new.dev) c k regs at f.data_bytes) c
      (Fetched k regs at f.data_bytes) small (λ flash noted is_off told counted power. record {
        rule = (
          idle,
          f.device.stopped,
          subst (λ (t : Option (List ℕ)). IfSome t (λ g. IsRead old.map g at f.data_bytes)) told
              f.read,
        );
        flash_after = flash;
        told = f.device.told ∙ told;
        noted_after = noted;
        counted = omega (arith, counted, f.device.cause.later);
        is_off_after = false;
        power = powered (off new.dev) (must_refuse (setting old.dev) (steps new.dev)) on;
        setting_same = f.device.setting_same;
        left_room = refl;
        right_room = refl;
        leads = ap (λ (n : ℕ). state_of (fetched (with_device old new.dev) c k regs at f.data_bytes)
            flash n noted false) (sym f.device.steps_same);
      })))

  -- a refused one is a mark
  mark_is : (old new : Hub D K) (c : ℕ) (did : Did) → c < 2 → new ≡ old
      → ((flash : List ℕ) (noted : ℕ) (is_off : Bool) → bytes old.dev ≡ Some flash
      → Rule may_end may_tear may_refuse must_refuse part grants after (setting old.dev)
      (state_of old flash (steps old.dev) noted is_off) c did)
      → ((s : State K) → change after s c did ≡ s)
      → GoesOn StandsBy Fits old new c (did ∷ [])
  mark_is old new c did small same rule none =
      subst (λ (h : Hub D K). GoesOn StandsBy Fits old h c (did ∷ [])) (sym same)
      (adds bytes off steps faults setting may_end may_tear may_refuse must_refuse
      part grants after good
      old old c did small (λ flash noted is_off told counted power. record {
        rule = rule flash noted is_off told;
        flash_after = flash;
        told = told;
        noted_after = noted;
        counted = counted;
        is_off_after = is_off;
        power = power;
        setting_same = refl;
        left_room = refl;
        right_room = refl;
        leads = none (state_of old flash (steps old.dev) noted is_off);
      }))

  -- a fetch that the device refused is a mark with its range
  denial_is : (old new : Hub D K) (c : ℕ) (regs : Regs) (at len : ℕ) (why : NorFault) → c < 2
      → old.running ≡ None
      → IsDenied bytes size off steps faults setting may_refuse must_refuse old new regs at len why
      → GoesOn StandsBy Fits old new c (Unfetched at len why ∷ [])
  denial_is old new c regs at len why small idle d =
      subst (λ (h : Hub D K). GoesOn StandsBy Fits old h c (Unfetched at len why ∷ [])) (sym d.is)
      (refused bytes off steps faults setting may_end may_tear may_refuse must_refuse
      part grants after good
      old new.dev c why (Unfetched at len why) small d.device.told d.device.steps_same
      d.device.setting_same d.device.cause (λ flash noted is_off told. (
        idle,
        d.device.allowed,
        subst (λ (n : ℕ). IsReachable old.map n at len) (sym (sized old.dev flash told)) d.reachable,
      )) (λ s. refl))

  -- a fetch
  pub fetches : (old new : Hub D K) (c k : ℕ) (regs : Regs) (at len : ℕ)
      (r : Result (Unit {0}) FetchNo) → c < 2 → old.running ≡ None
      → Fetches bytes size off steps faults setting may_refuse must_refuse old new c k regs at len r
      → GoesOn StandsBy Fits old new c
      (fetch_items k regs at len (added old.journal new.journal) r)
  fetches old new c k regs at len (Ok u) small idle f = entry_is old new c k regs at len small
      idle f
  fetches old new c k regs at len (Err refusals.Unmapped) small idle f =
      mark_is old new c (Missed at len) small f.1
      (λ flash noted is_off told. (
        idle,
        subst (λ (n : ℕ). IsUnmapped old.map n at len) (sym (sized old.dev flash told)) f.0,
      )) (λ s. refl)
  fetches old new c k regs at len (Err refusals.Masked) small idle f =
      mark_is old new c (Masked at len) small f.2
      (λ flash noted is_off told. (
        idle,
        subst (λ (n : ℕ). IsReachable old.map n at len) (sym (sized old.dev flash told)) f.0,
      )) (λ s. refl)
  fetches old new c k regs at len (Err refusals.Off) small idle f =
      denial_is old new c regs at len Off small idle f
  fetches old new c k regs at len (Err refusals.Failed) small idle f =
      denial_is old new c regs at len Failed small idle f
