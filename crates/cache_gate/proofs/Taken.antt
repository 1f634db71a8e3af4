-- What is known of the bus once the turn is taken, and what may be given back after a call of it.
use Rattle.std.proofs.Common.{◌≡◌, ℕ, zero, suc, ◌+◌, ◌<◌, ◌≤◌, ◌++◌, ◌∙◌, ap, subst, sym, refl, inl, List, [], ◌∷◌, Option, Some, None, Bool, true, false, eq-eqb, length, drop, length-append, arith, Result, Ok, Err}
use Rattle.std.proofs.Math.Seq.{drop-append_seam}
use Rattle.std.specs.Prelude.{IsNone, IsSome, IfSome, OnOk, OnErr, cond, ◌==◌, ◌≢◌, ◌↔◌}
use Rattle.std.specs.Int.{IsBitSet}
use Rattle.core_state.specs.declared.registers.Record.{Record}
use Rattle.core_state.specs.declared.registers.Regs.{Regs}
use Rattle.core_state.specs.Registers.{saved_and_masked, restored}
use Rattle.core_state.specs.Sharing.{GoesOn, in_order}
use Rattle.duo_machine.specs.declared.machine.Phase.TheVariants.{Running, Quiet}
use Rattle.duo_machine.specs.declared.events.Kind.TheVariants as kinds
use Rattle.duo_machine.specs.Machine.{other}
use Rattle.duo_machine.specs.Table.{IsAwake, bit_of}
use Rattle.park_words.specs.declared.view.View.{View}
use Rattle.park_words.specs.Views.{Seated, is_step_of}
use Rattle.park_words.specs.Rule.{StandsBy}
use Rattle.park_words.specs.Told.{Work, IsBeforeQuiet, HasTaken, HasGiven, Known, Gives, event_alone, items_alone}
use Rattle.park_words.proofs.Giving.{gives}
use Rattle.bus_hub.specs.declared.did.Did.{Did}
use Rattle.bus_hub.specs.declared.did.Did.TheVariants.{Opened, Closed, Broken, Fetched, Noted, Denied, Missed, Masked, Unfetched}
use Rattle.nor_device.specs.declared.step.Step.{Step}
use Rattle.nor_device.specs.declared.nor.Ready.{Ready}
use Rattle.nor_device.specs.declared.nor.Ready.TheVariants as answers
use Rattle.nor_device.specs.declared.nor.NorFault.{NorFault}
use Rattle.nor_device.specs.declared.nor.NorFault.TheVariants as whys
use Rattle.image_layout.specs.declared.space.Space.{Space}
use Rattle.image_layout.specs.declared.space.Space.TheVariants.{Data, Code}
use Rattle.bus_hub.specs.declared.reads.FetchNo.{FetchNo}
use Rattle.bus_hub.specs.declared.reads.FetchNo.TheVariants as refusals
use Rattle.bus_hub.specs.declared.did.Base.{Base}
use Rattle.bus_hub.specs.declared.did.Running.{Running as Going}
use Rattle.bus_hub.specs.declared.entry.Act.{Act}
use Rattle.bus_hub.specs.declared.entry.Act.TheVariants.{Set as SetAct}
use Rattle.bus_hub.specs.Room.{HasRoom as HasRoomNow}
use Rattle.bus_hub.specs.Fetch.{space_at, IsFixed, IsUnmapped}
use Rattle.bus_hub.specs.Fetch as serving
use Rattle.bus_hub.specs.Log.{run_of}
use Rattle.bus_hub.specs.Hub.{Hub, Fits, record_of, with_record, noted, core_of, needs, byte_needs, owed}
use Rattle.bus_hub.specs.Shares.{own_begun, open_from, begun_of}
use Rattle.bus_hub.specs.Told.{asked, started, polled, held, number_of, set_to, with_device, running_step, after_poll, fetch_items, added, Fetches, IsFetched}
use Rattle.bus_hub.proofs.Fixing.{not_unmapped}
use Rattle.mmu_map.specs.Map.{Map}
use Rattle.std.proofs.lemmas.Result.{on_ok_weaker}
use Rattle.nor_device.specs.Nor.{IsPart}
use Rattle.cache_gate.specs.Own.{HasRoom, HasRoomIn, OnBase, IsPartOf, held_of, behind}
use Rattle.cache_gate.specs.Said.{last_of, GivesRoom, HasRead, work_by, number_of_open, start_items, begun_items}
use Rattle.cache_gate.specs.declared.said.Said.TheVariants as said

-- no core's step runs, so none does
none_runs : (o : Option Going) → core_of o ≡ None → o ≡ None
none_runs None is = refl
none_runs (Some run) is = absurd (cc is)

-- the records of both cores, once that of one is another
own_record : {D K : Type 0} (h : Hub D K) (c : ℕ) (r : Record) → record_of (with_record h c r) c ≡ r
own_record h zero r = refl
own_record h (suc c) r = refl

other_record : {D K : Type 0} (h : Hub D K) (c : ℕ) (r : Record) → c < 2
    → record_of (with_record h c r) (other c) ≡ record_of h (other c)
other_record h zero r small = refl
other_record h (suc zero) r small = refl
other_record h (suc (suc c)) r small = absurd (omega arith)

same_records : {D K : Type 0} (x y : Hub D K) (n : ℕ) → y.left ≡ x.left → y.right ≡ x.right
    → record_of y n ≡ record_of x n
same_records x y zero left right = left
same_records x y (suc n) left right = right

-- the other record is kept and so is the running step
beside_with : {D K : Type 0} (x y : Hub D K) (c n : ℕ) (r : Record) → y ≡ with_record x c r → c ≡ n
    → c < 2 → record_of y (other n) ≡ record_of x (other n)
beside_with x y c n r is same small =
    ap (λ (h : Hub _ _). record_of h (other n)) is
    ∙ subst (λ (m : ℕ). record_of (with_record x c r) (other m) ≡ record_of x (other m)) same
    (other_record x c r small)

own_with : {D K : Type 0} (x y : Hub D K) (c n : ℕ) (r : Record) → y ≡ with_record x c r → c ≡ n
    → record_of y n ≡ r
own_with x y c n r is same =
    subst (λ (m : ℕ). record_of y m ≡ r) same
    (ap (λ (h : Hub _ _). record_of h c) is ∙ own_record x c r)

running_kept : {D K : Type 0} (h : Hub D K) (c : ℕ) (r : Record)
    → (with_record h c r).running ≡ h.running
running_kept h zero r = refl
running_kept h (suc c) r = refl

running_with : {D K : Type 0} (x y : Hub D K) (c : ℕ) (r : Record) → y ≡ with_record x c r
    → core_of y.running ≡ core_of x.running
running_with x y c r is =
    ap (λ (h : Hub _ _). core_of h.running) is ∙ ap core_of (running_kept x c r)

-- what two parts of a share need
pub needs-append : (a b : List Did) → needs (a ++ b) ≡ needs a + needs b
needs-append [] b = omega arith
needs-append (x ∷ a) b = let e = needs-append a b in omega arith

pub byte_needs-append : (a b : List Did) → byte_needs (a ++ b) ≡ byte_needs a + byte_needs b
byte_needs-append [] b = omega arith
byte_needs-append (x ∷ a) b = let e = byte_needs-append a b in omega arith

module _ {S K : Type 0} where
  -- where there is room, these items fit
  pub fits_room : (base : Option (Base S K)) (c : ℕ) (share items : List Did) (n m : ℕ)
      → HasRoom base c share n m → needs items ≤ n → byte_needs items ≤ m
      → (b : Base S K) → base ≡ Some b → Fits b c (share ++ items)
  fits_room base c share items n m room few small b is =
      let r : HasRoomIn b c share n m =
      subst (λ (o : Option (Base S K)). HasRoom o c share n m) is room in
      let e = needs-append share items in
      let f = byte_needs-append share items in
      let x = r.entries_fit in
      let y = r.bytes_fit in
      record { entries_fit = omega arith; bytes_fit = omega arith }

  -- items that need nothing fit
  pub fits_same : (base : Option (Base S K)) (c : ℕ) (share items : List Did)
      → IfSome base (λ b. Fits b c share) → needs items ≡ 0 → byte_needs items ≡ 0
      → (b : Base S K) → base ≡ Some b → Fits b c (share ++ items)
  fits_same base c share items fit few small b is =
      let r : Fits b c share =
      subst (λ (o : Option (Base S K)). IfSome o (λ b. Fits b c share)) is fit in
      let e = needs-append share items in
      let f = byte_needs-append share items in
      let x = r.entries_fit in
      let y = r.bytes_fit in
      record { entries_fit = omega arith; bytes_fit = omega arith }

  -- the room that a core has, the journal has
  pub room_taken : {D : Type 0} (s t : Seated (Base S K) Did) (x : Hub D K) (n m : ℕ) → HasTaken s t
      → IfSome t.view.base (λ b. GivesRoom b t.view.core t.view.share x)
      → HasRoom s.view.base s.view.core s.view.share n m → x.running ≡ None
      → HasRoomNow x.journal n m
  room_taken s t x n m taken each room idle =
      by_cases t.view.base each (subst (λ (z : Seated (Base S K) Did).
      HasRoom z.view.base z.view.core z.view.share n m) (sym taken.1) room)
    where
      by_cases : (base : Option (Base S K))
          → IfSome base (λ b. GivesRoom b t.view.core t.view.share x)
          → HasRoom base t.view.core t.view.share n m → HasRoomNow x.journal n m
      by_cases None each room = absurd room
      by_cases (Some b) each room =
          let r = each n m room.entries_fit room.bytes_fit in
          let none : owed x.running ≡ 0 = ap owed idle in
          let e = r.entries_fit in
          record { entries_fit = omega arith; bytes_fit = r.bytes_fit }

-- a fetch needs one entry and its bytes
fetch_needs : (k : ℕ) (regs : Regs) (at len : ℕ) (bytes : List ℕ) (r : Result (Unit {0}) FetchNo)
    → needs (fetch_items k regs at len bytes r) ≤ 1
fetch_needs k regs at len bytes (Ok _) = omega arith
fetch_needs k regs at len bytes (Err refusals.Unmapped) = omega arith
fetch_needs k regs at len bytes (Err refusals.Masked) = omega arith
fetch_needs k regs at len bytes (Err refusals.Off) = omega arith
fetch_needs k regs at len bytes (Err refusals.Failed) = omega arith

-- the bits of the mask are those of the machine
same_bit : (space : Space) → serving.bit_of space ≡ bit_of space
same_bit Data = refl
same_bit Code = refl

-- the number of the step that runs
number_by : (o : Option Going) (c : ℕ) → core_of o ≡ Some c
    → number_of_open (own_begun c o) ≡ number_of o
number_by None c is = absurd (cc is)
number_by (Some run) c is =
    let e : run.core ≡ c = cc is in
    ap (λ (b : Bool). number_of_open (cond b (begun_of (Some run)) None))
    (ap (λ (n : ℕ). n == c) e ∙ eq-eqb c c refl)

-- the bytes that were added last
last_added : (xs ys : List ℕ) (n : ℕ) → length ys ≡ n → last_of n (xs ++ ys) ≡ ys
last_added xs ys n many =
    let e = length-append xs ys in
    ap (λ (m : ℕ). drop m (xs ++ ys)) (omega arith) ∙ drop-append_seam xs ys

module _ {D S K : Type 0} (stands : Hub D K → Base S K → List Did → List Did → Type 0) where
  abbrev pub Knows : Hub D K → View (Base S K) Did → Type 0
  Knows = Known record_of (λ b. core_of b.running) stands

  abbrev pub MayGive : View (Base S K) Did → Hub D K → Work Did → Type 0
  MayGive = Gives record_of (λ b. core_of b.running) stands

  -- what stands for one base, of one core
  pub by_base : (x : Hub D K) (base : Option (Base S K)) (c : ℕ) (mine theirs : List Did)
      (Q : Base S K → Type 0) → ((b : Base S K) → in_order (stands x b) c mine theirs → Q b)
      → StandsBy stands x base c mine theirs → IfSome base Q
  by_base x None c mine theirs Q each s = tt
  by_base x (Some b) zero mine theirs Q each s = each b s
  by_base x (Some b) (suc c) mine theirs Q each s = each b s

  -- whichever core's share it is, the base and both shares are stood for
  pub in_either_order : (x : Hub D K) (b : Base S K) (c : ℕ) (mine theirs : List Did) (Q : Type 0)
      → ((left right : List Did) → stands x b left right → Q)
      → in_order (stands x b) c mine theirs → Q
  in_either_order x b zero mine theirs Q each s = each mine theirs s
  in_either_order x b (suc c) mine theirs Q each s = each theirs mine s

  module _ (s t : Seated (Base S K) Did) (x : Hub D K) (taken : HasTaken s t)
      (known : Knows x t.view) where
    same_phase : t.view.phase ≡ s.view.phase
    same_phase = ap (λ (z : Seated (Base S K) Did). z.view.phase) taken.1

    same_registers : t.view.registers ≡ s.view.registers
    same_registers = ap (λ (z : Seated (Base S K) Did). z.view.registers) taken.1

    -- while the core runs or owns the lock, nothing runs
    pub idle_awake : IsBeforeQuiet s.view.phase → x.running ≡ None
    idle_awake awake =
        none_runs x.running
        (known.running ∙ known.nothing_runs (subst IsBeforeQuiet (sym same_phase) awake))

    pub idle_running : s.view.phase ≡ Running → x.running ≡ None
    idle_running runs = idle_awake (inl runs)

    -- so does a quiet core find it that has no step of its own
    pub idle_quiet : s.view.phase ≡ Quiet → s.view.stepping ≡ false → x.running ≡ None
    idle_quiet quiet rests =
        none_runs x.running (known.running ∙ known.quiet_idle (same_phase ∙ quiet)
        (ap (λ (z : Seated (Base S K) Did). z.view.stepping) taken.1 ∙ rests))

    module _ (c : ℕ) (core : c ≡ t.view.core) where
      -- the registers of the core
      pub own_taken : record_of x c ≡ s.view.registers
      own_taken = ap (record_of x) core ∙ (known.own ∙ same_registers)

      own_view : record_of x c ≡ t.view.registers
      own_view = ap (record_of x) core ∙ known.own

      pub none_saved : IsNone s.view.registers.saved → IsNone (record_of x c).saved
      none_saved unsaved = subst (λ (r : Record). IsNone r.saved) (sym own_taken) unsaved

      pub some_saved : IsSome s.view.registers.saved → IsSome (record_of x c).saved
      some_saved saved = subst (λ (r : Record). IsSome r.saved) (sym own_taken) saved

      module _ (y : Hub D K) (small : c < 2)
          (fit : IfSome t.view.base (λ b. Fits b t.view.core t.view.share)) where
        -- a core saves its registers
        pub saves : IsAwake s.view.phase → IsNone s.view.registers.saved
            → y ≡ with_record x c (saved_and_masked (record_of x c)) → GoesOn stands Fits x y c []
            → MayGive t.view y (event_alone kinds.Save)
        saves awake unsaved is on =
            gives record_of (λ b. core_of b.running) stands Fits x y t.view (event_alone kinds.Save)
            c core known (beside_with x y c t.view.core _ is core small) (
              subst IsAwake (sym same_phase) awake,
              subst (λ (r : Record). IsNone r.saved) (sym same_registers) unsaved,
              own_with x y c t.view.core _ is core ∙ ap saved_and_masked own_view,
              running_with x y c _ is ∙ known.running,
            )
            on (fits_same t.view.base t.view.core t.view.share [] fit refl refl)

        -- it puts them back
        pub backs : IsAwake s.view.phase → IsSome s.view.registers.saved
            → y ≡ with_record x c (restored (record_of x c)) → GoesOn stands Fits x y c []
            → MayGive t.view y (event_alone kinds.Back)
        backs awake saved is on =
            gives record_of (λ b. core_of b.running) stands Fits x y t.view (event_alone kinds.Back)
            c core known (beside_with x y c t.view.core _ is core small) (
              subst IsAwake (sym same_phase) awake,
              subst (λ (r : Record). IsSome r.saved) (sym same_registers) saved,
              own_with x y c t.view.core _ is core ∙ ap restored own_view,
              running_with x y c _ is ∙ known.running,
            )
            on (fits_same t.view.base t.view.core t.view.share [] fit refl refl)

        -- what it had room for with its seat as it was
        room_kept : (n m : ℕ) → HasRoom s.view.base s.view.core s.view.share n m
            → HasRoom t.view.base t.view.core t.view.share n m
        room_kept n m room =
            subst (λ (z : Seated (Base S K) Did). HasRoom z.view.base z.view.core z.view.share n m)
            (sym taken.1) room

        -- nothing but journal, map or device is changed
        pub keeps_cores : (items : List Did) → y.left ≡ x.left → y.right ≡ x.right
            → y.running ≡ x.running → GoesOn stands Fits x y c items
            → ((b : Base S K) → t.view.base ≡ Some b → Fits b t.view.core (t.view.share ++ items))
            → MayGive t.view y (items_alone items)
        keeps_cores items left right run on fits =
            gives record_of (λ b. core_of b.running) stands Fits x y t.view (items_alone items)
            c core known (same_records x y (other t.view.core) left right) (
              same_records x y t.view.core left right ∙ known.own,
              ap core_of run ∙ known.running,
            )
            on fits

        -- it notes an entry
        pub notes : (k : ℕ) (r : Record) (act : Act) → r ≡ t.view.registers
            → y ≡ noted x c k (record_of x c).regs act
            → GoesOn stands Fits x y c (Noted k (record_of x c).regs act ∷ [])
            → HasRoom s.view.base s.view.core s.view.share 1 0
            → MayGive t.view y (items_alone (Noted k r.regs act ∷ []))
        notes k r act own is on room =
            keeps_cores (Noted k r.regs act ∷ []) (ap (λ (h : Hub D K). h.left) is)
            (ap (λ (h : Hub D K). h.right) is) (ap (λ (h : Hub D K). h.running) is)
            (subst (λ (q : Record). GoesOn stands Fits x y c (Noted k q.regs act ∷ []))
            (own_view ∙ sym own) on)
            (fits_room t.view.base t.view.core t.view.share (Noted k r.regs act ∷ []) 1 0
            (room_kept 1 0 room) (omega arith) (omega arith))

        -- it sets its registers
        pub sets : (k : ℕ) (regs : Regs) → s.view.phase ≡ Running
            → IsNone s.view.registers.saved → regs.mask ≤ 3
            → y ≡ set_to (noted x c k regs SetAct) c regs
            → GoesOn stands Fits x y c (Noted k regs SetAct ∷ [])
            → HasRoom s.view.base s.view.core s.view.share 1 0
            → MayGive t.view y (record { event = Some (kinds.Set regs); items = Noted k regs SetAct ∷ [] })
        sets k regs runs unsaved small_mask is on room =
            let z : Hub D K = noted x c k regs SetAct in
            let r : Record = record (record_of z c) { regs = regs } in
            gives record_of (λ b. core_of b.running) stands Fits x y t.view
            (record { event = Some (kinds.Set regs); items = Noted k regs SetAct ∷ [] })
            c core known
            (beside_with z y c t.view.core r is core small
            ∙ same_records z x (other t.view.core) refl refl) (
              same_phase ∙ runs,
              subst (λ (q : Record). IsNone q.saved) (sym same_registers) unsaved,
              small_mask,
              own_with z y c t.view.core r is core
                  ∙ ap (λ (q : Record). record q { regs = regs })
                  (same_records z x c refl refl ∙ own_view),
              running_with z y c r is ∙ known.running,
            )
            on (fits_room t.view.base t.view.core t.view.share (Noted k regs SetAct ∷ []) 1 0
            (room_kept 1 0 room) (omega arith) (omega arith))

        -- the device, or the map, is another
        pub reads : (r : Result (Unit {0}) NorFault) → y ≡ with_device x y.dev
            → GoesOn stands Fits x y c (asked r) → MayGive t.view y (items_alone (asked r))
        reads r is on =
            keeps_cores (asked r) (ap (λ (h : Hub D K). h.left) is)
            (ap (λ (h : Hub D K). h.right) is) (ap (λ (h : Hub D K). h.running) is) on
            (fits_same t.view.base t.view.core t.view.share (asked r) fit (none_asked r) (no_byte_asked r))
          where
            none_asked : (r : Result (Unit {0}) NorFault) → needs (asked r) ≡ 0
            none_asked (Ok _) = refl
            none_asked (Err why) = refl

            no_byte_asked : (r : Result (Unit {0}) NorFault) → byte_needs (asked r) ≡ 0
            no_byte_asked (Ok _) = refl
            no_byte_asked (Err why) = refl

        -- what the fetch added to the journal is at its end
        module _ (bytes : D → Option (List ℕ)) (size : D → ℕ) (off : D → Bool)
            (steps faults : D → ℕ) (setting : D → S) (may_refuse : S → ℕ → NorFault → Type 0)
            (must_refuse : S → ℕ → Type 0) (k at len : ℕ) (r0 : Record) (own : r0 ≡ t.view.registers)
          where
            abbrev pub Answered : Result (Unit {0}) FetchNo → Type 0
            Answered r =
                Fetches bytes size off steps faults setting may_refuse must_refuse x y c k
                (record_of x c).regs at len r

            regs_are : (record_of x c).regs ≡ r0.regs
            regs_are = ap (λ (q : Record). q.regs) (own_view ∙ sym own)

            read_last : (f : IsFetched bytes size off steps faults setting may_refuse must_refuse x y c k
                (record_of x c).regs at len) → last_of len y.journal.bytes ≡ f.data_bytes
            read_last f =
                ap (λ (h : Hub D K). last_of len h.journal.bytes) f.is
                ∙ last_added x.journal.bytes f.data_bytes len f.many

            read_added : (f : IsFetched bytes size off steps faults setting may_refuse must_refuse x y c k
                (record_of x c).regs at len) → added x.journal y.journal ≡ f.data_bytes
            read_added f =
                ap (λ (h : Hub D K). added x.journal h.journal) f.is
                ∙ drop-append_seam x.journal.bytes f.data_bytes

            -- a core fetches
            pub fetches : (r : Result (Unit {0}) FetchNo) → s.view.phase ≡ Running → Answered r
                → GoesOn stands Fits x y c
                (fetch_items k (record_of x c).regs at len (added x.journal y.journal) r)
                → HasRoom s.view.base s.view.core s.view.share 1 len
                → MayGive t.view y (work_by bytes (said.Fetched k r0.regs at len r) y)
            fetches (Ok u) runs f on room =
                let last = read_last f in
                gives record_of (λ b. core_of b.running) stands Fits x y t.view
                (work_by bytes (said.Fetched k r0.regs at len (Ok u)) y) c core known
                (same_records x y (other t.view.core) (ap (λ (h : Hub D K). h.left) f.is)
                (ap (λ (h : Hub D K). h.right) f.is)) (
                  same_phase ∙ runs,
                  subst (λ (z : ℕ × ℕ). IsBitSet z.0 z.1)
                      (λ i. (
                        (ap (λ (q : Record). q.regs.mask) own_view) i,
                        same_bit (space_at at) i,
                      )) f.served,
                  same_records x y t.view.core (ap (λ (h : Hub D K). h.left) f.is)
                      (ap (λ (h : Hub D K). h.right) f.is) ∙ known.own,
                  ap (λ (h : Hub D K). core_of h.running) f.is ∙ known.running,
                )
                (subst (λ (z : Regs × List ℕ). GoesOn stands Fits x y c (Fetched k z.0 at z.1 ∷ []))
                (λ i. (regs_are i, (read_added f ∙ sym last) i)) on)
                (fits_room t.view.base t.view.core t.view.share
                (Fetched k r0.regs at (last_of len y.journal.bytes) ∷ []) 1 len (room_kept 1 len room)
                (omega arith) (let e = ap length last in let m = f.many in omega arith))
            fetches (Err refusals.Unmapped) runs f on room =
                keeps_cores (Missed at len ∷ []) (ap (λ (h : Hub D K). h.left) f.1)
                (ap (λ (h : Hub D K). h.right) f.1) (ap (λ (h : Hub D K). h.running) f.1) on
                (fits_same t.view.base t.view.core t.view.share (Missed at len ∷ []) fit refl refl)
            fetches (Err refusals.Masked) runs f on room =
                keeps_cores (Masked at len ∷ []) (ap (λ (h : Hub D K). h.left) f.2)
                (ap (λ (h : Hub D K). h.right) f.2) (ap (λ (h : Hub D K). h.running) f.2) on
                (fits_same t.view.base t.view.core t.view.share (Masked at len ∷ []) fit refl refl)
            fetches (Err refusals.Off) runs f on room =
                keeps_cores (Unfetched at len whys.Off ∷ []) (ap (λ (h : Hub D K). h.left) f.is)
                (ap (λ (h : Hub D K). h.right) f.is) (ap (λ (h : Hub D K). h.running) f.is) on
                (fits_same t.view.base t.view.core t.view.share (Unfetched at len whys.Off ∷ []) fit refl refl)
            fetches (Err refusals.Failed) runs f on room =
                keeps_cores (Unfetched at len whys.Failed ∷ []) (ap (λ (h : Hub D K). h.left) f.is)
                (ap (λ (h : Hub D K). h.right) f.is) (ap (λ (h : Hub D K). h.running) f.is) on
                (fits_same t.view.base t.view.core t.view.share (Unfetched at len whys.Failed ∷ []) fit refl refl)

        module _ (bytes : D → Option (List ℕ)) (k : ℕ) (r0 : Record) (own : r0 ≡ t.view.registers)
          where
            same_regs : (record_of x c).regs ≡ r0.regs
            same_regs = ap (λ (q : Record). q.regs) (own_view ∙ sym own)

            -- a quiet core begins a step
            pub begins : (step : Step) (r : Result (Unit {0}) NorFault) → s.view.phase ≡ Quiet
                → s.view.stepping ≡ false → OnOk r (y ≡ running_step x c k step y.dev)
                → OnErr r (y ≡ with_device x y.dev)
                → GoesOn stands Fits x y c (started k (record_of x c).regs step r)
                → HasRoom s.view.base s.view.core s.view.share 2 0
                → MayGive t.view y (work_by bytes (said.Starting r0.regs r) y)
            begins step (Ok u) quiet rests is not_is on room =
                let runs : y.running ≡ Some (run_of c k step) = ap (λ (h : Hub D K). h.running) is in
                let items : start_items r0.regs y.running (Ok u) ≡ Opened k r0.regs step ∷ [] =
                ap (λ (o : Option Going). begun_items r0.regs o) runs in
                let idle : t.view.running ≡ None =
                known.quiet_idle (same_phase ∙ quiet)
                (ap (λ (z : Seated (Base S K) Did). z.view.stepping) taken.1 ∙ rests) in
                gives record_of (λ b. core_of b.running) stands Fits x y t.view
                (work_by bytes (said.Starting r0.regs (Ok u)) y) c core known
                (same_records x y (other t.view.core) (ap (λ (h : Hub D K). h.left) is)
                (ap (λ (h : Hub D K). h.right) is)) (
                  same_phase ∙ quiet,
                  (λ e. clash t.view.running t.view.core e idle),
                  same_records x y t.view.core (ap (λ (h : Hub D K). h.left) is)
                      (ap (λ (h : Hub D K). h.right) is) ∙ known.own,
                  ap core_of runs ∙ ap (λ (n : ℕ). Some n) core,
                )
                (subst (λ (l : List Did). GoesOn stands Fits x y c l)
                (ap (λ (q : Regs). Opened k q step ∷ []) same_regs ∙ sym items) on)
                (subst (λ (l : List Did). (b : Base S K) → t.view.base ≡ Some b
                → Fits b t.view.core (t.view.share ++ l)) (sym items)
                (fits_room t.view.base t.view.core t.view.share (Opened k r0.regs step ∷ []) 2 0
                (room_kept 2 0 room) (omega arith) (omega arith)))
              where
                clash : (o : Option ℕ) (n : ℕ) → o ≡ Some n → o ≡ None → ⊥
                clash o n e f = cc
            begins step (Err why) quiet rests not_is is on room =
                keeps_cores (Denied why ∷ []) (ap (λ (h : Hub D K). h.left) is)
                (ap (λ (h : Hub D K). h.right) is) (ap (λ (h : Hub D K). h.running) is) on
                (fits_same t.view.base t.view.core t.view.share (Denied why ∷ []) fit refl refl)

            -- it polls the step
            pub polls : (after : K → ℕ → Step → K) (run : Going) (r : Result Ready NorFault)
                → s.view.phase ≡ Quiet → x.running ≡ Some run → t.view.running ≡ Some t.view.core
                → run.k ≡ k
                → y ≡ after_poll after x run (record_of x c).regs r y.dev
                → GoesOn stands Fits x y c (polled run.k (record_of x c).regs (held (bytes y.dev)) r)
                → MayGive t.view y (work_by bytes (said.Polled k r0.regs r) y)
            polls after run r quiet runs mine number is on = by_answer r is moved
              where
                moved : GoesOn stands Fits x y c (polled k r0.regs (held (bytes y.dev)) r)
                moved = subst (λ (z : ℕ × Regs). GoesOn stands Fits x y c
                    (polled z.0 z.1 (held (bytes y.dev)) r)) (λ i. (number i, same_regs i)) on

                by_answer : (r : Result Ready NorFault)
                    → y ≡ after_poll after x run (record_of x c).regs r y.dev
                    → GoesOn stands Fits x y c (polled k r0.regs (held (bytes y.dev)) r)
                    → MayGive t.view y (work_by bytes (said.Polled k r0.regs r) y)
                by_answer (Ok answers.Busy) is on =
                    keeps_cores [] (ap (λ (h : Hub D K). h.left) is)
                    (ap (λ (h : Hub D K). h.right) is) (ap (λ (h : Hub D K). h.running) is) on
                    (fits_same t.view.base t.view.core t.view.share [] fit refl refl)
                by_answer (Ok answers.Ready) is on =
                    gives record_of (λ b. core_of b.running) stands Fits x y t.view
                    (work_by bytes (said.Polled k r0.regs (Ok answers.Ready)) y) c core known
                    (same_records x y (other t.view.core) (ap (λ (h : Hub D K). h.left) is)
                    (ap (λ (h : Hub D K). h.right) is)) (
                      same_phase ∙ quiet,
                      mine,
                      same_records x y t.view.core (ap (λ (h : Hub D K). h.left) is)
                          (ap (λ (h : Hub D K). h.right) is) ∙ known.own,
                      ap (λ (h : Hub D K). core_of h.running) is,
                    )
                    on (fits_same t.view.base t.view.core t.view.share (Closed k r0.regs ∷ []) fit refl refl)
                by_answer (Err why) is on =
                    gives record_of (λ b. core_of b.running) stands Fits x y t.view
                    (work_by bytes (said.Polled k r0.regs (Err why)) y) c core known
                    (same_records x y (other t.view.core) (ap (λ (h : Hub D K). h.left) is)
                    (ap (λ (h : Hub D K). h.right) is)) (
                      same_phase ∙ quiet,
                      mine,
                      same_records x y t.view.core (ap (λ (h : Hub D K). h.left) is)
                          (ap (λ (h : Hub D K). h.right) is) ∙ known.own,
                      ap (λ (h : Hub D K). core_of h.running) is,
                    )
                    on (fits_same t.view.base t.view.core t.view.share
                    (Broken k r0.regs why (held (bytes y.dev)) ∷ []) fit refl refl)

            -- the same by what is known of the running step
            pub polls_own : (after : K → ℕ → Step → K) (r : Result Ready NorFault)
                → s.view.phase ≡ Quiet → s.view.stepping ≡ true → IsSome s.view.base
                → number_of_open (open_from None s.view.share) ≡ k
                → IfSome t.view.base (λ _. own_begun t.view.core x.running ≡ open_from None t.view.share)
                → IfSome x.running (λ run. y ≡ after_poll after x run (record_of x c).regs r y.dev)
                → GoesOn stands Fits x y c
                (polled (number_of x.running) (record_of x c).regs (held (bytes y.dev)) r)
                → MayGive t.view y (work_by bytes (said.Polled k r0.regs r) y)
            polls_own after r quiet steps some number open_is is on =
                by_running x.running refl (by_base_here t.view.base refl open_is) is on
              where
                stepping : t.view.stepping ≡ true
                stepping = ap (λ (z : Seated (Base S K) Did). z.view.stepping) taken.1 ∙ steps

                mine : t.view.running ≡ Some t.view.core
                mine = known.own_step.1 stepping

                by_base_here : (o : Option (Base S K)) → t.view.base ≡ o
                    → IfSome o (λ _. own_begun t.view.core x.running ≡ open_from None t.view.share)
                    → own_begun t.view.core x.running ≡ open_from None t.view.share
                by_base_here None e h =
                    let none : IsSome {T = Base S K} None = subst IsSome (sym (ap (λ (z : Seated (Base S K) Did). z.view.base) taken.1) ∙ e) some in
                    absurd (cc none)
                by_base_here (Some b) e h = h

                by_running : (o : Option Going) → x.running ≡ o
                    → own_begun t.view.core x.running ≡ open_from None t.view.share
                    → IfSome o (λ run. y ≡ after_poll after x run (record_of x c).regs r y.dev)
                    → GoesOn stands Fits x y c
                    (polled (number_of o) (record_of x c).regs (held (bytes y.dev)) r)
                    → MayGive t.view y (work_by bytes (said.Polled k r0.regs r) y)
                by_running None e known_step is on =
                    let f : core_of x.running ≡ Some t.view.core = known.running ∙ mine in
                    let g : core_of x.running ≡ None = ap core_of e in
                    absurd (cc (f, g))
                by_running (Some run) e known_step is on =
                    let f : core_of x.running ≡ Some t.view.core = known.running ∙ mine in
                    polls after run r quiet e mine
                    (ap number_of (sym e)
                    ∙ (sym (number_by x.running t.view.core f)
                    ∙ (ap number_of_open known_step
                    ∙ (ap (λ (z : Seated (Base S K) Did). number_of_open (open_from None z.view.share)) taken.1
                    ∙ number)))) is on

  module _ (s t u : Seated (Base S K) Did) (x y : Hub D K) (work : Work Did) (taken : HasTaken s t)
      (given : HasGiven record_of (λ b. core_of b.running) y work t u) where
    -- the seat once the turn is given back
    pub held_after : (r : Record) (b : Bool) → record_of y t.view.core ≡ r
        → is_step_of t.view.core (core_of y.running) ≡ b
        → held_of u ≡ behind (held_of s) r b work.items u.view.seen
    held_after r b own step =
        ap held_of given
        ∙ (λ i. record {
          table = (ap (λ (z : Seated (Base S K) Did). z.table) taken.1) i;
          core = (ap (λ (z : Seated (Base S K) Did). z.view.core) taken.1) i;
          phase = (ap (λ (z : Seated (Base S K) Did). z.view.phase) taken.1) i;
          base = (ap (λ (z : Seated (Base S K) Did). z.view.base) taken.1) i;
          registers = own i;
          share = (ap (λ (z : Seated (Base S K) Did). z.view.share) taken.1) i ++ work.items;
          turn = false;
          stepping = step i;
          seen = u.view.seen;
        })

    -- the same of a fetch, whose bytes are the last ones of the journal
    module _ (known : Knows x t.view) (c : ℕ) (core : c ≡ t.view.core) (small : c < 2)
        (fit : IfSome t.view.base (λ b. Fits b t.view.core t.view.share))
        (bytes : D → Option (List ℕ)) (size : D → ℕ) (off : D → Bool) (steps faults : D → ℕ)
        (setting : D → S) (may_refuse : S → ℕ → NorFault → Type 0) (must_refuse : S → ℕ → Type 0)
        (k at len : ℕ) (r0 : Record) (own : r0 ≡ t.view.registers) (runs : s.view.phase ≡ Running)
      where
        same_own : r0.regs ≡ s.view.registers.regs
        same_own = ap (λ (q : Record). q.regs) (own ∙ same_registers s t x taken known)

        back_as : y.left ≡ x.left → y.right ≡ x.right → y.running ≡ x.running
            → held_of u ≡ behind (held_of s) s.view.registers false work.items u.view.seen
        back_as left right run =
            held_after s.view.registers false
            (same_records x y t.view.core left right
            ∙ (known.own ∙ same_registers s t x taken known))
            (ap (λ (o : Option Going). is_step_of t.view.core (core_of o))
            (run ∙ idle_running s t x taken known runs))

        pub fetch_back : (r : Result (Unit {0}) FetchNo)
            → Fetches bytes size off steps faults setting may_refuse must_refuse x y c k
            (record_of x c).regs at len r
            → work ≡ work_by bytes (said.Fetched k r0.regs at len r) y
            → HasRead k at len r (held_of s) (held_of u)
        fetch_back (Ok a) f is =
            let e = back_as (ap (λ (h : Hub D K). h.left) f.is) (ap (λ (h : Hub D K). h.right) f.is)
            (ap (λ (h : Hub D K). h.running) f.is) in
            let last = read_last s t x taken known c core y small fit bytes size off steps faults setting
            may_refuse must_refuse k at len r0 own f in
            record {
              bytes = last_of len y.journal.bytes;
              many = ap length last ∙ f.many;
              is = e ∙ ap (λ (l : List Did). behind (held_of s) s.view.registers false l u.view.seen)
                  (ap (λ (w : Work Did). w.items) is ∙ ap (λ (q : Regs).
                  Fetched k q at (last_of len y.journal.bytes) ∷ []) same_own);
            }
        fetch_back (Err refusals.Unmapped) f is =
            back_as (ap (λ (h : Hub D K). h.left) f.1) (ap (λ (h : Hub D K). h.right) f.1)
            (ap (λ (h : Hub D K). h.running) f.1)
            ∙ ap (λ (l : List Did). behind (held_of s) s.view.registers false l u.view.seen)
            (ap (λ (w : Work Did). w.items) is)
        fetch_back (Err refusals.Masked) f is =
            back_as (ap (λ (h : Hub D K). h.left) f.2) (ap (λ (h : Hub D K). h.right) f.2)
            (ap (λ (h : Hub D K). h.running) f.2)
            ∙ ap (λ (l : List Did). behind (held_of s) s.view.registers false l u.view.seen)
            (ap (λ (w : Work Did). w.items) is)
        fetch_back (Err refusals.Off) f is =
            back_as (ap (λ (h : Hub D K). h.left) f.is) (ap (λ (h : Hub D K). h.right) f.is)
            (ap (λ (h : Hub D K). h.running) f.is)
            ∙ ap (λ (l : List Did). behind (held_of s) s.view.registers false l u.view.seen)
            (ap (λ (w : Work Did). w.items) is)
        fetch_back (Err refusals.Failed) f is =
            back_as (ap (λ (h : Hub D K). h.left) f.is) (ap (λ (h : Hub D K). h.right) f.is)
            (ap (λ (h : Hub D K). h.running) f.is)
            ∙ ap (λ (l : List Did). behind (held_of s) s.view.registers false l u.view.seen)
            (ap (λ (w : Work Did). w.items) is)

  -- what the device shows of its bytes
  pub read_part : (s t : Seated (Base S K) Did) (x : Hub D K) (bytes : D → Option (List ℕ))
      (r : Result (Unit {0}) NorFault) (at n : ℕ) (out : List ℕ) → HasTaken s t
      → Knows x t.view → length out ≡ n → OnOk r (IsPart (bytes x.dev) at n out)
      → OnOk r (IfSome s.view.base (λ b. IsPartOf stands (λ h. bytes h.dev) b s.view.core
      s.view.share at out))
  read_part s t x bytes r at n out taken known many =
      on_ok_weaker r (λ part. subst (λ (z : Seated (Base S K) Did). IfSome z.view.base (λ b.
      IsPartOf stands (λ (h : Hub D K). bytes h.dev) b z.view.core z.view.share at out)) taken.1
      (by_base x t.view.base t.view.core t.view.share t.view.other_share _ (λ b holds. record {
        bus = x;
        theirs = t.view.other_share;
        stands_by = holds;
        part = subst (λ (m : ℕ). IsPart (bytes x.dev) at m out) (sym many) part;
      }) known.stands_by))

-- what is fixed of the base's map is not refused as unmapped
pub fetches_fixed : {S K : Type 0} (s t : Seated (Base S K) Did) (m : Map) (size at len : ℕ)
    (r : Result (Unit {0}) FetchNo) → HasTaken s t
    → IfSome t.view.base (λ b. (at len : ℕ) → IsFixed b.map (length b.flash) at len
    → IsFixed m size at len)
    → (r ≡ Err refusals.Unmapped ↔ IsUnmapped m size at len)
    → OnBase s.view.base (λ b. IsFixed b.map (length b.flash) at len) → r ≢ Err refusals.Unmapped
fetches_fixed {S} {K} s t m size at len r taken range unmapped fixed refused =
    not_unmapped m size at len
    (there s.view.base (subst (λ (o : Option (Base S K)). IfSome o (λ b. (at len : ℕ)
    → IsFixed b.map (length b.flash) at len → IsFixed m size at len))
    (ap (λ (z : Seated (Base S K) Did). z.view.base) taken.1) range) fixed)
    (unmapped.0 refused) where
      there : (o : Option (Base S K)) → IfSome o (λ b. (at len : ℕ)
          → IsFixed b.map (length b.flash) at len → IsFixed m size at len)
          → OnBase o (λ b. IsFixed b.map (length b.flash) at len) → IsFixed m size at len
      there None each is_fixed = absurd is_fixed
      there (Some b) each is_fixed = each at len is_fixed
