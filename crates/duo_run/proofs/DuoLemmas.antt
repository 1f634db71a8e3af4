-- A session and a confirmation as legs of both cores.
use Rattle.std.proofs.Common.{◌≡◌, ◌≢◌, ℕ, List, length, Option, Some, None, IfSome, IsSome, IsOk, IfOk, Result, Ok, Err, refl, sym, ◌∙◌, subst}
use Rattle.nor_device.specs.Ram.{Ram}
use Rattle.crash_images.specs.Cut.{CutDevice}
use Rattle.partition_table.specs.declared.app.App.{App}
use Rattle.partition_table.specs.declared.row.Row.{Row}
use Rattle.partition_table.specs.Layout.{Places, layout_of, row_for}
use Rattle.boot_select.specs.Boots.{entries_in, images_in, names}
use Rattle.boot_select.specs.Candidates.{candidates}
use Rattle.boot_select.proofs.StartLemmas.{first_holds}
use Rattle.rollback.specs.declared.rewrite.Rewrite.{Rewrite}
use Rattle.rollback.proofs.PairLemmas.{boots_holds, some_boots}
use Rattle.image_verify.specs.declared.info.ImageInfo.{ImageInfo}
use Rattle.image_verify.specs.Held.{held}
use Rattle.mmu_map.specs.Map.{Map}
use Rattle.boot_run.specs.declared.aims.Aim.{Aim}
use Rattle.boot_run.specs.declared.booted.Booted.{Booted}
use Rattle.core_script.specs.declared.action.Action.{Action}
use Rattle.ota_session.specs.Course.{Confirm, Install}
use Rattle.power_cut.specs.declared.legs.Ran.{Ran}
use Rattle.power_cut.specs.Update.{image_of}
use Rattle.duo_run.specs.Both.{IsDuoLeg, MayBegin}
use Rattle.duo_run.specs.Legs.{IsDuoConfirm, IsDuoSession, MayAffirm, MayInstall, ShowsApp}
use Rattle.flash_ops.specs.declared.pace.Point.{Point}
use Rattle.duo_run.specs.Paced.{IsToldLeg, session_ops}
use Rattle.duo_run.specs.Pages.{application_pages}
use Rattle.duo_run.proofs.PlaceLemmas.{app_in_place, row_there}

-- the pages that a leg shows are those of the application in this partition
shows : (layout : Places) (app : App) (row : Row) (info : ImageInfo) (m : Map)
    → row_for layout app ≡ Some row → m ≡ application_pages row.offset info.segments.items
    → ShowsApp layout app info m
shows layout app row info m is same =
    subst (λ (o : Option Row). IfSome o (λ (r : Row).
    m ≡ application_pages r.offset info.segments.items)) (sym is) same

-- ---- a session

module _ (rows : List Row) (layout : Places) (aim : Aim) (image : List ℕ) (dev : CutDevice Ram)
    (may : MayInstall rows layout aim image dev) where
  runs : images_in held layout dev.inner.bytes aim.running ≡ Some may.opens.begins.image
  runs = boots_holds layout (images_in held layout dev.inner.bytes)
      (entries_in layout dev.inner.bytes) aim.running may.opens.begins.image
      may.opens.begins.settled.booted

  session_row : IsSome (row_for layout aim.running)
  session_row = row_there layout dev.inner.bytes aim.running may.opens.begins.image runs

  session_begins : (row : Row) → row_for layout aim.running ≡ Some row
      → MayBegin rows layout (Install aim image) row.offset aim.info.segments.items dev
  session_begins row is =
      let there = app_in_place dev.inner.bytes rows layout aim.running row may.opens.begins.image
      aim.info may.table.table may.table.layout_is is runs may.opens.begins.told in
      record {
        ready = may.ready;
        table = may.table;
        for = record { old = image_of layout dev.inner.bytes aim.running; opens = may.opens };
        placed = there.0;
        low = there.1;
      }

session_is : (rows : List Row) (script : List Action) (driver : ℕ) (layout : Places) (aim : Aim)
    (image : List ℕ) (row : Row) (dev : CutDevice Ram) (ran : Ran)
    → row_for layout aim.running ≡ Some row
    → IsDuoLeg rows script driver layout (Install aim image) row.offset aim.info.segments.items dev
    ran
    → IsDuoSession rows script driver layout aim image dev ran
session_is rows script driver layout aim image row dev ran is l = record {
  leg = record {
    ran_is = l.ran_is;
    leg = record {
      base = l.leg.base;
      map = l.leg.map;
      opening = l.leg.opening;
      mapped = shows layout aim.running row aim.info l.leg.base.map is l.leg.mapped;
      left = l.leg.left;
      right = l.leg.right;
      drove = l.leg.drove;
      worked = l.leg.worked;
      driver_share = l.leg.driver_share;
      worker_share = l.leg.worker_share;
      back = l.leg.back;
      same = l.leg.same;
      stands = l.leg.stands;
      legal = l.leg.legal;
      moments = l.leg.moments;
    };
    both = l.both;
    done = l.done;
    behind = l.behind;
  };
  parked = l.parked;
}

-- ---- a confirmation

module _ (rows : List Row) (layout : Places) (at : Booted) (write : Rewrite)
    (dev : CutDevice Ram) (may : MayAffirm rows layout at write dev) where
  started : images_in held layout dev.inner.bytes at.app ≡ Some may.started.image
  started = first_holds (images_in held layout dev.inner.bytes)
      (candidates layout (names layout (entries_in layout dev.inner.bytes))) at.app
      may.started.image
      may.started.is

  confirm_row : IsSome (row_for layout at.app)
  confirm_row = row_there layout dev.inner.bytes at.app may.started.image started

  confirm_begins : (row : Row) → row_for layout at.app ≡ Some row
      → MayBegin rows layout (Confirm write) row.offset at.info.segments.items dev
  confirm_begins row is =
      let there : row_for layout at.app ≢ None = λ none. cc in
      let holds : images_in held layout dev.inner.bytes at.app ≢ None =
      λ none. let image = started in cc in
      let place = app_in_place dev.inner.bytes rows layout at.app row may.started.image at.info
      may.table.table may.table.layout_is is started may.started.told in
      record {
        ready = may.ready;
        table = may.table;
        for = record {
          sector = write.sector;
          active = may.confirming.active;
          is = may.confirming.write_is;
          boots = some_boots layout (images_in held layout dev.inner.bytes)
              (entries_in layout dev.inner.bytes) at.app there holds;
        };
        placed = place.0;
        low = place.1;
      }

confirm_is : (rows : List Row) (script : List Action) (driver : ℕ) (layout : Places)
    (at : Booted) (write : Rewrite) (row : Row) (dev : CutDevice Ram) (ran : Ran)
    → row_for layout at.app ≡ Some row
    → IsDuoLeg rows script driver layout (Confirm write) row.offset at.info.segments.items dev ran
    → IsDuoConfirm rows script driver layout at write dev ran
confirm_is rows script driver layout at write row dev ran is l = record {
  leg = record {
    ran_is = l.ran_is;
    leg = record {
      base = l.leg.base;
      map = l.leg.map;
      opening = l.leg.opening;
      mapped = shows layout at.app row at.info l.leg.base.map is l.leg.mapped;
      left = l.leg.left;
      right = l.leg.right;
      drove = l.leg.drove;
      worked = l.leg.worked;
      driver_share = l.leg.driver_share;
      worker_share = l.leg.worker_share;
      back = l.leg.back;
      same = l.leg.same;
      stands = l.leg.stands;
      legal = l.leg.legal;
      moments = l.leg.moments;
    };
    both = l.both;
    done = l.done;
    behind = l.behind;
  };
  parked = l.parked;
}

-- ---- by the layout that a call asks for

-- a call may be made by some layout of the table
abbrev pub Allows : List Row → (Places → Type 0) → Type 0
Allows rows may = (layout : Places) × (layout_of rows ≡ Ok layout) × may layout

same_layout : (rows : List Row) (one two : Places) → layout_of rows ≡ Ok one
    → layout_of rows ≡ Ok two → one ≡ two
same_layout rows one two a b = let both = sym a ∙ b in cc

pub has_layout : (rows : List Row) (may : Places → Type 0) → Allows rows may
    → IsOk (layout_of rows)
has_layout rows may a = subst (λ (r : Result Places _). IsOk r) (sym a.1) refl

allowed_here : (rows : List Row) (may : Places → Type 0) (here : Places) → Allows rows may
    → layout_of rows ≡ Ok here → may here
allowed_here rows may here a is = subst may (same_layout rows a.0 here a.1 is) a.2

-- where a leg is answered, it is one of the table and the script that were handed on
ok_as : {E : Type 0} (rows r : List Row) (script s : List Action)
    (holds : List Row → List Action → Ran → Type 0) (wanted : Ran → Type 0)
    (answer : Result Ran E) → r ≡ rows → s ≡ script
    → ((ran : Ran) → holds rows script ran → wanted ran) → IfOk answer (λ ran. holds r s ran)
    → IfOk answer wanted
ok_as rows r script s holds wanted (Ok ran) a b means is =
    means ran (subst (λ (z : List Row × List Action). holds z.0 z.1 ran) (λ i. (a i, b i)) is)
ok_as rows r script s holds wanted (Err why) a b means is = tt

module _ (rows : List Row) (script : List Action) (driver : ℕ) (here : Places) (aim : Aim)
    (image : List ℕ) (dev : CutDevice Ram)
    (a : Allows rows (λ layout. MayInstall rows layout aim image dev))
    (is : layout_of rows ≡ Ok here) where
  may_install : MayInstall rows here aim image dev
  may_install = allowed_here rows (λ (layout : Places). MayInstall rows layout aim image dev) here
      a is

  pub install_row : IsSome (row_for here aim.running)
  install_row = session_row rows here aim image dev may_install

  pub install_begins : (row : Row) → row_for here aim.running ≡ Some row
      → MayBegin rows here (Install aim image) row.offset aim.info.segments.items dev
  install_begins row there = session_begins rows here aim image dev may_install row there

  pub installed : (row : Row) (ran : Ran) → row_for here aim.running ≡ Some row
      → IsDuoLeg rows script driver here (Install aim image) row.offset aim.info.segments.items dev
      ran
      → (layout : Places) → layout_of rows ≡ Ok layout
      → IsDuoSession rows script driver layout aim image dev ran
  installed row ran there l layout laid =
      subst (λ (p : Places). IsDuoSession rows script driver p aim image dev ran)
      (same_layout rows here layout is laid)
      (session_is rows script driver here aim image row dev ran there l)

  pub installed_ok : {E : Type 0} (row : Row) (r : List Row) (s : List Action)
      (answer : Result Ran E) → row_for here aim.running ≡ Some row → r ≡ rows → s ≡ script
      → IfOk answer (λ ran. IsDuoLeg r s driver here (Install aim image) row.offset
      aim.info.segments.items dev ran)
      → IfOk answer (λ ran. (layout : Places) → layout_of rows ≡ Ok layout
      → IsDuoSession rows script driver layout aim image dev ran)
  installed_ok row r s answer there b d ok =
      ok_as rows r script s (λ t u ran. IsDuoLeg t u driver here (Install aim image) row.offset
      aim.info.segments.items dev ran) (λ ran. (layout : Places) → layout_of rows ≡ Ok layout
      → IsDuoSession rows script driver layout aim image dev ran) answer b d
      (λ ran l. installed row ran there l) ok

module _ (rows : List Row) (script : List Action) (driver : ℕ) (here : Places) (at : Booted)
    (write : Rewrite) (dev : CutDevice Ram)
    (a : Allows rows (λ layout. MayAffirm rows layout at write dev))
    (is : layout_of rows ≡ Ok here) where
  may_affirm : MayAffirm rows here at write dev
  may_affirm = allowed_here rows (λ (layout : Places). MayAffirm rows layout at write dev) here a is

  pub affirm_row : IsSome (row_for here at.app)
  affirm_row = confirm_row rows here at write dev may_affirm

  pub affirm_begins : (row : Row) → row_for here at.app ≡ Some row
      → MayBegin rows here (Confirm write) row.offset at.info.segments.items dev
  affirm_begins row there = confirm_begins rows here at write dev may_affirm row there

  pub affirmed : (row : Row) (ran : Ran) → row_for here at.app ≡ Some row
      → IsDuoLeg rows script driver here (Confirm write) row.offset at.info.segments.items dev ran
      → (layout : Places) → layout_of rows ≡ Ok layout
      → IsDuoConfirm rows script driver layout at write dev ran
  affirmed row ran there l layout laid =
      subst (λ (p : Places). IsDuoConfirm rows script driver p at write dev ran)
      (same_layout rows here layout is laid)
      (confirm_is rows script driver here at write row dev ran there l)

  pub affirmed_ok : {E : Type 0} (row : Row) (r : List Row) (s : List Action)
      (answer : Result Ran E) → row_for here at.app ≡ Some row → r ≡ rows → s ≡ script
      → IfOk answer (λ ran. IsDuoLeg r s driver here (Confirm write) row.offset
      at.info.segments.items dev ran)
      → IfOk answer (λ ran. (layout : Places) → layout_of rows ≡ Ok layout
      → IsDuoConfirm rows script driver layout at write dev ran)
  affirmed_ok row r s answer there b d ok =
      ok_as rows r script s (λ t u ran. IsDuoLeg t u driver here (Confirm write) row.offset
      at.info.segments.items dev ran) (λ ran. (layout : Places) → layout_of rows ≡ Ok layout
      → IsDuoConfirm rows script driver layout at write dev ran) answer b d
      (λ ran l. affirmed row ran there l) ok

-- ---- what the pace was told

-- of a leg by the script and the pace that were handed on
pub told_as : {P E : Type 0} (told : P → Point → Type 0) (ops : ℕ) (script handed : List Action)
    (pace own : P) (answer : Result Ran E) → script ≡ handed → pace ≡ own
    → IfOk answer (IsToldLeg (told pace) ops (length script))
    → IfOk answer (IsToldLeg (told own) ops (length handed))
told_as told ops script handed pace own (Ok ran) same is leg =
    subst (λ z. IsToldLeg (told z) ops (length handed) ran) is
    (subst (λ (s : List Action). IsToldLeg (told pace) ops (length s) ran) same leg)
told_as told ops script handed pace own (Err why) same is leg = tt

-- and of a session, by whichever layout of the table
pub installed_told : {P E : Type 0} (told : P → Point → Type 0) (rows : List Row) (here : Places)
    (aim : Aim) (image : List ℕ) → layout_of rows ≡ Ok here → (script handed : List Action)
    (pace own : P) (answer : Result Ran E) → script ≡ handed → pace ≡ own
    → IfOk answer (IsToldLeg (told pace) (session_ops here aim image) (length script))
    → IfOk answer (λ ran. (layout : Places) → layout_of rows ≡ Ok layout
    → IsToldLeg (told own) (session_ops layout aim image) (length handed) ran)
installed_told {P} {E} told rows here aim image laid script handed pace own (Ok ran) same is leg =
    λ layout there.
    subst (λ (p : Places). IsToldLeg (told own) (session_ops p aim image) (length handed) ran)
    (same_layout rows here layout laid there)
    (told_as {E = E} told (session_ops here aim image) script handed pace own (Ok ran) same is leg)
installed_told {P} {E} told rows here aim image laid script handed pace own (Err why) same is leg = tt
