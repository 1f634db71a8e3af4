-- What a confirmation under anti-rollback rewrites, burns and answers: the entry first, and then the bits.
use Rattle.std.specs.Prelude.{◌≡◌, ◌⊎◌, ℕ, nat_lt, List, [], ◌∷◌, Option, Some, None, IfSome, Result, Ok, Err, IfOk, OnOk, if◌then◌else◌}
use Rattle.nor_device.specs.declared.nor.NorFault.{NorFault}
use Rattle.nor_device.specs.declared.nor.NorFault.TheVariants.{Failed, Off}
use Rattle.nor_device.specs.declared.step.Step.{Step}
use Rattle.nor_device.specs.Flash.{after_steps}
use Rattle.crash_images.specs.Crash.{LeftAfter}
use Rattle.otadata.specs.declared.entry.Entry.{Entry}
use Rattle.otadata.specs.Entry.{IsStored}
use Rattle.partition_table.specs.declared.app.App.{App}
use Rattle.partition_table.specs.declared.app.App.TheVariants.{Ota, Factory, Test}
use Rattle.partition_table.specs.Layout.{Places}
use Rattle.boot_select.specs.Boots.{entries_in, images_in, names}
use Rattle.image_verify.specs.declared.info.ImageInfo.{ImageInfo}
use Rattle.image_verify.specs.Held.{held}
use Rattle.rollback.specs.declared.rewrite.Rewrite.{Rewrite}
use Rattle.rollback.specs.Boots.{boots_in}
use Rattle.secure_fuse.specs.declared.fuses.FuseNo.{FuseNo}
use Rattle.secure_fuse.specs.declared.fuses.FuseNo.TheVariants as fuse
use Rattle.secure_fuse.specs.Bits.{level_of, raised, IsStage}
use Rattle.secure_fuse.specs.Fuses.{LeavesOnly}
use Rattle.secure_fuse.specs.Secure.{secure_in, secure_of}
use Rattle.boot_run.specs.declared.told.Told.{Told}
use Rattle.boot_run.specs.declared.fused.FuseConfirmNo.{FuseConfirmNo}
use Rattle.boot_run.specs.declared.fused.FuseConfirmNo.TheVariants as no
use Rattle.boot_run.specs.declared.fused.Denied.{Denied}
use Rattle.boot_run.specs.declared.fused.Denied.TheVariants.{NoOtaApp, NotWhole, High, Old}
use Rattle.boot_run.specs.Rewriting.{rewrites}
use Rattle.boot_run.specs.BootSteps.{boot_steps}
use Rattle.boot_run.specs.Above.{held_above}
use Rattle.boot_run.specs.Verdict.{Tells, confirmation, writes_of}

-- the secure version of an image, where there is one
abbrev pub version_held : Option (List ℕ) → Option ℕ
version_held None = None
version_held (Some image) = Some (secure_of image)

-- the secure version of what each application of a flash holds
abbrev pub versions_in : Places → List ℕ → App → Option ℕ
versions_in layout flash app = version_held (images_in held layout flash app)

-- the secure version that is told of an image, where one was found
abbrev pub version_told : Option ImageInfo → Option ℕ
version_told None = None
version_told (Some info) = Some (secure_in info.desc)

-- this holds of the secure versions of what the applications of a device hold: of those in its bytes, where it tells
-- them, else of some
pub record OfVersions (layout : Places) (told : Option (List ℕ))
    (P : (App → Option ℕ) → Type 0) : Type 0 where
  pub versions : App → Option ℕ
  pub tells : IfSome told (λ flash. versions ≡ versions_in layout flash)
  pub holds : P versions

-- both entries are as their 32 bytes hold them
pub record AreStored (entries : ℕ → Entry) : Type 0 where
  pub first : IsStored (entries 0)
  pub second : IsStored (entries 1)

-- a secure version to which a level can rise: it is not above 32, the most that bits show, nor below the level
abbrev pub version_fit : ℕ → ℕ → Result ℕ Denied
version_fit level secure =
    if nat_lt 32 secure then Err (High secure)
    else if nat_lt secure level then Err (Old secure level) else Ok secure

-- the same of what a slot holds
abbrev pub version_at : ℕ → ℕ → Option ℕ → Result ℕ Denied
version_at level slot None = Err (NotWhole slot)
version_at level slot (Some secure) = version_fit level secure

-- the same of the application that the entries name: factory where none of them is active
abbrev pub version_by : ℕ → (App → Option ℕ) → App → Result ℕ Denied
version_by level versions (Ota slot) = version_at level slot (versions (Ota slot))
version_by level versions Factory = Err NoOtaApp
version_by level versions Test = Err NoOtaApp

-- the secure version of the application that is confirmed, or the first reason why it may not be
abbrev pub version_of : Places → (App → Option ℕ) → (ℕ → Entry) → ℕ → Result ℕ Denied
version_of layout versions entries level = version_by level versions (names layout entries)

-- the rewrites where there is such a version, else none
abbrev pub writes_for : Result ℕ Denied → List Rewrite → List Rewrite
writes_for (Ok secure) writes = writes
writes_for (Err why) writes = []

-- the rewrites of a confirmation under anti-rollback
abbrev pub raising : Places → (App → Option ℕ) → (ℕ → Entry) → ℕ → List Rewrite
raising layout versions entries level =
    writes_for (version_of layout versions entries level) (writes_of (confirmation entries))

-- the same of a flash, beside these bits
abbrev pub raising_in : Places → ℕ → List ℕ → List Rewrite
raising_in layout bits flash =
    raising layout (versions_in layout flash) (entries_in layout flash) (level_of bits)

-- the answer is the reason, or it tells of the rewrites, unless the fuses failed
abbrev pub Confirms : ℕ → App → List Rewrite → Result ℕ Denied
    → Result (Result Told FuseNo) Denied → Type 0
Confirms otadata named writes (Ok secure) (Ok answer) = IfOk answer (Tells otadata named writes)
Confirms otadata named writes (Ok secure) (Err why) = ⊥
Confirms otadata named writes (Err why) (Ok answer) = ⊥
Confirms otadata named writes (Err why) (Err said) = said ≡ why

-- the answer as one of a device: what the entries, the image and the level say, and in it what the fuses did; or why a
-- call of the device was refused
abbrev pub fuse_answer : Result Told FuseConfirmNo
    → Result (Result (Result Told FuseNo) Denied) NorFault
fuse_answer (Ok told) = Ok (Ok (Ok told))
fuse_answer (Err no.Fuse) = Ok (Ok (Err fuse.Failed))
fuse_answer (Err no.NoOtaApp) = Ok (Err NoOtaApp)
fuse_answer (Err (no.NotWhole slot)) = Ok (Err (NotWhole slot))
fuse_answer (Err (no.High secure)) = Ok (Err (High secure))
fuse_answer (Err (no.Old secure level)) = Ok (Err (Old secure level))
fuse_answer (Err no.Device) = Err Failed
fuse_answer (Err no.Cut) = Err Off

-- the answer as one of fuses, behind a rewrite that was made
abbrev pub burn_of : Result (Result Told FuseNo) NorFault → Result (Unit {0}) FuseNo
burn_of (Ok (Ok told)) = Ok tt
burn_of (Ok (Err why)) = Err why
burn_of (Err why) = Ok tt

-- and in all
abbrev pub burn_answer : Result (Result (Result Told FuseNo) Denied) NorFault
    → Result (Unit {0}) FuseNo
burn_answer (Ok (Ok done)) = burn_of (Ok done)
burn_answer (Ok (Err why)) = Ok tt
burn_answer (Err why) = Ok tt

module _ {Z : Type 0} (burnt : Z → ℕ) (left : Z → ℕ → Type 0) where
  -- what was burnt of the way to a version: the bits are on that way, so was all that a loss of power may have left, and
  -- where the fuses did not fail they are at its end
  pub record IsBurnt (old new : Z) (secure : ℕ) (answer : Result Told FuseNo) : Type 0 where
    pub stage : IsStage (burnt old) secure (burnt new)
    pub moments : LeavesOnly left old new (IsStage (burnt old) secure)
    pub raised : OnOk answer (burnt new ≡ raised (burnt old) secure)
    pub level : OnOk answer (level_of (burnt new) ≡ secure)

  -- nothing is burnt where the application may not be confirmed, or where a call of the device was refused
  abbrev pub Burns : Z → Z → Result ℕ Denied → Result (Result (Result Told FuseNo) Denied) NorFault
      → Type 0
  Burns old new (Err denied) answer = new ≡ old
  Burns old new (Ok secure) (Err why) = new ≡ old
  Burns old new (Ok secure) (Ok (Err denied)) = new ≡ old
  Burns old new (Ok secure) (Ok (Ok answer)) = IsBurnt old new secure answer

-- the steps of a confirmation under anti-rollback of a flash, beside these bits
abbrev pub raising_steps : Places → List ℕ → ℕ → List Step
raising_steps layout flash bits = rewrites layout.otadata (raising_in layout bits flash)

-- a flash whose rewrite is made, and bits on the way to the version of the application that is confirmed
pub record IsRaising (layout : Places) (flash : List ℕ) (bits secure : ℕ) (left : List ℕ)
    (word : ℕ) : Type 0 where
  pub version : version_of layout (versions_in layout flash) (entries_in layout flash)
      (level_of bits) ≡ Ok secure
  pub confirmed : left ≡ after_steps flash (raising_steps layout flash bits)
  pub stage : IsStage bits secure word

-- what may be left of a flash and of bits at any moment of such a confirmation: nothing is burnt before the rewrite is
-- made, and behind it nothing is rewritten
abbrev pub LeavesRaised : Places → List ℕ → ℕ → List ℕ → ℕ → Type 0
LeavesRaised layout flash bits left word =
    ((word ≡ bits) × LeftAfter flash (raising_steps layout flash bits) left)
    ⊎ ((secure : ℕ) × IsRaising layout flash bits secure left word)

-- where the device tells its bytes, it still tells them, and they are left so beside this word
abbrev pub IsLeftRaised : Places → Option (List ℕ) → ℕ → Option (List ℕ) → ℕ → Type 0
IsLeftRaised layout old bits new word =
    IfSome old (λ flash. (left : List ℕ) × (new ≡ Some left) × LeavesRaised layout flash bits left word)

-- where the device tells its bytes, this application holds an image, and is what boots above a level now
abbrev pub BootsAbove : ℕ → Places → Option (List ℕ) → Option (List ℕ) → App → Type 0
BootsAbove level layout old new app =
    IfSome old (λ flash. (image : List ℕ) × (images_in held layout flash app ≡ Some image)
    × ((left : List ℕ) × (new ≡ Some left)
    × (boots_in (held_above level) layout left ≡ Some (app, image))))

-- so does the application of the slot that is told, where there is no refusal
abbrev pub BootsRaised : ℕ → Places → Option (List ℕ) → Option (List ℕ)
    → Result (Result (Result Told FuseNo) Denied) NorFault → Type 0
BootsRaised level layout old new answer =
    IfOk answer (λ said. IfOk said (λ done. IfOk done (λ told.
    BootsAbove level layout old new (Ota told.slot))))

-- a flash beside burnt bits
pub record Both : Type 0 where
  pub flash : List ℕ
  pub bits : ℕ

-- what a boot or a confirmation under anti-rollback, whole or broken off at any moment, may make of both
abbrev pub MayBecome : Places → Both → Both → Type 0
MayBecome layout old new =
    ((new.bits ≡ old.bits) × LeftAfter old.flash (boot_steps layout old.flash) new.flash)
    ⊎ LeavesRaised layout old.flash old.bits new.flash new.bits

-- and so on over a list of them
abbrev pub Becomes : Places → Both → List Both → Both → Type 0
Becomes layout old [] new = new ≡ old
Becomes layout old (next ∷ rest) new = MayBecome layout old next × Becomes layout next rest new
