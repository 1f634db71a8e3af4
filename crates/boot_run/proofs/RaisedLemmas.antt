-- A confirmation under anti-rollback: which application it is of, and what it leaves.
use Rattle.std.proofs.Common.{◌==◌, ◌≡◌, ◌≢◌, inl, inr, ℕ, zero, suc, ◌≤◌, Bool, true, false, nat_lt, List, length, Option, Some, None, IsSome, IfSome, Result, Ok, Err, IfOk, OnOk, refl, sym, ap, ◌∙◌, subst, arith, if◌then◌else◌}
use Rattle.std.proofs.lemmas.Bool.Decides.{nat_tests}
use Rattle.std.proofs.lemmas.Result.{IfOk-weaker}
use Rattle.nor_device.specs.declared.nor.NorFault.{NorFault}
use Rattle.nor_device.specs.declared.nor.StepEnd.{StepEnd}
use Rattle.nor_device.specs.declared.step.Step.{Step}
use Rattle.nor_device.specs.Flash.{after_steps}
use Rattle.crash_images.specs.Crash.{IsLeftOf, LeftAfter}
use Rattle.crash_images.proofs.LeftLaws.{left_end}
use Rattle.otadata.specs.declared.entry.Entry.{Entry}
use Rattle.otadata.specs.Choice.{active_of}
use Rattle.otadata.specs.Entry.{IsStored}
use Rattle.partition_table.specs.declared.app.App.{App}
use Rattle.partition_table.specs.declared.app.App.TheVariants.{Ota, Factory, Test}
use Rattle.partition_table.specs.Layout.{IsPlaced, Places}
use Rattle.boot_select.specs.Choice.{named_by, named_of}
use Rattle.boot_select.specs.Settled.{sectors}
use Rattle.boot_select.specs.Boots.{entries_in, images_in, names}
use Rattle.boot_select.proofs.StartLemmas.{images_are_placed}
use Rattle.rollback.specs.declared.rewrite.Rewrite.{Rewrite}
use Rattle.rollback.specs.declared.verdict.NoOtaApp.{NoOtaApp}
use Rattle.rollback.specs.Rewrite.{restated}
use Rattle.rollback.specs.Boots.{boots, boots_in}
use Rattle.rollback.specs.Verdict.{confirm_by, confirm_of}
use Rattle.rollback.proofs.PairLemmas.{some_boots}
use Rattle.image_verify.specs.declared.info.ImageInfo.{ImageInfo}
use Rattle.image_verify.specs.Held.{held}
use Rattle.secure_fuse.specs.declared.fuses.FuseNo.{FuseNo}
use Rattle.secure_fuse.specs.Bits.{level_of}
use Rattle.secure_fuse.specs.Fuses.{LeavesOnly}
use Rattle.secure_fuse.specs.Secure.{secure_in, secure_of}
use Rattle.boot_run.specs.declared.told.Told.{Told}
use Rattle.boot_run.specs.declared.fused.Denied.{Denied}
use Rattle.boot_run.specs.declared.fused.Denied.TheVariants.{High, Old}
use Rattle.boot_run.specs.Made.{AreMadeBy}
use Rattle.boot_run.specs.Read.{OfEntries}
use Rattle.boot_run.specs.Rewriting.{AreShort, rewrites}
use Rattle.boot_run.specs.Verified.{IsImage}
use Rattle.boot_run.specs.Above.{StillBootsAbove, held_above}
use Rattle.boot_run.specs.Crashed.{IsLeftByVerdicts, LeavesVerdicts, StillBoots}
use Rattle.boot_run.specs.Verdict.{Answers, Tells, confirmation, one_of, writes_of}
use Rattle.boot_run.specs.Raised.{AreStored, BootsAbove, BootsRaised, Burns, Confirms, IsLeftRaised, LeavesRaised, OfVersions, raising, raising_in, raising_steps, version_at, version_by, version_fit, version_held, version_of, version_told, versions_in, writes_for}
use Rattle.boot_run.proofs.AboveLemmas.{holds_above}
use Rattle.boot_run.proofs.FrameLemmas.{left_images}
use Rattle.boot_run.proofs.MadeLemmas.{made_by_left, made_by_ok}
use Rattle.boot_run.proofs.WritesLemmas.{AreRewrites, boot_short}
use Rattle.boot_run.proofs.CrashLemmas.{boot_restated, label_short, left_boots, left_boots_by, left_verdicts}
use Rattle.boot_run.proofs.VerdictLemmas.{confirmation_by}
use Rattle.boot_run.proofs.ConfirmedLemmas.{confirmed_told}

-- ---- the version that was found

-- what is told of an image tells its version
pub version_same : (image : Option (List ℕ)) (found : Option ImageInfo) → IsImage image found
    → version_held image ≡ version_told found
version_same image None is = ap version_held is
version_same image (Some info) is =
    ap version_held is.is ∙ ap (λ d. Some (secure_in d)) (sym is.told.desc)

-- what holds of any versions
pub any_versions : (layout : Places) (told : Option (List ℕ)) (P : (App → Option ℕ) → Type 0)
    → ((versions : App → Option ℕ) → P versions) → OfVersions layout told P
any_versions layout None P holds =
    record { versions = λ app. None; tells = tt; holds = holds (λ app. None) }
any_versions layout (Some flash) P holds = record {
  versions = versions_in layout flash;
  tells = refl;
  holds = holds (versions_in layout flash);
}

-- what holds of the version that was found of an application
pub found_versions : (layout : Places) (told : Option (List ℕ)) (app : App)
    (found : Option ImageInfo) (P : Option ℕ → Type 0)
    → IfSome told (λ flash. IsImage (images_in held layout flash app) found)
    → P (version_told found) → OfVersions layout told (λ versions. P (versions app))
found_versions layout None app found P is holds =
    record { versions = λ a. version_told found; tells = tt; holds = holds }
found_versions layout (Some flash) app found P is holds = record {
  versions = versions_in layout flash;
  tells = refl;
  holds = subst P (sym (version_same (images_in held layout flash app) found is)) holds;
}

-- what follows for the same versions, of the device as it was
pub more_versions : (layout : Places) (old mid : Option (List ℕ)) (P Q : (App → Option ℕ) → Type 0)
    → mid ≡ old → OfVersions layout mid P → ((versions : App → Option ℕ) → P versions → Q versions)
    → OfVersions layout old Q
more_versions layout old mid P Q same of more = record {
  versions = of.versions;
  tells = subst (λ (told : Option (List ℕ)). IfSome told
      (λ flash. of.versions ≡ versions_in layout flash)) same of.tells;
  holds = more of.versions of.holds;
}

-- of a device that tells its bytes
pub told_by : (layout : Places) (flash : List ℕ) (P : (ℕ → Entry) → (App → Option ℕ) → Type 0)
    → OfEntries layout (Some flash) (λ es. OfVersions layout (Some flash) (λ versions. P es versions))
    → P (entries_in layout flash) (versions_in layout flash)
told_by layout flash P of =
    subst (λ es. P es (versions_in layout flash)) of.read
    (subst (λ vs. P of.entries vs) of.holds.tells of.holds.holds)

-- the entries that were read are as their bytes hold them
pub stored_read : (layout : Places) (e0 e1 : Entry) (told : Option (List ℕ))
    → IfSome told (λ flash. e0 ≡ entries_in layout flash 0)
    → IfSome told (λ flash. e1 ≡ entries_in layout flash 1) → IsStored e0 → IsStored e1
    → IfSome told (λ flash. AreStored (entries_in layout flash))
stored_read layout e0 e1 None first second one two = tt
stored_read layout e0 e1 (Some flash) first second one two =
    record { first = subst (λ e. IsStored e) first one; second = subst (λ e. IsStored e) second two }

-- what holds whatever the answer
pub on_ok_any : {T E P : Type 0} (r : Result T E) → P → OnOk r P
on_ok_any (Ok x) holds = holds
on_ok_any (Err why) holds = tt

-- ---- which application is confirmed

-- a version that fits is no lower than the level, and no higher than 32
pub fit_bounds : (level secure version : ℕ) → version_fit level secure ≡ Ok version
    → (version ≡ secure) × (level ≤ secure) × (secure ≤ 32)
fit_bounds level secure version is = at (nat_lt 32 secure) refl (nat_lt secure level) refl is
  where
    at : (high : Bool) → nat_lt 32 secure ≡ high → (old : Bool) → nat_lt secure level ≡ old
        → (if high then Err (High secure)
        else if old then Err (Old secure level) else Ok secure) ≡ Ok version
        → (version ≡ secure) × (level ≤ secure) × (secure ≤ 32)
    at true high old low is = absurd cc
    at false high true low is = absurd cc
    at false high false low is =
        (let same : version ≡ secure = cc in same, grind (arith, nat_tests), grind (arith, nat_tests))

-- where a slot is named, an entry is active
named_active : (layout : Places) (e0 e1 : Entry) (slot : ℕ) → named_of layout e0 e1 ≡ Ota slot
    → IsSome (active_of e0 e1)
unfolding named_of
named_active layout e0 e1 slot named = at (active_of e0 e1) named
  where
    at : (active : Option ℕ) → named_by layout e0 e1 active ≡ Ota slot → IsSome active
    at None named = absurd cc
    at (Some y) named = refl

-- the application that is confirmed: that of the slot that the entries name, with an image of this version
pub record IsVersion (layout : Places) (flash : List ℕ) (level secure : ℕ) : Type 0 where
  pub slot : ℕ
  pub image : List ℕ
  pub named : names layout (entries_in layout flash) ≡ Ota slot
  pub holds : images_in held layout flash (Ota slot) ≡ Some image
  pub version : secure_of image ≡ secure
  pub rises : level ≤ secure
  pub most : secure ≤ 32

version_image : (layout : Places) (flash : List ℕ) (level secure : ℕ)
    → version_of layout (versions_in layout flash) (entries_in layout flash) level ≡ Ok secure
    → IsVersion layout flash level secure
version_image layout flash level secure is = at (names layout (entries_in layout flash)) refl is
  where
    by : (slot : ℕ) → names layout (entries_in layout flash) ≡ Ota slot
        → (image : Option (List ℕ)) → images_in held layout flash (Ota slot) ≡ image
        → version_at level slot (version_held image) ≡ Ok secure
        → IsVersion layout flash level secure
    by slot named None holds is = absurd cc
    by slot named (Some image) holds is =
        let bounds = fit_bounds level (secure_of image) secure is in
        let same = bounds.0 in
        let rises = bounds.1 in
        let most = bounds.2 in record {
          slot = slot;
          image = image;
          named = named;
          holds = holds;
          version = sym same;
          rises = subst (λ s. level ≤ s) (sym same) rises;
          most = subst (λ s. s ≤ 32) (sym same) most;
        }

    at : (app : App) → names layout (entries_in layout flash) ≡ app
        → version_by level (versions_in layout flash) app ≡ Ok secure
        → IsVersion layout flash level secure
    at Factory named is = absurd cc
    at Test named is = absurd cc
    at (Ota slot) named is = by slot named (images_in held layout flash (Ota slot)) refl is

-- so it is by the entries that were read: the version fits, and an entry is active
pub by_fits : (level : ℕ) (versions : App → Option ℕ) (layout : Places) (e0 e1 : Entry)
    (version : Result ℕ Denied) → version ≡ version_by level versions (named_of layout e0 e1)
    → (OnOk version (IsSome (active_of e0 e1))) × (IfOk version (λ secure. secure ≤ 32))
    × (IfOk version (λ secure. level ≤ secure))
by_fits level versions layout e0 e1 (Err why) is = (tt, tt, tt)
by_fits level versions layout e0 e1 (Ok secure) is = at (named_of layout e0 e1) refl (sym is)
  where
    by : (slot : ℕ) → named_of layout e0 e1 ≡ Ota slot → (found : Option ℕ)
        → version_at level slot found ≡ Ok secure
        → (IsSome (active_of e0 e1)) × (secure ≤ 32) × (level ≤ secure)
    by slot named None is = absurd cc
    by slot named (Some version) is =
        let bounds = fit_bounds level version secure is in (
          named_active layout e0 e1 slot named,
          subst (λ s. s ≤ 32) (sym bounds.0) bounds.2,
          subst (λ s. level ≤ s) (sym bounds.0) bounds.1,
        )

    at : (app : App) → named_of layout e0 e1 ≡ app → version_by level versions app ≡ Ok secure
        → (IsSome (active_of e0 e1)) × (secure ≤ 32) × (level ≤ secure)
    at Factory named is = absurd cc
    at Test named is = absurd cc
    at (Ota slot) named is = by slot named (versions (Ota slot)) is

-- where an entry is active, a confirmation is not refused
pub active_confirms : (layout : Places) (app : App) (e0 e1 : Entry) (why : NoOtaApp)
    → IsSome (active_of e0 e1)
    → ¬ Answers layout.otadata app (confirmation (sectors e0 e1)) (Err why)
unfolding confirm_of
active_confirms layout app e0 e1 why some answers = at (active_of e0 e1) some answers
  where
    by : (done : Bool) (write : Rewrite) → Answers layout.otadata app
        (one_of {E = NoOtaApp} (Ok (if done then None else Some write))) (Err why) → ⊥
    by true write answers = answers
    by false write answers = answers

    at : (active : Option ℕ) → IsSome active
        → Answers layout.otadata app (one_of (confirm_by (sectors e0 e1) active)) (Err why) → ⊥
    at None some answers = absurd (let no : false ≡ true = some in cc)
    at (Some zero) some answers = by (e0.state == 2) (restated 2 0 e0) answers
    at (Some (suc n)) some answers = by (e1.state == 2) (restated 2 (suc n) e1) answers

-- where a slot is named, it is not refused either
tells_answers : (layout : Places) (e0 e1 : Entry) (slot : ℕ) (told : Told)
    → named_of layout e0 e1 ≡ Ota slot
    → Tells layout.otadata (named_of layout e0 e1) (writes_of (one_of (confirm_of e0 e1))) told
    → Answers layout.otadata (named_of layout e0 e1) (one_of (confirm_of e0 e1)) (Ok told)
unfolding confirm_of named_of
tells_answers layout e0 e1 slot told named tells = at (active_of e0 e1) named tells
  where
    by : (app : App) (done : Bool) (write : Rewrite)
        → Tells layout.otadata app
        (writes_of (one_of {E = NoOtaApp} (Ok (if done then None else Some write)))) told
        → Answers layout.otadata app
        (one_of {E = NoOtaApp} (Ok (if done then None else Some write))) (Ok told)
    by app true write tells = tells
    by app false write tells = tells

    at : (active : Option ℕ) → named_by layout e0 e1 active ≡ Ota slot
        → Tells layout.otadata (named_by layout e0 e1 active)
        (writes_of (one_of (confirm_by (sectors e0 e1) active))) told
        → Answers layout.otadata (named_by layout e0 e1 active)
        (one_of (confirm_by (sectors e0 e1) active)) (Ok told)
    at None named tells = absurd cc
    at (Some zero) named tells =
        by (named_by layout e0 e1 (Some zero)) (e0.state == 2) (restated 2 0 e0) tells
    at (Some (suc n)) named tells =
        by (named_by layout e0 e1 (Some (suc n))) (e1.state == 2) (restated 2 (suc n) e1) tells

-- ---- what is left of a flash and of bits

-- at most one entry is rewritten, as it stands
raising_are : (layout : Places) (bits : ℕ) (flash : List ℕ)
    → AreRewrites (entries_in layout flash) (raising_in layout bits flash)
raising_are layout bits flash =
    at (version_of layout (versions_in layout flash) (entries_in layout flash) (level_of bits))
  where
    at : (version : Result ℕ Denied) → AreRewrites (entries_in layout flash)
        (writes_for version (writes_of (confirmation (entries_in layout flash))))
    at (Ok secure) = confirmation_by.are (entries_in layout flash)
    at (Err why) = tt

pub raising_short : (layout : Places) (bits : ℕ) (flash : List ℕ)
    → AreShort (raising_in layout bits flash)
raising_short layout bits flash =
    boot_short (entries_in layout flash) (λ y two. label_short layout flash y)
    (raising_in layout bits flash) (raising_are layout bits flash)

-- it is left at some moment of the rewrite, or behind it
pub raised_after : (layout : Places) (flash : List ℕ) (bits : ℕ) (left : List ℕ) (word : ℕ)
    → LeavesRaised layout flash bits left word
    → LeftAfter flash (raising_steps layout flash bits) left
raised_after layout flash bits left word (inl before) = before.1
raised_after layout flash bits left word (inr behind) =
    subst (LeftAfter flash (raising_steps layout flash bits)) (sym behind.1.confirmed)
    (left_end flash (raising_steps layout flash bits))

-- of it boots what a verdict gives
pub raised_verdicts : (layout : Places) (size : ℕ) (flash : List ℕ) (bits : ℕ) (left : List ℕ)
    (word : ℕ) → IsPlaced layout size → LeavesRaised layout flash bits left word
    → LeavesVerdicts layout flash (raising_in layout bits flash) left
raised_verdicts layout size flash bits left word placed leaves =
    left_verdicts layout size flash left (raising_in layout bits flash) placed
    (boot_restated layout size flash (raising_in layout bits flash) placed
    (raising_are layout bits flash)) (raised_after layout flash bits left word leaves)

-- an application boots of it, where one did
pub raised_boots : (layout : Places) (size : ℕ) (flash : List ℕ) (bits : ℕ) (left : List ℕ)
    (word : ℕ) → IsPlaced layout size → LeavesRaised layout flash bits left word
    → boots_in held layout flash ≢ None → boots_in held layout left ≢ None
raised_boots layout size flash bits left word placed leaves =
    left_boots layout size flash left (raising_in layout bits flash) placed
    (raising_short layout bits flash) (raised_after layout flash bits left word leaves)

-- and above the level: the one that is confirmed is no older than the level that is left
pub raised_boots_above : (layout : Places) (size : ℕ) (flash : List ℕ) (bits : ℕ) (left : List ℕ)
    (word : ℕ) → IsPlaced layout size → LeavesRaised layout flash bits left word
    → boots_in (held_above (level_of bits)) layout flash ≢ None
    → boots_in (held_above (level_of word)) layout left ≢ None
raised_boots_above layout size flash bits left word placed (inl before) some =
    subst (λ w. boots_in (held_above (level_of w)) layout left ≢ None) (sym before.0)
    (left_boots_by (held_above (level_of bits)) layout size flash left
    (raising_in layout bits flash) placed (raising_short layout bits flash) before.1 some)
raised_boots_above layout size flash bits left word placed (inr behind) some =
    let secure = behind.0 in
    let low = level_of word in
    let is = version_image layout flash (level_of bits) secure behind.1.version in
    let rises = is.rises in
    let stage = behind.1.stage.level in
    let version = is.version in
    let less : low ≤ secure_of is.image = omega arith in
    let here : images_in (held_above low) layout flash (Ota is.slot) ≡ Some is.image =
    holds_above low layout flash (Ota is.slot) is.image is.holds less in
    subst (λ h. boots layout h (entries_in layout left) ≢ None)
    (sym (left_images (held_above low) layout size flash left (raising_in layout bits flash) placed
    (raising_short layout bits flash)
    (raised_after layout flash bits left word (inr behind))))
    (some_boots layout (images_in (held_above low) layout flash) (entries_in layout left)
    (Ota is.slot)
    (λ none. absurd (let lacks = images_are_placed (held_above low) layout flash (Ota is.slot) none
    in cc))
    (λ lacks. absurd cc))

-- ---- the same of a device that tells its bytes

pub left_crash_of : (layout : Places) (size : ℕ) (old : Option (List ℕ)) (bits : ℕ)
    (new : Option (List ℕ)) (word : ℕ) → IsPlaced layout size
    → IsLeftRaised layout old bits new word
    → IsLeftByVerdicts layout (raising_in layout bits) old new
left_crash_of layout size None bits new word placed left = tt
left_crash_of layout size (Some flash) bits new word placed left =
    (left.0, left.1, raised_verdicts layout size flash bits left.0 word placed left.2)

pub left_still : (layout : Places) (size : ℕ) (old : Option (List ℕ)) (bits : ℕ)
    (new : Option (List ℕ)) (word : ℕ) → IsPlaced layout size
    → IsLeftRaised layout old bits new word → StillBoots layout old new
left_still layout size None bits new word placed left = tt
left_still layout size (Some flash) bits new word placed left =
    λ some. (left.0, left.1, raised_boots layout size flash bits left.0 word placed left.2 some)

pub left_still_above : (layout : Places) (size : ℕ) (old : Option (List ℕ)) (bits : ℕ)
    (new : Option (List ℕ)) (word : ℕ) → IsPlaced layout size
    → IsLeftRaised layout old bits new word
    → StillBootsAbove (level_of bits) (level_of word) layout old new
left_still_above layout size None bits new word placed left = tt
left_still_above layout size (Some flash) bits new word placed left =
    λ some. (left.0, left.1, raised_boots_above layout size flash bits left.0 word placed left.2 some)

module _ {S Z : Type 0} (may_end : S → ℕ → StepEnd → Type 0)
    (may_tear : S → ℕ → List ℕ → Step → List ℕ → Type 0)
    (may_refuse : S → ℕ → NorFault → Type 0) (must_refuse : S → ℕ → Type 0)
    (burnt : Z → ℕ) (may_leave : Z → ℕ → Type 0) where
  -- what a call says by the entries and the versions
  abbrev pub Raises : Places → S → ℕ → ℕ → Option (List ℕ) → Option (List ℕ) → Z → Z
      → Result (Result (Result Told FuseNo) Denied) NorFault → (ℕ → Entry) → (App → Option ℕ) → Type 0
  Raises layout set count now old new before after r es versions =
      AreMadeBy may_end may_tear may_refuse must_refuse set
      (rewrites layout.otadata (raising layout versions es (level_of (burnt before)))) count now old
      new r
      × IfOk r (Confirms layout.otadata (names layout es)
      (raising layout versions es (level_of (burnt before)))
      (version_of layout versions es (level_of (burnt before))))
      × Burns burnt may_leave before after (version_of layout versions es (level_of (burnt before))) r

  abbrev pub RaisesOf : Places → S → ℕ → ℕ → Option (List ℕ) → Option (List ℕ) → Z → Z
      → Result (Result (Result Told FuseNo) Denied) NorFault → Type 0
  RaisesOf layout set count now old new before after r =
      OfEntries layout old (λ es. OfVersions layout old
      (λ versions. Raises layout set count now old new before after r es versions))

  -- of a device and fuses of which nothing was asked but reads
  pub unburnt : (fuses : Z) (version : Result ℕ Denied) (why : NorFault)
      → Burns burnt may_leave fuses fuses version (Err why)
  unburnt fuses (Ok secure) why = refl
  unburnt fuses (Err denied) why = refl

  -- steps that were made behind reads
  pub made_since : {T : Type 0} (set mid_set : S) (steps : List Step) (count mid now : ℕ)
      (old told new : Option (List ℕ)) (r : Result T NorFault) → mid_set ≡ set → mid ≡ count
      → told ≡ old
      → AreMadeBy may_end may_tear may_refuse must_refuse mid_set steps mid now told new r
      → AreMadeBy may_end may_tear may_refuse must_refuse set steps count now old new r
  made_since set mid_set steps count mid now old told new r same_set same_count same_bytes made =
      subst (λ s. AreMadeBy may_end may_tear may_refuse must_refuse s steps count now old new r)
      same_set
      (subst (λ c. AreMadeBy may_end may_tear may_refuse must_refuse mid_set steps c now old new r)
      same_count
      (subst (λ o. AreMadeBy may_end may_tear may_refuse must_refuse mid_set steps mid now o new r)
      same_bytes made))

  -- what is left of a flash and of bits
  pub raises_left : (layout : Places) (set : S) (count now : ℕ) (old new : Option (List ℕ))
      (before after : Z) (r : Result (Result (Result Told FuseNo) Denied) NorFault)
      → RaisesOf layout set count now old new before after r
      → IsLeftRaised layout old (burnt before) new (burnt after)
  raises_left layout set count now None new before after r raises = tt
  raises_left layout set count now (Some flash) new before after r raises =
      let all = told_by layout flash
      (Raises layout set count now (Some flash) new before after r) raises in
      by (made_by_left may_end may_tear may_refuse must_refuse set
      (raising_steps layout flash (burnt before)) count now (Some flash) new r all.0)
      (version_of layout (versions_in layout flash) (entries_in layout flash)
      (level_of (burnt before))) refl r all.2
      (IfOk-weaker r _ _ (λ x made. made.bytes)
      (made_by_ok may_end may_tear may_refuse must_refuse set
      (raising_steps layout flash (burnt before)) count now (Some flash) new r all.0))
    where
      same : IsLeftOf (raising_steps layout flash (burnt before)) (Some flash) new → after ≡ before
          → IsLeftRaised layout (Some flash) (burnt before) new (burnt after)
      same left is = (left.0, left.1, inl (ap burnt is, left.2))

      by : IsLeftOf (raising_steps layout flash (burnt before)) (Some flash) new
          → (version : Result ℕ Denied)
          → version_of layout (versions_in layout flash) (entries_in layout flash)
          (level_of (burnt before)) ≡ version
          → (r : Result (Result (Result Told FuseNo) Denied) NorFault)
          → Burns burnt may_leave before after version r
          → OnOk r (new ≡ Some (after_steps flash (raising_steps layout flash (burnt before))))
          → IsLeftRaised layout (Some flash) (burnt before) new (burnt after)
      by left (Err denied) is r burns all = same left burns
      by left (Ok secure) is (Err why) burns all = same left burns
      by left (Ok secure) is (Ok (Err denied)) burns all = same left burns
      by left (Ok secure) is (Ok (Ok answer)) burns all = (
        after_steps flash (raising_steps layout flash (burnt before)),
        all,
        inr (secure, record { version = is; confirmed = refl; stage = burns.stage }),
      )

  -- and at every moment of it
  pub raises_moments : (layout : Places) (set : S) (count now : ℕ) (old new : Option (List ℕ))
      (before after : Z) (r : Result (Result (Result Told FuseNo) Denied) NorFault)
      → RaisesOf layout set count now old new before after r
      → IfSome old (λ flash. LeavesOnly may_leave before after
      (λ word. (left : List ℕ) × LeavesRaised layout flash (burnt before) left word))
  raises_moments layout set count now None new before after r raises = tt
  raises_moments layout set count now (Some flash) new before after r raises =
      by (version_of layout (versions_in layout flash) (entries_in layout flash)
      (level_of (burnt before))) refl r
      (told_by layout flash (Raises layout set count now (Some flash) new before after r) raises).2
    where
      same : after ≡ before → LeavesOnly may_leave before after
          (λ word. (left : List ℕ) × LeavesRaised layout flash (burnt before) left word)
      same is = λ word at. inl (subst (λ f. may_leave f word) is at)

      by : (version : Result ℕ Denied)
          → version_of layout (versions_in layout flash) (entries_in layout flash)
          (level_of (burnt before)) ≡ version
          → (r : Result (Result (Result Told FuseNo) Denied) NorFault)
          → Burns burnt may_leave before after version r
          → LeavesOnly may_leave before after
          (λ word. (left : List ℕ) × LeavesRaised layout flash (burnt before) left word)
      by (Err denied) is r burns = same burns
      by (Ok secure) is (Err why) burns = same burns
      by (Ok secure) is (Ok (Err denied)) burns = same burns
      by (Ok secure) is (Ok (Ok answer)) burns = λ word at. elim (burns.moments word at) [
        | inl old ↦ inl old
        | inr stage ↦ inr (
          after_steps flash (raising_steps layout flash (burnt before)),
          inr (secure, record { version = is; confirmed = refl; stage = stage }),
        )
      ]

  -- where there is no refusal, the application that is confirmed is what boots above the level
  pub raises_boots : (layout : Places) (set : S) (size count now : ℕ) (old new : Option (List ℕ))
      (before after : Z) (r : Result (Result (Result Told FuseNo) Denied) NorFault)
      → IsPlaced layout size → ((flash : List ℕ) → old ≡ Some flash → length flash ≡ size)
      → OnOk r (IfSome old (λ flash. AreStored (entries_in layout flash)))
      → RaisesOf layout set count now old new before after r
      → BootsRaised (level_of (burnt after)) layout old new r
  raises_boots layout set size count now old new before after (Err why) placed sized stored raises =
      tt
  raises_boots layout set size count now old new before after (Ok (Err denied)) placed sized stored
      raises = tt
  raises_boots layout set size count now old new before after (Ok (Ok (Err why))) placed sized
      stored raises = tt
  raises_boots layout set size count now None new before after (Ok (Ok (Ok told))) placed sized
      stored raises = tt
  raises_boots layout set size count now (Some flash) new before after (Ok (Ok (Ok told))) placed
      sized stored raises =
      let all = told_by layout flash
      (Raises layout set count now (Some flash) new before after (Ok (Ok (Ok told)))) raises in
      by (version_of layout (versions_in layout flash) (entries_in layout flash)
      (level_of (burnt before))) refl all.1 all.2 all.0.bytes
    where
      by : (version : Result ℕ Denied)
          → version_of layout (versions_in layout flash) (entries_in layout flash)
          (level_of (burnt before)) ≡ version
          → Confirms layout.otadata (names layout (entries_in layout flash))
          (writes_for version (writes_of (confirmation (entries_in layout flash)))) version
          (Ok (Ok told))
          → Burns burnt may_leave before after version (Ok (Ok (Ok told)))
          → new ≡ Some (after_steps flash (raising_steps layout flash (burnt before)))
          → BootsAbove (level_of (burnt after)) layout (Some flash) new (Ota told.slot)
      by (Err denied) is confirms burns all = absurd confirms
      by (Ok secure) is confirms burns all =
          let its = version_image layout flash (level_of (burnt before)) secure is in
          let slots = sym its.named ∙ confirms.slot in
          let slot : its.slot ≡ told.slot = cc in
          let holds : images_in held layout flash (Ota told.slot) ≡ Some its.image =
          subst (λ s. images_in held layout flash (Ota s) ≡ Some its.image) slot its.holds in
          let level = burns.level in
          let version = its.version in
          let less : level_of (burnt after) ≤ secure_of its.image = omega arith in (
            its.image,
            holds,
            (
              after_steps flash (raising_steps layout flash (burnt before)),
              all,
              ap (λ v. boots_in (held_above (level_of (burnt after))) layout
                  (after_steps flash (rewrites layout.otadata (writes_for v
                  (writes_of (confirmation (entries_in layout flash))))))) is
                  ∙ confirmed_told (held_above (level_of (burnt after))) layout flash told
                  (subst (IsPlaced layout) (sym (sized flash refl)) placed)
                  stored.first stored.second
                  (tells_answers layout (entries_in layout flash 0) (entries_in layout flash 1)
                  told.slot told confirms.slot confirms)
                  its.image
                  (holds_above (level_of (burnt after)) layout flash (Ota told.slot) its.image holds
                  less),
            ),
          )
