-- Once an application is confirmed, it boots, where its slot holds an image.
use Rattle.std.proofs.Common.{◌==◌, true, false, Bool, ◌≡◌, ◌⊎◌, inl, inr, ℕ, zero, suc, ◌<◌, List, [], ◌∷◌, length, Option, Some, None, IfSome, Result, Ok, Err, IfOk, OnOk, lit<, if◌then◌else◌, refl, sym, ap, ◌∙◌, subst, arith}
use Rattle.std.proofs.lemmas.Bool.{cases_Bool}
use Rattle.std.proofs.lemmas.Bool.Decides.{nat_tests}
use Rattle.nor_device.specs.declared.nor.NorFault.{NorFault}
use Rattle.nor_device.specs.Flash.{after_steps}
use Rattle.crash_images.specs.Crash.{IsAfterAll}
use Rattle.crash_images.proofs.LeftLaws.{left_end}
use Rattle.partition_table.specs.declared.app.App.{App}
use Rattle.partition_table.specs.declared.app.App.TheVariants.{Ota}
use Rattle.partition_table.specs.Layout.{Places, IsPlaced}
use Rattle.otadata.specs.declared.entry.Entry.{Entry}
use Rattle.otadata.specs.Choice.{active_of}
use Rattle.otadata.specs.Entry.{IsStored}
use Rattle.otadata.proofs.ChoiceLemmas.{active-lt}
use Rattle.boot_select.specs.Choice.{named_by, named_of, slot_app}
use Rattle.boot_select.specs.Settled.{sectors}
use Rattle.boot_select.specs.Boots.{entries_in, images_in}
use Rattle.rollback.specs.declared.rewrite.Rewrite.{Rewrite}
use Rattle.rollback.specs.declared.verdict.NoOtaApp.{NoOtaApp}
use Rattle.rollback.specs.Rewrite.{restated, with_state}
use Rattle.rollback.specs.Boots.{boots, boots_in, in_state}
use Rattle.rollback.specs.Verdict.{confirm_by, confirm_of}
use Rattle.rollback.proofs.EntriesLemmas.{boots_same}
use Rattle.rollback.proofs.LifeLemmas.{confirmed_boots}
use Rattle.image_verify.specs.Held.{held}
use Rattle.boot_run.specs.declared.told.Told.{Told}
use Rattle.boot_run.specs.Rewriting.{rewrite, rewrites}
use Rattle.boot_run.specs.Verdict.{Answers, BootsTold, confirmation, one_of, writes_of}
use Rattle.boot_run.proofs.FrameLemmas.{left_images}
use Rattle.boot_run.proofs.StoredLemmas.{entries_changed}

-- the entry in the state that it has
same_state : (e : Entry) → e.state ≡ 2 → e ≡ with_state 2 e
same_state e is = λ i. record e { state = is i }

-- the entries with the one of this sector VALID, where it is so already
pub in_state_same : (es : ℕ → Entry) (y k : ℕ) → (es y).state ≡ 2 → es k ≡ in_state 2 y es k
in_state_same es y k is = at (cases_Bool (k == y))
  where
    at : ((k == y) ≡ true) ⊎ ((k == y) ≡ false) → es k ≡ in_state 2 y es k
    at (inl p) =
        let same : k ≡ y = grind (arith, nat_tests) in
        rw p (ap es same ∙ same_state (es y) is)
    at (inr p) = rw p refl

-- where the active entry is VALID, or has been made so, its application boots
left_confirmed : (which : List ℕ → Option (List ℕ)) (layout : Places) (flash : List ℕ) (y : ℕ) (image : List ℕ) (done : Bool)
    → IsPlaced layout (length flash)
    → y < 2 → IsStored (entries_in layout flash y)
    → ((entries_in layout flash y).state == 2) ≡ done
    → active_of (entries_in layout flash 0) (entries_in layout flash 1) ≡ Some y
    → images_in which layout flash (slot_app layout (entries_in layout flash y)) ≡ Some image
    → boots_in which layout (after_steps flash
    (rewrites layout.otadata (writes_of (one_of {E = NoOtaApp}
    (Ok (if done then None else Some (restated 2 y (entries_in layout flash y))))))))
    ≡ Some (slot_app layout (entries_in layout flash y), image)
left_confirmed which layout flash y image true placed two stored is active holds =
    let es = entries_in layout flash in
    let valid : (es y).state ≡ 2 = grind (arith, nat_tests) in
    boots_same layout (images_in which layout flash) (in_state 2 y es) es
    (in_state_same es y 0 valid)
    (in_state_same es y 1 valid)
    ∙ confirmed_boots layout (images_in which layout flash) es y image two active holds
left_confirmed which layout flash y image false placed two stored is active holds =
    let es = entries_in layout flash in
    let write = restated 2 y (es y) in
    let left = after_steps flash (rewrite layout.otadata write) in
    let written : IsStored write.entry = record {
      sized = record {
        seq = stored.sized.seq;
        label = stored.sized.label;
        state = lit< tt;
        crc =
            stored.sized.crc;
      };
      label = stored.label;
    } in
    let images : images_in which layout left ≡ images_in which layout flash =
    left_images which layout (length flash) flash left (write ∷ []) placed
    ((two, omega (arith, stored.sized.label)), tt)
    (left_end flash (rewrites layout.otadata (write ∷ []))) in
    ap (λ h. boots layout h (entries_in layout left)) images
    ∙ boots_same layout (images_in which layout flash) (in_state 2 y es) (entries_in layout left)
    (entries_changed layout flash write placed two written 0 (omega arith))
    (entries_changed layout flash write placed two written 1 (omega arith))
    ∙ confirmed_boots layout (images_in which layout flash) es y image two active holds

-- what is told of a confirmation tells which application boots now, whatever counts as an image
pub confirmed_told : (which : List ℕ → Option (List ℕ)) (layout : Places) (flash : List ℕ) (told : Told) → IsPlaced layout (length flash)
    → IsStored (entries_in layout flash 0) → IsStored (entries_in layout flash 1)
    → Answers layout.otadata (named_of layout (entries_in layout flash 0)
    (entries_in layout flash 1))
    (confirmation (entries_in layout flash)) (Ok told)
    → (image : List ℕ) → images_in which layout flash (Ota told.slot) ≡ Some image
    → boots_in which layout (after_steps flash
    (rewrites layout.otadata (writes_of (confirmation (entries_in layout flash)))))
    ≡ Some (Ota told.slot, image)
unfolding confirm_of named_of
confirmed_told which layout flash told placed first second answers image holds =
    at (active_of (es 0) (es 1)) refl (active-lt (es 0) (es 1)) answers
  where
    es : ℕ → Entry
    es = entries_in layout flash

    by : (y : ℕ) (e : Entry) → y < 2 → e ≡ entries_in layout flash y
        → IsStored (entries_in layout flash y)
        → active_of (entries_in layout flash 0) (entries_in layout flash 1) ≡ Some y
        → (slot_app layout e ≡ Ota told.slot)
        → boots_in which layout (after_steps flash
        (rewrites layout.otadata (writes_of (one_of {E = NoOtaApp}
        (Ok (if e.state == 2 then None else Some (restated 2 y e)))))))
        ≡ Some (Ota told.slot, image)
    by y e two is stored active named =
        let app : slot_app layout (entries_in layout flash y) ≡ Ota told.slot =
        ap (slot_app layout) (sym is) ∙ named in
        ap (λ x. boots_in which layout
        (after_steps flash (rewrites layout.otadata (writes_of (one_of {E = NoOtaApp}
        (Ok (if x.state == 2 then None else Some (restated 2 y x)))))))) is
        ∙ left_confirmed which layout flash y image ((entries_in layout flash y).state == 2) placed two
        stored refl active
        (ap (images_in which layout flash) app ∙ holds)
        ∙ ap (λ a. Some (a, image)) app

    slot : {E : Type 0} (named : App) (r : Result (List Rewrite) E) → Answers layout.otadata named r
        (Ok told)
        → named ≡ Ota told.slot
    slot named (Ok ws) tells = tells.slot
    slot named (Err why) tells = absurd tells

    at : (active : Option ℕ) → active_of (entries_in layout flash 0) (entries_in layout flash 1)
        ≡ active
        → IfSome active (λ number. number < 2)
        → Answers layout.otadata (named_by layout (entries_in layout flash 0)
        (entries_in layout flash 1) active)
        (one_of (confirm_by (sectors (entries_in layout flash 0) (entries_in layout flash 1))
        active)) (Ok told)
        → boots_in which layout (after_steps flash (rewrites layout.otadata (writes_of
        (one_of (confirm_by (sectors (entries_in layout flash 0) (entries_in layout flash 1))
        active)))))
        ≡ Some (Ota told.slot, image)
    at None is two tells = absurd tells
    at (Some zero) is two tells =
        by 0 (entries_in layout flash 0) two refl first is
        (slot (slot_app layout (entries_in layout flash 0))
        (one_of (confirm_by (sectors (entries_in layout flash 0)
        (entries_in layout flash 1)) (Some zero))) tells)
    at (Some (suc n)) is two tells =
        let one : suc n ≡ 1 = omega arith in
        by (suc n) (entries_in layout flash 1) two (ap (entries_in layout flash) (sym one))
        (subst (λ k. IsStored (entries_in layout flash k)) (sym one) second) is
        (slot (slot_app layout (entries_in layout flash 1))
        (one_of (confirm_by (sectors (entries_in layout flash 0)
        (entries_in layout flash 1)) (Some (suc n)))) tells)

-- of a device that tells its bytes
pub told_confirmed : (layout : Places) (size : ℕ) (e0 e1 : Entry) (old new : Option (List ℕ))
    (answer : Result (Result Told NoOtaApp) NorFault) → IsPlaced layout size
    → ((flash : List ℕ) → old ≡ Some flash → length flash ≡ size)
    → IfSome old (λ flash. e0 ≡ entries_in layout flash 0)
    → IfSome old (λ flash. e1 ≡ entries_in layout flash 1)
    → IsStored e0 → IsStored e1
    → OnOk answer (IsAfterAll (rewrites layout.otadata (writes_of (one_of (confirm_of e0 e1)))) old
    new)
    → IfOk answer (Answers layout.otadata (named_of layout e0 e1) (one_of (confirm_of e0 e1)))
    → BootsTold layout old new answer
told_confirmed layout size e0 e1 old new (Err why) placed sized first second one two all answers =
    all
told_confirmed layout size e0 e1 old new (Ok (Err why)) placed sized first second one two all
    answers = tt
told_confirmed layout size e0 e1 None new (Ok (Ok told)) placed sized first second one two all
    answers = tt
told_confirmed layout size e0 e1 (Some flash) new (Ok (Ok told)) placed sized first second one two
    all answers =
    let f0 = entries_in layout flash 0 in
    let f1 = entries_in layout flash 1 in
    let left = after_steps flash (rewrites layout.otadata (writes_of (one_of (confirm_of f0 f1))))
    in
    let is : new ≡ Some left = all ∙ (λ i. Some (after_steps flash (rewrites layout.otadata
    (writes_of (one_of (confirm_of (first i) (second i))))))) in
    let here = subst (λ a. Answers layout.otadata (named_of layout a f1) (one_of (confirm_of a f1))
    (Ok told)) first
    (subst (λ b. Answers layout.otadata (named_of layout e0 b) (one_of (confirm_of e0 b)) (Ok told))
    second answers) in
    λ image holds. (
      left,
      is,
      confirmed_told held layout flash told
          (subst (IsPlaced layout) (sym (sized flash refl)) placed)
          (subst (λ a. IsStored a) first one) (subst (λ b. IsStored b) second two) here image holds,
    )
