-- What boots, confirmations and rejections leave of a pair, on a device that tells its bytes.
use Rattle.std.proofs.Common.{◌≡◌, ℕ, zero, suc, ◌<◌, List, length, Option, Some, None, IfSome, Result, Ok, Err, OnOk, refl, sym, ◌∙◌, subst, arith}
use Rattle.nor_device.specs.declared.nor.NorFault.{NorFault}
use Rattle.nor_device.specs.declared.nor.NorFault.TheVariants.{Failed}
use Rattle.nor_device.specs.Flash.{after_steps}
use Rattle.crash_images.specs.Crash.{IsAfterAll, IsLeftOf, LeftAfter}
use Rattle.crash_images.proofs.LeftLaws.{left_begin}
use Rattle.otadata.specs.declared.entry.Entry.{Entry}
use Rattle.otadata.specs.Entry.{IsStored}
use Rattle.partition_table.specs.Layout.{IsPlaced, Places}
use Rattle.boot_select.specs.Settled.{sectors}
use Rattle.boot_select.specs.Boots.{entries_in}
use Rattle.rollback.specs.declared.rewrite.Rewrite.{Rewrite}
use Rattle.rollback.specs.Boot.{boot_writes}
use Rattle.boot_run.specs.Paired.{BootSettles, ConfirmSettles, IsActivePair, IsPairIn, KeepsPairs, KeepsPair, Pairing}
use Rattle.boot_run.specs.Read.{whole_in}
use Rattle.boot_run.specs.Rewriting.{rewrites}
use Rattle.boot_run.specs.Verdict.{confirmation, rejection, writes_of}
use Rattle.boot_run.proofs.StartedLemmas.{AreBy, boot_by}
use Rattle.boot_run.proofs.VerdictLemmas.{confirmation_by}
use Rattle.boot_run.proofs.KeptLemmas.{kept_boot, kept_confirm, kept_reject}
use Rattle.boot_run.proofs.SettleLemmas.{settled_boot, settled_confirm, settled_second}

-- whatever is left of these rewrites is left of a pair
abbrev KeepsAll : Places → (List ℕ → Pairing → Type 0) → (List ℕ → List Rewrite) → Type 0
KeepsAll layout Is writes = (flash left : List ℕ) (pair : Pairing) → Is flash pair
    → LeftAfter flash (rewrites layout.otadata (writes flash)) left
    → KeepsPair layout flash (writes flash) pair left

-- what holds behind all of the rewrites, where there is an answer
ended : {T : Type 0} (P : List ℕ → Type 0) (left after : List ℕ) (new : Option (List ℕ))
    (r : Result T NorFault) → new ≡ Some left → OnOk r (new ≡ Some after) → P after
    → OnOk r (P left)
ended P left after new (Err why) is done holds = tt
ended P left after new (Ok x) is done holds =
    let both = sym is ∙ done in
    let here : left ≡ after = cc in subst P (sym here) holds

-- of rewrites that were begun
told_pairs : {T : Type 0} (layout : Places) (Is : List ℕ → Pairing → Type 0)
    (writes : List ℕ → List Rewrite) (Ends : List ℕ → Pairing → List ℕ → Type 0)
    (made : List Rewrite) (old new : Option (List ℕ)) (r : Result T NorFault)
    → KeepsAll layout Is writes
    → IfSome old (λ flash. (pair : Pairing) → Is flash pair
    → Ends flash pair (after_steps flash (rewrites layout.otadata (writes flash))))
    → IfSome old (λ flash. made ≡ writes flash)
    → IsLeftOf (rewrites layout.otadata made) old new
    → OnOk r (IsAfterAll (rewrites layout.otadata made) old new)
    → KeepsPairs layout Is writes Ends old new r
told_pairs layout Is writes Ends made None new r all ends same left done = tt
told_pairs layout Is writes Ends made (Some flash) new r all ends same left done = λ pair is. (
  left.0,
  left.1,
  all flash left.0 pair is
      (subst (λ ws. LeftAfter flash (rewrites layout.otadata ws) left.0) same left.2),
  ended (Ends flash pair) left.0 (after_steps flash (rewrites layout.otadata made)) new r left.1 done
      (subst (λ ws. Ends flash pair (after_steps flash (rewrites layout.otadata ws))) (sym same)
      (ends pair is)),
)

-- of rewrites that were not begun, whatever refused them
pub refused_pairs : (layout : Places) (Is : List ℕ → Pairing → Type 0)
    (writes : List ℕ → List Rewrite) (Ends : List ℕ → Pairing → List ℕ → Type 0)
    (old new : Option (List ℕ)) → KeepsAll layout Is writes → new ≡ old
    → KeepsPairs {T = Unit {0}} layout Is writes Ends old new (Err Failed)
refused_pairs layout Is writes Ends None new all same = tt
refused_pairs layout Is writes Ends (Some flash) new all same = λ pair is. (
  flash,
  same,
  all flash flash pair is (left_begin flash (rewrites layout.otadata (writes flash))),
  tt,
)

-- ---- by the entries that were read

-- the entries of a flash that were read are stored
read_stored : (layout : Places) (flash : List ℕ) (e0 e1 : Entry) → e0 ≡ entries_in layout flash 0
    → e1 ≡ entries_in layout flash 1 → IsStored e0 → IsStored e1 → (sector : ℕ) → sector < 2
    → IsStored (entries_in layout flash sector)
read_stored layout flash e0 e1 first second one other zero two =
    subst (λ e. IsStored e) first one
read_stored layout flash e0 e1 first second one other (suc zero) two =
    subst (λ e. IsStored e) second other
read_stored layout flash e0 e1 first second one other (suc (suc n)) two = absurd (omega arith)

-- the rewrites by them are those of the flash
read_writes : (layout : Places) (writes : (ℕ → Entry) → List Rewrite) (e0 e1 : Entry)
    (told : Option (List ℕ)) → AreBy writes
    → IfSome told (λ flash. e0 ≡ entries_in layout flash 0)
    → IfSome told (λ flash. e1 ≡ entries_in layout flash 1)
    → IfSome told (λ flash. writes (sectors e0 e1) ≡ writes (entries_in layout flash))
read_writes layout writes e0 e1 None by first second = tt
read_writes layout writes e0 e1 (Some flash) by first second =
    by.same (sectors e0 e1) (entries_in layout flash) first second

-- what is left of a boot of a pair
pub boot_leaves : (layout : Places) (size : ℕ) → IsPlaced layout size
    → KeepsAll layout (IsPairIn layout) (λ flash. boot_writes (entries_in layout flash))
boot_leaves layout size placed flash left pair is = kept_boot layout size flash pair placed is left

-- of a confirmation
pub confirm_leaves : (layout : Places) (size : ℕ) → IsPlaced layout size
    → KeepsAll layout (IsActivePair layout)
    (λ flash. writes_of (confirmation (entries_in layout flash)))
confirm_leaves layout size placed flash left pair is =
    kept_confirm layout size flash pair placed is.is is.active left

-- and of a rejection
pub reject_leaves : (layout : Places) (size : ℕ) → IsPlaced layout size
    → KeepsAll layout (IsActivePair layout)
    (λ flash. writes_of (rejection layout (whole_in layout flash) (entries_in layout flash)))
reject_leaves layout size placed flash left pair is =
    kept_reject layout size flash pair placed is.is is.active (whole_in layout flash) left

-- a boot
pub boot_pairs : {T : Type 0} (layout : Places) (size : ℕ) (e0 e1 : Entry)
    (old new : Option (List ℕ)) (r : Result T NorFault) → IsPlaced layout size
    → ((flash : List ℕ) → old ≡ Some flash → length flash ≡ size)
    → IfSome old (λ flash. e0 ≡ entries_in layout flash 0)
    → IfSome old (λ flash. e1 ≡ entries_in layout flash 1) → IsStored e0 → IsStored e1
    → IsLeftOf (rewrites layout.otadata (boot_writes (sectors e0 e1))) old new
    → OnOk r (IsAfterAll (rewrites layout.otadata (boot_writes (sectors e0 e1))) old new)
    → KeepsPairs layout (IsPairIn layout) (λ flash. boot_writes (entries_in layout flash))
    (BootSettles layout) old new r
boot_pairs layout size e0 e1 old new r placed sized first second one other left done =
    told_pairs layout (IsPairIn layout) (λ flash. boot_writes (entries_in layout flash))
    (BootSettles layout) (boot_writes (sectors e0 e1)) old new r (boot_leaves layout size placed)
    (ends old sized first second) (read_writes layout boot_writes e0 e1 old boot_by first second)
    left done
  where
    ends : (told : Option (List ℕ)) → ((flash : List ℕ) → told ≡ Some flash → length flash ≡ size)
        → IfSome told (λ flash. e0 ≡ entries_in layout flash 0)
        → IfSome told (λ flash. e1 ≡ entries_in layout flash 1)
        → IfSome told (λ flash. (pair : Pairing) → IsPairIn layout flash pair
        → BootSettles layout flash pair (after_steps flash
        (rewrites layout.otadata (boot_writes (entries_in layout flash)))))
    ends None long zeroth next = tt
    ends (Some flash) long zeroth next = λ pair is.
        let at = subst (IsPlaced layout) (sym (long flash refl)) placed in
        let stored = read_stored layout flash e0 e1 zeroth next one other in
        record {
          first = settled_boot layout flash pair at stored is;
          second = settled_second layout flash pair at stored is;
        }

-- a confirmation
pub confirm_pairs : {T : Type 0} (layout : Places) (size : ℕ) (e0 e1 : Entry)
    (old new : Option (List ℕ)) (r : Result T NorFault) → IsPlaced layout size
    → ((flash : List ℕ) → old ≡ Some flash → length flash ≡ size)
    → IfSome old (λ flash. e0 ≡ entries_in layout flash 0)
    → IfSome old (λ flash. e1 ≡ entries_in layout flash 1) → IsStored e0 → IsStored e1
    → IsLeftOf (rewrites layout.otadata (writes_of (confirmation (sectors e0 e1)))) old new
    → OnOk r
    (IsAfterAll (rewrites layout.otadata (writes_of (confirmation (sectors e0 e1)))) old new)
    → KeepsPairs layout (IsActivePair layout)
    (λ flash. writes_of (confirmation (entries_in layout flash))) (ConfirmSettles layout) old new r
confirm_pairs layout size e0 e1 old new r placed sized first second one other left done =
    told_pairs layout (IsActivePair layout)
    (λ flash. writes_of (confirmation (entries_in layout flash))) (ConfirmSettles layout)
    (writes_of (confirmation (sectors e0 e1))) old new r (confirm_leaves layout size placed)
    (ends old sized first second)
    (read_writes layout (λ es. writes_of (confirmation es)) e0 e1 old confirmation_by first second)
    left done
  where
    ends : (told : Option (List ℕ)) → ((flash : List ℕ) → told ≡ Some flash → length flash ≡ size)
        → IfSome told (λ flash. e0 ≡ entries_in layout flash 0)
        → IfSome told (λ flash. e1 ≡ entries_in layout flash 1)
        → IfSome told (λ flash. (pair : Pairing) → IsActivePair layout flash pair
        → ConfirmSettles layout flash pair (after_steps flash (rewrites layout.otadata
        (writes_of (confirmation (entries_in layout flash))))))
    ends None long zeroth next = tt
    ends (Some flash) long zeroth next = λ pair is.
        settled_confirm layout flash pair
        (subst (IsPlaced layout) (sym (long flash refl)) placed)
        (read_stored layout flash e0 e1 zeroth next one other) is.is is.active

-- a rejection
pub reject_pairs : {T : Type 0} (layout : Places) (size : ℕ) (made : List Rewrite)
    (old new : Option (List ℕ)) (r : Result T NorFault) → IsPlaced layout size
    → IfSome old (λ flash. made ≡ writes_of (rejection layout (whole_in layout flash)
    (entries_in layout flash)))
    → IsLeftOf (rewrites layout.otadata made) old new
    → OnOk r (IsAfterAll (rewrites layout.otadata made) old new)
    → KeepsPairs layout (IsActivePair layout)
    (λ flash. writes_of (rejection layout (whole_in layout flash) (entries_in layout flash)))
    (λ flash pair left. Unit {0}) old new r
reject_pairs layout size made old new r placed same left done =
    told_pairs layout (IsActivePair layout)
    (λ flash. writes_of (rejection layout (whole_in layout flash) (entries_in layout flash)))
    (λ flash pair left. Unit {0}) made old new r (reject_leaves layout size placed) (any old) same
    left done
  where
    any : (told : Option (List ℕ))
        → IfSome told (λ flash. (pair : Pairing) → IsActivePair layout flash pair → Unit {0})
    any None = tt
    any (Some flash) = λ pair is. tt
