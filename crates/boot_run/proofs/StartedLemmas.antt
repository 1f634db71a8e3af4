-- What a boot starts is what boots of the flash before it.
use Rattle.std.proofs.Common.{◌≡◌, ◌≤◌, ◌*◌, ℕ, zero, suc, List, [], ◌∷◌, length, Option, Some, None, IfSome, Result, Ok, Err, IfOk, OnErr, refl, sym, ap, ◌∙◌, subst, arith}
use Rattle.std.proofs.lemmas.List.{length-append}
use Rattle.nor_device.specs.declared.step.Step.{Step}
use Rattle.nor_device.specs.declared.nor.NorFault.{NorFault}
use Rattle.nor_device.specs.Flash.{after_steps}
use Rattle.crash_images.specs.Crash.{IsAfterAll, IsLeftOf, LeftAfter}
use Rattle.crash_images.proofs.LeftLaws.{left_begin, left_end}
use Rattle.partition_table.specs.declared.app.App.{App}
use Rattle.partition_table.specs.Layout.{Places, IsPlaced}
use Rattle.otadata.specs.declared.entry.Entry.{Entry}
use Rattle.otadata.specs.Entry.{IsStored}
use Rattle.boot_select.specs.Choice.{named_of}
use Rattle.boot_select.specs.Settled.{sectors}
use Rattle.boot_select.specs.Candidates.{candidates}
use Rattle.boot_select.specs.Boots.{entries_in, images_in, names}
use Rattle.image_verify.specs.declared.info.ImageInfo.{ImageInfo}
use Rattle.image_verify.specs.Held.{held}
use Rattle.rollback.specs.declared.rewrite.Rewrite.{Rewrite}
use Rattle.rollback.specs.Rewrite.{written}
use Rattle.rollback.specs.Boot.{boot_writes}
use Rattle.rollback.specs.Boots.{boots}
use Rattle.rollback.proofs.EntriesLemmas.{boots_same, writes_same}
use Rattle.boot_run.specs.declared.booted.Booted.{Booted}
use Rattle.boot_run.specs.Rewriting.{AreShort, rewrite, rewrites}
use Rattle.boot_run.specs.Read.{OfEntries}
use Rattle.boot_run.specs.Verified.{IsFirst}
use Rattle.boot_run.specs.Crashed.{IsLeftByVerdicts}
use Rattle.boot_run.specs.Booted.{IsBoot}
use Rattle.boot_run.proofs.FrameLemmas.{left_images}
use Rattle.boot_run.proofs.WritesLemmas.{AreRewrites, boot_are, boot_short}
use Rattle.boot_run.proofs.CrashLemmas.{boot_restated, left_verdicts}

-- the answer of a boot, by the application that was started
abbrev pub booted_of : ℕ → Option (App × ImageInfo) → Option Booted
booted_of steps None = None
booted_of steps (Some started) = Some (record { app = started.0; info = started.1; steps = steps })

-- the first candidate behind the rewrites of a boot is the one that boots
pub first_is_boot : (layout : Places) (images : App → Option (List ℕ)) (es : ℕ → Entry) (steps : ℕ)
    (started : Option (App × ImageInfo))
    → IsFirst images (candidates layout (names layout (written (boot_writes es) es))) started
    → IsBoot layout images es (booted_of steps started)
unfolding boots
first_is_boot layout images es steps None first = first
first_is_boot layout images es steps (Some started) first = first

-- each rewrite is two steps
pub length-rewrites : (otadata : ℕ) (writes : List Rewrite) → length (rewrites otadata writes)
    ≡ 2 * length writes
length-rewrites otadata [] = refl
length-rewrites otadata (write ∷ writes) =
    let rest = length-rewrites otadata writes in
    omega (arith, length-append (rewrite otadata write) (rewrites otadata writes))

-- of a device that tells its bytes
pub told_boot : (holds : List ℕ → Option (List ℕ)) (layout : Places) (size otadata : ℕ) (es : ℕ → Entry) (made writes : List Rewrite)
    (steps : ℕ)
    (old mid : Option (List ℕ)) (started : Option (App × ImageInfo)) → IsPlaced layout size
    → made ≡ boot_writes es → writes ≡ boot_writes es → AreShort (boot_writes es)
    → otadata ≡ layout.otadata → IsAfterAll (rewrites otadata made) old mid
    → IfSome mid (λ flash. IsFirst (images_in holds layout flash)
    (candidates layout (names layout (written writes es))) started)
    → IfSome old (λ flash. IsBoot layout (images_in holds layout flash) es (booted_of steps started))
told_boot holds layout size otadata es made writes steps None mid started placed all_made is short place
    all first = tt
told_boot holds layout size otadata es made writes steps (Some flash) mid started placed all_made is short
    place all first =
    let all_there = subst (λ o. mid ≡ Some (after_steps flash (rewrites o made))) place all in
    let on = subst (λ (m : Option (List ℕ)). IfSome m (λ f. IsFirst (images_in holds layout f)
    (candidates layout (names layout (written writes es))) started)) all_there first in
    let left = after_steps flash (rewrites layout.otadata made) in
    let images : images_in holds layout left ≡ images_in holds layout flash =
    left_images holds layout size flash left made placed (subst AreShort (sym all_made) short)
    (left_end flash (rewrites layout.otadata made)) in
    let here = subst (λ h. IsFirst h (candidates layout (names layout (written writes es))) started)
    images on in
    let named = subst (λ ws. IsFirst (images_in holds layout flash)
    (candidates layout (names layout (written ws es))) started) is here in
    first_is_boot layout (images_in holds layout flash) es steps started named

-- ---- by the entries that were read

-- what boots by one pair of entries boots by the same ones
is_boot_same : (layout : Places) (images : App → Option (List ℕ)) (es gs : ℕ → Entry)
    (booted : Option Booted)
    → boots layout images es ≡ boots layout images gs → IsBoot layout images es booted
    → IsBoot layout images gs booted
is_boot_same layout images es gs None same is = sym same ∙ is
is_boot_same layout images es gs (Some booted) same is =
    record { image = is.image; is = sym same ∙ is.is; told = is.told }

-- what boots by the entries that were read is what boots of the flash
pub read_boots : (holds : List ℕ → Option (List ℕ)) (layout : Places) (e0 e1 : Entry) (old mid : Option (List ℕ))
    (r : Result (Option Booted) NorFault)
    → mid ≡ old → IfSome old (λ flash. e0 ≡ entries_in layout flash 0)
    → IfSome old (λ flash. e1 ≡ entries_in layout flash 1)
    → IfOk r (λ booted. IfSome mid
    (λ flash. IsBoot layout (images_in holds layout flash) (sectors e0 e1) booted))
    → IfOk r (λ booted. IfSome old
    (λ flash. IsBoot layout (images_in holds layout flash) (entries_in layout flash) booted))
read_boots holds layout e0 e1 old mid (Err why) same first second boots = boots
read_boots holds layout e0 e1 None mid (Ok booted) same first second boots = tt
read_boots holds layout e0 e1 (Some flash) mid (Ok booted) same first second boots =
    is_boot_same layout (images_in holds layout flash) (sectors e0 e1) (entries_in layout flash)
    booted
    (boots_same layout (images_in holds layout flash) (entries_in layout flash) (sectors e0 e1) first
    second)
    (subst (λ (m : Option (List ℕ)). IfSome m
    (λ f. IsBoot layout (images_in holds layout f) (sectors e0 e1) booted)) same boots)

-- what holds of the rewrites by the entries that were read
pub read_steps : (layout : Places) (e0 e1 : Entry) (told : Option (List ℕ)) (Q : List Step → Type 0)
    → IfSome told (λ flash. e0 ≡ entries_in layout flash 0)
    → IfSome told (λ flash. e1 ≡ entries_in layout flash 1)
    → Q (rewrites layout.otadata (boot_writes (sectors e0 e1)))
    → OfEntries layout told (λ es. Q (rewrites layout.otadata (boot_writes es)))
read_steps layout e0 e1 None Q first second holds = record
    { entries = sectors e0 e1; read = tt; holds = holds }
read_steps layout e0 e1 (Some flash) Q first second holds = record {
  entries = entries_in layout flash;
  read = refl;
  holds = subst (λ ws. Q (rewrites layout.otadata ws))
      (writes_same (entries_in layout flash) (sectors e0 e1) first second) holds;
}

-- what holds of any entries
pub any_entries : (layout : Places) (told : Option (List ℕ)) (P : (ℕ → Entry) → Type 0)
    → ((es : ℕ → Entry) → P es)
    → OfEntries layout told P
any_entries layout None P holds =
    let blank : Entry = record { seq = 0; label = []; state = 0; crc = 0 } in
    record { entries = λ y. blank; read = tt; holds = holds (λ y. blank) }
any_entries layout (Some flash) P holds =
    record {
      entries = entries_in layout flash;
      read = refl;
      holds = holds (entries_in layout flash);
    }

-- what holds of the two entries that were read
pub read_pair : (layout : Places) (e0 e1 : Entry) (told : Option (List ℕ))
    (R : Entry → Entry → Type 0)
    → IfSome told (λ flash. e0 ≡ entries_in layout flash 0)
    → IfSome told (λ flash. e1 ≡ entries_in layout flash 1)
    → R e0 e1 → OfEntries layout told (λ es. R (es 0) (es 1))
read_pair layout e0 e1 None R first second holds = record
    { entries = sectors e0 e1; read = tt; holds = holds }
read_pair layout e0 e1 (Some flash) R first second holds = record {
  entries = entries_in layout flash;
  read = refl;
  holds = subst (λ e. R e (entries_in layout flash 1)) first (subst (λ e. R e0 e) second holds);
}

-- rewrites by entries: of the entries as they stand, and only those of the two sectors count
pub record AreBy (writes : (ℕ → Entry) → List Rewrite) : Type 0 where
  pub are : (es : ℕ → Entry) → AreRewrites es (writes es)
  pub same : (es gs : ℕ → Entry) → es 0 ≡ gs 0 → es 1 ≡ gs 1 → writes es ≡ writes gs

-- those of a boot
pub boot_by : AreBy boot_writes
boot_by = record { are = boot_are; same = λ es gs first second. writes_same gs es first second }

-- what is left of rewrites that were broken off
pub left_crash : (layout : Places) (size : ℕ) (writes : List ℕ → List Rewrite) (made : List Rewrite)
    (old new : Option (List ℕ)) → IsPlaced layout size
    → ((flash : List ℕ) → AreRewrites (entries_in layout flash) (writes flash))
    → IfSome old (λ flash. made ≡ writes flash) → IsLeftOf (rewrites layout.otadata made) old new
    → IsLeftByVerdicts layout writes old new
left_crash layout size writes made None new placed are same left = tt
left_crash layout size writes made (Some flash) new placed are same left = (
  left.0,
  left.1,
  left_verdicts layout size flash left.0 (writes flash) placed
      (boot_restated layout size flash (writes flash) placed (are flash))
      (subst (λ ws. LeftAfter flash (rewrites layout.otadata ws) left.0) same left.2),
)

-- and of rewrites that did not begin
pub unread_crash : (layout : Places) (size : ℕ) (writes : List ℕ → List Rewrite)
    (old new : Option (List ℕ))
    → IsPlaced layout size → ((flash : List ℕ) → AreRewrites (entries_in layout flash)
    (writes flash))
    → new ≡ old → IsLeftByVerdicts layout writes old new
unread_crash layout size writes None new placed are same = tt
unread_crash layout size writes (Some flash) new placed are same = (
  flash,
  same,
  left_verdicts layout size flash flash (writes flash) placed
      (boot_restated layout size flash (writes flash) placed (are flash))
      (left_begin flash (rewrites layout.otadata (writes flash))),
)

-- of the rewrites by the entries that were read
pub read_crash : (layout : Places) (size : ℕ) (writes : (ℕ → Entry) → List Rewrite) (e0 e1 : Entry)
    (old new : Option (List ℕ)) → IsPlaced layout size → AreBy writes
    → IfSome old (λ flash. e0 ≡ entries_in layout flash 0)
    → IfSome old (λ flash. e1 ≡ entries_in layout flash 1)
    → IsLeftOf (rewrites layout.otadata (writes (sectors e0 e1))) old new
    → IsLeftByVerdicts layout (λ flash. writes (entries_in layout flash)) old new
read_crash layout size writes e0 e1 old new placed by first second left =
    left_crash layout size (λ flash. writes (entries_in layout flash)) (writes (sectors e0 e1)) old
    new placed
    (λ flash. by.are (entries_in layout flash)) (same old first second) left
  where
    same : (told : Option (List ℕ)) → IfSome told (λ flash. e0 ≡ entries_in layout flash 0)
        → IfSome told (λ flash. e1 ≡ entries_in layout flash 1)
        → IfSome told (λ flash. writes (sectors e0 e1) ≡ writes (entries_in layout flash))
    same None first second = tt
    same (Some flash) first second = by.same (sectors e0 e1) (entries_in layout flash) first second

-- rewrites of entries that were read are short
pub by_short : (writes : (ℕ → Entry) → List Rewrite) (e0 e1 : Entry) → AreBy writes → IsStored e0
    → IsStored e1
    → AreShort (writes (sectors e0 e1))
by_short writes e0 e1 by first second =
    boot_short (sectors e0 e1) (λ y two. at y) (writes (sectors e0 e1)) (by.are (sectors e0 e1))
  where
    at : (y : ℕ) → length (sectors e0 e1 y).label ≤ 20
    at zero = omega (arith, first.sized.label)
    at (suc n) = omega (arith, second.sized.label)

-- what holds whatever the answer
pub on_err_any : {T E P : Type 0} (r : Result T E) → P → OnErr r P
on_err_any (Ok x) holds = tt
on_err_any (Err why) holds = holds

-- what is started of a flash is what boots of it
pub seen_boot : (layout : Places) (flash : List ℕ) (e0 e1 first second : Entry)
    (writes : List Rewrite)
    (apps : List App) (steps : ℕ) (started : Option (App × ImageInfo))
    → e0 ≡ entries_in layout flash 0 → e1 ≡ entries_in layout flash 1 → writes
    ≡ boot_writes (sectors e0 e1)
    → first ≡ written writes (sectors e0 e1) 0 → second ≡ written writes (sectors e0 e1) 1
    → apps ≡ candidates layout (named_of layout first second)
    → IsFirst (images_in held layout flash) apps started
    → IsBoot layout (images_in held layout flash) (entries_in layout flash)
    (booted_of steps started)
seen_boot layout flash e0 e1 first second writes apps steps started zeroth other is one two all
    found =
    let images = images_in held layout flash in
    let es = sectors e0 e1 in
    let named : named_of layout first second ≡ names layout (written (boot_writes es) es) =
    (λ i. named_of layout (one i) (two i)) ∙ ap (λ ws. names layout (written ws es)) is in
    let here = subst (λ l. IsFirst images l started) (all ∙ ap (candidates layout) named) found in
    is_boot_same layout images es (entries_in layout flash) (booted_of steps started)
    (boots_same layout images (entries_in layout flash) es zeroth other)
    (first_is_boot layout images es steps started here)

-- how many steps the rewrites of a flash are
pub seen_steps : (layout : Places) (flash : List ℕ) (e0 e1 : Entry) (writes : List Rewrite) (n : ℕ)
    → e0 ≡ entries_in layout flash 0 → e1 ≡ entries_in layout flash 1 → writes
    ≡ boot_writes (sectors e0 e1)
    → n ≡ length writes → 2 * n
    ≡ length (rewrites layout.otadata (boot_writes (entries_in layout flash)))
seen_steps layout flash e0 e1 writes n zeroth other is long =
    let same = is ∙ writes_same (entries_in layout flash) (sectors e0 e1) zeroth other in
    omega (
      arith,
      long,
      ap (λ (l : List Rewrite). length l) same,
      length-rewrites layout.otadata (boot_writes (entries_in layout flash)),
    )
