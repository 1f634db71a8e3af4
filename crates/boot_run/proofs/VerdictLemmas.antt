-- The rewrite of a confirmation and of a rejection: of the active entry, as it stands.
use Rattle.std.proofs.Common.{lit<, ◌==◌, ◌≡◌, ℕ, zero, suc, ◌<◌, Bool, true, false, List, [], length, Option, Some, None, IsSome, IfSome, Result, Ok, Err, refl, sym, ap, ◌∙◌, subst, if◌then◌else◌, arith}
use Rattle.otadata.specs.declared.entry.Entry.{Entry}
use Rattle.otadata.specs.Choice.{active_of}
use Rattle.otadata.proofs.ChoiceLemmas.{active-lt}
use Rattle.partition_table.specs.declared.app.App.{App}
use Rattle.partition_table.specs.declared.app.App.TheVariants.{Ota}
use Rattle.partition_table.specs.Layout.{Places}
use Rattle.boot_select.specs.Choice.{named_by, named_of, slot_app}
use Rattle.boot_select.specs.Settled.{sectors}
use Rattle.boot_select.specs.Boots.{AreTold, entries_in, images_in}
use Rattle.rollback.specs.declared.rewrite.Rewrite.{Rewrite}
use Rattle.rollback.specs.declared.verdict.NoOtaApp.{NoOtaApp}
use Rattle.rollback.specs.declared.verdict.RejectNo.{RejectNo}
use Rattle.rollback.specs.declared.verdict.RejectNo.TheVariants as no
use Rattle.rollback.specs.Rewrite.{restated}
use Rattle.rollback.specs.Verdict.{confirm_by, confirm_of, is_other, reject_by, reject_of, started_after}
use Rattle.image_verify.specs.Held.{held}
use Rattle.rollback.proofs.VerdictLemmas.{reject-told}
use Rattle.boot_run.specs.Read.{OfWhole, whole_in}
use Rattle.boot_run.specs.Crashed.{IsRestated}
use Rattle.boot_run.specs.Verdict.{confirmation, just_one, one_of, rejection, writes_of}
use Rattle.boot_run.proofs.WritesLemmas.{AreRewrites}
use Rattle.boot_run.proofs.StartedLemmas.{AreBy}

-- where an entry is active, the application that is named is that of its slot
pub active_named : (layout : Places) (e0 e1 : Entry) → IsSome (active_of e0 e1)
    → (slot : ℕ) × (named_of layout e0 e1 ≡ Ota slot)
unfolding named_of
active_named layout e0 e1 some = at (active_of e0 e1) some
  where
    at : (active : Option ℕ) → IsSome active → (slot : ℕ)
        × (named_by layout e0 e1 active ≡ Ota slot)
    at None some = absurd (let no : false ≡ true = some in cc)
    at (Some zero) some = (_, refl)
    at (Some (suc n)) some = (_, refl)

-- a confirmation is refused where no entry is active
pub confirm_active : (e0 e1 : Entry) (write : Option Rewrite) → confirm_of e0 e1 ≡ Ok write
    → IsSome (active_of e0 e1)
unfolding confirm_of
confirm_active e0 e1 write is = at (active_of e0 e1) is
  where
    at : (active : Option ℕ) → confirm_by (sectors e0 e1) active ≡ Ok write → IsSome active
    at None is = absurd cc
    at (Some y) is = refl

-- a confirmation rewrites the active entry alone
confirm_are : (es : ℕ → Entry) → AreRewrites es (writes_of (confirmation es))
unfolding confirm_of
confirm_are es = at (active_of (es 0) (es 1)) (active-lt (es 0) (es 1))
  where
    one : (y : ℕ) (e : Entry) → y < 2 → e ≡ es y → (done : Bool)
        → AreRewrites es (writes_of
        (one_of {E = NoOtaApp} (Ok (if done then None else Some (restated 2 y e)))))
    one y e two is true = tt
    one y e two is false = record {
      two = two;
      state = 2;
      fits = lit< tt;
      is = ap (restated 2 y) is;
    }

    at : (active : Option ℕ) → IfSome active (λ number. number < 2)
        → AreRewrites es (writes_of (one_of (confirm_by (sectors (es 0) (es 1)) active)))
    at None two = tt
    at (Some zero) two = one 0 (es 0) two refl ((es 0).state == 2)
    at (Some (suc n)) two =
        let same : suc n ≡ 1 = omega arith in
        one (suc n) (es 1) two (ap es (sym same)) ((es 1).state == 2)

pub confirmation_by : AreBy (λ es. writes_of (confirmation es))
confirmation_by = record {
  are = confirm_are;
  same = λ es gs first second i. writes_of (one_of (confirm_of (first i) (second i)));
}

-- so its rewrite is of one of the two sectors
pub confirm_two : (e0 e1 : Entry) (write : Rewrite) → confirm_of e0 e1 ≡ Ok (Some write)
    → write.sector < 2
confirm_two e0 e1 write is =
    let are = confirm_are (sectors e0 e1) in
    let one : IsRestated (sectors e0 e1) write =
    subst (λ (r : Result (Option Rewrite) NoOtaApp). AreRewrites (sectors e0 e1)
    (writes_of (one_of r))) is are in
    one.two

-- ---- a rejection

-- a rejection is refused where no entry is active
pub reject_active : (layout : Places) (whole : App → Bool) (e0 e1 : Entry) (write : Rewrite)
    → reject_of layout whole e0 e1 ≡ Ok write → IsSome (active_of e0 e1)
unfolding reject_of
reject_active layout whole e0 e1 write is = at (active_of e0 e1) is
  where
    at : (active : Option ℕ) → reject_by layout whole (sectors e0 e1) active ≡ Ok write
        → IsSome active
    at None is = absurd cc
    at (Some y) is = refl

-- a rejection rewrites the active entry alone
pub reject_are : (layout : Places) (whole : App → Bool) (es : ℕ → Entry)
    → AreRewrites es (writes_of (rejection layout whole es))
unfolding reject_of
reject_are layout whole es = at (active_of (es 0) (es 1)) (active-lt (es 0) (es 1))
  where
    one : (y : ℕ) (e : Entry) (app : App) (started : Option App) → y < 2 → e ≡ es y → (other : Bool)
        → AreRewrites es (writes_of
        (just_one {E = RejectNo} (if other then Ok (restated 3 y e) else Err no.NothingElse)))
    one y e app started two is false = tt
    one y e app started two is true = record
        { two = two; state = 3; fits = lit< tt; is = ap (restated 3 y) is }

    at : (active : Option ℕ) → IfSome active (λ number. number < 2)
        → AreRewrites es (writes_of
        (just_one (reject_by layout whole (sectors (es 0) (es 1)) active)))
    at None two = tt
    at (Some zero) two =
        let write = restated 3 0 (es 0) in
        one 0 (es 0) (slot_app layout (es 0))
        (started_after layout whole (sectors (es 0) (es 1)) write) two refl
        (is_other (slot_app layout (es 0))
        (started_after layout whole (sectors (es 0) (es 1)) write))
    at (Some (suc n)) two =
        let same : suc n ≡ 1 = omega arith in
        let write = restated 3 (suc n) (es 1) in
        one (suc n) (es 1) (slot_app layout (es 1))
        (started_after layout whole (sectors (es 0) (es 1)) write) two
        (ap es (sym same))
        (is_other (slot_app layout (es 1))
        (started_after layout whole (sectors (es 0) (es 1)) write))

pub rejection_by : (layout : Places) (whole : App → Bool)
    → AreBy (λ es. writes_of (rejection layout whole es))
rejection_by layout whole = record {
  are = reject_are layout whole;
  same = λ es gs first second i. writes_of (just_one (reject_of layout whole (first i) (second i)));
}

-- so its rewrite is of one of the two sectors
pub reject_two : (layout : Places) (whole : App → Bool) (e0 e1 : Entry) (write : Rewrite)
    → reject_of layout whole e0 e1 ≡ Ok write → write.sector < 2
reject_two layout whole e0 e1 write is =
    let one : IsRestated (sectors e0 e1) write =
    subst (λ (r : Result Rewrite RejectNo). AreRewrites (sectors e0 e1) (writes_of (just_one r))) is
    (reject_are layout whole (sectors e0 e1)) in
    one.two

-- ---- by what was read

-- what holds of the entries and the truth values that were read
pub read_whole : (layout : Places) (e0 e1 : Entry) (whole : App → Bool) (told : Option (List ℕ))
    (R : Entry → Entry → (App → Bool) → Type 0)
    → IfSome told (λ flash. e0 ≡ entries_in layout flash 0)
    → IfSome told (λ flash. e1 ≡ entries_in layout flash 1)
    → IfSome told (λ flash. AreTold layout whole (images_in held layout flash))
    → R e0 e1 whole → OfWhole layout told (λ es w. R (es 0) (es 1) w)
read_whole layout e0 e1 whole None R first second tells holds =
    record { entries = sectors e0 e1; whole = whole; read = tt; tells = tt; holds = holds }
read_whole layout e0 e1 whole (Some flash) R first second tells holds = record {
  entries = entries_in layout flash;
  whole = whole;
  read = refl;
  tells = tells;
  holds = subst (λ e. R e (entries_in layout flash 1) whole) first
      (subst (λ e. R e0 e whole) second holds);
}

-- what holds of any
pub any_whole : (layout : Places) (told : Option (List ℕ)) (P : (ℕ → Entry) → (App → Bool) → Type 0)
    → ((es : ℕ → Entry) (whole : App → Bool) → P es whole) → OfWhole layout told P
any_whole layout None P holds =
    let blank : Entry = record { seq = 0; label = []; state = 0; crc = 0 } in record {
      entries = λ y. blank;
      whole = λ app. false;
      read = tt;
      tells = tt;
      holds = holds (λ y. blank) (λ app. false);
    }
any_whole layout (Some flash) P holds = record {
  entries = entries_in layout flash;
  whole = whole_in layout flash;
  read = refl;
  tells = λ app found. refl;
  holds = holds (entries_in layout flash) (whole_in layout flash);
}

-- the rewrites by what was read are those of the flash
pub rejection_same : (layout : Places) (e0 e1 : Entry) (whole : App → Bool) (told : Option (List ℕ))
    → 0 < length layout.slots
    → IfSome told (λ flash. e0 ≡ entries_in layout flash 0)
    → IfSome told (λ flash. e1 ≡ entries_in layout flash 1)
    → IfSome told (λ flash. AreTold layout whole (images_in held layout flash))
    → IfSome told (λ flash. writes_of (rejection layout whole (sectors e0 e1))
    ≡ writes_of (rejection layout (whole_in layout flash) (entries_in layout flash)))
rejection_same layout e0 e1 whole None some first second tells = tt
rejection_same layout e0 e1 whole (Some flash) some first second tells =
    ap (λ r. writes_of (just_one r)) (reject-told layout whole (images_in held layout flash) e0 e1
    tells some)
    ∙ (λ i. writes_of (just_one (reject_of layout (whole_in layout flash) (first i) (second i))))
