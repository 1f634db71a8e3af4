-- Levels over boots and confirmations.
use Rattle.std.proofs.Common.{◌≡◌, ◌≢◌, inl, inr, ℕ, ◌≤◌, ◌<◌, max, List, [], ◌∷◌, Option, Some, None, Ok, Err, refl, sym, ap, ◌∙◌, subst, arith}
use Rattle.std.specs.Prelude.{◌↔◌}
use Rattle.std.specs.Int.{bit_at}
use Rattle.std.proofs.lemmas.Bool.{cases_lt}
use Rattle.partition_table.specs.declared.app.App.{App}
use Rattle.partition_table.specs.Layout.{IsPlaced, Places}
use Rattle.otadata.specs.declared.entry.Entry.{Entry}
use Rattle.boot_select.specs.Boots.{entries_in, images_in}
use Rattle.boot_select.proofs.StartLemmas.{images_are_placed}
use Rattle.rollback.specs.Boot.{boot_writes}
use Rattle.rollback.specs.Boots.{boots_in}
use Rattle.rollback.proofs.PairLemmas.{boots_holds, some_boots}
use Rattle.image_verify.specs.Held.{held}
use Rattle.secure_fuse.specs.Bits.{level_of, Keeps}
use Rattle.secure_fuse.specs.Secure.{secure_in, secure_of}
use Rattle.boot_run.specs.declared.booted.Booted.{Booted}
use Rattle.boot_run.specs.declared.fused.Denied.{Denied}
use Rattle.boot_run.specs.Booted.{IsBoot}
use Rattle.boot_run.specs.Above.{held_above}
use Rattle.boot_run.specs.Raised.{Becomes, Both, LeavesRaised, MayBecome, version_of, versions_in}
use Rattle.boot_run.proofs.AboveLemmas.{held_all, holds_above, images_no_older, kept_no_older}
use Rattle.boot_run.proofs.WritesLemmas.{boot_are, boot_short}
use Rattle.boot_run.proofs.CrashLemmas.{label_short, left_boots_by}
use Rattle.boot_run.proofs.RaisedLemmas.{raised_boots_above}

-- ---- what boots above a level

-- what an application holds above a level is whole and no older
above_holds : (level : ℕ) (layout : Places) (flash : List ℕ) (app : App) (image : List ℕ)
    → images_in (held_above level) layout flash app ≡ Some image
    → (images_in held layout flash app ≡ Some image) × (level ≤ secure_of image)
above_holds level layout flash app image is =
    kept_no_older level (images_in held layout flash app) image
    (sym (images_no_older level layout flash app) ∙ is)

pub above_boots : (level : ℕ) (layout : Places) (flash : List ℕ) (app : App) (image : List ℕ)
    → boots_in (held_above level) layout flash ≡ Some (app, image)
    → (images_in held layout flash app ≡ Some image) × (level ≤ secure_of image)
above_boots level layout flash app image is =
    above_holds level layout flash app image
    (boots_holds layout (images_in (held_above level) layout flash) (entries_in layout flash) app
    image is)

pub above_started : (level : ℕ) (layout : Places) (flash : List ℕ) (entries : ℕ → Entry)
    (booted : Booted)
    → IsBoot layout (images_in (held_above level) layout flash) entries (Some booted)
    → level ≤ secure_in booted.info.desc
above_started level layout flash entries booted is =
    let holds = boots_holds layout (images_in (held_above level) layout flash) entries booted.app
    is.image is.is in
    subst (λ d. level ≤ secure_in d) (sym is.told.desc)
    (above_holds level layout flash booted.app is.image holds).1

-- where one is no older, one boots
above_some : (level : ℕ) (layout : Places) (flash : List ℕ) (app : App) (image : List ℕ)
    → images_in held layout flash app ≡ Some image → level ≤ secure_of image
    → boots_in (held_above level) layout flash ≢ None
above_some level layout flash app image is more =
    let here : images_in (held_above level) layout flash app ≡ Some image =
    holds_above level layout flash app image is more in
    some_boots layout (images_in (held_above level) layout flash) (entries_in layout flash) app
    (λ none. absurd (let lacks = images_are_placed (held_above level) layout flash app none in cc))
    (λ lacks. absurd cc)

pub above_none : (level : ℕ) (layout : Places) (flash : List ℕ)
    → (boots_in (held_above level) layout flash ≡ None)
    ↔ ((app : App) (image : List ℕ) → images_in held layout flash app ≡ Some image
    → secure_of image < level)
above_none level layout flash = record {
  0 = λ none app image is. elim (cases_lt (secure_of image) level) [
    | inl less ↦ less
    | inr more ↦ absurd (above_some level layout flash app image is (omega arith) none)
  ];
  1 = λ older. by older (boots_in (held_above level) layout flash) refl;
}
  where
    by : ((app : App) (image : List ℕ) → images_in held layout flash app ≡ Some image
        → secure_of image < level) → (booted : Option (App × List ℕ))
        → boots_in (held_above level) layout flash ≡ booted
        → boots_in (held_above level) layout flash ≡ None
    by older None is = is
    by older (Some booted) is =
        let no_older = above_boots level layout flash booted.0 booted.1 is in
        let less = older booted.0 booted.1 no_older.0 in
        let more = no_older.1 in absurd (omega arith)

pub above_zero : (layout : Places) (flash : List ℕ)
    → boots_in (held_above 0) layout flash ≡ boots_in held layout flash
above_zero layout flash = ap (λ which. boots_in which layout flash) held_all

-- ---- a confirmation

pub raised_bits : (layout : Places) (flash left : List ℕ) (bits word : ℕ)
    → LeavesRaised layout flash bits left word → Keeps bits word
raised_bits layout flash left bits word (inl before) =
    λ bit burnt. subst (λ w. bit_at w bit ≡ 1) (sym before.0) burnt
raised_bits layout flash left bits word (inr behind) = behind.1.stage.kept

pub raised_level : (layout : Places) (flash left : List ℕ) (bits word : ℕ)
    → LeavesRaised layout flash bits left word → level_of bits ≤ level_of word
raised_level layout flash left bits word (inl before) =
    subst (λ w. level_of bits ≤ level_of w) (sym before.0) (omega arith)
raised_level layout flash left bits word (inr behind) = behind.1.stage.rises

pub raised_most : (layout : Places) (flash left : List ℕ) (bits word secure : ℕ)
    → version_of layout (versions_in layout flash) (entries_in layout flash) (level_of bits)
    ≡ Ok secure
    → LeavesRaised layout flash bits left word → level_of word ≤ max (level_of bits) secure
raised_most layout flash left bits word secure is (inl before) =
    subst (λ w. level_of w ≤ max (level_of bits) secure) (sym before.0) (omega arith)
raised_most layout flash left bits word secure is (inr behind) =
    let version = sym behind.1.version ∙ is in
    let same : behind.0 ≡ secure = cc in
    subst (λ s. level_of word ≤ max (level_of bits) s) same behind.1.stage.level

pub raised_denied : (layout : Places) (flash left : List ℕ) (bits word : ℕ) (why : Denied)
    → version_of layout (versions_in layout flash) (entries_in layout flash) (level_of bits)
    ≡ Err why
    → LeavesRaised layout flash bits left word → word ≡ bits
raised_denied layout flash left bits word why is (inl before) = before.0
raised_denied layout flash left bits word why is (inr behind) =
    absurd (let version = sym behind.1.version ∙ is in cc)

pub raised_some : (layout : Places) (size : ℕ) (flash left : List ℕ) (bits word : ℕ)
    → IsPlaced layout size → LeavesRaised layout flash bits left word
    → boots_in (held_above (level_of bits)) layout flash ≢ None
    → boots_in (held_above (level_of word)) layout left ≢ None
raised_some layout size flash left bits word =
    raised_boots_above layout size flash bits left word

-- ---- a list of boots and confirmations

become_bits : (layout : Places) (old new : Both) → MayBecome layout old new
    → Keeps old.bits new.bits
become_bits layout old new (inl boot) =
    λ bit burnt. subst (λ w. bit_at w bit ≡ 1) (sym boot.0) burnt
become_bits layout old new (inr raised) =
    raised_bits layout old.flash new.flash old.bits new.bits raised

become_level : (layout : Places) (old new : Both) → MayBecome layout old new
    → level_of old.bits ≤ level_of new.bits
become_level layout old new (inl boot) =
    subst (λ w. level_of old.bits ≤ level_of w) (sym boot.0) (omega arith)
become_level layout old new (inr raised) =
    raised_level layout old.flash new.flash old.bits new.bits raised

become_some : (layout : Places) (size : ℕ) (old new : Both) → IsPlaced layout size
    → MayBecome layout old new
    → boots_in (held_above (level_of old.bits)) layout old.flash ≢ None
    → boots_in (held_above (level_of new.bits)) layout new.flash ≢ None
become_some layout size old new placed (inl boot) some =
    let es = entries_in layout old.flash in
    subst (λ w. boots_in (held_above (level_of w)) layout new.flash ≢ None) (sym boot.0)
    (left_boots_by (held_above (level_of old.bits)) layout size old.flash new.flash (boot_writes es)
    placed (boot_short es (λ y two. label_short layout old.flash y) (boot_writes es) (boot_are es))
    boot.1 some)
become_some layout size old new placed (inr raised) some =
    raised_some layout size old.flash new.flash old.bits new.bits placed raised some

pub all_bits : (layout : Places) (old new : Both) (states : List Both)
    → Becomes layout old states new → Keeps old.bits new.bits
all_bits layout old new [] is =
    λ bit burnt. subst (λ (b : Both). bit_at b.bits bit ≡ 1) (sym is) burnt
all_bits layout old new (next ∷ states) becomes =
    λ bit burnt. all_bits layout next new states becomes.1 bit
    (become_bits layout old next becomes.0 bit burnt)

pub all_level : (layout : Places) (old new : Both) (states : List Both)
    → Becomes layout old states new → level_of old.bits ≤ level_of new.bits
all_level layout old new [] is =
    subst (λ (b : Both). level_of old.bits ≤ level_of b.bits) (sym is) (omega arith)
all_level layout old new (next ∷ states) becomes =
    let one = become_level layout old next becomes.0 in
    let rest = all_level layout next new states becomes.1 in
    omega arith

pub all_older : (layout : Places) (old new : Both) (states : List Both) (app : App)
    (image : List ℕ) → Becomes layout old states new
    → boots_in (held_above (level_of new.bits)) layout new.flash ≡ Some (app, image)
    → level_of old.bits ≤ secure_of image
all_older layout old new states app image becomes is =
    let rises = all_level layout old new states becomes in
    let more = (above_boots (level_of new.bits) layout new.flash app image is).1 in
    omega arith

pub all_some : (layout : Places) (size : ℕ) (old new : Both) (states : List Both)
    → IsPlaced layout size → Becomes layout old states new
    → boots_in (held_above (level_of old.bits)) layout old.flash ≢ None
    → boots_in (held_above (level_of new.bits)) layout new.flash ≢ None
all_some layout size old new [] placed is some =
    subst (λ (b : Both). boots_in (held_above (level_of b.bits)) layout b.flash ≢ None) (sym is) some
all_some layout size old new (next ∷ states) placed becomes some =
    all_some layout size next new states placed becomes.1
    (become_some layout size old next placed becomes.0 some)
