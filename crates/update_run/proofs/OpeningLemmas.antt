-- What an update begins with, or the first reason why it may not begin.
use Rattle.std.proofs.Common.{◌≡◌, ℕ, ◌-◌, ◌^◌, ◌<◌, ◌≤◌, Bool, true, false, List, length, Option, Some, None, Result, Ok, Err, refl, sym, ap, ◌∙◌, arith, subst}
use Rattle.std.specs.Prelude.{◌%◌, ◌==◌, not, nat_lt, if◌then◌else◌, slice_get, IfSome, IfOk, IsSome}
use Rattle.std.proofs.lemmas.Bool.Decides.{nat_tests}
use Rattle.nor_device.specs.declared.nor.NorFault.{NorFault}
use Rattle.nor_device.specs.FlashSize.{IsFlashSize, is_flash_size}
use Rattle.duo_run.specs.Both.{HasTable}
use Rattle.partition_table.specs.declared.app.App.{App}
use Rattle.partition_table.specs.declared.app.App.TheVariants.{Ota}
use Rattle.partition_table.specs.declared.bad.TableBad.{TableBad}
use Rattle.partition_table.specs.declared.row.Row.{Row}
use Rattle.partition_table.specs.Layout.{IsPlaced, Places, layout_in, layout_of}
use Rattle.partition_table.specs.Rules.{Stands, is_within}
use Rattle.otadata.specs.declared.entry.Entry.{Entry}
use Rattle.otadata.specs.declared.next.NextEntry.{NextEntry}
use Rattle.otadata.specs.declared.next.SeqSpent.{SeqSpent}
use Rattle.boot_select.specs.declared.settling.Unsettled.{Unsettled}
use Rattle.boot_select.specs.Boots.{entries_in, images_in}
use Rattle.boot_select.specs.Settled.{is_same}
use Rattle.boot_select.specs.Target.{target_of}
use Rattle.image_verify.specs.Held.{held}
use Rattle.core_script.specs.declared.action.Action.{Action}
use Rattle.core_script.specs.ScriptText.{script_of_text}
use Rattle.boot_run.specs.declared.aims.Aim.{Aim}
use Rattle.boot_run.specs.declared.aims.AimNo.{AimNo}
use Rattle.boot_run.specs.declared.aims.AimNo.TheVariants as no
use Rattle.boot_run.specs.Aim.{AimsAt, aim_answer, aim_at, aim_by, aim_in as aim_slot, aim_next, running_of}
use Rattle.update_run.specs.declared.refusal.UpdateNo.{UpdateNo}
use Rattle.update_run.specs.declared.refusal.UpdateNo.TheVariants as why
use Rattle.update_run.specs.declared.refusal.OpeningNo.{OpeningNo}
use Rattle.update_run.specs.declared.refusal.OpeningNo.TheVariants.{Refused, Memory}
use Rattle.update_run.specs.Opening.{AimsIn, BeginsSo, BeginsUpdate, IsAimRefusal, IsScriptRead, OpensUpdate, layout_or_refusal, next_beside, next_by, next_for, next_in, next_in_slot, opening_from, rows_in, rows_or_refusal, script_or_refusal, with_need}
use Rattle.update_run.specs.declared.opening.Opening.{Opening as CodeOpening}

-- ---- the first reason

pub script_fails : (flash image text : List ℕ) (no : OpeningNo)
    → IsScriptRead (script_or_refusal (script_of_text text)) (Err no)
    → OpensUpdate flash image text (Err no)
script_fails flash image text (Refused reason) found = rw found refl
script_fails flash image text Memory found = found

pub script_found : (flash image text : List ℕ) (script : List Action) (o : CodeOpening)
    → script_or_refusal (script_of_text text) ≡ Ok script → BeginsSo flash image script o
    → OpensUpdate flash image text (Ok o)
script_found flash image text script o found begins = record {
  given = rw found begins.given;
  begun = begins.begun;
}

pub script_refused : (flash image text : List ℕ) (script : List Action) (reason : UpdateNo)
    → script_or_refusal (script_of_text text) ≡ Ok script
    → opening_from flash image script ≡ Err reason
    → OpensUpdate flash image text (Err (Refused reason))
script_refused flash image text script reason found refused = rw found refused

pub rows_fail : (flash image : List ℕ) (script : List Action) (reason : UpdateNo)
    → Err reason ≡ rows_in flash → opening_from flash image script ≡ Err reason
unfolding opening_from
rows_fail flash image script reason fails = rw (sym fails) refl

pub layout_fails : (flash image : List ℕ) (script : List Action) (rows : List Row)
    (reason : UpdateNo) → Ok rows ≡ rows_in flash
    → Err reason ≡ layout_or_refusal (layout_of rows)
    → opening_from flash image script ≡ Err reason
unfolding opening_from
layout_fails flash image script rows reason found fails = rw (sym found, sym fails) refl

pub aim_fails : (flash image : List ℕ) (script : List Action) (rows : List Row)
    (layout : Places) (long : ℕ) (reason : UpdateNo) → Ok rows ≡ rows_in flash
    → Ok layout ≡ layout_or_refusal (layout_of rows) → long ≡ length image
    → next_in flash layout long ≡ Err reason → opening_from flash image script ≡ Err reason
unfolding opening_from
aim_fails flash image script rows layout long reason found laid is fails =
    rw (sym found, sym laid, ← is, fails) refl

-- ---- an update that may begin

ok_if : {U : Type 0} (b : Bool) (x y : Result NextEntry U) (x' y' : Result NextEntry UpdateNo)
    (next : NextEntry) → (x ≡ Ok next → x' ≡ Ok next) → (y ≡ Ok next → y' ≡ Ok next)
    → (if b then x else y) ≡ Ok next → (if b then x' else y') ≡ Ok next
ok_if true x y x' y' next first second is = first is
ok_if false x y x' y' next first second is = second is

ok_next : (long : ℕ) (row : Row) (spent : Result NextEntry SeqSpent) (next : NextEntry)
    → aim_next long row spent ≡ Ok next → next_for long row spent ≡ Ok next
ok_next long row (Err spent) next is = absurd (cc)
ok_next long row (Ok found) next is =
    ok_if (nat_lt row.size long) _ _ _ _ next (λ no. absurd (cc)) (λ yes. cc) is

ok_slot : (slot long : ℕ) (found : Option Row) (spent : Result NextEntry SeqSpent)
    (next : NextEntry) → aim_slot slot long found spent ≡ Ok next
    → next_in_slot slot long found spent ≡ Ok next
ok_slot slot long None spent next is = absurd (cc)
ok_slot slot long (Some row) spent next is =
    ok_if (not (row.flags % 4 == 0)) _ _ _ _ next (λ no. absurd (cc)) (ok_next long row spent next) is

ok_beside : (layout : Places) (e0 e1 : Entry) (running : App) (long slot : ℕ) (next : NextEntry)
    → aim_at layout e0 e1 running long slot ≡ Ok next
    → next_beside layout e0 e1 running long slot ≡ Ok next
ok_beside layout e0 e1 running long slot next is =
    ok_if (is_same running (Ota slot)) _ _ _ _ next (λ no. absurd (cc))
    (ok_slot slot long (slice_get layout.slots slot) _ next) is

aimed_ok : (flash : List ℕ) (layout : Places) (long : ℕ) (aim : Aim)
    → AimsIn flash layout long aim → next_in flash layout long ≡ Ok aim.next
unfolding next_in
aimed_ok flash layout long aim aims =
    rw (aims.runs, ← aims.slot) (ok_beside layout _ _ aim.running long aim.slot aim.next aims.next)

may_begin : (flash image : List ℕ) (script : List Action) (rows : List Row)
    (layout : Places) (aim : Aim) → rows_in flash ≡ Ok rows
    → layout_or_refusal (layout_of rows) ≡ Ok layout → AimsIn flash layout (length image) aim
    → opening_from flash image script ≡ Ok (record {
      flash = flash;
      image = image;
      script = script;
      rows = rows;
      layout = layout;
    })
unfolding opening_from
may_begin flash image script rows layout aim found laid aims =
    rw (found, laid, aimed_ok flash layout (length image) aim aims) refl

-- ---- the layout by the table

rows_are : (read : Result (List Row) TableBad) (rows : List Row) → rows_or_refusal read ≡ Ok rows
    → read ≡ Ok rows
rows_are (Ok found) rows is = cc
rows_are (Err why) rows is = absurd (cc)

layout_is : (read : Result Places TableBad) (layout : Places)
    → layout_or_refusal read ≡ Ok layout → read ≡ Ok layout
layout_is (Ok found) layout is = cc
layout_is (Err why) layout is = absurd (cc)

sized_rows : (test : Bool) (read : Result (List Row) UpdateNo) (why : UpdateNo) (rows : List Row)
    → (if test then read else Err why) ≡ Ok rows → read ≡ Ok rows
sized_rows true read why rows is = is
sized_rows false read why rows is = absurd (cc)

laid_by : (flash : List ℕ) (rows : List Row) (layout : Places) → rows_in flash ≡ Ok rows
    → layout_or_refusal (layout_of rows) ≡ Ok layout → layout_in flash ≡ Ok layout
unfolding rows_in layout_in
laid_by flash rows layout found laid =
    let read = rows_are _ rows (sized_rows (is_flash_size (length flash)) _ _ rows found) in
    rw read (layout_is (layout_of rows) layout laid)

-- the table of a flash, and the layout by it
pub has_table : (flash : List ℕ) (rows : List Row) (layout : Places) → IsFlashSize (length flash)
    → rows_in flash ≡ Ok rows → layout_or_refusal (layout_of rows) ≡ Ok layout
    → HasTable rows layout flash
unfolding rows_in
has_table flash rows layout size found laid = record {
  size = size;
  table = rows_are _ rows (sized_rows (is_flash_size (length flash)) _ _ rows found);
  layout_is = layout_is (layout_of rows) layout laid;
}

-- ---- an image that is longer than each slot

-- an answer, with this length where it is that the image is too long
abbrev longer_answer : ℕ → Result NextEntry UpdateNo → Result NextEntry UpdateNo
longer_answer long (Ok next) = Ok next
longer_answer long (Err why) = Err (with_need long why)

-- no answer but a refusal
abbrev IsRefusedAim : Result NextEntry UpdateNo → Type 0
IsRefusedAim (Ok next) = ⊥
IsRefusedAim (Err why) = Unit {0}

-- the same refusal for a longer image, and no other answer
record IsLonger (long : ℕ) (before after : Result NextEntry UpdateNo) : Type 0 where
  same : after ≡ longer_answer long before
  refused : IsRefusedAim before

longer_if : (long : ℕ) (b : Bool) (x y x' y' : Result NextEntry UpdateNo) → IsLonger long x x'
    → IsLonger long y y' → IsLonger long (if b then x else y) (if b then x' else y')
longer_if long true x y x' y' first second = first
longer_if long false x y x' y' first second = second

longer_next : (short long : ℕ) (row : Row) (next : Result NextEntry SeqSpent) → row.size < short
    → short ≤ long → IsLonger long (next_for short row next) (next_for long row next)
longer_next short long row (Err spent) small more = record { same = refl; refused = tt }
longer_next short long row (Ok next) small more =
    let one : nat_lt row.size short ≡ true = grind (arith, nat_tests) in
    let less : row.size < long = omega arith in
    let two : nat_lt row.size long ≡ true = grind (arith, nat_tests) in
    record { same = rw (one, two) refl; refused = rw one tt }

longer_slot : (short long slot : ℕ) (found : Option Row) (next : Result NextEntry SeqSpent)
    → ((row : Row) → found ≡ Some row → row.size < short) → short ≤ long
    → IsLonger long (next_in_slot slot short found next) (next_in_slot slot long found next)
longer_slot short long slot None next small more = record { same = refl; refused = tt }
longer_slot short long slot (Some row) next small more =
    longer_if long (not (row.flags % 4 == 0)) _ _ _ _ (record { same = refl; refused = tt })
    (longer_next short long row next (small row refl) more)

longer_by : (layout : Places) (e0 e1 : Entry) (short long : ℕ) (running : Result App Unsettled)
    → ((slot : ℕ) (row : Row) → slice_get layout.slots slot ≡ Some row → row.size < short)
    → short ≤ long
    → IsLonger long (next_by layout e0 e1 short running) (next_by layout e0 e1 long running)
longer_by layout e0 e1 short long (Err why) small more = record { same = refl; refused = tt }
longer_by layout e0 e1 short long (Ok running) small more =
    longer_if long (is_same running (Ota (target_of layout e0 e1 running))) _ _ _ _
    (record { same = refl; refused = tt })
    (longer_slot short long (target_of layout e0 e1 running)
    (slice_get layout.slots (target_of layout e0 e1 running)) _
    (small (target_of layout e0 e1 running)) more)

row_small : (size : ℕ) (row : Row) → Stands size row → size < 2 ^ 32 → row.size < 2 ^ 32 - 1
unfolding is_within
row_small size row stands small = let within = stands.within in grind (arith, nat_tests)

slots_small : (layout : Places) (size : ℕ) → IsPlaced layout size → size < 2 ^ 32
    → (slot : ℕ) (row : Row) → slice_get layout.slots slot ≡ Some row → row.size < 2 ^ 32 - 1
slots_small layout size placed small slot row is =
    row_small size row (placed.stands (Ota slot) row is) small

longer_in : (flash : List ℕ) (layout : Places) (size long : ℕ) → IsPlaced layout size
    → size < 2 ^ 32 → 2 ^ 32 - 1 ≤ long
    → IsLonger long (next_in flash layout (2 ^ 32 - 1)) (next_in flash layout long)
unfolding next_in
longer_in flash layout size long placed small more =
    longer_by layout _ _ (2 ^ 32 - 1) long _ (slots_small layout size placed small) more

-- no update of such an image may begin
never_in : (flash : List ℕ) (layout : Places) (size : ℕ) (aim : Aim)
    → IsPlaced layout size → size < 2 ^ 32 → AimsIn flash layout (2 ^ 32 - 1) aim → ⊥
never_in flash layout size aim placed small aims =
    let none = (longer_in flash layout size (2 ^ 32 - 1) placed small (omega arith)).refused in
    rw (aimed_ok flash layout (2 ^ 32 - 1) aim aims) at none

pub never_fits : (told : Option (List ℕ)) (layout : Places) (size : ℕ) (aim : Aim)
    → IsPlaced layout size → size < 2 ^ 32 → IsSome told
    → IfSome told (λ flash. AimsIn flash layout (2 ^ 32 - 1) aim) → ⊥
never_fits None layout size aim placed small some aims = absurd (cc)
never_fits (Some flash) layout size aim placed small some aims =
    never_in flash layout size aim placed small aims

-- and it is refused as one of 4 GiB, with its own length
pub longer_refused : (told : Option (List ℕ)) (layout : Places) (size long : ℕ)
    (short answer : UpdateNo)
    → IsPlaced layout size → size < 2 ^ 32 → 2 ^ 32 - 1 ≤ long → answer ≡ with_need long short
    → IfSome told (λ flash. next_in flash layout (2 ^ 32 - 1) ≡ Err short)
    → IfSome told (λ flash. next_in flash layout long ≡ Err answer)
longer_refused None layout size long short answer placed small more is refused = tt
longer_refused (Some flash) layout size long short answer placed small more is refused =
    (longer_in flash layout size long placed small more).same ∙ ap (longer_answer long) refused
    ∙ ap Err (sym is)

-- ---- the answer of a look

-- what a look says: that this is the answer
abbrev Says : {U : Type 0} → Result (Result Aim U) NorFault → Result NextEntry U → Type 0
Says (Ok (Err why)) answer = answer ≡ Err why
Says (Ok (Ok aim)) answer = ⊥
Says (Err fault) answer = ⊥

says_if : {U : Type 0} (look : Result (Result Aim U) NorFault) (b : Bool)
    (x y : Result NextEntry U) (x' y' : Result NextEntry UpdateNo) (why : UpdateNo)
    → (Says look x → x' ≡ Err why) → (Says look y → y' ≡ Err why)
    → Says look (if b then x else y) → (if b then x' else y') ≡ Err why
says_if look true x y x' y' why first second says = first says
says_if look false x y x' y' why first second says = second says

says_settled : (look : AimNo) (refusal : UpdateNo) (reason : Unsettled) → IsAimRefusal look refusal
    → aim_answer (Err (no.NotSettled reason)) ≡ aim_answer (Err look) → why.NotSettled reason ≡ refusal
says_settled (no.NotSettled o_reason) refusal reason is same = cc
says_settled (no.Conflict o_slot) refusal reason is same = absurd (cc)
says_settled (no.SlotFlags o_slot o_flags) refusal reason is same = absurd (cc)
says_settled (no.SeqSpent o_seq) refusal reason is same = absurd (cc)
says_settled (no.TooLarge o_need o_limit) refusal reason is same = absurd (cc)
says_settled no.Device refusal reason is same = absurd is
says_settled no.Cut refusal reason is same = absurd is

says_conflict : (look : AimNo) (refusal : UpdateNo) (slot : ℕ) → IsAimRefusal look refusal
    → aim_answer (Err (no.Conflict slot)) ≡ aim_answer (Err look) → why.Conflict slot ≡ refusal
says_conflict (no.NotSettled o_reason) refusal slot is same = absurd (cc)
says_conflict (no.Conflict o_slot) refusal slot is same = cc
says_conflict (no.SlotFlags o_slot o_flags) refusal slot is same = absurd (cc)
says_conflict (no.SeqSpent o_seq) refusal slot is same = absurd (cc)
says_conflict (no.TooLarge o_need o_limit) refusal slot is same = absurd (cc)
says_conflict no.Device refusal slot is same = absurd is
says_conflict no.Cut refusal slot is same = absurd is

says_flags : (look : AimNo) (refusal : UpdateNo) (slot flags : ℕ) → IsAimRefusal look refusal
    → aim_answer (Err (no.SlotFlags slot flags)) ≡ aim_answer (Err look) → why.SlotFlags slot flags ≡ refusal
says_flags (no.NotSettled o_reason) refusal slot flags is same = absurd (cc)
says_flags (no.Conflict o_slot) refusal slot flags is same = absurd (cc)
says_flags (no.SlotFlags o_slot o_flags) refusal slot flags is same = cc
says_flags (no.SeqSpent o_seq) refusal slot flags is same = absurd (cc)
says_flags (no.TooLarge o_need o_limit) refusal slot flags is same = absurd (cc)
says_flags no.Device refusal slot flags is same = absurd is
says_flags no.Cut refusal slot flags is same = absurd is

says_spent : (look : AimNo) (refusal : UpdateNo) (seq : ℕ) → IsAimRefusal look refusal
    → aim_answer (Err (no.SeqSpent seq)) ≡ aim_answer (Err look) → why.SeqSpent seq ≡ refusal
says_spent (no.NotSettled o_reason) refusal seq is same = absurd (cc)
says_spent (no.Conflict o_slot) refusal seq is same = absurd (cc)
says_spent (no.SlotFlags o_slot o_flags) refusal seq is same = absurd (cc)
says_spent (no.SeqSpent o_seq) refusal seq is same = cc
says_spent (no.TooLarge o_need o_limit) refusal seq is same = absurd (cc)
says_spent no.Device refusal seq is same = absurd is
says_spent no.Cut refusal seq is same = absurd is

says_large : (look : AimNo) (refusal : UpdateNo) (need limit : ℕ) → IsAimRefusal look refusal
    → aim_answer (Err (no.TooLarge need limit)) ≡ aim_answer (Err look) → why.TooLarge need limit ≡ refusal
says_large (no.NotSettled o_reason) refusal need limit is same = absurd (cc)
says_large (no.Conflict o_slot) refusal need limit is same = absurd (cc)
says_large (no.SlotFlags o_slot o_flags) refusal need limit is same = absurd (cc)
says_large (no.SeqSpent o_seq) refusal need limit is same = absurd (cc)
says_large (no.TooLarge o_need o_limit) refusal need limit is same = cc
says_large no.Device refusal need limit is same = absurd is
says_large no.Cut refusal need limit is same = absurd is

says_is : {U : Type 0} (look : Result (Result Aim U) NorFault) (why : U)
    → Says look (Err why) → look ≡ Ok (Err why)
says_is (Ok (Err other)) why says = cc
says_is (Ok (Ok aim)) why says = absurd says
says_is (Err fault) why says = absurd says

says_no_ok : {U : Type 0} (look : Result (Result Aim U) NorFault) (next : NextEntry)
    → Says look (Ok next) → ⊥
says_no_ok (Ok (Err other)) next says = cc
says_no_ok (Ok (Ok aim)) next says = says
says_no_ok (Err fault) next says = says

refuse_next : (look : AimNo) (refusal : UpdateNo) (long : ℕ) (row : Row)
    (spent : Result NextEntry SeqSpent) → IsAimRefusal look refusal
    → Says (aim_answer (Err look)) (aim_next long row spent)
    → next_for long row spent ≡ Err refusal
refuse_next look refusal long row (Err spent) is says =
    ap Err (says_spent look refusal spent.seq is (sym (says_is (aim_answer (Err look)) _ says)))
refuse_next look refusal long row (Ok found) is says =
    says_if (aim_answer (Err look)) (nat_lt row.size long) _ _ _ _ refusal
    (λ large. ap Err (says_large look refusal long row.size is (sym (says_is (aim_answer (Err look)) _ large))))
    (λ none. absurd (says_no_ok (aim_answer (Err look)) found none)) says

refuse_slot : (look : AimNo) (refusal : UpdateNo) (slot long : ℕ) (found : Option Row)
    (spent : Result NextEntry SeqSpent) → IsAimRefusal look refusal
    → Says (aim_answer (Err look)) (aim_slot slot long found spent)
    → next_in_slot slot long found spent ≡ Err refusal
refuse_slot look refusal slot long None spent is says =
    ap Err (says_conflict look refusal slot is (sym (says_is (aim_answer (Err look)) _ says)))
refuse_slot look refusal slot long (Some row) spent is says =
    says_if (aim_answer (Err look)) (not (row.flags % 4 == 0)) _ _ _ _ refusal
    (λ flags. ap Err (says_flags look refusal slot row.flags is (sym (says_is (aim_answer (Err look)) _ flags))))
    (refuse_next look refusal long row spent is) says

refuse_by : (look : AimNo) (refusal : UpdateNo) (layout : Places) (e0 e1 : Entry) (long : ℕ)
    (running : Result App Unsettled) → IsAimRefusal look refusal
    → Says (aim_answer (Err look)) (aim_by layout e0 e1 long running)
    → next_by layout e0 e1 long running ≡ Err refusal
refuse_by look refusal layout e0 e1 long (Err reason) is says =
    ap Err (says_settled look refusal reason is (sym (says_is (aim_answer (Err look)) _ says)))
refuse_by look refusal layout e0 e1 long (Ok running) is says =
    let slot = target_of layout e0 e1 running in
    says_if (aim_answer (Err look)) (is_same running (Ota slot)) _ _ _ _ refusal
    (λ conflict. ap Err (says_conflict look refusal slot is (sym (says_is (aim_answer (Err look)) _ conflict))))
    (refuse_slot look refusal slot long (slice_get layout.slots slot) _ is) says

says_of : (flash : List ℕ) (layout : Places) (long : ℕ) (look : AimNo) (refusal : UpdateNo)
    → IsAimRefusal look refusal
    → IfOk (aim_answer (Err look))
    (AimsAt layout (images_in held layout flash) (entries_in layout flash) long)
    → Says (aim_answer (Err look)) (aim_by layout (entries_in layout flash 0) (entries_in layout flash 1) long
    (running_of layout (images_in held layout flash) (entries_in layout flash)))
says_of flash layout long (no.NotSettled reason) refusal is aims = aims
says_of flash layout long (no.Conflict slot) refusal is aims = aims
says_of flash layout long (no.SlotFlags slot flags) refusal is aims = aims
says_of flash layout long (no.SeqSpent seq) refusal is aims = aims
says_of flash layout long (no.TooLarge need limit) refusal is aims = aims
says_of flash layout long no.Device refusal is aims = absurd is
says_of flash layout long no.Cut refusal is aims = absurd is

refused_in : (flash : List ℕ) (layout : Places) (long : ℕ) (look : AimNo) (refusal : UpdateNo)
    → IsAimRefusal look refusal
    → IfOk (aim_answer (Err look))
    (AimsAt layout (images_in held layout flash) (entries_in layout flash) long)
    → next_in flash layout long ≡ Err refusal
unfolding next_in
refused_in flash layout long look refusal is aims =
    refuse_by look refusal layout _ _ long _ is (says_of flash layout long look refusal is aims)

-- where bytes are told, what holds of each answer holds for them
told_if : {A E : Type 0} (told : Option (List ℕ)) (r : Result A E) (P : List ℕ → A → Type 0)
    (flash : List ℕ) → told ≡ Some flash → IfOk r (λ answer. IfSome told (λ bytes. P bytes answer))
    → IfOk r (P flash)
told_if told (Ok answer) P flash is all = rw is at all
told_if told (Err why) P flash is all = tt

pub aim_refused : (told : Option (List ℕ)) (layout : Places) (long : ℕ) (look : AimNo)
    (refusal : UpdateNo) → IsAimRefusal look refusal
    → IfOk (aim_answer (Err look)) (λ answer. IfSome told (λ flash.
    AimsAt layout (images_in held layout flash) (entries_in layout flash) long answer))
    → IfSome told (λ flash. next_in flash layout long ≡ Err refusal)
aim_refused None layout long look refusal is aims = tt
aim_refused (Some flash) layout long look refusal is aims =
    refused_in flash layout long look refusal is
    (told_if (Some flash) (aim_answer (Err look)) (λ bytes answer. AimsAt layout (images_in held layout bytes) (entries_in layout bytes) long answer) flash refl aims)

-- what an update begins with, of its parts
pub begins_so : (flash image : List ℕ) (o : CodeOpening) (long : ℕ) → IsFlashSize (length flash)
    → Ok o.table ≡ rows_in flash → Ok o.layout ≡ layout_or_refusal (layout_of o.table)
    → long ≡ length image → AimsIn flash o.layout long o.aim → o.flash.items ≡ flash
    → BeginsSo flash image o.script o
begins_so flash image o long size found laid is aims here =
    let aimed : AimsIn flash o.layout (length image) o.aim =
    subst (λ n. AimsIn flash o.layout n o.aim) is aims in
    record {
      given = may_begin flash image o.script o.table o.layout o.aim (sym found) (sym laid) aimed
          ∙ ap (λ bytes. Ok (record {
            flash = bytes;
            image = image;
            script = o.script;
            rows = o.table;
            layout = o.layout;
          })) (sym here);
      begun = record {
        laid = subst (λ bytes. layout_in bytes ≡ Ok o.layout) (sym here)
            (laid_by flash o.table o.layout (sym found) (sym laid));
        table = subst (HasTable o.table o.layout) (sym here)
            (has_table flash o.table o.layout size (sym found) (sym laid));
        aims = subst (λ bytes. AimsIn bytes o.layout (length image) o.aim) (sym here) aimed;
      };
    }
