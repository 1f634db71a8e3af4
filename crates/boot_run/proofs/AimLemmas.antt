-- What is aimed at beside the application that was started is what the flash says.
use Rattle.std.proofs.Common.{◌==◌, ◌≡◌, ◌≢◌, ◌⊎◌, inl, inr, true, false, ◌%◌, ◌<◌, ◌≤◌, nat_lt, length, slice_get, ℕ, List, Option, Some, None, IfSome, Result, Ok, Err, IfOk, IfErr, refl, sym, ap, ◌∙◌, subst, arith}
use Rattle.std.proofs.lemmas.Bool.{cases_Bool}
use Rattle.std.proofs.lemmas.Bool.Decides.{nat_tests}
use Rattle.partition_table.specs.declared.app.App.{App}
use Rattle.partition_table.specs.declared.app.App.TheVariants.{Ota}
use Rattle.partition_table.specs.declared.row.Row.{Row}
use Rattle.partition_table.specs.Layout.{Places}
use Rattle.otadata.specs.declared.entry.Entry.{Entry}
use Rattle.otadata.specs.declared.next.NextEntry.{NextEntry}
use Rattle.otadata.specs.declared.next.SeqSpent.{SeqSpent}
use Rattle.otadata.specs.Next.{next_of}
use Rattle.boot_select.specs.Choice.{named_of}
use Rattle.boot_select.specs.Candidates.{IsStart, candidates}
use Rattle.boot_select.specs.Settled.{is_same, settled_by, settled_of, waiting_of}
use Rattle.boot_select.specs.Target.{target_of}
use Rattle.boot_select.specs.Boots.{Images, app_of, entries_in, first_held, has_image, images_in}
use Rattle.boot_select.proofs.SettledLemmas.{is_same-true}
use Rattle.boot_select.proofs.StartLemmas.{first_holds, started-held}
use Rattle.image_verify.specs.declared.info.ImageInfo.{ImageInfo}
use Rattle.image_verify.specs.Held.{held}
use Rattle.image_verify.specs.Info.{IsInfo}
use Rattle.rollback.proofs.PairLemmas.{boots_holds}
use Rattle.rollback.proofs.TruthLemmas.{settled-images}
use Rattle.boot_run.specs.declared.aims.Aim.{Aim}
use Rattle.boot_run.specs.declared.aims.Unfit.{Unfit}
use Rattle.boot_run.specs.Verified.{HasInfo, IsFirst}
use Rattle.boot_run.specs.Aim.{AimsAt, Begins, IsAimed, IsAimedBy, aim_at, aim_by, aim_in, aim_next, app_started}

-- the application that was started is the first one that has an image
first_app : (images : Images) (apps : List App) (started : Option (App × ImageInfo))
    → IsFirst images apps started → app_started started ≡ app_of (first_held images apps)
first_app images apps None first = sym (ap app_of first)
first_app images apps (Some started) first = sym (ap app_of first.is)

-- so by it runs what the images tell
started_runs : (layout : Places) (images : Images) (e0 e1 : Entry)
    (started : Option (App × ImageInfo))
    → IsStart layout (named_of layout e0 e1)
    → IsFirst images (candidates layout (named_of layout e0 e1)) started
    → settled_by (waiting_of e0 e1) (named_of layout e0 e1) (app_started started)
    ≡ settled_of layout (has_image images) e0 e1
unfolding settled_of
started_runs layout images e0 e1 started start first =
    ap (settled_by (waiting_of e0 e1) (named_of layout e0 e1))
    (first_app images (candidates layout (named_of layout e0 e1)) started first
    ∙ sym (started-held layout (has_image images) images (named_of layout e0 e1) (λ app found. refl)
    start))

-- what is told of its image
started_info : (images : Images) (apps : List App) (started : Option (App × ImageInfo)) (app : App)
    (info : ImageInfo) → started ≡ Some (app, info) → IsFirst images apps started
    → HasInfo (images app) info
started_info images apps None app info is first = absurd cc
started_info images apps (Some found) app info is first =
    let same : found ≡ (app, info) = cc in
    subst (λ (p : App × ImageInfo). HasInfo (images p.0) p.1) same
    (record {
      bytes = first.image;
      is = first_holds images apps found.0 first.image first.is;
      told =
          first.told;
    })

-- what is aimed at by entries and images
aims_at : (layout : Places) (images : Images) (entries : ℕ → Entry) (e0 e1 : Entry) (long : ℕ)
    (started : Option (App × ImageInfo)) (r : Result Aim Unfit) → e0 ≡ entries 0 → e1 ≡ entries 1
    → IsStart layout (named_of layout e0 e1)
    → IsFirst images (candidates layout (named_of layout e0 e1)) started
    → IfOk r (IsAimedBy layout e0 e1 started long)
    → IfErr r (λ why. aim_by layout e0 e1 long
    (settled_by (waiting_of e0 e1) (named_of layout e0 e1) (app_started started)) ≡ Err why)
    → AimsAt layout images entries long r
aims_at layout images entries e0 e1 long started (Ok aim) zeroth other start first ok err = record {
  runs = sym (λ i. settled_of layout (has_image images) (zeroth i) (other i))
      ∙ sym (started_runs layout images e0 e1 started start first) ∙ ok.runs;
  info = started_info images (candidates layout (named_of layout e0 e1)) started aim.running
      aim.info ok.info first;
  slot = ok.slot ∙ (λ i. target_of layout (zeroth i) (other i) aim.running);
  next = sym (λ i. aim_at layout (zeroth i) (other i) aim.running long aim.slot) ∙ ok.next;
  length = ok.length;
}
aims_at layout images entries e0 e1 long started (Err why) zeroth other start first ok err =
    sym (λ i. aim_by layout (zeroth i) (other i) long
    (settled_of layout (has_image images) (zeroth i) (other i)))
    ∙ sym (ap (aim_by layout e0 e1 long) (started_runs layout images e0 e1 started start first))
    ∙ err

-- of a device that tells its bytes
pub told_aims : (layout : Places) (e0 e1 : Entry) (apps : List App) (long : ℕ)
    (old mid : Option (List ℕ))
    (started : Option (App × ImageInfo)) (r : Result Aim Unfit)
    → IfSome old (λ flash. e0 ≡ entries_in layout flash 0)
    → IfSome old (λ flash. e1 ≡ entries_in layout flash 1)
    → IsStart layout (named_of layout e0 e1) → apps ≡ candidates layout (named_of layout e0 e1)
    → mid ≡ old
    → IfSome mid (λ flash. IsFirst (images_in held layout flash) apps started)
    → IfOk r (IsAimedBy layout e0 e1 started long)
    → IfErr r (λ why. aim_by layout e0 e1 long
    (settled_by (waiting_of e0 e1) (named_of layout e0 e1) (app_started started)) ≡ Err why)
    → IfSome old (λ flash. AimsAt layout (images_in held layout flash) (entries_in layout flash)
    long r)
told_aims layout e0 e1 apps long None mid started r zeroth other start all same first ok err = tt
told_aims layout e0 e1 apps long (Some flash) mid started r zeroth other start all same first ok err
    =
    let on = subst (λ (m : Option (List ℕ)). IfSome m
    (λ f. IsFirst (images_in held layout f) apps started)) same first in
    aims_at layout (images_in held layout flash) (entries_in layout flash) e0 e1 long started r
    zeroth other start
    (subst (λ l. IsFirst (images_in held layout flash) l started) all on) ok err

-- ---- what an aim says of the update

-- what lets an image of so many bytes be written to a slot
record Allowed (layout : Places) (e0 e1 : Entry) (running : App) (long slot : ℕ) (next : NextEntry)
    : Type 0 where
  apart : running ≢ Ota slot
  row : Row
  row_is : slice_get layout.slots slot ≡ Some row
  flags : row.flags % 4 ≡ 0
  next_is : next_of e0 e1 slot (length layout.slots) ≡ Ok next
  fits : long ≤ row.size

-- a slot for which there is a next entry lets it
allowed : (layout : Places) (e0 e1 : Entry) (running : App) (long slot : ℕ) (next : NextEntry)
    → aim_at layout e0 e1 running long slot ≡ Ok next → Allowed layout e0 e1 running long slot next
allowed layout e0 e1 running long slot next is = same (cases_Bool (is_same running (Ota slot))) is
  where
    fit : (row : Row) (found : NextEntry) → (nat_lt row.size long ≡ true)
        ⊎ (nat_lt row.size long ≡ false)
        → aim_next long row (Ok found) ≡ Ok next → (found ≡ next) × (long ≤ row.size)
    fit row found (inl p) ok = let err = rw p at ok in absurd cc
    fit row found (inr p) ok = let done = rw p at ok in (cc, grind (arith, nat_tests))

    spent : (row : Row) (r : Result NextEntry SeqSpent) → aim_next long row r ≡ Ok next
        → (r ≡ Ok next) × (long ≤ row.size)
    spent row (Err why) ok = absurd cc
    spent row (Ok found) ok =
        let both = fit row found (cases_Bool (nat_lt row.size long)) ok in
        (ap (λ n. Ok n) both.0, both.1)

    flagged : (row : Row) → slice_get layout.slots slot ≡ Some row → (running ≢ Ota slot)
        → ((row.flags % 4 == 0) ≡ true) ⊎ ((row.flags % 4 == 0) ≡ false)
        → aim_in slot long (Some row) (next_of e0 e1 slot (length layout.slots)) ≡ Ok next
        → Allowed layout e0 e1 running long slot next
    flagged row found apart (inl p) ok =
        let both = spent row (next_of e0 e1 slot (length layout.slots)) (rw p at ok) in record {
          apart = apart;
          row = row;
          row_is = found;
          flags = grind (arith, nat_tests);
          next_is = both.0;
          fits = both.1;
        }
    flagged row found apart (inr p) ok = let err = rw p at ok in absurd cc

    rowed : (row : Option Row) → slice_get layout.slots slot ≡ row → (running ≢ Ota slot)
        → aim_in slot long row (next_of e0 e1 slot (length layout.slots)) ≡ Ok next
        → Allowed layout e0 e1 running long slot next
    rowed None found apart ok = absurd cc
    rowed (Some row) found apart ok = flagged row found apart (cases_Bool (row.flags % 4 == 0)) ok

    same : (is_same running (Ota slot) ≡ true) ⊎ (is_same running (Ota slot) ≡ false)
        → aim_at layout e0 e1 running long slot ≡ Ok next → Allowed layout e0 e1 running long slot
        next
    same (inl p) ok = let err = rw p at ok in absurd cc
    same (inr p) ok =
        rowed (slice_get layout.slots slot) refl
        (λ equal. absurd (let same = (is_same-true running (Ota slot)).1 equal in cc)) (rw p at ok)

-- an aim begins an update
pub aim_begins : (layout : Places) (images : Images) (entries : ℕ → Entry) (long : ℕ) (aim : Aim)
    → 0 < length layout.slots → IsAimed layout images entries long aim
    → Begins layout images entries aim
aim_begins layout images entries long aim some aimed =
    let settled = (settled-images layout (has_image images) images entries aim.running
    (λ app found. refl) some).0 aimed.runs in
    let may = allowed layout (entries 0) (entries 1) aim.running long aim.slot aim.next aimed.next
    in
    record {
      image = settled.0;
      settled = settled.1;
      told = by (images aim.running) settled.0 aimed.info
          (boots_holds layout images entries aim.running settled.0 settled.1.booted);
      aims = record { target = aimed.slot; next_is = may.next_is };
      apart = may.apart;
      row = may.row;
      row_is = may.row_is;
      flags = may.flags;
      fits = let same = aimed.length in let less = may.fits in omega arith;
    }
  where
    by : (image : Option (List ℕ)) (bytes : List ℕ) → HasInfo image aim.info → image ≡ Some bytes
        → IsInfo bytes aim.info
    by image bytes info is =
        let both = sym info.is ∙ is in
        let same : info.bytes ≡ bytes = cc in subst (λ b. IsInfo b aim.info) same info.told
