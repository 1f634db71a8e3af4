-- What stands behind the data of an update stays in the rewrites of a boot and of a confirmation,
-- and boots the application that ran or the new one, but for a chance match seen from the opening.
use Rattle.std.proofs.Common.{◌≡◌, ◌≢◌, ◌⊎◌, inl, inr, Bool, ℕ, zero, suc, ◌+◌, ◌<◌, ◌≤◌, List, [], ◌∷◌, ◌++◌, length, Option, Some, None, refl, sym, ap, ◌∙◌, subst, arith}
use Rattle.std.proofs.lemmas.Bool.Decides.{nat_tests}
use Rattle.std.proofs.lemmas.Option.{slice_get_within}
use Rattle.nor_device.specs.declared.step.Step.{Step}
use Rattle.nor_device.specs.Flash.{after_steps}
use Rattle.nor_device.proofs.FlashLaws.{after_steps_append}
use Rattle.crash_images.specs.Crash.{LeftAfter}
use Rattle.crash_images.specs.Agrees.{Agrees, Covers, IsBeside}
use Rattle.crash_images.proofs.AgreesLaws.{agrees_part, left_agrees}
use Rattle.crash_images.proofs.LeftLaws.{left_end}
use Rattle.partition_table.specs.declared.app.App.{App}
use Rattle.partition_table.specs.declared.app.App.TheVariants.{Ota, Factory, Test}
use Rattle.partition_table.specs.declared.row.Row.{Row}
use Rattle.partition_table.specs.Rules.{Stands, is_within}
use Rattle.partition_table.specs.Layout.{IsPlaced, Places, row_for}
use Rattle.otadata.specs.declared.entry.Entry.{Entry}
use Rattle.otadata.specs.Entry.{IsStored}
use Rattle.otadata.specs.Choice.{IsValid, active_of, slot_named}
use Rattle.otadata.specs.Next.{active_seq, next_sector, seq_at}
use Rattle.otadata.proofs.ChoiceLemmas.{active-first, active-none, active-second, active_cases}
use Rattle.boot_select.specs.Boots.{Images, entries_in, first_held, images_in, names}
use Rattle.boot_select.specs.Candidates.{candidates}
use Rattle.boot_select.specs.Choice.{slot_app}
use Rattle.boot_select.specs.Target.{Heralds, IsNotBelow}
use Rattle.boot_select.proofs.StartLemmas.{images_are_placed}
use Rattle.boot_select.proofs.TargetLemmas.{aim-heralds}
use Rattle.rollback.specs.declared.rewrite.Rewrite.{Rewrite}
use Rattle.rollback.specs.Boot.{boot_writes}
use Rattle.rollback.specs.Boots.{IsSettled, after_boot, boots_in, in_state}
use Rattle.rollback.specs.Pair.{IsPair, Keeps, RewritesOnly, aborts_it, begins_it, is_quiet, other_of}
use Rattle.rollback.specs.Rewrite.{restated, with_state, written}
use Rattle.rollback.proofs.BootLemmas.{boot_writes-none}
use Rattle.rollback.proofs.ChanceLemmas.{changed_here, changed_there}
use Rattle.rollback.proofs.EntriesLemmas.{boots_after, boots_same}
use Rattle.rollback.proofs.LifeLemmas.{confirmed_boots, pair_writes}
use Rattle.rollback.proofs.PairLemmas.{boots_holds, pair_boots, some_boots}
use Rattle.rollback.proofs.UpdateLemmas.{behind_pair, new_boots, start_pair}
use Rattle.image_layout.specs.Whole.{Whole}
use Rattle.image_verify.specs.Held.{held}
use Rattle.boot_run.specs.declared.aims.Aim.{Aim}
use Rattle.boot_run.specs.Rewriting.{rewrite}
use Rattle.boot_run.proofs.FrameLemmas.{left_images, left_other, rewrites_within, same_images}
use Rattle.boot_run.proofs.StoredLemmas.{entries_changed, rewritten_entry}
use Rattle.update_steps.specs.Beside.{IsApart, IsSpared, StandsBeside}
use Rattle.update_steps.specs.Driver.{data_steps, driver_steps, next_rewrite}
use Rattle.update_steps.proofs.BesideLemmas.{alone, alone_agrees, alone_left, alone_none}
use Rattle.update_steps.proofs.DataLemmas.{data_held, left_beside, left_entries, left_others}
use Rattle.update_steps.proofs.SessionLemmas.{ShowsNone, driver_is, image_whole}
use Rattle.update_steps.proofs.SparedLemmas.{spared_entry}
use Rattle.power_cut.specs.Update.{BootsEither, Opens, image_of, size_or_none, slot_size}
use Rattle.power_cut.specs.Behind.{IsAnnounced, IsBehind}

-- an application's partition lies behind the table
pub row_behind : (size : ℕ) (row : Row) → Stands size row → 0x9000 ≤ row.offset
unfolding is_within
row_behind size row stands = let within = stands.within in grind (arith, nat_tests)

module _ (layout : Places) (first : List ℕ) (aim : Aim) (image : List ℕ)
    (opening : Opens layout first aim image) where
  abbrev y : ℕ
  y = aim.next.sector

  abbrev new : Entry
  new = aim.next.entry

  abbrev old : List ℕ
  old = image_of layout first aim.running

  abbrev es : ℕ → Entry
  es = entries_in layout first

  abbrev hs : Images
  hs = images_in held layout first

  abbrev row : Row
  row = opening.begins.row

  row_is : row_for layout (Ota aim.slot) ≡ Some row
  row_is = opening.begins.row_is

  pub size_is : slot_size layout aim.slot ≡ row.size
  size_is = ap size_or_none opening.begins.row_is

  settled : IsSettled layout hs es aim.running old
  settled = subst (IsSettled layout hs es aim.running) opening.old_is opening.begins.settled

  runs : hs aim.running ≡ Some old
  runs = boots_holds layout hs es aim.running old settled.booted

  heralds : Heralds layout es aim.running y aim.slot new
  heralds =
      let within = slice_get_within layout.slots aim.slot row opening.begins.row_is in
      aim-heralds layout es aim.running aim.slot aim.next (omega arith) opening.few
      opening.begins.aims

  start : IsPair layout hs es y aim.running old aim.slot image
  start = start_pair layout hs hs es aim.running old y aim.slot new image settled heralds
      opening.begins.apart runs

  pub two : y < 2
  two = start.two

  apart : Ota aim.slot ≢ aim.running
  apart same = opening.begins.apart (sym same)

  fits : length image ≤ row.size
  fits = let less = opening.begins.fits in let same = opening.length_is in omega arith

  label : length new.label ≤ 20
  label = omega (arith, opening.stored.sized.label)

  -- the new entry in another state is one that 32 bytes hold
  stored_in : (state : ℕ) → state < 5 → IsStored (with_state state new)
  stored_in state small = record {
    sized = record {
      seq = opening.stored.sized.seq;
      label = opening.stored.sized.label;
      state = omega arith;
      crc = opening.stored.sized.crc;
    };
    label = opening.stored.label;
  }

  placed : (now : List ℕ) → length now ≡ length first → IsPlaced layout (length now)
  placed now same = subst (IsPlaced layout) (sym same) opening.placed

  -- ---- what a rewrite of the entry's sector leaves

  -- the table lies before the OTA data
  table_beside : Covers (IsBeside layout.otadata (layout.otadata + 8192)) 0x8000 0xC00
  table_beside i from to = inl (let behind = opening.placed.behind in omega arith)

  -- what a loss of power leaves of it stands so, too
  pub left_behind : (now left : List ℕ) (write : Rewrite) → IsBehind layout first aim image now
      → write.sector ≡ y → length write.entry.label ≤ 20
      → LeftAfter now (rewrite layout.otadata write) left → IsBehind layout first aim image left
  left_behind now left write behind same short after =
      let here : write.sector < 2 = omega (arith, two) in
      let agrees : Agrees (IsBeside layout.otadata (layout.otadata + 8192)) now left =
      left_agrees layout.otadata (layout.otadata + 8192) now (rewrite layout.otadata write) left
      (rewrites_within layout.otadata (write ∷ []) opening.placed.aligned ((here, short), tt))
      after in
      let images : images_in held layout left ≡ images_in held layout now =
      left_images held layout (length now) now left (write ∷ []) (placed now behind.size)
      ((here, short), tt) after in
      let entry : entries_in layout left (other_of y) ≡ entries_in layout now (other_of y) =
      subst (λ k. entries_in layout left (other_of k) ≡ entries_in layout now (other_of k)) same
      (left_other layout now left write opening.placed.aligned here short after) in
      record {
        whole = behind.whole;
        size = agrees.same_length ∙ behind.size;
        table = agrees_part (IsBeside layout.otadata (layout.otadata + 8192)) now left 0x8000 0xC00
            table_beside agrees ∙ behind.table;
        old_is = ap (λ (h : Images). h aim.running) images ∙ behind.old_is;
        new_is = ap (λ (h : Images). h (Ota aim.slot)) images ∙ behind.new_is;
        other = entry ∙ behind.other;
      }

  -- and so does what agrees with it where another core may not write
  spared_behind : (others : ℕ → Bool) (left now : List ℕ) → IsApart layout others
      → Agrees (IsSpared others) left now → IsBehind layout first aim image left
      → IsBehind layout first aim image now
  spared_behind others left now spared agrees behind =
      let images : images_in held layout now ≡ images_in held layout left =
      same_images held (IsSpared others) layout left now spared.apps agrees in
      record {
        whole = behind.whole;
        size = agrees.same_length ∙ behind.size;
        table = agrees_part (IsSpared others) left now 0x8000 0xC00 spared.table agrees
            ∙ behind.table;
        old_is = ap (λ (h : Images). h aim.running) images ∙ behind.old_is;
        new_is = ap (λ (h : Images). h (Ota aim.slot)) images ∙ behind.new_is;
        other = spared_entry layout others left now spared agrees (other_of y) (omega arith)
            ∙ behind.other;
      }

  -- so it is of a rewrite beside another core, at every moment
  pub beside_behind : (others : ℕ → Bool) (now left : List ℕ) (write : Rewrite)
      (made rest : List Step) → IsApart layout others → IsBehind layout first aim image now
      → write.sector ≡ y → length write.entry.label ≤ 20
      → rewrite layout.otadata write ≡ made ++ rest → StandsBeside now made rest others left
      → IsBehind layout first aim image left
  beside_behind others now left write made rest spared behind same short split stands =
      spared_behind others (alone now made rest others left stands) left spared
      (alone_agrees now made rest others left stands)
      (left_behind now (alone now made rest others left stands) write behind same short
      (subst (λ (list : List Step). LeftAfter now list (alone now made rest others left stands))
      (sym split) (alone_left now made rest others left stands)))

  -- behind all of its steps the entry is the one that was written
  pub rewritten_here : (now : List ℕ) (write : Rewrite) → IsBehind layout first aim image now
      → write.sector ≡ y → IsStored write.entry
      → entries_in layout (after_steps now (rewrite layout.otadata write)) y ≡ write.entry
  rewritten_here now write behind same stored =
      subst (λ k. entries_in layout (after_steps now (rewrite layout.otadata write)) k
      ≡ write.entry) same
      (rewritten_entry layout now write opening.placed.aligned
      (let inside = opening.placed.inside in let long = behind.size in omega (arith, two)) stored)

  pub beside_here : (others : ℕ → Bool) (now left : List ℕ) (write : Rewrite)
      → IsApart layout others → IsBehind layout first aim image now → write.sector ≡ y
      → IsStored write.entry → StandsBeside now (rewrite layout.otadata write) [] others left
      → entries_in layout left y ≡ write.entry
  beside_here others now left write spared behind same stored stands =
      let steps : List Step = rewrite layout.otadata write in
      spared_entry layout others (alone now steps [] others left stands) left spared
      (alone_agrees now steps [] others left stands) y two
      ∙ ap (λ (f : List ℕ). entries_in layout f y) (alone_none now steps others left stands)
      ∙ rewritten_here now write behind same stored

  -- ---- behind the session

  abbrev mid : List ℕ
  mid = after_steps first (data_steps row.offset image)

  mid_left : LeftAfter first (data_steps row.offset image) mid
  mid_left = left_end first (data_steps row.offset image)

  -- the table lies before the slot
  slot_behind : Covers (IsBeside row.offset (row.offset + row.size)) 0x8000 0xC00
  slot_behind i from to =
      inl (let behind = row_behind (length first) row
      (opening.placed.stands (Ota aim.slot) row row_is) in omega arith)

  mid_behind : Whole image row.size → IsBehind layout first aim image mid
  mid_behind whole =
      let agrees = left_beside layout first mid image (Ota aim.slot) row opening.placed row_is fits
      mid_left in
      record {
        whole = subst (Whole image) (sym size_is) whole;
        size = agrees.same_length;
        table = agrees_part (IsBeside row.offset (row.offset + row.size)) first mid 0x8000 0xC00
            slot_behind agrees;
        old_is = left_others layout first mid image (Ota aim.slot) aim.running row opening.placed
            row_is fits apart mid_left ∙ runs;
        new_is = data_held layout first image (Ota aim.slot) row opening.placed row_is whole
            opening.bytes;
        other = left_entries layout first mid image (Ota aim.slot) row opening.placed row_is fits
            mid_left (other_of y) (omega arith);
      }

  -- where all its steps are made, the new application is announced
  pub session_announced : ShowsNone → (others : ℕ → Bool) (now : List ℕ) → IsApart layout others
      → Whole image (slot_size layout aim.slot)
      → StandsBeside first (driver_steps layout aim image) [] others now
      → IsAnnounced layout first aim image 0 now
  session_announced shown others now spared sound stands =
      let whole : Whole image row.size = subst (Whole image) size_is sound in
      let steps : List Step = driver_steps layout aim image in
      let loads : List Step = data_steps row.offset image in
      let entry : List Step = rewrite layout.otadata (next_rewrite aim) in
      let split : steps ≡ loads ++ entry =
      driver_is layout aim image row opening.begins.row_is
      ∙ image_whole shown layout.otadata row (next_rewrite aim) image whole in
      let end : alone first steps [] others now stands ≡ after_steps mid entry =
      alone_none first steps others now stands ∙ ap (after_steps first) split
      ∙ after_steps_append first loads entry in
      let agrees : Agrees (IsSpared others) (after_steps mid entry) now =
      subst (λ (f : List ℕ). Agrees (IsSpared others) f now) end
      (alone_agrees first steps [] others now stands) in
      record {
        behind = spared_behind others (after_steps mid entry) now spared agrees
            (left_behind mid (after_steps mid entry) (next_rewrite aim) (mid_behind whole) refl
            label (left_end mid entry));
        here = spared_entry layout others (after_steps mid entry) now spared agrees y two
            ∙ rewritten_here mid (next_rewrite aim) (mid_behind whole) refl opening.stored
            ∙ sym state_is;
      }
    where
      state_is : with_state 0 new ≡ new
      state_is = rw (sym heralds.new) refl

  -- ---- what boots

  -- one of both applications, or the entry matches by chance
  pub behind_boots : (now : List ℕ) → IsBehind layout first aim image now
      → BootsEither layout first aim image now
  behind_boots now behind =
      elim (behind_pair layout hs (images_in held layout now) es (entries_in layout now) aim.running
      old y aim.slot new image settled heralds opening.begins.apart behind.old_is behind.new_is
      behind.other) [
        | inl chance ↦ inr (behind.whole, inr chance)
        | inr pair ↦ elim (pair_boots layout (images_in held layout now) (entries_in layout now) y
            aim.running old aim.slot image pair) [
              | inl one ↦ inl one
              | inr other ↦ inr (behind.whole, inl other)
            ]
      ]

  -- some application in any case
  pub behind_some : (now : List ℕ) → IsBehind layout first aim image now
      → boots_in held layout now ≢ None
  behind_some now behind =
      some_boots layout (images_in held layout now) (entries_in layout now) aim.running
      (λ none. absurd (let lacks = images_are_placed held layout now aim.running none in
      let has = behind.old_is in cc))
      (λ none. absurd (let has = behind.old_is in cc))

  -- once it is announced, the new one
  pub announced_boots : (now : List ℕ) → IsAnnounced layout first aim image 0 now
      → boots_in held layout now ≡ Some (Ota aim.slot, image)
  announced_boots now is =
      new_boots layout hs (images_in held layout now) es (entries_in layout now) aim.running old y
      aim.slot new image settled heralds is.behind.new_is (is.here ∙ state_is) is.behind.other
    where
      state_is : with_state 0 new ≡ new
      state_is = rw (sym heralds.new) refl

  -- ---- the boot

  -- the new entry counts in each state but INVALID and ABORTED
  pub new_valid : (state : ℕ) → state < 3 → IsValid (with_state state new)
  new_valid state small = record {
    matches = record {
      crc_fits = heralds.matches.crc_fits;
      numbered = heralds.matches.numbered;
      written = heralds.matches.written;
    };
    not_rejected = omega arith;
    not_given_up = omega arith;
  }

  -- the active sequence at the opening is that of the other entry, where it counts
  other_active : IsValid (es (other_of y)) → active_seq (es 0) (es 1) ≡ Some (es (other_of y)).seq
  other_active fact = at (active_cases (es 0) (es 1))
    where
      told : (active : Option ℕ) → active_of (es 0) (es 1) ≡ active
          → active_seq (es 0) (es 1) ≡ seq_at (es 0) (es 1) active
      told active is = ap (seq_at (es 0) (es 1)) is

      where_is : (active : Option ℕ) → active_of (es 0) (es 1) ≡ active → y ≡ next_sector active
      where_is active is = heralds.sector_is ∙ ap next_sector is

      at : (active_of (es 0) (es 1) ≡ Some 0) ⊎ ((active_of (es 0) (es 1) ≡ Some 1)
          ⊎ (active_of (es 0) (es 1) ≡ None))
          → active_seq (es 0) (es 1) ≡ Some (es (other_of y)).seq
      at (inl zeroth) = told (Some 0) zeroth
          ∙ ap (λ k. Some (es (other_of k)).seq) (sym (where_is (Some 0) zeroth))
      at (inr (inl one)) = told (Some 1) one
          ∙ ap (λ k. Some (es (other_of k)).seq) (sym (where_is (Some 1) one))
      at (inr (inr none)) =
          let fact' : IsValid (es 1) =
          subst (λ k. IsValid (es (other_of k))) (where_is None none) fact in
          absurd (((active-none (es 0) (es 1)).0 none).second_invalid fact')

  -- it is below the new one
  other_below : IsValid (es (other_of y)) → (es (other_of y)).seq < new.seq
  other_below fact =
      let less : (es (other_of y)).seq ≤ new.seq =
      subst (IsNotBelow new.seq) (other_active fact) heralds.not_below in
      let else_named : (es (other_of y)).seq ≢ new.seq =
      λ same. differ aim.running start.keeps opening.begins.apart same in
      omega arith
    where
      differ : (app : App) → Keeps layout app y (es (other_of y)) → app ≢ Ota aim.slot
          → (es (other_of y)).seq ≡ new.seq → ⊥
      differ (Ota slot) keeps not_slot same =
          not_slot (ap Ota (sym keeps.names
          ∙ ap (λ seq. slot_named seq (length layout.slots)) same ∙ heralds.names))
      differ Factory keeps not_slot same = keeps.invalid fact
      differ Test keeps not_slot same = keeps

  -- so it is the active one, while it counts
  pub announced_active : (state : ℕ) (now : List ℕ) → state < 3
      → IsAnnounced layout first aim image state now
      → active_of (entries_in layout now 0) (entries_in layout now 1) ≡ Some y
  announced_active state now small is = at y two is.here is.behind.other other_below
    where
      gs : ℕ → Entry
      gs = entries_in layout now

      at : (k : ℕ) → k < 2 → gs k ≡ with_state state new → gs (other_of k) ≡ es (other_of k)
          → (IsValid (es (other_of k)) → (es (other_of k)).seq < new.seq)
          → active_of (gs 0) (gs 1) ≡ Some k
      at zero below here other less =
          (active-first (gs 0) (gs 1)).1 (record {
            valid = subst IsValid (sym here) (new_valid state small);
            unexceeded = λ fact.
                let more = less (subst IsValid other fact) in
                let mine = ap (λ (e : Entry). e.seq) here in
                let theirs = ap (λ (e : Entry). e.seq) other in
                omega arith;
          })
      at (suc zero) below here other less =
          (active-second (gs 0) (gs 1)).1 (record {
            valid = subst IsValid (sym here) (new_valid state small);
            exceeds = λ fact.
                let more = less (subst IsValid other fact) in
                let mine = ap (λ (e : Entry). e.seq) here in
                let theirs = ap (λ (e : Entry). e.seq) other in
                omega arith;
          })
      at (suc (suc n)) below here other less = absurd (omega arith)

  -- of what the session leaves a boot lets the new entry wait, and rewrites nothing else
  pub announced_writes : (now : List ℕ) → IsAnnounced layout first aim image 0 now
      → boot_writes (entries_in layout now) ≡ restated 1 y new ∷ []
  announced_writes now is =
      elim (behind_pair layout hs (images_in held layout now) es gs aim.running old y aim.slot new
      image settled heralds opening.begins.apart is.behind.old_is is.behind.new_is
      is.behind.other) [
        | inl chance ↦
            absurd (chance.not_new heralds.matches (ap (λ (e : Entry). e.seq) here))
        | inr pair ↦
            waits (pair_writes layout (images_in held layout now) gs y aim.running old aim.slot
            image pair)
      ]
    where
      gs : ℕ → Entry
      gs = entries_in layout now

      here : gs y ≡ new
      here = is.here ∙ rw (sym heralds.new) refl

      state_is : (gs y).state ≡ 0
      state_is = ap (λ (e : Entry). e.state) here ∙ heralds.new

      waits : RewritesOnly gs y → boot_writes gs ≡ restated 1 y new ∷ []
      waits (is_quiet quiet) =
          absurd (active_state y two (announced_active 0 now (omega arith) is) state_is)
        where
          active_state : (k : ℕ) → k < 2 → active_of (gs 0) (gs 1) ≡ Some k → (gs k).state ≡ 0 → ⊥
          active_state zero below active new_state =
              ((boot_writes-none gs).0 quiet).active 0 active new_state
          active_state (suc zero) below active new_state =
              ((boot_writes-none gs).0 quiet).active 1 active new_state
          active_state (suc (suc n)) below active new_state = omega arith
      waits (aborts_it pending made) = absurd (omega (arith, pending, state_is))
      waits (begins_it fresh active made) =
          made ∙ ap (λ (e : Entry). restated 1 y e ∷ []) here

  -- the rewrite that a boot makes, and that of a confirmation behind it
  abbrev pub waiting : Rewrite
  waiting = restated 1 y new

  abbrev pub confirming : Rewrite
  confirming = restated 2 y new

  -- behind the boot the new entry waits
  pub booted_waits : (now : List ℕ) → IsAnnounced layout first aim image 0 now
      → IsAnnounced layout first aim image 1 (after_steps now (rewrite layout.otadata waiting))
  booted_waits now is = record {
    behind = left_behind now (after_steps now (rewrite layout.otadata waiting)) waiting is.behind
        refl label (left_end now (rewrite layout.otadata waiting));
    here = rewritten_here now waiting is.behind refl (stored_in 1 (omega arith));
  }

  -- and what was booted is the first candidate, as the entries then stand
  pub booted_first : (now : List ℕ) (is : IsAnnounced layout first aim image 0 now)
      → boots_in held layout now
      ≡ first_held (images_in held layout (after_steps now (rewrite layout.otadata waiting)))
      (candidates layout (names layout
      (entries_in layout (after_steps now (rewrite layout.otadata waiting)))))
  booted_first now is =
      let then : List ℕ = after_steps now (rewrite layout.otadata waiting) in
      let made : boot_writes (entries_in layout now) ≡ waiting ∷ [] = announced_writes now is in
      let images : images_in held layout then ≡ images_in held layout now =
      left_images held layout (length now) now then (waiting ∷ []) (placed now is.behind.size)
      ((two, label), tt) (left_end now (rewrite layout.otadata waiting)) in
      boots_after layout (images_in held layout now) (entries_in layout now)
      (entries_in layout then 0) (entries_in layout then 1)
      (after 0 (omega arith) made) (after 1 (omega arith) made)
      ∙ ap (λ (h : Images). first_held h (candidates layout (names layout
      (entries_in layout then))))
      (sym images)
    where
      then : List ℕ
      then = after_steps now (rewrite layout.otadata waiting)

      after : (k : ℕ) → k < 2 → boot_writes (entries_in layout now) ≡ waiting ∷ []
          → entries_in layout then k ≡ after_boot (entries_in layout now) k
      after k below made =
          entries_changed layout now waiting (placed now is.behind.size) two
          (stored_in 1 (omega arith)) k below
          ∙ sym (ap (λ (ws : List Rewrite). written ws (entries_in layout now) k) made)

  -- ---- the confirmation

  -- once the new entry is VALID, the new application boots
  pub confirmed_new : (now left : List ℕ) → IsAnnounced layout first aim image 1 now
      → IsAnnounced layout first aim image 2 left
      → boots_in held layout left ≡ Some (Ota aim.slot, image)
  confirmed_new now left was is =
      let gs : ℕ → Entry = entries_in layout now in
      let h : Images = images_in held layout left in
      let active : active_of (gs 0) (gs 1) ≡ Some y = announced_active 1 now (omega arith) was in
      let names : slot_app layout (gs y) ≡ Ota aim.slot =
      ap (λ (e : Entry). slot_app layout e) was.here ∙ ap Ota heralds.names in
      boots_same layout h (in_state 2 y gs) (entries_in layout left) (same 0 (omega arith))
      (same 1 (omega arith))
      ∙ confirmed_boots layout h gs y image two active
      (ap h names ∙ is.behind.new_is)
      ∙ ap (λ (a : App). Some (a, image)) names
    where
      gs : ℕ → Entry
      gs = entries_in layout now

      here : entries_in layout left y ≡ in_state 2 y gs y
      here = is.here ∙ ap (with_state 2) (sym was.here) ∙ sym (changed_here 2 y gs)

      there : entries_in layout left (other_of y) ≡ in_state 2 y gs (other_of y)
      there = is.behind.other ∙ sym was.behind.other ∙ sym (changed_there 2 y gs two)

      same : (k : ℕ) → k < 2 → entries_in layout left k ≡ in_state 2 y gs k
      same k below = at k y below two here there
        where
          at : (k n : ℕ) → k < 2 → n < 2 → entries_in layout left n ≡ in_state 2 y gs n
              → entries_in layout left (other_of n) ≡ in_state 2 y gs (other_of n)
              → entries_in layout left k ≡ in_state 2 y gs k
          at zero zero below two here there = here
          at zero (suc zero) below two here there = there
          at (suc zero) zero below two here there = there
          at (suc zero) (suc zero) below two here there = here
          at (suc (suc k)) n below two here there = absurd (omega arith)
          at k (suc (suc n)) below two here there = absurd (omega arith)
