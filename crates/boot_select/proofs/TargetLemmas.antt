-- The entry that an update writes next announces the slot that it writes.
use Rattle.std.proofs.Common.{◌≡◌, ◌⊎◌, inl, inr, ℕ, ◌+◌, ◌-◌, ◌%◌, ◌<◌, ◌≤◌, ltb, true, false, length, Option, Some, None, Ok, refl, sym, ap, ◌∙◌, subst, arith}
use Rattle.std.proofs.Math.Nat.{mod-lt, mod-eq_of_lt}
use Rattle.std.proofs.lemmas.Bool.{cases_Bool}
use Rattle.std.proofs.lemmas.Bool.Decides.{nat_tests}
use Rattle.otadata.specs.declared.entry.Entry.{Entry}
use Rattle.otadata.specs.declared.next.NextEntry.{NextEntry}
use Rattle.otadata.specs.Choice.{Matches, active_of, slot_named}
use Rattle.otadata.specs.Next.{active_seq, next_by, next_of, next_sector, next_seq, new_entry, seq_at}
use Rattle.otadata.proofs.ChoiceLemmas.{active-first, active-second, active_cases}
use Rattle.otadata.proofs.NextLemmas.{next-follows}
use Rattle.partition_table.specs.declared.app.App.{App}
use Rattle.partition_table.specs.declared.app.App.TheVariants.{Ota, Factory, Test}
use Rattle.partition_table.specs.Layout.{Places}
use Rattle.boot_select.specs.Settled.{sectors}
use Rattle.boot_select.specs.Target.{Heralds, IsAim, IsNotBelow, may_revive, slot_after, target_by, target_of}

-- the slot after the running one is a slot
after-lt : (slots : ℕ) (running : App) → 0 < slots → slot_after slots running < slots
after-lt slots (Ota slot) some = mod-lt (slot + 1) some
after-lt slots Factory some = some
after-lt slots Test some = some

-- the slot that an update writes is one of the layout
pub target-lt : (layout : Places) (e0 e1 : Entry) (running : App) → 0 < length layout.slots
    → target_of layout e0 e1 running < length layout.slots
unfolding target_of
target-lt layout e0 e1 running some =
    at (sectors e0 e1 (next_sector (active_of e0 e1))) (active_seq e0 e1)
  where
    at : (old : Entry) (active : Option ℕ)
        → target_by (length layout.slots) old active running < length layout.slots
    at old active = elim (cases_Bool (may_revive (length layout.slots) old active running)) [
      | inl p ↦ rw p (mod-lt (old.seq - 1) some)
      | inr p ↦ rw p (after-lt (length layout.slots) running some)
    ]

-- an entry of a sequence that an entry may have matches
matches_new : (seq : ℕ) → 0 < seq → seq < 0xFFFFFFFF → Matches (new_entry seq)
matches_new seq some less = record { crc_fits = refl; numbered = omega arith; written = omega arith }

-- what is said of the next entry
abbrev IsNext : ℕ → ℕ → ℕ → Option ℕ → NextEntry → Type 0
IsNext sector slots slot active next =
    (sector ≡ next.sector) × Matches next.entry × (next.entry.state ≡ 0)
    × (slot_named next.entry.seq slots ≡ slot)
    × IsNotBelow next.entry.seq active

-- the next entry where no entry is active
next_first : (slots slot : ℕ) (next : NextEntry) → slot < slots → slots ≤ 16
    → next_by 0 None (next_seq slots None slot) ≡ Ok next → IsNext 0 slots slot None next
next_first slots slot next within most is =
    let made : record { sector = 0; entry = new_entry (slot + 1) } ≡ next = cc in
    let less : (slot + 1) - 1 ≡ slot = omega arith in
    subst (IsNext 0 slots slot None) made (
      refl,
      matches_new (slot + 1) (omega arith) (omega arith),
      refl,
      ap (λ x. x % slots) less
          ∙ mod-eq_of_lt within,
      tt,
    )

-- the next entry after an active one
next_after : (sector slots slot seq : ℕ) (next : NextEntry) → slot < slots → 0 < seq
    → next_by sector (Some seq) (next_seq slots (Some seq) slot) ≡ Ok next
    → IsNext sector slots slot (Some seq) next
next_after sector slots slot seq next within some is =
    let n = next_seq slots (Some seq) slot in
    let follows = next-follows slots seq slot some within in
    at n follows.names follows.not_below is (cases_Bool (ltb n 0xFFFFFFFF))
  where
    at : (n : ℕ) → slot_named n slots ≡ slot → seq ≤ n → next_by sector (Some seq) n ≡ Ok next
        → (ltb n 0xFFFFFFFF ≡ true) ⊎ (ltb n 0xFFFFFFFF ≡ false)
        → IsNext sector slots slot (Some seq) next
    at n names not_below is (inl p) =
        let less : n < 0xFFFFFFFF = grind (arith, nat_tests) in
        let ok = rw p at is in
        let made : record { sector = sector; entry = new_entry n } ≡ next = cc in
        subst (IsNext sector slots slot (Some seq)) made
        (refl, matches_new n (omega arith) less, refl, names, not_below)
    at n names not_below is (inr p) =
        let refused = rw p at is in
        absurd cc

-- what is said of the next entry, by which entry is active
next_is : (e0 e1 : Entry) (slots slot : ℕ) (next : NextEntry) → slot < slots → slots ≤ 16
    → next_of e0 e1 slot slots ≡ Ok next
    → IsNext (next_sector (active_of e0 e1)) slots slot (active_seq e0 e1) next
unfolding next_of
next_is e0 e1 slots slot next within most is =
    let by : Option ℕ → Type 0 = λ active.
    next_by (next_sector active) (seq_at e0 e1 active)
    (next_seq slots (seq_at e0 e1 active) slot) ≡ Ok next
    → IsNext (next_sector active) slots slot (seq_at e0 e1 active) next in
    elim (active_cases e0 e1) [
      | inl first ↦
          let valid = ((active-first e0 e1).0 first).valid in
          let some : 0 < e0.seq = let numbered = valid.matches.numbered in omega arith in
          subst by (sym first) (next_after 1 slots slot e0.seq next within some) is
      | inr rest ↦ elim rest [
        | inl second ↦
            let valid = ((active-second e0 e1).0 second).valid in
            let some : 0 < e1.seq = let numbered = valid.matches.numbered in omega arith in
            subst by (sym second) (next_after 0 slots slot e1.seq next within some) is
        | inr none ↦ subst by (sym none) (next_first slots slot next within most) is
      ]
    ]

-- what an update writes: the next entry announces its slot
pub aim-heralds : (layout : Places) (entries : ℕ → Entry) (running : App) (slot : ℕ)
    (next : NextEntry)
    → 0 < length layout.slots → length layout.slots ≤ 16 → IsAim layout entries running slot next
    → Heralds layout entries running next.sector slot next.entry
aim-heralds layout entries running slot next some most aim =
    let target = target-lt layout (entries 0) (entries 1) running some in
    let within : slot < length layout.slots = subst (λ k. k < length layout.slots)
    (sym aim.target) target in
    let is = next_is (entries 0) (entries 1)
    (length layout.slots) slot next within most aim.next_is in
    record {
      sector_is = sym is.0;
      target = aim.target;
      matches = is.1;
      new = is.2;
      names = is.3;
      not_below = is.4;
    }
