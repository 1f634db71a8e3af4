-- A pair stays one through boots, confirmations and rejections, and a boot and a confirmation settle it.
use Rattle.std.proofs.Common.{Option, ◌==◌, ◌≡◌, ◌≢◌, ◌⊎◌, inl, inr, ℕ, zero, suc, ◌<◌, ◌≤◌, max, true, List, [], ◌∷◌, ◌++◌, length, Some, refl, sym, ap, ◌∙◌, subst, arith}
use Rattle.std.proofs.lemmas.Bool.{cases_Bool}
use Rattle.std.proofs.lemmas.Bool.Decides.{nat_tests}
use Rattle.otadata.specs.declared.entry.Entry.{Entry}
use Rattle.otadata.specs.Choice.{IsValid, Matches, active_of, slot_named}
use Rattle.otadata.proofs.ChoiceLemmas.{active-first, active-second, active_cases, matches_or_not}
use Rattle.partition_table.specs.declared.app.App.{App}
use Rattle.partition_table.specs.declared.app.App.TheVariants.{Ota}
use Rattle.partition_table.specs.Layout.{Places}
use Rattle.boot_select.specs.Choice.{slot_app}
use Rattle.boot_select.specs.Settled.{sectors}
use Rattle.boot_select.specs.Boots.{Images, names}
use Rattle.rollback.specs.declared.rewrite.Rewrite.{Rewrite}
use Rattle.rollback.specs.Rewrite.{restated, with_state, written}
use Rattle.rollback.specs.Boot.{abort, aborts, begin, begin_by, begin_in, boot_writes, given_up}
use Rattle.rollback.specs.Boots.{BootsByVerdict, IsChance, after_boot, boots, in_state}
use Rattle.rollback.specs.Pair.{BootsOneOf, IsHarmless, IsPair, Keeps, RewritesOnly, SettlesOneOf, aborts_it, begins_it, is_quiet, below, names_running, names_target, other_of, rejected, unmatched, aborted}
use Rattle.rollback.proofs.BootLemmas.{abort-none, begin_in-none, boot_writes-none, boot_writes-parts, given_up-same}
use Rattle.rollback.proofs.VoteLemmas.{boot_names, named_seq, pick, pick_swap, vote}
use Rattle.rollback.proofs.ChanceLemmas.{boots_at, chance_or, changed_here, changed_there, confirmed_vote, invalid_vote, vote_cases}
use Rattle.rollback.proofs.PairLemmas.{pair_boots, keeps-not_new, keeps-not_pending, named_boots, pair_names}
use Rattle.rollback.proofs.UpdateLemmas.{idle_cases}

-- ---- a rewrite of the entry of a pair

-- an entry of the sequence of another one that matches and is neither INVALID nor ABORTED makes no more boot than that
same_harmless : (layout : Places) (images : Images) (app : App) (slot : ℕ) (target : List ℕ)
    (other e found : Entry)
    → IsHarmless layout images app slot target other e → Matches e → e.state ≢ 3 → e.state ≢ 4
    → found.seq ≡ e.seq
    → IsHarmless layout images app slot target other found
same_harmless layout images app slot target other e found (unmatched lacks) fits not_rejected not_given_up same = absurd (lacks fits)
same_harmless layout images app slot target other e found (rejected is) fits not_rejected not_given_up same = absurd (not_rejected is)
same_harmless layout images app slot target other e found (aborted is) fits not_rejected not_given_up same = absurd (not_given_up is)
same_harmless layout images app slot target other e found (below fact less) fits not_rejected not_given_up same =
    below fact (omega arith)
same_harmless layout images app slot target other e found (names_running is) fits not_rejected not_given_up same =
    names_running (is ∙ ap (λ seq. Ota (slot_named seq (length layout.slots))) (sym same))
same_harmless layout images app slot target other e found (names_target is holds) fits not_rejected not_given_up same =
    names_target (ap (λ seq. slot_named seq (length layout.slots)) same ∙ is) holds

-- a pair with another entry in its sector
with_entry : (layout : Places) (images : Images) (es gs : ℕ → Entry) (y : ℕ) (app : App)
    (image : List ℕ)
    (slot : ℕ) (target : List ℕ) → IsPair layout images es y app image slot target
    → gs (other_of y) ≡ es (other_of y)
    → IsHarmless layout images app slot target (es (other_of y)) (gs y)
    → IsPair layout images gs y app image slot target
with_entry layout images es gs y app image slot target pair other harmless = record {
  two = pair.two;
  holds = pair.holds;
  apart = pair.apart;
  keeps = subst (Keeps layout app y) (sym other) pair.keeps;
  harmless = subst (λ e. IsHarmless layout images app slot target e (gs y)) (sym other) harmless;
}

-- whatever is found in the sector of a pair whose entry is rewritten: it is that pair, or what is found matches by chance
pub rewrite_pair : (layout : Places) (images : Images) (es gs : ℕ → Entry) (y state : ℕ) (app : App)
    (image : List ℕ)
    (slot : ℕ) (target : List ℕ) → IsPair layout images es y app image slot target
    → (es y).state ≢ 3 → (es y).state ≢ 4
    → gs (other_of y) ≡ es (other_of y)
    → IsChance (es y) (with_state state (es y)) (gs y)
    ⊎ IsPair layout images gs y app image slot target
rewrite_pair layout images es gs y state app image slot target pair not_rejected not_given_up other =
    let keep : IsHarmless layout images app slot target (es (other_of y)) (gs y)
    → IsPair layout images gs y app image slot target =
    with_entry layout images es gs y app image slot target pair other in
    let same : Matches (es y) → (gs y).seq ≡ (es y).seq
    → IsHarmless layout images app slot target (es (other_of y)) (gs y) =
    λ fits is. same_harmless layout images app slot target (es (other_of y)) (es y)
    (gs y) pair.harmless fits not_rejected not_given_up is in
    elim (chance_or (es y) (with_state state (es y)) (gs y)) [
      | inl chance ↦ inl chance
      | inr rest ↦ elim rest [
        | inl lacks ↦ inr (keep (unmatched lacks))
        | inr fits ↦ elim fits [
          | inl old ↦ inr (keep (same old.0 old.1))
          | inr is ↦
              let old : Matches (es y) = record { crc_fits = is.0.crc_fits; numbered = is.0.numbered; written = is.0.written } in
              inr (keep (same old is.1))
        ]
      ]
    ]

-- of a pair, what boots where its entry is VALID or INVALID is one of its two applications
pub verdict_boots : (layout : Places) (images : Images) (es : ℕ → Entry) (y : ℕ) (app : App)
    (image : List ℕ) (slot : ℕ) (target : List ℕ) (booted : Option (App × List ℕ))
    → IsPair layout images es y app image slot target → (es y).state ≢ 3 → (es y).state ≢ 4
    → BootsByVerdict layout images es y booted → BootsOneOf app image slot target booted
verdict_boots layout images es y app image slot target booted pair not_rejected not_given_up by =
    elim by [
      | inl valid ↦ subst (BootsOneOf app image slot target) (sym valid) (boots_of 2 confirmed)
      | inr invalid ↦ subst (BootsOneOf app image slot target) (sym invalid)
          (boots_of 3 (rejected (ap (λ (e : Entry). e.state) (changed_here 3 y es))))
    ]
  where
    boots_of : (state : ℕ)
        → IsHarmless layout images app slot target (es (other_of y)) (in_state state y es y)
        → BootsOneOf app image slot target (boots layout images (in_state state y es))
    boots_of state harmless =
        pair_boots layout images (in_state state y es) y app image slot target
        (with_entry layout images es (in_state state y es) y app image slot target pair
        (changed_there state y es pair.two) harmless)

    confirmed : IsHarmless layout images app slot target (es (other_of y)) (in_state 2 y es y)
    confirmed = elim (matches_or_not (es y)) [
      | inl fits ↦
          same_harmless layout images app slot target (es (other_of y)) (es y) (in_state 2 y es y)
          pair.harmless fits not_rejected not_given_up
          (ap (λ (e : Entry). e.seq) (changed_here 2 y es))
      | inr lacks ↦ unmatched (λ fits.
          let is : Matches (with_state 2 (es y)) = subst Matches (changed_here 2 y es) fits in
          lacks (record { crc_fits = is.crc_fits; numbered = is.numbered; written = is.written }))
    ]

-- ---- what a boot rewrites

-- no entry begins to wait, where neither that counts is new
quiet_begin : (first second : Entry) → (IsValid first → first.state ≢ 0)
    → (IsValid second → second.state ≢ 0) → begin first second ≡ []
quiet_begin first second not_first not_second = elim (active_cases first second) [
  | inl is_first ↦ ap (begin_by first second) is_first
      ∙ (begin_in-none 0 first).1 (not_first ((active-first first second).0 is_first).valid)
  | inr rest ↦ elim rest [
    | inl is_second ↦ ap (begin_by first second) is_second
        ∙ (begin_in-none 1 second).1 (not_second ((active-second first second).0 is_second).valid)
    | inr none ↦ ap (begin_by first second) none
  ]
]

-- an entry that is given up does not count
given_up_invalid : (e : Entry) → ¬ IsValid (with_state 4 e)
given_up_invalid e fact = fact.not_given_up refl

-- no entry waits where none is pending, and the active one is not new
quiet_boot : (es : ℕ → Entry) → (es 0).state ≢ 1 → (es 1).state ≢ 1
    → ((y : ℕ) → active_of (es 0) (es 1) ≡ Some y → (sectors (es 0) (es 1) y).state ≢ 0)
    → boot_writes es ≡ []
quiet_boot es first second active = (boot_writes-none es).1 (record { first = first; second = second; active = active })

-- the rewrites of a boot where the second entry keeps its application
writes_0 : (es : ℕ → Entry) → (es 1).state ≢ 1 → (IsValid (es 1) → (es 1).state ≢ 0)
    → RewritesOnly es 0
writes_0 es not_pending not_new = elim (cases_Bool ((es 0).state == 1)) [
  | inl p ↦
      let pending : (es 0).state ≡ 1 = grind (arith, nat_tests) in
      aborts_it pending (boot_writes-parts es
      ∙ parts (abort_here p) ((abort-none 1 (es 1)).1 not_pending)
      (ap (λ f. begin f (given_up (es 1))) (give_here p)
      ∙ ap (begin (with_state 4 (es 0))) (given_up-same (es 1) not_pending)
      ∙ quiet_begin (with_state 4 (es 0)) (es 1)
      (λ fact. absurd (given_up_invalid (es 0) fact)) not_new))
  | inr p ↦
      let other : (es 0).state ≢ 1 = grind (arith, nat_tests) in
      elim (active_cases (es 0) (es 1)) [
        | inl is_first ↦ elim (cases_Bool ((es 0).state == 0)) [
          | inl q ↦
              let new : (es 0).state ≡ 0 = grind (arith, nat_tests) in
              begins_it new is_first (boot_writes-parts es
              ∙ parts ((abort-none 0 (es 0)).1 other) ((abort-none 1 (es 1)).1 not_pending)
              (ap (λ f. begin f (given_up (es 1))) (given_up-same (es 0) other)
              ∙ ap (begin (es 0)) (given_up-same (es 1) not_pending)
              ∙ ap (begin_by (es 0) (es 1)) is_first ∙ begin_here q))
          | inr q ↦
              let old : (es 0).state ≢ 0 = grind (arith, nat_tests) in
              is_quiet (quiet_boot es other not_pending (λ y is. let same : 0 ≡ y = cc in
              subst (λ k. (sectors (es 0) (es 1) k).state ≢ 0) same old))
        ]
        | inr rest ↦ elim rest [
          | inl is_second ↦
              let fact = ((active-second (es 0) (es 1)).0 is_second).valid in
              is_quiet (quiet_boot es other not_pending (λ y is. let same : 1 ≡ y = cc in
              subst (λ k. (sectors (es 0) (es 1) k).state ≢ 0) same (not_new fact)))
          | inr none ↦ is_quiet (quiet_boot es other not_pending (λ y is. absurd cc))
        ]
      ]
]
  where
    parts : {a b c : List Rewrite} → abort 0 (es 0) ≡ a → abort 1 (es 1) ≡ b
        → begin (given_up (es 0)) (given_up (es 1)) ≡ c
        → aborts es ++ begin (given_up (es 0)) (given_up (es 1)) ≡ (a ++ b) ++ c
    parts p q r = rw (p, q, r) refl

    abort_here : ((es 0).state == 1) ≡ true → abort 0 (es 0) ≡ restated 4 0 (es 0) ∷ []
    abort_here p = rw p refl

    give_here : ((es 0).state == 1) ≡ true → given_up (es 0) ≡ with_state 4 (es 0)
    give_here p = rw p refl

    begin_here : ((es 0).state == 0) ≡ true → begin_in 0 (es 0) ≡ restated 1 0 (es 0) ∷ []
    begin_here p = rw p refl

-- the rewrites of a boot where the first entry keeps its application
writes_1 : (es : ℕ → Entry) → (es 0).state ≢ 1 → (IsValid (es 0) → (es 0).state ≢ 0)
    → RewritesOnly es 1
writes_1 es not_pending not_new = elim (cases_Bool ((es 1).state == 1)) [
  | inl p ↦
      let pending : (es 1).state ≡ 1 = grind (arith, nat_tests) in
      aborts_it pending (boot_writes-parts es
      ∙ parts ((abort-none 0 (es 0)).1 not_pending) (abort_here p)
      (ap (begin (given_up (es 0))) (give_here p)
      ∙ ap (λ f. begin f (with_state 4 (es 1))) (given_up-same (es 0) not_pending)
      ∙ quiet_begin (es 0)
      (with_state 4 (es 1)) not_new (λ fact. absurd (given_up_invalid (es 1) fact))))
  | inr p ↦
      let other : (es 1).state ≢ 1 = grind (arith, nat_tests) in
      elim (active_cases (es 0) (es 1)) [
        | inl is_first ↦
            let fact = ((active-first (es 0) (es 1)).0 is_first).valid in
            is_quiet (quiet_boot es not_pending other (λ y is. let same : 0 ≡ y = cc in
            subst (λ k. (sectors (es 0) (es 1) k).state ≢ 0) same (not_new fact)))
        | inr rest ↦ elim rest [
          | inl is_second ↦ elim (cases_Bool ((es 1).state == 0)) [
            | inl q ↦
                let new : (es 1).state ≡ 0 = grind (arith, nat_tests) in
                begins_it new is_second (boot_writes-parts es
                ∙ parts ((abort-none 0 (es 0)).1 not_pending) ((abort-none 1 (es 1)).1 other)
                (ap (λ f. begin f (given_up (es 1))) (given_up-same (es 0) not_pending)
                ∙ ap (begin (es 0)) (given_up-same (es 1) other)
                ∙ ap (begin_by (es 0) (es 1)) is_second ∙ begin_here q))
            | inr q ↦
                let old : (es 1).state ≢ 0 = grind (arith, nat_tests) in
                is_quiet (quiet_boot es not_pending other (λ y is. let same : 1 ≡ y = cc in
                subst (λ k. (sectors (es 0) (es 1) k).state ≢ 0) same old))
          ]
          | inr none ↦ is_quiet (quiet_boot es not_pending other (λ y is. absurd cc))
        ]
      ]
]
  where
    parts : {a b c : List Rewrite} → abort 0 (es 0) ≡ a → abort 1 (es 1) ≡ b
        → begin (given_up (es 0)) (given_up (es 1)) ≡ c
        → aborts es ++ begin (given_up (es 0)) (given_up (es 1)) ≡ (a ++ b) ++ c
    parts p q r = rw (p, q, r) refl

    abort_here : ((es 1).state == 1) ≡ true → abort 1 (es 1) ≡ restated 4 1 (es 1) ∷ []
    abort_here p = rw p refl

    give_here : ((es 1).state == 1) ≡ true → given_up (es 1) ≡ with_state 4 (es 1)
    give_here p = rw p refl

    begin_here : ((es 1).state == 0) ≡ true → begin_in 1 (es 1) ≡ restated 1 1 (es 1) ∷ []
    begin_here p = rw p refl

-- a boot of a pair rewrites nothing, or its entry alone
pub pair_writes : (layout : Places) (images : Images) (es : ℕ → Entry) (y : ℕ) (app : App)
    (image : List ℕ)
    (slot : ℕ) (target : List ℕ) → IsPair layout images es y app image slot target
    → RewritesOnly es y
pair_writes layout images es zero app image slot target pair =
    writes_0 es (keeps-not_pending layout app 0 (es 1) pair.keeps)
    (keeps-not_new layout app 0 (es 1) pair.keeps)
pair_writes layout images es (suc zero) app image slot target pair =
    writes_1 es (keeps-not_pending layout app 1 (es 0) pair.keeps)
    (keeps-not_new layout app 1 (es 0) pair.keeps)
pair_writes layout images es (suc (suc n)) app image slot target pair =
    let two = pair.two in absurd (omega arith)

-- ---- what settles

-- what is named once a boot has made its rewrites, by the votes of a sector and of the other one
names_at : (layout : Places) (es : ℕ → Entry) (y : ℕ) → y < 2
    → names layout (after_boot es) ≡ named_seq layout (pick (vote (es y)) (vote (es (other_of y))))
names_at layout es zero two = boot_names layout es
names_at layout es (suc zero) two = boot_names layout es
    ∙ ap (named_seq layout) (pick_swap (vote (es 0)) (vote (es 1)))
names_at layout es (suc (suc n)) two = absurd (omega arith)

-- a pair of which a boot rewrites nothing is settled
pub quiet_settles : (layout : Places) (images : Images) (es : ℕ → Entry) (y : ℕ) (app : App)
    (image : List ℕ)
    (slot : ℕ) (target : List ℕ) → IsPair layout images es y app image slot target
    → boot_writes es ≡ []
    → SettlesOneOf layout images es app image slot target
quiet_settles layout images es y app image slot target pair quiet =
    let v = pick (vote (es y)) (vote (es (other_of y))) in
    let named : names layout es ≡ named_seq layout v =
    sym (ap (λ ws. names layout (written ws es)) quiet) ∙ names_at layout es y pair.two in
    let booted = boots_at layout images es y pair.two in
    elim (pair_names layout images es y app image slot target pair) [
      | inl one ↦ inl (record {
        quiet = quiet;
        named = named ∙ one;
        booted = booted ∙ named_boots layout images v app image one pair.holds;
      })
      | inr two ↦ inr (record {
        quiet = quiet;
        named = named ∙ two.0;
        booted = booted ∙ named_boots layout images v (Ota slot) target two.0 two.1;
      })
    ]

-- a pair whose entry neither waits nor is new is settled
pub still_settles : (layout : Places) (images : Images) (es : ℕ → Entry) (y : ℕ) (app : App)
    (image : List ℕ)
    (slot : ℕ) (target : List ℕ) → IsPair layout images es y app image slot target
    → (es y).state ≢ 0 → (es y).state ≢ 1
    → SettlesOneOf layout images es app image slot target
still_settles layout images es y app image slot target pair not_new not_pending =
    at (pair_writes layout images es y app image slot target pair)
  where
    at : RewritesOnly es y → SettlesOneOf layout images es app image slot target
    at (is_quiet quiet) = quiet_settles layout images es y app image slot target pair quiet
    at (aborts_it is made) = absurd (not_pending is)
    at (begins_it is active made) = absurd (not_new is)

-- the active entry counts
active_valid : (es : ℕ → Entry) (y : ℕ) → y < 2 → active_of (es 0) (es 1) ≡ Some y → IsValid (es y)
active_valid es zero two is = ((active-first (es 0) (es 1)).0 is).valid
active_valid es (suc zero) two is = ((active-second (es 0) (es 1)).0 is).valid
active_valid es (suc (suc n)) two is = absurd (omega arith)

-- it is above the other one or as high, where that counts
active_above : (es : ℕ → Entry) (y : ℕ) → y < 2 → active_of (es 0) (es 1) ≡ Some y
    → IsValid (es (other_of y))
    → (es (other_of y)).seq ≤ (es y).seq
active_above es zero two is other = ((active-first (es 0) (es 1)).0 is).unexceeded other
active_above es (suc zero) two is other = let less = ((active-second (es 0)
    (es 1)).0 is).exceeds other in omega arith
active_above es (suc (suc n)) two is other = absurd (omega arith)

-- a pair whose entry is aborted
aborted_pair : (layout : Places) (images : Images) (es : ℕ → Entry) (y : ℕ) (app : App)
    (image : List ℕ)
    (slot : ℕ) (target : List ℕ) → IsPair layout images es y app image slot target
    → IsPair layout images (in_state 4 y es) y app image slot target
aborted_pair layout images es y app image slot target pair =
    with_entry layout images es (in_state 4 y es) y app image slot target pair (changed_there 4 y es pair.two)
    (aborted (ap (λ (e : Entry). e.state) (changed_here 4 y es)))

-- a pair whose entry counts and gets another state
valid_pair : (layout : Places) (images : Images) (es : ℕ → Entry) (y state : ℕ) (app : App)
    (image : List ℕ)
    (slot : ℕ) (target : List ℕ) → IsPair layout images es y app image slot target → IsValid (es y)
    → IsPair layout images (in_state state y es) y app image slot target
valid_pair layout images es y state app image slot target pair fact =
    with_entry layout images es (in_state state y es) y app image slot target pair (changed_there state y es pair.two)
    (same_harmless layout images app slot target (es (other_of y)) (es y)
    (in_state state y es y) pair.harmless fact.matches
    fact.not_rejected fact.not_given_up (ap (λ (e : Entry). e.seq) (changed_here state y es)))

-- a boot of a pair leaves that pair
pub boot_pair : (layout : Places) (images : Images) (es : ℕ → Entry) (y : ℕ) (app : App)
    (image : List ℕ)
    (slot : ℕ) (target : List ℕ) → IsPair layout images es y app image slot target
    → IsPair layout images (after_boot es) y app image slot target
boot_pair layout images es y app image slot target pair = at (pair_writes layout images es y app image slot target pair)
  where
    leaves : (ws : List Rewrite) → boot_writes es ≡ ws
        → IsPair layout images (written ws es) y app image slot target
        → IsPair layout images (after_boot es) y app image slot target
    leaves ws is left = subst (λ vs. IsPair layout images (written vs es) y app image slot target)
        (sym is) left

    at : RewritesOnly es y → IsPair layout images (after_boot es) y app image slot target
    at (is_quiet quiet) = leaves [] quiet pair
    at (aborts_it is made) =
        leaves (restated 4 y (es y) ∷ []) made (aborted_pair layout images es y app image slot target pair)
    at (begins_it is active made) =
        leaves (restated 1 y (es y) ∷ []) made
        (valid_pair layout images es y 1 app image slot target pair (active_valid es y pair.two active))

-- an entry in VALID or waiting counts as it did before
still_valid : (state : ℕ) (e : Entry) → IsValid e → state < 3 → IsValid (with_state state e)
still_valid state e fact small = record {
  matches = record { crc_fits = fact.matches.crc_fits; numbered = fact.matches.numbered; written = fact.matches.written };
  not_rejected = omega arith;
  not_given_up = omega arith;
}

-- the active entry stays the active one where its state changes among those that count
still_active : (es : ℕ → Entry) (y state : ℕ) → y < 2 → active_of (es 0) (es 1) ≡ Some y → state < 3
    → active_of (in_state state y es 0) (in_state state y es 1) ≡ Some y
still_active es zero state two is small =
    (active-first (with_state state (es 0)) (es 1)).1 (record {
      valid = still_valid state (es 0) (active_valid es 0 two is) small;
      unexceeded = active_above es 0 two is;
    })
still_active es (suc zero) state two is small =
    (active-second (es 0) (with_state state (es 1))).1 (record {
      valid = still_valid state (es 1) (active_valid es 1 two is) small;
      exceeds = λ other. ((active-second (es 0) (es 1)).0 is).exceeds other;
    })
still_active es (suc (suc n)) state two is small = absurd (omega arith)

-- one boot of a pair settles it, or leaves its entry active and waiting
pub boot_settles : (layout : Places) (images : Images) (es : ℕ → Entry) (y : ℕ) (app : App)
    (image : List ℕ)
    (slot : ℕ) (target : List ℕ) → IsPair layout images es y app image slot target
    → SettlesOneOf layout images (after_boot es) app image slot target
    ⊎ ((active_of (after_boot es 0) (after_boot es 1) ≡ Some y) × ((after_boot es y).state ≡ 1))
boot_settles layout images es y app image slot target pair = at (pair_writes layout images es y app image slot target pair)
  where
    at : RewritesOnly es y → SettlesOneOf layout images (after_boot es) app image slot target
        ⊎ ((active_of (after_boot es 0) (after_boot es 1) ≡ Some y) × ((after_boot es y).state ≡ 1))
    at (is_quiet quiet) = inl (subst (λ vs. SettlesOneOf layout images (written vs es) app image slot target) (sym quiet)
        (quiet_settles layout images es y app image slot target pair quiet))
    at (aborts_it is made) =
        let state : (in_state 4 y es y).state ≡ 4 = ap (λ (e : Entry). e.state)
        (changed_here 4 y es) in
        inl (subst (λ vs. SettlesOneOf layout images (written vs es) app image slot target)
        (sym made)
        (still_settles layout images (in_state 4 y es) y app image slot target
        (aborted_pair layout images es y app image slot target pair) (omega arith) (omega arith)))
    at (begins_it is active made) =
        inr (subst (λ vs. (active_of (written vs es 0) (written vs es 1) ≡ Some y)
        × ((written vs es y).state ≡ 1)) (sym made) (
          still_active es y 1 pair.two active (omega arith),
          ap (λ (e : Entry). e.state)
              (changed_here 1 y es),
        ))

-- a boot of a pair whose entry waits settles it
pub second_boot_settles : (layout : Places) (images : Images) (es : ℕ → Entry) (y : ℕ) (app : App)
    (image : List ℕ)
    (slot : ℕ) (target : List ℕ) → IsPair layout images es y app image slot target
    → (es y).state ≡ 1
    → SettlesOneOf layout images (after_boot es) app image slot target
second_boot_settles layout images es y app image slot target pair pending =
    elim (boot_settles layout images es y app image slot target pair) [
      | inl settled ↦ settled
      | inr waits ↦ absurd (at (pair_writes layout images es y app image slot target pair) waits.1)
    ]
  where
    at : RewritesOnly es y → (after_boot es y).state ≡ 1 → ⊥
    at (is_quiet quiet) waits = let fact = (boot_writes-none es).0 quiet in never y pair.two fact.first fact.second pending
      where
        never : (k : ℕ) → k < 2 → (es 0).state ≢ 1 → (es 1).state ≢ 1 → (es k).state ≡ 1 → ⊥
        never zero two first second is = first is
        never (suc zero) two first second is = second is
        never (suc (suc n)) two first second is = omega arith
    at (aborts_it is made) waits =
        let state : (after_boot es y).state ≡ 4 =
        ap (λ vs. (written vs es y).state) made
        ∙ ap (λ (e : Entry). e.state) (changed_here 4 y es) in
        omega arith
    at (begins_it is active made) waits = omega arith

-- a confirmation of the active entry of a pair settles it
pub confirm_settles : (layout : Places) (images : Images) (es : ℕ → Entry) (y : ℕ) (app : App)
    (image : List ℕ)
    (slot : ℕ) (target : List ℕ) → IsPair layout images es y app image slot target
    → active_of (es 0) (es 1) ≡ Some y
    → SettlesOneOf layout images (in_state 2 y es) app image slot target
confirm_settles layout images es y app image slot target pair active =
    let state : (in_state 2 y es y).state ≡ 2 = ap (λ (e : Entry). e.state) (changed_here 2 y es) in
    still_settles layout images (in_state 2 y es) y app image slot target
    (valid_pair layout images es y 2 app image slot target pair (active_valid es y pair.two active))
    (omega arith) (omega arith)

-- once the active entry is VALID, its application boots, where it has an image
pub confirmed_boots : (layout : Places) (images : Images) (es : ℕ → Entry) (y : ℕ) (image : List ℕ)
    → y < 2
    → active_of (es 0) (es 1) ≡ Some y → images (slot_app layout (es y)) ≡ Some image
    → boots layout images (in_state 2 y es) ≡ Some (slot_app layout (es y), image)
confirmed_boots layout images es y image two active holds =
    let fact = active_valid es y two active in
    let voted : vote (in_state 2 y es y) ≡ Some (es y).seq = ap vote (changed_here 2 y es)
    ∙ confirmed_vote (es y) fact.matches in
    let other : vote (in_state 2 y es (other_of y)) ≡ vote (es (other_of y)) = ap vote (changed_there 2 y es two) in
    let picked : pick (vote (in_state 2 y es y))
    (vote (in_state 2 y es (other_of y))) ≡ Some (es y).seq =
    ap (λ v. pick v (vote (in_state 2 y es (other_of y)))) voted ∙ ap (pick (Some (es y).seq)) other
    ∙ highest in
    boots_at layout images (in_state 2 y es) y two
    ∙ named_boots layout images _ (slot_app layout (es y)) image (ap (named_seq layout) picked) holds
  where
    highest : pick (Some (es y).seq) (vote (es (other_of y))) ≡ Some (es y).seq
    highest = elim (idle_cases (es (other_of y))) [
      | inl counts ↦
          let less = active_above es y two active counts in
          elim (vote_cases (es (other_of y))) [
            | inl none ↦ ap (pick (Some (es y).seq)) none
            | inr some ↦
                let is : max (es y).seq (es (other_of y)).seq ≡ (es y).seq = omega arith in
                ap (pick (Some (es y).seq)) some ∙ ap Some is
          ]
      | inr rest ↦ ap (pick (Some (es y).seq)) (invalid_vote (es (other_of y))
          (λ counts. elim rest [
            | inl lacks ↦ lacks counts.matches
            | inr states ↦ elim states [ inl is ↦ counts.not_rejected is | inr is ↦ counts.not_given_up is ]
          ]))
    ]
