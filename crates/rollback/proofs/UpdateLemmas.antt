-- What an update leaves: the old application boots until its entry is written, the new one once it is,
-- and between them a pair or a chance match.
use Rattle.std.proofs.Common.{◌==◌, ◌≡◌, ◌≢◌, ◌⊎◌, inl, inr, ℕ, ◌<◌, ◌≤◌, max, true, false, List, length, Option, Some, None, refl, sym, ap, ◌∙◌, subst, arith}
use Rattle.std.proofs.lemmas.Bool.{cases_Bool}
use Rattle.std.proofs.lemmas.Bool.Decides.{nat_tests}
use Rattle.otadata.specs.declared.entry.Entry.{Entry}
use Rattle.otadata.specs.Choice.{IsValid, Matches, active_of, matches, slot_named}
use Rattle.otadata.specs.Next.{active_seq, next_sector, seq_at}
use Rattle.otadata.proofs.ChoiceLemmas.{active-first, active-none, active-second, active_cases, matches_or_not, matching}
use Rattle.partition_table.specs.declared.app.App.{App}
use Rattle.partition_table.specs.declared.app.App.TheVariants.{Ota, Factory}
use Rattle.partition_table.specs.Layout.{Places}
use Rattle.boot_select.specs.Choice.{named_by, named_of, slot_app}
use Rattle.boot_select.specs.Settled.{is_same, sectors}
use Rattle.boot_select.specs.Target.{Heralds, IsNotBelow, is_above, target_by, target_of}
use Rattle.boot_select.specs.Boots.{Images, names}
use Rattle.boot_select.proofs.SettledLemmas.{is_same-true}
use Rattle.rollback.specs.Rewrite.{written}
use Rattle.rollback.specs.Boots.{IsChance, IsSettled, boots}
use Rattle.rollback.specs.Pair.{IsHarmless, IsPair, Keeps, below, aborted, names_running, names_target, other_of, rejected, unmatched}
use Rattle.rollback.proofs.BootLemmas.{boot_writes-none}
use Rattle.rollback.proofs.VoteLemmas.{boot_names, named_seq, pick, vote}
use Rattle.rollback.proofs.ChanceLemmas.{boots_at, chance_or, invalid_vote, same_votes, valid_vote, vote_cases}
use Rattle.rollback.proofs.PairLemmas.{named_boots}

-- the entry of the sector that an update writes next is not the active one: it does not count, or the
-- other one does and is not below
record Idle (old other : Entry) : Type 0 where
  is_below : IsValid old → IsValid other × (old.seq ≤ other.seq)

-- what a settled flash says of the sector that an update writes next
record Begins (layout : Places) (es : ℕ → Entry) (app : App) (y : ℕ) : Type 0 where
  two : y < 2
  keeps : Keeps layout app y (es (other_of y))
  idle : Idle (es y) (es (other_of y))
  -- the active entry is that of the other sector, if one is active
  active : ((active_seq (es 0) (es 1) ≡ None) × (¬ IsValid (es (other_of y))))
      ⊎ ((active_seq (es 0) (es 1) ≡ Some (es (other_of y)).seq) × IsValid (es (other_of y)))
  here : sectors (es 0) (es 1) (next_sector (active_of (es 0) (es 1))) ≡ es y

-- the application that is named, by which entry is active
named_at : (layout : Places) (es : ℕ → Entry) (active : Option ℕ) → active_of (es 0) (es 1) ≡ active
    → names layout es ≡ named_by layout (es 0) (es 1) active
unfolding named_of
named_at layout es active is = ap (named_by layout (es 0) (es 1)) is

begins : (layout : Places) (images : Images) (es : ℕ → Entry) (app : App) (image : List ℕ)
    → IsSettled layout images es app image → Begins layout es app (next_sector (active_of (es 0)
    (es 1)))
begins layout images es app image settled =
    let quiet = (boot_writes-none es).0 settled.quiet in
    elim (active_cases (es 0) (es 1)) [
      | inl first ↦
          let fact = (active-first (es 0) (es 1)).0 first in
          let named : slot_app layout (es 0) ≡ app = sym (named_at layout es (Some 0) first)
          ∙ settled.named in
          subst (λ active. Begins layout es app (next_sector active)) (sym first) (record {
            two = omega arith;
            keeps = subst (λ a. Keeps layout a 1 (es 0)) named (record {
              valid = fact.valid;
              names = refl;
              not_new = quiet.active 0 first;
              not_pending = quiet.first;
            });
            idle = record { is_below = λ old. (fact.valid, fact.unexceeded old) };
            active = inr (ap (seq_at (es 0) (es 1)) first, fact.valid);
            here = ap (λ active. sectors (es 0) (es 1) (next_sector active)) first;
          })
      | inr rest ↦ elim rest [
        | inl second ↦
            let fact = (active-second (es 0) (es 1)).0 second in
            let named : slot_app layout (es 1) ≡ app = sym (named_at layout es (Some 1) second)
            ∙ settled.named in
            subst (λ active. Begins layout es app (next_sector active)) (sym second) (record {
              two = omega arith;
              keeps = subst (λ a. Keeps layout a 0 (es 1)) named (record {
                valid = fact.valid;
                names = refl;
                not_new = quiet.active 1 second;
                not_pending = quiet.second;
              });
              idle = record { is_below = λ old. (fact.valid, let less = fact.exceeds old in omega arith) };
              active = inr (ap (seq_at (es 0) (es 1)) second, fact.valid);
              here = ap (λ active. sectors (es 0) (es 1) (next_sector active)) second;
            })
        | inr none ↦
            let fact = (active-none (es 0) (es 1)).0 none in
            let named : Factory ≡ app = sym (named_at layout es None none) ∙ settled.named in
            subst (λ active. Begins layout es app (next_sector active)) (sym none) (record {
              two = omega arith;
              keeps = subst (λ a. Keeps layout a 0 (es 1)) named (record {
                invalid = fact.second_invalid;
                not_pending = quiet.second;
                first = refl;
              });
              idle = record { is_below = λ old. absurd (fact.first_invalid old) };
              active = inl (ap (seq_at (es 0) (es 1)) none, fact.second_invalid);
              here = ap (λ active. sectors (es 0) (es 1) (next_sector active)) none;
            })
      ]
    ]

-- an entry that counts, or does not match, or is INVALID or ABORTED
pub idle_cases : (e : Entry) → IsValid e ⊎ (¬ Matches e) ⊎ (e.state ≡ 3) ⊎ (e.state ≡ 4)
idle_cases e = elim (matches_or_not e) [
  | inr lacks ↦ inr (inl lacks)
  | inl fits ↦ elim (cases_Bool (e.state == 3)) [
    | inl p ↦ inr (inr (inl (grind (arith, nat_tests))))
    | inr p ↦ elim (cases_Bool (e.state == 4)) [
      | inl q ↦ inr (inr (inr (grind (arith, nat_tests))))
      | inr q ↦ inl (record {
        matches = fits;
        not_rejected = grind (arith, nat_tests);
        not_given_up = grind (arith, nat_tests);
      })
    ]
  ]
]

-- an entry that is not the active one makes nothing else boot
idle_harmless : (layout : Places) (images : Images) (app : App) (slot : ℕ) (target : List ℕ)
    (other old : Entry)
    → Idle old other → IsHarmless layout images app slot target other old
idle_harmless layout images app slot target other old idle = elim (idle_cases old) [
  | inl fact ↦ below (idle.is_below fact).0 (idle.is_below fact).1
  | inr rest ↦ elim rest [
    | inl lacks ↦ unmatched lacks
    | inr states ↦ elim states [ inl is ↦ rejected is | inr is ↦ aborted is ]
  ]
]

-- the start of an update is a pair, whatever the target slot holds
pub start_pair : (layout : Places) (images g : Images) (es : ℕ → Entry) (app : App) (image : List ℕ)
    (y slot : ℕ) (new : Entry) (target : List ℕ) → IsSettled layout images es app image
    → Heralds layout es app y slot new
    → app ≢ Ota slot → g app ≡ Some image → IsPair layout g es y app image slot target
start_pair layout images g es app image y slot new target settled heralds apart holds =
    let start = subst (Begins layout es app) (sym heralds.sector_is)
    (begins layout images es app image settled) in
    record {
      two = start.two;
      holds = holds;
      apart = apart;
      keeps = start.keeps;
      harmless = idle_harmless layout g app slot target (es (other_of y)) (es y) start.idle;
    }

-- the application that is settled boots, where its slot still holds its image, as long as the entries are the same
pub data_boots : (layout : Places) (images g : Images) (es gs : ℕ → Entry) (app : App)
    (image : List ℕ)
    → IsSettled layout images es app image → gs 0 ≡ es 0 → gs 1 ≡ es 1 → g app ≡ Some image
    → boots layout g gs ≡ Some (app, image)
data_boots layout images g es gs app image settled first second holds =
    let v = pick (vote (es 0)) (vote (es 1)) in
    let named : named_seq layout v ≡ app =
    sym (boot_names layout es) ∙ ap (λ ws. names layout (written ws es)) settled.quiet
    ∙ settled.named in
    same_votes layout g es gs 0 (omega arith) (ap vote first) (ap vote second)
    ∙ boots_at layout g es 0 (omega arith) ∙ named_boots layout g v app image named holds

-- the target of an update whose sector may give an entry back that is above the active one: it is the slot that this
-- entry names, or the entry names what runs
revived : (slots : ℕ) (old : Entry) (active : Option ℕ) (app : App) (slot : ℕ)
    → slot ≡ target_by slots old active app
    → Matches old → is_above old.seq active ≡ true
    → (app ≡ Ota (slot_named old.seq slots)) ⊎ (slot_named old.seq slots ≡ slot)
revived slots old active app slot is fits above = at (cases_Bool (is_same (Ota (slot_named old.seq slots)) app))
  where
    told : matches old ≡ true
    told = let fact = (matching old).1 fits in grind (arith, nat_tests)

    at : (is_same (Ota (slot_named old.seq slots)) app ≡ true)
        ⊎ (is_same (Ota (slot_named old.seq slots)) app ≡ false)
        → (app ≡ Ota (slot_named old.seq slots)) ⊎ (slot_named old.seq slots ≡ slot)
    at (inl p) = inl (sym ((is_same-true (Ota (slot_named old.seq slots)) app).0 p))
    at (inr p) =
        let open_rule : target_by slots old active app ≡ slot_named old.seq slots = rw (told, above, p) refl in
        inr (sym (is ∙ open_rule))

-- the target, by the entry that the update replaces
opened : (layout : Places) (es : ℕ → Entry) (app : App) (slot : ℕ)
    → slot ≡ target_of layout (es 0) (es 1) app
    → slot ≡ target_by (length layout.slots) (sectors (es 0) (es 1) (next_sector (active_of (es 0)
    (es 1))))
    (active_seq (es 0) (es 1)) app
unfolding target_of
opened layout es app slot is = is

-- an entry of the sequence of the old one, which matches, makes nothing else boot, where the target slot holds the image
old_harmless : (layout : Places) (g : Images) (es : ℕ → Entry) (app : App) (y slot : ℕ)
    (new found : Entry)
    (target : List ℕ) → Begins layout es app y → Heralds layout es app y slot new
    → g (Ota slot) ≡ Some target
    → Matches (es y) → found.seq ≡ (es y).seq
    → IsHarmless layout g app slot target (es (other_of y)) found
old_harmless layout g es app y slot new found target start heralds holds fits same =
    elim (cases_Bool (is_above (es y).seq (active_seq (es 0) (es 1)))) [
      | inl p ↦
          let old : sectors (es 0) (es 1) (next_sector (active_of (es 0)
          (es 1))) ≡ es y = start.here in
          let rule : slot ≡ target_by (length layout.slots) (es y) (active_seq (es 0) (es 1)) app =
          opened layout es app slot heralds.target
          ∙ ap (λ e. target_by (length layout.slots) e (active_seq (es 0) (es 1)) app) old in
          elim (revived (length layout.slots) (es y) (active_seq (es 0)
          (es 1)) app slot rule fits p) [
            | inl running ↦
                names_running (running ∙ ap (λ seq. Ota (slot_named seq (length layout.slots)))
                (sym same))
            | inr names ↦ names_target (ap (λ seq. slot_named seq (length layout.slots)) same
                ∙ names) holds
          ]
      | inr p ↦ elim start.active [
        | inl none ↦
            let above : is_above (es y).seq (active_seq (es 0)
            (es 1)) ≡ true = ap (is_above (es y).seq) none.0 in
            absurd cc
        | inr some ↦
            let not_above : is_above (es y).seq (Some (es (other_of y)).seq) ≡ false =
            sym (ap (is_above (es y).seq) some.0) ∙ p in
            let less : (es y).seq ≤ (es (other_of y)).seq = grind (arith, nat_tests) in
            below some.1 (subst (λ seq. seq ≤ (es (other_of y)).seq) (sym same) less)
      ]
    ]

-- behind the data of an update: whatever is found in the sector of the new entry, it is a pair, or what is found matches
-- by chance
pub behind_pair : (layout : Places) (images g : Images) (es gs : ℕ → Entry) (app : App)
    (image : List ℕ)
    (y slot : ℕ) (new : Entry) (target : List ℕ) → IsSettled layout images es app image
    → Heralds layout es app y slot new
    → app ≢ Ota slot → g app ≡ Some image → g (Ota slot) ≡ Some target
    → gs (other_of y) ≡ es (other_of y)
    → IsChance (es y) new (gs y) ⊎ IsPair layout g gs y app image slot target
behind_pair layout images g es gs app image y slot new target settled heralds apart holds stored other =
    let start = subst (Begins layout es app) (sym heralds.sector_is)
    (begins layout images es app image settled) in
    let pair : IsHarmless layout g app slot target (es (other_of y)) (gs y)
    → IsPair layout g gs y app image slot target =
    λ harmless. record {
      two = start.two;
      holds = holds;
      apart = apart;
      keeps = subst (Keeps layout app y) (sym other) start.keeps;
      harmless = subst (λ e. IsHarmless layout g app slot target e (gs y)) (sym other) harmless;
    } in
    elim (chance_or (es y) new (gs y)) [
      | inl chance ↦ inl chance
      | inr rest ↦ elim rest [
        | inl lacks ↦ inr (pair (unmatched lacks))
        | inr fits ↦ elim fits [
          | inl old ↦ inr (pair (old_harmless layout g es app y slot new (gs y) target start heralds stored old.0 old.1))
          | inr is ↦ inr (pair (names_target (ap (λ seq. slot_named seq (length layout.slots)) is.1
              ∙ heralds.names) stored))
        ]
      ]
    ]

-- once the new entry is written, the new application boots
pub new_boots : (layout : Places) (images g : Images) (es gs : ℕ → Entry) (app : App)
    (image : List ℕ)
    (y slot : ℕ) (new : Entry) (target : List ℕ) → IsSettled layout images es app image
    → Heralds layout es app y slot new
    → g (Ota slot) ≡ Some target → gs y ≡ new → gs (other_of y) ≡ es (other_of y)
    → boots layout g gs ≡ Some (Ota slot, target)
new_boots layout images g es gs app image y slot new target settled heralds stored here other =
    let start = subst (Begins layout es app) (sym heralds.sector_is)
    (begins layout images es app image settled) in
    let is_new : new.state ≡ 0 = heralds.new in
    let fact : IsValid new = record { matches = heralds.matches; not_rejected = omega arith; not_given_up = omega arith } in
    let voted : vote (gs y) ≡ Some new.seq = ap vote here ∙ valid_vote new fact (omega arith) in
    let picked : pick (Some new.seq) (vote (gs (other_of y))) ≡ Some new.seq =
    ap (λ e. pick (Some new.seq) (vote e)) other ∙ greater start in
    let named : named_seq layout (pick (vote (gs y)) (vote (gs (other_of y)))) ≡ Ota slot =
    ap (λ v. named_seq layout (pick v (vote (gs (other_of y))))) voted
    ∙ ap (named_seq layout) picked ∙ ap Ota heralds.names in
    boots_at layout g gs y start.two ∙ named_boots layout g _ (Ota slot) target named stored
  where
    highest : (v : Option ℕ) → (v ≡ None) ⊎ (v ≡ Some (es (other_of y)).seq)
        → (es (other_of y)).seq ≤ new.seq
        → pick (Some new.seq) v ≡ Some new.seq
    highest v (inl none) less = ap (pick (Some new.seq)) none
    highest v (inr some) less =
        let is : max new.seq (es (other_of y)).seq ≡ new.seq = omega arith in
        ap (pick (Some new.seq)) some ∙ ap Some is

    greater : Begins layout es app y → pick (Some new.seq) (vote (es (other_of y))) ≡ Some new.seq
    greater start = elim start.active [
      | inl none ↦ ap (pick (Some new.seq)) (invalid_vote (es (other_of y)) none.1)
      | inr some ↦
          let less : (es (other_of y)).seq ≤ new.seq = subst (IsNotBelow new.seq) some.0 heralds.not_below in
          highest (vote (es (other_of y))) (vote_cases (es (other_of y))) less
    ]
