-- Where some application has an image, some application boots; and a pair boots one of its two.
use Rattle.std.proofs.Common.{◌≡◌, ◌≢◌, ◌⊎◌, inl, inr, ℕ, ◌≤◌, max, List, length, Option, Some, None, refl, sym, ap, ◌∙◌, arith}
use Rattle.std.proofs.lemmas.Bool.{cases_lt}
use Rattle.otadata.specs.declared.entry.Entry.{Entry}
use Rattle.otadata.specs.Choice.{IsValid, slot_named}
use Rattle.partition_table.specs.declared.app.App.{App}
use Rattle.partition_table.specs.declared.app.App.TheVariants.{Ota, Factory, Test}
use Rattle.partition_table.specs.Layout.{Places, row_for}
use Rattle.boot_select.specs.Candidates.{candidates}
use Rattle.boot_select.specs.Boots.{AreOf, Images, first_held, names}
use Rattle.boot_select.proofs.StartLemmas.{all_tried, first_holds, front_held, some_held}
use Rattle.rollback.specs.Boots.{after_boot, boots}
use Rattle.rollback.specs.Pair.{BootsOneOf, IsHarmless, IsPair, Keeps, below, aborted, names_running, names_target, other_of, rejected, unmatched}
use Rattle.rollback.proofs.VoteLemmas.{named_seq, pick, vote}
use Rattle.rollback.proofs.ChanceLemmas.{boots_at, invalid_vote, unmatched_vote, valid_vote, vote_cases}

-- ---- some application boots

-- where an application of the layout has an image, some application boots, whatever the entries say
pub some_boots : (layout : Places) (images : Images) (entries : ℕ → Entry) (app : App)
    → row_for layout app ≢ None → images app ≢ None → boots layout images entries ≢ None
unfolding boots
some_boots layout images entries app placed held =
    let start = names layout (after_boot entries) in
    some_held images (candidates layout start) app (all_tried layout start app placed) held

-- what boots is what its application holds
pub boots_holds : (layout : Places) (images : Images) (entries : ℕ → Entry) (app : App)
    (image : List ℕ)
    → boots layout images entries ≡ Some (app, image) → images app ≡ Some image
unfolding boots
boots_holds layout images entries app image is =
    first_holds images (candidates layout (names layout (after_boot entries))) app image is

-- where some application boots, some application boots by any entries
pub still_boots : (layout : Places) (images : Images) (es gs : ℕ → Entry) → AreOf layout images
    → boots layout images es ≢ None → boots layout images gs ≢ None
still_boots layout images es gs of some = at (boots layout images es) refl
  where
    at : (booted : Option (App × List ℕ)) → boots layout images es ≡ booted
        → boots layout images gs ≢ None
    at None is = absurd (some is)
    at (Some booted) is =
        let held : images booted.0 ≡ Some booted.1 = boots_holds layout images es booted.0 booted.1 is in
        some_boots layout images gs booted.0 (λ none. absurd (let lacks = of booted.0 none in cc))
        (λ lacks. absurd cc)

-- ---- one of two boots

-- the application that a vote names boots where it has an image
pub named_boots : (layout : Places) (images : Images) (v : Option ℕ) (app : App) (image : List ℕ)
    → named_seq layout v ≡ app → images app ≡ Some image
    → first_held images (candidates layout (named_seq layout v)) ≡ Some (app, image)
named_boots layout images v app image is held =
    ap (λ a. first_held images (candidates layout a)) is
    ∙ front_held layout images app image (other v is) held
  where
    other : (v : Option ℕ) → named_seq layout v ≡ app → app ≢ Test
    other None is = λ test. absurd cc
    other (Some seq) is = λ test. absurd cc

-- the greater one of two votes is one of them
pub pick_one : (seq : ℕ) (v : Option ℕ) → (pick (Some seq) v ≡ Some seq) ⊎ (pick (Some seq) v ≡ v)
pick_one seq None = inl refl
pick_one seq (Some other) = elim (cases_lt seq other) [
  | inl less ↦ inr (let is : max seq other ≡ other = omega arith in ap Some is)
  | inr more ↦ inl (let is : max seq other ≡ seq = omega arith in ap Some is)
]

-- it is the other one, where that is not below
pub pick_other : (seq other : ℕ) → seq ≤ other → pick (Some seq) (Some other) ≡ Some other
pick_other seq other less = let is : max seq other ≡ other = omega arith in ap Some is

-- the other entry names the application
pub other_names : (layout : Places) (app : App) (sector : ℕ) (e : Entry) → Keeps layout app sector e
    → named_seq layout (vote e) ≡ app
other_names layout (Ota slot) sector e keeps =
    ap (named_seq layout) (valid_vote e keeps.valid keeps.not_pending) ∙ ap Ota keeps.names
other_names layout Factory sector e keeps = ap (named_seq layout) (invalid_vote e keeps.invalid)
other_names layout Test sector e keeps = absurd keeps

-- it waits for no application to confirm itself
pub keeps-not_pending : (layout : Places) (app : App) (sector : ℕ) (e : Entry)
    → Keeps layout app sector e → e.state ≢ 1
keeps-not_pending layout (Ota slot) sector e keeps = keeps.not_pending
keeps-not_pending layout Factory sector e keeps = keeps.not_pending
keeps-not_pending layout Test sector e keeps = absurd keeps

-- where it counts, it is not new
pub keeps-not_new : (layout : Places) (app : App) (sector : ℕ) (e : Entry)
    → Keeps layout app sector e → IsValid e → e.state ≢ 0
keeps-not_new layout (Ota slot) sector e keeps fact = keeps.not_new
keeps-not_new layout Factory sector e keeps fact = absurd (keeps.invalid fact)
keeps-not_new layout Test sector e keeps fact = absurd keeps

-- the entries of a pair name the application, or the target slot, which holds the image
pub pair_names : (layout : Places) (images : Images) (es : ℕ → Entry) (y : ℕ) (app : App)
    (image : List ℕ)
    (slot : ℕ) (target : List ℕ) → IsPair layout images es y app image slot target
    → (named_seq layout (pick (vote (es y)) (vote (es (other_of y)))) ≡ app)
    ⊎ ((named_seq layout (pick (vote (es y)) (vote (es (other_of y)))) ≡ Ota slot)
    × (images (Ota slot) ≡ Some target))
pair_names layout images es y app image slot target pair = at (vote_cases (es y)) pair.harmless
  where
    names : named_seq layout (vote (es (other_of y))) ≡ app
    names = other_names layout app y (es (other_of y)) pair.keeps

    without : vote (es y) ≡ None → named_seq layout (pick (vote (es y))
        (vote (es (other_of y)))) ≡ app
    without none = ap (λ v. named_seq layout (pick v (vote (es (other_of y))))) none
        ∙ at_other (vote (es (other_of y))) names
      where
        at_other : (v : Option ℕ) → named_seq layout v ≡ app → named_seq layout (pick None v) ≡ app
        at_other None is = is
        at_other (Some seq) is = is

    either : (a : App) → vote (es y) ≡ Some (es y).seq
        → Ota (slot_named (es y).seq (length layout.slots)) ≡ a
        → (named_seq layout (pick (vote (es y)) (vote (es (other_of y)))) ≡ app)
        ⊎ (named_seq layout (pick (vote (es y)) (vote (es (other_of y)))) ≡ a)
    either a some is = elim (pick_one (es y).seq (vote (es (other_of y)))) [
      | inl one ↦ inr (ap (λ v. named_seq layout (pick v (vote (es (other_of y))))) some
          ∙ ap (named_seq layout) one ∙ is)
      | inr two ↦ inl (ap (λ v. named_seq layout (pick v (vote (es (other_of y))))) some
          ∙ ap (named_seq layout) two ∙ names)
    ]

    at : (vote (es y) ≡ None) ⊎ (vote (es y) ≡ Some (es y).seq)
        → IsHarmless layout images app slot target (es (other_of y)) (es y)
        → (named_seq layout (pick (vote (es y)) (vote (es (other_of y)))) ≡ app)
        ⊎ ((named_seq layout (pick (vote (es y)) (vote (es (other_of y)))) ≡ Ota slot)
        × (images (Ota slot) ≡ Some target))
    at (inl none) harmless = inl (without none)
    at (inr some) (unmatched lacks) = inl (without (unmatched_vote (es y) lacks))
    at (inr some) (rejected is) = inl (without (invalid_vote (es y) (λ fact. fact.not_rejected is)))
    at (inr some) (aborted is) = inl (without (invalid_vote (es y) (λ fact. fact.not_given_up is)))
    at (inr some) (below fact less) =
        let voted = valid_vote (es (other_of y)) fact (keeps-not_pending layout app y (es (other_of y)) pair.keeps) in
        inl (ap (λ v. named_seq layout (pick v (vote (es (other_of y))))) some
        ∙ ap (λ v. named_seq layout (pick (Some (es y).seq) v)) voted
        ∙ ap (named_seq layout) (pick_other (es y).seq (es (other_of y)).seq less)
        ∙ ap (named_seq layout) (sym voted) ∙ names)
    at (inr some)
        (names_running is) = elim (either app some (sym is)) [ inl one ↦ inl one | inr two ↦ inl two ]
    at (inr some) (names_target is holds) = elim (either (Ota slot) some (ap Ota is)) [
      | inl one ↦ inl one
      | inr two ↦ inr (two, holds)
    ]

-- a pair boots one of its two
pub pair_boots : (layout : Places) (images : Images) (es : ℕ → Entry) (y : ℕ) (app : App)
    (image : List ℕ)
    (slot : ℕ) (target : List ℕ) → IsPair layout images es y app image slot target
    → BootsOneOf app image slot target (boots layout images es)
pair_boots layout images es y app image slot target pair =
    let v = pick (vote (es y)) (vote (es (other_of y))) in
    let is = boots_at layout images es y pair.two in
    elim (pair_names layout images es y app image slot target pair) [
      | inl one ↦ inl (is ∙ named_boots layout images v app image one pair.holds)
      | inr two ↦ inr (is ∙ named_boots layout images v (Ota slot) target two.0 two.1)
    ]
