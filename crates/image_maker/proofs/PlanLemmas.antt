-- The plan of a text makes whole images: its load addresses have 32 bits.
use Rattle.std.proofs.Common.{◌≡◌, ℕ, ◌+◌, ◌<◌, ◌≤◌, ◌^◌, List, [], ◌∷◌, ◌++◌, length, Option, Some, None, Result, Ok, Err, refl, sym, ap, subst, ◌∙◌, arith}
use Rattle.std.specs.Prelude.{Bool, true, false, ◌==◌, nat_le, codes, if◌then◌else◌}
use Rattle.std.proofs.lemmas.Bool.Decides.{nat_tests}
use Rattle.pipe_ends.specs.Number.{number_of_text, number_up_to, within}
use Rattle.pipe_ends.specs.Words.{begins, is_skipped, lines_of, word_in, words_of}
use Rattle.image_maker.specs.declared.refusal.MakeNo.{MakeNo}
use Rattle.image_maker.specs.declared.refusal.PlanNo.{PlanNo}
use Rattle.image_maker.specs.declared.refusal.PlanWhy.{PlanWhy}
use Rattle.image_maker.specs.declared.refusal.PlanWhy.TheVariants.{Word, Count, Number, TooMany, Name}
use Rattle.image_maker.specs.Plan.{Planned, PlannedPart}
use Rattle.image_maker.specs.PlanText.{Drafted, after_line, after_lines, after_setting, and_then, changed, entry_of, finished, flash_of, hash_of, is_name, need, nothing, part_in, plan_by, plan_of_text, plan_with}
use Rattle.image_maker.specs.Placing.{joined}
use Rattle.image_maker.specs.Refused.{make_fault}
use Rattle.image_maker.specs.Image.{IsMade, bytes_of, image_of, unless}
use Rattle.image_maker.proofs.WholeLemmas.{AreSmall, made_is}

-- each load address has 32 bits
abbrev AreLow : List PlannedPart → Type 0
AreLow [] = Unit {0}
AreLow (p ∷ ps) = (p.load < 2 ^ 32) × AreLow ps

-- also with one more
low_more : (parts : List PlannedPart) (part : PlannedPart) → AreLow parts → part.load < 2 ^ 32
    → AreLow (parts ++ part ∷ [])
low_more [] part low here = (here, tt)
low_more (p ∷ ps) part low here = (low.0, low_more ps part low.1 here)

-- and with files
low_joined : (parts : List PlannedPart) (files : List (List ℕ)) → AreLow parts → AreSmall (joined parts files)
low_joined [] files low = tt
low_joined (p ∷ ps) [] low = tt
low_joined (p ∷ ps) (f ∷ fs) low = (low.0, low_joined ps fs low.1)

-- a number that is at most so great
within_most : (most : ℕ) (value : Option ℕ) (n : ℕ) → within most value ≡ Some n → n ≤ most
within_most most None n is = absurd (cc)
within_most most (Some m) n is = by (nat_le m most) refl is
  where
    by : (fits : Bool) → nat_le m most ≡ fits → (if fits then Some m else None) ≡ Some n → n ≤ most
    by true fits is = let same : m ≡ n = cc in grind (arith, nat_tests, same, fits)
    by false fits is = absurd (cc)

-- the load address of a line has 32 bits
part_low : (words : List (List ℕ)) (count : ℕ) (part : PlannedPart) → part_in words count ≡ Ok part
    → part.load < 2 ^ 32
unfolding part_in
part_low words count part is =
    by (length words == 3) (number_up_to 0xFFFFFFFF (word_in 1 words))
    (within_most 0xFFFFFFFF (number_of_text (word_in 1 words))) (nat_le 64 count) (is_name (word_in 2 words)) is
  where
    by : (three : Bool) (load : Option ℕ) → ((n : ℕ) → load ≡ Some n → n ≤ 0xFFFFFFFF) → (full named : Bool)
        → (if three then need load Number (λ load. if full then Err TooMany
        else (if named then Ok (record { load = load; name = word_in 2 words }) else Err Name)) else Err Count) ≡ Ok part
        → part.load < 2 ^ 32
    by false load small full named is = absurd (cc)
    by true None small full named is = absurd (cc)
    by true (Some n) small true named is = absurd (cc)
    by true (Some n) small false false is = absurd (cc)
    by true (Some n) small false true is =
        let same : record { load = n; name = word_in 2 words } ≡ part = cc in
        let load_is : n ≡ part.load = ap (λ (p : PlannedPart). p.load) same in
        let most : n ≤ 0xFFFFFFFF = small n refl in
        omega (arith, load_is, most)

-- a change that keeps the parts
keeps : {A : Type 0} (change : A → Drafted) (parts : List PlannedPart) (value : Result A PlanWhy) (next : Drafted)
    → ((x : A) → (change x).parts ≡ parts) → changed change value ≡ Ok next → next.parts ≡ parts
keeps change parts (Ok x) next same is =
    let here : change x ≡ next = cc in ap (λ (d : Drafted). d.parts) (sym here) ∙ same x
keeps change parts (Err why) next same is = absurd (cc)

-- a line of another kind than a segment keeps the parts
setting_keeps : (draft : Drafted) (words : List (List ℕ)) (next : Drafted) → after_setting draft words ≡ Ok next
    → next.parts ≡ draft.parts
unfolding after_setting
setting_keeps draft words next is =
    by (begins words (codes "entry")) (begins words (codes "flash")) (begins words (codes "hash")) is
  where
    by : (entry flash hash : Bool)
        → (if entry then changed (λ n. record draft { entry = Some n }) (entry_of words draft.entry)
        else (if flash then changed (λ f. record draft { flash = Some f }) (flash_of words draft.flash)
        else (if hash then changed (λ h. record draft { hash = Some h }) (hash_of words draft.hash)
        else Err Word))) ≡ Ok next → next.parts ≡ draft.parts
    by true flash hash is = keeps _ draft.parts (entry_of words draft.entry) next (λ x. refl) is
    by false true hash is = keeps _ draft.parts (flash_of words draft.flash) next (λ x. refl) is
    by false false true is = keeps _ draft.parts (hash_of words draft.hash) next (λ x. refl) is
    by false false false is = absurd (cc)

-- a line leaves load addresses of 32 bits
line_low : (draft next : Drafted) (words : List (List ℕ)) → after_line draft words ≡ Ok next → AreLow draft.parts
    → AreLow next.parts
unfolding after_line
line_low draft next words is low =
    by (is_skipped words) (begins words (codes "segment")) (part_in words (length draft.parts))
    (part_low words (length draft.parts)) (after_setting draft words) (setting_keeps draft words) is
  where
    by : (skipped segment : Bool) (part : Result PlannedPart PlanWhy)
        → ((p : PlannedPart) → part ≡ Ok p → p.load < 2 ^ 32) → (set : Result Drafted PlanWhy)
        → ((d : Drafted) → set ≡ Ok d → d.parts ≡ draft.parts)
        → (if skipped then Ok draft else (if segment
        then changed (λ part. record draft { parts = draft.parts ++ part ∷ [] }) part else set)) ≡ Ok next
        → AreLow next.parts
    by true segment part small set same is =
        let here : draft ≡ next = cc in subst (λ (d : Drafted). AreLow d.parts) here low
    by false true (Ok p) small set same is =
        let here : record draft { parts = draft.parts ++ p ∷ [] } ≡ next = cc in
        subst (λ (d : Drafted). AreLow d.parts) here (low_more draft.parts p low (small p refl))
    by false true (Err why) small set same is = absurd (cc)
    by false false part small set same is = subst AreLow (sym (same next is)) low

-- so do all lines
lines_low : (number : ℕ) (draft last : Drafted) (lines : List (List ℕ)) → after_lines number draft lines ≡ Ok last
    → AreLow draft.parts → AreLow last.parts
lines_low number draft last [] is low =
    let here : draft ≡ last = cc in subst (λ (d : Drafted). AreLow d.parts) here low
lines_low number draft last (line ∷ lines) is low =
    by (after_line draft (words_of line)) (λ next e. line_low draft next (words_of line) e low)
    (λ next e. lines_low (number + 1) next last lines e) is
  where
    by : (one : Result Drafted PlanWhy) → ((next : Drafted) → one ≡ Ok next → AreLow next.parts)
        → ((next : Drafted) → after_lines (number + 1) next lines ≡ Ok last → AreLow next.parts → AreLow last.parts)
        → and_then number one (λ next. after_lines (number + 1) next lines) ≡ Ok last → AreLow last.parts
    by (Ok next) here rest is = rest next is (here next refl)
    by (Err why) here rest is = absurd (cc)

-- the plan of a text has load addresses of 32 bits
plan_low : (text : List ℕ) (plan : Planned) → plan_of_text text ≡ Ok plan → AreLow plan.parts
unfolding plan_of_text
plan_low text plan is =
    by (after_lines 1 nothing (lines_of text)) (λ last e. lines_low 1 nothing last (lines_of text) e tt) is
  where
    by_entry : (draft : Drafted) (entry : Option ℕ) → AreLow draft.parts
        → plan_by (length (lines_of text)) draft entry ≡ Ok plan → AreLow plan.parts
    by_entry draft None low is = absurd (cc)
    by_entry draft (Some entry) low is =
        let here : plan_with draft entry ≡ plan = cc in subst (λ (p : Planned). AreLow p.parts) here low

    by : (whole : Result Drafted PlanNo) → ((last : Drafted) → whole ≡ Ok last → AreLow last.parts)
        → finished (length (lines_of text)) whole ≡ Ok plan → AreLow plan.parts
    by (Ok draft) low is = by_entry draft draft.entry (low draft refl) is
    by (Err why) low is = absurd (cc)

-- what the plan of a text and files make is a whole image with the plan's segments
pub made_of_text : (text : List ℕ) (plan : Planned) (files : List (List ℕ)) (image : List ℕ)
    → plan_of_text text ≡ Ok plan → image_of plan files ≡ Ok image → IsMade plan files image
unfolding image_of
made_of_text text plan files image meant made =
    by (make_fault plan.hash (joined plan.parts files)) refl made
  where
    by : (fault : Option MakeNo) → make_fault plan.hash (joined plan.parts files) ≡ fault
        → unless fault (bytes_of plan (joined plan.parts files)) ≡ Ok image → IsMade plan files image
    by None none is =
        let here : bytes_of plan (joined plan.parts files) ≡ image = cc in
        subst (IsMade plan files) here
        (made_is plan files (low_joined plan.parts files (plan_low text plan meant)) none)
    by (Some why) none is = absurd (cc)
