-- A plan is read from its lines, each by itself.
use Rattle.std.proofs.Common.{◌≡◌, ◌≤◌, ◌<◌, ℕ, ◌+◌, Bool, true, false, List, [], ◌∷◌, ◌++◌, length, length-append, append_assoc, Option, Some, None, Result, Ok, Err, refl, sym, ap, subst, ◌∙◌, arith}
use Rattle.std.specs.Prelude.{nat_le, map, codes, ◌==◌, if◌then◌else◌}
use Rattle.std.specs.Option.{unwrap_or}
use Rattle.std.proofs.lemmas.Bool.Decides.{nat_tests}
use Rattle.std.proofs.lemmas.List.{append-nil}
use Rattle.pipe_ends.specs.Number.{number_up_to}
use Rattle.pipe_ends.specs.Words.{begins, is_skipped, lines_of, word_in, words_of}
use Rattle.image_maker.specs.declared.part.Flash.{Flash}
use Rattle.image_maker.specs.declared.refusal.PlanNo.{PlanNo}
use Rattle.image_maker.specs.declared.refusal.PlanWhy.{PlanWhy}
use Rattle.image_maker.specs.declared.refusal.PlanWhy.TheVariants.{Count, Number, Choice, TooMany, Name}
use Rattle.image_maker.specs.Plan.{Planned, PlannedPart}
use Rattle.image_maker.specs.PlanText.{Drafted, after_line, after_lines, after_setting, changed, choice_of, entry_of, finished, flash_of, hash_of, is_name, need, nothing, once, part_in, plan_by, plan_of_text, plan_with, usual_flash}
use Rattle.image_maker.specs.Lines.{IsPlanOf, IsSaidOnce, Said, all_in, as_said, entry_in, flash_in, hash_in, said_of, segment_in, told_of}
use Rattle.image_maker.specs.Lines.Said.{EntryIs, FlashIs, HashIs, SegmentIs}

-- ---- the value of a line, and the one that came before

-- a value as a list
abbrev list_of : {A : Type 0} → Option A → List A
list_of None = []
list_of (Some x) = x ∷ []

-- a value is taken where none came before
once_none : {A : Type 0} → (old : Option A) → (x y : A) → once old x ≡ Ok y → old ≡ None
once_none None x y is = refl
once_none (Some z) x y is = absurd cc

-- and none came before one where there is one at most
none_before : {A : Type 0} → (old after : Option A) → (x : A) → (rest : List A)
    → list_of old ++ (x ∷ rest) ≡ list_of after → old ≡ None
none_before None after x rest is = refl
none_before (Some y) None x rest is = absurd cc
none_before (Some y) (Some z) x rest is = absurd cc

entry_none : (words : List (List ℕ)) → (old : Option ℕ) → (n : ℕ) → entry_of words old ≡ Ok n → old ≡ None
unfolding entry_of
entry_none words old n is = by (length words == 2) (number_up_to 0xFFFFFFFF (word_in 1 words)) is
  where
    by : (few : Bool) → (number : Option ℕ)
        → (if few then need number Number (λ n. once old n) else Err Count) ≡ Ok n → old ≡ None
    by true (Some m) is = once_none old m n is
    by true None is = absurd cc
    by false number is = absurd cc

flash_none : (words : List (List ℕ)) → (old : Option Flash) → (flash : Flash) → flash_of words old ≡ Ok flash
    → old ≡ None
unfolding flash_of
flash_none words old flash is =
    by (length words == 3) (number_up_to 255 (word_in 1 words)) (number_up_to 255 (word_in 2 words)) is
  where
    by : (few : Bool) → (one two : Option ℕ)
        → (if few then need one Number (λ mode. need two Number (λ size_freq.
        once old (record { mode = mode; size_freq = size_freq }))) else Err Count) ≡ Ok flash → old ≡ None
    by true (Some m) (Some s) is = once_none old (record { mode = m; size_freq = s }) flash is
    by true (Some m) None is = absurd cc
    by true None two is = absurd cc
    by false one two is = absurd cc

hash_none : (words : List (List ℕ)) → (old : Option Bool) → (on : Bool) → hash_of words old ≡ Ok on → old ≡ None
unfolding hash_of
hash_none words old on is = by (length words == 2) (choice_of (word_in 1 words)) is
  where
    by : (few : Bool) → (choice : Option Bool)
        → (if few then need choice Choice (λ x. once old x) else Err Count) ≡ Ok on → old ≡ None
    by true (Some x) is = once_none old x on is
    by true None is = absurd cc
    by false choice is = absurd cc

-- the segment of a line, by the tests on it
abbrev part_by : Bool → Option ℕ → Bool → Bool → List ℕ → Result PlannedPart PlanWhy
part_by few number many name word =
    if few then need number Number (λ load. if many then Err TooMany
    else (if name then Ok (record { load = load; name = word }) else Err Name)) else Err Count

-- it is that of the line by itself, where there is room
part_alone : (words : List (List ℕ)) → (count : ℕ) → (part : PlannedPart) → part_in words count ≡ Ok part
    → (part_in words 0 ≡ Ok part) × (count < 64)
unfolding part_in
part_alone words count part is =
    let two = by (length words == 3) (number_up_to 0xFFFFFFFF (word_in 1 words)) (nat_le 64 count)
    (is_name (word_in 2 words)) is in
    let many : nat_le 64 count ≡ false = two.1 in
    (two.0, grind (arith, nat_tests))
  where
    by : (few : Bool) → (number : Option ℕ) → (many name : Bool)
        → part_by few number many name (word_in 2 words) ≡ Ok part
        → (part_by few number false name (word_in 2 words) ≡ Ok part) × (many ≡ false)
    by true (Some n) false name is = (is, refl)
    by true (Some n) true name is = absurd cc
    by true None many name is = absurd cc
    by false number many name is = absurd cc

-- and the line by itself has it where there is room
part_among : (words : List (List ℕ)) → (count : ℕ) → (part : PlannedPart) → part_in words 0 ≡ Ok part
    → count < 64 → part_in words count ≡ Ok part
unfolding part_in
part_among words count part is few =
    let many : nat_le 64 count ≡ false = grind (arith, nat_tests) in
    rw many is

-- ---- one line

-- a draft with what a line says
record Step (before : Drafted) (one : Said) (after : Drafted) : Type 0 where
  entry : list_of before.entry ++ entry_in one ≡ list_of after.entry
  flash : list_of before.flash ++ flash_in one ≡ list_of after.flash
  hash : list_of before.hash ++ hash_in one ≡ list_of after.hash
  segments : before.parts ++ segment_in one ≡ after.parts

-- a line says one thing, which a draft takes
record Says (words : List (List ℕ)) (before after : Drafted) : Type 0 where
  one : Said
  is : said_of words ≡ Ok one
  step : Step before one after
  few : length after.parts ≤ 64

module _ (words : List (List ℕ)) (before after : Drafted) (few : length before.parts ≤ 64) where
  -- a line of a segment
  says_segment : (got : Result PlannedPart PlanWhy) → begins words (codes "segment") ≡ true
      → part_in words (length before.parts) ≡ got
      → changed (λ part. record before { parts = before.parts ++ part ∷ [] }) got ≡ Ok after
      → Says words before after
  unfolding said_of
  says_segment (Err why) segment got is = absurd cc
  says_segment (Ok part) segment got is =
      let alone = part_alone words (length before.parts) part got in
      let next : Drafted = record before { parts = before.parts ++ part ∷ [] } in
      let same : next ≡ after = cc in
      let long = length-append before.parts (part ∷ []) in
      subst (λ a. Says words before a) same (record {
        one = SegmentIs part;
        is = rw (segment, alone.0) refl;
        step = record {
          entry = append-nil (list_of before.entry);
          flash = append-nil (list_of before.flash);
          hash = append-nil (list_of before.hash);
          segments = refl;
        };
        few = omega (arith, long, alone.1);
      })

  -- a line of the entry address
  says_entry : (got : Result ℕ PlanWhy) → begins words (codes "segment") ≡ false
      → begins words (codes "entry") ≡ true → entry_of words before.entry ≡ got
      → changed (λ n. record before { entry = Some n }) got ≡ Ok after → Says words before after
  unfolding said_of
  says_entry (Err why) segment entry got is = absurd cc
  says_entry (Ok n) segment entry got is =
      let no = entry_none words before.entry n got in
      let alone : entry_of words None ≡ Ok n = subst (λ o. entry_of words o ≡ Ok n) no got in
      let next : Drafted = record before { entry = Some n } in
      let same : next ≡ after = cc in
      subst (λ a. Says words before a) same (record {
        one = EntryIs n;
        is = rw (segment, entry, alone) refl;
        step = record {
          entry = ap (λ o. list_of o ++ n ∷ []) no;
          flash = append-nil (list_of before.flash);
          hash = append-nil (list_of before.hash);
          segments = append-nil before.parts;
        };
        few = few;
      })

  -- a line of the bytes for the flash
  says_flash : (got : Result Flash PlanWhy) → begins words (codes "segment") ≡ false
      → begins words (codes "entry") ≡ false → begins words (codes "flash") ≡ true
      → flash_of words before.flash ≡ got
      → changed (λ f. record before { flash = Some f }) got ≡ Ok after → Says words before after
  unfolding said_of
  says_flash (Err why) segment entry flash got is = absurd cc
  says_flash (Ok f) segment entry flash got is =
      let no = flash_none words before.flash f got in
      let alone : flash_of words None ≡ Ok f = subst (λ o. flash_of words o ≡ Ok f) no got in
      let next : Drafted = record before { flash = Some f } in
      let same : next ≡ after = cc in
      subst (λ a. Says words before a) same (record {
        one = FlashIs f;
        is = rw (segment, entry, flash, alone) refl;
        step = record {
          entry = append-nil (list_of before.entry);
          flash = ap (λ o. list_of o ++ f ∷ []) no;
          hash = append-nil (list_of before.hash);
          segments = append-nil before.parts;
        };
        few = few;
      })

  -- a line of the choice of a digest
  says_hash : (got : Result Bool PlanWhy) → begins words (codes "segment") ≡ false
      → begins words (codes "entry") ≡ false → begins words (codes "flash") ≡ false
      → begins words (codes "hash") ≡ true → hash_of words before.hash ≡ got
      → changed (λ h. record before { hash = Some h }) got ≡ Ok after → Says words before after
  unfolding said_of
  says_hash (Err why) segment entry flash hash got is = absurd cc
  says_hash (Ok on) segment entry flash hash got is =
      let no = hash_none words before.hash on got in
      let alone : hash_of words None ≡ Ok on = subst (λ o. hash_of words o ≡ Ok on) no got in
      let next : Drafted = record before { hash = Some on } in
      let same : next ≡ after = cc in
      subst (λ a. Says words before a) same (record {
        one = HashIs on;
        is = rw (segment, entry, flash, hash, alone) refl;
        step = record {
          entry = append-nil (list_of before.entry);
          flash = append-nil (list_of before.flash);
          hash = ap (λ o. list_of o ++ on ∷ []) no;
          segments = append-nil before.parts;
        };
        few = few;
      })

  -- a line, by its first word
  says : (segment entry flash hash : Bool) → is_skipped words ≡ false
      → begins words (codes "segment") ≡ segment → begins words (codes "entry") ≡ entry
      → begins words (codes "flash") ≡ flash → begins words (codes "hash") ≡ hash
      → after_line before words ≡ Ok after → Says words before after
  unfolding after_line after_setting
  says true entry flash hash told s e f h is = says_segment _ s refl (rw (told, s) at is)
  says false true flash hash told s e f h is = says_entry _ s e refl (rw (told, s, e) at is)
  says false false true hash told s e f h is = says_flash _ s e f refl (rw (told, s, e, f) at is)
  says false false false true told s e f h is = says_hash _ s e f h refl (rw (told, s, e, f, h) at is)
  says false false false false told s e f h is = absurd (let no = rw (told, s, e, f, h) at is in cc)

-- ---- all lines

-- what lines said, added to a draft
record Sum (before : Drafted) (said : List Said) (after : Drafted) : Type 0 where
  entry : list_of before.entry ++ all_in entry_in said ≡ list_of after.entry
  flash : list_of before.flash ++ all_in flash_in said ≡ list_of after.flash
  hash : list_of before.hash ++ all_in hash_in said ≡ list_of after.hash
  segments : before.parts ++ all_in segment_in said ≡ after.parts

-- lines say these things, and add them to a draft
record Grown (lines : List (List ℕ)) (before after : Drafted) : Type 0 where
  said : List Said
  lines_are : map said_of (told_of lines) ≡ map Ok said
  sum : Sum before said after
  few : length after.parts ≤ 64

-- a list with one part and the rest behind it
in_front : {A : Type 0} → (first one next rest whole : List A) → first ++ one ≡ next
    → next ++ rest ≡ whole → first ++ (one ++ rest) ≡ whole
in_front first one next rest whole is later =
    sym (append_assoc first one rest) ∙ ap (λ l. l ++ rest) is ∙ later

-- and the rest behind the part
behind : {A : Type 0} → (first one next rest whole : List A) → first ++ one ≡ next
    → first ++ (one ++ rest) ≡ whole → next ++ rest ≡ whole
behind first one next rest whole is all =
    ap (λ l. l ++ rest) (sym is) ∙ append_assoc first one rest ∙ all

module _ (before next after : Drafted) (one : Said) (rest : List Said) (step : Step before one next) where
  -- one thing in front of others
  sum_of : Sum next rest after → Sum before (one ∷ rest) after
  sum_of later = record {
    entry = in_front _ (entry_in one) _ (all_in entry_in rest) _ step.entry later.entry;
    flash = in_front _ (flash_in one) _ (all_in flash_in rest) _ step.flash later.flash;
    hash = in_front _ (hash_in one) _ (all_in hash_in rest) _ step.hash later.hash;
    segments = in_front _ (segment_in one) _ (all_in segment_in rest) _ step.segments later.segments;
  }

  -- the others behind it
  rest_of : Sum before (one ∷ rest) after → Sum next rest after
  rest_of all = record {
    entry = behind _ (entry_in one) _ (all_in entry_in rest) _ step.entry all.entry;
    flash = behind _ (flash_in one) _ (all_in flash_in rest) _ step.flash all.flash;
    hash = behind _ (hash_in one) _ (all_in hash_in rest) _ step.hash all.hash;
    segments = behind _ (segment_in one) _ (all_in segment_in rest) _ step.segments all.segments;
  }

-- a line that says something has its thing
told_one : (line : List ℕ) (lines : List (List ℕ)) (one : Said) (rest : List Said)
    → is_skipped (words_of line) ≡ false → said_of (words_of line) ≡ Ok one
    → map said_of (told_of lines) ≡ map Ok rest
    → map said_of (told_of (line ∷ lines)) ≡ map Ok (one ∷ rest)
told_one line lines one rest told is others = rw (told, is) (ap (λ all. Ok one ∷ all) others)

-- one that says nothing has none
told_none : (line : List ℕ) (lines : List (List ℕ)) (rest : List Said)
    → is_skipped (words_of line) ≡ true → map said_of (told_of lines) ≡ map Ok rest
    → map said_of (told_of (line ∷ lines)) ≡ map Ok rest
told_none line lines rest told others = rw told others

module _ (number : ℕ) (line : List ℕ) (lines : List (List ℕ)) (before after : Drafted)
    (few : length before.parts ≤ 64)
    (later : (next : Drafted) → length next.parts ≤ 64
    → after_lines (number + 1) next lines ≡ Ok after → Grown lines next after) where
  -- a line that says something is added
  grown_one : (next : Drafted) → is_skipped (words_of line) ≡ false
      → after_line before (words_of line) ≡ Ok next
      → after_lines (number + 1) next lines ≡ Ok after → Grown (line ∷ lines) before after
  grown_one next told is so_far =
      let it = says (words_of line) before next few _ _ _ _ told refl refl refl refl is in
      let all = later next it.few so_far in
      record {
        said = it.one ∷ all.said;
        lines_are = told_one line lines it.one all.said told it.is all.lines_are;
        sum = sum_of before next after it.one all.said it.step all.sum;
        few = all.few;
      }

  -- a line, by what it says
  grown_line : (skipped : Bool) (got : Result Drafted PlanWhy) → is_skipped (words_of line) ≡ skipped
      → after_line before (words_of line) ≡ got
      → after_lines number before (line ∷ lines) ≡ Ok after → Grown (line ∷ lines) before after
  unfolding after_line
  grown_line true got told is so_far =
      let all = later before few (rw told at so_far) in
      record {
        said = all.said;
        lines_are = told_none line lines all.said told all.lines_are;
        sum = all.sum;
        few = all.few;
      }
  grown_line false (Err why) told is so_far = absurd (let no = rw is at so_far in cc)
  grown_line false (Ok next) told is so_far = grown_one next told is (rw is at so_far)

-- what is read has a thing a line
grown : (number : ℕ) (lines : List (List ℕ)) (before after : Drafted) → length before.parts ≤ 64
    → after_lines number before lines ≡ Ok after → Grown lines before after
grown number [] before after few so_far =
    let same : before ≡ after = cc in
    subst (λ a. Grown [] before a) same (record {
      said = [];
      lines_are = refl;
      sum = record {
        entry = append-nil (list_of before.entry);
        flash = append-nil (list_of before.flash);
        hash = append-nil (list_of before.hash);
        segments = append-nil before.parts;
      };
      few = few;
    })
grown number (line ∷ lines) before after few so_far =
    grown_line number line lines before after few
    (λ next long is. grown (number + 1) lines next after long is) _ _ refl refl so_far

-- ---- from the lines

-- a draft takes what a line says
record Takes (words : List (List ℕ)) (before : Drafted) (one : Said) : Type 0 where
  next : Drafted
  is : after_line before words ≡ Ok next
  step : Step before one next

module _ (words : List (List ℕ)) (before after : Drafted) (rest : List Said)
    (told : is_skipped words ≡ false) (few : length after.parts ≤ 64) where
  takes_segment : (part : PlannedPart) → begins words (codes "segment") ≡ true
      → part_in words 0 ≡ Ok part → Sum before (SegmentIs part ∷ rest) after
      → Takes words before (SegmentIs part)
  unfolding after_line
  takes_segment part segment alone sum =
      let long = length-append before.parts (part ∷ all_in segment_in rest) in
      let all = ap length sum.segments in
      let room : length before.parts < 64 = omega (arith, long, all, few) in
      let got = part_among words (length before.parts) part alone room in
      record {
        next = record before { parts = before.parts ++ part ∷ [] };
        is = rw (told, segment, got) refl;
        step = record {
          entry = append-nil (list_of before.entry);
          flash = append-nil (list_of before.flash);
          hash = append-nil (list_of before.hash);
          segments = refl;
        };
      }

  takes_entry : (n : ℕ) → begins words (codes "segment") ≡ false
      → begins words (codes "entry") ≡ true → entry_of words None ≡ Ok n
      → Sum before (EntryIs n ∷ rest) after → Takes words before (EntryIs n)
  unfolding after_line after_setting
  takes_entry n segment entry alone sum =
      let no = none_before before.entry after.entry n (all_in entry_in rest) sum.entry in
      let got : entry_of words before.entry ≡ Ok n =
      subst (λ o. entry_of words o ≡ Ok n) (sym no) alone in
      record {
        next = record before { entry = Some n };
        is = rw (told, segment, entry, got) refl;
        step = record {
          entry = ap (λ o. list_of o ++ n ∷ []) no;
          flash = append-nil (list_of before.flash);
          hash = append-nil (list_of before.hash);
          segments = append-nil before.parts;
        };
      }

  takes_flash : (f : Flash) → begins words (codes "segment") ≡ false
      → begins words (codes "entry") ≡ false → begins words (codes "flash") ≡ true
      → flash_of words None ≡ Ok f → Sum before (FlashIs f ∷ rest) after
      → Takes words before (FlashIs f)
  unfolding after_line after_setting
  takes_flash f segment entry flash alone sum =
      let no = none_before before.flash after.flash f (all_in flash_in rest) sum.flash in
      let got : flash_of words before.flash ≡ Ok f =
      subst (λ o. flash_of words o ≡ Ok f) (sym no) alone in
      record {
        next = record before { flash = Some f };
        is = rw (told, segment, entry, flash, got) refl;
        step = record {
          entry = append-nil (list_of before.entry);
          flash = ap (λ o. list_of o ++ f ∷ []) no;
          hash = append-nil (list_of before.hash);
          segments = append-nil before.parts;
        };
      }

  takes_hash : (on : Bool) → begins words (codes "segment") ≡ false
      → begins words (codes "entry") ≡ false → begins words (codes "flash") ≡ false
      → begins words (codes "hash") ≡ true → hash_of words None ≡ Ok on
      → Sum before (HashIs on ∷ rest) after → Takes words before (HashIs on)
  unfolding after_line after_setting
  takes_hash on segment entry flash hash alone sum =
      let no = none_before before.hash after.hash on (all_in hash_in rest) sum.hash in
      let got : hash_of words before.hash ≡ Ok on =
      subst (λ o. hash_of words o ≡ Ok on) (sym no) alone in
      record {
        next = record before { hash = Some on };
        is = rw (told, segment, entry, flash, hash, got) refl;
        step = record {
          entry = append-nil (list_of before.entry);
          flash = append-nil (list_of before.flash);
          hash = ap (λ o. list_of o ++ on ∷ []) no;
          segments = append-nil before.parts;
        };
      }

  from_segment : (one : Said) → (got : Result PlannedPart PlanWhy)
      → begins words (codes "segment") ≡ true
      → part_in words 0 ≡ got → as_said SegmentIs got ≡ Ok one
      → Sum before (one ∷ rest) after → Takes words before one
  from_segment one (Err why) segment got is sum = absurd cc
  from_segment one (Ok x) segment got is sum =
      let same : SegmentIs x ≡ one = cc in
      subst (λ o. Takes words before o) same
      (takes_segment x segment got (subst (λ o. Sum before (o ∷ rest) after) (sym same) sum))

  from_entry : (one : Said) → (got : Result ℕ PlanWhy)
      → begins words (codes "segment") ≡ false
      → begins words (codes "entry") ≡ true
      → entry_of words None ≡ got → as_said EntryIs got ≡ Ok one
      → Sum before (one ∷ rest) after → Takes words before one
  from_entry one (Err why) segment entry got is sum = absurd cc
  from_entry one (Ok x) segment entry got is sum =
      let same : EntryIs x ≡ one = cc in
      subst (λ o. Takes words before o) same
      (takes_entry x segment entry got (subst (λ o. Sum before (o ∷ rest) after) (sym same) sum))

  from_flash : (one : Said) → (got : Result Flash PlanWhy)
      → begins words (codes "segment") ≡ false
      → begins words (codes "entry") ≡ false
      → begins words (codes "flash") ≡ true
      → flash_of words None ≡ got → as_said FlashIs got ≡ Ok one
      → Sum before (one ∷ rest) after → Takes words before one
  from_flash one (Err why) segment entry flash got is sum = absurd cc
  from_flash one (Ok x) segment entry flash got is sum =
      let same : FlashIs x ≡ one = cc in
      subst (λ o. Takes words before o) same
      (takes_flash x segment entry flash got (subst (λ o. Sum before (o ∷ rest) after) (sym same) sum))

  from_hash : (one : Said) → (got : Result Bool PlanWhy)
      → begins words (codes "segment") ≡ false
      → begins words (codes "entry") ≡ false
      → begins words (codes "flash") ≡ false
      → begins words (codes "hash") ≡ true
      → hash_of words None ≡ got → as_said HashIs got ≡ Ok one
      → Sum before (one ∷ rest) after → Takes words before one
  from_hash one (Err why) segment entry flash hash got is sum = absurd cc
  from_hash one (Ok x) segment entry flash hash got is sum =
      let same : HashIs x ≡ one = cc in
      subst (λ o. Takes words before o) same
      (takes_hash x segment entry flash hash got (subst (λ o. Sum before (o ∷ rest) after) (sym same) sum))

  -- a line is taken, by its first word
  takes : (one : Said) → (segment entry flash hash : Bool) → begins words (codes "segment") ≡ segment
      → begins words (codes "entry") ≡ entry → begins words (codes "flash") ≡ flash
      → begins words (codes "hash") ≡ hash → said_of words ≡ Ok one
      → Sum before (one ∷ rest) after → Takes words before one
  unfolding said_of
  takes one true entry flash hash s e f h is sum = from_segment one _ s refl (rw s at is) sum
  takes one false true flash hash s e f h is sum = from_entry one _ s e refl (rw (s, e) at is) sum
  takes one false false true hash s e f h is sum =
      from_flash one _ s e f refl (rw (s, e, f) at is) sum
  takes one false false false true s e f h is sum =
      from_hash one _ s e f h refl (rw (s, e, f, h) at is) sum
  takes one false false false false s e f h is sum =
      absurd (let no = rw (s, e, f, h) at is in cc)

module _ (number : ℕ) (line : List ℕ) (lines : List (List ℕ)) (before after : Drafted)
    (few : length after.parts ≤ 64)
    (later : (next : Drafted) (rest : List Said) → map said_of (told_of lines) ≡ map Ok rest
    → Sum next rest after → after_lines (number + 1) next lines ≡ Ok after) where
  -- a line is read, by what it says
  read_line : (skipped : Bool) (said : List Said) → is_skipped (words_of line) ≡ skipped
      → map said_of (told_of (line ∷ lines)) ≡ map Ok said → Sum before said after
      → after_lines number before (line ∷ lines) ≡ Ok after
  unfolding after_line
  read_line true said told others sum =
      let others' = rw told at others in
      rw told (later before said others' sum)
  read_line false [] told others sum = absurd (let no = rw told at others in cc)
  read_line false (one ∷ rest) told others sum =
      let both : said_of (words_of line) ∷ map said_of (told_of lines) ≡ Ok one ∷ map Ok rest =
      rw told at others in
      let is : said_of (words_of line) ≡ Ok one = cc in
      let others' : map said_of (told_of lines) ≡ map Ok rest = cc in
      let it = takes (words_of line) before after rest told few one _ _ _ _ refl refl refl refl is sum in
      rw it.is (later it.next rest others' (rest_of before it.next after one rest it.step sum))

-- one value or none, by its list
list_same : {A : Type 0} → (old new : Option A) → list_of old ++ [] ≡ list_of new → old ≡ new
list_same None None is = refl
list_same None (Some y) is = absurd cc
list_same (Some x) None is = absurd cc
list_same (Some x) (Some y) is = cc

-- lines that say these things are read so
read : (number : ℕ) (lines : List (List ℕ)) (before after : Drafted) (said : List Said)
    → length after.parts ≤ 64 → map said_of (told_of lines) ≡ map Ok said → Sum before said after
    → after_lines number before lines ≡ Ok after
read number [] before after [] few others sum =
    let entry = list_same before.entry after.entry sum.entry in
    let flash = list_same before.flash after.flash sum.flash in
    let hash = list_same before.hash after.hash sum.hash in
    let parts = sym (append-nil before.parts) ∙ sum.segments in
    λ i. Ok (record { entry = entry i; flash = flash i; hash = hash i; parts = parts i })
read number [] before after (one ∷ rest) few others sum = absurd cc
read number (line ∷ lines) before after said few others sum =
    read_line number line lines before after few
    (λ next rest more is. read (number + 1) lines next after rest few more is) _ said refl others sum

-- ---- the plan

-- a value that is said at most once
said_once : {A : Type 0} → (usual : A) → (old : Option A)
    → IsSaidOnce (list_of old) usual (unwrap_or old usual)
said_once usual None = refl
said_once usual (Some x) = refl

-- the plan of a text is that of its lines
pub plan_has_lines : (text : List ℕ) (plan : Planned) → plan_of_text text ≡ Ok plan
    → IsPlanOf text plan
unfolding plan_of_text
plan_has_lines text plan is = by (after_lines 1 nothing (lines_of text)) refl is
  where
    by_entry : (draft : Drafted) → (entry : Option ℕ)
        → after_lines 1 nothing (lines_of text) ≡ Ok draft → draft.entry ≡ entry
        → plan_by (length (lines_of text)) draft entry ≡ Ok plan → IsPlanOf text plan
    by_entry draft None drafts entry is = absurd cc
    by_entry draft (Some n) drafts entry is =
        let same : plan_with draft n ≡ plan = cc in
        let all = grown 1 (lines_of text) nothing draft (omega arith) drafts in
        subst (λ p. IsPlanOf text p) same (record {
          said = all.said;
          lines = all.lines_are;
          entry = all.sum.entry ∙ ap list_of entry;
          flash = subst (λ l. IsSaidOnce l usual_flash (unwrap_or draft.flash usual_flash))
              (sym all.sum.flash) (said_once usual_flash draft.flash);
          hash = subst (λ l. IsSaidOnce l true (unwrap_or draft.hash true))
              (sym all.sum.hash) (said_once true draft.hash);
          segments = all.sum.segments;
          few = all.few;
        })

    by : (whole : Result Drafted PlanNo) → after_lines 1 nothing (lines_of text) ≡ whole
        → finished (length (lines_of text)) whole ≡ Ok plan → IsPlanOf text plan
    by (Err refusal) drafts is = absurd cc
    by (Ok draft) drafts is = by_entry draft draft.entry drafts refl is

-- the first of values
abbrev first_of : {A : Type 0} → List A → Option A
first_of [] = None
first_of (x ∷ more) = Some x

-- all of them, where there is one at most
first_only : {A : Type 0} → (all : List A) → (usual x : A) → IsSaidOnce all usual x
    → all ≡ list_of (first_of all)
first_only [] usual x is = refl
first_only (y ∷ []) usual x is = refl
first_only (y ∷ z ∷ more) usual x is = absurd is

-- and it is the value that counts
first_counts : {A : Type 0} → (all : List A) → (usual x : A) → IsSaidOnce all usual x
    → unwrap_or (first_of all) usual ≡ x
first_counts [] usual x is = sym is
first_counts (y ∷ []) usual x is = sym is
first_counts (y ∷ z ∷ more) usual x is = absurd is

-- lines with these things are a text of the plan
pub lines_are_plan : (text : List ℕ) (plan : Planned) → IsPlanOf text plan
    → plan_of_text text ≡ Ok plan
unfolding plan_of_text
lines_are_plan text plan is =
    let flashes = all_in flash_in is.said in
    let hashes = all_in hash_in is.said in
    let setting : Flash = record { mode = plan.mode; size_freq = plan.size_freq } in
    let draft : Drafted = record {
      entry = Some plan.entry;
      flash = first_of flashes;
      hash = first_of hashes;
      parts = plan.parts;
    } in
    let drafts = read 1 (lines_of text) nothing draft is.said is.few is.lines (record {
      entry = is.entry;
      flash = first_only flashes usual_flash setting is.flash;
      hash = first_only hashes true plan.hash is.hash;
      segments = is.segments;
    }) in
    let flash = first_counts flashes usual_flash setting is.flash in
    let hash = first_counts hashes true plan.hash is.hash in
    let same : plan_with draft plan.entry ≡ plan =
    λ i. record {
      entry = plan.entry;
      mode = (flash i).mode;
      size_freq = (flash i).size_freq;
      hash = hash i;
      parts = plan.parts;
    } in
    ap (finished (length (lines_of text))) drafts ∙ ap Ok same
