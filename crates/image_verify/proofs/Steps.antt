-- Each step of the reader keeps what it knows of the bytes that came.
use Rattle.std.proofs.Common.{◌≡◌, ℕ, zero, suc, ◌+◌, ◌-◌, ◌*◌, ◌<◌, ◌≤◌, List, [], ◌∷◌, ◌++◌, length, take, drop, refl, sym, ap, ◌∙◌, arith, inl, inr, subst}
use Rattle.std.specs.Prelude.{◌^◌, bit_xor, ◌⊎◌}
use Rattle.std.proofs.lemmas.Bool.Decides.{nat_tests}
use Rattle.std.proofs.lemmas.List.{drop-append-le, drop_all, length-append, length-take, take-append-le, take_all}
use Rattle.sha2.specs.declared.Sha256.{Sha256}
use Rattle.sha2.specs.Hashers.{Holds256}
use Rattle.image_layout.specs.Whole.{xor_all}
use Rattle.image_verify.specs.declared.bad.BadImage.{BadImage}
use Rattle.image_verify.specs.declared.info.SegmentNote.{SegmentNote}
use Rattle.image_verify.specs.declared.reader.Reader.{Reader}
use Rattle.image_verify.specs.declared.reader.Stage.{Stage}
use Rattle.image_verify.specs.declared.reader.Stage.TheVariants as stages
use Rattle.image_verify.specs.declared.seen.Seen.{Seen}
use Rattle.image_verify.specs.Places.{flag_of, need_of, data_of}
use Rattle.image_verify.specs.Walk.{Walk, Faulty, Begins, Reads, walk, plan}
use Rattle.image_verify.specs.Bad.{counted}
use Rattle.image_verify.specs.Seen.{IsSeen}
use Rattle.image_verify.specs.Fed.{want_of, IsWithin, Stands, IsFed}
use Rattle.image_verify.proofs.Reading.{walk_wait, walk_end}
use Rattle.image_verify.proofs.Longer.{byte_stays, onward, plan_onward, plan_faulty}
use Rattle.image_verify.proofs.KeepFacts.{keep_more}
use Rattle.image_verify.proofs.Noted.{noted_data, noted_done, noted_more}

-- the stages, told apart
abbrev pub kind : Stage → ℕ
kind stages.Header = 0
kind stages.Body = 1
kind (stages.Bad bad) = 2

-- ---- after a fault

-- a fault stays
pub fed_bad : (v : Reader) (limit : ℕ) (bytes part : List ℕ) (bad : BadImage) (seen : Seen)
    → IsFed v limit bytes → v.stage ≡ stages.Bad bad → IsSeen seen (bytes ++ part)
    → IsFed (record v { seen = seen }) limit (bytes ++ part)
fed_bad v limit bytes part bad seen fed stage saw = by (plan limit bytes) refl fed.state
  where
    by : (w : Walk) → plan limit bytes ≡ w → Stands v limit bytes w
        → IsFed (record v { seen = seen }) limit (bytes ++ part)
    by (Faulty found) is state = record {
      limited = fed.limited;
      small = fed.small;
      seen = saw;
      state = subst (Stands (record v { seen = seen }) limit (bytes ++ part))
          (sym (plan_faulty limit bytes part found is)) state;
    }
    by Begins is state = absurd (let none : 0 ≡ 2 = ap kind (sym state.stage ∙ stage) in omega arith)
    by (Reads heads end notes) is state =
        absurd (let none : 1 ≡ 2 = ap kind (sym state.stage ∙ stage) in omega arith)

-- ---- past the header

-- What the reader knows past the header.
pub record Body (v : Reader) (limit : ℕ) (bytes : List ℕ) : Type 0 where
  pub heads : ℕ
  pub end : ℕ
  pub notes : List SegmentNote
  pub planned : plan limit bytes ≡ Reads heads end notes
  pub within : IsWithin v limit bytes heads end notes

-- it knows it there
pub fed_body : (v : Reader) (limit : ℕ) (bytes : List ℕ) → IsFed v limit bytes → v.stage ≡ stages.Body
    → Body v limit bytes
fed_body v limit bytes fed stage = by (plan limit bytes) refl fed.state
  where
    by : (w : Walk) → plan limit bytes ≡ w → Stands v limit bytes w → Body v limit bytes
    by (Faulty found) is state = absurd (let none : 2 ≡ 1 = ap kind (sym state ∙ stage) in omega arith)
    by Begins is state = absurd (let none : 0 ≡ 1 = ap kind (sym state.stage ∙ stage) in omega arith)
    by (Reads heads end notes) is state =
        record { heads = heads; end = end; notes = notes; planned = is; within = state }

-- a walk waits where the next head is not there whole, or none is to come
pub walk_stays : (limit flag : ℕ) (bytes : List ℕ) (heads end : ℕ) (notes : List SegmentNote)
    → (heads ≡ 0) ⊎ (length bytes < end + 8)
    → walk limit flag bytes heads end notes ≡ Reads heads end notes
walk_stays limit flag bytes zero end notes why = walk_end limit flag bytes end notes
walk_stays limit flag bytes (suc heads) end notes (inl none) = absurd (omega (arith, none))
walk_stays limit flag bytes (suc heads) end notes (inr short) =
    walk_wait limit flag bytes heads end notes (grind (arith, nat_tests, short))

-- more bytes than are counted are more than any place
counted_before : (n end : ℕ) → counted n < end → end ≤ 2 ^ 34 → n < end
counted_before n end before small = omega (arith, before, small)

pub counted_past : (n end : ℕ) → end ≤ counted n → end ≤ n
counted_past n end past = omega (arith, past)

-- what is needed bounds the places
pub need_bounds : (heads end flag limit : ℕ) → need_of end heads flag ≤ limit → limit < 2 ^ 32
    → end + 8 * heads < 2 ^ 32
need_bounds heads end flag limit fits small = omega (arith, fits, small)

module _ (v : Reader) (limit : ℕ) (bytes part : List ℕ) (fed : IsFed v limit bytes)
    (b : Body v limit bytes) where
  -- the flag stays
  flag_same : flag_of (bytes ++ part) ≡ flag_of bytes
  flag_same = byte_stays bytes part 23 (omega (arith, b.within.long))

  longer : length (bytes ++ part) ≡ length bytes + length part
  longer = length-append bytes part

  -- the reading goes on
  went : plan limit (bytes ++ part) ≡ walk limit (flag_of bytes) (bytes ++ part) b.heads b.end b.notes
  went = plan_onward limit bytes part b.within.long
      ∙ ap (onward limit (flag_of bytes) (bytes ++ part)) b.planned

  -- more data came
  pub fed_data : (seen : Seen) (sum : ℕ) (hasher : Sha256) → v.seen.count < v.end
      → length part ≤ v.end - v.seen.count → IsSeen seen (bytes ++ part) → sum ≡ xor_all v.sum part
      → ((m : List ℕ) → Holds256 v.hasher m → Holds256 hasher (m ++ part))
      → IsFed (record v { seen = seen; sum = sum; hasher = hasher }) limit (bytes ++ part)
  fed_data seen sum hasher before few saw sum_is holds =
      let w = b.within in
      let bound = need_bounds b.heads b.end (flag_of bytes) limit w.fits fed.small in
      let early : length bytes < b.end =
      counted_before (length bytes) b.end (omega (arith, before, fed.seen.count, w.ends)) (omega (arith, bound)) in
      let room : length bytes + length part ≤ b.end =
      omega (arith, few, fed.seen.count, w.ends, early, bound) in
      let none : drop b.end bytes ≡ [] = drop_all b.end bytes (omega (arith, early)) in
      let none' : drop b.end (bytes ++ part) ≡ [] = drop_all b.end (bytes ++ part) (omega (arith, longer, room)) in
      let all : take b.end bytes ≡ bytes = take_all b.end bytes (omega (arith, early)) in
      let all' : take b.end (bytes ++ part) ≡ bytes ++ part = take_all b.end (bytes ++ part) (omega (arith, longer, room)) in
      let planned : plan limit (bytes ++ part) ≡ Reads b.heads b.end b.notes =
      went ∙ walk_stays limit (flag_of bytes) (bytes ++ part) b.heads b.end b.notes
      (inr (omega (arith, longer, room))) in
      let within : IsWithin (record v { seen = seen; sum = sum; hasher = hasher }) limit (bytes ++ part) b.heads b.end b.notes =
      record {
        stage = w.stage;
        left = w.left;
        ends = w.ends;
        flag = w.flag ∙ sym flag_same;
        segments = w.segments;
        buffer = w.buffer ∙ ap (take (want_of b.heads b.end (flag_of bytes))) (none ∙ sym none')
            ∙ ap (λ d. take (want_of b.heads b.end d) (drop b.end (bytes ++ part))) (sym flag_same);
        sum = sum_is ∙ ap (λ s. xor_all s part) w.sum ∙ xor_append 0xEF (data_of bytes b.notes) part
            ∙ ap (xor_all 0xEF) (sym (noted_data bytes part b.end b.notes w.noted early room));
        hash = subst (Holds256 hasher) (ap (λ (xs : List ℕ). xs ++ part) all ∙ sym all') (holds (take b.end bytes) w.hash);
        noted = noted_more bytes part b.end b.notes w.noted;
        room = w.room;
        long = omega (arith, longer, w.long);
        flagged = omega (arith, flag_same, w.flagged);
        fits = subst (λ d. need_of b.end b.heads d ≤ limit) (sym flag_same) w.fits;
      } in
      record {
        limited = fed.limited;
        small = fed.small;
        seen = saw;
        state = subst (Stands (record v { seen = seen; sum = sum; hasher = hasher }) limit (bytes ++ part)) (sym planned) within;
      }
    where
      xor_append : (sum : ℕ) (xs ys : List ℕ) → xor_all (xor_all sum xs) ys ≡ xor_all sum (xs ++ ys)
      xor_append sum [] ys = refl
      xor_append sum (x ∷ xs) ys = xor_append (bit_xor sum x) xs ys

  -- bytes after the last data came, and of them what is wanted is kept
  pub fed_after : (seen : Seen) (w : Reader) (kept : List ℕ) → b.end ≤ length bytes
      → w.stage ≡ v.stage → w.left ≡ v.left → w.end ≡ v.end → w.flag ≡ v.flag → w.notes.items ≡ v.notes.items
      → w.sum ≡ v.sum → ((m : List ℕ) → Holds256 v.hasher m → Holds256 w.hasher m)
      → w.buffer.items ≡ kept
      → kept ≡ take (want_of b.heads b.end (flag_of bytes)) (v.buffer.items ++ part)
      → IsWithin w limit (bytes ++ part) b.heads b.end b.notes
  fed_after seen w kept past stage left ends flag notes sum hash buffer is =
      let old = b.within in
      record {
        stage = stage ∙ old.stage;
        left = left ∙ old.left;
        ends = ends ∙ old.ends;
        flag = flag ∙ old.flag ∙ sym flag_same;
        segments = notes ∙ old.segments;
        buffer = buffer ∙ is ∙ ap (λ (xs : List ℕ). take (want_of b.heads b.end (flag_of bytes)) (xs ++ part)) old.buffer
            ∙ keep_more (want_of b.heads b.end (flag_of bytes)) (drop b.end bytes) part
            ∙ ap (take (want_of b.heads b.end (flag_of bytes))) (sym (drop-append-le b.end bytes part past))
            ∙ ap (λ d. take (want_of b.heads b.end d) (drop b.end (bytes ++ part))) (sym flag_same);
        sum = sum ∙ old.sum ∙ ap (xor_all 0xEF) (sym (noted_done bytes part b.end b.notes old.noted past));
        hash = subst (Holds256 w.hasher) (sym (take-append-le b.end bytes part past)) (hash (take b.end bytes) old.hash);
        noted = noted_more bytes part b.end b.notes old.noted;
        room = old.room;
        long = omega (arith, longer, old.long);
        flagged = omega (arith, flag_same, old.flagged);
        fits = subst (λ d. need_of b.end b.heads d ≤ limit) (sym flag_same) old.fits;
      }

  -- the reading has gone on over them
  pub went_on : plan limit (bytes ++ part)
      ≡ walk limit (flag_of (bytes ++ part)) (bytes ++ part) b.heads b.end b.notes
  went_on = went ∙ ap (λ d. walk limit d (bytes ++ part) b.heads b.end b.notes) (sym flag_same)

  -- it waits
  pub went_stays : (b.heads ≡ 0) ⊎ (length (bytes ++ part) < b.end + 8)
      → plan limit (bytes ++ part) ≡ Reads b.heads b.end b.notes
  went_stays why = went ∙ walk_stays limit (flag_of bytes) (bytes ++ part) b.heads b.end b.notes why

-- no more is kept than is wanted
pub want_zero : (heads end flag : ℕ) → heads ≡ 0 → want_of heads end flag ≡ need_of end 0 flag - end
want_zero zero end flag none = refl
want_zero (suc heads) end flag none = absurd (omega (arith, none))

pub want_some : (heads end flag : ℕ) → 1 ≤ heads → want_of heads end flag ≡ 8
want_some zero end flag more = absurd (omega (arith, more))
want_some (suc heads) end flag more = refl

-- what is kept is no longer than what is wanted
pub kept_few : (v : Reader) (limit : ℕ) (bytes : List ℕ) (b : Body v limit bytes)
    → length v.buffer.items ≤ want_of b.heads b.end (flag_of bytes)
kept_few v limit bytes b =
    omega (arith, ap length b.within.buffer, length-take (want_of b.heads b.end (flag_of bytes)) (drop b.end bytes))

-- the footer came, or bytes after it
pub fed_tail : (v : Reader) (limit : ℕ) (bytes part : List ℕ) (seen : Seen) (kept : Reader)
    → IsFed v limit bytes → v.stage ≡ stages.Body → v.left ≡ 0 → v.end ≤ v.seen.count
    → IsSeen seen (bytes ++ part)
    → kept ≡ record v { seen = seen; buffer = kept.buffer }
    → (length v.buffer.items ≤ need_of v.end 0 v.flag - v.end
    → kept.buffer.items ≡ take (need_of v.end 0 v.flag - v.end) (v.buffer.items ++ part))
    → IsFed kept limit (bytes ++ part)
fed_tail v limit bytes part seen kept fed stage none past saw is kept_is =
    let b = fed_body v limit bytes fed stage in
    let w = b.within in
    let heads : b.heads ≡ 0 = sym w.left ∙ none in
    let want : want_of b.heads b.end (flag_of bytes) ≡ need_of v.end 0 v.flag - v.end =
    want_zero b.heads b.end (flag_of bytes) heads
    ∙ sym (λ i. need_of (w.ends i) 0 (w.flag i) - w.ends i) in
    let few = kept_few v limit bytes b in
    let there : b.end ≤ length bytes =
    counted_past (length bytes) b.end (omega (arith, past, fed.seen.count, w.ends)) in
    let items = kept_is (omega (arith, few, want)) in
    let within = fed_after v limit bytes part fed b seen kept kept.buffer.items there
    (ap (λ (r : Reader). r.stage) is) (ap (λ (r : Reader). r.left) is) (ap (λ (r : Reader). r.end) is)
    (ap (λ (r : Reader). r.flag) is) (ap (λ (r : Reader). r.notes.items) is) (ap (λ (r : Reader). r.sum) is)
    (λ m holds. subst (λ (h : Sha256). Holds256 h m) (sym (ap (λ (r : Reader). r.hasher) is)) holds) refl
    (items ∙ ap (λ n. take n (v.buffer.items ++ part)) (sym want)) in
    record {
      limited = ap (λ (r : Reader). r.limit) is ∙ fed.limited;
      small = fed.small;
      seen = subst (λ (s : Seen). IsSeen s (bytes ++ part)) (sym (ap (λ (r : Reader). r.seen) is)) saw;
      state = subst (Stands kept limit (bytes ++ part)) (sym (went_stays v limit bytes part fed b (inl heads))) within;
    }
