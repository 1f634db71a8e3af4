-- In which pages bytes lie.
use Rattle.std.proofs.Common.{◌≡◌, ◌≤◌, ◌<◌, ℕ, suc, ◌+◌, ◌-◌, ◌/◌, ◌%◌, Bool, true, false, refl, arith}
use Rattle.std.specs.Prelude.{◌==◌}
use Rattle.std.proofs.lemmas.Bool.Decides.{nat_tests}
use Rattle.flash_steps.specs.Steps.{pages_in, room_at}

-- so many bytes, if there are some, lie in one page more than those behind the first page's end
pub page_first : (at len : ℕ) → 1 ≤ len
    → pages_in at len ≡ suc (pages_in (at + room_at at) (len - room_at at))
unfolding pages_in
page_first at len some = by (len == 0) (len - room_at at == 0) refl refl
  where
    by : (none last : Bool) → (len == 0) ≡ none → (len - room_at at == 0) ≡ last
        → pages_in at len ≡ suc (pages_in (at + room_at at) (len - room_at at))
    by true last none_is last_is = absurd (grind (arith, nat_tests))
    by false true none_is last_is =
        let short : len ≤ room_at at = grind (arith, nat_tests) in
        let one : (at % 256 + len + 255) / 256 ≡ 1 = omega arith in
        rw (none_is, last_is) one
    by false false none_is last_is =
        let long : room_at at < len = grind (arith, nat_tests) in
        let more : (at % 256 + len + 255) / 256
        ≡ suc (((at + room_at at) % 256 + (len - room_at at) + 255) / 256) = omega arith in
        rw (none_is, last_is) more

-- no bytes lie in no page
pub page_none : (at : ℕ) → pages_in at 0 ≡ 0
unfolding pages_in
page_none at = refl
