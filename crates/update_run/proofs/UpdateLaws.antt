-- In which step an update ends, and how else.
use mathlib.Core.Logic.{inl, inr}
use Rattle.std.proofs.Common.{◌≡◌, ℕ, ◌≤◌, Bool, true, false, List, [], ◌∷◌, Option, Some, None, refl, sym, ap, ◌∙◌, arith}
use Rattle.std.specs.Prelude.{◌==◌, nat_le, if◌then◌else◌}
use Rattle.std.proofs.lemmas.Bool.Decides.{nat_tests}
use Rattle.crash_images.specs.Cut.{NotBoth}
use Rattle.image_verify.specs.declared.bad.BadImage.{BadImage}
use Rattle.image_verify.specs.Bad.{bad}
use Rattle.power_cut.specs.declared.legs.LegEnd.{LegEnd}
use Rattle.power_cut.specs.declared.legs.LegEnd.TheVariants.{Done, Device, Cut, FirstByte, Empty, Bad}
use Rattle.power_cut.specs.Device.{IsWholeEnd}
use Rattle.power_cut.specs.Update.{sealed_end, session_end, slot_size}
use Rattle.update_run.specs.Updating.{chosen_end, count_of}
use Rattle.update_run.specs.UpdateLaws.{CutIsReached, ElseByImage, FailureIsReached}
use Rattle.update_run.proofs.EndLemmas.{unbroken_end}

-- a session that did not break off ends whole
whole_sealed : (found : Option BadImage) → IsWholeEnd (sealed_end found)
whole_sealed None = tt
whole_sealed (Some why) = tt

whole_if : (b : Bool) (x y : LegEnd) → IsWholeEnd x → IsWholeEnd y → IsWholeEnd (if b then x else y)
whole_if true x y first second = first
whole_if false x y first second = second

pub whole_session : (size : ℕ) (image : List ℕ) → IsWholeEnd (session_end size image)
whole_session size [] = tt
whole_session size (byte ∷ bytes) =
    whole_if (byte == 0xE9) _ _ (whole_sealed (bad size (byte ∷ bytes))) tt

-- a whole end is none of a device
no_cut : (end : LegEnd) (k : ℕ) → IsWholeEnd end → end ≡ Cut k → ⊥
no_cut Done k whole is = cc
no_cut (Device step) k whole is = whole
no_cut (Cut step) k whole is = whole
no_cut (FirstByte byte) k whole is = cc
no_cut Empty k whole is = cc
no_cut (Bad why) k whole is = cc

no_failure : (end : LegEnd) (k : ℕ) → IsWholeEnd end → end ≡ Device k → ⊥
no_failure Done k whole is = cc
no_failure (Device step) k whole is = whole
no_failure (Cut step) k whole is = whole
no_failure (FirstByte byte) k whole is = cc
no_failure Empty k whole is = cc
no_failure (Bad why) k whole is = cc

-- an end by a test
cut_if : (b : Bool) (j n k : ℕ) (whole : LegEnd) → IsWholeEnd whole → nat_le j n ≡ b
    → (if b then Cut j else whole) ≡ Cut k → (j ≡ k) × (k ≤ n)
cut_if true j n k whole sound test is =
    let same : j ≡ k = cc in (same, grind (arith, nat_tests))
cut_if false j n k whole sound test is = absurd (no_cut whole k sound is)

device_if : (b : Bool) (j n k : ℕ) (whole : LegEnd) → IsWholeEnd whole → nat_le j n ≡ b
    → (if b then Device j else whole) ≡ Device k → (j ≡ k) × (k ≤ n)
device_if true j n k whole sound test is =
    let same : j ≡ k = cc in (same, grind (arith, nat_tests))
device_if false j n k whole sound test is = absurd (no_failure whole k sound is)

other_if : (b : Bool) (j k : ℕ) (whole : LegEnd) → IsWholeEnd whole
    → (if b then Device j else whole) ≡ Cut k → ⊥
other_if true j k whole sound is = cc
other_if false j k whole sound is = no_cut whole k sound is

else_if : (b : Bool) (j k : ℕ) (whole : LegEnd) → IsWholeEnd whole
    → (if b then Cut j else whole) ≡ Device k → ⊥
else_if true j k whole sound is = cc
else_if false j k whole sound is = no_failure whole k sound is

-- a chosen end
cut_only : (cut fail : Option ℕ) (n k : ℕ) (whole : LegEnd) → IsWholeEnd whole
    → chosen_end cut fail n whole ≡ Cut k → (cut ≡ Some k) × (k ≤ n)
cut_only (Some j) fail n k whole sound is =
    let by = cut_if (nat_le j n) j n k whole sound refl is in (ap Some by.0, by.1)
cut_only None (Some j) n k whole sound is = absurd (other_if (nat_le j n) j k whole sound is)
cut_only None None n k whole sound is = absurd (no_cut whole k sound is)

cut_then : (cut fail : Option ℕ) (n k : ℕ) (whole : LegEnd) → cut ≡ Some k → k ≤ n
    → chosen_end cut fail n whole ≡ Cut k
cut_then cut fail n k whole is reached =
    let yes : nat_le k n ≡ true = grind (arith, nat_tests) in rw (is, yes) refl

failure_only : (cut fail : Option ℕ) (n k : ℕ) (whole : LegEnd) → IsWholeEnd whole
    → chosen_end cut fail n whole ≡ Device k → (fail ≡ Some k) × (k ≤ n)
failure_only (Some j) fail n k whole sound is = absurd (else_if (nat_le j n) j k whole sound is)
failure_only None (Some j) n k whole sound is =
    let by = device_if (nat_le j n) j n k whole sound refl is in (ap Some by.0, by.1)
failure_only None None n k whole sound is = absurd (no_failure whole k sound is)

failure_then : (cut fail : Option ℕ) (n k : ℕ) (whole : LegEnd) → NotBoth cut fail
    → fail ≡ Some k → k ≤ n → chosen_end cut fail n whole ≡ Device k
failure_then cut fail n k whole (inl none) is reached =
    let yes : nat_le k n ≡ true = grind (arith, nat_tests) in rw (none, is, yes) refl
failure_then cut fail n k whole (inr none) is reached = absurd (cc)

pub cut_reached : CutIsReached
cut_reached options o t k is =
    let whole = session_end (slot_size o.layout is.aim.slot) o.image in
    let ends = is.ends in (
      λ end. cut_only options.cut options.fail (count_of options o is.aim) k whole
          (whole_session (slot_size o.layout is.aim.slot) o.image) (sym ends ∙ end),
      λ chosen. ends ∙ cut_then options.cut options.fail (count_of options o is.aim) k whole
          chosen.0 chosen.1,
    )

pub failure_reached : FailureIsReached
failure_reached options o t k is =
    let whole = session_end (slot_size o.layout is.aim.slot) o.image in
    let ends = is.ends in (
      λ end. failure_only options.cut options.fail (count_of options o is.aim) k whole
          (whole_session (slot_size o.layout is.aim.slot) o.image) (sym ends ∙ end),
      λ chosen. ends ∙ failure_then options.cut options.fail (count_of options o is.aim) k whole
          is.sound.one chosen.0 chosen.1,
    )

pub else_by_image : ElseByImage
else_by_image options o t is cut_ahead fail_ahead =
    is.ends
    ∙ unbroken_end options.cut options.fail (count_of options o is.aim) _ cut_ahead fail_ahead
