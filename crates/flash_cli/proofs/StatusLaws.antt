-- The status of an update by how its last leg ends, and the text of a sweep by what boots behind each cut.
use Rattle.std.proofs.Common.{◌≡◌, ℕ, suc, List, [], ◌∷◌, ◌++◌, length, Option, Some, refl, sym, ap, ◌∙◌, arith}
use Rattle.partition_table.specs.declared.app.App.{App}
use Rattle.boot_run.specs.declared.booted.Booted.{Booted}
use Rattle.boot_run.specs.Verified.{Starts}
use Rattle.update_steps.proofs.SessionLemmas.{ShowsNone}
use Rattle.power_cut.specs.declared.legs.LegEnd.{LegEnd}
use Rattle.power_cut.specs.declared.legs.LegEnd.TheVariants.{Done as DoneEnd, Device, Cut, FirstByte, Empty, Bad}
use Rattle.power_cut.specs.declared.swept.Sweep.{Sweep}
use Rattle.flash_text.specs.BootText.{steps_line}
use Rattle.flash_text.specs.SweepText.{cut_line, cut_lines, sweep_text}
use Rattle.update_run.specs.CutLaws.{AreBootsFrom, AreSameSweeps}
use Rattle.update_run.specs.Updating.{last_end}
use Rattle.update_run.proofs.AimLaws.{one_flash}
use Rattle.update_run.proofs.CutLaws.{are_one, cut_by_files}
use Rattle.update_run.proofs.UpdateLaws.{cut_reached, else_by_image, failure_reached}
use Rattle.flash_cli.specs.declared.status.Status.TheVariants.{DeviceFault, Done, PowerCut}
use Rattle.flash_cli.specs.StatusLaws.{DeviceFaultIsReached, DoneLeavesOneFlash, ElseStatusIsByImage, PowerCutIsReached, PowerCutLeavesCutFlash, SilentSweepsHaveOneText}
use Rattle.flash_cli.specs.Updating.{status_by}

-- ---- a status is of one end

-- a loss of power in step k is the end of a leg
cut_by_status : (end : LegEnd) (k : ℕ) → status_by end ≡ PowerCut k → end ≡ Cut k
cut_by_status DoneEnd k is = absurd cc
cut_by_status (Device j) k is = absurd cc
cut_by_status (Cut j) k is = let same : j ≡ k = cc in ap Cut same
cut_by_status (FirstByte byte) k is = absurd cc
cut_by_status Empty k is = absurd cc
cut_by_status (Bad why) k is = absurd cc

-- so is a failure of the device
failure_by_status : (end : LegEnd) (k : ℕ) → status_by end ≡ DeviceFault k → end ≡ Device k
failure_by_status DoneEnd k is = absurd cc
failure_by_status (Device j) k is = let same : j ≡ k = cc in ap Device same
failure_by_status (Cut j) k is = absurd cc
failure_by_status (FirstByte byte) k is = absurd cc
failure_by_status Empty k is = absurd cc
failure_by_status (Bad why) k is = absurd cc

-- a leg whose status is done was made whole
done_by_status : (end : LegEnd) → status_by end ≡ Done → end ≡ DoneEnd
done_by_status DoneEnd is = refl
done_by_status (Device step) is = absurd cc
done_by_status (Cut step) is = absurd cc
done_by_status (FirstByte byte) is = absurd cc
done_by_status Empty is = absurd cc
done_by_status (Bad why) is = absurd cc

-- ---- an update

pub status_cut : PowerCutIsReached
status_cut options o t k is =
    let reached = cut_reached options o t k is in (
      λ status. reached.0 (cut_by_status (last_end t.legs.items) k status),
      λ chosen. ap status_by (reached.1 chosen),
    )

pub status_failure : DeviceFaultIsReached
status_failure options o t k is =
    let reached = failure_reached options o t k is in (
      λ status. reached.0 (failure_by_status (last_end t.legs.items) k status),
      λ chosen. ap status_by (reached.1 chosen),
    )

pub status_else : ElseStatusIsByImage
status_else options o t is cut_ahead fail_ahead =
    ap status_by (else_by_image options o t is cut_ahead fail_ahead)

pub status_flash : DoneLeavesOneFlash
status_flash o a b s t upto one two s_done t_done =
    one_flash o a b s t upto one two (done_by_status (last_end s.legs.items) s_done)
    (done_by_status (last_end t.legs.items) t_done)

pub status_by_files : ShowsNone → PowerCutLeavesCutFlash
status_by_files shown flash image text options o t k is silent status =
    cut_by_files shown flash image text options o t k is silent
    (cut_by_status (last_end t.legs.items) k status)

-- ---- two sweeps

-- two values that are there
pair_of : (p q : App × List ℕ) → Some p ≡ Some q → p ≡ q
pair_of p q is = cc is

-- a line tells the application and the length of its image alone
line_same : (k : ℕ) (found : Option (App × List ℕ)) (a b : Booted) → Starts found a.app a.info
    → Starts found b.app b.info → cut_line k a ≡ cut_line k b
unfolding cut_line
line_same k found a b one two =
    let pair = pair_of (a.app, one.image) (b.app, two.image) (sym one.is ∙ two.is) in
    let app : a.app ≡ b.app = ap (λ (p : App × List ℕ). p.0) pair in
    let image : one.image ≡ two.image = ap (λ (p : App × List ℕ). p.1) pair in
    let long : a.info.length ≡ b.info.length =
    one.told.long ∙ ap (λ (l : List ℕ). length l) image ∙ sym two.told.long in
    rw (app, long) refl

-- so do all lines
lines_same : (boots : ℕ → Option (App × List ℕ)) (k : ℕ) (xs ys : List Booted)
    → length xs ≡ length ys → AreBootsFrom boots k xs → AreBootsFrom boots k ys
    → cut_lines k xs ≡ cut_lines k ys
lines_same boots k [] [] long one two = refl
lines_same boots k [] (y ∷ ys) long one two = absurd (omega (arith, long))
lines_same boots k (x ∷ xs) [] long one two = absurd (omega (arith, long))
lines_same boots k (x ∷ xs) (y ∷ ys) long one two =
    ap (λ (l : List ℕ). l ++ cut_lines (suc k) xs) (line_same k (boots k) x y one.0 two.0)
    ∙ ap (λ (l : List ℕ). cut_line k y ++ l)
    (lines_same boots (suc k) xs ys (omega (arith, long)) one.1 two.1)

-- so have the texts
texts_same : (s t : Sweep) → AreSameSweeps s t → sweep_text s ≡ sweep_text t
unfolding sweep_text
texts_same s t same =
    ap (λ n. steps_line n ++ cut_lines 1 s.after.items) same.steps
    ∙ ap (λ (l : List ℕ). steps_line t.steps ++ l)
    (lines_same same.boots 1 s.after.items t.after.items same.places same.first same.second)

pub one_text : ShowsNone → SilentSweepsHaveOneText
one_text shown flash image a_text b_text a b a_driver b_driver tear a_aim b_aim s t a_below b_below
    one two s_is t_is =
    texts_same s t
    (are_one shown flash image a_text b_text a b a_driver b_driver tear a_aim b_aim s t a_below
    b_below one two s_is t_is)
