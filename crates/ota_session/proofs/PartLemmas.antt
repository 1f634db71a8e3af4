-- What each core may do, by its own share.
use Rattle.std.proofs.Common.{◌≡◌, ◌≢◌, Bool, true, false, ℕ, List, [], ◌∷◌, ◌++◌, refl, sym, ap, ◌∙◌, subst, arith, append_assoc, append-nil}
use Rattle.std.specs.Prelude.{◌==◌, if◌then◌else◌}
use Rattle.std.specs.List.{AllByRecursion}
use Rattle.std.proofs.lemmas.Bool.Decides.{nat_tests}
use Rattle.nor_device.specs.declared.step.Step.{Step}
use Rattle.partition_table.specs.declared.row.Row.{Row}
use Rattle.flash_steps.specs.Parts.{LiesInOpenPart}
use Rattle.bus_hub.specs.declared.did.Base.{Base}
use Rattle.bus_hub.specs.declared.did.Did.{Did}
use Rattle.bus_hub.specs.Shares.{made, moved_by}
use Rattle.flash_ops.specs.Asked.{GrantsAll}
use Rattle.ota_session.specs.declared.part.UpdatePart.{UpdatePart}
use Rattle.ota_session.specs.declared.part.UpdatePart.TheVariants.{Driver, Other}
use Rattle.ota_session.specs.Course.{Course, Grants, part_after, part_of}

-- the part of the driver
pub driver_part : (course : Course) (c : ℕ) → c ≡ course.driver
    → part_of course c ≡ Driver course.made course.rest
driver_part course c is =
    let own : (c == course.driver) ≡ true = grind (arith, nat_tests) in
    ap (λ (t : Bool). if t then Driver course.made course.rest else Other course.rows) own

-- and of the other core
pub other_part : (course : Course) (c : ℕ) → c ≢ course.driver
    → part_of course c ≡ Other course.rows
other_part course c apart =
    let aside : (c == course.driver) ≡ false = grind (arith, nat_tests) in
    ap (λ (t : Bool). if t then Driver course.made course.rest else Other course.rows) aside

-- a part that is a driver's tells the steps that are made, and those to come
pub part_tells : (course : Course) (c : ℕ) (before rest : List Step)
    → part_of course c ≡ Driver before rest → (course.made ≡ before) × (course.rest ≡ rest)
part_tells course c before rest is = by (c == course.driver) is
  where
    by : (own : Bool)
        → (if own then Driver course.made course.rest else Other course.rows) ≡ Driver before rest
        → (course.made ≡ before) × (course.rest ≡ rest)
    by true is = (cc, cc)
    by false is = absurd cc

-- ---- one step after the other

-- the driver's part, behind some of its steps
pub driven_by : (before steps rest : List Step)
    → moved_by part_after (Driver before (steps ++ rest)) steps ≡ Driver (before ++ steps) rest
driven_by before [] rest = ap (λ (m : List Step). Driver m rest) (sym (append-nil before))
driven_by before (step ∷ steps) rest = driven_by (before ++ (step ∷ [])) steps rest
    ∙ ap (λ (m : List Step). Driver m rest) (append_assoc before (step ∷ []) steps)

-- the other core's part stays
pub aside_by : (rows : List Row) (steps : List Step)
    → moved_by part_after (Other rows) steps ≡ Other rows
aside_by rows [] = refl
aside_by rows (step ∷ steps) = aside_by rows steps

-- the driver may make its next steps
grants_driven : (before steps rest : List Step)
    → GrantsAll Grants part_after (Driver before (steps ++ rest)) steps
grants_driven before [] rest = tt
grants_driven before (step ∷ steps) rest = (refl, grants_driven (before ++ (step ∷ [])) steps rest)

-- and the other core any steps in open partitions
grants_aside : (rows : List Row) (steps : List Step) → AllByRecursion (LiesInOpenPart rows) steps
    → GrantsAll Grants part_after (Other rows) steps
grants_aside rows [] lie = tt
grants_aside rows (step ∷ steps) lie = (lie.0, grants_aside rows steps lie.1)

-- ---- by a core's share

module _ {S : Type 0} (b : Base S Course) (c : ℕ) (share : List Did) where
  -- the part of the driver, where its share has made these of the steps to come
  pub driver_now : (done rest : List Step) → c ≡ b.duty.driver → b.duty.rest ≡ done ++ rest
      → made share ≡ done
      → moved_by part_after (part_of b.duty c) (made share) ≡ Driver (b.duty.made ++ done) rest
  driver_now done rest is split did =
      ap (λ (p : UpdatePart). moved_by part_after p (made share)) (driver_part b.duty c is)
      ∙ ap (λ (l : List Step). moved_by part_after (Driver b.duty.made l) (made share)) split
      ∙ ap (λ (l : List Step). moved_by part_after (Driver b.duty.made (done ++ rest)) l) did
      ∙ driven_by b.duty.made done rest

  -- it may make those that follow
  pub driver_may : (done steps rest : List Step) → c ≡ b.duty.driver
      → b.duty.rest ≡ done ++ (steps ++ rest) → made share ≡ done
      → GrantsAll Grants part_after (moved_by part_after (part_of b.duty c) (made share)) steps
  driver_may done steps rest is split did =
      subst (λ (p : UpdatePart). GrantsAll Grants part_after p steps)
      (sym (driver_now done (steps ++ rest) is split did))
      (grants_driven (b.duty.made ++ done) steps rest)

  -- the other core may make any steps in open partitions, whatever it has made
  pub other_may : (steps : List Step) → c ≢ b.duty.driver
      → AllByRecursion (LiesInOpenPart b.duty.rows) steps
      → GrantsAll Grants part_after (moved_by part_after (part_of b.duty c) (made share)) steps
  other_may steps apart lie =
      subst (λ (p : UpdatePart). GrantsAll Grants part_after p steps)
      (sym (ap (λ (p : UpdatePart). moved_by part_after p (made share)) (other_part b.duty c apart)
      ∙ aside_by b.duty.rows (made share)))
      (grants_aside b.duty.rows steps lie)
