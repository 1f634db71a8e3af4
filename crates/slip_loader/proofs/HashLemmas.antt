-- A range that is hashed piece by piece.
use Rattle.std.specs.Prelude.{◌≡◌, ℕ, ◌+◌, List, ◌++◌, take, drop, Option, Some, None, IfSome}
use Rattle.std.proofs.Common.{sym, ap, subst, ◌∙◌}
use Rattle.std.proofs.Math.Seq.{take-add}
use Rattle.std.proofs.lemmas.List.{drop-drop}
use Rattle.md5.specs.declared.Md5.{Md5}
use Rattle.md5.specs.Md5.{Holds}
use Rattle.nor_device.specs.Nor.{part_of}

-- one piece more
pub hashed_more : (told mid : Option (List ℕ)) (before after : Md5) (at done more got : ℕ)
    → mid ≡ told → got ≡ more → IfSome told (λ flash. Holds before (part_of flash at done))
    → IfSome mid (λ flash. (m : List ℕ) → Holds before m
    → Holds after (m ++ part_of flash (at + done) got))
    → IfSome told (λ flash. Holds after (part_of flash at (done + more)))
hashed_more None mid before after at done more got same all hashed fed = tt
hashed_more (Some flash) mid before after at done more got same all hashed fed =
    let on = subst (λ (o : Option (List ℕ)). IfSome o (λ f. (m : List ℕ) → Holds before m
    → Holds after (m ++ part_of f (at + done) got))) same fed in
    let joined : part_of flash at done ++ part_of flash (at + done) got
    ≡ part_of flash at (done + more) =
    ap (λ (n : ℕ). part_of flash at done ++ part_of flash (at + done) n) all
    ∙ ap (λ (xs : List ℕ). part_of flash at done ++ take more xs) (sym (drop-drop done at flash))
    ∙ sym (take-add done more (drop at flash)) in
    subst (λ (xs : List ℕ). Holds after xs) joined (on (part_of flash at done) hashed)
