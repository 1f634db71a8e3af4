-- A partition that is read in pieces, as far as its image is wanted.
use Rattle.std.proofs.Common.{◌≡◌, ℕ, ◌+◌, ◌-◌, ◌≤◌, List, ◌++◌, length, take, drop, refl, sym, ap, ◌∙◌, subst, arith, length-drop}
use Rattle.std.specs.Prelude.{min, ◌↔◌, Option, Some, None, IfSome, Result, Ok, Err, IsOk, IfOk, IfErr}
use Rattle.std.specs.Result.{result_ok}
use Rattle.std.proofs.Math.Seq.{take-add}
use Rattle.std.proofs.lemmas.List.{length-take, drop-take, take-take, drop-drop}
use Rattle.partition_table.specs.declared.row.Row.{Row}
use Rattle.nor_device.specs.Nor.{part_of}
use Rattle.boot_select.specs.Boots.{slot_in}
use Rattle.image_layout.specs.Whole.{Whole}
use Rattle.image_verify.specs.declared.bad.BadImage.{BadImage}
use Rattle.image_verify.specs.declared.info.ImageInfo.{ImageInfo}
use Rattle.image_verify.specs.declared.reader.Reader.{Reader}
use Rattle.image_verify.specs.Walk.{plan}
use Rattle.image_verify.specs.Bad.{bad}
use Rattle.image_verify.specs.Held.{held}
use Rattle.image_verify.specs.Info.{IsInfo, HoldsWith}
use Rattle.image_verify.specs.Fed.{HasRead, wanted_by}
use Rattle.image_verify.proofs.SlotFacts.{AtMost, at_most_more, slot_told, slot_refused}
use Rattle.boot_run.specs.Verified.{IsVerified}

-- between two pieces: so many bytes of the slot were read, and so many are read next
pub record Between (verifier : Reader) (slot : List ℕ) (done more : ℕ) : Type 0 where
  pub within : done ≤ length slot
  pub read : HasRead verifier (length slot) (take done slot)
  pub most : AtMost (take done slot) (plan (length slot) (take done slot))
  pub wanted : more ≡ min (min (wanted_by (take done slot) (plan (length slot) (take done slot)))
      (length slot - done)) 4096

-- one piece more
pub between_more : (before after : Reader) (slot : List ℕ) (done more next wanted : ℕ)
    → Between before slot done more
    → ((limit : ℕ) (bytes : List ℕ) → HasRead before limit bytes
    → HasRead after limit (bytes ++ take more (drop done slot)))
    → ((limit : ℕ) (bytes : List ℕ) → HasRead after limit bytes → wanted
    ≡ wanted_by bytes (plan limit bytes))
    → next ≡ min (min wanted (length slot - (done + more))) 4096
    → Between after slot (done + more) next
between_more before after slot done more next wanted b fed tells is =
    let joined : take done slot ++ take more (drop done slot) ≡ take (done + more) slot = sym
    (take-add done more slot) in
    let read = subst (HasRead after (length slot)) joined
    (fed (length slot) (take done slot) b.read) in
    let few : length (take more (drop done slot)) ≤ wanted_by (take done slot)
    (plan (length slot) (take done slot)) =
    omega (arith, length-take more (drop done slot), b.wanted) in
    record {
      within = omega (arith, b.within, b.wanted);
      read = read;
      most = subst (λ (xs : List ℕ). AtMost xs (plan (length slot) xs)) joined
          (at_most_more (length slot) (take done slot) (take more (drop done slot)) b.most few);
      wanted = is ∙ ap (λ n. min (min n (length slot - (done + more))) 4096)
          (tells (length slot) (take (done + more) slot) read);
    }

-- a partition has as many bytes as its row says
pub slot_long : (flash : List ℕ) (row : Row) → row.offset + row.size ≤ length flash
    → length (slot_in flash row) ≡ row.size
slot_long flash row inside =
    omega (arith, length-take row.size (drop row.offset flash), length-drop row.offset flash)

-- a piece of a partition is a piece of the flash
pub piece_of_slot : (flash : List ℕ) (row : Row) (done more : ℕ) → done + more ≤ row.size
    → part_of flash (row.offset + done) more ≡ take more (drop done (slot_in flash row))
piece_of_slot flash row done more inside =
    let rest : row.size ≡ done + (row.size - done) = omega arith in
    sym (ap (λ n. take more (drop done (take n (drop row.offset flash)))) rest
    ∙ ap (take more) (drop-take done (row.size - done) (drop row.offset flash))
    ∙ take-take more (row.size - done) (drop done (drop row.offset flash)) (omega arith)
    ∙ ap (take more) (drop-drop done row.offset flash))

-- the same of a device that tells its bytes
pub told_more : (told mid : Option (List ℕ)) (before after : Reader) (row : Row)
    (done more got next wanted : ℕ) → mid ≡ told → got ≡ more → done + more ≤ row.size
    → ((flash : List ℕ) → told ≡ Some flash → row.offset + row.size ≤ length flash)
    → IfSome told (λ flash. Between before (slot_in flash row) done more)
    → IfSome mid (λ flash. (limit : ℕ) (bytes : List ℕ) → HasRead before limit bytes
    → HasRead after limit (bytes ++ part_of flash (row.offset + done) got))
    → ((limit : ℕ) (bytes : List ℕ) → HasRead after limit bytes → wanted
    ≡ wanted_by bytes (plan limit bytes))
    → next ≡ min (min wanted (row.size - (done + more))) 4096
    → IfSome told (λ flash. Between after (slot_in flash row) (done + more) next)
told_more None mid before after row done more got next wanted same all inside sized between fed
    tells is = tt
told_more (Some flash) mid before after row done more got next wanted same all inside sized between
    fed tells is =
    let on = subst (λ (m : Option (List ℕ)). IfSome m
    (λ f. (limit : ℕ) (bytes : List ℕ) → HasRead before limit bytes
    → HasRead after limit (bytes ++ part_of f (row.offset + done) got))) same fed in
    let long = slot_long flash row (sized flash refl) in
    between_more before after (slot_in flash row) done more next wanted between
    (λ limit bytes read. subst (λ (xs : List ℕ). HasRead after limit (bytes ++ xs))
    (ap (part_of flash (row.offset + done)) all ∙ piece_of_slot flash row done more inside)
    (on limit bytes read)) tells
    (is ∙ ap (λ n. min (min wanted (n - (done + more))) 4096) (sym long))

-- after the last piece
pub told_last : (told : Option (List ℕ)) (verifier : Reader) (row : Row) (done : ℕ)
    (result : Result ImageInfo BadImage) (found : Option ImageInfo) → found ≡ result_ok result
    → IfSome told (λ flash. Between verifier (slot_in flash row) done 0)
    → ((limit : ℕ) (bytes : List ℕ) → HasRead verifier limit bytes
    → (IsOk result ↔ Whole bytes limit))
    → IfOk result (λ info. (limit : ℕ) (bytes : List ℕ) → HasRead verifier limit bytes
    → IsInfo bytes info)
    → IfErr result (λ why. (limit : ℕ) (bytes : List ℕ) → HasRead verifier limit bytes
    → bad limit bytes ≡ Some why)
    → IfSome told (λ flash. IsVerified (slot_in flash row) found)
told_last None verifier row done result found is between whole ok err = tt
told_last (Some flash) verifier row done result found is between whole ok err =
    subst (IsVerified (slot_in flash row)) (sym is)
    (by result (slot_told verifier result (slot_in flash row) done between.read
    (whole (length (slot_in flash row)) (take done (slot_in flash row)) between.read) ok)
    (slot_refused verifier result (slot_in flash row) done between.read between.within between.most
    (omega (arith, between.wanted)) err))
  where
    by : (r : Result ImageInfo BadImage) → IfOk r (HoldsWith (slot_in flash row))
        → IfErr r (λ why. held (slot_in flash row) ≡ None) → IsVerified (slot_in flash row)
        (result_ok r)
    by (Ok info) told none = told
    by (Err why) told none = none
