-- What a confirmation and a rejection of a flash come to.
use Rattle.std.proofs.Common.{◌≡◌, ℕ, ◌<◌, Bool, List, length, Option, Some, None, IfSome, Result, Ok, Err, sym, ap, ◌∙◌, subst}
use Rattle.nor_device.specs.declared.step.Step.{Step}
use Rattle.nor_device.specs.declared.nor.StepEnd.{StepEnd}
use Rattle.nor_device.specs.declared.nor.NorFault.{NorFault}
use Rattle.nor_device.specs.Flash.{after_steps}
use Rattle.partition_table.specs.declared.app.App.{App}
use Rattle.partition_table.specs.declared.app.App.TheVariants.{Ota}
use Rattle.partition_table.specs.Layout.{Places}
use Rattle.otadata.specs.declared.entry.Entry.{Entry}
use Rattle.image_verify.specs.Held.{held}
use Rattle.boot_select.specs.Boots.{entries_in, images_in, names}
use Rattle.rollback.specs.declared.rewrite.Rewrite.{Rewrite}
use Rattle.rollback.specs.declared.verdict.RejectNo.{RejectNo}
use Rattle.rollback.specs.Verdict.{reject_of}
use Rattle.rollback.proofs.VerdictLemmas.{reject-told}
use Rattle.boot_run.specs.declared.told.Told.{Told}
use Rattle.boot_run.specs.Made.{AreMade}
use Rattle.boot_run.specs.Read.{OfWhole, whole_in}
use Rattle.boot_run.specs.Rewriting.{rewrites}
use Rattle.boot_run.specs.Verdict.{Answers, Tells, just_one, rejection, writes_of}
use Rattle.flash_text.specs.declared.refusal.Refusal.{Refusal}
use Rattle.flash_cli.specs.Reject.{reject_refusal}
use Rattle.flash_cli.specs.Verdict.{Judged, VerdictEnds, judged_by}

-- a flash of which this slot was told, with so many steps, and what is left of it
abbrev pub judged_of : Told → List ℕ → Judged
judged_of told left = record { app = Ota told.slot; steps = told.steps; flash = left }

-- the two bytes of a device that tells them are the same
same_bytes : (told : Option (List ℕ)) (one two : List ℕ) → told ≡ Some one → told ≡ Some two
    → one ≡ two
same_bytes told one two is also = cc

module _ {E : Type 0} (refusal : E → Refusal) (flash : List ℕ) (layout : Places) where
  -- what was told on a device with this flash is what comes of the flash
  ends_judged : (left : List ℕ) (now : Option (List ℕ)) (made : Result (List Rewrite) E)
      (told : Told) → VerdictEnds refusal layout flash now made (Ok told) → now ≡ Some left
      → judged_by refusal flash layout made ≡ Ok (judged_of told left)
  ends_judged left now (Ok writes) told ends now_is =
      let same : after_steps flash (rewrites layout.otadata writes) ≡ left =
      same_bytes now (after_steps flash (rewrites layout.otadata writes)) left ends.left now_is in
      λ i. Ok (record { app = ends.tells.slot i; steps = (sym ends.tells.steps) i; flash = same i })
  ends_judged left now (Err reason) told ends now_is = absurd ends

  -- and so is a refusal
  ends_refused : (now : Option (List ℕ)) (made : Result (List Rewrite) E) (why : Refusal)
      → VerdictEnds refusal layout flash now made (Err why)
      → judged_by refusal flash layout made ≡ Err why
  ends_refused now (Ok writes) why ends = absurd ends
  ends_refused now (Err reason) why ends = ap Err (sym ends)

module _ {E : Type 0} (refusal : E → Refusal) (layout : Places)
    (made : List ℕ → Result (List Rewrite) E) (flash : List ℕ) (told : Option (List ℕ)) (told_is : told ≡ Some flash) where
  -- so where the device told this flash
  pub verdict_judged : (left : List ℕ) (now : Option (List ℕ)) (answer : Told)
      → IfSome told (λ bytes. VerdictEnds refusal layout bytes now (made bytes) (Ok answer))
      → now ≡ Some left
      → judged_by refusal flash layout (made flash) ≡ Ok (judged_of answer left)
  verdict_judged left now answer ends now_is =
      ends_judged refusal flash layout left now (made flash) answer
      (subst (λ (o : Option (List ℕ)).
      IfSome o (λ bytes. VerdictEnds refusal layout bytes now (made bytes) (Ok answer)))
      told_is ends) now_is

  pub verdict_refused : (now : Option (List ℕ)) (why : Refusal)
      → IfSome told (λ bytes. VerdictEnds refusal layout bytes now (made bytes) (Err why))
      → judged_by refusal flash layout (made flash) ≡ Err why
  verdict_refused now why ends =
      ends_refused refusal flash layout now (made flash) why
      (subst (λ (o : Option (List ℕ)).
      IfSome o (λ bytes. VerdictEnds refusal layout bytes now (made bytes) (Err why)))
      told_is ends)

-- the answer of a rejection as one of the command
abbrev pub said_by : Result Told RejectNo → Result Told Refusal
said_by (Ok told) = Ok told
said_by (Err why) = Err (reject_refusal why)

-- what was answered by the rewrites of a flash's entries
answer_ends : (layout : Places) (flash : List ℕ) (now : Option (List ℕ)) (entries : ℕ → Entry)
    (made : Result (List Rewrite) RejectNo) (said : Result Told RejectNo)
    → entries ≡ entries_in layout flash
    → now ≡ Some (after_steps flash (rewrites layout.otadata (writes_of made)))
    → Answers layout.otadata (names layout entries) made said
    → VerdictEnds reject_refusal layout flash now made (said_by said)
answer_ends layout flash now entries (Ok writes) (Ok told) read left answers = record {
  tells = subst (λ (es : ℕ → Entry). Tells layout.otadata (names layout es) writes told) read answers;
  left = left;
}
answer_ends layout flash now entries (Ok writes) (Err why) read left answers = absurd answers
answer_ends layout flash now entries (Err reason) (Ok told) read left answers = absurd answers
answer_ends layout flash now entries (Err reason) (Err why) read left answers =
    ap reject_refusal answers

-- truth values that tell which applications are whole give the rejection of the flash
rejection_is : (layout : Places) (flash : List ℕ) (P : (ℕ → Entry) → (App → Bool) → Type 0)
    (of : OfWhole layout (Some flash) P) → 0 < length layout.slots
    → rejection layout of.whole of.entries
    ≡ rejection layout (whole_in layout flash) (entries_in layout flash)
rejection_is layout flash P of some =
    ap just_one (reject-told layout of.whole (images_in held layout flash) (of.entries 0)
    (of.entries 1) of.tells some)
    ∙ (λ i. just_one (reject_of layout (whole_in layout flash) (of.read i 0) (of.read i 1)))

module _ {S : Type 0} (may_end : S → ℕ → StepEnd → Type 0)
    (may_tear : S → ℕ → List ℕ → Step → List ℕ → Type 0)
    (may_refuse : S → ℕ → NorFault → Type 0) (must_refuse : S → ℕ → Type 0) where
  -- a rejection on a device that tells its flash
  pub reject_ends : (set : S) (layout : Places) (count after : ℕ) (old now : Option (List ℕ))
      (said : Result Told RejectNo) → 0 < length layout.slots
      → OfWhole layout old (λ entries whole.
      AreMade may_end may_tear may_refuse must_refuse set
      (rewrites layout.otadata (writes_of (rejection layout whole entries))) count after old now
      × Answers layout.otadata (names layout entries) (rejection layout whole entries) said)
      → IfSome old (λ flash. VerdictEnds reject_refusal layout flash now
      (rejection layout (whole_in layout flash) (entries_in layout flash)) (said_by said))
  reject_ends set layout count after None now said some of = tt
  reject_ends set layout count after (Some flash) now said some of =
      subst (λ made. VerdictEnds reject_refusal layout flash now made (said_by said))
      (rejection_is layout flash _ of some)
      (answer_ends layout flash now of.entries (rejection layout of.whole of.entries) said of.read
      of.holds.0.bytes of.holds.1)
