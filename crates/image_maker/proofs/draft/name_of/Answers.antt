use Rattle.std.proofs.Common.{◌≡◌, sym, ◌∙◌, refl, true, false}
use Rattle.std.specs.Prelude.{Bool, ◌==◌, slice_index}
use Rattle.std.specs.Str.{is_utf8, IsUtf8}
use Rattle.std.proofs.lemmas.Str.{is_utf8-from_IsUtf8, IsUtf8-from_is_utf8}
use Rattle.image_maker.specs.PlanText.{is_name}
use Rattle.image_maker.proofs.draft.name_of.Goals as goal

-- a text
pub returns-in-Ok : goal.returns-in-Ok
unfolding is_name
returns-in-Ok c =
    let first : (slice_index c.args.word.now 0 == 45) ≡ false = sym c.begins_with.ensures.exact ∙ c.if-begins_with.false in
    let text : is_utf8 c.args.word.now ≡ true = is_utf8-from_IsUtf8 c.args.word.now c.in-Ok.ensures.cases.1 in
    record { exact = (rw (first, text) refl, c.in-Ok.ensures.cases.0) }

-- a test that would prove what is not so
refuted : {P : Type 0} (test : Bool) → (test ≡ true → P) → (P → ⊥) → test ≡ false
refuted true means none = absurd (none (means refl))
refuted false means none = refl

-- no text
pub returns-in-Err : goal.returns-in-Err
unfolding is_name
returns-in-Err c =
    let first : (slice_index c.args.word.now 0 == 45) ≡ false = sym c.begins_with.ensures.exact ∙ c.if-begins_with.false in
    let none : is_utf8 c.args.word.now ≡ false =
    refuted {P = IsUtf8 c.args.word.now} (is_utf8 c.args.word.now) (IsUtf8-from_is_utf8 c.args.word.now) c.in-Err.ensures.cases.0 in
    record { exact = rw (first, none) refl }
