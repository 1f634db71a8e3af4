use Rattle.std.proofs.Common.{ℕ, List, subst, sym}
use Rattle.std.specs.Prelude.{IfOk}
use Rattle.image_verify.specs.declared.reader.Reader.{Reader}
use Rattle.image_verify.specs.Fed.{IsFed}
use Rattle.image_verify.specs.Info.{IsInfo}
use Rattle.image_verify.proofs.VerifierFacts.{ok_whole, ok_info}
use Rattle.image_verify.proofs.verifier.Verifier.finish.Goals as goal

-- Ok exactly on whole images
pub returns-clause-whole : goal.returns-clause-whole
returns-clause-whole c = λ limit bytes read.
    ok_whole c.self.inside.reader c.finish.result limit bytes c.finish.ensures.ok c.finish.ensures.err
    (subst (λ (v : Reader). IsFed v limit bytes) (sym c.self.view_is) read)

-- with what they are
pub returns-clause-ok : goal.returns-clause-ok
returns-clause-ok c =
    subst (λ (v : Reader). IfOk c.finish.result (λ info. (limit : ℕ) (bytes : List ℕ) → IsFed v limit bytes → IsInfo bytes info))
    c.self.view_is (ok_info c.self.inside.reader c.finish.result c.finish.ensures.ok)
