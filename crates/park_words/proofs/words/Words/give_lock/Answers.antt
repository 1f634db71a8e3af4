use Rattle.std.proofs.Common.{rules, ap, sym, ◌≡◌, ◌+◌, ◌<◌, ◌∙◌, subst}
use Rattle.park_words.proofs.Stories.{owner_has_lock}
use Rattle.park_words.proofs.May.{may_give_lock}
use Rattle.park_words.proofs.words.Words.give_lock.Goals as goal

pub exchange-requires-clause-may : goal.exchange-requires-clause-may
exchange-requires-clause-may g c = let V =
    g.V.Records in may_give_lock V.records V.runs V.stands _ _
    (search rules) c.requires.owning c.requires.unsaved

-- the owner of the lock finds its own number there
pub unreachable-requires : goal.unreachable-requires
unreachable-requires g c =
    let before = c.args.seat.now.view in let seen = c.in_default.ensures.cause in
    let kept = c.in_default.ensures.kept in
    let same = ap (λ s. s.view.core) kept in
    let mine : before.core + 1 ≡ c.from-mine.result + 1 = search rules in
    owner_has_lock _ _ c.in_default.field-0.word
    (subst (λ n. n < 2) (sym same) (search rules))
    (ap (λ s. s.view.phase) kept ∙ c.requires.owning)
    (λ e. seen.0 (e ∙ (ap (λ n. n + 1) same ∙ mine))) seen.1
