use Rattle.std.proofs.Common.{ap, sym, ◌∙◌, arith}
use Rattle.duo_machine.specs.Machine.{let_go}
use Rattle.park_words.specs.Views.{gate_word, held_gate}
use Rattle.park_words.proofs.Stories.{quiet_knows_gate}
use Rattle.park_words.proofs.May.{may_end}
use Rattle.park_words.proofs.words.Words.end.Goals as goal

pub exchange_gate-requires-clause-may : goal.exchange_gate-requires-clause-may
exchange_gate-requires-clause-may g c =
    let V = g.V.Records in let small = c.seat.invariant.small in let core =
    c.seat.invariant.core_is in let same = ap (λ z. z.view.core) c.seat.view_is in
    let held = sym (ap (λ z. z.view.held) c.seat.view_is) ∙ c.seat.invariant.held_is in
    may_end V.records V.runs V.stands c.args.seat.now.view _ _ _
    (omega arith) c.requires.quiet c.requires.no_step
    (ap (λ h. gate_word (held_gate h)) held ∙ ap gate_word (sym c.known_gate-from.ensures))
    (ap (λ h. gate_word (let_go (held_gate h))) held ∙ ap gate_word (sym c.gate_let_go-to.ensures))

-- the quiet core finds the gate as it knows it
pub unreachable-requires : goal.unreachable-requires
unreachable-requires g c =
    let small = c.seat.invariant.small in let core = c.seat.invariant.core_is in
    let same = ap (λ z. z.view.core) c.seat.view_is in
    let held = sym (ap (λ z. z.view.held) c.seat.view_is) ∙ c.seat.invariant.held_is in
    let seen = c.in_default.ensures.cause in let kept = c.in_default.ensures.kept in
    let core_kept = ap (λ s. s.view.core) kept in
    quiet_knows_gate _ _ _ c.in_default.field-0.word
    (omega arith) (omega arith) (ap (λ s. s.view.phase) kept ∙ c.requires.quiet)
    (λ e. seen.0 (e ∙ (ap (λ h. gate_word (held_gate h)) (ap (λ s. s.view.held) kept ∙ held)
    ∙ ap gate_word (sym c.known_gate-from.ensures)))) seen.1
