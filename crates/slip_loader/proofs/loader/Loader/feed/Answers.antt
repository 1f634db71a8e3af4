use Rattle.std.proofs.Common.{◌≡◌, ◌≤◌, ℕ, ◌∙◌, ◌∷◌, List, [], length, take, refl, sym, ap, subst}
use Rattle.nor_device.specs.declared.step.Step.{Step}
use Rattle.crash_images.specs.Crash.{IsAfterAll, IsLeftOf}
use Rattle.crash_images.proofs.LeftOf.{after_none}
use Rattle.slip_loader.specs.Frames.{taken_from}
use Rattle.slip_loader.specs.Plans.{command_of, plan_of}
use Rattle.slip_loader.specs.Answers.{plan_answer}
use Rattle.slip_loader.specs.Loads.{State, count_after, load_answers, load_steps, state_after}
use Rattle.slip_loader.specs.View.{Loading}
use Rattle.slip_loader.proofs.LoadLemmas.{answers_none, answers_one, is_false, is_true, of_told, request_long, state_none, state_of, state_one, steps_none, steps_one, told_weaker}
use Rattle.slip_loader.proofs.loader.Loader.feed.Goals as goal

-- ---- no request ended

pub returns-then-not-scan-clause-state : goal.returns-then-not-scan-clause-state
returns-then-not-scan-clause-state g c =
    let l = c.self.inside in
    let bytes = take c.scan-scan.result.taken c.args.piece.now in
    let same = ap (λ (v : Loading). v.state) c.self.view_is in
    state_none l.size l.table l.begun l.frame c.scan-scan.new.self bytes
    (c.scan-scan.ensures.none (is_false c.scan-scan.result.ended c.if-not-scan.true)) (c.scan-scan.ensures.next (is_false c.scan-scan.result.ended c.if-not-scan.true))
    ∙ ap (λ (s : State). state_after s bytes) same

pub returns-then-not-scan-clause-reply : goal.returns-then-not-scan-clause-reply
returns-then-not-scan-clause-reply g c =
    let l = c.self.inside in
    let bytes = take c.scan-scan.result.taken c.args.piece.now in
    let same = ap (λ (v : Loading). v.state) c.self.view_is in
    of_told (g.D.Nor.bytes c.args.device.now)
    (λ (flash : List ℕ). [] ≡ load_answers c.args.self.now.state flash bytes)
    (λ flash. sym (answers_none l.size l.table l.begun l.frame flash bytes
    (c.scan-scan.ensures.none (is_false c.scan-scan.result.ended c.if-not-scan.true)))
    ∙ ap (λ (s : State). load_answers s flash bytes) same)

pub returns-then-not-scan-clause-made : goal.returns-then-not-scan-clause-made
returns-then-not-scan-clause-made g c =
    let l = c.self.inside in
    let told = g.D.Nor.bytes c.args.device.now in
    let bytes = take c.scan-scan.result.taken c.args.piece.now in
    let same = ap (λ (v : Loading). v.state) c.self.view_is in
    let none = sym (steps_none l.size l.table l.begun l.frame bytes
    (c.scan-scan.ensures.none (is_false c.scan-scan.result.ended c.if-not-scan.true))) ∙ ap (λ (s : State). load_steps s bytes) same in
    subst (λ (steps : List Step). IsAfterAll steps told told) none (after_none told told refl)

pub returns-then-not-scan-clause-counted : goal.returns-then-not-scan-clause-counted
returns-then-not-scan-clause-counted g c =
    let l = c.self.inside in
    let bytes = take c.scan-scan.result.taken c.args.piece.now in
    let same = ap (λ (v : Loading). v.state) c.self.view_is in
    let none = sym (steps_none l.size l.table l.begun l.frame bytes
    (c.scan-scan.ensures.none (is_false c.scan-scan.result.ended c.if-not-scan.true))) ∙ ap (λ (s : State). load_steps s bytes) same in
    ap (count_after (g.D.Nor.steps c.args.device.now)) none

-- ---- a request ended

pub respond-requires-clause-head : goal.respond-requires-clause-head
respond-requires-clause-head g c =
    subst (λ (frame : List ℕ). 8 ≤ length frame) (sym c.bytes.ensures.exact)
    (request_long c.scan-scan.new.self.bytes (c.scan-scan.ensures.request (is_true c.scan-scan.result.ended c.if-not-scan.false)))

pub returns-in-Ok-clause-state : goal.returns-in-Ok-clause-state
returns-in-Ok-clause-state g c =
    let l = c.self.inside in
    let bytes = take c.scan-scan.result.taken c.args.piece.now in
    let same = ap (λ (v : Loading). v.state) c.self.view_is in
    let one = c.scan-scan.ensures.one (is_true c.scan-scan.result.ended c.if-not-scan.false)
    ∙ ap (λ (frame : List ℕ). frame ∷ []) (sym c.bytes.ensures.exact) in
    state_one l.size l.table l.begun c.respond.new.begun l.frame c.restart.new.self bytes
    c.bytes.result.now one c.in-Ok.ensures.begun c.restart.ensures.exact
    (c.scan-scan.ensures.restarted (is_true c.scan-scan.result.ended c.if-not-scan.false))
    ∙ ap (λ (s : State). state_after s bytes) same

pub returns-in-Ok-clause-reply : goal.returns-in-Ok-clause-reply
returns-in-Ok-clause-reply g c =
    let l = c.self.inside in
    let frame = c.bytes.result.now in
    let bytes = take c.scan-scan.result.taken c.args.piece.now in
    let same = ap (λ (v : Loading). v.state) c.self.view_is in
    let one = c.scan-scan.ensures.one (is_true c.scan-scan.result.ended c.if-not-scan.false)
    ∙ ap (λ (frame : List ℕ). frame ∷ []) (sym c.bytes.ensures.exact) in
    told_weaker (g.D.Nor.bytes c.args.device.now)
    (λ (flash : List ℕ). c.in-Ok.reply.items
    ≡ plan_answer flash (plan_of l.size l.table l.begun frame) (command_of frame))
    (λ (flash : List ℕ). c.in-Ok.reply.items ∷ []
    ≡ load_answers c.args.self.now.state flash bytes)
    (λ flash is. ap (λ (answer : List ℕ). answer ∷ []) is
    ∙ sym (answers_one l.size l.table l.begun l.frame flash bytes frame one)
    ∙ ap (λ (s : State). load_answers s flash bytes) same) c.in-Ok.ensures.reply

pub returns-in-Ok-clause-made : goal.returns-in-Ok-clause-made
returns-in-Ok-clause-made g c =
    let l = c.self.inside in
    let bytes = take c.scan-scan.result.taken c.args.piece.now in
    let same = ap (λ (v : Loading). v.state) c.self.view_is in
    let one = c.scan-scan.ensures.one (is_true c.scan-scan.result.ended c.if-not-scan.false)
    ∙ ap (λ (frame : List ℕ). frame ∷ []) (sym c.bytes.ensures.exact) in
    let is = sym (steps_one l.size l.table l.begun l.frame bytes c.bytes.result.now one)
    ∙ ap (λ (s : State). load_steps s bytes) same in
    subst (λ (steps : List Step). IsAfterAll steps (g.D.Nor.bytes c.args.device.now)
    (g.D.Nor.bytes c.respond.new.device)) is c.in-Ok.ensures.made

pub returns-in-Ok-clause-counted : goal.returns-in-Ok-clause-counted
returns-in-Ok-clause-counted g c =
    let l = c.self.inside in
    let bytes = take c.scan-scan.result.taken c.args.piece.now in
    let same = ap (λ (v : Loading). v.state) c.self.view_is in
    let one = c.scan-scan.ensures.one (is_true c.scan-scan.result.ended c.if-not-scan.false)
    ∙ ap (λ (frame : List ℕ). frame ∷ []) (sym c.bytes.ensures.exact) in
    let is = sym (steps_one l.size l.table l.begun l.frame bytes c.bytes.result.now one)
    ∙ ap (λ (s : State). load_steps s bytes) same in
    c.in-Ok.ensures.counted ∙ ap (count_after (g.D.Nor.steps c.args.device.now)) is

pub returns-in-Ok-clause-left : goal.returns-in-Ok-clause-left
returns-in-Ok-clause-left g c =
    let l = c.self.inside in
    let piece = c.args.piece.now in
    let bytes = take c.scan-scan.result.taken piece in
    let same = ap (λ (v : Loading). v.state) c.self.view_is in
    let one = c.scan-scan.ensures.one (is_true c.scan-scan.result.ended c.if-not-scan.false)
    ∙ ap (λ (frame : List ℕ). frame ∷ []) (sym c.bytes.ensures.exact) in
    let is = sym (steps_one l.size l.table l.begun l.frame bytes c.bytes.result.now one)
    ∙ ap (λ (n : ℕ). load_steps (state_of l.size l.table l.begun l.frame) (take n piece))
    c.scan-scan.ensures.taken
    ∙ ap (λ (s : State). load_steps s (take (taken_from s.behind piece) piece)) same in
    λ _. subst (λ (steps : List Step). IsLeftOf steps (g.D.Nor.bytes c.args.device.now)
    (g.D.Nor.bytes c.respond.new.device)) is c.respond.ensures.left

pub returns-in-Err-clause-left : goal.returns-in-Err-clause-left
returns-in-Err-clause-left g c =
    let l = c.self.inside in
    let piece = c.args.piece.now in
    let bytes = take c.scan-scan.result.taken piece in
    let same = ap (λ (v : Loading). v.state) c.self.view_is in
    let one = c.scan-scan.ensures.one (is_true c.scan-scan.result.ended c.if-not-scan.false)
    ∙ ap (λ (frame : List ℕ). frame ∷ []) (sym c.bytes.ensures.exact) in
    let is = sym (steps_one l.size l.table l.begun l.frame bytes c.bytes.result.now one)
    ∙ ap (λ (n : ℕ). load_steps (state_of l.size l.table l.begun l.frame) (take n piece))
    c.scan-scan.ensures.taken
    ∙ ap (λ (s : State). load_steps s (take (taken_from s.behind piece) piece)) same in
    λ _. subst (λ (steps : List Step). IsLeftOf steps (g.D.Nor.bytes c.args.device.now)
    (g.D.Nor.bytes c.respond.new.device)) is c.respond.ensures.left
