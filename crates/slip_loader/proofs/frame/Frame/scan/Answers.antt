use Rattle.std.proofs.Common.{◌≡◌, ℕ, suc, ◌+◌, ◌∙◌, drop, take, get_or, refl, sym, ap, arith, drop-cons}
use Rattle.std.specs.Option.{option_to_list}
use Rattle.std.proofs.lemmas.List.{drop_all, take_more}
use Rattle.slip_loader.specs.Frames.{Behind, after_byte, behind_after, request_at, requests_from, taken_from}
use Rattle.slip_loader.proofs.FrameLemmas.{after_request, behind_more, none_ended, request_is, requests_more, taken_ended, taken_more}
use Rattle.slip_loader.proofs.frame.Frame.scan.Goals as goal

-- at first none was taken
pub loop-i-init : goal.loop-i-init
unfolding behind_after requests_from
loop-i-init c = record { taken = omega arith; next = refl; none = refl }

-- a request ends: so many bytes were taken
pub returns-then-take-clause-taken : goal.returns-then-take-clause-taken
returns-then-take-clause-taken c =
    let xs = c.args.piece.now in
    let i = c.loop-i.i in
    let ends = c.take.ensures.request c.if-take.true in
    let rest = drop-cons xs i 0 c.loop-i-test.true in
    sym (c.loop-i.invariant.taken
    ∙ ap (λ (t : ℕ). i + t)
    (ap (taken_from c.loop-i.self) rest
    ∙ taken_ended c.loop-i.self (get_or xs i 0) (drop (suc i) xs) c.take.new.self.bytes ends))

-- it is the one request of them
pub returns-then-take-clause-one : goal.returns-then-take-clause-one
returns-then-take-clause-one c =
    let xs = c.args.piece.now in
    let i = c.loop-i.i in
    let ends = c.take.ensures.request c.if-take.true in
    λ _. ap (requests_from c.args.self.now) (take_more xs i 0 c.loop-i-test.true)
    ∙ requests_more c.args.self.now (take i xs) (get_or xs i 0) c.loop-i.invariant.none
    ∙ ap (λ (b : Behind). option_to_list (request_at b (get_or xs i 0)))
    (sym c.loop-i.invariant.next)
    ∙ ap option_to_list ends

-- and the next frame begins
pub returns-then-take-clause-restarted : goal.returns-then-take-clause-restarted
returns-then-take-clause-restarted c =
    let xs = c.args.piece.now in
    let i = c.loop-i.i in
    let ends = c.take.ensures.request c.if-take.true in
    λ _. ap (behind_after c.args.self.now) (take_more xs i 0 c.loop-i-test.true)
    ∙ behind_more c.args.self.now (take i xs) (get_or xs i 0)
    ∙ ap (λ (b : Behind). after_byte b (get_or xs i 0)) (sym c.loop-i.invariant.next)
    ∙ after_request c.loop-i.self (get_or xs i 0) c.take.new.self.bytes ends

-- it is a request
pub returns-then-take-clause-request : goal.returns-then-take-clause-request
returns-then-take-clause-request c =
    λ _. request_is c.loop-i.self (get_or c.args.piece.now c.loop-i.i 0) c.take.new.self.bytes
    (c.take.ensures.request c.if-take.true)

-- one byte more
pub loop-i-preserved : goal.loop-i-preserved
loop-i-preserved c =
    let xs = c.args.piece.now in
    let i = c.loop-i.i in
    let byte = get_or xs i 0 in
    let none = sym c.take.ensures.ends ∙ c.if-take.false in
    let next = c.take.ensures.next c.if-take.false in
    let rest = drop-cons xs i 0 c.loop-i-test.true in
    let more = take_more xs i 0 c.loop-i-test.true in
    let one = ap (taken_from c.loop-i.self) rest
    ∙ taken_more c.loop-i.self byte (drop (suc i) xs) none
    ∙ ap (λ (b : Behind). 1 + taken_from b (drop (suc i) xs)) (sym next) in
    let place : suc i ≡ i + 1 = omega arith in
    let here = ap (λ (k : ℕ). taken_from c.take.new.self (drop k xs)) place in
    record {
      taken = omega (arith, c.loop-i.invariant.taken, one, here);
      next = next ∙ ap (λ (b : Behind). after_byte b byte) c.loop-i.invariant.next
          ∙ sym (behind_more c.args.self.now (take i xs) byte)
          ∙ sym (ap (behind_after c.args.self.now) more);
      none = ap (requests_from c.args.self.now) more
          ∙ requests_more c.args.self.now (take i xs) byte c.loop-i.invariant.none
          ∙ ap (λ (b : Behind). option_to_list (request_at b byte)) (sym c.loop-i.invariant.next)
          ∙ none_ended (request_at c.loop-i.self byte) none;
    }

-- all were taken
pub returns-clause-taken : goal.returns-clause-taken
unfolding taken_from
returns-clause-taken c =
    let xs = c.args.piece.now in
    let i = c.loop-i.i in
    let none = ap (taken_from c.loop-i.self) (drop_all i xs (omega arith)) in
    omega (arith, c.loop-i.invariant.taken, none)
