use Rattle.std.proofs.Common.{◌≡◌, ◌≤◌, ◌-◌, ℕ, List, ◌++◌, length, subst, sym, arith, take, refl}
use Rattle.std.proofs.lemmas.List.{take_all}
use Rattle.image_verify.specs.declared.reader.Reader.{Reader}
use Rattle.image_verify.specs.Fed.{IsFed}
use Rattle.image_verify.proofs.Steps.{fed_tail}
use Rattle.image_verify.proofs.reader.Reader.in_tail.Goals as goal

-- what is wanted is kept
pub returns-clause-fed : goal.returns-clause-fed
returns-clause-fed c = λ limit bytes fed.
    let piece = c.args.piece.now in
    let kept : Reader = record c.args.self.now { seen = c.saw.new.self; buffer = c.keep.new.kept } in
    subst (λ (xs : List ℕ). IsFed kept limit (bytes ++ xs))
    (sym (take_all (length piece) piece (omega arith)))
    (fed_tail c.args.self.now limit bytes piece c.saw.new.self kept fed c.requires.body c.requires.none_left
    c.requires.past (c.saw.ensures bytes fed.seen) refl
    (subst (λ (n : ℕ). length c.args.self.now.buffer.items ≤ n - c.args.self.now.end
    → c.keep.new.kept.items ≡ take (n - c.args.self.now.end) (c.args.self.now.buffer.items ++ piece))
    c.need.ensures c.keep.ensures))
