use Rattle.std.proofs.Common.{◌≡◌, ℕ, List, ◌++◌, ◌+◌, length, take, drop, ap, ◌∙◌, sym, arith, subst}
use Rattle.std.proofs.Math.Seq.{take-add}
use Rattle.std.proofs.lemmas.List.{append_assoc, length-drop, take_rest}
use Rattle.image_verify.specs.Fed.{IsFed}
use Rattle.image_verify.proofs.reader.Reader.feed.Goals as goal

-- a step takes the next part of the piece
pub loop-done-preserved : goal.loop-done-preserved
loop-done-preserved c =
    let piece = c.args.piece.now in
    let before = c.loop-done.invariant in
    let done = c.loop-done.done in
    let part = c.step-done.result in
    let new = c.step-done.new.self in
    let stepped : (limit : ℕ) (bytes : List ℕ) → IsFed c.loop-done.self limit bytes
    → IsFed new limit (bytes ++ take part (drop done piece)) =
    λ limit bytes fed. subst (λ (xs : List ℕ). IsFed new limit (bytes ++ take part xs)) (take_rest piece done)
    (c.step-done.ensures.fed limit bytes fed) in
    let next : (bytes : List ℕ) → (bytes ++ take done piece) ++ take part (drop done piece)
    ≡ bytes ++ take (done + part) piece =
    λ bytes. append_assoc bytes (take done piece) (take part (drop done piece))
    ∙ ap (λ (xs : List ℕ). bytes ++ xs) (sym (take-add done part piece)) in
    record {
      known = record {
        limit = before.known.limit;
        bytes = before.known.bytes ++ take part (drop done piece);
        fed = stepped before.known.limit before.known.bytes before.known.fed;
      };
      within = omega (arith, before.within, c.step-done.ensures.within, length-drop done piece, ap length (take_rest piece done));
      fed = λ limit bytes fed. subst (IsFed new limit) (next bytes)
          (stepped limit (bytes ++ take done piece) (before.fed limit bytes fed));
    }
