use Rattle.std.proofs.Common.{◌≡◌, ◌++◌, ◌∷◌, [], rules}
use Rattle.power_cut.proofs.SweepLemmas.{cut_more, place_more}
use Rattle.power_cut.proofs.sweeping.Updates.cuts.Goals as goal

-- one step more
pub loop-made-preserved : goal.loop-made-preserved
loop-made-preserved g c =
    let pushed : c.push.new.self.items
    ≡ c.loop-made.after.items ++ c.in_ok-left.booted ∷ [] = search rules in
    record {
      room = c.in_ok-left.ensures.room;
      places = place_more c.loop-made.after.items c.push.new.self.items c.in_ok-left.booted
          c.loop-made.made c.loop-made.invariant.places pushed;
      cuts = cut_more _ _ _ _ _ _ _ c.loop-made.after.items c.push.new.self.items
          c.in_ok-left.booted c.loop-made.made c.loop-made.invariant.cuts
          c.loop-made.invariant.places c.in_ok-left.ensures.cut pushed;
    }
