use Rattle.std.proofs.Common.{◌≡◌, length, Ok}
use Rattle.crash_images.specs.Agrees.{Agrees}
use Rattle.flash_steps.specs.Parts.{open_addresses}
use Rattle.power_cut.specs.Sweep.{AreCutFrom, IsUntouched}
use Rattle.power_cut.proofs.sweeping.Updates.cuts.Given as goal

-- what boots behind the cuts so far, and room for the next flash
abbrev pub invariant-loop-made : goal.invariant-loop-made
invariant-loop-made g l = let u = g.U.Runner in record {
  room : Agrees
      (IsUntouched l.self.layout.now l.self.aim.now (open_addresses l.self.rows.now))
      l.self.flash.now l.bytes.items;
  places : length l.after.items ≡ l.made;
  cuts : AreCutFrom (λ dev ran. u.has_written l.self.runner.now dev l.self.aim l.self.image (Ok ran))
      (λ dev at write ran. u.has_confirmed l.self.runner.now dev at write (Ok ran))
      l.self.layout.now l.self.flash.now l.self.tear l.self.aim.now l.self.image.now 1
      l.after.items;
}
