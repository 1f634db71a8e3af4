use Rattle.std.proofs.Common.{◌≡◌, drop}
use Rattle.boot_select.specs.Boots.{first_held, images_in}
use Rattle.image_verify.specs.Held.{held}
use Rattle.boot_run.proofs.previewing.first_in.Given as goal

-- those in front have no image
abbrev pub invariant-loop-app : goal.invariant-loop-app
invariant-loop-app l =
    first_held (images_in held l.layout l.flash) (drop l.app-index l.apps)
    ≡ first_held (images_in held l.layout l.flash) l.apps
