-- How the frame under way shows in a contract.
use Rattle.std.specs.Prelude.{◌≡◌, [], ◌≤◌, length}
use Rattle.slip_loader.specs.declared.frame.Frame.TheInside.{Inside}
use Rattle.slip_loader.specs.declared.frame.Mode.TheVariants as modes
use Rattle.slip_loader.specs.Frames.{Behind}

-- the mode and the bytes
abbrev pub behind_of : Inside → Behind
behind_of frame = record { mode = frame.mode; bytes = frame.bytes.items }

-- outside a frame that is read there are no bytes
pub record IsFrame (frame : Inside) : Type 0 where
  pub few : length frame.bytes.items ≤ 4120
  pub before : frame.mode ≡ modes.Before → frame.bytes.items ≡ []
  pub dropped : frame.mode ≡ modes.Dropped → frame.bytes.items ≡ []
