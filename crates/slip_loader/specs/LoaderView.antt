-- The fields of a loader as a contract sees them.
use Rattle.slip_loader.specs.declared.loader.Loader.TheInside.{Inside}
use Rattle.slip_loader.specs.Plans.{AreBegun}
use Rattle.slip_loader.specs.View.{Loading}

-- the fields
abbrev pub loading_of : Inside → Loading
loading_of loader = record {
  state = record {
    size = loader.size;
    table = loader.table;
    begun = loader.begun;
    behind = loader.frame;
  };
  failed = loader.failed;
}

-- the open begin lies in the flash
pub record IsLoader (loader : Inside) : Type 0 where
  pub begun : AreBegun loader.size loader.begun
