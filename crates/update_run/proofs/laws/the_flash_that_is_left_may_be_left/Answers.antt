use Rattle.update_run.proofs.MomentLaws.{put_flashes_keep_booting, put_flashes_may_be_left, swept_flashes_may_be_left}
use Rattle.update_run.proofs.laws.the_flash_that_is_left_may_be_left.Goals as goal

pub returns : goal.returns
returns c = record {
  update = put_flashes_may_be_left;
  sweep = swept_flashes_may_be_left;
  keeps = put_flashes_keep_booting;
}
