use Rattle.flash_cli.proofs.ImageLemmas.{check_is}
use Rattle.flash_cli.proofs.image_check.check_image.Goals as goal

-- the file shows no fault, and the lines are those of the image
pub returns : goal.returns
returns c = record {
  exact = check_is c.args.file.now c.in_ok-info.info _ _ _ c.in_ok-info.ensures.none c.in_ok-info.ensures.ok
      c.new-text.ensures.items c.in_ok-put_image.ensures.ok c.text_only.ensures.exact;
}
