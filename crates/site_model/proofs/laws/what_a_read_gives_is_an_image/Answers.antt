use Rattle.site_model.proofs.Images.{reads_is_image}
use Rattle.site_model.proofs.laws.what_a_read_gives_is_an_image.Goals as goal

pub returns : goal.returns
returns c = reads_is_image
