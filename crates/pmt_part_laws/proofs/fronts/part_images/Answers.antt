use Rattle.pmt_part_laws.proofs.ImageLemmas.{part_images}
use Rattle.pmt_part_laws.proofs.fronts.part_images.Goals as goal

pub returns : goal.returns
returns c = part_images
