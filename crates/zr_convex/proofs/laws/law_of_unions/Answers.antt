use Rattle.zr_convex.proofs.Mixtures.{to_mixture, to_shares}
use Rattle.zr_convex.proofs.laws.law_of_unions.Goals as goal

pub returns : goal.returns
returns c = λ game leaves i x. (to_shares game leaves i x, to_mixture game leaves i x)
