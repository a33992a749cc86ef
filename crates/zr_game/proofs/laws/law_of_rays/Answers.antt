use Rattle.zr_game.proofs.RayLaws.{is_ray, leads}
use Rattle.zr_game.proofs.laws.law_of_rays.Goals as goal
use Rattle.std.proofs.Common.{◌∙◌, sym}

pub returns : goal.returns
returns c game form i player is base dir base_len len =
    let rules = form.players i player is in (
      λ ray t. leads base dir (base_len ∙ sym len) t player ray rules.pairs rules.from_zero,
      is_ray player base dir base_len len,
    )
