use Rattle.zr_game.proofs.Holding.{meets_root}
use Rattle.zr_game.proofs.laws.law_of_relaxed_rays.Goals as goal

pub returns : goal.returns
returns c game form i player is base dir ray =
    let rules = form.players i player is in
    record {
      some = (base, meets_root player base rules.rows rules.pairs ray.base_is);
      len = ray.len;
      bounds = ray.bounds;
      rows = ray.rows;
      pairs = λ k d h. (ray.pairs k d h).0;
    }
