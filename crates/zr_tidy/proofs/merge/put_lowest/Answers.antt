use Rattle.std.proofs.Common.{rules, map, All, FitsSigned}
use Rattle.std.specs.Int.{w128}
use Rattle.std.proofs.lemmas.Int.{to_z-of_z}
use Rattle.zr_game.specs.Profiles.{Part}
use Rattle.zr_mix.specs.Mixtures.{part_of}
use Rattle.zr_tidy.specs.Merges.{HasPut}
use Rattle.zr_tidy.proofs.Kept.{forms_put, on_ok}
use Rattle.zr_tidy.proofs.Printed.{HasForm}
use Rattle.zr_tidy.proofs.merge.put_lowest.Goals as goal

pub returns-clause-points : goal.returns-clause-points
returns-clause-points c =
    let w : FitsSigned w128 c.args.raw.now.weight = search rules in
    let xs = c.args.parts.now.items in
    let ys = c.put.new.parts.items in
    let p : Part = record { weight = c.args.raw.now.weight; point = c.in_ok-point.point } in
    on_ok (HasPut p (map part_of xs) (map part_of ys)) (All (λ part. HasForm part.point) ys)
    c.put.result (forms_put p xs ys c.requires.points c.in_ok-point.ensures.kept)
    (simp to_z-of_z at c.put.ensures)
