-- What fits within the upper bounds fits without them.
use Rattle.std.proofs.Common.{ℕ, true, false, map, refl}
use Rattle.zr_game.specs.Profiles.{Part}
use Rattle.zr_cert.specs.Certs.{BoundOf, BoxVerdict, CertOf, CoverVerdict, EmptyVerdict, MixtureOf, ProfileVerdict, VerdictOf}
use Rattle.zr_cert.specs.Forms.{leaf_count}
use Rattle.zr_lines.specs.declared.ends.Ends.TheVariants.{Proofs, Refuted, Covered}
use Rattle.zr_lines.specs.Fits.{FitsNamedList, FitsTree}
use Rattle.zr_lines.proofs.Looser.{boxes, cases, each, named_list, point, positive, second, tree}
use Rattle.zr_text.specs.Fits.{Fits, FitsBound, FitsMixture, FitsPart, FitsVerdict}

pub part : (p : Part) → FitsPart true p → FitsPart false p
part p f = record { weight = positive p.weight f.weight; point = point p.point f.point }

pub mixture : (m : MixtureOf) → FitsMixture true m → FitsMixture false m
mixture m f = record { total = positive m.total f.total; count = second _ _ f.count; parts = each (FitsPart true) (FitsPart false) part m.parts f.parts }

bound : (b : BoundOf) → FitsBound true b → FitsBound false b
bound b f = record { cost = record { num = refl; den = positive b.cost.den f.cost.den; lowest = f.cost.lowest }; tree = tree Proofs b.tree f.tree }

verdict : (players : ℕ) (v : VerdictOf) → FitsVerdict true players v → FitsVerdict false players v
verdict players (ProfileVerdict m b) f = (f.0, each (FitsMixture true) (FitsMixture false) mixture m f.1, f.2, each (FitsBound true) (FitsBound false) bound b f.3)
verdict players (CoverVerdict covers named proof) f = record {
  cover_count = f.cover_count;
  cover_trees = each (FitsTree true Covered) (FitsTree false Covered) (tree Covered) covers f.cover_trees;
  named_count = f.named_count;
  named_lists = each (FitsNamedList true) (FitsNamedList false) named_list named f.named_lists;
  cases = cases (map leaf_count covers) proof f.cases;
}
verdict players (EmptyVerdict player nodes) f = (refl, tree Refuted nodes f.1)
verdict players (BoxVerdict nodes) f = boxes nodes f

pub looser : (c : CertOf) → Fits true c → Fits false c
looser c f = record { players = second _ _ f.players; verdict = verdict c.players c.verdict f.verdict }
