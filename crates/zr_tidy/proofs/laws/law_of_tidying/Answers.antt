use Rattle.std.proofs.Common.{pos, ◌<ℤ◌}
use Rattle.zr_base.proofs.Members.{each_of_all}
use Rattle.zr_tidy.proofs.Tidying.{is_tidy}
use Rattle.zr_tidy.proofs.Weighing.{are_alike}
use Rattle.zr_tidy.proofs.laws.law_of_tidying.Goals as goal

pub returns-clause-tidy : goal.returns-clause-tidy
returns-clause-tidy c = λ raw merged parts by above weights m div greatest.
    is_tidy raw merged parts by above weights m div greatest

pub returns-clause-alike : goal.returns-clause-alike
returns-clause-alike c = λ raw merged parts by above some dens m div.
    are_alike raw merged parts by above some
    (each_of_all (λ part. (pos 0) <ℤ part.point.den) raw dens) m div
