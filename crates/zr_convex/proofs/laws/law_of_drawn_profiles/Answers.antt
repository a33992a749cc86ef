use Rattle.zr_convex.proofs.DrawnProfiles.{draws, draws_alike}
use Rattle.zr_convex.proofs.laws.law_of_drawn_profiles.Goals as goal

pub returns-clause-drawn : goal.returns-clause-drawn
returns-clause-drawn c = λ game form leaves covers exact kind path x solution.
    draws game form leaves covers exact kind path x solution

pub returns-clause-alike : goal.returns-clause-alike
returns-clause-alike c = λ game form leaves covers exact kind path x solution profile is alike.
    draws_alike game form leaves covers exact kind path x solution profile is alike
