use Rattle.std.proofs.Common.{rules, ◌+◌, ap, ◌∙◌}
use Rattle.std.proofs.lemmas.List.{length_push}
use Rattle.std.proofs.lemmas.List.Elements.{All-push}
use Rattle.zr_base.specs.Steps.{IsNarrow}
use Rattle.zr_simplex.proofs.tests.made.made_aim.Goals as goal

pub loop-j-preserved : goal.loop-j-preserved
loop-j-preserved c =
    let inv = c.loop-j.invariant in
    rw c.in_ok-push.ensures.items (record {
      count = length_push c.loop-j.aim.items _ ∙ ap (λ n. n + 1) inv.count;
      narrow = All-push IsNarrow c.loop-j.aim.items _ inv.narrow (search rules);
    })
