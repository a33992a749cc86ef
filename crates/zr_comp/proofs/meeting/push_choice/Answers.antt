use Rattle.std.proofs.Common.{sym, subst}
use Rattle.zr_comp.specs.Cases.{IsChoiceList}
use Rattle.zr_comp.proofs.Paths.{list_more}
use Rattle.zr_comp.proofs.meeting.push_choice.Goals as goal

pub returns-in_ok-push-in-Some : goal.returns-in_ok-push-in-Some
returns-in_ok-push-in-Some c = λ game leaves kind list is.
    let old = c.args.list.now.items in
    let m = c.in-Some.ensures game leaves kind old is in
    subst (IsChoiceList game leaves kind) (sym c.in_ok-push-in-Some.ensures.items)
    (list_more game leaves kind old c.in-Some.choice list m.0 m.1)
