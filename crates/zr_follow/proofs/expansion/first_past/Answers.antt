use Rattle.std.proofs.Common.{◌≡◌, ◌<◌, ◌≤◌, ℕ, arith, subst, ⊎_elim}
use Rattle.std.proofs.lemmas.Bool.{cases_lt}
use Rattle.std.proofs.lemmas.List.{length-map}
use Rattle.std.proofs.lemmas.Option.{slice_get_within}
use Rattle.zr_game.proofs.Items.{one}
use Rattle.zr_follow.proofs.LeaderForms.{few_pairs, few_vars, leader_form, leader_is}
use Rattle.zr_follow.specs.Expansion.{IsWithinCounts}
use Rattle.zr_source.specs.Sources.{IsLeader, leader_of, leaders_of}
use Rattle.zr_follow.proofs.expansion.first_past.Goals as goal
use Rattle.zr_follow.proofs.expansion.first_past.Goals.{After-index-leaders-i}

here : (c : After-index-leaders-i) → IsLeader (leaders_of c.args.leaders.now) c.loop-i.i (leader_of c.index-leaders-i.result)
here c = leader_is c.args.leaders.now c.requires c.loop-i.i c.index-leaders-i.result c.loop-i-test.true c.index-leaders-i.is

pub is_within_counts-requires-clause-form : goal.is_within_counts-requires-clause-form
is_within_counts-requires-clause-form c =
    leader_form c.args.leaders.now c.requires c.loop-i.i c.index-leaders-i.result c.loop-i-test.true c.index-leaders-i.is

pub is_within_counts-requires-clause-vars : goal.is_within_counts-requires-clause-vars
is_within_counts-requires-clause-vars c =
    few_vars c.args.leaders.now c.requires c.loop-i.i c.index-leaders-i.result c.loop-i-test.true c.index-leaders-i.is

pub is_within_counts-requires-clause-pairs : goal.is_within_counts-requires-clause-pairs
is_within_counts-requires-clause-pairs c =
    few_pairs c.args.leaders.now c.requires c.loop-i.i c.index-leaders-i.result c.loop-i-test.true c.index-leaders-i.is

pub returns-then-not-is_within_counts-clause-some : goal.returns-then-not-is_within_counts-clause-some
returns-then-not-is_within_counts-clause-some c =
    ((leader_of c.index-leaders-i.result, here ((goal.at.returns-then-not-is_within_counts-clause-some c).After-index-leaders-i), λ w. let t = c.is_within_counts.ensures.1 w in let f = c.if-not-is_within_counts.true in absurd cc), c.loop-i.invariant)

pub loop-i-preserved : goal.loop-i-preserved
loop-i-preserved c k leader h is =
    ⊎_elim (λ (l : k < c.loop-i.i). c.loop-i.invariant k leader l is) (λ (l : c.loop-i.i ≤ k). let e : k ≡ c.loop-i.i = omega arith in let mine = here ((goal.at.loop-i-preserved c).After-index-leaders-i) in let same = one (leaders_of c.args.leaders.now) c.loop-i.i (leader_of c.index-leaders-i.result) leader mine (subst (λ (n : ℕ). IsLeader (leaders_of c.args.leaders.now) n leader) e is) in subst IsWithinCounts same (c.is_within_counts.ensures.0 c.if-not-is_within_counts.false)) (cases_lt k c.loop-i.i)

pub returns-clause-none : goal.returns-clause-none
returns-clause-none c e k leader is =
    let w = slice_get_within (leaders_of c.args.leaders.now) k leader is in
    let l = length-map c.args.leaders.now leader_of in
    c.loop-i.invariant k leader (omega (arith, w, l, c.loop-i-test.false)) is
