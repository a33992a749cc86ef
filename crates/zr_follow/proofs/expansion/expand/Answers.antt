use Rattle.std.proofs.Common.{◌≡◌, ℕ, refl, sym, ap, subst, ◌∙◌, List, Err}
use Rattle.std.proofs.lemmas.List.{length-map}
use Rattle.zr_game.specs.declared.player.Player.{Player}
use Rattle.zr_game.specs.Players.{players_of}
use Rattle.zr_follow.proofs.ExpandedForms.{expansion_form}
use Rattle.zr_follow.proofs.LeaderForms.{one_first}
use Rattle.zr_follow.specs.declared.expansion.FollowError.TheVariants.{Count}
use Rattle.zr_source.specs.declared.source.Leader.{Leader}
use Rattle.zr_follow.specs.Expansion.{IsFirstPast, expansion}
use Rattle.zr_follow.proofs.Relations.{IsExpansion, expansion_is}
use Rattle.zr_source.specs.Sources.{IsLeader, leader_of, leaders_of}
use Rattle.zr_follow.proofs.BaseProfiles.{base_is, cost_expanded, expected_base}
use Rattle.zr_follow.proofs.Equilibria.{equilibria, lifts, none_alike}
use Rattle.zr_follow.proofs.SameAnswers.{feasible_exactly}
use Rattle.zr_source.specs.Sources.{bases}
use Rattle.zr_game.specs.Games.{game_of}
use Rattle.zr_follow.proofs.expansion.expand.Goals as goal
use Rattle.zr_follow.proofs.expansion.expand.Goals.{After-unwrap}

pub returns-in-Some-clause-count : goal.returns-in-Some-clause-count
returns-in-Some-clause-count c i =
    let source = leaders_of c.args.source.now.leaders.items in
    let first = subst (λ (ls : List Leader). IsFirstPast (leaders_of ls) c.in-Some.i) c.deref.ensures.value c.in-Some.ensures.some in
    (λ e. let n : c.in-Some.i ≡ i = cc in subst (IsFirstPast source) n first, λ f. let n = one_first source c.in-Some.i i first f in ap (λ (j : ℕ). Err (Count j)) n)

-- the leaders' players are the expansion
made : (leaders : List Leader) (players : List Player)
    → players_of players ≡ expansion (leaders_of leaders)
    → IsExpansion (leaders_of leaders) (players_of players)
made leaders players same =
    subst (IsExpansion (leaders_of leaders)) (sym same) (expansion_is (leaders_of leaders))

pub unwrap-requires : goal.unwrap-requires
unwrap-requires c =
    let same = subst
    (λ (ls : List Leader). players_of c.in-Ok.players.items ≡ expansion (leaders_of ls))
    c.deref-2.ensures.value c.in-Ok.ensures in
    let leaders = c.args.source.now.leaders.items in
    c.new.ensures.valid.1 (expansion_form (leaders_of leaders) c.args.source.now.sound
    (players_of c.in-Ok.players.items) (made leaders c.in-Ok.players.items same)
    (λ k leader is. c.in_default.ensures.none refl k leader
    (subst (λ (ls : List Leader). IsLeader (leaders_of ls) k leader) (sym c.deref.ensures.value) is)))

-- what is made is the expansion
exact : (c : After-unwrap)
    → game_of c.unwrap.result ≡ expansion (leaders_of c.args.source.now.leaders.items)
exact c =
    let same = subst
    (λ (ls : List Leader). players_of c.in-Ok.players.items ≡ expansion (leaders_of ls))
    c.deref-2.ensures.value c.in-Ok.ensures in
    let kept : c.unwrap.result.players.items ≡ c.in-Ok.players.items =
    rw c.unwrap.ensures at c.new.ensures.ok in
    ap players_of kept ∙ same

expands : (c : After-unwrap)
    → IsExpansion (leaders_of c.args.source.now.leaders.items) (game_of c.unwrap.result)
expands c =
    let source = leaders_of c.args.source.now.leaders.items in
    subst (IsExpansion source) (sym (exact c)) (expansion_is source)

pub returns-in-Ok-clause-ok : goal.returns-in-Ok-clause-ok
returns-in-Ok-clause-ok c = exact ((goal.at.returns-in-Ok-clause-ok c).After-unwrap)

pub returns-in-Ok-clause-feasible : goal.returns-in-Ok-clause-feasible
returns-in-Ok-clause-feasible c i leader player is at_i =
    let source = leaders_of c.args.source.now.leaders.items in
    let form = c.args.source.now.sound in
    let expansion = expands ((goal.at.returns-in-Ok-clause-feasible c).After-unwrap) in
    feasible_exactly (bases source) i leader player
    (form.bases.players i leader.base (base_is source i leader is)) (form.leaders i leader is)
    (expansion.players i leader player is at_i)

pub returns-in-Ok-clause-costs : goal.returns-in-Ok-clause-costs
returns-in-Ok-clause-costs c i leader player is at_i points len =
    let leaders = c.args.source.now.leaders.items in
    let expansion = expands ((goal.at.returns-in-Ok-clause-costs c).After-unwrap) in
    cost_expanded (leaders_of leaders) c.args.source.now.sound i leader is points
    (len ∙ sym (length-map leaders leader_of)) player (expansion.players i leader player is at_i)

pub returns-in-Ok-clause-expected_costs : goal.returns-in-Ok-clause-expected_costs
returns-in-Ok-clause-expected_costs c i leader player is at_i profile len =
    let leaders = c.args.source.now.leaders.items in
    let expansion = expands ((goal.at.returns-in-Ok-clause-expected_costs c).After-unwrap) in
    expected_base (leaders_of leaders) c.args.source.now.sound i leader is player
    (expansion.players i leader player is at_i) profile (len ∙ sym (length-map leaders leader_of))

pub returns-in-Ok-clause-equilibria : goal.returns-in-Ok-clause-equilibria
returns-in-Ok-clause-equilibria c =
    equilibria (leaders_of c.args.source.now.leaders.items) c.args.source.now.sound
    (game_of c.unwrap.result) (expands ((goal.at.returns-in-Ok-clause-equilibria c).After-unwrap))

pub returns-in-Ok-clause-lifts : goal.returns-in-Ok-clause-lifts
returns-in-Ok-clause-lifts c =
    lifts (leaders_of c.args.source.now.leaders.items) c.args.source.now.sound
    (game_of c.unwrap.result) (expands ((goal.at.returns-in-Ok-clause-lifts c).After-unwrap))

pub returns-in-Ok-clause-none : goal.returns-in-Ok-clause-none
returns-in-Ok-clause-none c =
    none_alike (leaders_of c.args.source.now.leaders.items) c.args.source.now.sound
    (game_of c.unwrap.result) (expands ((goal.at.returns-in-Ok-clause-none c).After-unwrap))
