use Rattle.std.proofs.Common.{◌≡◌, ◌+◌, ℕ, arith, inr, length, map, subst}
use Rattle.std.proofs.lemmas.List.{length-map}
use Rattle.std.proofs.lemmas.Result.{MatchResult-weaker, on_ok_weaker}
use Rattle.zr_game.specs.Named.{named_of}
use Rattle.zr_tree.specs.Nodes.{node_of}
use Rattle.zr_cert.specs.Certs.{nodes_of}
use Rattle.zr_check.specs.Covers.{ItemsRefused}
use Rattle.zr_check.proofs.covers.check_player.Goals as goal
use Rattle.zr_check.proofs.covers.check_player.Goals.{After-len}

first_item : (c : After-len)
    → c.args.line + c.len.result + 1 ≡ c.args.line + length (nodes_of c.args.tree.now) + 1
first_item c =
    let l = length-map c.args.tree.now.nodes.items node_of in
    omega (arith, l, c.len.ensures, c.args.tree.now.nodes.ok.0)

pub returns-clause-ok : goal.returns-clause-ok
returns-clause-ok c player is =
    on_ok_weaker c.check_items.result (λ passes. (c.in_ok-check_cover.ensures.ok player is, passes))
    (c.check_items.ensures.ok player is)

pub returns-clause-err : goal.returns-clause-err
returns-clause-err c player is =
    MatchResult-weaker c.check_items.result (c.check_items.ensures.err player is) (λ u h. h)
    (λ fault refused. inr (
      c.in_ok-check_cover.ensures.ok player is,
      subst (λ (n : ℕ). ItemsRefused player (map named_of c.args.items.now) n fault)
          (first_item ((goal.at.returns-clause-err c).After-len)) refused,
    ))
