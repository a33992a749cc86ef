-- What a decision finds makes certificates that are drawn.
use Rattle.std.proofs.Common.{◌≡◌, refl, sym, subst, List, length, ⊎_elim}
use Rattle.zr_game.specs.Players.{GameOf, PlayerOf}
use Rattle.zr_game.specs.declared.kind.Kind.{Kind}
use Rattle.zr_tree.specs.Nodes.{NodeOf}
use Rattle.zr_tree.specs.Trees.{Loose, TreeOf, preorder}
use Rattle.zr_asked.specs.Stuck.{IsPlainAim}
use Rattle.zr_cert.specs.Certs.{VerdictOf}
use Rattle.zr_cert.specs.Listed.{cert_of}
use Rattle.zr_cert.specs.declared.cert.Cert.{Cert}
use Rattle.zr_costs.specs.Drawn.{IsDrawnTree}
use Rattle.zr_decide.specs.Coverings.{IsMadeCover}
use Rattle.zr_decide.specs.DrawnCerts.{IsDrawnCert, IsDrawnVerdict}

pub drawn_cert : (game : GameOf) (kind : Kind) (cert : Cert) (v : VerdictOf)
    → cert_of cert ≡ record { kind = kind; players = length game; verdict = v }
    → IsDrawnVerdict game kind v → IsDrawnCert game (cert_of cert)
drawn_cert game kind cert v e h = subst (IsDrawnCert game) (sym e) h

-- a cover without a loose leaf
pub drawn_cover : (player : PlayerOf) (t : TreeOf) (nodes : List NodeOf) → preorder t ≡ nodes
    → IsMadeCover player t → IsDrawnTree player (IsPlainAim player) nodes
drawn_cover player t nodes listed made =
    ⊎_elim
    (λ s. record { tree = t; listed = listed; open_is = s.open_is; drawn = s.drawn })
    (λ s. subst (λ (ns : List NodeOf). IsDrawnTree player (IsPlainAim player) ns) listed
    (subst (λ (u : TreeOf). IsDrawnTree player (IsPlainAim player) (preorder u)) (sym s.0)
    record { tree = Loose; listed = refl; open_is = tt; drawn = tt }))
    made
