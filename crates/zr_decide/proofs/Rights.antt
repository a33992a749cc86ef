-- Certificates that are right, and leaves that are few.
use Rattle.std.proofs.Common.{◌≡◌, ℕ, zero, suc, ◌≤◌, arith, refl, sym, ap, subst, List, [], ◌∷◌, length, map, get_or, inl, inr}
use Rattle.zr_io.specs.declared.purse.Purse.{Purse}
use Rattle.zr_io.specs.Purses.{StartsAt}
use Rattle.zr_game.specs.Forms.{IsGame}
use Rattle.zr_game.specs.Leaves.{Bound}
use Rattle.zr_game.specs.Named.{NamedOf}
use Rattle.zr_game.specs.Players.{GameOf, PlayerOf}
use Rattle.zr_game.specs.declared.kind.Kind.{Kind}
use Rattle.zr_tree.specs.Trees.{TreeOf}
use Rattle.zr_cases.specs.declared.box_tree.BoxTree.{BoxTree}
use Rattle.zr_box_search.specs.declared.answer.BoxAnswer.TheVariants.{Refuted}
use Rattle.zr_box_search.specs.Answers.{IsBoxAnswer}
use Rattle.zr_box_search.specs.Causes.{IsBoxCause}
use Rattle.zr_box_search.specs.declared.answer.BoxStop.{BoxStop}
use Rattle.zr_box_search.specs.declared.answer.BoxStop.TheVariants.{Spent, Wide}
use Rattle.zr_asked.specs.declared.question.AskedLp.{AskedLp}
use Rattle.zr_cert.specs.declared.cert.Cert.{Cert}
use Rattle.zr_cert.specs.Certs.{CertOf, VerdictOf, boxes_of}
use Rattle.zr_cert.specs.Listed.{cert_of}
use Rattle.zr_check.specs.Boxes.{AreRightBoxes}
use Rattle.zr_check.specs.Right.{IsRightCert, IsRightVerdict}
use Rattle.zr_decide.specs.Answers.{MayLackBoxes}
use Rattle.zr_comp.specs.Cases.{AreFewSlots}
use Rattle.zr_comp.proofs.Few.{few_slots}
use Rattle.zr_refute.specs.Covered.{covered}
use Rattle.zr_system.specs.Regions.{LeavesOf}

pub right_cert : (game : GameOf) (kind : Kind) (cert : Cert) (v : VerdictOf)
    → cert_of cert ≡ record { kind = kind; players = length game; verdict = v }
    → IsRightVerdict game kind v → (cert.kind ≡ kind) × IsRightCert game (cert_of cert)
right_cert game kind cert v e h = (
  ap (λ (c : CertOf). c.kind) e,
  subst (IsRightCert game) (sym e) record { players = refl; verdict = h },
)

-- ---- box trees

pub right_boxes : (game : GameOf) (old new : Purse) (tree : BoxTree)
    → IsBoxAnswer game old new (Refuted tree) → AreRightBoxes game (boxes_of tree)
right_boxes game old new tree h = record { tree = h.0; listed = h.1; right = h.2.right }

pub few_boxes : (game : GameOf) (old new : Purse) (tree : BoxTree)
    → IsBoxAnswer game old new (Refuted tree) → old.branches ≡ 0 → new.branches ≤ 1000000000
    → length (boxes_of tree) ≤ 2000000001
few_boxes game old new tree h none limit =
    let l = ap (λ ns. length ns) h.1 in
    let f = h.2.few in
    let b = h.2.branches in
    omega (arith, l, f, b, none, limit)

pub none_if_spent : (game : GameOf) (limit : ℕ) (old new : Purse) → StartsAt old limit
    → (stop : BoxStop) → stop ≡ Spent → IsBoxCause game old new stop → MayLackBoxes game limit
none_if_spent game limit old new start stop is h =
    let c = subst (IsBoxCause game old new) is h in
    let m = c.1.1 in
    let b = start.1 in
    let k = start.2 in
    let l = start.3 in
    inr (inr (inl (c.1.0, omega (arith, m, b, k, l))))

pub none_if_wide : (game : GameOf) (limit : ℕ) (old new : Purse) (asked : AskedLp)
    (stop : BoxStop) → stop ≡ Wide asked → IsBoxCause game old new stop → MayLackBoxes game limit
none_if_wide game limit old new asked stop is h =
    inr (inr (inr (asked, subst (IsBoxCause game old new) is h)))

-- ---- leaves of decided covers

abbrev no_bounds : List Bound
no_bounds = []

no_cuts : (game : GameOf) (i : ℕ)
    → get_or (map (λ (player : PlayerOf). no_bounds) game) i no_bounds ≡ no_bounds
no_cuts [] i = refl
no_cuts (q ∷ qs) zero = refl
no_cuts (q ∷ qs) (suc i) = no_cuts qs i

module _ (game : GameOf) (trees : List TreeOf) (named : List (List NamedOf)) (leaves : LeavesOf)
    (same : leaves ≡ covered game trees named) where
  pub have_few_slots : IsGame game → AreFewSlots game leaves
  have_few_slots sound =
      subst (AreFewSlots game) (sym same)
      (few_slots game sound (covered game trees named)
      (λ i h. let e = ap (λ (bs : List Bound). length bs) (no_cuts game i) in
      omega (arith, e)))
