-- No line of a right certificate breaks a rule: it is refused only where a step is too wide.
use Rattle.std.proofs.Common.{◌≡◌, ℕ, ◌+◌, ◌<◌, arith, sym, subst, ◌∙◌, ℤ, Some, List, [], length, slice_get, slice_index_or, All, ⊎_elim}
use Rattle.std.proofs.lemmas.Option.{get_or_from_slice_get, slice_get_within}
use Rattle.zr_base.specs.Fractions.{Fraction}
use Rattle.zr_base.proofs.Members.{all_found}
use Rattle.zr_game.specs.Players.{GameOf, PlayerOf}
use Rattle.zr_game.specs.Feasible.{IsFeasible}
use Rattle.zr_game.specs.Forms.{IsGame, IsPlayer}
use Rattle.zr_game.specs.Leaves.{Bound, LeafOf, above, below, bound_with, decided, root_leaf}
use Rattle.zr_game.specs.Named.{IsNamed, NamedOf}
use Rattle.zr_game.specs.Profiles.{IsOfKind, IsStrategy, Part, Strategy, expected_cost, total}
use Rattle.zr_game.specs.declared.choice.Choice.{Choice}
use Rattle.zr_game.specs.declared.choice.Choice.TheVariants as AChoice
use Rattle.zr_game.specs.declared.kind.Kind.{Kind}
use Rattle.zr_game.specs.declared.kind.Kind.TheVariants.{Pure}
use Rattle.zr_game.specs.declared.leaf.Side.TheVariants.{VarZero, RowZero}
use Rattle.zr_game.proofs.Items.{All-of_map, one}
use Rattle.zr_tree.specs.Covers.{IsCoverTree, KeepsCover}
use Rattle.zr_tree.specs.CoverSteps.{IsRefusedCover, IsWideForCover}
use Rattle.zr_tree.specs.Nodes.{NodeOf, KnownNode, LooseNode, ProofNode}
use Rattle.zr_tree.specs.Right.{EndRule, IsRight, IsRightBy, ProvesRow}
use Rattle.zr_tree.specs.Steps.{EndRefused, IsRefusedAt, IsRefusedBy, IsWideForRow}
use Rattle.zr_tree.specs.Trees.{TreeOf, Split, Choose, Proof, Known, Loose, preorder, size}
use Rattle.zr_tree.specs.declared.fault.Fault.{Fault}
use Rattle.zr_tree.specs.declared.fault.Fault.TheVariants as nodes
use Rattle.zr_tree.proofs.Descent.{right_if_refuted}
use Rattle.zr_tree.proofs.Forests.{same_tree}
use Rattle.zr_cases.specs.Cases.{BNodeOf, DeviateNode, EmptyNode, RNodeOf}
use Rattle.zr_cases.specs.Trees as cases
use Rattle.zr_cases.specs.Trees.{BoxTreeOf, CasesOf, Cut, Deviate, Empty, box_preorder}
use Rattle.zr_boxes.specs.Boxes.{BoxOf, cut_above, cut_below, root_box}
use Rattle.zr_boxes.specs.Right.{IsRightBox}
use Rattle.zr_boxes.specs.Steps.{EndRefused as BoxEndRefused, IsRefusedBox, ClosesBox, box_size}
use Rattle.zr_boxes.proofs.Forests.{same_tree as same_boxes}
use Rattle.zr_system.specs.Regions.{LeavesOf}
use Rattle.zr_refute.specs.Covered.{covered}
use Rattle.zr_refute.specs.Refuting.{Closes, EndRule as CaseRule, RefutesBy, RefutesUnder, leaf_counts, then_choice}
use Rattle.zr_refute.specs.Steps.{EndRefused as CaseEndRefused, IsWideEnd, RefusedBy, sizes}
use Rattle.zr_refute.specs.Steps as refuting
use Rattle.zr_refute.proofs.AlikeCases.{are_alike, refutes_alike}
use Rattle.zr_mix.specs.Checks.{IsClaimOf}
use Rattle.zr_cert.specs.declared.fault.CertFault.{CertFault}
use Rattle.zr_cert.specs.declared.fault.CertFault.TheVariants.{Bad, Wide as TooWide}
use Rattle.zr_cert.specs.Certs.{BoundOf, BoxVerdict, CertOf, CoverVerdict, EmptyVerdict, MixtureOf, ProfileVerdict, VerdictOf, profile_with}
use Rattle.zr_cert.specs.Forms.{IsBoundForm, IsCert, IsMixtureForm, IsVerdictForm}
use Rattle.zr_cert.specs.Places.{case_line_number}
use Rattle.zr_check.specs.Boxes.{AreRightBoxes, BoxesRefused}
use Rattle.zr_check.specs.Covers.{CasesRefused, CoverLinesRefused, CoverTreeRefused, CoversRefused, ItemRefused, ItemsRefused, ProofRefused}
use Rattle.zr_check.specs.Right.{AreRightStrategies, IsRightBound, IsRightCert, IsRightCover, IsRightProfile, IsRightVerdict}
use Rattle.zr_check.specs.Parts.{IsPartRight, PartRefused, StrategiesRefused}
use Rattle.zr_check.specs.Bounds.{BoundRefused, BoundsRefused, IsCostMade, TreeRefused, at_line, no_point}
use Rattle.zr_check.specs.Checks.{CertRefused, VerdictRefused}
use Rattle.zr_check.proofs.CoverTrees.{nodes_at, same_trees}
use Rattle.zr_check.proofs.MadeLists.{strategy_is}
use Rattle.zr_check.proofs.MadeClaims.{in_lowest, one_claim, same_reduced}
use Rattle.zr_check.proofs.MadeCosts.{claim_of_cost}

not_wide : (k j : ℕ) → Bad j ≡ TooWide k → ⊥
not_wide k j e = cc

node_not_wide : (k j : ℕ) → nodes.Bad j ≡ nodes.Wide k → ⊥
node_not_wide k j e = cc

-- ---- trees

module _ (right wide : EndRule) where
  end_keeps : (k j : ℕ) (leaf : LeafOf) (node : NodeOf) → right leaf node
      → EndRefused right wide k leaf node (nodes.Bad j) → ⊥
  end_keeps k j leaf node h r = ⊎_elim (λ a. node_not_wide k j a.1) (λ a. a.1 h) r

  module _ (player : PlayerOf) where
    tree_keeps : (t : TreeOf) (leaf : LeafOf) (k j : ℕ) → IsRightBy right player leaf t
        → IsRefusedBy right wide player k leaf t (nodes.Bad j) → ⊥
    tree_keeps (Split v at first second) leaf k j h r =
        ⊎_elim (λ a. a.0 h.0)
        (λ a. ⊎_elim (λ b. tree_keeps first (below leaf v at) (k + 1) j h.1 b.1)
        (λ b. tree_keeps second (above leaf v at) (k + 1 + size first) j h.2 b.2) a) r
    tree_keeps (Choose p first second) leaf k j h r =
        ⊎_elim (λ a. a.0 h.0)
        (λ a. ⊎_elim (λ b. tree_keeps first (decided leaf p VarZero) (k + 1) j h.1 b.1)
        (λ b. tree_keeps second (decided leaf p RowZero) (k + 1 + size first) j h.2 b.2) a) r
    tree_keeps (Proof scale mult) leaf k j h r = end_keeps k j leaf (ProofNode scale mult) h r
    tree_keeps (Known x) leaf k j h r = end_keeps k j leaf (KnownNode x) h r
    tree_keeps Loose leaf k j h r = end_keeps k j leaf LooseNode h r

-- a fault at a node of a tree whose nodes break no rule is one of width
no_fault : (Refused : Fault → Type 0) → ((k : ℕ) → Refused (nodes.Bad k) → ⊥) → (first : Fault)
    → Refused first → (line j : ℕ) → Bad j ≡ at_line line first → ⊥
no_fault Refused keeps (nodes.Bad k) r line j e = keeps k r
no_fault Refused keeps (nodes.Wide k) r line j e = not_wide (line + k) j e

module _ (player : PlayerOf) (row : Bound) (list : List NodeOf) (t : TreeOf)
    (listed : preorder t ≡ list) (right : IsRight player row (root_leaf player) t) where
  row_tree_keeps : (line j : ℕ) → TreeRefused player row list line (Bad j) → ⊥
  row_tree_keeps line j r =
      let same = same_tree r.0 t (r.2 ∙ sym listed) in
      let moved = subst (λ (s : TreeOf). IsRefusedAt player row 0 (root_leaf player) s r.1) same
      r.3 in
      no_fault (λ f. IsRefusedAt player row 0 (root_leaf player) t f)
      (λ k. tree_keeps (ProvesRow player row) (IsWideForRow player row) player t (root_leaf player) 0
      k right) r.1 moved line j r.4

module _ (player : PlayerOf) (list : List NodeOf) (t : TreeOf) (listed : preorder t ≡ list)
    (right : IsCoverTree player (root_leaf player) t) where
  cover_tree_keeps : (line j : ℕ) → CoverTreeRefused player list line (Bad j) → ⊥
  cover_tree_keeps line j r =
      let same = same_tree r.0 t (r.2 ∙ sym listed) in
      let moved = subst (λ (s : TreeOf). IsRefusedCover player 0 (root_leaf player) s r.1) same
      r.3 in
      no_fault (λ f. IsRefusedCover player 0 (root_leaf player) t f)
      (λ k. tree_keeps (KeepsCover player) (IsWideForCover player) player t (root_leaf player) 0 k
      right) r.1 moved line j r.4

-- ---- boxes

module _ (game : GameOf) where
  box_end_keeps : (k j : ℕ) (box : BoxOf) (node : BNodeOf) → ClosesBox game box node
      → BoxEndRefused game k box node (nodes.Bad j) → ⊥
  box_end_keeps k j box node h r = ⊎_elim (λ a. node_not_wide k j a.1) (λ a. a.1 h) r

  box_keeps : (t : BoxTreeOf) (box : BoxOf) (k j : ℕ) → IsRightBox game box t
      → IsRefusedBox game k box t (nodes.Bad j) → ⊥
  box_keeps (Cut i v at first second) box k j h r =
      ⊎_elim (λ a. a.0 h.0)
      (λ a. ⊎_elim (λ b. box_keeps first (cut_below box i v at) (k + 1) j h.1 b.1)
      (λ b. box_keeps second (cut_above box i v at) (k + 1 + box_size first) j h.2 b.2) a) r
  box_keeps (Empty i mult) box k j h r = box_end_keeps k j box (EmptyNode i mult) h r
  box_keeps (Deviate i x) box k j h r = box_end_keeps k j box (DeviateNode i x) h r

  boxes_keep : (list : List BNodeOf) → AreRightBoxes game list → (line j : ℕ)
      → BoxesRefused game list line (Bad j) → ⊥
  boxes_keep list right line j r =
      let same = same_boxes r.0 right.tree (r.2 ∙ sym right.listed) in
      let moved = subst (λ (s : BoxTreeOf). IsRefusedBox game 0 (root_box game) s r.1) same r.3 in
      no_fault (λ f. IsRefusedBox game 0 (root_box game) right.tree f)
      (λ k. box_keeps right.tree (root_box game) 0 k right.right) r.1 moved line j r.4

-- ---- cases

module _ (right wide : CaseRule) (game : GameOf) (leaves : LeavesOf) (kind : Kind) where
  abbrev Right : List Choice → CasesOf → Type 0
  Right path t = RefutesBy right game leaves kind path t

  abbrev Refused : ℕ → List Choice → CasesOf → Fault → Type 0
  Refused n path t fault = RefusedBy right wide game leaves kind n path t fault

  cases_keep : (t : CasesOf) (path : List Choice) (n j : ℕ) → Right path t
      → Refused n path t (nodes.Bad j) → ⊥
  cases_keep (cases.OnOff i k on off) path n j h r =
      ⊎_elim (λ a. a.0 h.0)
      (λ a. ⊎_elim (λ b. cases_keep on (then_choice path (AChoice.On i k)) (n + 1) j h.1 b.1)
      (λ b. cases_keep off (then_choice path (AChoice.Off i k))
      (n + 1 + refuting.size leaves on) j h.2 b.2) a) r
  cases_keep (cases.RowSplit i k s at_zero at_tight) path n j h r =
      ⊎_elim (λ a. a.0 h.0)
      (λ a. ⊎_elim (λ b. cases_keep at_zero (then_choice path (AChoice.Zero i k s)) (n + 1) j h.1
      b.1)
      (λ b. cases_keep at_tight (then_choice path (AChoice.Tight i k s))
      (n + 1 + refuting.size leaves at_zero) j h.2 b.2) a) r
  cases_keep (cases.Which i trees) path n j h r =
      ⊎_elim (λ a. a.0 h.0)
      (λ a. cases_keep (trees a.1.0) (then_choice path (AChoice.Which i a.1.0))
      (n + 1 + sizes leaves trees a.1.0) j (h.1 a.1.0 a.1.1) a.1.3) r
  cases_keep (cases.Close mult) path n j h r =
      ⊎_elim (λ a. node_not_wide n j a.1) (λ a. a.1 h) r

module _ (game : GameOf) (leaves : LeavesOf) (kind : Kind) (list : List RNodeOf) (t : CasesOf)
    (listed : cases.preorder (leaf_counts leaves) t ≡ list)
    (right : RefutesUnder game leaves kind [] t) where
  proof_keeps : (line j : ℕ) → CasesRefused game leaves kind list line (Bad j) → ⊥
  proof_keeps line j r =
      let moved = refutes_alike leaves game kind (Closes game leaves) [] t r.0
      (are_alike leaves t r.0 (listed ∙ sym r.2)) right in
      no_fault (λ f. RefusedBy (Closes game leaves) (IsWideEnd game leaves) game leaves kind 0 [] r.0
      f) (λ k. cases_keep (Closes game leaves) (IsWideEnd game leaves) game leaves kind r.0 [] 0 k
      moved) r.1 r.3 line j r.4

-- ---- covers

item_keeps : (player : PlayerOf) (item : NamedOf) (line j : ℕ) → IsNamed player item
    → ItemRefused player line item (Bad j) → ⊥
item_keeps player item line j h r = ⊎_elim (λ a. not_wide line j a.1) (λ a. a.1 h) r

module _ (game : GameOf) (kind : Kind) (covers : List (List NodeOf)) (named : List (List NamedOf))
    (proof : List RNodeOf) (right : IsRightCover game kind covers named proof) where
  items_keep : (i : ℕ) (player : PlayerOf) → IsPlayer game i player → (items : List NamedOf)
      → slice_get named i ≡ Some items → (line j : ℕ) → ItemsRefused player items line (Bad j) → ⊥
  items_keep i player is items found line j r =
      let e = get_or_from_slice_get named i items [] found in
      let all = subst (All (IsNamed player)) e (right.shows.covers.named_items i player is) in
      item_keeps player r.item (line + r.at) j (all_found (IsNamed player) items r.at r.item all
      r.here) r.refused

  lines_keep : (i : ℕ) (player : PlayerOf) → IsPlayer game i player → (list : List NodeOf)
      (items : List NamedOf) → slice_get covers i ≡ Some list → slice_get named i ≡ Some items
      → (line j : ℕ) → CoverLinesRefused player list items line (Bad j) → ⊥
  lines_keep i player is list items at_list at_items line j r =
      let c = right.shows.covers.covers i player is in
      let n = nodes_at right.trees covers right.listed i c.0 c.1 in
      let listed = one covers i (preorder c.0) list n at_list in
      ⊎_elim (λ a. cover_tree_keeps player list c.0 listed c.2 line j a)
      (λ a. items_keep i player is items at_items (line + length list + 1) j a.1) r

  covers_keep : (j : ℕ) → CoversRefused game covers named (Bad j) → ⊥
  covers_keep j r =
      let a = r.refused in
      lines_keep r.at r.item r.here a.0 a.1 a.2 a.3 _ j a.4

  refutation_keeps : (line j : ℕ) → ProofRefused game kind covers named proof line (Bad j) → ⊥
  refutation_keeps line j r =
      let same = same_trees r.0 right.trees (r.1 ∙ sym right.listed) in
      let moved = subst (λ (ts : List TreeOf). CasesRefused game (covered game ts named) kind proof
      line (Bad j)) same r.2 in
      proof_keeps game (covered game right.trees named) kind proof right.cases right.cases_listed
      right.shows.refutes line j moved

-- ---- strategies and bounds

alone_if : (kind : Kind) (mixtures : List MixtureOf) → IsOfKind kind (profile_with mixtures)
    → (i : ℕ) (m : MixtureOf) → slice_get mixtures i ≡ Some m → kind ≡ Pure → length m.parts ≡ 1
alone_if kind mixtures of_kind i m found pure =
    all_found (λ (other : MixtureOf). length other.parts ≡ 1) mixtures i m
    (All-of_map (λ (other : MixtureOf). other.parts) (λ (parts : Strategy). length parts ≡ 1)
    mixtures (subst (λ (k : Kind). IsOfKind k (profile_with mixtures)) pure of_kind)) found

module _ (game : GameOf) (kind : Kind) (mixtures : List MixtureOf)
    (right : AreRightStrategies game kind mixtures) where
  module _ (i : ℕ) (player : PlayerOf) (is : IsPlayer game i player) (m : MixtureOf)
      (found : slice_get mixtures i ≡ Some m) where
    valid : IsStrategy player m.parts
    valid = subst (IsStrategy player) (strategy_is mixtures i m found)
        (right.valid.strategies i player is)

    module _ (k : ℕ) (part : Part) (here : slice_get m.parts k ≡ Some part) where
      part_feasible : IsFeasible player part.point
      part_feasible =
          all_found (λ (other : Part). IsFeasible player other.point) m.parts k part valid.points
          here

      part_right : IsPartRight kind player m k part
      part_right = record {
        feasible = part_feasible;
        alone = λ pure.
            let one = alone_if kind mixtures right.of_kind i m found pure in
            let h = slice_get_within m.parts k part here in
            omega (arith, one, h);
        whole = λ last.
            all_found (λ (other : MixtureOf). other.total ≡ total other.parts) mixtures i m
            right.totals found;
      }

      part_keeps : (line j : ℕ) → PartRefused kind player m line k part (Bad j) → ⊥
      part_keeps line j r =
          ⊎_elim (λ a. a.0 part_feasible.len)
          (λ a. ⊎_elim (λ b. not_wide line j b.2) (λ b. b.2 part_right) a) r

  strategies_keep : (j : ℕ) → StrategiesRefused game kind mixtures (Bad j) → ⊥
  strategies_keep j r =
      let player = r.refused in
      part_keeps r.at r.item r.here player.0 player.1 player.2.at player.2.item player.2.here _ j
      player.2.refused

module _ (game : GameOf) (form : IsGame game) (kind : Kind) (mixtures : List MixtureOf)
    (bounds : List BoundOf) (len : length mixtures ≡ length game)
    (forms : All IsMixtureForm mixtures) (bound_forms : All IsBoundForm bounds)
    (right : IsRightProfile game kind mixtures bounds) where
  module _ (i : ℕ) (player : PlayerOf) (is : IsPlayer game i player) (bound : BoundOf)
      (found : slice_get bounds i ≡ Some bound)
      (b : IsRightBound player i (profile_with mixtures) bound) where
    module _ (value : Fraction) (left : List ℤ) (le : ℤ)
        (made : IsCostMade game mixtures i player value left le) where
      claims : IsClaimOf player i (profile_with mixtures) left le
      claims = (claim_of_cost game form mixtures len forms right.strategies.totals
          right.strategies.valid i player is value left le made).0

      same_cost : value ≡ bound.cost
      same_cost =
          let cost = expected_cost player i (profile_with mixtures) in
          let lowest = (all_found IsBoundForm bounds i bound bound_forms found).cost in
          let reduced = (claim_of_cost game form mixtures len forms right.strategies.totals
          right.strategies.valid i player is value left le made).1 in
          same_reduced value bound.cost cost (in_lowest value cost reduced)
          (record { coprime = lowest.coprime; same = b.cost })

      proof : IsRight player (bound_with left le) (root_leaf player) b.proof.tree
      proof =
          let one = one_claim player i (profile_with mixtures) b.left left b.right le b.claim claims in
          subst (λ (r : ℤ). IsRight player (bound_with left r) (root_leaf player) b.proof.tree) one.1
          (subst (λ (l : List ℤ). IsRight player (bound_with l b.right) (root_leaf player)
          b.proof.tree) one.0 b.proof.right)

    bound_keeps : (line j : ℕ) → BoundRefused game mixtures line i player bound (Bad j) → ⊥
    bound_keeps line j r =
        ⊎_elim (λ a. not_wide line j a.1)
        (λ a. ⊎_elim (λ c. c.4 (same_cost c.0 c.1 c.2 c.3))
        (λ c. row_tree_keeps player (bound_with c.0 c.1) bound.tree b.proof.tree b.proof.listed
        (proof bound.cost c.0 c.1 c.2) (line + 1) j c.3) a) r

  bounds_keep : (j : ℕ) → BoundsRefused game mixtures bounds (Bad j) → ⊥
  bounds_keep j r =
      let b = right.bounds_of r.at r.item r.here in
      let same : b.0 ≡ r.refused.0 = one bounds r.at b.0 r.refused.0 b.1 r.refused.1 in
      bound_keeps r.at r.item r.here r.refused.0 r.refused.1
      (subst (IsRightBound r.item r.at (profile_with mixtures)) same b.2) _ j r.refused.2

-- ---- verdicts

module _ (game : GameOf) (form : IsGame game) (kind : Kind) where
  verdict_keeps : (verdict : VerdictOf) → IsVerdictForm (length game) verdict
      → IsRightVerdict game kind verdict → (j : ℕ) → VerdictRefused game kind verdict (Bad j) → ⊥
  verdict_keeps (ProfileVerdict mixtures bounds) v right j r =
      ⊎_elim (strategies_keep game kind mixtures right.strategies j)
      (λ a. bounds_keep game form kind mixtures bounds v.0 v.1 v.3 right j a.1) r
  verdict_keeps (CoverVerdict covers named proof) v right j r =
      ⊎_elim (covers_keep game kind covers named proof right j)
      (λ a. refutation_keeps game kind covers named proof right (case_line_number covers named) j
      a.1) r
  verdict_keeps (BoxVerdict list) v right j r =
      ⊎_elim (λ a. a.0 right.0) (λ a. boxes_keep game list right.1 4 j a.1) r
  verdict_keeps (EmptyVerdict i list) v right j r =
      let tree = right.2 in
      let proves = right_if_refuted right.0 (no_point right.0) tree.tree (root_leaf right.0)
      tree.refuted in
      ⊎_elim (λ a. a.0 (slice_get_within game i right.0 right.1))
      (λ a. row_tree_keeps right.0 (no_point right.0) list tree.tree tree.listed proves 4 j
      (subst (λ (p : PlayerOf). TreeRefused p (no_point p) list 4 (Bad j))
      (one game i a.0 right.0 a.1 right.1) a.2)) r

pub cert_keeps : (game : GameOf) → IsGame game → (c : CertOf) → IsCert c → IsRightCert game c
    → (j : ℕ) → CertRefused game c (Bad j) → ⊥
cert_keeps game form c cert right j r =
    ⊎_elim (λ a. a.0 right.players)
    (λ a. verdict_keeps game form c.kind c.verdict
    (subst (λ n. IsVerdictForm n c.verdict) right.players cert.verdict) right.verdict j a.1) r
