-- A certificate that passes isn't refused, and one that is refused has one fault.
use Rattle.std.proofs.Common.{◌≡◌, ℕ, ◌+◌, ◌<◌, sym, ap, subst, ◌∙◌, ℤ, List, length, ◌⊎◌, ⊎_elim}
use Rattle.std.proofs.lemmas.Option.{slice_get_within}
use Rattle.zr_base.specs.Fractions.{Fraction}
use Rattle.zr_game.specs.Players.{GameOf, PlayerOf}
use Rattle.zr_game.specs.Forms.{IsPlayer}
use Rattle.zr_game.specs.Leaves.{Bound, bound_with, root_leaf}
use Rattle.zr_game.specs.Profiles.{Part}
use Rattle.zr_game.specs.declared.kind.Kind.{Kind}
use Rattle.zr_game.specs.declared.kind.Kind.TheVariants.{Pure}
use Rattle.zr_game.proofs.Items.{one}
use Rattle.zr_tree.specs.Nodes.{NodeOf}
use Rattle.zr_tree.specs.Right.{ProvesRow}
use Rattle.zr_tree.specs.Steps.{IsRefusedAt, IsWideForRow, Passes as TreeIsPassed}
use Rattle.zr_tree.specs.Trees.{TreeOf}
use Rattle.zr_tree.proofs.Forests.{same_tree}
use Rattle.zr_tree.proofs.PassLaws.{exclusive, one_fault}
use Rattle.zr_cases.specs.Cases.{BNodeOf}
use Rattle.zr_cases.specs.Trees.{BoxTreeOf}
use Rattle.zr_boxes.specs.Boxes.{root_box}
use Rattle.zr_boxes.specs.Steps.{BoxPasses, IsRefusedBox}
use Rattle.zr_boxes.proofs.Forests.{same_tree as same_boxes}
use Rattle.zr_boxes.proofs.PassLaws.{exclusive as box_exclusive, one_fault as one_box_fault}
use Rattle.zr_check.specs.Boxes.{BoxesPass, BoxesRefused}
use Rattle.zr_cert.specs.declared.fault.CertFault.{CertFault}
use Rattle.zr_cert.specs.declared.fault.CertFault.TheVariants.{Bad, Wide as TooWide}
use Rattle.zr_cert.specs.Certs.{BoundOf, BoxVerdict, CertOf, CoverVerdict, EmptyVerdict, MixtureOf, ProfileVerdict, VerdictOf}
use Rattle.zr_check.specs.Parts.{IsOfLength, IsPartRight, IsWidePart, MixturePasses, MixtureRefused, PartPasses, PartRefused, PlayerPasses, PlayerRefused, StrategiesPass, StrategiesRefused}
use Rattle.zr_cert.specs.Places.{case_line_number, cost_line_number, player_line_number}
use Rattle.zr_check.specs.Covers.{CoversPass, CoversRefused, ProofRefused}
use Rattle.zr_check.specs.Bounds.{BoundPasses, BoundRefused, BoundsPass, BoundsRefused, CostPasses, CostRefused, IsCostMade, IsWideCost, TreePasses, TreeRefused, at_line, no_point}
use Rattle.zr_check.specs.Checks.{CertPasses, CertRefused, HeadPasses, HeadRefused, ProfilePasses, ProfileRefused, VerdictPasses, VerdictRefused}
use Rattle.zr_check.proofs.CoverRefusals.{covers_apart, covers_one, proof_apart, proof_one}
use Rattle.zr_check.proofs.Firsts.{either_one, first_apart, first_one, in_turn}
use Rattle.zr_check.proofs.MadeCosts.{made_or_wide, one_made}

-- a part's line
module _ (kind : Kind) (player : PlayerOf) (m : MixtureOf) where
  module _ (line k : ℕ) (part : Part) where
    part_apart : (fault : CertFault) → PartPasses kind player m k part → PartRefused kind player m line k part fault → ⊥
    part_apart fault p r = ⊎_elim (λ a. a.0 p.0) (λ a. ⊎_elim (λ b. p.1 b.1) (λ b. b.2 p.2) a) r

    abbrev Wide : CertFault → Type 0
    Wide fault = IsOfLength player part × IsWidePart player m k part × (fault ≡ TooWide line)

    abbrev Wrong : CertFault → Type 0
    Wrong fault = IsOfLength player part × (IsWidePart player m k part → ⊥) × (IsPartRight kind player m k part → ⊥) × (fault ≡ Bad line)

    abbrev OtherLength : CertFault → Type 0
    OtherLength fault = (IsOfLength player part → ⊥) × (fault ≡ Bad line)

    part_one : (f g : CertFault) → PartRefused kind player m line k part f → PartRefused kind player m line k part g → f ≡ g
    part_one f g =
        either_one OtherLength (λ x. Wide x ⊎ Wrong x) (λ x y a b. a.0 (⊎_elim (λ (u : Wide y). u.0) (λ (u : Wrong y). u.0) b)) f g (λ a b. a.1 ∙ sym b.1) (either_one Wide Wrong (λ x y a b. b.1 a.1) f g (λ a b. a.2 ∙ sym b.2) (λ a b. a.3 ∙ sym b.3))

  module _ (line : ℕ) where
    mixture_apart : (fault : CertFault) → MixturePasses kind player m → MixtureRefused kind player m line fault → ⊥
    mixture_apart =
        first_apart (PartPasses kind player m) (λ k. PartRefused kind player m (line + 1 + k) k) (λ k. part_apart (line + 1 + k) k) m.parts

    mixture_one : (f g : CertFault) → MixtureRefused kind player m line f → MixtureRefused kind player m line g → f ≡ g
    mixture_one =
        first_one (PartPasses kind player m) (λ k. PartRefused kind player m (line + 1 + k) k) (λ k. part_apart (line + 1 + k) k) m.parts (λ k. part_one (line + 1 + k) k)

-- the players' lines
module _ (kind : Kind) (mixtures : List MixtureOf) where
  player_apart : (i : ℕ) (player : PlayerOf) (fault : CertFault) → PlayerPasses kind mixtures i player → PlayerRefused kind mixtures i player fault → ⊥
  player_apart i player fault p r =
      mixture_apart kind player r.0 (player_line_number mixtures i) fault (p r.0 r.1) r.2

  player_one : (i : ℕ) (player : PlayerOf) (f g : CertFault) → PlayerRefused kind mixtures i player f → PlayerRefused kind mixtures i player g → f ≡ g
  player_one i player f g r s =
      let same = one mixtures i r.0 s.0 r.1 s.1 in
      mixture_one kind player s.0 (player_line_number mixtures i) f g (subst (λ (m : MixtureOf). MixtureRefused kind player m (player_line_number mixtures i) f) same r.2) s.2

  module _ (game : GameOf) where
    pub strategies_apart : (fault : CertFault) → StrategiesPass game kind mixtures → StrategiesRefused game kind mixtures fault → ⊥
    strategies_apart =
        first_apart (PlayerPasses kind mixtures) (PlayerRefused kind mixtures) player_apart game

    pub strategies_one : (f g : CertFault) → StrategiesRefused game kind mixtures f → StrategiesRefused game kind mixtures g → f ≡ g
    strategies_one =
        first_one (PlayerPasses kind mixtures) (PlayerRefused kind mixtures) player_apart game player_one

-- a tree's lines
module _ (player : PlayerOf) (row : Bound) (nodes : List NodeOf) (line : ℕ) where
  tree_apart : (fault : CertFault) → TreePasses player row nodes → TreeRefused player row nodes line fault → ⊥
  tree_apart fault p r =
      exclusive (ProvesRow player row) (IsWideForRow player row) player r.0 0 (root_leaf player) r.1 (subst (TreeIsPassed player row (root_leaf player)) (same_tree p.0 r.0 (p.1 ∙ sym r.2)) p.2) r.3

  tree_one : (f g : CertFault) → TreeRefused player row nodes line f → TreeRefused player row nodes line g → f ≡ g
  tree_one f g r s =
      let same = same_tree r.0 s.0 (r.2 ∙ sym s.2) in
      let first = one_fault (ProvesRow player row) (IsWideForRow player row) player s.0 0 (root_leaf player) r.1 s.1 (subst (λ (t : TreeOf). IsRefusedAt player row 0 (root_leaf player) t r.1) same r.3) s.3 in
      r.4 ∙ ap (at_line line) first ∙ sym s.4

-- a box tree's lines
module _ (game : GameOf) (nodes : List BNodeOf) (line : ℕ) where
  boxes_apart : (fault : CertFault) → BoxesPass game nodes → BoxesRefused game nodes line fault → ⊥
  boxes_apart fault p r =
      box_exclusive game r.0 0 (root_box game) r.1 (subst (BoxPasses game (root_box game)) (same_boxes p.0 r.0 (p.1 ∙ sym r.2)) p.2) r.3

  boxes_one : (f g : CertFault) → BoxesRefused game nodes line f → BoxesRefused game nodes line g → f ≡ g
  boxes_one f g r s =
      let same = same_boxes r.0 s.0 (r.2 ∙ sym s.2) in
      let first = one_box_fault game s.0 0 (root_box game) r.1 s.1 (subst (λ (t : BoxTreeOf). IsRefusedBox game 0 (root_box game) t r.1) same r.3) s.3 in
      r.4 ∙ ap (at_line line) first ∙ sym s.4

-- the lines of a bound
module _ (game : GameOf) (mixtures : List MixtureOf) (line i : ℕ) (player : PlayerOf) (bound : BoundOf) where
  abbrev WideCost : CertFault → Type 0
  WideCost fault = IsWideCost game mixtures i player × (fault ≡ TooWide line)

  abbrev OtherCost : CertFault → Type 0
  OtherCost fault =
      (value : Fraction) × (left : List ℤ) × (right : ℤ) × IsCostMade game mixtures i player value left right × (value ≡ bound.cost → ⊥) × (fault ≡ Bad line)

  abbrev WrongTree : CertFault → Type 0
  WrongTree fault =
      (left : List ℤ) × (right : ℤ) × IsCostMade game mixtures i player bound.cost left right × TreeRefused player (bound_with left right) bound.tree (line + 1) fault

  -- a tree that is refused for a claim that was made is refused for the one claim that is made
  same_claim : (fault : CertFault) (value : Fraction) (left : List ℤ) (right : ℤ) → IsCostMade game mixtures i player value left right → (w : WrongTree fault) → TreeRefused player (bound_with left right) bound.tree (line + 1) fault
  same_claim fault value left right made w =
      let same = one_made game mixtures i player bound.cost value w.0 left w.1 right w.2 made in
      subst (λ (r : ℤ). TreeRefused player (bound_with left r) bound.tree (line + 1) fault) same.2 (subst (λ (l : List ℤ). TreeRefused player (bound_with l w.1) bound.tree (line + 1) fault) same.1 w.3)

  -- a value that is made isn't another one
  one_cost : (value : Fraction) (left : List ℤ) (right : ℤ) → IsCostMade game mixtures i player value left right → (left' : List ℤ) (right' : ℤ) → IsCostMade game mixtures i player bound.cost left' right' → value ≡ bound.cost
  one_cost value left right made left' right' other =
      (one_made game mixtures i player value bound.cost left left' right right' made other).0

  bound_apart : (fault : CertFault) → BoundPasses game mixtures i player bound → BoundRefused game mixtures line i player bound fault → ⊥
  bound_apart fault p r =
      ⊎_elim (λ (a : WideCost fault). made_or_wide game mixtures i player bound.cost p.0 p.1 p.2 a.0) (λ (a : OtherCost fault ⊎ WrongTree fault). ⊎_elim (λ (b : OtherCost fault). b.4 (one_cost b.0 b.1 b.2 b.3 p.0 p.1 p.2)) (λ (b : WrongTree fault). tree_apart player (bound_with p.0 p.1) bound.tree (line + 1) fault p.3 (same_claim fault bound.cost p.0 p.1 p.2 b)) a) r

  made_not_wide : (fault other : CertFault) → WideCost fault → OtherCost other ⊎ WrongTree other → ⊥
  made_not_wide fault other w a =
      ⊎_elim (λ (b : OtherCost other). made_or_wide game mixtures i player b.0 b.1 b.2 b.3 w.0) (λ (b : WrongTree other). made_or_wide game mixtures i player bound.cost b.0 b.1 b.2 w.0) a

  bound_one : (f g : CertFault) → BoundRefused game mixtures line i player bound f → BoundRefused game mixtures line i player bound g → f ≡ g
  bound_one f g =
      either_one WideCost (λ x. OtherCost x ⊎ WrongTree x) made_not_wide f g (λ a b. a.1 ∙ sym b.1) (either_one OtherCost WrongTree (λ x y a b. a.4 (one_cost a.0 a.1 a.2 a.3 b.0 b.1 b.2)) f g (λ a b. a.5 ∙ sym b.5) (λ a b. tree_one player (bound_with b.0 b.1) bound.tree (line + 1) f g (same_claim f bound.cost b.0 b.1 b.2 a) b.3))

-- the bounds' lines
module _ (game : GameOf) (mixtures : List MixtureOf) (bounds : List BoundOf) where
  cost_apart : (i : ℕ) (player : PlayerOf) (fault : CertFault) → CostPasses game mixtures bounds i player → CostRefused game mixtures bounds i player fault → ⊥
  cost_apart i player fault p r =
      bound_apart game mixtures (cost_line_number mixtures bounds i) i player r.0 fault (p r.0 r.1) r.2

  cost_one : (i : ℕ) (player : PlayerOf) (f g : CertFault) → CostRefused game mixtures bounds i player f → CostRefused game mixtures bounds i player g → f ≡ g
  cost_one i player f g r s =
      let same = one bounds i r.0 s.0 r.1 s.1 in
      bound_one game mixtures (cost_line_number mixtures bounds i) i player s.0 f g (subst (λ (b : BoundOf). BoundRefused game mixtures (cost_line_number mixtures bounds i) i player b f) same r.2) s.2

  pub bounds_apart : (fault : CertFault) → BoundsPass game mixtures bounds → BoundsRefused game mixtures bounds fault → ⊥
  bounds_apart =
      first_apart (CostPasses game mixtures bounds) (CostRefused game mixtures bounds) cost_apart game

  pub bounds_one : (f g : CertFault) → BoundsRefused game mixtures bounds f → BoundsRefused game mixtures bounds g → f ≡ g
  bounds_one =
      first_one (CostPasses game mixtures bounds) (CostRefused game mixtures bounds) cost_apart game cost_one

-- the lines of a verdict
module _ (game : GameOf) (kind : Kind) where
  verdict_apart : (verdict : VerdictOf) (fault : CertFault) → VerdictPasses game kind verdict → VerdictRefused game kind verdict fault → ⊥
  verdict_apart (ProfileVerdict mixtures bounds) fault p r =
      ⊎_elim (λ (a : StrategiesRefused game kind mixtures fault). strategies_apart kind mixtures game fault p.0 a) (λ (a : StrategiesPass game kind mixtures × BoundsRefused game mixtures bounds fault). bounds_apart game mixtures bounds fault p.1 a.1) r
  verdict_apart (CoverVerdict covers named proof) fault p r =
      ⊎_elim (covers_apart game covers named fault p.0)
      (λ (a : CoversPass game covers named × ProofRefused game kind covers named proof
      (case_line_number covers named) fault). proof_apart game kind covers named proof
      (case_line_number covers named) fault p.1 a.1) r
  verdict_apart (BoxVerdict nodes) fault p r = ⊎_elim (λ a. a.0 p.0) (λ a. boxes_apart game nodes 4 fault p.1 a.1) r
  verdict_apart (EmptyVerdict i nodes) fault p r =
      ⊎_elim (λ a. a.0 (slice_get_within game i p.0 p.1)) (λ a. tree_apart p.0 (no_point p.0) nodes 4 fault p.2 (subst (λ (player : PlayerOf). TreeRefused player (no_point player) nodes 4 fault) (one game i a.0 p.0 a.1 p.1) a.2)) r

  verdict_one : (verdict : VerdictOf) (f g : CertFault) → VerdictRefused game kind verdict f → VerdictRefused game kind verdict g → f ≡ g
  verdict_one (ProfileVerdict mixtures bounds) f g =
      either_one (StrategiesRefused game kind mixtures) (λ x. StrategiesPass game kind mixtures × BoundsRefused game mixtures bounds x) (λ x y a b. strategies_apart kind mixtures game x b.0 a) f g (strategies_one kind mixtures game f g) (λ a b. bounds_one game mixtures bounds f g a.1 b.1)
  verdict_one (CoverVerdict covers named proof) f g =
      let line = case_line_number covers named in
      either_one (CoversRefused game covers named)
      (λ x. CoversPass game covers named × ProofRefused game kind covers named proof line x)
      (λ x y a b. covers_apart game covers named x b.0 a) f g (covers_one game covers named f g)
      (λ a b. proof_one game kind covers named proof line f g a.1 b.1)
  verdict_one (BoxVerdict nodes) f g = in_turn (kind ≡ Pure) (BoxesRefused game nodes 4) (Bad 3) f g (boxes_one game nodes 4 f g)
  verdict_one (EmptyVerdict i nodes) f g =
      either_one (λ x. (i < length game → ⊥) × (x ≡ Bad 3)) (λ x. (player : PlayerOf) × IsPlayer game i player × TreeRefused player (no_point player) nodes 4 x) (λ x y a b. a.0 (slice_get_within game i b.0 b.1)) f g (λ a b. a.1 ∙ sym b.1) (λ a b. tree_one b.0 (no_point b.0) nodes 4 f g (subst (λ (player : PlayerOf). TreeRefused player (no_point player) nodes 4 f) (one game i a.0 b.0 a.1 b.1) a.2) b.2)

  profile_apart : (verdict : VerdictOf) (fault : CertFault) → ProfilePasses game kind verdict → ProfileRefused game kind verdict fault → ⊥
  profile_apart (ProfileVerdict mixtures bounds) fault p r = strategies_apart kind mixtures game fault p r
  profile_apart (CoverVerdict covers named proof) fault p r = p
  profile_apart (EmptyVerdict i nodes) fault p r = p
  profile_apart (BoxVerdict nodes) fault p r = p

  profile_one : (verdict : VerdictOf) (f g : CertFault) → ProfileRefused game kind verdict f → ProfileRefused game kind verdict g → f ≡ g
  profile_one (ProfileVerdict mixtures bounds) f g r s = strategies_one kind mixtures game f g r s
  profile_one (CoverVerdict covers named proof) f g r s = r ∙ sym s
  profile_one (EmptyVerdict i nodes) f g r s = r ∙ sym s
  profile_one (BoxVerdict nodes) f g r s = r ∙ sym s

module _ (game : GameOf) (c : CertOf) where
  pub cert_apart : (fault : CertFault) → CertPasses game c → CertRefused game c fault → ⊥
  cert_apart fault p r = ⊎_elim (λ a. a.0 p.0) (λ a. verdict_apart game c.kind c.verdict fault p.1 a.1) r

  pub cert_one : (f g : CertFault) → CertRefused game c f → CertRefused game c g → f ≡ g
  cert_one f g =
      in_turn (c.players ≡ length game) (VerdictRefused game c.kind c.verdict) (Bad 2) f g (verdict_one game c.kind c.verdict f g)

  -- the same of the head
  pub head_apart : (fault : CertFault) → HeadPasses game c → HeadRefused game c fault → ⊥
  head_apart fault p r = ⊎_elim (λ a. a.0 p.0) (λ a. profile_apart game c.kind c.verdict fault p.1 a.1) r

  pub head_one : (f g : CertFault) → HeadRefused game c f → HeadRefused game c g → f ≡ g
  head_one f g =
      in_turn (c.players ≡ length game) (ProfileRefused game c.kind c.verdict) (Bad 2) f g (profile_one game c.kind c.verdict f g)
