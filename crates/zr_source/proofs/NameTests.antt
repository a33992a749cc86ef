-- Names that keep the rule and differ, told by a test of each against those before it.
use Rattle.std.proofs.Common.{◌≡◌, ◌≢◌, ◌↔◌, ℕ, ◌<◌, arith, refl, sym, ap, subst, ◌∙◌, Bool, ◌&&◌, IsTrue, List, [], ◌∷◌, length, map, take, get_or, string_bytes, All, AllPairs}
use Rattle.std.proofs.lemmas.List.{get_or-map, get_or-take, length-map, length-take}
use Rattle.std.proofs.lemmas.List.Elements.{All-map}
use Rattle.zr_base.proofs.Telling.{EachBelow, both_true, true_both}
use Rattle.zr_game.proofs.Items.{All-of_map, at_number}
use Rattle.zr_game.specs.Players.{Name, var_of}
use Rattle.zr_game.specs.declared.player.Var.{Var}
use Rattle.zr_source.specs.Names.{AreNames, is_name, leader_name, var_name}
use Rattle.zr_source.specs.Sources.{leader_of}
use Rattle.zr_source.specs.declared.source.Leader.{Leader}

module _ {A : Type 0} (name : A → Name) (xs : List A) where
  -- the item's name keeps the rule, and none before it is the same
  abbrev pub IsNew : ℕ → A → Type 0
  IsNew v x = IsTrue (is_name (name x)) × All (λ y. name y ≢ name x) (take v xs)

  pub new_told : (v : ℕ) (x : A) (a b : Bool) → a ≡ is_name (name x)
      → (IsTrue b ↔ All (λ y. name y ≢ name x) (take v xs)) → IsTrue (a && b) ↔ IsNew v x
  new_told v x a b rule new = (
    λ h. let p = both_true a b h in (sym rule ∙ p.0, new.0 p.1),
    λ h. true_both a b (rule ∙ h.0) (new.1 h.1),
  )

  to_names : EachBelow (length xs) IsNew xs → AreNames (map name xs)
  to_names each = record {
    rule = All-map (λ s. IsTrue (is_name s)) name xs (λ k d h. (each k d h).0);
    differ = differ;
  }
    where
      differ : AllPairs (λ s t. s ≢ t) (map name xs)
      differ i j d below within =
          let here : j < length xs = subst (λ (n : ℕ). j < n) (length-map xs name) within in
          let x = (at_number xs j here).0 in
          let first = get_or-map name xs i x d (omega (arith, below, here)) in
          let second = get_or-map name xs j x d here in
          let room : i < length (take j xs) = omega (arith, length-take j xs, below, here) in
          let new = (each j x here).1 i x room in
          λ e. new (ap name (get_or-take j xs i x below) ∙ sym first ∙ e ∙ second)

  of_names : AreNames (map name xs) → EachBelow (length xs) IsNew xs
  of_names names v d below = (
    All-of_map name (λ s. IsTrue (is_name s)) xs names.rule v d below,
    apart,
  )
    where
      apart : All (λ y. name y ≢ name (get_or xs v d)) (take v xs)
      apart k e h =
          let before : k < v = omega (arith, length-take v xs, h) in
          let within : v < length (map name xs) = subst (λ (n : ℕ). v < n)
          (sym (length-map xs name)) below in
          let first = get_or-map name xs k e (name d) (omega (arith, before, below)) in
          let second = get_or-map name xs v d (name d) below in
          λ q. names.differ k v (name d) before within (first ∙
          sym (ap name (get_or-take v xs k e before)) ∙ q ∙ sym second)

  pub names_told : (all : Bool) → (IsTrue all ↔ EachBelow (length xs) IsNew xs)
      → IsTrue all ↔ AreNames (map name xs)
  names_told all told = (λ h. to_names (told.0 h), λ h. told.1 (of_names h))

abbrev pub var_text : Var → Name
var_text var = string_bytes var.name

abbrev pub leader_text : Leader → Name
leader_text leader = string_bytes leader.base.name

pub var_texts : (vars : List Var) (all : Bool)
    → (IsTrue all ↔ EachBelow (length vars) (IsNew var_text vars) vars)
    → IsTrue all ↔ AreNames (map var_name (map var_of vars))
var_texts vars all told = subst (λ (names : List Name). IsTrue all ↔ AreNames names) (fused vars)
    (names_told var_text vars all told)
  where
    fused : (xs : List Var) → map var_text xs ≡ map var_name (map var_of xs)
    fused [] = refl
    fused (x ∷ xs) = ap (λ (ns : List Name). var_text x ∷ ns) (fused xs)

pub leader_texts : (leaders : List Leader) (all : Bool)
    → (IsTrue all ↔ EachBelow (length leaders) (IsNew leader_text leaders) leaders)
    → IsTrue all ↔ AreNames (map leader_name (map leader_of leaders))
leader_texts leaders all told = subst (λ (names : List Name). IsTrue all ↔ AreNames names)
    (fused leaders) (names_told leader_text leaders all told)
  where
    fused : (xs : List Leader) → map leader_text xs ≡ map leader_name (map leader_of xs)
    fused [] = refl
    fused (x ∷ xs) = ap (λ (ns : List Name). leader_text x ∷ ns) (fused xs)
