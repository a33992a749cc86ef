-- The lists of leaves, of copied names and of no cuts, put together.
use Rattle.std.proofs.Common.{◌≡◌, ℕ, suc, zero, ◌<◌, ◌^◌, arith, refl, sym, ap, subst, ◌∙◌, Some, All, List, [], ◌∷◌, map, length, replicate, slice_get}
use Rattle.std.specs.Global.{Vec}
use Rattle.std.proofs.lemmas.List.{length-map}
use Rattle.std.proofs.lemmas.List.Elements.{All-cons, All-head, All-nil, All-tail}
use Rattle.zr_base.specs.declared.row.Cut.{Cut}
use Rattle.zr_game.specs.declared.named.Named.{Named}
use Rattle.zr_game.specs.Forms.{IsPlayer}
use Rattle.zr_game.specs.Leaves.{Bound, IsLeafOf}
use Rattle.zr_game.specs.Named.{NamedOf, named_of}
use Rattle.zr_game.specs.Players.{GameOf, PlayerOf}
use Rattle.zr_game.proofs.Items.{All-of_map}
use Rattle.zr_tree.specs.Trees.{TreeOf}
use Rattle.zr_system.specs.Asked.{AreLeaves, IsNamedForm}
use Rattle.zr_system.specs.Regions.{cut_of, leaves_of, region_of}
use Rattle.zr_system.specs.declared.leaves.Leaves.{Leaves}
use Rattle.zr_system.specs.declared.leaves.Region.{Region}
use Rattle.zr_refute.specs.Covered.{covered, regions_with}

abbrev names_in : List (Vec Named) → List (List NamedOf)
names_in lists = map (λ list. map named_of list.items) lists

abbrev cuts_in : List (Vec Cut) → List (List Bound)
cuts_in lists = map (λ list. map cut_of list.items) lists

-- what holds of each item holds of each one's content
All-to_map : {A B : Type 0} (g : A → B) (P : B → Type 0) (xs : List A) → All (λ x. P (g x)) xs → All P (map g xs)
All-to_map g P [] all = All-nil P
All-to_map g P (x ∷ xs) all =
    All-cons P (g x) (map g xs) (All-head (λ y. P (g y)) x xs all) (All-to_map g P xs (All-tail (λ y. P (g y)) x xs all))

-- lists with the same contents are as short
few_alike : (new old : List (Vec Named)) → names_in new ≡ names_in old → All (λ list. length list.items < 2 ^ 32) old
    → All (λ list. length list.items < 2 ^ 32) new
few_alike [] old e few = All-nil (λ list. length list.items < 2 ^ 32)
few_alike (n ∷ ns) [] e few = absurd cc
few_alike (n ∷ ns) (o ∷ os) e few =
    let a : map named_of n.items ≡ map named_of o.items = cc in
    let b : names_in ns ≡ names_in os = cc in
    let k = ap length a in
    let l = length-map n.items named_of in
    let m = length-map o.items named_of in
    let h = All-head (λ list. length list.items < 2 ^ 32) o os few in
    All-cons (λ list. length list.items < 2 ^ 32) n ns (omega (arith, k, l, m, h)) (few_alike ns os b (All-tail (λ list. length list.items < 2 ^ 32) o os few))

-- a list at a place has an original with the same content
original : (new old : List (Vec Named)) (i : ℕ) (list : Vec Named) → names_in new ≡ names_in old → slice_get new i ≡ Some list
    → (source : Vec Named) × (slice_get old i ≡ Some source) × (map named_of source.items ≡ map named_of list.items)
original [] old i list e is = absurd cc
original (n ∷ ns) [] i list e is = absurd cc
original (n ∷ ns) (o ∷ os) zero list e is =
    let a : map named_of n.items ≡ map named_of o.items = cc in
    let s : n ≡ list = cc in
    (o, refl, sym a ∙ ap (λ (l : Vec Named). map named_of l.items) s)
original (n ∷ ns) (o ∷ os) (suc i) list e is =
    let b : names_in ns ≡ names_in os = cc in
    original ns os i list b is

-- there is no cut
no_cut : (lists : List (Vec Cut)) (n i : ℕ) (list : Vec Cut) → cuts_in lists ≡ replicate n [] → slice_get lists i ≡ Some list
    → length list.items ≡ 0
no_cut [] n i list e is = absurd cc
no_cut (l ∷ ls) zero i list e is = absurd cc
no_cut (l ∷ ls) (suc n) zero list e is =
    let a : map cut_of l.items ≡ [] = cc in
    let s : l ≡ list = cc in
    ap (λ (x : Vec Cut). length x.items) (sym s) ∙ sym (length-map l.items cut_of) ∙ ap length a
no_cut (l ∷ ls) (suc n) (suc i) list e is =
    let b : cuts_in ls ≡ replicate n [] = cc in
    no_cut ls n i list b is

few_cuts : (lists : List (Vec Cut)) (n : ℕ) → cuts_in lists ≡ replicate n [] → All (λ list. length list.items < 2 ^ 32) lists
few_cuts [] n e = All-nil (λ list. length list.items < 2 ^ 32)
few_cuts (l ∷ ls) zero e = absurd cc
few_cuts (l ∷ ls) (suc n) e =
    let a : map cut_of l.items ≡ [] = cc in
    let b : cuts_in ls ≡ replicate n [] = cc in
    let k = ap length a in
    let m = length-map l.items cut_of in
    All-cons (λ list. length list.items < 2 ^ 32) l ls (omega (arith, k, m)) (few_cuts ls n b)

abbrev empty : List Bound
empty = []

none_each : (game : GameOf) → replicate (length game) empty ≡ map (λ (player : PlayerOf). empty) game
none_each [] = refl
none_each (player ∷ players) = ap (λ (rest : List (List Bound)). empty ∷ rest) (none_each players)

as_many_cuts : (lists : List (Vec Cut)) (n : ℕ) → cuts_in lists ≡ replicate n [] → length lists ≡ n
as_many_cuts [] zero e = refl
as_many_cuts [] (suc n) e = absurd cc
as_many_cuts (l ∷ ls) zero e = absurd cc
as_many_cuts (l ∷ ls) (suc n) e = let b : cuts_in ls ≡ replicate n [] = cc in ap suc (as_many_cuts ls n b)

module _ (game : GameOf) (leaves : Leaves) (sources : List (Vec Named)) (copied : names_in leaves.named.items ≡ names_in sources)
    (none : cuts_in leaves.cuts.items ≡ replicate (length game) []) where
  module _ (count : length sources ≡ length game) (few_items : All (λ list. length list.items < 2 ^ 32) sources)
      (forms : (i : ℕ) (player : PlayerOf) → IsPlayer game i player → (list : Vec Named) → slice_get sources i ≡ Some list
      → All (λ item. IsNamedForm (length player.vars) (named_of item)) list.items)
      (regions_count : length leaves.regions.items ≡ length game)
      (few_leaves : All (λ list. length list.items < 2 ^ 32) leaves.regions.items)
      (leaf : (i : ℕ) (player : PlayerOf) → IsPlayer game i player → (list : Vec Region) → slice_get leaves.regions.items i ≡ Some list
      → All (λ region. IsLeafOf player region.leaf) list.items) where
    item : (i : ℕ) (player : PlayerOf) → IsPlayer game i player → (list : Vec Named) → slice_get leaves.named.items i ≡ Some list
        → All (λ item. IsNamedForm (length player.vars) (named_of item)) list.items
    item i player is list e =
        let o = original leaves.named.items sources i list copied e in
        All-of_map named_of (IsNamedForm (length player.vars)) list.items
        (subst (All (IsNamedForm (length player.vars))) o.2
        (All-to_map named_of (IsNamedForm (length player.vars)) o.0.items (forms i player is o.0 o.1)))

    pub are_leaves : AreLeaves game leaves
    are_leaves = record {
      regions = regions_count;
      named = sym (length-map leaves.named.items (λ list. map named_of list.items)) ∙ ap length copied
          ∙ length-map sources (λ list. map named_of list.items) ∙ count;
      cuts = as_many_cuts leaves.cuts.items (length game) none;
      few_leaves = few_leaves;
      few_items = few_alike leaves.named.items sources copied few_items;
      few_cuts = few_cuts leaves.cuts.items (length game) none;
      leaf = leaf;
      item = item;
      cut = λ i player is list e k d below. absurd (let z = no_cut leaves.cuts.items (length game) i list none e in omega (arith, below, z));
    }

  pub same_content : (trees : List TreeOf) → map (λ list. map region_of list.items) leaves.regions.items ≡ regions_with game trees
      → leaves_of leaves ≡ covered game trees (names_in sources)
  same_content trees e =
      let c = none ∙ none_each game in
      λ i. record { regions = e i; named = copied i; cuts = c i }
