-- The leaves that are listed, and those of the trees that are due, are the whole tree's.
use Rattle.std.proofs.Common.{◌≡◌, ℕ, suc, ◌<◌, arith, refl, sym, ap, ap₂, subst, ◌∙◌, true, false, cond, nat_lt, ℤ, Option, Some, None, All, List, [], ◌∷◌, ◌++◌, map, length, get_or, length-append, append_assoc}
use Rattle.std.specs.Prelude.{MatchOption, option_to_list}
use Rattle.std.proofs.lemmas.List.{append-nil, map-append}
use Rattle.std.proofs.lemmas.List.Elements.{All-cons, All-head, All-tail}
use Rattle.std.proofs.lemmas.Bool.Decides.{nat_tests}
use Rattle.zr_game.specs.declared.leaf.Leaf.{Leaf}
use Rattle.zr_game.specs.Players.{PlayerOf}
use Rattle.zr_game.specs.Leaves.{IsLeafOf, LeafOf, leaf_of}
use Rattle.zr_game.proofs.LeafLaws.{same_leaf}
use Rattle.zr_tree.specs.Nodes.{NodeOf}
use Rattle.zr_tree.specs.Trees.{TreeOf, Split, Choose, Proof, Known, Loose, preorder}
use Rattle.zr_tree.specs.Covers.{high_child, leaves_at, low_child, cover_leaves, side_child}
use Rattle.zr_game.specs.declared.leaf.Side.{Side}
use Rattle.zr_game.specs.declared.leaf.Side.TheVariants.{Undecided, VarZero, RowZero}
use Rattle.zr_tree.specs.Openings.{Opened, kid_leaves, own_leaves, upcoming, upcoming_on}
use Rattle.zr_tree.proofs.Forests.{after_node, forest, kids, opened, top}

-- ---- the list of leaves that are due, from its end

pub upcoming_push : (done leaves : List Leaf) (leaf : Leaf)
    → upcoming_on done (leaves ++ leaf ∷ []) ≡ leaf ∷ upcoming_on done leaves
upcoming_push done [] leaf = refl
upcoming_push done (first ∷ leaves) leaf = upcoming_push (first ∷ done) leaves leaf

pub upcoming_pop : (old new : List Leaf) (taken : Option Leaf) → old ≡ new ++ option_to_list taken
    → (taken ≡ None → new ≡ [])
    → MatchOption taken (upcoming old ≡ []) (λ leaf. upcoming old ≡ leaf ∷ upcoming new)
upcoming_pop old new None e none = rw (e, none refl) refl
upcoming_pop old new (Some leaf) e none = rw e (upcoming_push [] new leaf)

-- ---- a test that holds

pub is_below : {A : Type 0} (v n : ℕ) (a b : A) → v < n → cond (nat_lt v n) a b ≡ a
is_below v n a b h = let t : nat_lt v n ≡ true = grind (arith, nat_tests) in rw t refl

pub is_past : {A : Type 0} (v n : ℕ) (a b : A) → (v < n → ⊥) → cond (nat_lt v n) a b ≡ b
is_past v n a b h = let t : nat_lt v n ≡ false = grind (arith, nat_tests) in rw t refl

-- ---- the leaves of several trees

module _ (player : PlayerOf) where
  abbrev pub leaves_all : List LeafOf → List TreeOf → List LeafOf
  leaves_all [] ts = []
  leaves_all (leaf ∷ leaves) [] = []
  leaves_all (leaf ∷ leaves) (t ∷ ts) = leaves_at player leaf t ++ leaves_all leaves ts

  all_append : (xs ys : List LeafOf) (us vs : List TreeOf) → length us ≡ length xs
      → leaves_all (xs ++ ys) (us ++ vs) ≡ leaves_all xs us ++ leaves_all ys vs
  all_append [] ys [] vs l = refl
  all_append [] ys (u ∷ us) vs l = absurd (omega (arith, l))
  all_append (x ∷ xs) ys [] vs l = absurd (omega (arith, l))
  all_append (x ∷ xs) ys (u ∷ us) vs l =
      ap (λ (ls : List LeafOf). leaves_at player x u ++ ls)
      (all_append xs ys us vs (omega (arith, l))) ∙
      sym (append_assoc (leaves_at player x u) (leaves_all xs us) (leaves_all ys vs))

  both_children : (a b : LeafOf) (first second : TreeOf)
      → map (λ item. item.leaf) (cover_leaves player a first ++ cover_leaves player b second)
      ≡ leaves_at player a first ++ (leaves_at player b second ++ [])
  both_children a b first second =
      map-append (λ item. item.leaf) (cover_leaves player a first)
      (cover_leaves player b second) ∙
      ap (λ (ls : List LeafOf). leaves_at player a first ++ ls)
      (sym (append-nil (leaves_at player b second)))

  leaves_opened : (leaf : LeafOf) (t : TreeOf) → leaves_at player leaf t
      ≡ own_leaves leaf (top t) ++ leaves_all (kid_leaves player leaf (top t)) (kids t)
  leaves_opened leaf (Split v at first second) =
      both_children (low_child player leaf v at) (high_child player leaf v at) first second
  leaves_opened leaf (Choose p first second) =
      both_children (side_child player leaf p VarZero) (side_child player leaf p RowZero) first
      second
  leaves_opened leaf (Proof scale mult) = refl
  leaves_opened leaf (Known x) = refl
  leaves_opened leaf Loose = refl

  kid_count : (leaf : LeafOf) (t : TreeOf)
      → length (kids t) ≡ length (kid_leaves player leaf (top t))
  kid_count leaf (Split v at first second) = refl
  kid_count leaf (Choose p first second) = refl
  kid_count leaf (Proof scale mult) = refl
  kid_count leaf (Known x) = refl
  kid_count leaf Loose = refl

  module _ (root : LeafOf) (nodes : List NodeOf) where
    -- what is made, and the leaves of the trees that are left at the leaves that are due, are the
    -- leaves of the whole tree
    abbrev pub Listing : List NodeOf → List LeafOf → List LeafOf → Type 0
    Listing left due made =
        (t : TreeOf) → preorder t ≡ nodes
        → (ts : List TreeOf) × (left ≡ forest ts) × (length ts ≡ length due)
        × (made ++ leaves_all due ts ≡ leaves_at player root t)

    pub listing_first : Listing nodes (root ∷ []) []
    listing_first t e =
        (t ∷ [], sym e ∙ sym (append-nil (preorder t)), refl, append-nil (leaves_at player root t))

    pub listing_next : (node : NodeOf) (rest : List NodeOf) (leaf : LeafOf)
        (due made : List LeafOf) → Listing (node ∷ rest) (leaf ∷ due) made
        → Listing rest (kid_leaves player leaf node ++ due) (made ++ own_leaves leaf node)
    listing_next node rest leaf due made before t e =
        let b = before t e in on b.0 b.1 b.2 b.3
      where
        on : (ts : List TreeOf) → node ∷ rest ≡ forest ts → length ts ≡ suc (length due)
            → made ++ leaves_all (leaf ∷ due) ts ≡ leaves_at player root t
            → (us : List TreeOf) × (rest ≡ forest us)
            × (length us ≡ length (kid_leaves player leaf node ++ due))
            × ((made ++ own_leaves leaf node) ++ leaves_all (kid_leaves player leaf node ++ due) us
            ≡ leaves_at player root t)
        on [] f l w = absurd cc
        on (u ∷ us) f l w =
            let a = after_node node rest u us f in
            let n = kid_count leaf u in
            let lengths : length (kids u ++ us)
            ≡ length (kid_leaves player leaf (top u) ++ due) =
            length-append (kids u) us ∙
            omega (arith, n, l, length-append (kid_leaves player leaf (top u)) due) in
            let own = own_leaves leaf (top u) in
            let kid = leaves_all (kid_leaves player leaf (top u)) (kids u) in
            let others = leaves_all due us in
            let split : (made ++ own)
            ++ leaves_all (kid_leaves player leaf (top u) ++ due) (kids u ++ us)
            ≡ made ++ leaves_all (leaf ∷ due) (u ∷ us) =
            ap (λ (ls : List LeafOf). (made ++ own) ++ ls)
            (all_append (kid_leaves player leaf (top u)) due (kids u) us n) ∙
            append_assoc made own (kid ++ others) ∙
            ap (λ (ls : List LeafOf). made ++ ls)
            (sym (append_assoc own kid others) ∙
            ap (λ (ls : List LeafOf). ls ++ others) (sym (leaves_opened leaf u))) in (
              kids u ++ us,
              a.1,
              subst (λ (m : NodeOf). length (kids u ++ us)
                  ≡ length (kid_leaves player leaf m ++ due)) (sym a.0) lengths,
              subst (λ (m : NodeOf). (made ++ own_leaves leaf m)
                  ++ leaves_all (kid_leaves player leaf m ++ due) (kids u ++ us)
                  ≡ leaves_at player root t) (sym a.0) (split ∙ w),
            )

    -- no node is left
    pub listing_last : (due made : List LeafOf) → Listing [] due made
        → (t : TreeOf) → preorder t ≡ nodes → made ≡ leaves_at player root t
    listing_last due made before t e = let b = before t e in on due b.0 b.1 b.2 b.3
      where
        on : (due : List LeafOf) (ts : List TreeOf) → [] ≡ forest ts → length ts ≡ length due
            → made ++ leaves_all due ts ≡ leaves_at player root t
            → made ≡ leaves_at player root t
        on [] [] f l w = sym (append-nil made) ∙ w
        on (leaf ∷ due) [] f l w = absurd (omega (arith, l))
        on due (u ∷ us) f l w =
            let g : [] ≡ top u ∷ (forest (kids u) ++ forest us) =
            f ∙ ap (λ (ns : List NodeOf). ns ++ forest us) (opened u) in
            absurd cc

    -- where a node is left, a leaf is due
    pub some_due : (node : NodeOf) (rest : List NodeOf) (made : List LeafOf)
        → Listing (node ∷ rest) [] made → (t : TreeOf) → preorder t ≡ nodes → ⊥
    some_due node rest made before t e = let b = before t e in on b.0 b.1 b.2
      where
        on : (ts : List TreeOf) → node ∷ rest ≡ forest ts → length ts ≡ 0 → ⊥
        on [] f l = cc
        on (u ∷ us) f l = omega (arith, l)

-- ---- leaves with places for the player

pub copied : (a b : Leaf) → a.low.items ≡ b.low.items → a.high.items ≡ b.high.items
    → a.sides.items ≡ b.sides.items → leaf_of a ≡ leaf_of b
copied a b l h s =
    same_leaf (leaf_of a) (leaf_of b) (λ v. ap (λ (xs : List (Option ℤ)). get_or xs v None) l)
    (λ v. ap (λ (xs : List (Option ℤ)). get_or xs v None) h)
    (λ p. ap (λ (xs : List Side). get_or xs p Undecided) s)

pub first_of : {A : Type 0} (P : A → Type 0) (xs : List A) (x : A) (rest : List A) → All P xs
    → xs ≡ x ∷ rest → P x
first_of P xs x rest all e = All-head P x rest (subst (All P) e all)

pub rest_of : {A : Type 0} (P : A → Type 0) (xs : List A) (x : A) (rest : List A) → All P xs
    → xs ≡ x ∷ rest → All P rest
rest_of P xs x rest all e = All-tail P x rest (subst (All P) e all)

-- both children of a node are due before the others
pub opened_two : (player : PlayerOf) (a b : LeafOf) (x y : Leaf) (old new : List Leaf)
    → IsLeafOf player x → IsLeafOf player y → leaf_of x ≡ a → leaf_of y ≡ b
    → upcoming new ≡ x ∷ y ∷ upcoming old → Opened player (a ∷ b ∷ []) old new
opened_two player a b x y old new p q first second e = record {
  due = ap (map leaf_of) e ∙
      ap₂ (λ (u v : LeafOf). u ∷ v ∷ map leaf_of (upcoming old)) first second;
  lengths = λ all. subst (All (IsLeafOf player)) (sym e)
      (All-cons (IsLeafOf player) x (y ∷ upcoming old) p
      (All-cons (IsLeafOf player) y (upcoming old) q all));
}
