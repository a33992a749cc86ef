-- The cross terms and the terms in the others' variables that are read stand in their order, and
-- each names what exists.
use Rattle.std.proofs.Common.{◌≡◌, ◌≢◌, ℕ, ◌+◌, ◌<◌, ◌≤◌, ℤ, List, [], ◌∷◌, ◌++◌, length, filter, map, refl, sym, subst, Ok, Bool, true, false, cond, arith, length-append, decimal, Ordering}
use Rattle.std.specs.Prelude.{◌==◌, nat_lt}
use Rattle.std.specs.List.{All, AllPairs, sum_by}
use Rattle.std.specs.Option.{ForSome}
use Rattle.std.specs.declared.cmp.Ordering.TheVariants.{Less}
use Rattle.std.specs.Cmp.{IsTotalOrder}
use Rattle.std.proofs.lemmas.Bool.Decides.{nat_tests}
use Rattle.std.proofs.lemmas.Cmp.{then_total, on_total, nat_cmp_total}
use Rattle.std.proofs.lemmas.List.{length-map}
use Rattle.std.proofs.lemmas.List.Elements.{All-nil, All-cons, All-append}
use Rattle.std.proofs.lemmas.List.Kept.{AllPairs-cons}
use Rattle.std.proofs.lemmas.List.Sums.{sum_by-cons}
use Rattle.std.specs.BTreeMap.{insert_entry}
use Rattle.serde_json.specs.Data.{Data}
use Rattle.zr_game.specs.declared.player.CrossTerm.{CrossTerm}
use Rattle.zr_game.specs.declared.player.Other.{Other}
use Rattle.zr_game.specs.Players.{Name}
use Rattle.zr_game.specs.Forms.{IsNumber, IsCoefficient, cross_order, place_order, other_order}
use Rattle.zr_value.specs.declared.fault.GameFault.TheVariants.{Kind, Twice, OwnCross}
use Rattle.zr_value.specs.Faults.{Read, fault, under, ◌>>=◌}
use Rattle.zr_value.specs.Values.{number_in, items_in, tuple, part, each, listed}
use Rattle.zr_value.specs.Names.{known_in, names_at}
use Rattle.zr_value.specs.Terms.{taken, is_term}
use Rattle.zr_value.proofs.Behind.{bind_ok, guard_ok, eq_from_test, part_ok, under_ok, each_keeps, each_grows, listed_ok}
use Rattle.zr_value.proofs.Keys.{Before, Ordered, ordered_insert, ordered_filter, length-insert, length-kept, number_opposite}
use Rattle.zr_value.proofs.TermLaws.{whole_ok, known_below}
use Rattle.zr_value.specs.declared.format.Aim.{Aim}
use Rattle.zr_value.specs.declared.format.Aim.TheVariants.{Min, Max}
use Rattle.zr_value.specs.Formats.{by_aim, cost_number_in}
use Rattle.zr_read.specs.Costs.{Triple, triple_order, other_player_in, other_variable_in, add_cross, cross_of, cross_in, Place, Places, places_order, in_order, OthersOf, no_others, single_variable_in, add_single, second_player_in, second_variable_in, add_product, with_singles, with_products, add_other, single_of, product_of, others_in}

pub triple_order_total : IsTotalOrder triple_order
triple_order_total =
    then_total (then_total (on_total (λ t. t.0) nat_cmp_total) (on_total (λ t. t.1) nat_cmp_total))
    (on_total (λ t. t.2) nat_cmp_total)

pub place_order_total : IsTotalOrder place_order
place_order_total =
    then_total (on_total (λ t. t.0) nat_cmp_total) (on_total (λ t. t.1) nat_cmp_total)

places_order_total : IsTotalOrder places_order
places_order_total =
    then_total (on_total (λ t. t.0) place_order_total) (on_total (λ t. t.1) place_order_total)

-- a list over ordered entries has the order of its elements, and their properties
module _ {K T : Type 0} (order : K → K → Ordering) (R : T → T → Type 0) (make : K × ℤ → T)
    (less : (a b : K × ℤ) → order a.0 b.0 ≡ Less → R (make a) (make b)) where
  before_all : (k : K) (z : ℤ) (es : List (K × ℤ)) → Before order k es
      → All (R (make (k, z))) (map make es)
  before_all k z [] b = All-nil (R (make (k, z)))
  before_all k z (e ∷ es) b = All-cons (R (make (k, z))) (make e) (map make es)
      (less (k, z) e b.0) (before_all k z es b.1)

  pub made_ascend : (P : K → Type 0) (Q : ℤ → Type 0) (es : List (K × ℤ)) → Ordered order P Q es
      → AllPairs R (map make es)
  made_ascend P Q [] o = λ i j d less below. absurd (omega arith)
  made_ascend P Q (e ∷ es) o = AllPairs-cons R (make e) (map make es) (before_all e.0 e.1 es o.2)
      (made_ascend P Q es o.3)

pub made_all : {K T : Type 0} (order : K → K → Ordering) (make : K × ℤ → T) (S : T → Type 0)
    (P : K → Type 0) (Q : ℤ → Type 0) → ((e : K × ℤ) → P e.0 → Q e.1 → S (make e))
    → (es : List (K × ℤ)) → Ordered order P Q es → All S (map make es)
made_all order make S P Q is [] o = All-nil S
made_all order make S P Q is (e ∷ es) o =
    All-cons S (make e) (map make es) (is e o.0 o.1) (made_all order make S P Q is es o.3)

pub sum_ones : {A : Type 0} (ds : List A) → sum_by (λ _. 1) ds ≡ length ds
sum_ones [] = refl
sum_ones (d ∷ ds) =
    let rest = sum_ones ds in let whole = sum_by-cons (λ _. 1) d ds in omega (arith, rest, whole)

aim_ok : (aim : Aim) (z : ℤ) → IsNumber z → IsNumber (by_aim aim z)
aim_ok Min z n = n
aim_ok Max z n = number_opposite z n

pub cost_number_ok : (aim : Aim) (d : Data) (z : ℤ) → cost_number_in aim d ≡ Ok z → IsNumber z
cost_number_ok aim d z h =
    let b = bind_ok (number_in d) (λ z. Ok (by_aim aim z)) z h in
    let e : by_aim aim b.0 ≡ z = cc (b.2) in
    subst IsNumber e (aim_ok aim b.0 (whole_ok _ d b.0 b.1))

pub ok_same : {A : Type 0} (x y : A) → (let r : Read A = Ok x in r ≡ Ok y) → x ≡ y
ok_same x y h = cc

-- ---- cross terms

-- an own variable, another player and a variable of that player
pub record IsKey (players : List Name) (variables : List (List Name)) (i : ℕ) (k : Triple)
    : Type 0 where
  pub own : k.0 < length (names_at variables i)
  pub player : k.1 < length players
  pub other : k.1 ≢ i
  pub var : k.2 < length (names_at variables k.1)

-- a variable of another player
pub record IsOtherPlace (players : List Name) (variables : List (List Name)) (i : ℕ) (k : Place)
    : Type 0 where
  pub player : k.0 < length players
  pub other : k.0 ≢ i
  pub var : k.1 < length (names_at variables k.0)

module _ (players : List Name) (variables : List (List Name)) (i : ℕ) where
  other_player_ok : (d : Data) (j : ℕ) → other_player_in players i d ≡ Ok j
      → (j < length players) × (j ≢ i)
  other_player_ok d j h =
      let b = bind_ok (known_in players d) _ j h in
      let g = guard_ok OwnCross (b.0 == i) b.0 j b.2 in (
        subst (λ j. j < length players) g.1 (known_below players d b.0 b.1),
        subst (λ j. j ≢ i) g.1 (eq_from_test b.0 i g.0),
      )

  module _ (aim : Aim) where
    -- what a cross term is made of
    abbrev Added : List (Triple × ℤ) → List (Triple × ℤ) → Type 0
    Added before after = (k : Triple) × (z : ℤ)
        × (insert_entry triple_order before k z ≡ after) × IsKey players variables i k × IsNumber z

    added : (before : List (Triple × ℤ)) (d : Data) (after : List (Triple × ℤ))
        → add_cross players variables i aim before d ≡ Ok after → Added before after
    added before d after h =
        let four = bind_ok (tuple 4 d) _ after h in
        let own = bind_ok (part 0 (known_in (names_at variables i)) d) _ after four.2 in
        let j = bind_ok (part 1 (other_player_in players i) d) _ after own.2 in
        let v = bind_ok (part 2 (other_variable_in (names_at variables j.0) own.0 j.0 before) d) _
        after j.2 in
        let z = bind_ok (part 3 (cost_number_in aim) d) _ after v.2 in
        let own_at = part_ok 0 (known_in (names_at variables i)) d own.0 own.1 in
        let j_at = part_ok 1 (other_player_in players i) d j.0 j.1 in
        let v_at = part_ok 2 (other_variable_in (names_at variables j.0) own.0 j.0 before) d
        v.0 v.1 in
        let z_at = part_ok 3 (cost_number_in aim) d z.0 z.1 in
        let other = other_player_ok j_at.0 j.0 j_at.1 in
        let var = bind_ok (known_in (names_at variables j.0) v_at.0) _ v.0 v_at.1 in
        let free = guard_ok Twice (taken triple_order before (own.0, j.0, var.0)) var.0 v.0
        var.2 in (
          (own.0, j.0, v.0),
          z.0,
          ok_same (insert_entry triple_order before (own.0, j.0, v.0) z.0) after z.2,
          record {
            own = known_below (names_at variables i) own_at.0 own.0 own_at.1;
            player = other.0;
            other = other.1;
            var = subst (λ v. v < length (names_at variables j.0)) free.1
                (known_below (names_at variables j.0) v_at.0 var.0 var.1);
          },
          cost_number_ok aim z_at.0 z.0 z_at.1,
        )

    abbrev AreKept : List (Triple × ℤ) → Type 0
    AreKept es = Ordered triple_order (IsKey players variables i) IsNumber es

    keeps : (s : List (Triple × ℤ)) (d : Data) (t : List (Triple × ℤ)) → AreKept s
        → add_cross players variables i aim s d ≡ Ok t → AreKept t
    keeps s d t o h =
        let a = added s d t h in
        subst AreKept a.2 (ordered_insert triple_order triple_order_total
        (IsKey players variables i) IsNumber s a.0 a.1 a.3 a.4 o)

    grows : (s : List (Triple × ℤ)) (d : Data) (t : List (Triple × ℤ))
        → add_cross players variables i aim s d ≡ Ok t → length t ≤ length s + 1
    grows s d t h =
        let a = added s d t h in
        subst (λ t. length t ≤ length s + 1) a.2 (length-insert triple_order s a.0 a.1)

    -- cross terms of player i
    pub record AreCross (ts : List CrossTerm) : Type 0 where
      pub few : length ts ≤ 65536
      pub ascend : AllPairs (λ s t. cross_order s t ≡ Less) ts
      pub terms : All (λ t. IsKey players variables i (t.own, t.player, t.var)
          × IsCoefficient t.coef) ts

    pub no_cross : AreCross []
    no_cross = record {
      few = omega arith;
      ascend = λ i j d less below. absurd (omega arith);
      terms = All-nil (λ t. IsKey players variables i (t.own, t.player, t.var)
          × IsCoefficient t.coef);
    }

    pub cross_ok : (most : ℕ) (d : Data) (ts : List CrossTerm) → most ≤ 65536
        → cross_in most players variables i aim d ≡ Ok ts → AreCross ts
    cross_ok most d ts m h =
        let ds = bind_ok (listed 0 most d) _ ts h in
        let all = bind_ok (each (add_cross players variables i aim) 0 [] ds.0)
        (λ all. Ok (map cross_of (filter is_term all))) ts ds.2 in
        let e : map cross_of (filter is_term all.0) ≡ ts = cc (all.2) in
        let few = listed_ok 0 most d ds.0 ds.1 in
        let n = each_grows length (λ _. 1) (add_cross players variables i aim) grows 0 [] ds.0
        all.0 all.1 in
        let ones = sum_ones ds.0 in
        let kept = ordered_filter triple_order (IsKey players variables i) all.0
        (each_keeps AreKept (add_cross players variables i aim) keeps 0 [] ds.0 all.0 tt
        all.1) in
        let fewer = length-kept all.0 in
        let same : length (map cross_of (filter is_term all.0)) ≡ length (filter is_term all.0)
        = length-map (filter is_term all.0) cross_of in
        subst AreCross e (record {
          few = omega (arith, few.1, n, fewer, same, ones, m);
          ascend = made_ascend triple_order (λ s t. cross_order s t ≡ Less) cross_of
              (λ a b less. less) (IsKey players variables i) IsCoefficient
              (filter is_term all.0) kept;
          terms = made_all triple_order cross_of (λ t. IsKey players variables i
              (t.own, t.player, t.var) × IsCoefficient t.coef) (IsKey players variables i)
              IsCoefficient (λ e key coef. (key, coef)) (filter is_term all.0) kept;
        })

    -- ---- terms in the others' variables

    abbrev pub IsOther : Place → Type 0
    IsOther = IsOtherPlace players variables i

    -- the variables of two other players, the lower player first
    abbrev IsCouple : Places → Type 0
    IsCouple k = (k.0.0 < k.1.0) × IsOther k.0 × IsOther k.1

    abbrev SinglesKept : List (Place × ℤ) → Type 0
    SinglesKept es = Ordered place_order IsOther IsNumber es

    abbrev ProductsKept : List (Places × ℤ) → Type 0
    ProductsKept es = Ordered places_order IsCouple IsNumber es

    single_ok : (s : List (Place × ℤ)) (d : Data) (t : List (Place × ℤ)) → SinglesKept s
        → add_single players variables i aim s d ≡ Ok t
        → SinglesKept t × (length t ≤ length s + 1)
    single_ok s d t o h =
        let j = bind_ok (part 0 (other_player_in players i) d) _ t h in
        let v = bind_ok (part 1 (single_variable_in (names_at variables j.0) j.0 s) d) _ t j.2 in
        let z = bind_ok (part 2 (cost_number_in aim) d) _ t v.2 in
        let j_at = part_ok 0 (other_player_in players i) d j.0 j.1 in
        let v_at = part_ok 1 (single_variable_in (names_at variables j.0) j.0 s) d v.0 v.1 in
        let z_at = part_ok 2 (cost_number_in aim) d z.0 z.1 in
        let other = other_player_ok j_at.0 j.0 j_at.1 in
        let var = bind_ok (known_in (names_at variables j.0) v_at.0) _ v.0 v_at.1 in
        let free = guard_ok Twice (taken place_order s (j.0, var.0)) var.0 v.0 var.2 in
        let e = ok_same (insert_entry place_order s (j.0, v.0) z.0) t z.2 in
        let key : IsOther (j.0, v.0) = record {
          player = other.0;
          other = other.1;
          var = subst (λ v. v < length (names_at variables j.0)) free.1
              (known_below (names_at variables j.0) v_at.0 var.0 var.1);
        } in (
          subst SinglesKept e (ordered_insert place_order place_order_total IsOther IsNumber s
              (j.0, v.0) z.0 key (cost_number_ok aim z_at.0 z.0 z_at.1) o),
          subst (λ t. length t ≤ length s + 1) e (length-insert place_order s (j.0, v.0) z.0),
        )

    couple : (a b : Place) → a.0 ≢ b.0 → IsOther a → IsOther b → IsCouple (in_order a b)
    couple a b apart x y = by (nat_lt a.0 b.0) refl
      where
        by : (t : Bool) → nat_lt a.0 b.0 ≡ t → IsCouple (cond t (a, b) (b, a))
        by true e = (lt_from_true a.0 b.0 e, x, y)
          where
            lt_from_true : (m n : ℕ) → nat_lt m n ≡ true → m < n
            lt_from_true m n h = grind (arith, nat_tests)
        by false e = (gt_from_false a.0 b.0 e apart, y, x)
          where
            gt_from_false : (m n : ℕ) → nat_lt m n ≡ false → m ≢ n → n < m
            gt_from_false m n h apart = grind (arith, nat_tests)

    product_ok : (s : List (Places × ℤ)) (d : Data) (t : List (Places × ℤ)) → ProductsKept s
        → add_product players variables i aim s d ≡ Ok t
        → ProductsKept t × (length t ≤ length s + 1)
    product_ok s d t o h =
        let j = bind_ok (part 0 (other_player_in players i) d) _ t h in
        let v = bind_ok (part 1 (known_in (names_at variables j.0)) d) _ t j.2 in
        let k = bind_ok (part 2 (second_player_in players i j.0) d) _ t v.2 in
        let w = bind_ok (part 3 (second_variable_in (names_at variables k.0) (j.0, v.0) k.0 s) d)
        _ t k.2 in
        let z = bind_ok (part 4 (cost_number_in aim) d) _ t w.2 in
        let j_at = part_ok 0 (other_player_in players i) d j.0 j.1 in
        let v_at = part_ok 1 (known_in (names_at variables j.0)) d v.0 v.1 in
        let k_at = part_ok 2 (second_player_in players i j.0) d k.0 k.1 in
        let w_at = part_ok 3 (second_variable_in (names_at variables k.0) (j.0, v.0) k.0 s) d
        w.0 w.1 in
        let z_at = part_ok 4 (cost_number_in aim) d z.0 z.1 in
        let first = other_player_ok j_at.0 j.0 j_at.1 in
        let k_is = bind_ok (other_player_in players i k_at.0) _ k.0 k_at.1 in
        let k_not = guard_ok OwnCross (k_is.0 == j.0) k_is.0 k.0 k_is.2 in
        let second = other_player_ok k_at.0 k_is.0 k_is.1 in
        let var = bind_ok (known_in (names_at variables k.0) w_at.0) _ w.0 w_at.1 in
        let free = guard_ok Twice (taken places_order s (in_order (j.0, v.0) (k.0, var.0))) var.0
        w.0 var.2 in
        let e = ok_same (insert_entry places_order s (in_order (j.0, v.0) (k.0, w.0)) z.0) t z.2 in
        let a : IsOther (j.0, v.0) = record {
          player = first.0;
          other = first.1;
          var = known_below (names_at variables j.0) v_at.0 v.0 v_at.1;
        } in
        let b : IsOther (k.0, w.0) = record {
          player = subst (λ k. k < length players) k_not.1 second.0;
          other = subst (λ k. k ≢ i) k_not.1 second.1;
          var = subst (λ v. v < length (names_at variables k.0)) free.1
              (known_below (names_at variables k.0) w_at.0 var.0 var.1);
        } in
        let apart : j.0 ≢ k.0 = λ same. subst (λ k. k ≢ j.0) k_not.1
        (eq_from_test k_is.0 j.0 k_not.0) (sym same) in (
          subst ProductsKept e (ordered_insert places_order places_order_total IsCouple IsNumber s
              (in_order (j.0, v.0) (k.0, w.0)) z.0 (couple (j.0, v.0) (k.0, w.0) apart a b)
              (cost_number_ok aim z_at.0 z.0 z_at.1) o),
          subst (λ t. length t ≤ length s + 1) e
              (length-insert places_order s (in_order (j.0, v.0) (k.0, w.0)) z.0),
        )

    abbrev OthersKept : OthersOf → Type 0
    OthersKept o = SinglesKept o.singles × ProductsKept o.products

    abbrev size : OthersOf → ℕ
    size o = length o.singles + length o.products

    other_ok : (s : OthersOf) (d : Data) (t : OthersOf) → OthersKept s
        → add_other players variables i aim s d ≡ Ok t → OthersKept t × (size t ≤ size s + 1)
    other_ok s d t o h =
        let ds = bind_ok (items_in d) _ t h in by (length ds.0 == 3) (length ds.0 == 5) ds.2
      where
        by : (three five : Bool)
            → (let r : Read OthersOf = cond three
            (add_single players variables i aim s.singles d >>= with_singles s)
            (cond five (add_product players variables i aim s.products d >>= with_products s)
            (fault Kind)) in r ≡ Ok t) → OthersKept t × (size t ≤ size s + 1)
        by true five h =
            let b = bind_ok (add_single players variables i aim s.singles d) (with_singles s) t h in
            let ok = single_ok s.singles d b.0 o.0 b.1 in
            let e : record { singles = b.0; products = s.products } ≡ t = cc (b.2) in
            subst (λ t. OthersKept t × (size t ≤ size s + 1)) e
            ((ok.0, o.1), omega (arith, ok.1))
        by false true h =
            let b = bind_ok (add_product players variables i aim s.products d) (with_products s) t
            h in
            let ok = product_ok s.products d b.0 o.1 b.1 in
            let e : record { singles = s.singles; products = b.0 } ≡ t = cc (b.2) in
            subst (λ t. OthersKept t × (size t ≤ size s + 1)) e
            ((o.0, ok.0), omega (arith, ok.1))
        by false false h = absurd (cc)

    -- what is kept, and how much of it there is
    abbrev Counted : ℕ → OthersOf → Type 0
    Counted n o = OthersKept o × (size o ≤ n)

    others_count : (n k : ℕ) (s : OthersOf) (ds : List Data) (t : OthersOf) → Counted n s
        → each (add_other players variables i aim) k s ds ≡ Ok t → Counted (n + length ds) t
    others_count n k s [] t c h =
        let e : s ≡ t = cc in
        subst (λ t. Counted (n + length {A = Data} []) t) e (c.0, omega (arith, c.1))
    others_count n k s (d ∷ ds) t c h =
        let b = bind_ok (under (decimal k) (add_other players variables i aim s d))
        (λ more. each (add_other players variables i aim) (k + 1) more ds) t h in
        let ok = other_ok s d b.0 c.0 (under_ok (decimal k)
        (add_other players variables i aim s d) b.0 b.1) in
        let rest = others_count (n + 1) (k + 1) b.0 ds t (ok.0, omega (arith, ok.1, c.1)) b.2 in
        (rest.0, omega (arith, rest.1))

    pub record IsOtherTerm (t : Other) : Type 0 where
      pub first : IsOther t.first
      pub second : ForSome t.second (λ at. (t.first.0 < at.0) × IsOther at)
      pub coef : IsCoefficient t.coef

    pub record AreOthers (ts : List Other) : Type 0 where
      pub few : length ts ≤ 65536
      pub ascend : AllPairs (λ s t. other_order s t ≡ Less) ts
      pub terms : All IsOtherTerm ts

    pub no_other_terms : AreOthers []
    no_other_terms = record {
      few = omega arith;
      ascend = λ i j d less below. absurd (omega arith);
      terms = All-nil IsOtherTerm;
    }

    -- singles come before products
    before_products : (e : Place × ℤ) (ps : List (Places × ℤ))
        → All (λ t. other_order (single_of e) t ≡ Less) (map product_of ps)
    before_products e [] = All-nil (λ t. other_order (single_of e) t ≡ Less)
    before_products e (p ∷ ps) = All-cons (λ t. other_order (single_of e) t ≡ Less)
        (product_of p) (map product_of ps) refl (before_products e ps)

    joined_ascend : (ss : List (Place × ℤ)) (ps : List (Places × ℤ))
        → Ordered place_order IsOther IsCoefficient ss
        → Ordered places_order IsCouple IsCoefficient ps
        → AllPairs (λ s t. other_order s t ≡ Less) (map single_of ss ++ map product_of ps)
    joined_ascend [] ps o p =
        made_ascend places_order (λ s t. other_order s t ≡ Less) product_of (λ a b less. less)
        IsCouple IsCoefficient ps p
    joined_ascend (e ∷ ss) ps o p =
        AllPairs-cons (λ s t. other_order s t ≡ Less) (single_of e)
        (map single_of ss ++ map product_of ps)
        (All-append (λ t. other_order (single_of e) t ≡ Less) (map single_of ss)
        (map product_of ps)
        (before_all place_order (λ s t. other_order s t ≡ Less) single_of (λ a b less. less)
        e.0 e.1 ss o.2) (before_products e ps))
        (joined_ascend ss ps o.3 p)

    pub others_ok : (d : Data) (ts : List Other) → others_in players variables i aim d ≡ Ok ts
        → AreOthers ts
    others_ok d ts h =
        let ds = bind_ok (listed 0 65536 d) _ ts h in
        let all = bind_ok (each (add_other players variables i aim) 0 no_others ds.0) _ ts ds.2 in
        let ss = filter is_term all.0.singles in
        let ps = filter is_term all.0.products in
        let e : map single_of ss ++ map product_of ps ≡ ts = cc (all.2) in
        let few = listed_ok 0 65536 d ds.0 ds.1 in
        let kept = others_count 0 0 no_others ds.0 all.0 ((tt, tt), omega arith) all.1 in
        let singles = ordered_filter place_order IsOther all.0.singles kept.0.0 in
        let products = ordered_filter places_order IsCouple all.0.products kept.0.1 in
        let n = length-append (map single_of ss) (map product_of ps) in
        let a = length-map ss single_of in
        let b = length-map ps product_of in
        let x = length-kept all.0.singles in
        let y = length-kept all.0.products in
        subst AreOthers e (record {
          few = omega (arith, few.1, kept.1, n, a, b, x, y);
          ascend = joined_ascend ss ps singles products;
          terms = All-append IsOtherTerm (map single_of ss) (map product_of ps)
              (made_all place_order single_of IsOtherTerm IsOther IsCoefficient
              (λ e key coef. record { first = key; second = λ at is. absurd (cc); coef = coef })
              ss singles)
              (made_all places_order product_of IsOtherTerm IsCouple IsCoefficient
              (λ e key coef. record {
                first = key.1;
                second = λ at is. let same : e.0.1 ≡ at = cc in
                    subst (λ at. (e.0.0.0 < at.0) × IsOther at) same (key.0, key.2);
                coef = coef;
              }) ps products);
        })
