-- The values of cross terms and of terms in the others' variables are read as these.
use Rattle.std.proofs.Common.{◌≡◌, ◌≢◌, ℕ, suc, ◌+◌, ◌<◌, ℤ, List, [], ◌∷◌, ◌++◌, length, filter, map, refl, sym, ap, subst, ◌∙◌, Ok, Option, Some, None, true, Ordering, arith, decimal, append-nil}
use Rattle.std.specs.Prelude.{◌==◌, nat_lt, if◌then◌else◌}
use Rattle.std.specs.List.{All, AllPairs}
use Rattle.std.specs.declared.cmp.Ordering.TheVariants.{Less}
use Rattle.std.specs.Cmp.{IsTotalOrder}
use Rattle.std.specs.BTreeMap.{insert_entry}
use Rattle.std.proofs.lemmas.Bool.Decides.{nat_tests}
use Rattle.std.proofs.lemmas.Cmp.{then_total, on_total}
use Rattle.std.proofs.lemmas.List.{map-append}
use mathlib.Core.List.{append_assoc}
use Rattle.serde_json.specs.Data.{Data}
use Rattle.zr_game.specs.declared.player.CrossTerm.{CrossTerm}
use Rattle.zr_game.specs.declared.player.Other.{Other}
use Rattle.zr_game.specs.Players.{Name}
use Rattle.zr_game.specs.Forms.{IsCoefficient, cross_order, place_order, other_order}
use Rattle.zr_source.specs.Sources.{SourceOf}
use Rattle.zr_source.specs.Names.{AreNames, leader_name}
use Rattle.zr_value.specs.declared.fault.GameFault.TheVariants.{Twice, OwnCross}
use Rattle.zr_value.specs.Faults.{Read, ◌>>=◌, fault, under}
use Rattle.zr_value.specs.Values.{part, listed, each}
use Rattle.zr_value.specs.Names.{known_in, names_at}
use Rattle.zr_value.specs.Terms.{taken, is_term}
use Rattle.zr_value.proofs.Keys.{Before, Ordered}
use Rattle.zr_value.specs.declared.format.Aim.TheVariants.{Min}
use Rattle.zr_value.specs.Formats.{cost_number_in}
use Rattle.zr_read.specs.Costs.{Triple, triple_order, other_player_in, other_variable_in, add_cross, cross_of, cross_in, Place, Places, places_order, in_order, OthersOf, no_others, single_variable_in, add_single, second_player_in, second_variable_in, add_product, add_other, single_of, product_of, others_in}
use Rattle.zr_read.proofs.CostForms.{IsKey, IsOtherPlace, IsOtherTerm, AreCross, AreOthers, triple_order_total, place_order_total}
use Rattle.zr_write.specs.Canonical.{whole_data, list_data, name_data, names_of, player_data, variable_names, cross_data, other_data}
use Rattle.zr_write.proofs.VariablesBack.{then_back, part_back, eqb_false, number_back, known_back, listed_data_back}
use Rattle.zr_write.proofs.RowsBack.{IsAfter, AreAfter, insert_last, free_last, after_none, all_after_push, entries_back, none_dropped}

places_order_total : IsTotalOrder places_order
places_order_total =
    then_total (on_total (λ t. t.0) place_order_total) (on_total (λ t. t.1) place_order_total)

pub cost_number_back : (z : ℤ) → IsCoefficient z → cost_number_in Min (whole_data z) ≡ Ok z
cost_number_back z is = rw (number_back z is.0) refl

-- ---- lists in an order

module _ {K T : Type 0} (order : K → K → Ordering) (R : T → T → Type 0) (entry_of : T → K × ℤ)
    (less : (s t : T) → R s t → order (entry_of s).0 (entry_of t).0 ≡ Less) where
  before_rest : (t : T) (ts : List T) → All (R t) ts
      → Before order (entry_of t).0 (map entry_of ts)
  before_rest t [] all = tt
  before_rest t (s ∷ ts) all = (
    less t s (all 0 s (omega arith)),
    before_rest t ts (λ k d below. all (suc k) d (omega (arith, below))),
  )

  -- their entries have the order
  pub entries_ordered : (P : K → Type 0) (Q : ℤ → Type 0) (ts : List T) → AllPairs R ts
      → All (λ t. P (entry_of t).0 × Q (entry_of t).1) ts
      → Ordered order P Q (map entry_of ts)
  entries_ordered P Q [] pairs all = tt
  entries_ordered P Q (t ∷ ts) pairs all =
      let here = all 0 t (omega arith) in (
        here.0,
        here.1,
        before_rest t ts (λ k d below. pairs 0 (suc k) d (omega arith) (omega (arith, below))),
        entries_ordered P Q ts
            (λ i j d h below. pairs (suc i) (suc j) d (omega (arith, h)) (omega (arith, below)))
            (λ k d below. all (suc k) d (omega (arith, below))),
      )

pub made_again : {K T : Type 0} (entry_of : T → K × ℤ) (make : K × ℤ → T)
    → ((t : T) → make (entry_of t) ≡ t) → (ts : List T) → map make (map entry_of ts) ≡ ts
made_again entry_of make same [] = refl
made_again entry_of make same (t ∷ ts) =
    ap (λ r. make (entry_of t) ∷ r) (made_again entry_of make same ts) ∙ ap (λ x. x ∷ ts) (same t)

-- ---- cross terms

abbrev entry_of : CrossTerm → Triple × ℤ
entry_of t = ((t.own, t.player, t.var), t.coef)

module _ (source : SourceOf) (i : ℕ) (named : AreNames (map leader_name source))
    (all_named : (j : ℕ) → AreNames (names_of source j)) where
  abbrev players : List Name
  players = map leader_name source

  abbrev variables : List (List Name)
  variables = map variable_names source

  player_back : (j : ℕ) → j < length players → j ≢ i
      → other_player_in players i (player_data source j) ≡ Ok j
  player_back j below other =
      then_back (known_in players (player_data source j)) j
      (λ j. if j == i then fault OwnCross else Ok j) (Ok j) (known_back players j named below)
      (rw (eqb_false j i other) refl)

  var_back : (j v : ℕ) → v < length (names_of source j)
      → known_in (names_of source j) (name_data (names_of source j) v) ≡ Ok v
  var_back j v below = known_back (names_of source j) v (all_named j) below

  add_back : (before : List (Triple × ℤ)) (t : CrossTerm)
      → IsKey players variables i (t.own, t.player, t.var) → IsCoefficient t.coef
      → IsAfter triple_order (t.own, t.player, t.var) before
      → add_cross players variables i Min before (cross_data source i t)
      ≡ Ok (before ++ entry_of t ∷ [])
  add_back before t key coef after =
      let d = cross_data source i t in
      let own = names_of source i in
      let his = names_of source t.player in
      let goal : Read (List (Triple × ℤ)) = Ok (before ++ entry_of t ∷ []) in
      let var : other_variable_in his t.own t.player before (name_data his t.var) ≡ Ok t.var
      = then_back (known_in his (name_data his t.var)) t.var
      (λ v. if taken triple_order before (t.own, t.player, v) then fault Twice else Ok v)
      (Ok t.var) (var_back t.player t.var key.var)
      (rw (free_last triple_order before (t.own, t.player, t.var) after) refl) in
      then_back (part 0 (known_in own) d) t.own
      (λ o. part 1 (other_player_in players i) d >>= λ j.
      part 2 (other_variable_in (names_at variables j) o j before) d >>= λ v.
      part 3 (cost_number_in Min) d >>= λ z. Ok (insert_entry triple_order before (o, j, v) z)) goal
      (part_back 0 (known_in own) d (name_data own t.own) t.own refl (var_back i t.own key.own))
      (then_back (part 1 (other_player_in players i) d) t.player
      (λ j. part 2 (other_variable_in (names_at variables j) t.own j before) d >>= λ v.
      part 3 (cost_number_in Min) d >>= λ z.
      Ok (insert_entry triple_order before (t.own, j, v) z)) goal
      (part_back 1 (other_player_in players i) d (player_data source t.player) t.player refl
      (player_back t.player key.player key.other))
      (then_back (part 2 (other_variable_in his t.own t.player before) d) t.var
      (λ v. part 3 (cost_number_in Min) d >>= λ z.
      Ok (insert_entry triple_order before (t.own, t.player, v) z)) goal
      (part_back 2 (other_variable_in his t.own t.player before) d (name_data his t.var) t.var refl
      var)
      (then_back (part 3 (cost_number_in Min) d) t.coef
      (λ z. Ok (insert_entry triple_order before (t.own, t.player, t.var) z)) goal
      (part_back 3 (cost_number_in Min) d (whole_data t.coef) t.coef refl
      (cost_number_back t.coef coef))
      (ap Ok (insert_last triple_order before (t.own, t.player, t.var) t.coef after)))))

  pub cross_back : (ts : List CrossTerm) → AreCross players variables i Min ts
      → cross_in 65536 players variables i Min (list_data (cross_data source i) ts) ≡ Ok ts
  cross_back ts are =
      let P = IsKey players variables i in
      let o = entries_ordered triple_order (λ s t. cross_order s t ≡ Less) entry_of
      (λ s t less. less) P IsCoefficient ts are.ascend are.terms in
      then_back (listed 0 65536 (list_data (cross_data source i) ts)) (map (cross_data source i) ts)
      (λ ds. each (add_cross players variables i Min) 0 [] ds >>= λ all.
      Ok (map cross_of (filter is_term all))) (Ok ts)
      (listed_data_back 0 65536 (cross_data source i) ts (omega arith) are.few)
      (then_back (each (add_cross players variables i Min) 0 [] (map (cross_data source i) ts))
      (map entry_of ts) (λ all. Ok (map cross_of (filter is_term all))) (Ok ts)
      (entries_back triple_order triple_order_total P IsCoefficient entry_of
      (add_cross players variables i Min) (cross_data source i) add_back 0 [] ts o
      (after_none triple_order (map entry_of ts)))
      (ap (λ es. Ok (map cross_of es)) (none_dropped triple_order P (map entry_of ts) o)
      ∙ ap Ok (made_again entry_of cross_of (λ t. refl) ts)))

  -- ---- terms in the others' variables

  abbrev IsOther : Place → Type 0
  IsOther = IsOtherPlace players variables i

  abbrev IsCouple : Places → Type 0
  IsCouple k = (k.0.0 < k.1.0) × IsOther k.0 × IsOther k.1

  single_back : (before : List (Place × ℤ)) (e : Place × ℤ) → IsOther e.0 → IsCoefficient e.1
      → IsAfter place_order e.0 before
      → add_single players variables i Min before (other_data source (single_of e))
      ≡ Ok (before ++ e ∷ [])
  single_back before e key coef after =
      let d = other_data source (single_of e) in
      let his = names_of source e.0.0 in
      let goal : Read (List (Place × ℤ)) = Ok (before ++ e ∷ []) in
      let var : single_variable_in his e.0.0 before (name_data his e.0.1) ≡ Ok e.0.1
      = then_back (known_in his (name_data his e.0.1)) e.0.1
      (λ v. if taken place_order before (e.0.0, v) then fault Twice else Ok v) (Ok e.0.1)
      (var_back e.0.0 e.0.1 key.var) (rw (free_last place_order before e.0 after) refl) in
      then_back (part 0 (other_player_in players i) d) e.0.0
      (λ j. part 1 (single_variable_in (names_at variables j) j before) d >>= λ v.
      part 2 (cost_number_in Min) d >>= λ z. Ok (insert_entry place_order before (j, v) z)) goal
      (part_back 0 (other_player_in players i) d (player_data source e.0.0) e.0.0 refl
      (player_back e.0.0 key.player key.other))
      (then_back (part 1 (single_variable_in his e.0.0 before) d) e.0.1
      (λ v. part 2 (cost_number_in Min) d >>= λ z.
      Ok (insert_entry place_order before (e.0.0, v) z)) goal
      (part_back 1 (single_variable_in his e.0.0 before) d (name_data his e.0.1) e.0.1 refl var)
      (then_back (part 2 (cost_number_in Min) d) e.1
      (λ z. Ok (insert_entry place_order before e.0 z)) goal
      (part_back 2 (cost_number_in Min) d (whole_data e.1) e.1 refl (cost_number_back e.1 coef))
      (ap Ok (insert_last place_order before e.0 e.1 after))))

  lt_is : (m n : ℕ) → m < n → nat_lt m n ≡ true
  lt_is m n h = grind (arith, nat_tests)

  apart : (m n : ℕ) → m < n → n ≢ m
  apart m n h e = absurd (omega (arith, h, e))

  in_order_is : (a b : Place) → a.0 < b.0 → in_order a b ≡ (a, b)
  in_order_is a b h = rw (lt_is a.0 b.0 h) refl

  product_back : (before : List (Places × ℤ)) (e : Places × ℤ) → IsCouple e.0 → IsCoefficient e.1
      → IsAfter places_order e.0 before
      → add_product players variables i Min before (other_data source (product_of e))
      ≡ Ok (before ++ e ∷ [])
  product_back before e key coef after =
      let d = other_data source (product_of e) in
      let a = e.0.0 in
      let b = e.0.1 in
      let first = names_of source a.0 in
      let second = names_of source b.0 in
      let goal : Read (List (Places × ℤ)) = Ok (before ++ e ∷ []) in
      let order = in_order_is a b key.0 in
      let player : second_player_in players i a.0 (player_data source b.0) ≡ Ok b.0
      = then_back (other_player_in players i (player_data source b.0)) b.0
      (λ j. if j == a.0 then fault OwnCross else Ok j) (Ok b.0)
      (player_back b.0 key.2.player key.2.other)
      (rw (eqb_false b.0 a.0 (apart a.0 b.0 key.0)) refl) in
      let var : second_variable_in second a b.0 before (name_data second b.1) ≡ Ok b.1
      = then_back (known_in second (name_data second b.1)) b.1
      (λ v. if taken places_order before (in_order a (b.0, v)) then fault Twice else Ok v) (Ok b.1)
      (var_back b.0 b.1 key.2.var)
      (rw order (rw (free_last places_order before e.0 after) refl)) in
      then_back (part 0 (other_player_in players i) d) a.0
      (λ j. part 1 (known_in (names_at variables j)) d >>= λ v.
      part 2 (second_player_in players i j) d >>= λ k.
      part 3 (second_variable_in (names_at variables k) (j, v) k before) d >>= λ w.
      part 4 (cost_number_in Min) d >>= λ z.
      Ok (insert_entry places_order before (in_order (j, v) (k, w)) z)) goal
      (part_back 0 (other_player_in players i) d (player_data source a.0) a.0 refl
      (player_back a.0 key.1.player key.1.other))
      (then_back (part 1 (known_in first) d) a.1
      (λ v. part 2 (second_player_in players i a.0) d >>= λ k.
      part 3 (second_variable_in (names_at variables k) (a.0, v) k before) d >>= λ w.
      part 4 (cost_number_in Min) d >>= λ z.
      Ok (insert_entry places_order before (in_order (a.0, v) (k, w)) z)) goal
      (part_back 1 (known_in first) d (name_data first a.1) a.1 refl (var_back a.0 a.1 key.1.var))
      (then_back (part 2 (second_player_in players i a.0) d) b.0
      (λ k. part 3 (second_variable_in (names_at variables k) a k before) d >>= λ w.
      part 4 (cost_number_in Min) d >>= λ z.
      Ok (insert_entry places_order before (in_order a (k, w)) z)) goal
      (part_back 2 (second_player_in players i a.0) d (player_data source b.0) b.0 refl player)
      (then_back (part 3 (second_variable_in second a b.0 before) d) b.1
      (λ w. part 4 (cost_number_in Min) d >>= λ z.
      Ok (insert_entry places_order before (in_order a (b.0, w)) z)) goal
      (part_back 3 (second_variable_in second a b.0 before) d (name_data second b.1) b.1 refl var)
      (then_back (part 4 (cost_number_in Min) d) e.1
      (λ z. Ok (insert_entry places_order before (in_order a b) z)) goal
      (part_back 4 (cost_number_in Min) d (whole_data e.1) e.1 refl (cost_number_back e.1 coef))
      (ap (λ k. Ok (insert_entry places_order before k e.1)) order
      ∙ ap Ok (insert_last places_order before e.0 e.1 after))))))

  abbrev both : List (Place × ℤ) → List (Places × ℤ) → OthersOf
  both ss ps = record { singles = ss; products = ps }

  abbrev add_one : OthersOf → Data → Read OthersOf
  add_one = add_other players variables i Min

  -- first the terms in one variable
  singles_back : (k : ℕ) (before ss : List (Place × ℤ)) (rest : List Data)
      → Ordered place_order IsOther IsCoefficient ss → AreAfter place_order before ss
      → (n : ℕ) × (each add_one k (both before [])
      (map (other_data source) (map single_of ss) ++ rest)
      ≡ each add_one n (both (before ++ ss) []) rest)
  singles_back k before [] rest o a =
      (k, ap (λ ss. each add_one k (both ss []) rest) (sym (append-nil before)))
  singles_back k before (e ∷ ss) rest o a =
      let more = before ++ e ∷ [] in
      let d = other_data source (single_of e) in
      let tail = map (other_data source) (map single_of ss) ++ rest in
      let one : under (decimal k) (add_one (both before []) d) ≡ Ok (both more [])
      = rw (single_back before e o.0 o.1 a.0) refl in
      let next = singles_back (k + 1) more ss rest o.3
      (all_after_push place_order place_order_total before e ss a.1 o.2) in (
        next.0,
        then_back (under (decimal k) (add_one (both before []) d)) (both more [])
            (λ m. each add_one (k + 1) m tail)
            (each add_one next.0 (both (before ++ e ∷ ss) []) rest) one
            (next.1 ∙ ap (λ ss. each add_one next.0 (both ss []) rest)
            (append_assoc before (e ∷ []) ss)),
      )

  -- then those in two
  products_back : (k : ℕ) (ss : List (Place × ℤ)) (before ps : List (Places × ℤ))
      → Ordered places_order IsCouple IsCoefficient ps → AreAfter places_order before ps
      → each add_one k (both ss before) (map (other_data source) (map product_of ps))
      ≡ Ok (both ss (before ++ ps))
  products_back k ss before [] o a = ap (λ ps. Ok (both ss ps)) (sym (append-nil before))
  products_back k ss before (e ∷ ps) o a =
      let more = before ++ e ∷ [] in
      let d = other_data source (product_of e) in
      let one : under (decimal k) (add_one (both ss before) d) ≡ Ok (both ss more)
      = rw (product_back before e o.0 o.1 a.0) refl in
      then_back (under (decimal k) (add_one (both ss before) d)) (both ss more)
      (λ m. each add_one (k + 1) m (map (other_data source) (map product_of ps)))
      (Ok (both ss (before ++ e ∷ ps))) one
      (products_back (k + 1) ss more ps o.3
      (all_after_push places_order places_order_total before e ps a.1 o.2)
      ∙ ap (λ ps. Ok (both ss ps)) (append_assoc before (e ∷ []) ps))

  -- the terms in one variable, and those in two
  pub record IsSplit (ts : List Other) : Type 0 where
    pub singles : List (Place × ℤ)
    pub products : List (Places × ℤ)
    pub same : map single_of singles ++ map product_of products ≡ ts
    pub singles_ascend : Ordered place_order IsOther IsCoefficient singles
    pub products_ascend : Ordered places_order IsCouple IsCoefficient products

  before_singles : (e : Place × ℤ) (ss : List (Place × ℤ)) (rest : List Other)
      → All (λ t. other_order (single_of e) t ≡ Less) (map single_of ss ++ rest)
      → Before place_order e.0 ss
  before_singles e [] rest all = tt
  before_singles e (s ∷ ss) rest all = (
    all 0 (single_of s) (omega arith),
    before_singles e ss rest (λ k d below. all (suc k) d (omega (arith, below))),
  )

  before_products : (e : Places × ℤ) (ps : List (Places × ℤ))
      → All (λ t. other_order (product_of e) t ≡ Less) (map product_of ps)
      → Before places_order e.0 ps
  before_products e [] all = tt
  before_products e (p ∷ ps) all = (
    all 0 (product_of p) (omega arith),
    before_products e ps (λ k d below. all (suc k) d (omega (arith, below))),
  )

  not_before_single : (e : Places × ℤ) (s : Place × ℤ)
      → other_order (product_of e) (single_of s) ≡ Less → ⊥
  not_before_single e s h = absurd (cc)

  split_next : (a : Place) (second : Option Place) (z : ℤ) (ts : List Other)
      → IsOtherTerm players variables i Min (record { first = a; second = second; coef = z })
      → All (λ t. other_order (record { first = a; second = second; coef = z }) t ≡ Less) ts
      → IsSplit ts → IsSplit (record { first = a; second = second; coef = z } ∷ ts)
  split_next a None z ts is all split = record {
    singles = (a, z) ∷ split.singles;
    products = split.products;
    same = ap (λ r. single_of (a, z) ∷ r) split.same;
    singles_ascend = (
      is.first,
      is.coef,
      before_singles (a, z) split.singles (map product_of split.products)
          (subst (All (λ t. other_order (single_of (a, z)) t ≡ Less)) (sym split.same) all),
      split.singles_ascend,
    );
    products_ascend = split.products_ascend;
  }
  split_next a (Some b) z ts is all split =
      by split.singles split.same
    where
      e : Places × ℤ
      e = ((a, b), z)

      couple : IsCouple (a, b)
      couple = let s = is.second b refl in (s.0, is.first, s.1)

      by : (ss : List (Place × ℤ)) → map single_of ss ++ map product_of split.products ≡ ts
          → IsSplit (product_of e ∷ ts)
      by [] same = record {
        singles = [];
        products = e ∷ split.products;
        same = ap (λ r. product_of e ∷ r) same;
        singles_ascend = tt;
        products_ascend = (
          couple,
          is.coef,
          before_products e split.products
              (subst (All (λ t. other_order (product_of e) t ≡ Less)) (sym same) all),
          split.products_ascend,
        );
      }
      by (s ∷ ss) same =
          let first = subst (All (λ t. other_order (product_of e) t ≡ Less)) (sym same) all in
          absurd (not_before_single e s (first 0 (single_of s) (omega arith)))

  split_of : (ts : List Other) → AllPairs (λ s t. other_order s t ≡ Less) ts
      → All (IsOtherTerm players variables i Min) ts → IsSplit ts
  split_of [] pairs all = record {
    singles = [];
    products = [];
    same = refl;
    singles_ascend = tt;
    products_ascend = tt;
  }
  split_of (t ∷ ts) pairs all =
      split_next t.first t.second t.coef ts (all 0 t (omega arith))
      (λ k d below. pairs 0 (suc k) d (omega arith) (omega (arith, below)))
      (split_of ts
      (λ i j d h below. pairs (suc i) (suc j) d (omega (arith, h)) (omega (arith, below)))
      (λ k d below. all (suc k) d (omega (arith, below))))

  each_other : (ts : List Other) (split : IsSplit ts)
      → each add_one 0 no_others (map (other_data source) ts)
      ≡ Ok (both split.singles split.products)
  each_other ts split =
      let ss = map single_of split.singles in
      let ps = map product_of split.products in
      let rest = map (other_data source) ps in
      let first = singles_back 0 [] split.singles rest split.singles_ascend
      (after_none place_order split.singles) in
      ap (λ ts. each add_one 0 no_others (map (other_data source) ts)) (sym split.same)
      ∙ ap (λ ds. each add_one 0 no_others ds) (map-append (other_data source) ss ps)
      ∙ first.1
      ∙ products_back first.0 split.singles [] split.products split.products_ascend
      (after_none places_order split.products)

  pub others_back : (ts : List Other) → AreOthers players variables i Min ts
      → others_in players variables i Min (list_data (other_data source) ts) ≡ Ok ts
  others_back ts are =
      let split = split_of ts are.ascend are.terms in
      let all = both split.singles split.products in
      then_back (listed 0 65536 (list_data (other_data source) ts)) (map (other_data source) ts)
      (λ ds. each add_one 0 no_others ds >>= λ all.
      Ok (map single_of (filter is_term all.singles)
      ++ map product_of (filter is_term all.products)))
      (Ok ts) (listed_data_back 0 65536 (other_data source) ts (omega arith) are.few)
      (then_back (each add_one 0 no_others (map (other_data source) ts)) all
      (λ all. Ok (map single_of (filter is_term all.singles)
      ++ map product_of (filter is_term all.products))) (Ok ts) (each_other ts split)
      (ap (λ ss. Ok (map single_of ss ++ map product_of (filter is_term split.products)))
      (none_dropped place_order IsOther split.singles split.singles_ascend)
      ∙ ap (λ ps. Ok (map single_of split.singles ++ map product_of ps))
      (none_dropped places_order IsCouple split.products split.products_ascend)
      ∙ ap Ok split.same))
