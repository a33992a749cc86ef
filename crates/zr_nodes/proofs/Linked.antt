-- Links that spell out a list of leaves do so again after each change.
use Rattle.std.proofs.Common.{◌≡◌, ℕ, zero, suc, ◌+◌, ◌-◌, ◌<◌, ◌≤◌, arith, refl, sym, ap, subst, ◌∙◌, List, [], ◌∷◌, ◌++◌, append-nil, take, drop, set, length, length-append, Option, Some, None, ◌⊎◌, inl, inr, if◌then◌else◌}
use Rattle.std.specs.Prelude.{◌==◌}
use Rattle.std.proofs.lemmas.Bool.{eq-eqb, ne_eqb, cases_eq, cases_lt}
use Rattle.std.proofs.lemmas.List.{get_or_append_left, get_or-append-add, get_or-set_same, get_or-set_other, length-set, drop_all}
use Rattle.std.proofs.Math.Seq.{take-length}
use Rattle.zr_nodes.specs.Lists.{numbers, first_or, first, after, replaced, Has, NoRepeats, last_or, HasSome}
use Rattle.zr_nodes.specs.Places.{Left, IsListing, place_at, place_in, next_of, order_of, IsLinked, with_next, with_previous, started, row, previous_of, bridged, IsListed, IsWithin}
use Rattle.zr_nodes.specs.declared.leaves.Place.{Place}
use Rattle.zr_nodes.specs.declared.leaves.Place.TheVariants.{Out, In}
use Rattle.zr_nodes.proofs.ListLemmas.{once_replaced, length-replaced, numbers_within, numbers_once, length-numbers}
use Rattle.zr_nodes.proofs.Chains.{has_place, place_of, next_has, previous_has, new_places, first-replaced, with_next-ap, with_previous-ap, with_next-other, with_previous-other, another_previous, place_removed, places_replaced, order_is}

-- a place in the list is one of a node that is there
pub place_within : (places : List Place) (k : ℕ) (p n : Option ℕ) → place_at places k ≡ In p n
    → k < length places
place_within [] k p n h = cc
place_within (x ∷ xs) zero p n h = omega arith
place_within (x ∷ xs) (suc k) p n h = omega (arith, place_within xs k p n h)

pub member_within : (places : List Place) (start : Option ℕ) (order : List ℕ) (k : ℕ)
    → IsLinked places start order → Has order k → k < length places
member_within places start order k linked h =
    let r = place_of order None None k h in place_within places k r.0 r.1 (linked.placed k ∙ r.2)

-- the nodes in the list are those with a place in it
pub listed_has : (places : List Place) (start : Option ℕ) (order : List ℕ) (k : ℕ) (p n : Option ℕ)
    → IsLinked places start order → place_at places k ≡ In p n → Has order k
listed_has places start order k p n linked h =
    has_place order None None k p n (sym (linked.placed k) ∙ h)

pub out_lacks : (places : List Place) (start : Option ℕ) (order : List ℕ) (k : ℕ)
    → IsLinked places start order → place_at places k ≡ Out → Has order k → ⊥
out_lacks places start order k linked out h =
    let r = place_of order None None k h in
    let e : Out ≡ In r.0 r.1 = sym out ∙ linked.placed k ∙ r.2 in cc

pub has_listed : (places : List Place) (start : Option ℕ) (order : List ℕ) (k : ℕ)
    → IsLinked places start order → Has order k
    → (p : Option ℕ) × (n : Option ℕ) × (place_at places k ≡ In p n)
has_listed places start order k linked h =
    let r = place_of order None None k h in (r.0, r.1, linked.placed k ∙ r.2)

-- a new row has the places of the numbers in it
row_at : (count from j : ℕ) (previous next : Option ℕ)
    → place_at (row previous from count next) j
    ≡ place_in previous (numbers from count) next (from + j)
row_at zero from j previous next = refl
row_at (suc count) from zero previous next = rw (eq-eqb (from + 0) from (omega arith)) refl
row_at (suc count) from (suc j) previous next =
    let e : from + suc j ≡ (from + 1) + j = omega arith in
    rw (ne_eqb (from + suc j) from (omega arith), e) (row_at count (from + 1) j (Some from) next)

row_above : (places : List Place) (previous next : Option ℕ) (count k : ℕ) → length places ≤ k
    → place_at (places ++ row previous (length places) count next) k
    ≡ place_in previous (numbers (length places) count) next k
row_above places previous next count k h =
    let e : k ≡ length places + (k - length places) = omega arith in
    subst
    (λ (v : ℕ). place_at (places ++ row previous (length places) count next) v
    ≡ place_in previous (numbers (length places) count) next v)
    (sym e)
    (get_or-append-add places (row previous (length places) count next) (k - length places) Out
    ∙ row_at count (length places) (k - length places) previous next)

-- the places where a node that stood between these two is outside, and they lead to the new ones
abbrev pub bridged_between : ℕ → Option ℕ → Option ℕ → Option ℕ → Option ℕ → (ℕ → Place) → ℕ → Place
bridged_between node previous next start end places k =
    if k == node then Out else with_previous next end (with_next previous start places) k

pub bridged_is : (node : ℕ) (previous next start end : Option ℕ) (places : ℕ → Place) (k : ℕ)
    → places node ≡ In previous next
    → bridged node start end places k ≡ bridged_between node previous next start end places k
bridged_is node previous next start end places k e =
    ap (λ v. if k == node then Out else with_previous (next_of v) end
    (with_next (previous_of v) start places) k) e

-- the list after a number x of it was replaced by new nodes in a row
module _ (places new : List Place) (start : Option ℕ) (xs : List ℕ) (x count : ℕ) (p n : Option ℕ)
    (linked : IsLinked places start xs) (place : place_at places x ≡ In p n) where
  kids : List ℕ
  kids = numbers (length places) count

  in_list : place_in None xs None x ≡ In p n
  in_list = sym (linked.placed x) ∙ place

  x_within : x < length places
  x_within = place_within places x p n place

  apart : (k : ℕ) → Has (numbers (length places) count) k → Has xs k → ⊥
  apart k b a =
      let above = numbers_within (length places) count k b in
      let below : k < length places = member_within places start xs k linked a in
      omega (arith, above.0)

  -- a neighbour of x is an old node
  pub next_within : IsWithin n (length places)
  next_within = go n refl
    where
      go : (m : Option ℕ) → n ≡ m → IsWithin m (length places)
      go None e = tt
      go (Some y) e = member_within places start xs y linked (next_has xs None x y p (in_list
          ∙ ap (λ v. In p v) e))

  pub previous_within : IsWithin p (length places)
  previous_within = go p (previous_has xs None x p n in_list)
    where
      go : (q : Option ℕ) → (q ≡ None) ⊎ HasSome xs q → IsWithin q (length places)
      go None e = tt
      go (Some y) (inl e) = cc
      go (Some y) (inr h) = member_within places start xs y linked h

  not_above : (q : Option ℕ) (k : ℕ) → IsWithin q (length places) → length places ≤ k → q ≡ Some k
      → ⊥
  not_above None k w above e = cc
  not_above (Some y) k w above e = let same : y ≡ k = cc in omega arith

  -- the list begins as before, or with the first new one
  begins : started p (first_or (numbers (length places) count) n) start
      ≡ first (replaced x (numbers (length places) count) xs)
  begins = go (first-replaced xs (numbers (length places) count) None x p n in_list)
    where
      later : (q : Option ℕ) → HasSome xs q
          → started q (first_or (numbers (length places) count) n) start ≡ start
      later None h = absurd h
      later (Some y) h = refl

      go : (first xs ≡ Some x) × (first (replaced x (numbers (length places) count) xs)
          ≡ first_or (numbers (length places) count) n) × (p ≡ None)
          ⊎ ((first (replaced x (numbers (length places) count) xs) ≡ first xs) × HasSome xs p
          × (first xs ≡ Some x → ⊥))
          → started p (first_or (numbers (length places) count) n) start
          ≡ first (replaced x (numbers (length places) count) xs)
      go (inl a) = ap (λ q. started q (first_or (numbers (length places) count) n) start) a.2
          ∙ sym a.1
      go (inr b) = later p b.1 ∙ linked.starts ∙ sym b.0

  old_place : (k : ℕ) → k < length places
      → place_at (places ++ row p (length places) count n) k ≡ place_in None xs None k
  old_place k below =
      get_or_append_left places (row p (length places) count n) Out k below ∙ linked.placed k

  -- each node's place, once x is bridged
  placed : (k : ℕ)
      → bridged_between x p n (first_or (numbers (length places) count) n)
      (last_or p (numbers (length places) count))
      (place_at (places ++ row p (length places) count n)) k
      ≡ place_in None (replaced x (numbers (length places) count) xs) None k
  placed k = go (cases_eq k x) (cases_lt k (length places))
    where
      go : (k ≡ x) ⊎ (k ≡ x → ⊥) → (k < length places) ⊎ (length places ≤ k)
          → bridged_between x p n (first_or (numbers (length places) count) n)
          (last_or p (numbers (length places) count))
          (place_at (places ++ row p (length places) count n)) k
          ≡ place_in None (replaced x (numbers (length places) count) xs) None k
      go (inl e) _ =
          let gone : place_in None (replaced x (numbers (length places) count) xs) None x
          ≡ Out = place_removed xs (numbers (length places) count) None x linked.once
          (λ b. let above =
          numbers_within (length places) count x b in let below : x < length places =
          x_within in omega (arith, above.0)) in
          rw (eq-eqb k x e, e) (sym gone)
      go (inr ne) (inl below) =
          rw (ne_eqb k x ne)
          (with_previous-ap n (last_or p (numbers (length places) count))
          (with_next p (first_or (numbers (length places) count) n)
          (place_at (places ++ row p (length places) count n)))
          (with_next p (first_or (numbers (length places) count) n) (place_in None xs None)) k
          (with_next-ap p (first_or (numbers (length places) count) n)
          (place_at (places ++ row p (length places) count n)) (place_in None xs None) k
          (old_place k below))
          ∙ sym
          (places_replaced xs (numbers (length places) count) None x k p n linked.once (λ h. h)
          in_list
          (λ b. let above = numbers_within (length places) count k b in omega (arith, above.0))
          ne))
      go (inr ne) (inr above) =
          rw (ne_eqb k x ne)
          (with_previous-other n (last_or p (numbers (length places) count))
          (with_next p (first_or (numbers (length places) count) n)
          (place_at (places ++ row p (length places) count n))) k
          (not_above n k next_within above)
          ∙ with_next-other p (first_or (numbers (length places) count) n)
          (place_at (places ++ row p (length places) count n)) k
          (not_above p k previous_within above)
          ∙ row_above places p n count k above
          ∙ sym
          (new_places xs (numbers (length places) count) None x k p n in_list
          (λ a. let below : k < length places =
          member_within places start xs k linked a in omega arith)))

  pub linked_replaced : length new ≡ length places + count
      → ((k : ℕ)
      → place_at new k
      ≡ bridged_between x p n (first_or (numbers (length places) count) n)
      (last_or p (numbers (length places) count))
      (place_at (places ++ row p (length places) count n)) k)
      → IsLinked new (started p (first_or (numbers (length places) count) n) start)
      (replaced x (numbers (length places) count) xs)
  linked_replaced len at = record {
    once =
        once_replaced xs (numbers (length places) count) x linked.once
        (numbers_once (length places) count) apart;
    starts = begins;
    placed = λ k. at k ∙ placed k;
    short =
        let had : Has xs x = has_place xs None None x p n in_list in
        omega (
          arith,
          length-replaced xs (numbers (length places) count) x had,
          length-numbers
              (length places) count,
          linked.short,
        );
  }

-- the list after a node outside of it was put at its front
pub linked_front : (places new : List Place) (start : Option ℕ) (xs : List ℕ) (x : ℕ)
    → IsLinked places start xs → (Has xs x → ⊥) → length xs < length places
    → length new ≡ length places
    → ((k : ℕ)
    → place_at new k
    ≡ (if k == x then In None start else with_previous start (Some x) (place_at places) k))
    → IsLinked new (Some x) (x ∷ xs)
linked_front places new start xs x linked lacks short len at = record {
  once = (lacks, linked.once);
  starts = refl;
  placed = λ k. at k ∙ go k (cases_eq k x);
  short = omega arith;
}
  where
    go : (k : ℕ) → (k ≡ x) ⊎ (k ≡ x → ⊥)
        → (if k == x then In None start else with_previous start (Some x) (place_at places) k)
        ≡ place_in None (x ∷ xs) None k
    go k (inl e) = rw (eq-eqb k x e, linked.starts) refl
    go k (inr ne) =
        rw (ne_eqb k x ne)
        (with_previous-ap start (Some x) (place_at places) (place_in None xs None) k
        (linked.placed k)
        ∙ ap (λ v. with_previous v (Some x) (place_in None xs None) k) linked.starts
        ∙ sym (another_previous xs None (Some x) k))

-- what stands after a number of the list, by its place
pub after_place : (xs : List ℕ) (previous : Option ℕ) (x : ℕ) (p n : Option ℕ)
    → place_in previous xs None x ≡ In p n → after x xs ≡ n
after_place [] previous x p n h = cc
after_place (y ∷ ys) previous x p n h = go (cases_eq x y) (after_place ys (Some y) x p n) h
  where
    go : (x ≡ y) ⊎ (x ≡ y → ⊥) → (place_in (Some y) ys None x ≡ In p n → after x ys ≡ n)
        → place_in previous (y ∷ ys) None x ≡ In p n → after x (y ∷ ys) ≡ n
    go (inl e) _ = rw (eq-eqb x y e) (λ q. cc)
    go (inr ne) before = rw (ne_eqb x y ne) before

-- what the link of a leaf that is left leads to
pub after_listed : (places : List Place) (start : Option ℕ) (order : List ℕ) (k : ℕ)
    → IsLinked places start order → Has order k → next_of (place_at places k) ≡ after k order
after_listed places start order k linked h =
    let r = has_listed places start order k linked h in
    ap next_of r.2 ∙ sym (after_place order None k r.0 r.1 (sym (linked.placed k) ∙ r.2))

-- the same of the list as the leaves show it
pub order_within : (places : List Place) (start : Option ℕ) (order : List ℕ) (k : ℕ)
    → order_of places start ≡ order → IsLinked places start (order_of places start) → Has order k
    → k < length places
order_within places start order k is linked h =
    member_within places start (order_of places start) k linked (subst (λ v. Has v k) (sym is) h)

pub order_after : (places : List Place) (start : Option ℕ) (order : List ℕ) (k : ℕ)
    → order_of places start ≡ order → IsLinked places start (order_of places start) → Has order k
    → next_of (place_at places k) ≡ after k order
order_after places start order k is linked h =
    after_listed places start (order_of places start) k linked (subst (λ v. Has v k) (sym is) h)
    ∙ ap (λ v. after k v) is

pub order_has : (places : List Place) (start : Option ℕ) (order : List ℕ) (k : ℕ) (p n : Option ℕ)
    → order_of places start ≡ order → IsLinked places start (order_of places start)
    → place_at places k ≡ In p n → Has order k
order_has places start order k p n is linked h =
    subst (λ v. Has v k) is (listed_has places start (order_of places start) k p n linked h)

pub order_lacks : (places : List Place) (start : Option ℕ) (order : List ℕ) (k : ℕ)
    → order_of places start ≡ order → IsLinked places start (order_of places start)
    → place_at places k ≡ Out → Has order k → ⊥
order_lacks places start order k is linked out h =
    out_lacks places start (order_of places start) k linked out (subst (λ v. Has v k) (sym is) h)

-- what links that spell out a list show of it
pub linked_again : (places : List Place) (start : Option ℕ) (order : List ℕ)
    → IsLinked places start order → IsLinked places start (order_of places start)
linked_again places start order linked =
    subst (λ v. IsLinked places start v) (sym (order_is places start order linked)) linked

pub listing_of : (places : List Place) (start : Option ℕ) (seen : Left)
    → order_of places start ≡ seen.order → length places ≡ seen.size
    → IsLinked places start (order_of places start) → IsListing seen
listing_of places start seen is size linked = record {
  once = subst (λ v. NoRepeats v) is linked.once;
  short = let e : length (order_of places start)
      ≡ length seen.order = ap length is in omega (arith, linked.short, e);
  inside =
      λ node h. subst (λ (v : ℕ). node < v) size
      (order_within places start seen.order node is linked h);
}

-- a slice that was lent whole is the list again
pub lent_whole : (count : ℕ) (new old : List Place) → length old ≡ count → length new ≡ count
    → take count (new ++ drop (length new) old) ≡ new
lent_whole count new old had has =
    let rest : drop (length new) old ≡ [] = drop_all (length new) old (omega arith) in
    rw (rest, append-nil, ← has) (take-length new)

-- the list after a leaf was bridged by new ones, in the words of the code
pub bridged_again : (old pushed new : List Place) (start : Option ℕ) (order : List ℕ)
    (x size count : ℕ) (p n first_new last_new new_start : Option ℕ) → IsLinked old start order
    → place_at old x ≡ In p n → size ≡ length old → pushed ≡ old ++ row p size count n
    → first_new ≡ first_or (numbers (length old) count) (next_of (place_at old x))
    → last_new ≡ last_or p (numbers size count) → length new ≡ length old + count
    → ((k : ℕ) → place_at new k ≡ bridged x first_new last_new (place_at pushed) k)
    → new_start ≡ started (previous_of (place_at pushed x)) first_new start
    → IsLinked new new_start (replaced x (numbers (length old) count) order)
bridged_again old pushed new start order x size count p n first_new last_new new_start linked place
    size_is pushed_is first_is last_is len at start_is =
    subst (λ v. IsLinked new v (replaced x (numbers (length old) count) order)) (sym begins)
    (linked_replaced old new start order x count p n linked place len all)
  where
    shape : pushed ≡ old ++ row p (length old) count n
    shape = pushed_is ∙ ap (λ (v : ℕ). old ++ row p v count n) size_is

    first_at : first_new ≡ first_or (numbers (length old) count) n
    first_at = first_is ∙ ap (λ v. first_or (numbers (length old) count) (next_of v)) place

    last_at : last_new ≡ last_or p (numbers (length old) count)
    last_at = last_is ∙ ap (λ (v : ℕ). last_or p (numbers v count)) size_is

    stays : place_at pushed x ≡ In p n
    stays =
        ap (λ v. place_at v x) shape
        ∙ get_or_append_left old (row p (length old) count n) Out x (place_within old x p n place)
        ∙ place

    begins : new_start ≡ started p (first_or (numbers (length old) count) n) start
    begins = start_is ∙ ap (λ v. started (previous_of v) first_new start) stays
        ∙ ap (λ v. started p v start) first_at

    all : (k : ℕ)
        → place_at new k
        ≡ bridged_between x p n (first_or (numbers (length old) count) n)
        (last_or p (numbers (length old) count)) (place_at (old ++ row p (length old) count n)) k
    all k =
        at k
        ∙ bridged_is x p n first_new last_new (place_at pushed) k stays
        ∙ ap (λ v. bridged_between x p n v last_new (place_at pushed) k) first_at
        ∙ ap (λ v. bridged_between x p n (first_or (numbers (length old) count) n) v
        (place_at pushed) k) last_at
        ∙ ap (λ v. bridged_between x p n (first_or (numbers (length old) count) n)
        (last_or p (numbers (length old) count)) (place_at v) k) shape

-- the neighbours of a leaf are nodes, also once more were pushed
pub bridge_inside : (old pushed : List Place) (start : Option ℕ) (order : List ℕ) (x size count : ℕ)
    (p n : Option ℕ) → IsLinked old start order → place_at old x ≡ In p n → size ≡ length old
    → pushed ≡ old ++ row p size count n
    → (x < length pushed) × IsListed (place_at pushed x)
    × IsWithin (previous_of (place_at pushed x)) (length pushed)
    × IsWithin (next_of (place_at pushed x)) (length pushed)
bridge_inside old pushed start order x size count p n linked place size_is pushed_is = (
  inside,
  subst (λ v. IsListed v) (sym stays) tt,
  subst (λ v. IsWithin (previous_of v) (length pushed)) (sym stays)
      (wider p (previous_within old [] start order x count p n linked place)),
  subst (λ v. IsWithin (next_of v) (length pushed)) (sym stays)
      (wider n (next_within old [] start order x count p n linked place)),
)
  where
    stays : place_at pushed x ≡ In p n
    stays =
        ap (λ v. place_at v x) pushed_is
        ∙ get_or_append_left old (row p size count n) Out x (place_within old x p n place)
        ∙ place

    longer : length old ≤ length pushed
    longer = let e : length pushed
        ≡ length (old ++ row p size count n) =
        ap length pushed_is in omega (arith, e, length-append old (row p size count n))

    wider : (q : Option ℕ) → IsWithin q (length old) → IsWithin q (length pushed)
    wider None w = tt
    wider (Some y) w = let l : length old ≤ length pushed = longer in omega arith

    inside : x < length pushed
    inside = let l : length old ≤ length pushed = longer in let w : x < length old =
        place_within old x p n place in omega arith

-- the list after a node outside of it was put at its front, in the words of the code
pub fronted_again : (old led : List Place) (start : Option ℕ) (order : List ℕ) (x i : ℕ)
    → IsLinked old start order → (Has order x → ⊥) → x < length old → length order < length old
    → length led ≡ length old
    → ((k : ℕ) → place_at led k ≡ with_previous start (Some x) (place_at old) k) → i ≡ x
    → IsLinked (set led i (In None start)) (Some x) (x ∷ order)
fronted_again old led start order x i linked lacks inside short len at is =
    linked_front old (set led i (In None start)) start order x linked lacks short
    (length-set led i (In None start) ∙ len) all
  where
    all : (k : ℕ)
        → place_at (set led i (In None start)) k
        ≡ (if k == x then In None start else with_previous start (Some x) (place_at old) k)
    all k = go (cases_eq k x)
      where
        go : (k ≡ x) ⊎ (k ≡ x → ⊥)
            → place_at (set led i (In None start)) k
            ≡ (if k == x then In None start else with_previous start (Some x) (place_at old) k)
        go (inl e) =
            rw (eq-eqb k x e, is, e) (get_or-set_same led x (In None start) Out (omega arith))
        go (inr ne) = rw (ne_eqb k x ne, is) (get_or-set_other led x k (In None start) Out ne
            ∙ at k)
