-- Lists of multipliers, renamed and merged.
use Rattle.std.proofs.Common.{◌≡◌, ◌≢◌, ℕ, zero, suc, ◌+◌, ◌<◌, ◌≤◌, ◌==◌, cond, arith, refl, sym, ap, ◌∙◌, subst, ℤ, pos, negsuc, ◌+ℤ◌, ◌*ℤ◌, ◌≤ℤ◌, Bool, true, false, IsTrue, [], ◌∷◌, ◌++◌, length, take, drop, get_or, drop-cons, add-one, ◌⊎◌, inl, inr, ⊎_elim}
use Rattle.std.proofs.Math.Seq.{take-suc}
use Rattle.std.proofs.lemmas.Int.{ints}
use Rattle.zr_base.specs.Terms.{Terms, AscendWith, coef_at, value_at}
use Rattle.std.proofs.lemmas.Bool.Decides.{nat_tests}
use Rattle.std.proofs.lemmas.List.{take_all}
use Rattle.zr_branch.specs.Merged.{AllPass, AreAtLeastOne, IsMultiplier, renamed}

pub renamed-append : (name : ℕ → ℕ) (xs ys : Terms) → renamed name (xs ++ ys) ≡ renamed name xs ++ renamed name ys
renamed-append name [] ys = refl
renamed-append name (x ∷ xs) ys = ap (λ (ts : Terms). (name x.0, x.1) ∷ ts) (renamed-append name xs ys)

-- one more is renamed
pub renamed_more : (name : ℕ → ℕ) (ts : Terms) (i : ℕ) (list : Terms) (t : ℕ × ℤ) → i < length ts → t ≡ get_or ts i (0, pos 0) → list ≡ renamed name (take i ts) → list ++ (name t.0, t.1) ∷ [] ≡ renamed name (take (i + 1) ts)
renamed_more name ts i list t h is e =
    rw (e, add-one i, take-suc ts i (0, pos 0) h) (ap (λ (z : ℕ × ℤ). renamed name (take i ts) ++ (name z.0, z.1) ∷ []) is ∙ sym (renamed-append name (take i ts) (get_or ts i (0, pos 0) ∷ [])))

pub value_renamed : (name : ℕ → ℕ) (ts : Terms) (c : ℕ → ℤ) → value_at (renamed name ts) c ≡ value_at ts (λ r. c (name r))
value_renamed name [] c = refl
value_renamed name (t ∷ ts) c = ap (λ z. t.1 *ℤ c (name t.0) +ℤ z) (value_renamed name ts c)

-- the first i of one list and the first k of another are merged, and what is left of both comes later
pub record IsMergedTo (left right : Terms) (i k : ℕ) (list : Terms) : Type 0 where
  pub next : ℕ
  pub few_left : i ≤ length left
  pub few_right : k ≤ length right
  pub done : AscendWith IsMultiplier 0 next list
  pub left_rest : AscendWith IsMultiplier next 4294967296 (drop i left)
  pub right_rest : AscendWith IsMultiplier next 4294967296 (drop k right)
  pub fits : next ≤ 4294967296
  pub sums : (c : ℕ → ℤ) → value_at list c ≡ value_at (take i left) c +ℤ value_at (take k right) c
  pub tests : (test : ℕ → Bool) → AllPass test (take i left) → AllPass test (take k right) → AllPass test list

value-append : (xs ys : Terms) (c : ℕ → ℤ) → value_at (xs ++ ys) c ≡ value_at xs c +ℤ value_at ys c
value-append [] ys c = omega (arith, ints)
value-append (x ∷ xs) ys c = let r = value-append xs ys c in omega (arith, ints, r)

pub value_more : (xs : Terms) (i : ℕ) (d : ℕ × ℤ) (c : ℕ → ℤ) → i < length xs → value_at (take (suc i) xs) c ≡ value_at (take i xs) c +ℤ (get_or xs i d).1 *ℤ c (get_or xs i d).0
value_more xs i d c h =
    let v = value-append (take i xs) (get_or xs i d ∷ []) c in
    rw (take-suc xs i d h) (omega (arith, ints, v))

pass-front : (test : ℕ → Bool) (xs ys : Terms) → AllPass test (xs ++ ys) → AllPass test xs × AllPass test ys
pass-front test [] ys all = (tt, all)
pass-front test (x ∷ xs) ys all = let r = pass-front test xs ys all.1 in ((all.0, r.0), r.1)

pass-both : (test : ℕ → Bool) (xs ys : Terms) → AllPass test xs → AllPass test ys → AllPass test (xs ++ ys)
pass-both test [] ys a b = b
pass-both test (x ∷ xs) ys a b = (a.0, pass-both test xs ys a.1 b)

module _ (P : ℤ → Type 0) where
  push_last : (low n place more : ℕ) (xs : Terms) (v : ℤ) → low ≤ n → n ≤ place → place < more → AscendWith P low n xs → P v → AscendWith P low more (xs ++ (place, v) ∷ [])
  push_last low n place more [] v a b c all h = (omega (arith, a, b), c, h, tt)
  push_last low n place more (x ∷ xs) v a b c all h =
      let q = all.1 in
      (all.0, omega (arith, q, b, c), all.2, push_last (x.0 + 1) n place more xs v (omega (arith, q)) b c all.3 h)

  -- a list that begins later ascends from later on
  later : (low next n : ℕ) (xs : Terms) → ((x : ℕ × ℤ) (ys : Terms) → xs ≡ x ∷ ys → next ≤ x.0) → AscendWith P low n xs → AscendWith P next n xs
  later low next n [] first all = tt
  later low next n (x ∷ xs) first all = (first x xs refl, all.1, all.2, all.3)

module _ (left right : Terms) where
  abbrev P : ℤ → Type 0
  P z = IsMultiplier z

  module _ (i k : ℕ) (list : Terms) (m : IsMergedTo left right i k list) where
    -- the next one of the first list goes next
    pub take_left : (d : ℕ × ℤ) → i < length left → ((x : ℕ × ℤ) (ys : Terms) → drop k right ≡ x ∷ ys → (get_or left i d).0 < x.0) → IsMergedTo left right (suc i) k (list ++ get_or left i d ∷ [])
    take_left d h before =
        let x = get_or left i d in
        let e = drop-cons left i d h in
        let rest : AscendWith P m.next 4294967296 (get_or left i d ∷ drop (suc i) left) = rw e at m.left_rest in
        let low = rest.0 in
        let high = rest.1 in
        record {
          next = suc x.0;
          few_left = omega (arith, h);
          few_right = m.few_right;
          done = push_last P 0 m.next x.0 (suc x.0) list x.1 (omega arith) rest.0 (omega arith) m.done rest.2;
          left_rest = (let q : x.0 + 1 ≡ suc x.0 = omega arith in rw q at rest.3);
          right_rest = later P m.next (suc x.0) 4294967296 (drop k right) (λ y ys f. let b = before y ys f in omega (arith, b)) m.right_rest;
          fits = omega (arith, high);
          sums = λ c. (let a = value-append list (x ∷ []) c in let b = m.sums c in let v = value_more left i d c h in omega (arith, ints, a, b, v));
          tests = λ test a b. (let f = rw (take-suc left i d h) at a in let g = pass-front test (take i left) (x ∷ []) f in pass-both test list (x ∷ []) (m.tests test g.0 b) g.1);
        }

    pub take_right : (d : ℕ × ℤ) → k < length right → ((x : ℕ × ℤ) (ys : Terms) → drop i left ≡ x ∷ ys → (get_or right k d).0 < x.0) → IsMergedTo left right i (suc k) (list ++ get_or right k d ∷ [])
    take_right d h before =
        let x = get_or right k d in
        let e = drop-cons right k d h in
        let rest : AscendWith P m.next 4294967296 (get_or right k d ∷ drop (suc k) right) = rw e at m.right_rest in
        let low = rest.0 in
        let high = rest.1 in
        record {
          next = suc x.0;
          few_left = m.few_left;
          few_right = omega (arith, h);
          done = push_last P 0 m.next x.0 (suc x.0) list x.1 (omega arith) rest.0 (omega arith) m.done rest.2;
          left_rest = later P m.next (suc x.0) 4294967296 (drop i left) (λ y ys f. let b = before y ys f in omega (arith, b)) m.left_rest;
          right_rest = (let q : x.0 + 1 ≡ suc x.0 = omega arith in rw q at rest.3);
          fits = omega (arith, high);
          sums = λ c. (let a = value-append list (x ∷ []) c in let b = m.sums c in let v = value_more right k d c h in omega (arith, ints, a, b, v));
          tests = λ test a b. (let f = rw (take-suc right k d h) at b in let g = pass-front test (take k right) (x ∷ []) f in pass-both test list (x ∷ []) (m.tests test a g.0) g.1);
        }

-- the head of what is left is the item there
pub rest_head : (xs : Terms) (i : ℕ) (x : ℕ × ℤ) (ys : Terms) (d : ℕ × ℤ) → drop i xs ≡ x ∷ ys → (i < length xs) × (get_or xs i d ≡ x)
rest_head [] zero x ys d e = absurd cc
rest_head [] (suc i) x ys d e = absurd cc
rest_head (a ∷ xs) zero x ys d e = (omega arith, cc)
rest_head (a ∷ xs) (suc i) x ys d e =
    let r = rest_head xs i x ys d e in
    let h = r.0 in (omega (arith, h), r.1)

-- the number at an item's column is its own
pub at_entry : (low n : ℕ) (ts : Terms) (i : ℕ) (d : ℕ × ℤ) → AscendWith IsMultiplier low n ts → i < length ts → (coef_at ts (get_or ts i d).0 ≡ (get_or ts i d).1) × (low ≤ (get_or ts i d).0) × ((pos 1) ≤ℤ (get_or ts i d).1) × ((get_or ts i d).0 < n)
at_entry low n [] i d all h = absurd (omega (arith, h))
at_entry low n (t ∷ ts) zero d all h =
    let e : (t.0 == t.0) ≡ true = grind (arith, nat_tests) in (rw e refl, all.0, all.2.0, all.1)
at_entry low n (t ∷ ts) (suc i) d all h =
    let r = at_entry (t.0 + 1) n ts i d all.3 (omega (arith, h)) in
    let l = r.1 in
    let a = all.0 in
    let e : (t.0 == (get_or ts i d).0) ≡ false = grind (arith, nat_tests, l) in
    (rw e r.0, omega (arith, l, a), r.2, r.3)

pub one_apart : (z : ℤ) → (pos 1) ≤ℤ z → z ≡ pos 0 → ⊥
one_apart z h e = omega (arith, ints, h, e)

pub merged_at_start : (left right : Terms) → AreAtLeastOne 4294967296 left → AreAtLeastOne 4294967296 right → IsMergedTo left right 0 0 []
merged_at_start left right a b = record {
  next = 0;
  few_left = omega arith;
  few_right = omega arith;
  done = tt;
  left_rest = a;
  right_rest = b;
  fits = omega arith;
  sums = λ c. omega (arith, ints);
  tests = λ test p q. tt;
}

module _ (left right : Terms) (a : AreAtLeastOne 4294967296 left) (b : AreAtLeastOne 4294967296 right) (apart : (k : ℕ) → coef_at left k ≢ pos 0 → coef_at right k ≡ pos 0) where
  pub left_next : (i k : ℕ) (list : Terms) → IsMergedTo left right i k list → (i < length left) × (k < length right → (get_or left i (0, pos 0)).0 < (get_or right k (0, pos 0)).0) → IsMergedTo left right (i + 1) k (list ++ get_or left i (0, pos 0) ∷ [])
  left_next i k list m h =
      rw (add-one i) (take_left left right i k list m (0, pos 0) h.0 (λ x ys e. let r = rest_head right k x ys (0, pos 0) e in subst (λ (z : ℕ × ℤ). (get_or left i (0, pos 0)).0 < z.0) r.1 (h.1 r.0)))

  pub right_next : (i k : ℕ) (list : Terms) → IsMergedTo left right i k list → (k < length right) × (i < length left → (get_or right k (0, pos 0)).0 ≤ (get_or left i (0, pos 0)).0) → IsMergedTo left right i (k + 1) (list ++ get_or right k (0, pos 0) ∷ [])
  right_next i k list m h =
      rw (add-one k) (take_right left right i k list m (0, pos 0) h.0 (λ x ys e. let r = rest_head left i x ys (0, pos 0) e in subst (λ (z : ℕ × ℤ). (get_or right k (0, pos 0)).0 < z.0) r.1 (less r.0)))
    where
      less : i < length left → (get_or right k (0, pos 0)).0 < (get_or left i (0, pos 0)).0
      less below =
          let l = h.1 below in
          let u = at_entry 0 4294967296 left i (0, pos 0) a below in
          let v = at_entry 0 4294967296 right k (0, pos 0) b h.0 in
          let same : (get_or right k (0, pos 0)).0 ≡ (get_or left i (0, pos 0)).0 → ⊥ = λ e. one_apart (get_or right k (0, pos 0)).1 v.2 (sym v.0 ∙ ap (coef_at right) e ∙ apart (get_or left i (0, pos 0)).0 (λ z. one_apart (get_or left i (0, pos 0)).1 u.2 (sym u.0 ∙ z))) in
          omega (arith, l, same)

  pub merged_at_end : (i k : ℕ) (list : Terms) → IsMergedTo left right i k list → length left + length right ≤ i + k → AreAtLeastOne 4294967296 list × ((c : ℕ → ℤ) → value_at list c ≡ value_at left c +ℤ value_at right c) × ((test : ℕ → Bool) → AllPass test left → AllPass test right → AllPass test list)
  merged_at_end i k list m end =
      let l = m.few_left in
      let r = m.few_right in
      let x : take i left ≡ left = take_all i left (omega (arith, l, r, end)) in
      let y : take k right ≡ right = take_all k right (omega (arith, l, r, end)) in
      (more 0 m.next list m.fits m.done, rw (x, y) at m.sums, λ test p q. m.tests test (rw x p) (rw y q))
    where
      more : (low n : ℕ) (xs : Terms) → n ≤ 4294967296 → AscendWith IsMultiplier low n xs → AscendWith IsMultiplier low 4294967296 xs
      more low n [] h all = tt
      more low n (x ∷ xs) h all = (all.0, (let q = all.1 in omega (arith, q, h)), all.2, more (x.0 + 1) n xs h all.3)

pub head_same : (t : ℕ × ℤ) (ts : Terms) → coef_at (t ∷ ts) t.0 ≡ t.1
head_same t ts =
    let same : (t.0 == t.0) ≡ true = grind (arith, nat_tests) in rw same refl

pub tail_same : (t : ℕ × ℤ) (ts : Terms) (r : ℕ) → t.0 + 1 ≤ r → coef_at (t ∷ ts) r ≡ coef_at ts r
tail_same t ts r h =
    let other : (t.0 == r) ≡ false = grind (arith, nat_tests, h) in rw other refl

-- the items ascend under names that do
module _ (name : ℕ → ℕ) (n m : ℕ) (fit : (r : ℕ) → r < n → name r < m) where
  abbrev Rises : Terms → Type 0
  Rises ts = (r s : ℕ) → r < s → s < n → coef_at ts r ≢ pos 0 → coef_at ts s ≢ pos 0
      → name r < name s

  ascend_from : (low base : ℕ) (ts : Terms)
      → ((r : ℕ) → low ≤ r → r < n → coef_at ts r ≢ pos 0 → base ≤ name r)
      → ((r s : ℕ) → low ≤ r → r < s → s < n → coef_at ts r ≢ pos 0 → coef_at ts s ≢ pos 0
      → name r < name s)
      → AscendWith IsMultiplier low n ts → AscendWith IsMultiplier base m (renamed name ts)
  ascend_from low base [] from rise all = tt
  ascend_from low base (t ∷ ts) from rise all =
      let own : coef_at (t ∷ ts) t.0 ≢ pos 0 = λ z. one_apart t.1 all.2.0 (sym (head_same t ts) ∙ z) in
      let a = all.0 in
      let later = λ (r : ℕ) (l : t.0 + 1 ≤ r) (h : coef_at ts r ≢ pos 0) (z : coef_at (t ∷ ts) r ≡ pos 0).
      h (sym (tail_same t ts r l) ∙ z) in (
        from t.0 all.0 all.1 own,
        fit t.0 all.1,
        all.2,
        ascend_from (t.0 + 1) (name t.0 + 1) ts
            (λ r above below h. let g = rise t.0 r all.0 (omega (arith, above)) below own
            (later r above h) in omega (arith, g))
            (λ r s above less below h k. rise r s (omega (arith, above, a)) less below
            (later r above h) (later s (omega (arith, above, less)) k)) all.3,
      )

  pub renamed_ascends : (ts : Terms) → Rises ts → AreAtLeastOne n ts
      → AreAtLeastOne m (renamed name ts)
  renamed_ascends ts rise all =
      ascend_from 0 0 ts (λ r above below h. omega arith)
      (λ r s above less below h k. rise r s less below h k) all

  tail_found : (low : ℕ) (t : ℕ × ℤ) (ts : Terms) (k : ℕ) → low ≤ t.0 → (r : ℕ) × (t.0 + 1 ≤ r) × (r < n) × (name r ≡ k) × (coef_at ts r ≢ pos 0) → (r : ℕ) × (low ≤ r) × (r < n) × (name r ≡ k) × (coef_at (t ∷ ts) r ≢ pos 0)
  tail_found low t ts k h r =
      let l = r.1 in
      (r.0, omega (arith, l, h), r.2, r.3, λ z. r.4 (sym (tail_same t ts r.0 r.1) ∙ z))

  which : (b : Bool) (low : ℕ) (t : ℕ × ℤ) (ts : Terms) (k : ℕ) → (name t.0 == k) ≡ b → AscendWith IsMultiplier low n (t ∷ ts) → cond b t.1 (coef_at (renamed name ts) k) ≢ pos 0 → (coef_at (renamed name ts) k ≢ pos 0 → (r : ℕ) × (t.0 + 1 ≤ r) × (r < n) × (name r ≡ k) × (coef_at ts r ≢ pos 0)) → (r : ℕ) × (low ≤ r) × (r < n) × (name r ≡ k) × (coef_at (t ∷ ts) r ≢ pos 0)
  which true low t ts k e all h rest =
      let q : name t.0 ≡ k = grind (arith, nat_tests, e) in
      (t.0, all.0, all.1, q, λ z. one_apart t.1 all.2.0 (sym (head_same t ts) ∙ z))
  which false low t ts k e all h rest = tail_found low t ts k all.0 (rest h)

  found_from : (low : ℕ) (ts : Terms) (k : ℕ) → AscendWith IsMultiplier low n ts → coef_at (renamed name ts) k ≢ pos 0 → (r : ℕ) × (low ≤ r) × (r < n) × (name r ≡ k) × (coef_at ts r ≢ pos 0)
  found_from low [] k all h = absurd (h refl)
  found_from low (t ∷ ts) k all h =
      which (name t.0 == k) low t ts k refl all h (λ g. found_from (t.0 + 1) ts k all.3 g)

  pub named_at : (ts : Terms) (k : ℕ) → AreAtLeastOne n ts → coef_at (renamed name ts) k ≢ pos 0 → (r : ℕ) × (r < n) × (name r ≡ k) × (coef_at ts r ≢ pos 0)
  named_at ts k all h = let r = found_from 0 ts k all h in (r.0, r.2, r.3, r.4)

-- each name of a listed number passes a test
pass_from : (name : ℕ → ℕ) (test : ℕ → Bool) (low n : ℕ) (ts : Terms) → AscendWith IsMultiplier low n ts → ((r : ℕ) → low ≤ r → r < n → coef_at ts r ≢ pos 0 → IsTrue (test (name r))) → AllPass test (renamed name ts)
pass_from name test low n [] all pass = tt
pass_from name test low n (t ∷ ts) all pass =
    let same : (t.0 == t.0) ≡ true = grind (arith, nat_tests) in
    let a = all.0 in
    (pass t.0 all.0 all.1 (λ z. one_apart t.1 all.2.0 (rw same at z)), pass_from name test (t.0 + 1) n ts all.3 (λ r above below h. let other : (t.0 == r) ≡ false = grind (arith, nat_tests, above) in pass r (omega (arith, above, a)) below (rw other h)))

pub names_pass : (name : ℕ → ℕ) (test : ℕ → Bool) (n : ℕ) (ts : Terms) → AreAtLeastOne n ts → ((r : ℕ) → r < n → coef_at ts r ≢ pos 0 → IsTrue (test (name r))) → AllPass test (renamed name ts)
names_pass name test n ts all pass = pass_from name test 0 n ts all (λ r above below h. pass r below h)

pub zero_or : (z : ℤ) → (z ≡ pos 0) ⊎ (z ≢ pos 0)
zero_or (pos zero) = inl refl
zero_or (pos (suc n)) = inr (λ e. cc)
zero_or (negsuc n) = inr (λ e. cc)

-- the names of two lists are apart
pub names_apart : (f g : ℕ → ℕ) (n k m : ℕ) (xs ys : Terms) → ((r : ℕ) → r < n → f r < m) → ((r : ℕ) → r < k → g r < m) → AreAtLeastOne n xs → AreAtLeastOne k ys → ((r v : ℕ) → r < n → v < k → f r ≡ g v → coef_at xs r ≢ pos 0 → coef_at ys v ≡ pos 0) → (q : ℕ) → coef_at (renamed f xs) q ≢ pos 0 → coef_at (renamed g ys) q ≡ pos 0
names_apart f g n k m xs ys fit fits a b apart q h =
    let l = named_at f n m fit xs q a h in
    ⊎_elim (λ (z : coef_at (renamed g ys) q ≡ pos 0). z) (λ (z : coef_at (renamed g ys) q ≢ pos 0). let r = named_at g k m fits ys q b z in absurd (r.3 (apart l.0 r.0 l.1 r.1 (l.2 ∙ sym r.2) l.3))) (zero_or (coef_at (renamed g ys) q))
