-- Multipliers of a follower over one denominator with its point, and that an answer with them is optimal.
use Rattle.std.proofs.Common.{◌≡◌, ◌↔◌, ℕ, suc, ◌+◌, ◌<◌, arith, refl, sym, ap, ap₂, subst, ◌∙◌, ℤ, pos, neg_ℤ, ◌+ℤ◌, ◌*ℤ◌, ◌≤ℤ◌, ◌<ℤ◌, ◌⊎◌, ⊎_elim, inl, inr, List, [], ◌∷◌, ◌++◌, map, length, get_or, All}
use Rattle.std.specs.List.{range_with_len}
use Rattle.std.proofs.lemmas.Int.{ints}
use Rattle.std.proofs.lemmas.List.{get_or-append-add, get_or_append_left, length-map, length-append}
use Rattle.std.proofs.lemmas.List.FromFn.{get_or-map-range_with_len, length-map-range_with_len}
use Rattle.std.proofs.Math.IntN.{*ℤ_comm}
use Rattle.zr_base.proofs.Ring.{spread, mul_assoc, mul-add_right}
use Rattle.zr_base.proofs.Dense.{sum_to_same}
use Rattle.zr_base.proofs.Divisors.{cancel, mul_positive}
use Rattle.zr_base.proofs.RowLaws.{num_of-scaled, row_holds_value, value_at-mul}
use Rattle.zr_base.specs.Points.{PointOf, num_of}
use Rattle.zr_base.specs.Rows.{RowHolds}
use Rattle.zr_base.specs.Sums.{sum_to}
use Rattle.zr_base.specs.Terms.{coef_at, value_at}
use Rattle.zr_base.proofs.SumSteps.{get_or_default}
use Rattle.zr_follow.proofs.Multipliers.{least_with_multipliers, multipliers_of_least}
use Rattle.zr_follow.proofs.Programs.{aim_of, allowed_here, least_of_optimal, none, optimal_of_least, others, own, own_sum, program_of, row_at, row_form, value_parts}
use Rattle.zr_follow.proofs.Sums.{mul_least, sum_times}
use Rattle.zr_follow.specs.Expansion.{cross_terms, multipliers}
use Rattle.zr_source.specs.Optimal.{IsOptimal}
use Rattle.zr_follow.specs.Programs.{AreMultipliers, Program, along, reduced}
use Rattle.zr_source.specs.SourceForms.{IsFollowerForm}
use Rattle.zr_source.specs.Sources.{FollowerOf, IsOwn}

-- the slope of own variable j at `p v / d`, plus the rows' numbers there times the multipliers `l r / d`; all times d
abbrev pub slack_var : FollowerOf → (ℕ → ℤ) → ℤ → (ℕ → ℤ) → ℕ → ℤ
slack_var f p d l j =
    aim_of f p d j +ℤ sum_to (length f.rows) (λ r. l r *ℤ coef_at (row_at f.rows r).coef (f.first + j))

-- what row r leaves at `p v / d`, times d
abbrev pub slack_row : FollowerOf → (ℕ → ℤ) → ℤ → ℕ → ℤ
slack_row f p d r = (row_at f.rows r).le *ℤ d +ℤ neg_ℤ (value_at (row_at f.rows r).coef p)

pub record Answered (f : FollowerOf) (p : ℕ → ℤ) (d : ℤ) (l : ℕ → ℤ) : Type 0 where
  pub low : (r : ℕ) → r < length f.rows → (pos 0) ≤ℤ l r
  pub vars : (j : ℕ) → j < f.count → ((pos 0) ≤ℤ slack_var f p d l j) × ((own f p j ≡ pos 0) ⊎ (slack_var f p d l j ≡ pos 0))
  pub rows : (r : ℕ) → r < length f.rows → ((pos 0) ≤ℤ slack_row f p d r) × ((l r ≡ pos 0) ⊎ (slack_row f p d r ≡ pos 0))

-- the same where all numbers are multiplied by s
module _ (f : FollowerOf) (p : ℕ → ℤ) (d : ℤ) (s : ℤ) where
  gather : (a b c s : ℤ) → a *ℤ (b *ℤ s) +ℤ c *ℤ s ≡ (a *ℤ b +ℤ c) *ℤ s
  gather a b c s = simp spread

  pub aim_scaled : (j : ℕ) → aim_of f (λ v. p v *ℤ s) (d *ℤ s) j ≡ aim_of f p d j *ℤ s
  aim_scaled j =
      ap (λ z. coef_at f.cost (f.first + j) *ℤ (d *ℤ s) +ℤ z) (value_at-mul (cross_terms f (f.first + j)) p s) ∙ gather (coef_at f.cost (f.first + j)) d (value_at (cross_terms f (f.first + j)) p) s

  slack_var_scaled : (l : ℕ → ℤ) (j : ℕ) → slack_var f (λ v. p v *ℤ s) (d *ℤ s) (λ r. l r *ℤ s) j ≡ slack_var f p d l j *ℤ s
  slack_var_scaled l j =
      ap₂ ◌+ℤ◌ (aim_scaled j) (sum_to_same (length f.rows) (λ r. (l r *ℤ s) *ℤ coef_at (row_at f.rows r).coef (f.first + j)) (λ r. (l r *ℤ coef_at (row_at f.rows r).coef (f.first + j)) *ℤ s) (λ r h. swap (l r) s (coef_at (row_at f.rows r).coef (f.first + j))) ∙ sym (sum_times (length f.rows) (λ r. l r *ℤ coef_at (row_at f.rows r).coef (f.first + j)) s)) ∙ sym (mul-add_right (aim_of f p d j) (sum_to (length f.rows) (λ r. l r *ℤ coef_at (row_at f.rows r).coef (f.first + j))) s)
    where
      swap : (a b c : ℤ) → (a *ℤ b) *ℤ c ≡ (a *ℤ c) *ℤ b
      swap a b c = simp spread

  pub slack_row_scaled : (r : ℕ) → slack_row f (λ v. p v *ℤ s) (d *ℤ s) r ≡ slack_row f p d r *ℤ s
  slack_row_scaled r =
      ap (λ z. (row_at f.rows r).le *ℤ (d *ℤ s) +ℤ neg_ℤ z) (value_at-mul (row_at f.rows r).coef p s) ∙ turn (row_at f.rows r).le d (value_at (row_at f.rows r).coef p) s
    where
      turn : (a b c s : ℤ) → a *ℤ (b *ℤ s) +ℤ neg_ℤ (c *ℤ s) ≡ (a *ℤ b +ℤ neg_ℤ c) *ℤ s
      turn a b c s = simp spread

  pub answered_scaled : (l : ℕ → ℤ) → (pos 0) <ℤ s → Answered f p d l → Answered f (λ v. p v *ℤ s) (d *ℤ s) (λ r. l r *ℤ s)
  answered_scaled l positive a = record {
    low = λ r h. least (l r) (a.low r h);
    vars = λ j h. let v = a.vars j h in rw (slack_var_scaled l j) (least (slack_var f p d l j) v.0, either (own f p j) (slack_var f p d l j) v.1);
    rows = λ r h. let v = a.rows r h in rw (slack_row_scaled r) (least (slack_row f p d r) v.0, either (l r) (slack_row f p d r) v.1);
  }
    where
      least : (a : ℤ) → (pos 0) ≤ℤ a → (pos 0) ≤ℤ (a *ℤ s)
      least a h = mul_least a s h (omega (arith, ints, positive))

      either : (a b : ℤ) → (a ≡ pos 0) ⊎ (b ≡ pos 0) → (a *ℤ s ≡ pos 0) ⊎ (b *ℤ s ≡ pos 0)
      either a b (inl e) = inl (rw e (omega (arith, ints)))
      either a b (inr e) = inr (rw e (omega (arith, ints)))

nothing : (a b : ℤ) → a ≡ pos 0 → a *ℤ b ≡ pos 0
nothing a b e = ap (λ z. z *ℤ b) e ∙ omega (arith, ints)

-- only the multipliers of the rows count
pub answered_same : (f : FollowerOf) (p : ℕ → ℤ) (d : ℤ) (l m : ℕ → ℤ) → ((r : ℕ) → r < length f.rows → l r ≡ m r) → Answered f p d l → Answered f p d m
answered_same f p d l m same a = record {
  low = λ r h. rw (same r h) at (a.low r h);
  vars = λ j h. rw (slack j) at (a.vars j h);
  rows = λ r h. rw (same r h) at (a.rows r h);
}
  where
    slack : (j : ℕ) → slack_var f p d l j ≡ slack_var f p d m j
    slack j =
        ap (λ z. aim_of f p d j +ℤ z) (sum_to_same (length f.rows) (λ r. l r *ℤ coef_at (row_at f.rows r).coef (f.first + j)) (λ r. m r *ℤ coef_at (row_at f.rows r).coef (f.first + j)) (λ r h. ap (λ z. z *ℤ coef_at (row_at f.rows r).coef (f.first + j)) (same r h)))

module _ (f : FollowerOf) (columns : ℕ) (form : IsFollowerForm columns f) (x : PointOf) (positive : (pos 0) <ℤ x.den) (len : length x.num ≡ columns) (low : (v : ℕ) → IsOwn f v → (pos 0) ≤ℤ num_of x v) where
  abbrev at_x : Program
  at_x = program_of f (num_of x) x.den

  -- the rows' own sums, with all else moved to the right
  row_tight : (r : ℕ) → r < length f.rows → (slack_row f (num_of x) x.den r ≡ pos 0) ↔ (along at_x (at_x.coef r) (own f (num_of x)) ≡ at_x.le r *ℤ x.den)
  row_tight r h =
      let row = row_at f.rows r in
      let ascends = row_form f columns form x positive len r h in
      let parts = value_parts f columns row.coef (num_of x) ascends form.vars_exist in
      let sum = own_sum f columns row.coef row.le ascends form.vars_exist (num_of x) x.den (num_of x) x.den positive (λ v o. refl) in
      both (sum_to f.count (λ j. coef_at row.coef (f.first + j) *ℤ own f (num_of x) j)) (value_at row.coef (others f (num_of x))) (value_at row.coef (num_of x)) (along at_x (at_x.coef r) (own f (num_of x))) row.le parts sum
    where
      both : (s o v a le : ℤ) → v ≡ s +ℤ o → a ≡ s *ℤ x.den → (le *ℤ x.den +ℤ neg_ℤ v ≡ pos 0) ↔ (a ≡ (le *ℤ x.den +ℤ neg_ℤ o) *ℤ x.den)
      both s o v a le p q = (
        λ e. let m : s ≡ le *ℤ x.den +ℤ neg_ℤ o = omega (arith, ints, e, p) in q ∙ ap (λ z. z *ℤ x.den) m,
        λ e. let m = cancel s (le *ℤ x.den +ℤ neg_ℤ o) x.den positive (sym q ∙ e) in omega (arith, ints, m, p),
      )

  row_left : (r : ℕ) → r < length f.rows → RowHolds x (row_at f.rows r) ↔ ((pos 0) ≤ℤ slack_row f (num_of x) x.den r)
  row_left r h =
      let row = row_at f.rows r in
      let v = row_holds_value x row in
      (λ k. let w = v.0 k in gap (value_at row.coef (num_of x)) (row.le *ℤ x.den) w, λ k. v.1 (back (value_at row.coef (num_of x)) (row.le *ℤ x.den) k))
    where
      gap : (a b : ℤ) → a ≤ℤ b → (pos 0) ≤ℤ (b +ℤ neg_ℤ a)
      gap a b h = omega (arith, ints, h)

      back : (a b : ℤ) → (pos 0) ≤ℤ (b +ℤ neg_ℤ a) → a ≤ℤ b
      back a b h = omega (arith, ints, h)

  rows_hold : ((r : ℕ) → r < length f.rows → (pos 0) ≤ℤ slack_row f (num_of x) x.den r) → All (RowHolds x) f.rows
  rows_hold h r d k = rw (get_or_default f.rows r d none k) ((row_left r k).1 (h r k))

  -- reduced numbers with multipliers over the denominator t
  reduced_is : (t : ℤ) (m : ℕ → ℤ) (j : ℕ) → reduced at_x t m j ≡ slack_var f (λ v. num_of x v *ℤ t) (x.den *ℤ t) (λ r. m r *ℤ x.den) j
  reduced_is t m j =
      ap₂ ◌+ℤ◌ (*ℤ_comm t (aim_of f (num_of x) x.den j) ∙ sym (aim_scaled f (num_of x) x.den t j)) (sum_to_same (length f.rows) (λ r. m r *ℤ (coef_at (row_at f.rows r).coef (f.first + j) *ℤ x.den)) (λ r. (m r *ℤ x.den) *ℤ coef_at (row_at f.rows r).coef (f.first + j)) (λ r h. swap (m r) (coef_at (row_at f.rows r).coef (f.first + j)) x.den))
    where
      swap : (a b c : ℤ) → a *ℤ (b *ℤ c) ≡ (a *ℤ c) *ℤ b
      swap a b c = simp spread

  -- an answer with multipliers is optimal
  pub optimal_of_answered : (l : ℕ → ℤ) → Answered f (num_of x) x.den l → IsOptimal f x
  optimal_of_answered l a =
      let rows = rows_hold (λ r h. (a.rows r h).0) in
      optimal_of_least f columns form x positive len rows (least_with_multipliers at_x (own f (num_of x)) x.den (allowed_here f columns form x positive len low rows) (x.den, l, are))
    where
      are : AreMultipliers at_x (own f (num_of x)) x.den x.den l
      are = record {
        scale = positive;
        low = a.low;
        columns = λ j h. let v = a.vars j h in subst (λ z. ((pos 0) ≤ℤ z) × ((own f (num_of x) j ≡ pos 0) ⊎ (z ≡ pos 0))) (sym (reduced_is x.den l j ∙ slack_var_scaled f (num_of x) x.den x.den l j)) (mul_least (slack_var f (num_of x) x.den l j) x.den v.0 (omega (arith, ints, positive)), ⊎_elim (λ (e : own f (num_of x) j ≡ pos 0). inl e) (λ (e : slack_var f (num_of x) x.den l j ≡ pos 0). inr (nothing (slack_var f (num_of x) x.den l j) x.den e)) v.1);
        rows = λ r h. ⊎_elim (λ (e : l r ≡ pos 0). inl e) (λ (e : slack_row f (num_of x) x.den r ≡ pos 0). inr ((row_tight r h).0 e)) (a.rows r h).1;
      }

  -- an optimal answer has multipliers, over some denominator
  pub answered_of_optimal : IsOptimal f x → (t : ℤ) × (l : ℕ → ℤ) × ((pos 0) <ℤ t) × Answered f (λ v. num_of x v *ℤ t) (x.den *ℤ t) l
  answered_of_optimal optimal =
      let has = multipliers_of_least at_x (own f (num_of x)) x.den (allowed_here f columns form x positive len low optimal.rows) (least_of_optimal f columns form x positive len optimal) in
      (has.0, (λ r. has.1 r *ℤ x.den), has.2.scale, found has.0 has.1 has.2)
    where
      found : (t : ℤ) (m : ℕ → ℤ) → AreMultipliers at_x (own f (num_of x)) x.den t m → Answered f (λ v. num_of x v *ℤ t) (x.den *ℤ t) (λ r. m r *ℤ x.den)
      found t m are = record {
        low = λ r h. mul_least (m r) x.den (are.low r h) (omega (arith, ints, positive));
        vars = λ j h. let c = are.columns j h in subst (λ z. ((pos 0) ≤ℤ z) × ((num_of x (f.first + j) *ℤ t ≡ pos 0) ⊎ (z ≡ pos 0))) (reduced_is t m j) (c.0, ⊎_elim (λ (e : own f (num_of x) j ≡ pos 0). inl (nothing (own f (num_of x) j) t e)) (λ (e : reduced at_x t m j ≡ pos 0). inr e) c.1);
        rows = λ r h. subst (λ z. ((pos 0) ≤ℤ z) × ((m r *ℤ x.den ≡ pos 0) ⊎ (z ≡ pos 0))) (sym (slack_row_scaled f (num_of x) x.den t r)) (mul_least (slack_row f (num_of x) x.den r) t ((row_left r h).0 (optimal.rows r none h)) (omega (arith, ints, are.scale)), ⊎_elim (λ (e : m r ≡ pos 0). inl (nothing (m r) x.den e)) (λ (e : along at_x (at_x.coef r) (own f (num_of x)) ≡ at_x.le r *ℤ x.den). inr (nothing (slack_row f (num_of x) x.den r) t ((row_tight r h).1 e))) (are.rows r h));
      }

-- all followers, whose multipliers stand one after another
abbrev pub AllAnswered : List FollowerOf → (ℕ → ℤ) → ℤ → (ℕ → ℤ) → Type 0
AllAnswered [] p d l = Unit {0}
AllAnswered (f ∷ fs) p d l = Answered f p d l × AllAnswered fs p d (λ k. l (length f.rows + k))

pub all_scaled : (fs : List FollowerOf) (p : ℕ → ℤ) (d : ℤ) (l : ℕ → ℤ) (s : ℤ) → (pos 0) <ℤ s → AllAnswered fs p d l → AllAnswered fs (λ v. p v *ℤ s) (d *ℤ s) (λ k. l k *ℤ s)
all_scaled [] p d l s positive a = tt
all_scaled (f ∷ fs) p d l s positive a =
    (answered_scaled f p d s l positive a.0, all_scaled fs p d (λ k. l (length f.rows + k)) s positive a.1)

pub all_same : (fs : List FollowerOf) (p q : ℕ → ℤ) (d e : ℤ) (l m : ℕ → ℤ) → ((v : ℕ) → p v ≡ q v) → d ≡ e → ((k : ℕ) → l k ≡ m k) → AllAnswered fs p d l → AllAnswered fs q e m
all_same fs p q d e l m sp sd sl a =
    let p' : p ≡ q = λ i v. sp v i in
    let l' : l ≡ m = λ i k. sl k i in
    subst (λ z. AllAnswered fs q e z) l' (subst (λ z. AllAnswered fs q z l) sd (subst (λ z. AllAnswered fs z d l) p' a))

-- one denominator for the multipliers of all followers
abbrev pub Collected : List FollowerOf → PointOf → Type 0
Collected fs x =
    (t : ℤ) × (l : List ℤ) × ((pos 0) <ℤ t) × (length l ≡ multipliers fs) × AllAnswered fs (λ v. num_of x v *ℤ t) (x.den *ℤ t) (λ k. get_or l k (pos 0))

-- the follower's own numbers are at least 0
abbrev pub IsOwnLow : PointOf → FollowerOf → Type 0
IsOwnLow x f = (v : ℕ) → IsOwn f v → (pos 0) ≤ℤ num_of x v

pub collected : (fs : List FollowerOf) (columns : ℕ) (x : PointOf) → (pos 0) <ℤ x.den → length x.num ≡ columns → All (IsOwnLow x) fs → All (IsFollowerForm columns) fs → All (λ f. IsOptimal f x) fs → Collected fs x
collected [] columns x positive len low form optimal = (pos 1, [], omega (arith, ints), refl, tt)
collected (f ∷ fs) columns x positive len low form optimal =
    let ff = form 0 f (omega arith) in
    let mine = answered_of_optimal f columns ff x positive len (low 0 f (omega arith)) (optimal 0 f (omega arith)) in
    let rest = collected fs columns x positive len (λ k d h. low (suc k) d (omega arith)) (λ k d h. form (suc k) d (omega arith)) (λ k d h. optimal (suc k) d (omega arith)) in
    joined mine.0 mine.1 mine.2 mine.3 rest.0 rest.1 rest.2 rest.3 rest.4
  where
    joined : (t : ℤ) (l : ℕ → ℤ) → (pos 0) <ℤ t → Answered f (λ v. num_of x v *ℤ t) (x.den *ℤ t) l → (s : ℤ) (m : List ℤ) → (pos 0) <ℤ s → length m ≡ multipliers fs → AllAnswered fs (λ v. num_of x v *ℤ s) (x.den *ℤ s) (λ k. get_or m k (pos 0)) → Collected (f ∷ fs) x
    joined t l t_positive a s m s_positive lens all =
        let n = length f.rows in
        let front = map (λ r. l r *ℤ s) (range_with_len 0 n) in
        let back = map (λ z. z *ℤ t) m in
        let front_len = length-map-range_with_len (λ r. l r *ℤ s) 0 n in
        let first = answered_scaled f (λ v. num_of x v *ℤ t) (x.den *ℤ t) s l s_positive a in
        let second = all_scaled fs (λ v. num_of x v *ℤ s) (x.den *ℤ s) (λ k. get_or m k (pos 0)) t t_positive all in (
          t *ℤ s,
          front ++ back,
          mul_positive t s t_positive s_positive,
          length-append front back ∙ ap₂ ◌+◌ front_len (length-map m (λ z. z *ℤ t) ∙ lens),
          (
            (all_same (f ∷ []) (λ v. (num_of x v *ℤ t) *ℤ s) (λ v. num_of x v *ℤ (t *ℤ s)) ((x.den *ℤ t) *ℤ s) (x.den *ℤ (t *ℤ s)) (λ k. get_or (front ++ back) k (pos 0)) (λ k. get_or (front ++ back) k (pos 0)) (λ v. mul_assoc (num_of x v) t s) (mul_assoc x.den t s) (λ k. refl) (answered_same f (λ v. (num_of x v *ℤ t) *ℤ s) ((x.den *ℤ t) *ℤ s) (λ r. l r *ℤ s) (λ k. get_or (front ++ back) k (pos 0)) (λ r h. sym (get_or_append_left front back (pos 0) r (rw front_len h) ∙ get_or-map-range_with_len (λ r. l r *ℤ s) 0 n r r (pos 0) h (omega arith))) first, tt)).0,
            all_same fs (λ v. (num_of x v *ℤ s) *ℤ t) (λ v. num_of x v *ℤ (t *ℤ s)) ((x.den *ℤ s) *ℤ t) (x.den *ℤ (t *ℤ s)) (λ k. get_or m k (pos 0) *ℤ t) (λ k. get_or (front ++ back) (n + k) (pos 0)) (λ v. swap (num_of x v) s t) (swap x.den s t) (λ k. sym (ap (λ a. get_or (front ++ back) (a + k) (pos 0)) (sym front_len) ∙ get_or-append-add front back k (pos 0) ∙ num_of-scaled (record { num = m; den = pos 1 }) t k)) second,
          ),
        )
      where
        swap : (a b c : ℤ) → (a *ℤ b) *ℤ c ≡ a *ℤ (c *ℤ b)
        swap a b c = simp spread
