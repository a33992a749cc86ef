-- Steps of the code that reads lines whose numbers have no upper bounds.
use Rattle.std.proofs.Common.{◌≡◌, ◌≢◌, ℕ, zero, suc, ℤ, pos, negsuc, ◌+◌, ◌^◌, ◌<◌, ◌≤◌, ◌⊎◌, inl, inr, Bool, true, false, ◌==◌, List, [], ◌∷◌, ◌++◌, length, Option, Some, None, Ok, Err, sym, refl, ap, ◌∙◌, append_assoc, arith, Bor}
use Rattle.std.specs.Prelude.{codes, is_some, nat_le, nat_lt, int_le, option_copied}
use Rattle.std.proofs.lemmas.Bool.{cases_lt, eqb-false, eqb-true, le-leb, lt-leb, lt-ltb}
use Rattle.std.proofs.lemmas.List.{append-nil, length-append}
use Rattle.zr_tree.specs.Nodes.{Multipliers}
use Rattle.zr_form.specs.Bounds.{is_count, is_index, is_narrow, is_positive}
use Rattle.zr_form.specs.Code.{TakesField, left_of, positive}
use Rattle.zr_form.specs.Fields.{and_more, integer_read, natural_read, only_if}
use Rattle.zr_form.specs.Lines.{fields_of, onto}
use Rattle.zr_form.specs.Numbers.{decimal, digits, integer, natural}
use Rattle.zr_form.specs.Reading.{Bytes, one_read, or_stop}
use Rattle.zr_form.proofs.AnySize.{above_fails, above_passes, integer_above, none_above, positive_natural, none_taken, taken_number, taken_passes, taken_reads}
use Rattle.zr_form.proofs.Fields.{only_again, only_some}
use Rattle.zr_form.proofs.Numbers.{natural_spelled}
use Rattle.zr_form.proofs.Steps.{narrow}
use Rattle.zr_lines.specs.Code.{IsFloor}
use Rattle.zr_lines.specs.Fits.{ascend, ascend_from, is_at, is_scale}
use Rattle.zr_lines.specs.Reader.{counted, multipliers}
use Rattle.zr_lines.proofs.NodeSteps.{counted_falls, counted_not, counted_ok, counted_short, list_begins, list_ends, list_on, pair_read, pair_shorter, with_front}

refused_is : {X : Type 0} (o : Option X) (f : Bytes) (fs : List Bytes) → or_stop o f fs ≡ Err (f ∷ fs) → o ≡ None
refused_is None f fs h = refl
refused_is (Some x) f fs h = absurd cc

some_same : (m n : ℕ) → Some m ≡ Some n → m ≡ n
some_same m n e = cc

-- ---- a field was taken, or not

pub index_found : (left : Option (Bor Bytes)) (field : Bor Bytes) (rest : Option (Bor Bytes)) → TakesField natural left (Some (field, rest)) → (n : ℕ) × (natural field.now ≡ Some n) × (natural_read (is_index false) (left_of (option_copied left)) ≡ Ok (n, left_of (option_copied rest)))
unfolding natural_read
index_found left field rest h = let n = taken_number natural left field rest h in (n.0, n.1, taken_passes natural (is_index false) left field rest n.0 h n.1 refl)

pub index_missing : (left : Option (Bor Bytes)) → TakesField natural left None → natural_read (is_index false) (left_of (option_copied left)) ≡ Err (left_of (option_copied left))
unfolding natural_read
index_missing left h = none_taken natural (is_index false) left h

pub at_found : (left : Option (Bor Bytes)) (field : Bor Bytes) (rest : Option (Bor Bytes)) → TakesField integer left (Some (field, rest)) → (z : ℤ) × (integer_read (is_at false) (left_of (option_copied left)) ≡ Ok (z, left_of (option_copied rest)))
unfolding integer_read
at_found left field rest h = let n = taken_number integer left field rest h in (n.0, taken_passes integer (is_at false) left field rest n.0 h n.1 refl)

pub at_missing : (left : Option (Bor Bytes)) → TakesField integer left None → integer_read (is_at false) (left_of (option_copied left)) ≡ Err (left_of (option_copied left))
unfolding integer_read
at_missing left h = none_taken integer (is_at false) left h

pub positive_found : (left : Option (Bor Bytes)) (field : Bor Bytes) (rest : Option (Bor Bytes)) → TakesField positive left (Some (field, rest)) → (z : ℤ) × (integer_read (is_positive false) (left_of (option_copied left)) ≡ Ok (z, left_of (option_copied rest)))
unfolding integer_read
positive_found left field rest h = let n = taken_number positive left field rest h in (n.0, taken_reads positive left field rest n.0 h n.1)

pub positive_missing : (left : Option (Bor Bytes)) → TakesField positive left None → integer_read (is_positive false) (left_of (option_copied left)) ≡ Err (left_of (option_copied left))
unfolding integer_read
positive_missing left h = h

pub integer_found : (left : Option (Bor Bytes)) (field : Bor Bytes) (rest : Option (Bor Bytes)) → TakesField integer left (Some (field, rest)) → (z : ℤ) × (integer_read (is_narrow false) (left_of (option_copied left)) ≡ Ok (z, left_of (option_copied rest)))
unfolding integer_read
integer_found left field rest h = let n = taken_number integer left field rest h in (n.0, taken_passes integer (is_narrow false) left field rest n.0 h n.1 refl)

pub integer_missing : (left : Option (Bor Bytes)) → TakesField integer left None → integer_read (is_narrow false) (left_of (option_copied left)) ≡ Err (left_of (option_copied left))
unfolding integer_read
integer_missing left h = none_taken integer (is_narrow false) left h

pub integer_spelled_found : (left : Option (Bor Bytes)) (field : Bor Bytes) (rest : Option (Bor Bytes)) → TakesField integer left (Some (field, rest)) → (z : ℤ) × (integer field.now ≡ Some z) × (integer_read (is_narrow false) (left_of (option_copied left)) ≡ Ok (z, left_of (option_copied rest)))
unfolding integer_read
integer_spelled_found left field rest h = let n = taken_number integer left field rest h in (n.0, n.1, taken_passes integer (is_narrow false) left field rest n.0 h n.1 refl)

pub positive_spelled_found : (left : Option (Bor Bytes)) (field : Bor Bytes) (rest : Option (Bor Bytes)) → TakesField positive left (Some (field, rest)) → (z : ℤ) × (integer field.now ≡ Some z) × (integer_read (is_positive false) (left_of (option_copied left)) ≡ Ok (z, left_of (option_copied rest)))
unfolding integer_read
positive_spelled_found left field rest h = let n = taken_number positive left field rest h in (n.0, (only_some (λ y. int_le (pos 1) y) (integer field.now) n.0 n.1).0, taken_reads positive left field rest n.0 h n.1)

-- a number of at least 1 has no sign
unsigned : (f : Bytes) (z : ℤ) → positive f ≡ Some z → (n : ℕ) × (natural f ≡ Some n) × (nat_le 1 n ≡ true)
unsigned f z e = without z (only_some (λ y. int_le (pos 1) y) (integer f) z e)
  where
    without : (z : ℤ) → (integer f ≡ Some z) × (int_le (pos 1) z ≡ true) → (n : ℕ) × (natural f ≡ Some n) × (nat_le 1 n ≡ true)
    without (pos n) h = (n, integer_above f n h.0, h.1)
    without (negsuc n) h = absurd (let t = h.1 in cc)

pub count_found : (left : Option (Bor Bytes)) (field : Bor Bytes) (rest : Option (Bor Bytes)) → TakesField positive left (Some (field, rest)) → (n : ℕ) × (natural_read (is_count false) (left_of (option_copied left)) ≡ Ok (n, left_of (option_copied rest)))
unfolding natural_read
count_found left field rest h =
    let z = taken_number positive left field rest h in
    let n = unsigned field.now z.0 z.1 in
    (n.0, taken_passes natural (is_count false) left field rest n.0 (ap is_some n.1, h.1) n.1 n.2)

no_count_step : (o : Option ℕ) (p : Option ℤ) → is_some o ≡ is_some p → p ≡ None → o ≡ None
no_count_step None p e n = refl
no_count_step (Some x) p e n = absurd (let k : true ≡ false = e ∙ ap is_some n in cc)

no_count : (fs : List Bytes) → one_read positive fs ≡ Err fs → one_read (λ f. only_if (is_count false) (natural f)) fs ≡ Err fs
unfolding one_read
no_count [] h = refl
no_count (f ∷ fs) h =
    let p = refused_is (positive f) f fs h in
    let n : only_if (nat_le 1) (natural f) ≡ None = no_count_step (only_if (nat_le 1) (natural f)) (positive f) (positive_natural f) p in
    rw n refl

pub count_missing : (left : Option (Bor Bytes)) → TakesField positive left None → natural_read (is_count false) (left_of (option_copied left)) ≡ Err (left_of (option_copied left))
unfolding natural_read
count_missing left h = no_count (left_of (option_copied left)) h

-- ---- a scale

zero_level : (refuting : Bool) (n : ℕ) → n ≡ 0 → is_scale false refuting (pos n) ≡ true
zero_level true n e = rw e refl
zero_level false n e = rw e refl

free_level : (n : ℕ) → is_scale false false (pos n) ≡ true
free_level n = rw (le-leb 0 n (omega arith)) refl

not_level : (n : ℕ) → n ≢ 0 → is_scale false true (pos n) ≡ false
not_level zero e = absurd (e refl)
not_level (suc n) e = let k : nat_le (suc n) 0 ≡ false = lt-leb (suc n) 0 (omega arith) in rw (le-leb 0 (suc n) (omega arith), k) refl

-- zero has one spelling
zero_field : (f : Bytes) (n : ℕ) → natural f ≡ Some n → f ≡ codes "0" → n ≡ 0
unfolding natural
zero_field f n e s = some_same n 0 (sym e ∙ ap natural s)

not_zero_field : (f : Bytes) (n : ℕ) → natural f ≡ Some n → f ≢ codes "0" → n ≢ 0
unfolding decimal digits
not_zero_field f n e s z = s (natural_spelled f n e ∙ ap decimal z)

-- the scale of a tree that refutes is 0
pub zero_scale_found : (refuting : Bool) (left : Option (Bor Bytes)) (field : Bor Bytes) (rest : Option (Bor Bytes)) → TakesField natural left (Some (field, rest)) → field.now ≡ codes "0" → (z : ℤ) × (integer_read (is_scale false refuting) (left_of (option_copied left)) ≡ Ok (z, left_of (option_copied rest)))
zero_scale_found refuting left field rest h o = let n = taken_number natural left field rest h in (pos n.0, above_passes (is_scale false refuting) left field rest n.0 h n.1 (zero_level refuting n.0 (zero_field field.now n.0 n.1 o)))

pub scale_found : (left : Option (Bor Bytes)) (field : Bor Bytes) (rest : Option (Bor Bytes)) → TakesField natural left (Some (field, rest)) → (z : ℤ) × (integer_read (is_scale false false) (left_of (option_copied left)) ≡ Ok (z, left_of (option_copied rest)))
scale_found left field rest h = let n = taken_number natural left field rest h in (pos n.0, above_passes (is_scale false false) left field rest n.0 h n.1 (free_level n.0))

pub scale_refused : (left : Option (Bor Bytes)) (field : Bor Bytes) (rest : Option (Bor Bytes)) → TakesField natural left (Some (field, rest)) → field.now ≢ codes "0" → integer_read (is_scale false true) (left_of (option_copied left)) ≡ Err (left_of (option_copied left))
scale_refused left field rest h other = let n = taken_number natural left field rest h in above_fails (is_scale false true) left field rest n.0 h n.1 (not_level n.0 (not_zero_field field.now n.0 n.1 other))

pub scale_missing : (refuting : Bool) (left : Option (Bor Bytes)) → TakesField natural left None → integer_read (is_scale false refuting) (left_of (option_copied left)) ≡ Err (left_of (option_copied left))
scale_missing refuting left h = none_above (is_scale false refuting) left (λ n. refl) h

-- ---- how many fields a line has

onto_fits : (b : ℕ) (ps : List Bytes) (n : ℕ) → length ps ≤ suc n → length (onto b ps) ≤ suc (suc n)
onto_fits b [] n h = omega arith
onto_fits b (p ∷ ps) n h = omega arith

fields_fit_step : (b : ℕ) (bytes : Bytes) → length (fields_of bytes) ≤ suc (length bytes) → (t : Bool) → (b == 32) ≡ t → length (fields_of (b ∷ bytes)) ≤ suc (length (b ∷ bytes))
unfolding fields_of
fields_fit_step b bytes h true t = rw t (omega arith)
fields_fit_step b bytes h false t = rw t (onto_fits b (fields_of bytes) (length bytes) h)

-- a line has at most one field more than it has bytes
pub fields_fit : (bytes : Bytes) → length (fields_of bytes) ≤ suc (length bytes)
fields_fit [] = unfold fields_of in omega arith
fields_fit (b ∷ bytes) = fields_fit_step b bytes (fields_fit bytes) (b == 32) refl

-- ---- pairs that a loop reads

-- a slot and its multiplier were taken from the front
pub record PairTaken (fs : List Bytes) (slot : Bor Bytes) (left : List Bytes) : Type 0 where
  pub pair : ℕ × ℤ
  pub spelled : natural slot.now ≡ Some pair.0
  pub read : multipliers false fs ≡ and_more (Some pair) (multipliers false left)
  pub shorter : length left < length fs

pub pair_taken : (line slot field : Bor Bytes) (after later : Option (Bor Bytes)) → TakesField natural (Some line) (Some (slot, after)) → TakesField positive after (Some (field, later)) → PairTaken (fields_of line.now) slot (left_of (option_copied later))
pair_taken line slot field after later h g =
    let n = index_found (Some line) slot after h in
    let z = positive_found after field later g in
    record {
      pair = (n.0, z.0);
      spelled = n.1;
      read = pair_read false (fields_of line.now) (left_of (option_copied after)) (left_of (option_copied later)) n.0 z.0 n.2 z.1;
      shorter = pair_shorter false (fields_of line.now) (left_of (option_copied after)) (left_of (option_copied later)) n.0 z.0 n.2 z.1;
    }

-- What was read, in front, ascends up to the least slot that may follow. So many fields are left, and no more were read than the whole has.
pub record PairsSoFar (whole now : Option Multipliers) (pairs : ℕ) (last : Option (Bor Bytes)) (left all : ℕ) : Type 0 where
  pub front : Multipliers
  pub least : ℕ
  pub so_far : with_front front now ≡ whole
  pub count : length front ≡ pairs
  pub floor : IsFloor last least
  pub rises : (ts : Multipliers) → ascend (front ++ ts) ≡ ascend_from least ts
  pub room : pairs + left ≤ all

pub pairs_begin : (whole : Option Multipliers) (all : ℕ) → PairsSoFar whole whole 0 None all all
pairs_begin whole all = record { front = []; least = 0; so_far = list_begins [] whole refl; count = refl; floor = refl; rises = λ ts. refl; room = omega arith }

no_pairs : (n : ℕ) (fs : List Bytes) → multipliers false fs ≡ None → false ≡ is_some (counted false n fs)
no_pairs n fs e = ap is_some (counted_not false n fs (sym e))

module _ (fs : List Bytes) (now : Option Multipliers) (pairs : ℕ) (last : Option (Bor Bytes)) (left all : ℕ) (before : PairsSoFar (multipliers false fs) now pairs last left all) where
  -- no pair follows
  pub pairs_stop : now ≡ None → (n : ℕ) → false ≡ is_some (counted false n fs)
  pairs_stop e n = no_pairs n fs (sym before.so_far ∙ ap (with_front before.front) e)

  -- a pair follows whose slot is too small
  falls_with : (x : ℕ × ℤ) (o : Option Multipliers) → nat_le before.least x.0 ≡ false → with_front before.front (and_more (Some x) o) ≡ multipliers false fs → (n : ℕ) → false ≡ is_some (counted false n fs)
  falls_with x None low e n = no_pairs n fs (sym e)
  falls_with x (Some ts) low e n = falls (length (before.front ++ x ∷ ts) == n) refl
    where
      down : ascend (before.front ++ x ∷ ts) ≡ false
      down = before.rises (x ∷ ts) ∙ rw low refl

      falls : (b : Bool) → (length (before.front ++ x ∷ ts) == n) ≡ b → false ≡ is_some (counted false n fs)
      falls true t = ap is_some (counted_falls false n fs (before.front ++ x ∷ ts) e (eqb-true _ n t) down)
      falls false t = ap is_some (counted_short false n fs (before.front ++ x ∷ ts) e (eqb-false _ n t))

  pub pairs_fall : (x : ℕ × ℤ) (later : Option Multipliers) → nat_le before.least x.0 ≡ false → now ≡ and_more (Some x) later → (n : ℕ) → false ≡ is_some (counted false n fs)
  pairs_fall x later low e n = falls_with x later low (ap (with_front before.front) (sym e) ∙ before.so_far) n

  -- a pair follows
  pub pairs_on : (x : ℕ × ℤ) (slot : Bor Bytes) (later : Option Multipliers) (few : ℕ) → natural slot.now ≡ Some x.0 → nat_le before.least x.0 ≡ true → now ≡ and_more (Some x) later → few < left
      → PairsSoFar (multipliers false fs) later (pairs + 1) (Some slot) few all
  pairs_on x slot later few s le e lt = record {
    front = before.front ++ x ∷ [];
    least = x.0 + 1;
    so_far = list_on before.front x now later (multipliers false fs) e before.so_far;
    count = let c = before.count in omega (arith, length-append before.front (x ∷ []), c);
    floor = (x.0, s, refl);
    rises = λ ts. ap ascend (append_assoc before.front (x ∷ []) ts) ∙ before.rises (x ∷ ts) ∙ rw le refl;
    room = let r = before.room in omega arith;
  }

  -- nothing follows
  pub pairs_end : now ≡ Some [] → Some before.front ≡ multipliers false fs
  pairs_end e = list_ends before.front now (multipliers false fs) e before.so_far

  pub pairs_ascend : ascend before.front ≡ true
  pairs_ascend = ap ascend (sym (append-nil before.front)) ∙ before.rises []

  -- the count is right, or it isn't
  pub pairs_counted : now ≡ Some [] → (n : ℕ) (r : Bool) → r ≡ (n == pairs) → r ≡ is_some (counted false n fs)
  pairs_counted e n true t =
      let c = before.count in
      let k = eqb-true n pairs (sym t) in
      ap is_some (counted_ok false n fs before.front (pairs_end e) (c ∙ sym k) pairs_ascend)
  pairs_counted e n false t =
      let c = before.count in
      let k = eqb-false n pairs (sym t) in
      ap is_some (counted_short false n fs before.front (pairs_end e) (λ l. k (sym l ∙ c)))

  -- the count is greater than any number of pairs
  pub pairs_few : now ≡ Some [] → (n : ℕ) → pairs < n → false ≡ is_some (counted false n fs)
  pairs_few e n lt =
      let c = before.count in
      ap is_some (counted_short false n fs before.front (pairs_end e) (λ l. omega (arith, l, c)))

pub narrow_same : (o : Option ℕ) (m n : ℕ) → Some m ≡ narrow o → o ≡ Some n → m ≡ n
narrow_same o m n e k = some_same m n (sym (only_some (λ z. nat_lt z (2 ^ 127)) o m (sym e)).0 ∙ k)

pub narrow_above : (o : Option ℕ) (n : ℕ) → None ≡ narrow o → o ≡ Some n → 2 ^ 127 ≤ n
narrow_above o n e k = above (cases_lt n (2 ^ 127))
  where
    above : (n < 2 ^ 127) ⊎ (2 ^ 127 ≤ n) → 2 ^ 127 ≤ n
    above (inl lt) = absurd (let t : None ≡ Some n = e ∙ only_again (λ z. nat_lt z (2 ^ 127)) o n k (lt-ltb n (2 ^ 127) lt) in cc)
    above (inr le) = le
