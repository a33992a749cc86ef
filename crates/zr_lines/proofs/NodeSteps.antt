-- Steps of the code that reads the line of a node.
use Rattle.std.proofs.Common.{◌≡◌, ◌≢◌, ℕ, ℤ, ◌+◌, ◌<◌, ◌≤◌, Bool, true, false, List, [], ◌∷◌, ◌++◌, length, get_or, drop, Option, Some, None, Ok, Err, sym, refl, ap, ◌∙◌, append_assoc, arith}
use Rattle.std.specs.Prelude.{option_map, nat_le}
use Rattle.std.proofs.lemmas.Bool.{eq-eqb, ne_eqb, le-leb, lt-leb}
use Rattle.std.proofs.lemmas.List.{append-nil, drop_more, drop_all}
use Rattle.zr_tree.specs.Nodes.{Multipliers}
use Rattle.zr_form.specs.Bounds.{is_index, is_positive}
use Rattle.zr_form.specs.Fields.{and_more, integer_read, natural_read, only_if}
use Rattle.zr_form.specs.Code.{left_of}
use Rattle.zr_form.specs.Lines.{fields_of, split_once}
use Rattle.zr_form.specs.Numbers.{integer, natural}
use Rattle.zr_form.specs.Reading.{Bytes}
use Rattle.zr_form.proofs.Lines.{first_field}
use Rattle.zr_lines.specs.Fits.{ascend, ascend_from}
use Rattle.zr_lines.specs.Reader.{counted, multipliers}
use Rattle.zr_lines.proofs.OtherTests.{integer_front, integer_missing, natural_front, natural_missing}

-- ---- slots and multipliers

two : (strict : Bool) (f g : Bytes) (hs : List Bytes) (slot : ℕ) (by : ℤ) → only_if (is_index strict) (natural f) ≡ Some slot → only_if (is_positive strict) (integer g) ≡ Some by → multipliers strict (f ∷ g ∷ hs) ≡ and_more (Some (slot, by)) (multipliers strict hs)
unfolding multipliers
two strict f g hs slot by e h = rw (e, h) refl

pub pair_read : (strict : Bool) (fs gs hs : List Bytes) (slot : ℕ) (by : ℤ) → natural_read (is_index strict) fs ≡ Ok (slot, gs) → integer_read (is_positive strict) gs ≡ Ok (by, hs) → multipliers strict fs ≡ and_more (Some (slot, by)) (multipliers strict hs)
pair_read strict fs gs hs slot by e h =
    let a = natural_front (is_index strict) fs gs slot e in
    let b = integer_front (is_positive strict) gs hs by h in
    ap (multipliers strict) (a.1 ∙ ap (λ (z : List Bytes). a.0 ∷ z) b.1) ∙ two strict a.0 b.0 hs slot by a.2 b.2

no_slot : (strict : Bool) (f : Bytes) (fs : List Bytes) → only_if (is_index strict) (natural f) ≡ None → multipliers strict (f ∷ fs) ≡ None
unfolding multipliers
no_slot strict f [] e = refl
no_slot strict f (g ∷ hs) e = rw e refl

pub pair_no_slot : (strict : Bool) (line : Bytes) (gs : List Bytes) → natural_read (is_index strict) (fields_of line) ≡ Err gs → multipliers strict (fields_of line) ≡ None
pair_no_slot strict line gs e =
    let fs = left_of (split_once 32 line).1 in
    let f = (split_once 32 line).0 in
    let h : natural_read (is_index strict) (f ∷ fs) ≡ Err gs = ap (natural_read (is_index strict)) (sym (first_field line)) ∙ e in
    ap (multipliers strict) (first_field line) ∙ no_slot strict f fs (natural_missing (is_index strict) f fs gs h)

no_by : (strict : Bool) (f : Bytes) (gs hs : List Bytes) (slot : ℕ) → only_if (is_index strict) (natural f) ≡ Some slot → integer_read (is_positive strict) gs ≡ Err hs → multipliers strict (f ∷ gs) ≡ None
unfolding multipliers
no_by strict f [] hs slot e h = refl
no_by strict f (g ∷ gs) hs slot e h = rw (e, integer_missing (is_positive strict) g gs hs h) refl

pub pair_no_by : (strict : Bool) (fs gs hs : List Bytes) (slot : ℕ) → natural_read (is_index strict) fs ≡ Ok (slot, gs) → integer_read (is_positive strict) gs ≡ Err hs → multipliers strict fs ≡ None
pair_no_by strict fs gs hs slot e h =
    let a = natural_front (is_index strict) fs gs slot e in
    ap (multipliers strict) a.1 ∙ no_by strict a.0 gs hs slot a.2 h

pub pair_shorter : (strict : Bool) (fs gs hs : List Bytes) (slot : ℕ) (by : ℤ) → natural_read (is_index strict) fs ≡ Ok (slot, gs) → integer_read (is_positive strict) gs ≡ Ok (by, hs) → length hs < length fs
pair_shorter strict fs gs hs slot by e h =
    let a = natural_front (is_index strict) fs gs slot e in
    let b = integer_front (is_positive strict) gs hs by h in
    omega (arith, ap length a.1, ap length b.1)

-- ---- a list that a loop reads to its end

-- what was read before, with what is still read
abbrev pub with_front : {X : Type 0} → List X → Option (List X) → Option (List X)
with_front front o = option_map (λ xs. front ++ xs) o

regroup : {X : Type 0} (front : List X) (x : X) (o : Option (List X)) → with_front (front ++ x ∷ []) o ≡ with_front front (and_more (Some x) o)
regroup front x None = refl
regroup {X = X} front x (Some xs) = ap (λ (z : List X). Some z) (append_assoc front (x ∷ []) xs)

pub list_on : {X : Type 0} (front : List X) (x : X) (now later whole : Option (List X)) → now ≡ and_more (Some x) later → with_front front now ≡ whole → with_front (front ++ x ∷ []) later ≡ whole
list_on front x now later whole e so_far = regroup front x later ∙ ap (with_front front) (sym e) ∙ so_far

pub list_stops : {X : Type 0} (front : List X) (now whole : Option (List X)) → now ≡ None → with_front front now ≡ whole → None ≡ whole
list_stops front now whole e so_far = ap (with_front front) (sym e) ∙ so_far

pub list_ends : {X : Type 0} (front : List X) (now whole : Option (List X)) → now ≡ Some [] → with_front front now ≡ whole → Some front ≡ whole
list_ends {X = X} front now whole e so_far = ap (λ (z : List X). Some z) (sym (append-nil front)) ∙ ap (with_front front) (sym e) ∙ so_far

pub list_begins : {X : Type 0} (front : List X) (whole : Option (List X)) → front ≡ [] → with_front front whole ≡ whole
list_begins front None e = refl
list_begins {X = X} front (Some xs) e = ap (λ (z : List X). Some (z ++ xs)) e

-- ---- as many pairs as the count says

pub counted_not : (strict : Bool) (count : ℕ) (fs : List Bytes) → None ≡ multipliers strict fs → None ≡ counted strict count fs
unfolding counted
counted_not strict count fs e = rw (← e) refl

pub counted_ok : (strict : Bool) (count : ℕ) (fs : List Bytes) (mult : Multipliers) → Some mult ≡ multipliers strict fs → length mult ≡ count → ascend mult ≡ true → Some mult ≡ counted strict count fs
unfolding counted
counted_ok strict count fs mult e l a = rw (← e, eq-eqb (length mult) count l, a) refl

pub counted_short : (strict : Bool) (count : ℕ) (fs : List Bytes) (mult : Multipliers) → Some mult ≡ multipliers strict fs → length mult ≢ count → None ≡ counted strict count fs
unfolding counted
counted_short strict count fs mult e l = rw (← e, ne_eqb (length mult) count l) refl

pub counted_falls : (strict : Bool) (count : ℕ) (fs : List Bytes) (mult : Multipliers) → Some mult ≡ multipliers strict fs → length mult ≡ count → ascend mult ≡ false → None ≡ counted strict count fs
unfolding counted
counted_falls strict count fs mult e l a = rw (← e, eq-eqb (length mult) count l, a) refl

-- ---- slots that ascend

from_step : (least : ℕ) (t : ℕ × ℤ) (ts : Multipliers) → least ≤ t.0 → ascend_from least (t ∷ ts) ≡ ascend_from (t.0 + 1) ts
from_step least t ts le = let k : nat_le least t.0 ≡ true = le-leb least t.0 le in rw k refl

from_stop : (least : ℕ) (t : ℕ × ℤ) (ts : Multipliers) → t.0 < least → ascend_from least (t ∷ ts) ≡ false
from_stop least t ts lt = let k : nat_le least t.0 ≡ false = lt-leb least t.0 lt in rw k refl

pub rise : (least : ℕ) (xs : Multipliers) (i : ℕ) (d : ℕ × ℤ) (total : Bool) → i < length xs → least ≤ (get_or xs i d).0 → ascend_from least (drop i xs) ≡ total → ascend_from ((get_or xs i d).0 + 1) (drop (i + 1) xs) ≡ total
rise least xs i d total inside le so_far = sym (from_step least (get_or xs i d) (drop (i + 1) xs) le) ∙ ap (ascend_from least) (sym (drop_more xs i d inside)) ∙ so_far

pub no_rise : (least : ℕ) (xs : Multipliers) (i : ℕ) (d : ℕ × ℤ) (total : Bool) → i < length xs → (get_or xs i d).0 < least → ascend_from least (drop i xs) ≡ total → false ≡ total
no_rise least xs i d total inside lt so_far = sym (from_stop least (get_or xs i d) (drop (i + 1) xs) lt) ∙ ap (ascend_from least) (sym (drop_more xs i d inside)) ∙ so_far

pub risen : (least : ℕ) (xs : Multipliers) (i : ℕ) (total : Bool) → length xs ≤ i → ascend_from least (drop i xs) ≡ total → true ≡ total
risen least xs i total le so_far = ap (ascend_from least) (sym (drop_all i xs le)) ∙ so_far
