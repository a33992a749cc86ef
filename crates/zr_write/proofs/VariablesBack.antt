-- The values of names, numbers, lists and variables are read as these.
use Rattle.std.proofs.Common.{◌≡◌, ◌≢◌, ℕ, suc, ◌+◌, ◌<◌, ◌≤◌, ℤ, pos, negsuc, List, [], ◌∷◌, ◌++◌, length, map, get_or, refl, sym, ap, subst, ◌∙◌, Ok, Option, Some, None, Bool, true, false, arith, bytes_eq, codes, append-nil, length-append}
use Rattle.std.specs.Prelude.{int_le, ◌≤ℤ◌, neg_ℤ, decimal, nat_lt, nat_le, ◌==◌}
use Rattle.std.specs.List.{All, position_or_len}
use Rattle.std.specs.Option.{ForSome}
use Rattle.std.specs.Ordering.{int_eq}
use Rattle.std.proofs.lemmas.Int.{ints}
use Rattle.std.proofs.lemmas.Bool.Decides.{nat_tests, Decides-int_eq}
use Rattle.std.proofs.lemmas.Slice.Eq.{bytes_eq-Decides}
use Rattle.std.proofs.lemmas.List.Folds.{list_any_none}
use Rattle.std.proofs.lemmas.List.Sums.{position_or_len_is}
use Rattle.std.proofs.lemmas.List.{get_or_append_left, length-map, map-append}
use Rattle.std.proofs.Math.Seq.{get_or-append_seam}
use mathlib.Core.List.{append_assoc}
use Rattle.serde_json.specs.Data.{Data, boolean, string}
use Rattle.serde_json.specs.Find.{at, get}
use Rattle.serde_json.proofs.OnLiterals.{serde_json_on_literals}
use Rattle.zr_game.specs.Players.{Name, VarOf}
use Rattle.zr_game.specs.Forms.{number_limit, IsNumber, IsVarForm}
use Rattle.zr_source.specs.Names.{AreNames, is_name, var_name}
use Rattle.zr_value.specs.Faults.{Read, ◌>>=◌, under}
use Rattle.zr_value.specs.Values.{within, whole_in, number_in, truth_in, needed, optional, part, items_in, listed, each}
use Rattle.zr_value.specs.Names.{new_name_in, known_in}
use Rattle.zr_value.proofs.Items.{listed_back}
use Rattle.zr_value.specs.declared.format.GameFormat.{GameFormat}
use Rattle.zr_value.specs.declared.format.GameFormat.TheVariants.{First, Second}
use Rattle.zr_value.specs.Formats.{since_second}
use Rattle.zr_value.specs.Variables.{bound_in, low_in, least_up, variable_named, variable_in, add_variable, variables_in}
use Rattle.zr_read.proofs.Naming.{IsNewName}
use Rattle.zr_write.specs.Canonical.{whole_data, list_data, low_data, parts_data, name_at, variable_data}

-- ---- steps

pub then_back : {A B : Type 0} (r : Read A) (x : A) (f : A → Read B) (y : Read B) → r ≡ Ok x
    → f x ≡ y → (r >>= f) ≡ y
then_back r x f y e g = rw e g

pub needed_back : {A : Type 0} (name : List ℕ) (read : Data → Read A) (d e : Data) (x : A)
    → get name d ≡ Some e → read e ≡ Ok x → needed name read d ≡ Ok x
needed_back name read d e x g h = rw g (rw h refl)

pub optional_back : {A : Type 0} (name : List ℕ) (missing : A) (read : Data → Read A) (d e : Data)
    (x : A) → get name d ≡ Some e → read e ≡ Ok x → optional name missing read d ≡ Ok x
optional_back name missing read d e x g h = rw g (rw h refl)

pub missing_back : {A : Type 0} (name : List ℕ) (missing : A) (read : Data → Read A) (d : Data)
    → get name d ≡ None → optional name missing read d ≡ Ok missing
missing_back name missing read d g = rw g refl

pub part_back : {A : Type 0} (k : ℕ) (read : Data → Read A) (d e : Data) (x : A)
    → at k d ≡ Some e → read e ≡ Ok x → part k read d ≡ Ok x
part_back k read d e x g h = rw g (rw h refl)

-- a member that the first format has not
pub since_missing : {A : Type 0} (f : GameFormat) (name : List ℕ) (missing : A)
    (read : Data → Read A) (d : Data) → get name d ≡ None
    → since_second f name missing read d ≡ Ok missing
since_missing First name missing read d g = refl
since_missing Second name missing read d g = missing_back name missing read d g

-- ---- tests

pub bytes_eq_false : (s t : Name) → s ≢ t → bytes_eq s t ≡ false
bytes_eq_false s t h = by (bytes_eq s t) refl
  where
    by : (b : Bool) → bytes_eq s t ≡ b → b ≡ false
    by true e = absurd (h ((bytes_eq-Decides s t).0 e))
    by false e = refl

ltb_is : (m n : ℕ) → m < n → nat_lt m n ≡ true
ltb_is m n h = grind (arith, nat_tests)

pub eqb_false : (m n : ℕ) → (m ≢ n) → (m == n) ≡ false
eqb_false m n h = grind (arith, nat_tests)

pub leb_is : (m n : ℕ) → m ≤ n → nat_le m n ≡ true
leb_is m n h = grind (arith, nat_tests)

le_true : (a b : ℤ) → a ≤ℤ b → int_le a b ≡ true
le_true a b h = by (int_le a b) refl
  where
    by : (t : Bool) → int_le a b ≡ t → t ≡ true
    by true e = refl
    by false e = absurd (omega (arith, ints))

pub not_zero : (z : ℤ) → z ≢ pos 0 → int_eq z (pos 0) ≡ false
not_zero z h = by (int_eq z (pos 0)) (Decides-int_eq z (pos 0)).0
  where
    by : (b : Bool) → (b ≡ true → z ≡ pos 0) → b ≡ false
    by true is = absurd (h (is refl))
    by false is = refl

-- ---- numbers

within_back : (low z : ℤ) → low ≤ℤ z → z ≤ℤ number_limit → within low z ≡ Ok z
within_back low z l h = rw (le_true low z l) (rw (le_true z number_limit h) refl)

pub whole_back : (low z : ℤ) → low ≤ℤ z → z ≤ℤ number_limit → whole_in low (whole_data z) ≡ Ok z
whole_back low (pos n) l h = within_back low (pos n) l h
whole_back low (negsuc n) l h = within_back low (negsuc n) l h

pub number_back : (z : ℤ) → IsNumber z → number_in (whole_data z) ≡ Ok z
number_back z n = whole_back (neg_ℤ number_limit) z n.0 n.1

-- ---- names

pub new_name_back : (before : List Name) (s : Name) → IsNewName before s
    → new_name_in before (string s) ≡ Ok s
new_name_back before s h = rw (h.0) (rw (h.1) refl)

-- among names by the rule each is new after those before it
pub new_in_row : (before : List Name) (s : Name) (rest : List Name)
    → AreNames (before ++ s ∷ rest) → IsNewName before s
new_in_row before s rest are = (rule, list_any_none (bytes_eq s) before other)
  where
    within_row : length before < length (before ++ s ∷ rest)
    within_row =
        let e : length (before ++ s ∷ rest) ≡ length before + length (s ∷ rest)
        = simp length-append in omega (arith, e)

    rule : is_name s ≡ true
    rule = subst (λ x. is_name x ≡ true) (get_or-append_seam before s rest s)
        (are.rule (length before) s within_row)

    other : All (λ x. bytes_eq s x ≡ false) before
    other k d below = bytes_eq_false s (get_or before k d)
        (λ same. are.differ k (length before) d below within_row
        (get_or_append_left before (s ∷ rest) d k below ∙ sym same
        ∙ sym (get_or-append_seam before s rest d)))

-- a name by its number
pub known_back : (names : List Name) (v : ℕ) → AreNames names → v < length names
    → known_in names (string (name_at names v)) ≡ Ok v
known_back names v are below =
    let other : (k : ℕ) → k < v → bytes_eq (name_at names v) (name_at names k) ≡ false
    = λ k less. bytes_eq_false (name_at names v) (name_at names k)
    (λ same. are.differ k v [] less below (sym same)) in
    let own : bytes_eq (name_at names v) (name_at names v) ≡ true
    = (bytes_eq-Decides (name_at names v) (name_at names v)).1 refl in
    let first : position_or_len (bytes_eq (name_at names v)) names ≡ v
    = position_or_len_is (bytes_eq (name_at names v)) names v [] (omega (arith, below)) other
    (λ _. own) in
    rw (are.rule v [] below) (rw first (rw (ltb_is v (length names) below) refl))

-- ---- lists

pub items_back : (ds : List Data) → items_in (parts_data ds) ≡ Ok ds
items_back ds = ap Ok (listed_back ds)

pub count_back : (least most : ℕ) (ds : List Data) → least ≤ length ds → length ds ≤ most
    → listed least most (parts_data ds) ≡ Ok ds
count_back least most ds l m =
    rw (listed_back ds) (rw (leb_is least (length ds) l) (rw (leb_is (length ds) most m) refl))

pub listed_data_back : {A : Type 0} (least most : ℕ) (data_of : A → Data) (xs : List A)
    → least ≤ length xs → length xs ≤ most
    → listed least most (list_data data_of xs) ≡ Ok (map data_of xs)
listed_data_back least most data_of xs l m =
    let e = length-map xs data_of in
    count_back least most (map data_of xs) (omega (arith, e, l)) (omega (arith, e, m))

-- each item fits after what was made of those before it
abbrev pub FitsAfter : {A B : Type 0} → (A → B) → (List B → A → Type 0) → List B → List A → Type 0
FitsAfter make Fits before [] = Unit {0}
FitsAfter make Fits before (x ∷ xs) = Fits before x × FitsAfter make Fits (before ++ make x ∷ []) xs

-- where each item adds what is made of it
pub each_back : {A B D : Type 0} (make : A → B) (Fits : List B → A → Type 0)
    (add : List B → D → Read (List B)) (data_of : A → D)
    → ((before : List B) (x : A) → Fits before x
    → add before (data_of x) ≡ Ok (before ++ make x ∷ []))
    → (i : ℕ) (before : List B) (xs : List A) → FitsAfter make Fits before xs
    → each add i before (map data_of xs) ≡ Ok (before ++ map make xs)
each_back make Fits add data_of reads i before [] h = ap Ok (sym (append-nil before))
each_back make Fits add data_of reads i before (x ∷ xs) h =
    let e : under (decimal i) (add before (data_of x)) ≡ Ok (before ++ make x ∷ [])
    = rw (reads before x h.0) refl in
    then_back (under (decimal i) (add before (data_of x))) (before ++ make x ∷ [])
    (λ more. each add (i + 1) more (map data_of xs)) (Ok (before ++ make x ∷ map make xs)) e
    (each_back make Fits add data_of reads (i + 1) (before ++ make x ∷ []) xs h.1
    ∙ ap Ok (append_assoc before (make x ∷ []) (map make xs)))

pub map-itself : {A : Type 0} (xs : List A) → map (λ x. x) xs ≡ xs
map-itself [] = refl
map-itself (x ∷ xs) = ap (λ rest. x ∷ rest) (map-itself xs)

-- what holds of each item, whatever stands before
pub fits_always : {A B : Type 0} (make : A → B) (P : A → Type 0) (before : List B) (xs : List A)
    → All P xs → FitsAfter make (λ _ x. P x) before xs
fits_always make P before [] all = tt
fits_always make P before (x ∷ xs) all = (
  all 0 x (omega arith),
  fits_always make P (before ++ make x ∷ []) xs (λ k d below. all (suc k) d (omega (arith, below))),
)

-- where each item adds itself
pub all_back : {A D : Type 0} (P : A → Type 0) (add : List A → D → Read (List A)) (data_of : A → D)
    → ((before : List A) (x : A) → P x → add before (data_of x) ≡ Ok (before ++ x ∷ []))
    → (xs : List A) → All P xs → each add 0 [] (map data_of xs) ≡ Ok xs
all_back P add data_of reads xs all =
    each_back (λ x. x) (λ _ x. P x) add data_of reads 0 [] xs (fits_always (λ x. x) P [] xs all)
    ∙ ap Ok (map-itself xs)

-- ---- variables

abbrev pub format_of : Bool → GameFormat
format_of false = First
format_of true = Second

-- a variable by the rules; the first format has those from 0 on alone
pub record IsVar (lows : Bool) (v : VarOf) : Type 0 where
  pub form : IsVarForm v
  pub low : lows ≡ false → v.low ≡ Some (pos 0)

name_there : (lows : Bool) (v : VarOf)
    → get (codes "name") (variable_data lows v) ≡ Some (string v.name)
unfolding serde_json_on_literals
name_there false v = refl
name_there true v = refl

int_there : (lows : Bool) (v : VarOf)
    → get (codes "int") (variable_data lows v) ≡ Some (boolean v.whole)
unfolding serde_json_on_literals
int_there false v = refl
int_there true v = refl

low_there : (v : VarOf) → get (codes "low") (variable_data true v) ≡ Some (low_data v.low)
unfolding serde_json_on_literals
low_there v = refl

low_data_back : (o : Option ℤ) → ForSome o IsNumber → low_in (low_data o) ≡ Ok o
low_data_back None n = refl
low_data_back (Some (pos z)) n = rw (number_back (pos z) (n (pos z) refl)) refl
low_data_back (Some (negsuc z)) n = rw (number_back (negsuc z) (n (negsuc z) refl)) refl

low_back : (lows : Bool) (v : VarOf) → IsVar lows v
    → since_second (format_of lows) (codes "low") (Some (pos 0)) low_in (variable_data lows v)
    ≡ Ok v.low
low_back false v is = ap Ok (sym (is.low refl))
low_back true v is =
    optional_back (codes "low") (Some (pos 0)) low_in (variable_data true v) (low_data v.low) v.low
    (low_there v) (low_data_back v.low is.form.low)

up_none : (lows b : Bool) (s : Name) (low : Option ℤ)
    → get (codes "up") (variable_data lows (record { name = s; whole = b; low = low; up = None }))
    ≡ None
unfolding serde_json_on_literals
up_none false b s low = refl
up_none true b s low = refl

up_there : (lows b : Bool) (s : Name) (low : Option ℤ) (z : ℤ)
    → get (codes "up") (variable_data lows (record { name = s; whole = b; low = low; up = Some z }))
    ≡ Some (whole_data z)
unfolding serde_json_on_literals
up_there false b s low z = refl
up_there true b s low z = refl

least_below : (low : Option ℤ) (z : ℤ) → IsNumber z → ForSome low (λ l. l ≤ℤ z)
    → least_up low ≤ℤ z
least_below None z n o = n.0
least_below (Some l) z n o = o l refl

up_back : (lows b : Bool) (s : Name) (low o : Option ℤ)
    → ForSome o (λ z. (least_up low ≤ℤ z) × (z ≤ℤ number_limit))
    → optional (codes "up") None (bound_in (least_up low))
    (variable_data lows (record { name = s; whole = b; low = low; up = o })) ≡ Ok o
up_back lows b s low None h =
    missing_back (codes "up") None (bound_in (least_up low))
    (variable_data lows (record { name = s; whole = b; low = low; up = None }))
    (up_none lows b s low)
up_back lows b s low (Some z) h =
    optional_back (codes "up") None (bound_in (least_up low))
    (variable_data lows (record { name = s; whole = b; low = low; up = Some z })) (whole_data z)
    (Some z) (up_there lows b s low z)
    (rw (whole_back (least_up low) z (h z refl).0 (h z refl).1) refl)

variable_back : (lows : Bool) (before : List Name) (v : VarOf) → IsNewName before v.name
    → IsVar lows v → variable_in (format_of lows) before (variable_data lows v) ≡ Ok v
variable_back lows before v new is =
    let d = variable_data lows v in
    let up : ForSome v.up (λ z. (least_up v.low ≤ℤ z) × (z ≤ℤ number_limit))
    = λ z e. (
      least_below v.low z (is.form.up z e) (λ l at. is.form.ordered l at z e),
      (is.form.up z e).1,
    ) in
    then_back (needed (codes "name") (new_name_in before) d) v.name
    (λ name. variable_named (format_of lows) name d) (Ok v)
    (needed_back (codes "name") (new_name_in before) d (string v.name) v.name (name_there lows v)
    (new_name_back before v.name new))
    (then_back (optional (codes "int") false truth_in d) v.whole
    (λ whole. since_second (format_of lows) (codes "low") (Some (pos 0)) low_in d >>= λ low.
    optional (codes "up") None (bound_in (least_up low)) d >>= λ up.
    Ok (record { name = v.name; whole = whole; low = low; up = up })) (Ok v)
    (optional_back (codes "int") false truth_in d (boolean v.whole) v.whole (int_there lows v) refl)
    (then_back (since_second (format_of lows) (codes "low") (Some (pos 0)) low_in d) v.low
    (λ low. optional (codes "up") None (bound_in (least_up low)) d >>= λ up.
    Ok (record { name = v.name; whole = v.whole; low = low; up = up })) (Ok v)
    (low_back lows v is)
    (then_back (optional (codes "up") None (bound_in (least_up v.low)) d) v.up
    (λ up. Ok (record { name = v.name; whole = v.whole; low = v.low; up = up })) (Ok v)
    (up_back lows v.whole v.name v.low v.up up) refl)))

-- a variable with a property that may stand after these
abbrev pub IsNewVar : (VarOf → Type 0) → List VarOf → VarOf → Type 0
IsNewVar P before v = IsNewName (map var_name before) v.name × P v

pub variables_fit : (P : VarOf → Type 0) (before vs : List VarOf) → All P vs
    → AreNames (map var_name (before ++ vs)) → FitsAfter (λ v. v) (IsNewVar P) before vs
variables_fit P before [] forms names = tt
variables_fit P before (v ∷ vs) forms names = (
  (
    new_in_row (map var_name before) v.name (map var_name vs)
        (subst AreNames (map-append var_name before (v ∷ vs)) names),
    forms 0 v (omega arith),
  ),
  variables_fit P (before ++ v ∷ []) vs (λ k d below. forms (suc k) d (omega (arith, below)))
      (subst (λ ws. AreNames (map var_name ws)) (sym (append_assoc before (v ∷ []) vs)) names),
)

-- the variables of a leader
pub variables_back : (lows : Bool) (vs : List VarOf) → 1 ≤ length vs → length vs ≤ 64
    → All (IsVar lows) vs → AreNames (map var_name vs)
    → variables_in (format_of lows) (list_data (variable_data lows) vs) ≡ Ok vs
variables_back lows vs l m forms names =
    then_back (listed 1 64 (list_data (variable_data lows) vs)) (map (variable_data lows) vs)
    (λ ds. each (add_variable (format_of lows)) 0 [] ds) (Ok vs)
    (listed_data_back 1 64 (variable_data lows) vs l m)
    (each_back (λ v. v) (IsNewVar (IsVar lows)) (add_variable (format_of lows)) (variable_data lows)
    (λ before v fits. then_back
    (variable_in (format_of lows) (map var_name before) (variable_data lows v)) v
    (λ v. Ok (before ++ v ∷ [])) (Ok (before ++ v ∷ []))
    (variable_back lows (map var_name before) v fits.0 fits.1) refl) 0 [] vs
    (variables_fit (IsVar lows) [] vs forms names) ∙ ap Ok (map-itself vs))
