-- What both readings give of things one after the other, of lines, and of items and numbered things in a loop.
use Rattle.std.proofs.Common.{◌≡◌, ℕ, zero, suc, ◌+◌, ◌-◌, ◌<◌, ◌≤◌, Bool, true, false, ◌==◌, List, [], ◌∷◌, ◌++◌, length, Option, Some, None, Result, Ok, Err, sym, refl, ap, ◌∙◌, subst, arith}
use Rattle.std.specs.Prelude.{IsSome, is_some}
use Rattle.std.proofs.lemmas.List.{append-nil, length-append}
use Rattle.zr_form.specs.declared.fault.ReadError.{ReadError}
use Rattle.zr_form.specs.declared.fault.ReadError.TheVariants as errors
use Rattle.zr_form.specs.declared.fault.LineFault.{LineFault}
use Rattle.zr_form.specs.declared.fault.LineFault.TheVariants as faults
use Rattle.zr_form.specs.Reading.{Bytes, Read, ◌>>=◌, join_read, or_stop, one_read, items_read, many_read}
use Rattle.zr_form.specs.Lines.{lines_of, onto, fields_of, by_fields, concat}
use Rattle.zr_form.specs.Stops.{IsBeyond, Stopped, ReadsLine, fault_of, error_at}
use Rattle.zr_form.proofs.Forms.{IsExact, IsForm, none_due, ok_is}
use Rattle.zr_form.proofs.Lines.{Lacks, IsWhole, lines_joined, lines_cut}
use Rattle.zr_form.proofs.Parsing.{with_front, regroup}
use Rattle.zr_form.proofs.Walking.{Line, lines_first, by_line, by_none, with_nothing}

-- what a reading gives
abbrev pub Reading : Type 0 → Type 0
Reading Y = Result (Y × List Bytes) (List Bytes)

-- both readings take this and leave that, as `Gives` says of an `Ok`; of an `Err` it says `Stopped`
abbrev pub Both : {Y : Type 0} → Y → List Bytes → Reading Y → Reading Y → Type 0
Both y rest strict loose = (strict ≡ Ok (y, rest)) × (loose ≡ Ok (y, rest))

-- ---- a reader leaves no more than it is given

-- no more pieces are left than these
abbrev pub LeavesWithin : {Y : Type 0} → ℕ → Reading Y → Type 0
LeavesWithin n (Ok x) = length x.1 ≤ n
LeavesWithin n (Err far) = length far ≤ n

-- whatever a reader is given, it leaves no more pieces than that
abbrev pub Shrinks : {Y : Type 0} → Read Y → Type 0
Shrinks read = (ls : List Bytes) → LeavesWithin (length ls) (read ls)

within_more : {Y : Type 0} (m n : ℕ) (r : Reading Y) → m ≤ n → LeavesWithin m r → LeavesWithin n r
within_more m n (Ok x) le h = omega arith
within_more m n (Err far) le h = omega arith

within_mapped : {X Y : Type 0} (n : ℕ) (r : Reading X) (f : X → Y) → LeavesWithin n r → LeavesWithin n (r >>= λ x. Ok (f x.0, x.1))
within_mapped n (Ok x) f h = h
within_mapped n (Err far) f h = h

within_bind : {X Y : Type 0} (n : ℕ) (r : Reading X) (f : X × List Bytes → Reading Y) → LeavesWithin n r → ((x : X × List Bytes) → LeavesWithin (length x.1) (f x)) → LeavesWithin n (r >>= f)
within_bind n (Ok x) f h more = within_more (length x.1) n (f x) h (more x)
within_bind n (Err far) f h more = h

join_rest : {X Y Z : Type 0} (make : X → Y → Z) (second : X → Read Y) → ((x : X) → Shrinks (second x)) → (x : X × List Bytes) → LeavesWithin (length x.1) (second x.0 x.1 >>= λ y. Ok (make x.0 y.0, y.1))
join_rest make second s x = within_mapped (length x.1) (second x.0 x.1) (make x.0) (s x.0 x.1)

pub join_shrinks : {X Y Z : Type 0} (make : X → Y → Z) (first : Read X) (second : X → Read Y) → Shrinks first → ((x : X) → Shrinks (second x)) → Shrinks (join_read make first second)
join_shrinks make first second f s ls = within_bind (length ls) (first ls) (λ x. second x.0 x.1 >>= λ y. Ok (make x.0 y.0, y.1)) (f ls) (join_rest make second s)

or_stop_shrinks : {X : Type 0} (o : Option X) (l : Bytes) (ls : List Bytes) → LeavesWithin (length (l ∷ ls)) (or_stop o l ls)
or_stop_shrinks (Some x) l ls = omega arith
or_stop_shrinks None l ls = omega arith

pub one_shrinks : {X : Type 0} (one : Bytes → Option X) → Shrinks (one_read one)
unfolding one_read
one_shrinks one [] = omega arith
one_shrinks one (l ∷ ls) = or_stop_shrinks (one l) l ls

-- an item, and what is read after it
abbrev after_item : {X : Type 0} → X → Reading (List X) → Reading (List X)
after_item x r = r >>= λ xs. Ok (x ∷ xs.0, xs.1)

item_step : {X : Type 0} (one : Bytes → Option X) (more : X → ℕ) (o : Option X) (l : Bytes) (ls : List Bytes) (due : ℕ)
    → (or_stop o l ls >>= λ x. after_item x.0 (items_read one more ls (more x.0 + due))) ≡ (or_stop o l ls >>= λ x. after_item x.0 (items_read one more x.1 (more x.0 + due)))
item_step one more (Some x) l ls due = refl
item_step one more None l ls due = refl

-- one item, and then the others
items_step : {X : Type 0} (one : Bytes → Option X) (more : X → ℕ) (ls : List Bytes) (due : ℕ)
    → items_read one more ls (suc due) ≡ join_read (λ x xs. x ∷ xs) (one_read one) (λ x rest. items_read one more rest (more x + due)) ls
unfolding items_read one_read
items_step one more [] due = refl
items_step one more (l ∷ ls) due = item_step one more (one l) l ls due

item_shrinks : {X : Type 0} (one : Bytes → Option X) (more : X → ℕ) (o : Option X) (l : Bytes) (ls : List Bytes) (due : ℕ) → ((d : ℕ) → LeavesWithin (length ls) (items_read one more ls d))
    → LeavesWithin (suc (length ls)) (or_stop o l ls >>= λ x. after_item x.0 (items_read one more ls (more x.0 + due)))
item_shrinks one more (Some x) l ls due h =
    within_more (length ls) (suc (length ls)) (after_item x (items_read one more ls (more x + due))) (omega arith) (within_mapped (length ls) (items_read one more ls (more x + due)) (λ xs. x ∷ xs) (h (more x + due)))
item_shrinks one more None l ls due h = omega arith

items_within : {X : Type 0} (one : Bytes → Option X) (more : X → ℕ) (ls : List Bytes) (due : ℕ) → LeavesWithin (length ls) (items_read one more ls due)
unfolding items_read
items_within one more [] zero = omega arith
items_within one more [] (suc due) = omega arith
items_within one more (l ∷ ls) zero = omega arith
items_within one more (l ∷ ls) (suc due) = item_shrinks one more (one l) l ls due (items_within one more ls)

pub items_shrinks : {X : Type 0} (one : Bytes → Option X) (more : X → ℕ) (due : ℕ) → Shrinks (λ ls. items_read one more ls due)
items_shrinks one more due ls = items_within one more ls due

pub many_shrinks : {X : Type 0} (item : ℕ → Read X) → ((i : ℕ) → Shrinks (item i)) → (count i : ℕ) → Shrinks (many_read item count i)
unfolding many_read
many_shrinks item each zero i ls = omega arith
many_shrinks {X = X} item each (suc count) i ls = join_shrinks {X = X} {Y = List X} {Z = List X} (λ x xs. x ∷ xs) (item i) (λ x. many_read item count (suc i)) (each i) (λ x. many_shrinks item each count (suc i)) ls

-- ---- what stops a reading stops what it is part of

beyond_mapped : {X Y : Type 0} (ls : List Bytes) (r : Reading X) (f : X → Y) → IsBeyond ls r → IsBeyond ls (r >>= λ x. Ok (f x.0, x.1))
beyond_mapped ls (Ok x) f h = h
beyond_mapped ls (Err far) f h = h

beyond_within : {Y : Type 0} (ls : List Bytes) (n : ℕ) (r : Reading Y) → n < length ls → LeavesWithin n r → IsBeyond ls r
beyond_within ls n (Ok x) lt h = omega arith
beyond_within ls n (Err far) lt h = omega arith

beyond_bind : {X Y : Type 0} (ls : List Bytes) (r : Reading X) (f : X × List Bytes → Reading Y) → IsBeyond ls r → ((x : X × List Bytes) → LeavesWithin (length x.1) (f x)) → IsBeyond ls (r >>= f)
beyond_bind ls (Ok x) f h more = beyond_within ls (length x.1) (f x) h (more x)
beyond_bind ls (Err far) f h more = h

stopped_mapped : {X Y : Type 0} (e : ReadError) (r loose : Reading X) (f : X → Y) → Stopped e r loose → Stopped e (r >>= λ x. Ok (f x.0, x.1)) (loose >>= λ x. Ok (f x.0, x.1))
stopped_mapped errors.NoMemory r loose f h = tt
stopped_mapped (errors.Form n) r loose f h = (h.0, rw h.1 refl, rw h.2 refl, h.3)
stopped_mapped (errors.Number n) r loose f h = (h.0, rw h.1 refl, beyond_mapped h.0 loose f h.2, h.3)

stopped_is : {Y : Type 0} (e : ReadError) (r whole loose loose_whole : Reading Y) → r ≡ whole → loose ≡ loose_whole → Stopped e r loose → Stopped e whole loose_whole
stopped_is {Y = Y} e r whole loose loose_whole p q h = subst (λ (z : Reading Y). Stopped e z loose_whole) p (subst (λ (z : Reading Y). Stopped e r z) q h)

-- ---- one after the other

joined : {X Y Z : Type 0} (make : X → Y → Z) (first : Read X) (second : X → Read Y) (ls mid : List Bytes) (x : X) → first ls ≡ Ok (x, mid) → (second x mid >>= λ y. Ok (make x y.0, y.1)) ≡ join_read make first second ls
joined make first second ls mid x e = rw e refl

join_takes : {X Y Z : Type 0} (make : X → Y → Z) (first : Read X) (second : X → Read Y) (ls mid rest : List Bytes) (x : X) (y : Y) → first ls ≡ Ok (x, mid) → second x mid ≡ Ok (y, rest) → join_read make first second ls ≡ Ok (make x y, rest)
join_takes make first second ls mid rest x y e g = rw (e, g) refl

pub join_ok : {X Y Z : Type 0} (make : X → Y → Z) (first loose_first : Read X) (second loose_second : X → Read Y) (ls mid rest : List Bytes) (x : X) (y : Y)
    → Both x mid (first ls) (loose_first ls) → Both y rest (second x mid) (loose_second x mid) → Both (make x y) rest (join_read make first second ls) (join_read make loose_first loose_second ls)
join_ok make first loose_first second loose_second ls mid rest x y f s = (join_takes make first second ls mid rest x y f.0 s.0, join_takes make loose_first loose_second ls mid rest x y f.1 s.1)

-- the first stops
pub join_first : {X Y Z : Type 0} (make : X → Y → Z) (first loose_first : Read X) (second loose_second : X → Read Y) (ls : List Bytes) (e : ReadError)
    → ((x : X) → Shrinks (loose_second x)) → Stopped e (first ls) (loose_first ls) → Stopped e (join_read make first second ls) (join_read make loose_first loose_second ls)
join_first make first loose_first second loose_second ls errors.NoMemory s h = tt
join_first make first loose_first second loose_second ls (errors.Form n) s h = (h.0, rw h.1 refl, rw h.2 refl, h.3)
join_first make first loose_first second loose_second ls (errors.Number n) s h =
    (h.0, rw h.1 refl, beyond_bind h.0 (loose_first ls) (λ x. loose_second x.0 x.1 >>= λ y. Ok (make x.0 y.0, y.1)) h.2 (join_rest make loose_second s), h.3)

-- the second stops
pub join_second : {X Y Z : Type 0} (make : X → Y → Z) (first loose_first : Read X) (second loose_second : X → Read Y) (ls mid : List Bytes) (x : X) (e : ReadError)
    → Both x mid (first ls) (loose_first ls) → Stopped e (second x mid) (loose_second x mid) → Stopped e (join_read make first second ls) (join_read make loose_first loose_second ls)
join_second {Z = Z} make first loose_first second loose_second ls mid x e f s =
    stopped_is {Y = Z} e (second x mid >>= λ y. Ok (make x y.0, y.1)) (join_read make first second ls) (loose_second x mid >>= λ y. Ok (make x y.0, y.1)) (join_read make loose_first loose_second ls)
    (joined make first second ls mid x f.0) (joined make loose_first loose_second ls mid x f.1) (stopped_mapped e (second x mid) (loose_second x mid) (make x) s)

-- ---- a loop that reads things one after the other

-- what was read before and what is still read are the whole, in both readings
abbrev pub BothSoFar : {X : Type 0} → List X → Reading (List X) → Reading (List X) → Reading (List X) → Reading (List X) → Type 0
BothSoFar front strict loose whole loose_whole = (with_front front strict ≡ whole) × (with_front front loose ≡ loose_whole)

pub so_far_begins : {X : Type 0} (front : List X) (whole loose_whole : Reading (List X)) → front ≡ [] → BothSoFar front whole loose_whole whole loose_whole
so_far_begins {X = X} front whole loose_whole e = subst (λ (z : List X). BothSoFar z whole loose_whole whole loose_whole) (sym e) (with_nothing whole, with_nothing loose_whole)

one_more : {X : Type 0} (front : List X) (first : Read X) (second : X → Read (List X)) (ls rest : List Bytes) (x : X) (whole : Reading (List X)) → first ls ≡ Ok (x, rest)
    → with_front front (join_read (λ x xs. x ∷ xs) first second ls) ≡ whole → with_front (front ++ x ∷ []) (second x rest) ≡ whole
one_more front first second ls rest x whole e so_far = sym (regroup front x (second x rest)) ∙ ap (with_front front) (joined (λ y ys. y ∷ ys) first second ls rest x e) ∙ so_far

-- the next thing is read
so_far_on : {X : Type 0} (front : List X) (first loose_first : Read X) (second loose_second : X → Read (List X)) (ls rest : List Bytes) (x : X) (whole loose_whole : Reading (List X)) → Both x rest (first ls) (loose_first ls)
    → BothSoFar front (join_read (λ x xs. x ∷ xs) first second ls) (join_read (λ x xs. x ∷ xs) loose_first loose_second ls) whole loose_whole → BothSoFar (front ++ x ∷ []) (second x rest) (loose_second x rest) whole loose_whole
so_far_on front first loose_first second loose_second ls rest x whole loose_whole f h = (one_more front first second ls rest x whole f.0 h.0, one_more front loose_first loose_second ls rest x loose_whole f.1 h.1)

-- the next thing stops the reading
so_far_stops : {X : Type 0} (front : List X) (first loose_first : Read X) (second loose_second : X → Read (List X)) (ls : List Bytes) (e : ReadError) (whole loose_whole : Reading (List X)) → ((x : X) → Shrinks (loose_second x))
    → Stopped e (first ls) (loose_first ls) → BothSoFar front (join_read (λ x xs. x ∷ xs) first second ls) (join_read (λ x xs. x ∷ xs) loose_first loose_second ls) whole loose_whole → Stopped e whole loose_whole
so_far_stops {X = X} front first loose_first second loose_second ls e whole loose_whole s f h =
    let strict : Reading (List X) = join_read (λ x xs. x ∷ xs) first second ls in
    let loose : Reading (List X) = join_read (λ x xs. x ∷ xs) loose_first loose_second ls in
    stopped_is e (with_front front strict) whole (with_front front loose) loose_whole h.0 h.1
    (stopped_mapped e strict loose (λ xs. front ++ xs) (join_first (λ x xs. x ∷ xs) first loose_first second loose_second ls e s f))

-- ---- items until none is due

item_parts : {X : Type 0} (one : Bytes → Option X) (more : X → ℕ) (front : List X) (ls : List Bytes) (due : ℕ) (whole : Reading (List X)) → 0 < due → with_front front (items_read one more ls due) ≡ whole
    → with_front front (join_read (λ x xs. x ∷ xs) (one_read one) (λ x rest. items_read one more rest (more x + (due - 1))) ls) ≡ whole
item_parts one more front ls due whole positive so_far =
    let d : due ≡ suc (due - 1) = omega arith in
    sym (ap (λ (z : ℕ). with_front front (items_read one more ls z)) d ∙ ap (with_front front) (items_step one more ls (due - 1))) ∙ so_far

pub items_on : {X : Type 0} (one loose : Bytes → Option X) (more : X → ℕ) (front : List X) (ls rest : List Bytes) (due next : ℕ) (x : X) (whole loose_whole : Reading (List X)) → 0 < due → next ≡ (due - 1) + more x
    → Both x rest (one_read one ls) (one_read loose ls) → BothSoFar front (items_read one more ls due) (items_read loose more ls due) whole loose_whole
    → BothSoFar (front ++ x ∷ []) (items_read one more rest next) (items_read loose more rest next) whole loose_whole
items_on {X = X} one loose more front ls rest due next x whole loose_whole positive n f h =
    let k : more x + (due - 1) ≡ next = omega arith in
    subst (λ (z : ℕ). BothSoFar (front ++ x ∷ []) (items_read one more rest z) (items_read loose more rest z) whole loose_whole) k
    (so_far_on front (one_read one) (one_read loose) (λ y after. items_read one more after (more y + (due - 1))) (λ y after. items_read loose more after (more y + (due - 1))) ls rest x whole loose_whole f
    (item_parts one more front ls due whole positive h.0, item_parts loose more front ls due loose_whole positive h.1))

pub items_stop : {X : Type 0} (one loose : Bytes → Option X) (more : X → ℕ) (front : List X) (ls : List Bytes) (due : ℕ) (e : ReadError) (whole loose_whole : Reading (List X)) → 0 < due → Stopped e (one_read one ls) (one_read loose ls)
    → BothSoFar front (items_read one more ls due) (items_read loose more ls due) whole loose_whole → Stopped e whole loose_whole
items_stop {X = X} one loose more front ls due e whole loose_whole positive f h =
    so_far_stops front (one_read one) (one_read loose) (λ y after. items_read one more after (more y + (due - 1))) (λ y after. items_read loose more after (more y + (due - 1))) ls e whole loose_whole
    (λ y. items_shrinks loose more (more y + (due - 1))) f (item_parts one more front ls due whole positive h.0, item_parts loose more front ls due loose_whole positive h.1)

abbrev took : {A : Type 0} → A → List Bytes → Reading A
took x ls = Ok (x, ls)

no_item_due : {X : Type 0} (one : Bytes → Option X) (more : X → ℕ) (front : List X) (ls : List Bytes) (due : ℕ) (whole : Reading (List X)) → due ≤ 0 → with_front front (items_read one more ls due) ≡ whole → whole ≡ Ok (front, ls)
no_item_due {X = X} one more front ls due whole le so_far =
    let d : due ≡ 0 = omega arith in
    sym so_far ∙ ap (λ (z : ℕ). with_front front (items_read one more ls z)) d ∙ ap (with_front front) (none_due one more ls) ∙ ap (λ (z : List X). took z ls) (append-nil front)

pub items_end : {X : Type 0} (one loose : Bytes → Option X) (more : X → ℕ) (front : List X) (ls : List Bytes) (due : ℕ) (whole loose_whole : Reading (List X)) → due ≤ 0
    → BothSoFar front (items_read one more ls due) (items_read loose more ls due) whole loose_whole → Both front ls whole loose_whole
items_end one loose more front ls due whole loose_whole le h = (no_item_due one more front ls due whole le h.0, no_item_due loose more front ls due loose_whole le h.1)

-- ---- so many things, numbered

many_parts : {X : Type 0} (item : ℕ → Read X) (front : List X) (count i : ℕ) (ls : List Bytes) (whole : Reading (List X)) → i < count → with_front front (many_read item (count - i) i ls) ≡ whole
    → with_front front (join_read (λ x xs. x ∷ xs) (item i) (λ x. many_read item (count - (i + 1)) (i + 1)) ls) ≡ whole
unfolding many_read
many_parts {X = X} item front count i ls whole lt so_far =
    let k : suc (count - (i + 1)) ≡ count - i = omega arith in
    let m : i + 1 ≡ suc i = omega arith in
    let n : with_front front (join_read (λ x xs. x ∷ xs) (item i) (λ x. many_read item (count - (i + 1)) (i + 1)) ls) ≡ with_front front (many_read item (suc (count - (i + 1))) i ls) = ap (λ (z : ℕ). with_front front (join_read (λ x xs. x ∷ xs) (item i) (λ x. many_read item (count - (i + 1)) z) ls)) m in
    n ∙ ap (λ (z : ℕ). with_front front (many_read item z i ls)) k ∙ so_far

pub many_on : {X : Type 0} (item loose : ℕ → Read X) (front : List X) (count i : ℕ) (ls rest : List Bytes) (x : X) (whole loose_whole : Reading (List X)) → i < count → Both x rest (item i ls) (loose i ls)
    → BothSoFar front (many_read item (count - i) i ls) (many_read loose (count - i) i ls) whole loose_whole
    → BothSoFar (front ++ x ∷ []) (many_read item (count - (i + 1)) (i + 1) rest) (many_read loose (count - (i + 1)) (i + 1) rest) whole loose_whole
many_on item loose front count i ls rest x whole loose_whole lt f h =
    so_far_on front (item i) (loose i) (λ y. many_read item (count - (i + 1)) (i + 1)) (λ y. many_read loose (count - (i + 1)) (i + 1)) ls rest x whole loose_whole f
    (many_parts item front count i ls whole lt h.0, many_parts loose front count i ls loose_whole lt h.1)

pub many_stop : {X : Type 0} (item loose : ℕ → Read X) (front : List X) (count i : ℕ) (ls : List Bytes) (e : ReadError) (whole loose_whole : Reading (List X)) → ((j : ℕ) → Shrinks (loose j)) → i < count → Stopped e (item i ls) (loose i ls)
    → BothSoFar front (many_read item (count - i) i ls) (many_read loose (count - i) i ls) whole loose_whole → Stopped e whole loose_whole
many_stop item loose front count i ls e whole loose_whole each lt f h =
    so_far_stops front (item i) (loose i) (λ y. many_read item (count - (i + 1)) (i + 1)) (λ y. many_read loose (count - (i + 1)) (i + 1)) ls e whole loose_whole (λ y. many_shrinks loose each (count - (i + 1)) (i + 1)) f
    (many_parts item front count i ls whole lt h.0, many_parts loose front count i ls loose_whole lt h.1)

none_left : {X : Type 0} (item : ℕ → Read X) (front : List X) (count i : ℕ) (ls : List Bytes) (whole : Reading (List X)) → count ≤ i → with_front front (many_read item (count - i) i ls) ≡ whole → whole ≡ Ok (front, ls)
unfolding many_read
none_left {X = X} item front count i ls whole le so_far =
    let k : count - i ≡ 0 = omega arith in
    let one : with_front front (many_read item (count - i) i ls) ≡ Ok (front, ls) = rw k (ap (λ (z : List X). took z ls) (append-nil front)) in
    sym so_far ∙ one

pub many_end : {X : Type 0} (item loose : ℕ → Read X) (front : List X) (count i : ℕ) (ls : List Bytes) (whole loose_whole : Reading (List X)) → count ≤ i
    → BothSoFar front (many_read item (count - i) i ls) (many_read loose (count - i) i ls) whole loose_whole → Both front ls whole loose_whole
many_end item loose front count i ls whole loose_whole le h = (none_left item front count i ls whole le h.0, none_left loose front count i ls loose_whole le h.1)

-- ---- the first line of a text

abbrev stopped_before : {A : Type 0} → List Bytes → Reading A
stopped_before ls = Err ls

first_line : {X : Type 0} (parse : List Bytes → Option X) (bytes l r : Bytes) → Line bytes l r → one_read (by_fields parse) (lines_of bytes) ≡ or_stop (parse (fields_of l)) (l ++ 10 ∷ []) (lines_of r)
unfolding one_read
first_line parse bytes l r line = ap (one_read (by_fields parse)) (lines_first bytes l r line) ∙ ap (λ (z : Option _). or_stop z (l ++ 10 ∷ []) (lines_of r)) (by_line parse l line.lacks)

line_takes : {X : Type 0} (parse : List Bytes → Option X) (bytes l r : Bytes) (x : X) → Line bytes l r → parse (fields_of l) ≡ Some x → one_read (by_fields parse) (lines_of bytes) ≡ Ok (x, lines_of r)
line_takes parse bytes l r x line e = first_line parse bytes l r line ∙ rw e refl

line_stops : {X : Type 0} (parse : List Bytes → Option X) (bytes l r : Bytes) → Line bytes l r → parse (fields_of l) ≡ None → one_read (by_fields parse) (lines_of bytes) ≡ Err (lines_of bytes)
line_stops {X = X} parse bytes l r line e = first_line parse bytes l r line ∙ rw e (ap (λ (z : List Bytes). stopped_before {A = X} z) (sym (lines_first bytes l r line)))

fewer_lines : (bytes l r : Bytes) → Line bytes l r → length (lines_of r) < length (lines_of bytes)
fewer_lines bytes l r line = omega (arith, ap length (lines_first bytes l r line))

line_beyond : {X : Type 0} (loose : List Bytes → Option X) (bytes l r : Bytes) (o : Option X) → loose (fields_of l) ≡ o → IsSome o → Line bytes l r → IsBeyond (lines_of bytes) (one_read (by_fields loose) (lines_of bytes))
line_beyond {X = X} loose bytes l r (Some x) e some line = subst (λ (z : Reading X). IsBeyond (lines_of bytes) z) (sym (line_takes loose bytes l r x line e)) (fewer_lines bytes l r line)
line_beyond loose bytes l r None e some line = absurd cc

pub line_ok : {X : Type 0} (parse loose : List Bytes → Option X) (bytes l r : Bytes) (x : X) → Line bytes l r → (parse (fields_of l) ≡ Some x) × (loose (fields_of l) ≡ Some x)
    → Both x (lines_of r) (one_read (by_fields parse) (lines_of bytes)) (one_read (by_fields loose) (lines_of bytes))
line_ok parse loose bytes l r x line e = (line_takes parse bytes l r x line e.0, line_takes loose bytes l r x line e.1)

left_of_lines : (bytes : Bytes) → length bytes ≡ length (concat (lines_of bytes))
left_of_lines bytes = ap length (sym (lines_joined bytes))

-- a line with a fault
pub line_bad : {X Y : Type 0} (view : X → Y) (parse loose : List Bytes → Option Y) (bytes l r : Bytes) (fault : LineFault) → Line bytes l r → ReadsLine view (Err fault) (parse (fields_of l)) (loose (fields_of l))
    → Stopped (error_at fault (length bytes)) (one_read (by_fields parse) (lines_of bytes)) (one_read (by_fields loose) (lines_of bytes))
line_bad view parse loose bytes l r faults.Form line h = (lines_of bytes, line_stops parse bytes l r line h.0, line_stops loose bytes l r line h.1, left_of_lines bytes)
line_bad view parse loose bytes l r faults.Number line h = (lines_of bytes, line_stops parse bytes l r line h.0, line_beyond loose bytes l r (loose (fields_of l)) refl h.1 line, left_of_lines bytes)

cut_takes : {X : Type 0} (parse : List Bytes → Option X) (bytes : Bytes) → Lacks 10 bytes → one_read (by_fields parse) (lines_of bytes) ≡ Err (lines_of bytes)
unfolding one_read lines_of
cut_takes parse [] h = refl
cut_takes {X = X} parse (b ∷ l) h =
    let f = lines_cut b l h in
    ap (one_read (by_fields parse)) f ∙ ap (λ (z : Option X). or_stop z (b ∷ l) []) (by_none parse b l h) ∙ ap (λ (z : List Bytes). stopped_before {A = X} z) (sym f)

-- no line is left, or one without its line feed
pub line_absent : {X : Type 0} (parse loose : List Bytes → Option X) (bytes : Bytes) → Lacks 10 bytes → Stopped (errors.Form (length bytes)) (one_read (by_fields parse) (lines_of bytes)) (one_read (by_fields loose) (lines_of bytes))
line_absent parse loose bytes h = (lines_of bytes, cut_takes parse bytes h, cut_takes loose bytes h, left_of_lines bytes)

none_is : {X : Type 0} (o : Option X) → false ≡ is_some o → o ≡ None
none_is None e = refl
none_is (Some x) e = absurd cc

-- what is wrong with a line that the strict reading refuses, by whether the loose one reads it
pub line_refused : {X Y : Type 0} (view : X → Y) (strict loose : Option Y) (reads_loosely : Bool) → strict ≡ None → reads_loosely ≡ is_some loose → ReadsLine view (Err (fault_of reads_loosely)) strict loose
line_refused view strict loose true n e = (n, sym e)
line_refused view strict loose false n e = (n, none_is loose e)

-- ---- a line in a loop of items

pub items_line_on : {X : Type 0} (parse loose : List Bytes → Option X) (more : X → ℕ) (front : List X) (bytes l r : Bytes) (due next : ℕ) (x : X) (whole loose_whole : Reading (List X)) → Line bytes l r → 0 < due → next ≡ (due - 1) + more x
    → (parse (fields_of l) ≡ Some x) × (loose (fields_of l) ≡ Some x) → BothSoFar front (items_read (by_fields parse) more (lines_of bytes) due) (items_read (by_fields loose) more (lines_of bytes) due) whole loose_whole
    → BothSoFar (front ++ x ∷ []) (items_read (by_fields parse) more (lines_of r) next) (items_read (by_fields loose) more (lines_of r) next) whole loose_whole
items_line_on parse loose more front bytes l r due next x whole loose_whole line positive n e h =
    items_on (by_fields parse) (by_fields loose) more front (lines_of bytes) (lines_of r) due next x whole loose_whole positive n (line_ok parse loose bytes l r x line e) h

pub items_line_bad : {X Y : Type 0} (view : X → Y) (parse loose : List Bytes → Option Y) (more : Y → ℕ) (front : List Y) (bytes l r : Bytes) (due : ℕ) (fault : LineFault) (whole loose_whole : Reading (List Y)) → Line bytes l r → 0 < due
    → ReadsLine view (Err fault) (parse (fields_of l)) (loose (fields_of l)) → BothSoFar front (items_read (by_fields parse) more (lines_of bytes) due) (items_read (by_fields loose) more (lines_of bytes) due) whole loose_whole
    → Stopped (error_at fault (length bytes)) whole loose_whole
items_line_bad view parse loose more front bytes l r due fault whole loose_whole line positive e h =
    items_stop (by_fields parse) (by_fields loose) more front (lines_of bytes) due (error_at fault (length bytes)) whole loose_whole positive (line_bad view parse loose bytes l r fault line e) h

pub items_line_absent : {X : Type 0} (parse loose : List Bytes → Option X) (more : X → ℕ) (front : List X) (bytes : Bytes) (due : ℕ) (whole loose_whole : Reading (List X)) → Lacks 10 bytes → 0 < due
    → BothSoFar front (items_read (by_fields parse) more (lines_of bytes) due) (items_read (by_fields loose) more (lines_of bytes) due) whole loose_whole → Stopped (errors.Form (length bytes)) whole loose_whole
items_line_absent parse loose more front bytes due whole loose_whole lacks positive h =
    items_stop (by_fields parse) (by_fields loose) more front (lines_of bytes) due (errors.Form (length bytes)) whole loose_whole positive (line_absent parse loose bytes lacks) h

-- ---- how far a loop still goes

or_stop_shorter : {X : Type 0} (o : Option X) (l : Bytes) (ls rest : List Bytes) (x : X) → or_stop o l ls ≡ Ok (x, rest) → length rest < length (l ∷ ls)
or_stop_shorter {X = X} (Some y) l ls rest x e =
    let k : (y, ls) ≡ (x, rest) = ok_is {A = X × List Bytes} (y, ls) (x, rest) e in
    omega (arith, ap (λ (q : X × List Bytes). length q.1) k)
or_stop_shorter None l ls rest x e = absurd cc

-- each line that is read leaves fewer
pub one_shorter : {X : Type 0} (one : Bytes → Option X) (ls rest : List Bytes) (x : X) → one_read one ls ≡ Ok (x, rest) → length rest < length ls
unfolding one_read
one_shorter one [] rest x e = absurd cc
one_shorter one (l ∷ ls) rest x e = or_stop_shorter (one l) l ls rest x e

onto_fits : (b : ℕ) (ps : List Bytes) (n : ℕ) → length ps ≤ n → length (onto b ps) ≤ suc n
onto_fits b [] n h = omega arith
onto_fits b (p ∷ ps) n h = omega arith

lines_fit_step : (b : ℕ) (bytes : Bytes) → length (lines_of bytes) ≤ length bytes → (t : Bool) → (b == 10) ≡ t → length (lines_of (b ∷ bytes)) ≤ length (b ∷ bytes)
unfolding lines_of
lines_fit_step b bytes h true t = rw t (omega arith)
lines_fit_step b bytes h false t = rw t (onto_fits b (lines_of bytes) (length bytes) h)

-- a text has no more lines than bytes
pub lines_fit : (bytes : Bytes) → length (lines_of bytes) ≤ length bytes
lines_fit [] = unfold lines_of in omega arith
lines_fit (b ∷ bytes) = lines_fit_step b bytes (lines_fit bytes) (b == 10) refl

-- ---- what the strict reading reads, the loose one reads

pub exact_looser : (Clean : Bytes → Type 0) {X : Type 0} (F G : X → Type 0) (spell : X → List Bytes) (strict loose : Read X) → IsExact Clean F spell strict → IsExact Clean G spell loose → ((x : X) → F x → G x)
    → (ls rest : List Bytes) (x : X) → strict ls ≡ Ok (x, rest) → loose ls ≡ Ok (x, rest)
exact_looser Clean F G spell strict loose s l wider ls rest x e =
    let h = s.sound ls rest x e in
    ap loose h.1 ∙ l.again x rest (wider x h.0)

pub whole_looser : {X : Type 0} (F G : X → Type 0) (spell : X → List Bytes) (strict loose : List Bytes → Option X) → IsWhole F spell strict → IsWhole G spell loose → ((x : X) → F x → G x)
    → (fs : List Bytes) (x : X) → strict fs ≡ Some x → loose fs ≡ Some x
whole_looser F G spell strict loose s l wider fs x e =
    let h = s.sound fs x e in
    ap loose h.1 ∙ l.again x (wider x h.0)

form_leaves : (Clean : Bytes → Type 0) {X : Type 0} (F : X → Type 0) (spell : X → List Bytes) (read : Read X) → IsForm Clean F spell read → (ls : List Bytes) (r : Reading X) → read ls ≡ r → LeavesWithin (length ls) r
form_leaves Clean F spell read form ls (Ok x) e = let h = form.exact.sound ls x.1 x.0 e in omega (arith, ap length h.1 ∙ length-append (spell x.0) x.1)
form_leaves Clean F spell read form ls (Err far) e = let h = form.stops ls far e in omega (arith, ap length h.parts ∙ length-append h.front far)

-- a form leaves no more than it is given
pub form_shrinks : (Clean : Bytes → Type 0) {X : Type 0} (F : X → Type 0) (spell : X → List Bytes) (read : Read X) → IsForm Clean F spell read → Shrinks read
form_shrinks Clean F spell read form ls = form_leaves Clean F spell read form ls (read ls) refl
