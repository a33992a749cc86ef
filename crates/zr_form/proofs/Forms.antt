-- A form: which things there are, how each is spelled, and how it is read. Forms are joined here once for all.
use Rattle.std.proofs.Common.{◌≡◌, ℕ, zero, suc, ◌+◌, ◌⊎◌, inl, inr, List, [], ◌∷◌, ◌++◌, map, length, take, Option, Some, None, Result, Ok, Err, refl, sym, ap, subst, ◌∙◌, append_assoc, arith}
use Rattle.std.specs.List.{AllByRecursion}
use Rattle.zr_form.specs.Reading.{Bytes, Read, ◌>>=◌, join_read, or_stop, one_read, items_read, many_read, Closes, EachFrom, spell_from}

-- where reading stops, what came before begins a thing in the form, and with the next piece it begins none
pub record Stops {X : Type 0} (Fits : X → Type 0) (spell : X → List Bytes) (ls rest : List Bytes) : Type 0 where
  pub front : List Bytes
  pub parts : ls ≡ front ++ rest
  pub item : X
  pub fits : Fits item
  pub next : Bytes
  pub more : List Bytes
  pub opens : spell item ≡ front ++ (next ∷ more)
  pub shut : (x : X) (tail other : List Bytes) → Fits x → spell x ++ tail ≡ front ++ other → take 1 other ≡ take 1 rest → ⊥

-- what is read is spelled so, what is spelled so is read, whatever follows, and each piece of it is clean
pub record IsExact (Clean : Bytes → Type 0) {X : Type 0} (Fits : X → Type 0) (spell : X → List Bytes) (read : Read X) : Type 0 where
  pub sound : (ls rest : List Bytes) (x : X) → read ls ≡ Ok (x, rest) → Fits x × (ls ≡ spell x ++ rest)
  pub again : (x : X) (rest : List Bytes) → Fits x → read (spell x ++ rest) ≡ Ok (x, rest)
  pub clean : (x : X) → Fits x → AllByRecursion Clean (spell x)

-- and where reading stops is the first piece out of the form
pub record IsForm (Clean : Bytes → Type 0) {X : Type 0} (Fits : X → Type 0) (spell : X → List Bytes) (read : Read X) : Type 0 where
  pub exact : IsExact Clean Fits spell read
  pub stops : (ls rest : List Bytes) → read ls ≡ Err rest → Stops Fits spell ls rest

pub clean_append : (Clean : Bytes → Type 0) (xs ys : List Bytes) → AllByRecursion Clean xs → AllByRecursion Clean ys → AllByRecursion Clean (xs ++ ys)
clean_append Clean [] ys a b = b
clean_append Clean (x ∷ xs) ys a b = (a.0, clean_append Clean xs ys a.1 b)

-- ---- what a step of reading gave

pub bind_ok : {A B : Type 0} (r : Result A (List Bytes)) (f : A → Result B (List Bytes)) (y : B) → (r >>= f) ≡ Ok y → (x : A) × (r ≡ Ok x) × (f x ≡ Ok y)
bind_ok (Ok x) f y e = (x, refl, e)
bind_ok (Err d) f y e = absurd cc

pub bind_err : {A B : Type 0} (r : Result A (List Bytes)) (f : A → Result B (List Bytes)) (d : List Bytes) → (r >>= f) ≡ Err d → (r ≡ Err d) ⊎ ((x : A) × (r ≡ Ok x) × (f x ≡ Err d))
bind_err (Ok x) f d e = inr (x, refl, e)
bind_err (Err c) f d e = inl (let k : c ≡ d = cc in ap Err k)

abbrev done : {A : Type 0} → A → Result A (List Bytes)
done x = Ok x

pub ok_is : {A : Type 0} (x y : A) → done x ≡ done y → x ≡ y
ok_is x y e = cc

pub map_err : {A B : Type 0} (r : Result A (List Bytes)) (g : A → B) (d : List Bytes) → (r >>= λ x. Ok (g x)) ≡ Err d → r ≡ Err d
map_err (Ok x) g d e = absurd cc
map_err (Err c) g d e = let k : c ≡ d = cc in ap Err k

-- ---- one after the other

-- what stops in the second
stops_later : (Clean : Bytes → Type 0) {X Y Z : Type 0} (make : X → Y → Z) (FX : X → Type 0) (sx : X → List Bytes) (rx : Read X) (FY : X → Y → Type 0) (sy : X → Y → List Bytes) (FZ : Z → Type 0) (sz : Z → List Bytes)
    → IsExact Clean FX sx rx → ((x : X) (y : Y) → FX x → FY x y → FZ (make x y) × (sz (make x y) ≡ sx x ++ sy x y)) → ((z : Z) → FZ z → (x : X) × (y : Y) × FX x × FY x y × (make x y ≡ z) × (sz z ≡ sx x ++ sy x y))
    → (ls rest mid : List Bytes) (x : X) → FX x → ls ≡ sx x ++ mid → Stops (FY x) (sy x) mid rest → Stops FZ sz ls rest
stops_later Clean {X = X} {Y = Y} make FX sx rx FY sy FZ sz first to from ls rest mid x fx parts t = record {
  front = sx x ++ t.front;
  parts = parts ∙ ap (λ z. sx x ++ z) t.parts ∙ sym (append_assoc (sx x) t.front rest);
  item = make x t.item;
  fits = (to x t.item fx t.fits).0;
  next = t.next;
  more = t.more;
  opens = (to x t.item fx t.fits).1 ∙ ap (λ z. sx x ++ z) t.opens ∙ sym (append_assoc (sx x) t.front (t.next ∷ t.more));
  shut = λ z tail other f same head.
      let p = from z f in
      let one : rx (sx p.0 ++ (sy p.0 p.1 ++ tail)) ≡ Ok (p.0, sy p.0 p.1 ++ tail) = first.again p.0 (sy p.0 p.1 ++ tail) p.2 in
      let two : rx (sx x ++ (t.front ++ other)) ≡ Ok (x, t.front ++ other) = first.again x (t.front ++ other) fx in
      let input : sx p.0 ++ (sy p.0 p.1 ++ tail) ≡ sx x ++ (t.front ++ other) = sym (append_assoc (sx p.0) (sy p.0 p.1) tail) ∙ ap (λ w. w ++ tail) (sym p.5) ∙ same ∙ append_assoc (sx x) t.front other in
      let both : (p.0, sy p.0 p.1 ++ tail) ≡ (x, t.front ++ other) = ok_is {A = X × List Bytes} (p.0, sy p.0 p.1 ++ tail) (x, t.front ++ other) (sym one ∙ ap rx input ∙ two) in
      subst (λ (w : X). FY w p.1 → sy w p.1 ++ tail ≡ t.front ++ other → ⊥) (sym (ap (λ (q : X × List Bytes). q.0) both)) (λ g u. t.shut p.1 tail other g u head) p.3 (ap (λ (q : X × List Bytes). q.1) both);
}

pub join_exact : (Clean : Bytes → Type 0) {X Y Z : Type 0} (make : X → Y → Z) (FX : X → Type 0) (sx : X → List Bytes) (rx : Read X) (FY : X → Y → Type 0) (sy : X → Y → List Bytes) (ry : X → Read Y) (FZ : Z → Type 0) (sz : Z → List Bytes)
    → IsExact Clean FX sx rx → ((x : X) → FX x → IsExact Clean (FY x) (sy x) (ry x))
    → ((x : X) (y : Y) → FX x → FY x y → FZ (make x y) × (sz (make x y) ≡ sx x ++ sy x y)) → ((z : Z) → FZ z → (x : X) × (y : Y) × FX x × FY x y × (make x y ≡ z) × (sz z ≡ sx x ++ sy x y))
    → IsExact Clean FZ sz (join_read make rx ry)
join_exact Clean {X = X} {Y = Y} {Z = Z} make FX sx rx FY sy ry FZ sz first second to from = record {
  sound = λ ls rest z e.
      let a = bind_ok (rx ls) (λ x. ry x.0 x.1 >>= λ y. Ok (make x.0 y.0, y.1)) (z, rest) e in
      let b = bind_ok (ry a.0.0 a.0.1) (λ y. Ok (make a.0.0 y.0, y.1)) (z, rest) a.2 in
      let k : (make a.0.0 b.0.0, b.0.1) ≡ (z, rest) = ok_is {A = Z × List Bytes} (make a.0.0 b.0.0, b.0.1) (z, rest) b.2 in
      let s = first.sound ls a.0.1 a.0.0 a.1 in
      let t = (second a.0.0 s.0).sound a.0.1 b.0.1 b.0.0 b.1 in
      let u = to a.0.0 b.0.0 s.0 t.0 in
      subst (λ (q : Z × List Bytes). FZ q.0 × (ls ≡ sz q.0 ++ q.1)) k
      (u.0, s.1 ∙ ap (λ z. sx a.0.0 ++ z) t.1 ∙ sym (append_assoc (sx a.0.0) (sy a.0.0 b.0.0) b.0.1) ∙ ap (λ w. w ++ b.0.1) (sym u.1));
  again = λ z rest f.
      let p = from z f in
      let k : rx (sz z ++ rest) ≡ Ok (p.0, sy p.0 p.1 ++ rest) = ap rx (ap (λ w. w ++ rest) p.5 ∙ append_assoc (sx p.0) (sy p.0 p.1) rest) ∙ first.again p.0 (sy p.0 p.1 ++ rest) p.2 in
      let l : ry p.0 (sy p.0 p.1 ++ rest) ≡ Ok (p.1, rest) = (second p.0 p.2).again p.1 rest p.3 in
      rw (k, l) (ap (λ (w : Z). done (w, rest)) p.4);
  clean = λ z f.
      let p = from z f in
      subst (AllByRecursion Clean) (sym p.5) (clean_append Clean (sx p.0) (sy p.0 p.1) (first.clean p.0 p.2) ((second p.0 p.2).clean p.1 p.3));
}

pub join_form : (Clean : Bytes → Type 0) {X Y Z : Type 0} (make : X → Y → Z) (FX : X → Type 0) (sx : X → List Bytes) (rx : Read X) (FY : X → Y → Type 0) (sy : X → Y → List Bytes) (ry : X → Read Y) (FZ : Z → Type 0) (sz : Z → List Bytes)
    → IsForm Clean FX sx rx → ((x : X) → FX x → IsForm Clean (FY x) (sy x) (ry x)) → ((x : X) → FX x → (y : Y) × FY x y)
    → ((x : X) (y : Y) → FX x → FY x y → FZ (make x y) × (sz (make x y) ≡ sx x ++ sy x y)) → ((z : Z) → FZ z → (x : X) × (y : Y) × FX x × FY x y × (make x y ≡ z) × (sz z ≡ sx x ++ sy x y))
    → IsForm Clean FZ sz (join_read make rx ry)
join_form Clean {X = X} {Y = Y} {Z = Z} make FX sx rx FY sy ry FZ sz first second some to from = record {
  exact = join_exact Clean make FX sx rx FY sy ry FZ sz first.exact (λ x f. (second x f).exact) to from;
  stops = λ ls rest e.
      elim (bind_err (rx ls) (λ x. ry x.0 x.1 >>= λ y. Ok (make x.0 y.0, y.1)) rest e) [
        | inl h ↦
            let s = first.stops ls rest h in
            let y = some s.item s.fits in
            let u = to s.item y.0 s.fits y.1 in
            record {
              front = s.front;
              parts = s.parts;
              item = make s.item y.0;
              fits = u.0;
              next = s.next;
              more = s.more ++ sy s.item y.0;
              opens = u.1 ∙ ap (λ z. z ++ sy s.item y.0) s.opens ∙ append_assoc s.front (s.next ∷ s.more) (sy s.item y.0);
              shut = λ z tail other f same head.
                  let p = from z f in
                  s.shut p.0 (sy p.0 p.1 ++ tail) other p.2 (sym (append_assoc (sx p.0) (sy p.0 p.1) tail) ∙ ap (λ w. w ++ tail) (sym p.5) ∙ same) head;
            }
        | inr h ↦
            let s = first.exact.sound ls h.0.1 h.0.0 h.1 in
            let e2 : ry h.0.0 h.0.1 ≡ Err rest = map_err (ry h.0.0 h.0.1) (λ y. (make h.0.0 y.0, y.1)) rest h.2 in
            stops_later Clean make FX sx rx FY sy FZ sz first.exact to from ls rest h.0.1 h.0.0 s.0 s.1 ((second h.0.0 s.0).stops h.0.1 rest e2)
      ];
}

-- ---- one line or field

-- one piece is read where it is spelled so
pub record IsOne (Clean : Bytes → Type 0) {X : Type 0} (Fits : X → Type 0) (piece : X → Bytes) (one : Bytes → Option X) : Type 0 where
  pub sound : (l : Bytes) (x : X) → one l ≡ Some x → Fits x × (l ≡ piece x)
  pub again : (x : X) → Fits x → one (piece x) ≡ Some x
  pub clean : (x : X) → Fits x → Clean (piece x)

or_stop_ok : {X : Type 0} (o : Option X) (l : Bytes) (ls : List Bytes) (x : X) (rest : List Bytes) → or_stop o l ls ≡ Ok (x, rest) → (o ≡ Some x) × (ls ≡ rest)
or_stop_ok {X = X} (Some y) l ls x rest e =
    let k : (y, ls) ≡ (x, rest) = ok_is {A = X × List Bytes} (y, ls) (x, rest) e in
    (ap (λ (q : X × List Bytes). Some q.0) k, ap (λ (q : X × List Bytes). q.1) k)
or_stop_ok None l ls x rest e = absurd cc

or_stop_err : {X : Type 0} (o : Option X) (l : Bytes) (ls rest : List Bytes) → or_stop o l ls ≡ Err rest → (o ≡ None) × (rest ≡ l ∷ ls)
or_stop_err (Some y) l ls rest e = absurd cc
or_stop_err None l ls rest e = (refl, cc)

head_of : (a b : Bytes) (xs ys : List Bytes) → a ∷ xs ≡ b ∷ ys → a ≡ b
head_of a b xs ys e = cc

tail_of : (a b : Bytes) (xs ys : List Bytes) → a ∷ xs ≡ b ∷ ys → xs ≡ ys
tail_of a b xs ys e = cc

some_is : {X : Type 0} (x y : X) (o : Option X) → o ≡ Some x → o ≡ Some y → x ≡ y
some_is x y o p q = cc

not_both : {X : Type 0} (x : X) (o : Option X) → o ≡ None → o ≡ Some x → ⊥
not_both x o p q = cc

take_one : (l : Bytes) (ls : List Bytes) → take 1 (l ∷ ls) ≡ l ∷ []
take_one l ls = refl

-- a piece that no spelling is
shut_one : (Clean : Bytes → Type 0) {X : Type 0} (Fits : X → Type 0) (piece : X → Bytes) (one : Bytes → Option X) → IsOne Clean Fits piece one → (l : Bytes) (ls rest : List Bytes) → one l ≡ None → rest ≡ l ∷ ls
    → (x : X) (after other : List Bytes) → Fits x → piece x ∷ after ≡ other → take 1 other ≡ take 1 rest → ⊥
shut_one Clean Fits piece one o l ls rest none at x after other f same head =
    let k : piece x ∷ [] ≡ l ∷ [] = ap (take 1) same ∙ head ∙ ap (take 1) at in
    let m : piece x ≡ l = head_of (piece x) l [] [] k in
    not_both x (one l) none (ap one (sym m) ∙ o.again x f)

nothing_more : (l : Bytes) (after other : List Bytes) → l ∷ after ≡ other → take 1 other ≡ take 1 [] → ⊥
nothing_more l after other same head = let k : l ∷ [] ≡ [] = ap (take 1) same ∙ head in cc

one_sound : (Clean : Bytes → Type 0) {X : Type 0} (Fits : X → Type 0) (piece : X → Bytes) (one : Bytes → Option X) → IsOne Clean Fits piece one → (ls rest : List Bytes) (x : X) → one_read one ls ≡ Ok (x, rest) → Fits x × (ls ≡ (piece x ∷ []) ++ rest)
unfolding one_read
one_sound Clean Fits piece one o [] rest x e = absurd cc
one_sound Clean Fits piece one o (l ∷ ls) rest x e =
    let h = or_stop_ok (one l) l ls x rest e in
    let s = o.sound l x h.0 in
    (s.0, ap (λ z. z ∷ ls) s.1 ∙ ap (λ z. piece x ∷ z) h.1)

one_again : (Clean : Bytes → Type 0) {X : Type 0} (Fits : X → Type 0) (piece : X → Bytes) (one : Bytes → Option X) → IsOne Clean Fits piece one → (x : X) (rest : List Bytes) → Fits x → one_read one ((piece x ∷ []) ++ rest) ≡ Ok (x, rest)
unfolding one_read
one_again Clean Fits piece one o x rest f = rw (o.again x f) refl

one_stops : (Clean : Bytes → Type 0) {X : Type 0} (Fits : X → Type 0) (piece : X → Bytes) (one : Bytes → Option X) → IsOne Clean Fits piece one → (x0 : X) → Fits x0 → (ls rest : List Bytes) → one_read one ls ≡ Err rest → Stops Fits (λ x. piece x ∷ []) ls rest
unfolding one_read
one_stops Clean Fits piece one o x0 f0 [] rest e =
    let k : rest ≡ [] = cc in
    record { front = []; parts = sym k; item = x0; fits = f0; next = piece x0; more = []; opens = refl; shut = λ x after other f same head. nothing_more (piece x) after other same (head ∙ ap (take 1) k) }
one_stops Clean Fits piece one o x0 f0 (l ∷ ls) rest e =
    let h = or_stop_err (one l) l ls rest e in
    record { front = []; parts = sym h.1; item = x0; fits = f0; next = piece x0; more = []; opens = refl; shut = λ x after other f same head. shut_one Clean Fits piece one o l ls rest h.0 h.1 x after other f same head }

pub one_exact : (Clean : Bytes → Type 0) {X : Type 0} (Fits : X → Type 0) (piece : X → Bytes) (one : Bytes → Option X) → IsOne Clean Fits piece one → IsExact Clean Fits (λ x. piece x ∷ []) (one_read one)
one_exact Clean Fits piece one o = record { sound = one_sound Clean Fits piece one o; again = one_again Clean Fits piece one o; clean = λ x f. (o.clean x f, tt) }

pub one_form : (Clean : Bytes → Type 0) {X : Type 0} (Fits : X → Type 0) (piece : X → Bytes) (one : Bytes → Option X) → IsOne Clean Fits piece one → (x : X) → Fits x → IsForm Clean Fits (λ x. piece x ∷ []) (one_read one)
one_form Clean Fits piece one o x0 f0 = record { exact = record { sound = one_sound Clean Fits piece one o; again = one_again Clean Fits piece one o; clean = λ x f. (o.clean x f, tt) }; stops = one_stops Clean Fits piece one o x0 f0 }

-- ---- items until none is due

pub none_due : {X : Type 0} (one : Bytes → Option X) (more : X → ℕ) (ls : List Bytes) → items_read one more ls zero ≡ Ok ([], ls)
unfolding items_read
none_due one more [] = refl
none_due one more (l ∷ ls) = refl

abbrev pub ItemsFit : {X : Type 0} → (X → Type 0) → (X → ℕ) → ℕ → List X → Type 0
ItemsFit Fits more due xs = Closes more xs due × AllByRecursion Fits xs

-- items that close what is due at once
simple : {X : Type 0} (Fits : X → Type 0) (more : X → ℕ) (x : X) → Fits x → more x ≡ 0 → (due : ℕ) → (xs : List X) × ItemsFit Fits more due xs
simple Fits more x f last zero = ([], (tt, tt))
simple Fits more x f last (suc due) =
    let s = simple Fits more x f last due in
    let k : more x + due ≡ due = omega arith in
    (x ∷ s.0, (rw k s.1.0, (f, s.1.1)))

items_sound : (Clean : Bytes → Type 0) {X : Type 0} (Fits : X → Type 0) (piece : X → Bytes) (one : Bytes → Option X) (more : X → ℕ) → IsOne Clean Fits piece one
    → (ls : List Bytes) (due : ℕ) (rest : List Bytes) (xs : List X) → items_read one more ls due ≡ Ok (xs, rest) → ItemsFit Fits more due xs × (ls ≡ map piece xs ++ rest)
unfolding items_read
items_sound Clean {X = X} Fits piece one more o [] zero rest xs e =
    subst (λ (q : List X × List Bytes). ItemsFit Fits more 0 q.0 × ([] ≡ map piece q.0 ++ q.1)) (ok_is {A = List X × List Bytes} ([], []) (xs, rest) e) ((tt, tt), refl)
items_sound Clean Fits piece one more o [] (suc due) rest xs e = absurd cc
items_sound Clean {X = X} Fits piece one more o (l ∷ ls) zero rest xs e =
    subst (λ (q : List X × List Bytes). ItemsFit Fits more 0 q.0 × (l ∷ ls ≡ map piece q.0 ++ q.1)) (ok_is {A = List X × List Bytes} ([], l ∷ ls) (xs, rest) e) ((tt, tt), refl)
items_sound Clean {X = X} Fits piece one more o (l ∷ ls) (suc due) rest xs e =
    let a = bind_ok (or_stop (one l) l ls) (λ x. items_read one more ls (more x.0 + due) >>= λ ys. Ok (x.0 ∷ ys.0, ys.1)) (xs, rest) e in
    let b = bind_ok (items_read one more ls (more a.0.0 + due)) (λ ys. Ok (a.0.0 ∷ ys.0, ys.1)) (xs, rest) a.2 in
    let h = or_stop_ok (one l) l ls a.0.0 a.0.1 a.1 in
    let s = o.sound l a.0.0 h.0 in
    let t = items_sound Clean Fits piece one more o ls (more a.0.0 + due) b.0.1 b.0.0 b.1 in
    let parts : l ∷ ls ≡ map piece (a.0.0 ∷ b.0.0) ++ b.0.1 = ap (λ z. z ∷ ls) s.1 ∙ ap (λ z. piece a.0.0 ∷ z) t.1 in
    subst (λ (q : List X × List Bytes). ItemsFit Fits more (suc due) q.0 × (l ∷ ls ≡ map piece q.0 ++ q.1)) (ok_is {A = List X × List Bytes} (a.0.0 ∷ b.0.0, b.0.1) (xs, rest) b.2) ((t.0.0, (s.0, t.0.1)), parts)

items_again : (Clean : Bytes → Type 0) {X : Type 0} (Fits : X → Type 0) (piece : X → Bytes) (one : Bytes → Option X) (more : X → ℕ) → IsOne Clean Fits piece one
    → (xs : List X) (due : ℕ) (rest : List Bytes) → ItemsFit Fits more due xs → items_read one more (map piece xs ++ rest) due ≡ Ok (xs, rest)
unfolding items_read
items_again Clean Fits piece one more o [] zero rest f = none_due one more rest
items_again Clean Fits piece one more o [] (suc due) rest f = absurd f.0
items_again Clean Fits piece one more o (x ∷ xs) zero rest f = absurd f.0
items_again Clean Fits piece one more o (x ∷ xs) (suc due) rest f = rw (o.again x f.1.0, items_again Clean Fits piece one more o xs (more x + due) rest (f.0, f.1.1)) refl

-- where an item must stand and none does
items_shut : {X : Type 0} (Fits : X → Type 0) (piece : X → Bytes) (more : X → ℕ) (due : ℕ) (rest : List Bytes) → ((x : X) (after other : List Bytes) → Fits x → piece x ∷ after ≡ other → take 1 other ≡ take 1 rest → ⊥)
    → (xs : List X) (after other : List Bytes) → ItemsFit Fits more (suc due) xs → map piece xs ++ after ≡ other → take 1 other ≡ take 1 rest → ⊥
items_shut Fits piece more due rest shut [] after other f same head = f.0
items_shut Fits piece more due rest shut (x ∷ xs) after other f same head = shut x (map piece xs ++ after) other f.1.0 same head

items_here : {X : Type 0} (Fits : X → Type 0) (piece : X → Bytes) (more : X → ℕ) (x0 : X) → Fits x0 → more x0 ≡ 0 → (due : ℕ) (ls rest : List Bytes) → ls ≡ rest
    → ((x : X) (after other : List Bytes) → Fits x → piece x ∷ after ≡ other → take 1 other ≡ take 1 rest → ⊥) → Stops (ItemsFit Fits more (suc due)) (map piece) ls rest
items_here Fits piece more x0 f0 last due ls rest at shut =
    let t = simple Fits more x0 f0 last due in
    let m : more x0 + due ≡ due = omega arith in
    record { front = []; parts = at; item = x0 ∷ t.0; fits = (subst (λ (k : ℕ). Closes more t.0 k) (sym m) t.1.0, (f0, t.1.1)); next = piece x0; more = map piece t.0; opens = refl; shut = λ xs after other f same head. items_shut Fits piece more due rest shut xs after other f same head }

items_later_shut : (Clean : Bytes → Type 0) {X : Type 0} (Fits : X → Type 0) (piece : X → Bytes) (one : Bytes → Option X) (more : X → ℕ) → IsOne Clean Fits piece one → (l : Bytes) (due : ℕ) (x : X) (front rest : List Bytes) → one l ≡ Some x
    → ((xs : List X) (after other : List Bytes) → ItemsFit Fits more (more x + due) xs → map piece xs ++ after ≡ front ++ other → take 1 other ≡ take 1 rest → ⊥)
    → (xs : List X) (after other : List Bytes) → ItemsFit Fits more (suc due) xs → map piece xs ++ after ≡ l ∷ (front ++ other) → take 1 other ≡ take 1 rest → ⊥
items_later_shut Clean Fits piece one more o l due x front rest is shut [] after other f same head = f.0
items_later_shut Clean {X = X} Fits piece one more o l due x front rest is shut (y ∷ ys) after other f same head =
    let h : piece y ≡ l = head_of (piece y) l (map piece ys ++ after) (front ++ other) same in
    let k : y ≡ x = some_is y x (one l) (ap one (sym h) ∙ o.again y f.1.0) is in
    shut ys after other (subst (λ (w : X). Closes more ys (more w + due)) k f.0, f.1.1) (tail_of (piece y) l (map piece ys ++ after) (front ++ other) same) head

items_stop : (Clean : Bytes → Type 0) {X : Type 0} (Fits : X → Type 0) (piece : X → Bytes) (one : Bytes → Option X) (more : X → ℕ) → IsOne Clean Fits piece one → (x0 : X) → Fits x0 → more x0 ≡ 0
    → (ls : List Bytes) (due : ℕ) (rest : List Bytes) → items_read one more ls due ≡ Err rest → Stops (ItemsFit Fits more due) (map piece) ls rest
unfolding items_read
items_stop Clean Fits piece one more o x0 f0 last [] zero rest e = absurd cc
items_stop Clean {X = X} Fits piece one more o x0 f0 last [] (suc due) rest e =
    let k : rest ≡ [] = cc in
    items_here Fits piece more x0 f0 last due [] rest (sym k) (λ x after other f same head. nothing_more (piece x) after other same (head ∙ ap (take 1) k))
items_stop Clean Fits piece one more o x0 f0 last (l ∷ ls) zero rest e = absurd cc
items_stop Clean {X = X} Fits piece one more o x0 f0 last (l ∷ ls) (suc due) rest e =
    elim (bind_err (or_stop (one l) l ls) (λ x. items_read one more ls (more x.0 + due) >>= λ xs. Ok (x.0 ∷ xs.0, xs.1)) rest e) [
      | inl h ↦
          let k = or_stop_err (one l) l ls rest h in
          items_here Fits piece more x0 f0 last due (l ∷ ls) rest (sym k.1) (λ x after other f same head. shut_one Clean Fits piece one o l ls rest k.0 k.1 x after other f same head)
      | inr h ↦
          let k = or_stop_ok (one l) l ls h.0.0 h.0.1 h.1 in
          let x : X = h.0.0 in
          let s = o.sound l h.0.0 k.0 in
          let e2 : items_read one more ls (more h.0.0 + due) ≡ Err rest = map_err (items_read one more ls (more h.0.0 + due)) (λ xs. (h.0.0 ∷ xs.0, xs.1)) rest h.2 in
          let t = items_stop Clean Fits piece one more o x0 f0 last ls (more h.0.0 + due) rest e2 in
          record {
            front = l ∷ t.front;
            parts = ap (λ z. l ∷ z) t.parts;
            item = h.0.0 ∷ t.item;
            fits = (t.fits.0, (s.0, t.fits.1));
            next = t.next;
            more = t.more;
            opens = ap (λ z. z ∷ map piece t.item) (sym s.1) ∙ ap (λ z. l ∷ z) t.opens;
            shut = λ xs after other f same head. items_later_shut Clean Fits piece one more o l due h.0.0 t.front rest k.0 t.shut xs after other f same head;
          }
    ]

items_clean : (Clean : Bytes → Type 0) {X : Type 0} (Fits : X → Type 0) (piece : X → Bytes) (one : Bytes → Option X) → IsOne Clean Fits piece one → (xs : List X) → AllByRecursion Fits xs → AllByRecursion Clean (map piece xs)
items_clean Clean Fits piece one o [] f = tt
items_clean Clean Fits piece one o (x ∷ xs) f = (o.clean x f.0, items_clean Clean Fits piece one o xs f.1)

pub items_form : (Clean : Bytes → Type 0) {X : Type 0} (Fits : X → Type 0) (piece : X → Bytes) (one : Bytes → Option X) (more : X → ℕ) → IsOne Clean Fits piece one → (x0 : X) → Fits x0 → more x0 ≡ 0 → (due : ℕ)
    → IsForm Clean (ItemsFit Fits more due) (map piece) (λ ls. items_read one more ls due)
items_form Clean Fits piece one more o x0 f0 last due = record {
  exact = record {
    sound = λ ls rest xs e. items_sound Clean Fits piece one more o ls due rest xs e;
    again = λ xs rest f. items_again Clean Fits piece one more o xs due rest f;
    clean = λ xs f. items_clean Clean Fits piece one o xs f.1;
  };
  stops = λ ls rest e. items_stop Clean Fits piece one more o x0 f0 last ls due rest e;
}

-- there are such items
pub items_some : {X : Type 0} (Fits : X → Type 0) (more : X → ℕ) (x : X) → Fits x → more x ≡ 0 → (due : ℕ) → (xs : List X) × ItemsFit Fits more due xs
items_some Fits more x f last due = simple Fits more x f last due

-- ---- so many things, numbered

abbrev pub ManyFit : {X : Type 0} → (ℕ → X → Type 0) → ℕ → ℕ → List X → Type 0
ManyFit Fits count i xs = (length xs ≡ count) × EachFrom Fits i xs

pub many_some : {X : Type 0} (Fits : ℕ → X → Type 0) → ((i : ℕ) → (x : X) × Fits i x) → (count i : ℕ) → (xs : List X) × ManyFit Fits count i xs
many_some Fits some zero i = ([], (refl, tt))
many_some Fits some (suc count) i =
    let s = many_some Fits some count (suc i) in
    ((some i).0 ∷ s.0, (ap suc s.1.0, ((some i).1, s.1.1)))

no_items : {X : Type 0} (Fits : ℕ → X → Type 0) (spell : ℕ → X → List Bytes) (item : ℕ → Read X) (i : ℕ) (xs : List X) (rest : List Bytes) → ManyFit Fits 0 i xs → many_read item 0 i (spell_from spell i xs ++ rest) ≡ Ok (xs, rest)
unfolding many_read
no_items Fits spell item i [] rest f = refl
no_items Fits spell item i (x ∷ xs) rest f = absurd (omega (arith, f.0))

many_parts : {X : Type 0} (Fits : ℕ → X → Type 0) (spell : ℕ → X → List Bytes) (count i : ℕ) (xs : List X) → ManyFit Fits (suc count) i xs
    → (x : X) × (ys : List X) × Fits i x × ManyFit Fits count (suc i) ys × (x ∷ ys ≡ xs) × (spell_from spell i xs ≡ spell i x ++ spell_from spell (suc i) ys)
many_parts Fits spell count i [] f = absurd (omega (arith, f.0))
many_parts Fits spell count i (x ∷ xs) f = (x, xs, f.1.0, (omega (arith, f.0), f.1.1), refl, refl)

no_clean : (Clean : Bytes → Type 0) {X : Type 0} (Fits : ℕ → X → Type 0) (spell : ℕ → X → List Bytes) (i : ℕ) (xs : List X) → ManyFit Fits 0 i xs → AllByRecursion Clean (spell_from spell i xs)
no_clean Clean Fits spell i [] f = tt
no_clean Clean Fits spell i (x ∷ xs) f = absurd (omega (arith, f.0))

many_none : (Clean : Bytes → Type 0) {X : Type 0} (Fits : ℕ → X → Type 0) (spell : ℕ → X → List Bytes) (item : ℕ → Read X) (i : ℕ) → IsExact Clean (ManyFit Fits 0 i) (spell_from spell i) (many_read item 0 i)
unfolding many_read
many_none Clean {X = X} Fits spell item i = record {
  sound = λ ls rest xs e. subst (λ (q : List X × List Bytes). ManyFit Fits 0 i q.0 × (ls ≡ spell_from spell i q.0 ++ q.1)) (ok_is {A = List X × List Bytes} ([], ls) (xs, rest) e) ((refl, tt), refl);
  again = λ xs rest f. no_items Fits spell item i xs rest f;
  clean = λ xs f. no_clean Clean Fits spell i xs f;
}

pub many_exact : (Clean : Bytes → Type 0) {X : Type 0} (Fits : ℕ → X → Type 0) (spell : ℕ → X → List Bytes) (item : ℕ → Read X) → ((i : ℕ) → IsExact Clean (Fits i) (spell i) (item i))
    → (count i : ℕ) → IsExact Clean (ManyFit Fits count i) (spell_from spell i) (many_read item count i)
unfolding many_read
many_exact Clean Fits spell item each zero i = many_none Clean Fits spell item i
many_exact Clean {X = X} Fits spell item each (suc count) i =
    join_exact Clean {X = X} {Y = List X} {Z = List X} (λ x xs. x ∷ xs) (Fits i) (spell i) (item i) (λ x. ManyFit Fits count (suc i)) (λ x. spell_from spell (suc i)) (λ x. many_read item count (suc i)) (ManyFit Fits (suc count) i) (spell_from spell i)
    (each i) (λ x f. many_exact Clean Fits spell item each count (suc i))
    (λ x ys f g. ((ap suc g.0, (f, g.1)), refl)) (λ xs f. many_parts Fits spell count i xs f)

pub many_form : (Clean : Bytes → Type 0) {X : Type 0} (Fits : ℕ → X → Type 0) (spell : ℕ → X → List Bytes) (item : ℕ → Read X) → ((i : ℕ) → IsForm Clean (Fits i) (spell i) (item i)) → ((i : ℕ) → (x : X) × Fits i x)
    → (count i : ℕ) → IsForm Clean (ManyFit Fits count i) (spell_from spell i) (many_read item count i)
unfolding many_read
many_form Clean Fits spell item each some zero i = record { exact = many_none Clean Fits spell item i; stops = λ ls rest e. absurd cc }
many_form Clean {X = X} Fits spell item each some (suc count) i =
    join_form Clean {X = X} {Y = List X} {Z = List X} (λ x xs. x ∷ xs) (Fits i) (spell i) (item i) (λ x. ManyFit Fits count (suc i)) (λ x. spell_from spell (suc i)) (λ x. many_read item count (suc i)) (ManyFit Fits (suc count) i) (spell_from spell i)
    (each i) (λ x f. many_form Clean Fits spell item each some count (suc i)) (λ x f. many_some Fits some count (suc i))
    (λ x ys f g. ((ap suc g.0, (f, g.1)), refl)) (λ xs f. many_parts Fits spell count i xs f)
