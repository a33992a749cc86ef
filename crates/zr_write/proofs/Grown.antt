-- Lists of values, made item by item, and names by their numbers.
use Rattle.std.proofs.Common.{◌≡◌, ℕ, ◌+◌, ◌<◌, ◌≤◌, List, [], ◌∷◌, map, take, drop, length, get_or, refl, sym, ap, ◌∙◌, Bool, arith, codes, Vec, true, ltb}
use Rattle.std.specs.Prelude.{slice_index_or, ◌&&◌}
use Rattle.std.specs.List.{drop-map, list_all, take-map}
use Rattle.std.specs.declared.alloc.Global.{Global}
use Rattle.std.proofs.lemmas.List.{take_all, drop_all, drop_more}
use Rattle.std.proofs.lemmas.List.{get_or-map}
use Rattle.std.proofs.lemmas.Bool.{ltb-true}
use Rattle.zr_source.specs.declared.source.Follower.{Follower}
use Rattle.zr_source.specs.SourceForms.{first_of}
use Rattle.serde_json.specs.Data.{Data, Members, member, array}
use Rattle.serde_json.specs.View.{items_of, view}
use Rattle.serde_json.specs.declared.value.Value.{Value, Array}
use Rattle.serde_json.proofs.Views.{view-Array}
use Rattle.zr_source.specs.declared.source.Leader.{Leader}
use Rattle.zr_game.specs.declared.player.Other.{Other}
use Rattle.zr_source.specs.Sources.{SourceOf, follower_of, leader_of, leaders_of}
use Rattle.zr_write.specs.Canonical.{leader_data, leaders_data, list_data, other_data, others_member}

-- the values stand for the first k items
abbrev pub Stands : {A : Type 0} → (A → Data) → List A → ℕ → List Value → Type 0
Stands f xs k made = map view made ≡ map f (take k xs)

fused : {A B C : Type 0} (f : B → C) (h : A → B) (xs : List A) → map (λ x. f (h x)) xs ≡ map f (map h xs)
fused f h [] = refl
fused f h (x ∷ xs) = ap (λ l. f (h x) ∷ l) (fused f h xs)

pub whole_by : {A B : Type 0} (f : B → Data) (h : A → B) (xs : List A) (k : ℕ) (made : Vec Value Global) → length xs ≤ k → Stands (λ x. f (h x)) xs k made.items
    → view (Array made) ≡ list_data f (map h xs)
whole_by f h xs k made le s = view-Array made ∙ ap (λ l. array (items_of l)) (s ∙ ap (map (λ x. f (h x))) (take_all k xs le) ∙ fused f h xs)

pub whole_twice : {A B C : Type 0} (f : C → Data) (g : B → C) (h : A → B) (xs : List A) (k : ℕ) (made : Vec Value Global) → length xs ≤ k → Stands (λ x. f (g (h x))) xs k made.items
    → view (Array made) ≡ list_data f (map g (map h xs))
whole_twice f g h xs k made le s = whole_by f (λ x. g (h x)) xs k made le s ∙ ap (list_data f) (fused g h xs)

pub all_fused : {A B : Type 0} (f : B → Bool) (h : A → B) (xs : List A) → list_all (λ x. f (h x)) xs ≡ list_all f (map h xs)
all_fused f h [] = refl
all_fused f h (x ∷ xs) = ap (λ b. f (h x) && b) (all_fused f h xs)

-- what stands at a place
index_is : {A B : Type 0} (h : A → B) (xs : List A) (v : ℕ) (x : A) (d : B) → true ≡ ltb v (length xs) → x ≡ get_or xs v x → slice_index_or (map h xs) v d ≡ h x
index_is h xs v x d lt e = let here = ltb-true v (length xs) (sym lt) in get_or-map h xs v x d here ∙ ap h (sym e)

pub index_twice : {A B C : Type 0} (g : B → C) (h : A → B) (xs : List A) (v : ℕ) (x : A) (d : C) → true ≡ ltb v (length xs) → x ≡ get_or xs v x → slice_index_or (map g (map h xs)) v d ≡ g (h x)
index_twice g h xs v x d lt e = ap (λ l. slice_index_or l v d) (sym (fused g h xs)) ∙ index_is (λ y. g (h y)) xs v x d lt e

-- where the followers' variables begin
pub first_is : (n : ℕ) (fs : List Follower) (f : Follower) → 0 < length fs → f ≡ get_or fs 0 f → first_of n (map follower_of fs) ≡ f.first
first_is n [] f lt e = absurd (omega arith)
first_is n (x ∷ xs) f lt e = sym (ap (λ (y : Follower). y.first) e)

-- a run of what stands for the items
pub run_by : {A B : Type 0} (h : A → B) (m n : ℕ) (xs : List A) → map h (take n (drop m xs)) ≡ take n (drop m (map h xs))
run_by h m n xs = sym (ap (take n) (drop-map h m xs) ∙ take-map h n (drop m xs))

pub run_twice : {A B C : Type 0} (g : B → C) (h : A → B) (m n : ℕ) (xs : List A) → map g (map h (take n (drop m xs))) ≡ take n (drop m (map g (map h xs)))
run_twice g h m n xs = ap (map g) (run_by h m n xs) ∙ run_by g m n (map h xs)

pub others_there : (source : SourceOf) (ts : List Other) (rest : Members) → 0 < length ts
    → others_member source ts rest ≡ member (codes "others") (list_data (other_data source) ts) rest
others_there source [] rest h = absurd (omega arith)
others_there source (t ∷ ts) rest h = refl

-- the leaders that are left
pub leaders_left : (lows : Bool) (source : SourceOf) (k : ℕ) (xs : List Leader) (x : Leader) → k < length xs → x ≡ get_or xs k x
    → leaders_data lows source k (leaders_of (drop k xs)) ≡ leader_data lows source k (leader_of x) ∷ leaders_data lows source (k + 1) (leaders_of (drop (k + 1) xs))
leaders_left lows source k xs x lt is =
    let next : drop k xs ≡ get_or xs k x ∷ drop (k + 1) xs = drop_more xs k x lt in
    ap (λ l. leaders_data lows source k (leaders_of l)) (next ∙ ap (λ y. y ∷ drop (k + 1) xs) (sym is))

pub leaders_done : (lows : Bool) (source : SourceOf) (k : ℕ) (xs : List Leader) → length xs ≤ k → leaders_data lows source k (leaders_of (drop k xs)) ≡ []
leaders_done lows source k xs le = ap (λ l. leaders_data lows source k (leaders_of l)) (drop_all k xs le)
