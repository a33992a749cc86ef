-- Names behind references, and their places.
use Rattle.std.proofs.Common.{◌≡◌, suc, ◌+◌, Bool, false, cond, not, List, [], ◌∷◌, ◌++◌, map, length, ap, refl, sym, ◌∙◌, position, ◌||◌}
use Rattle.std.specs.List.{list_any, prefix_len}
use Rattle.std.specs.Borrow.{Bor}
use Rattle.std.specs.Str.{bytes_eq}
use Rattle.indexmap.specs.IndexSet.{insert_key}
use Rattle.std.proofs.lemmas.List.{map-append}
use Rattle.zr_game.specs.Players.{Name}

-- the texts of borrowed names
abbrev pub texts : List (Bor Name) → List Name
texts ks = map (λ k. k.now) ks

pub list_any-texts : (p : Name → Bool) (ks : List (Bor Name)) → list_any p (texts ks) ≡ list_any (λ k. p k.now) ks
list_any-texts p [] = refl
list_any-texts p (k ∷ ks) = ap (λ b. p k.now || b) (list_any-texts p ks)

pub length-texts : (ks : List (Bor Name)) → length (texts ks) ≡ length ks
length-texts [] = refl
length-texts (k ∷ ks) = ap suc (length-texts ks)

prefix-texts : (p : Name → Bool) (ks : List (Bor Name)) → prefix_len p (texts ks) ≡ prefix_len (λ k. p k.now) ks
prefix-texts p [] = refl
prefix-texts p (k ∷ ks) = ap (λ n. cond (p k.now) (1 + n) 0) (prefix-texts p ks)

pub position-texts : (p : Name → Bool) (ks : List (Bor Name)) → position p (texts ks) ≡ position (λ k. p k.now) ks
position-texts p ks = rw (prefix-texts (λ x. not (p x)) ks, length-texts ks) refl

-- a new name goes last
pub texts_push : (ks more : List (Bor Name)) (k : Bor Name) → more ≡ insert_key (λ x y. bytes_eq x.now y.now) ks k → list_any (bytes_eq k.now) (texts ks) ≡ false → texts more ≡ texts ks ++ k.now ∷ []
texts_push ks more k h new = rw h (rw (sym (list_any-texts (bytes_eq k.now) ks) ∙ new) (map-append (λ k. k.now) ks (k ∷ [])))
