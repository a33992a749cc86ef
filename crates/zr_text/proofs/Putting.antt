-- Texts that are written piece by piece.
use Rattle.std.proofs.Common.{◌≡◌, ℕ, suc, ◌+◌, ◌<◌, ◌≤◌, ℤ, List, [], ◌∷◌, ◌++◌, map, take, get_or, length, sym, refl, ap, ap₂, ◌∙◌, append_assoc, arith}
use Rattle.std.specs.List.{zip}
use Rattle.std.proofs.lemmas.List.{append-nil, length-map, length-take-le, map_push, take_more, take_all}
use Rattle.zr_form.specs.Lines.{concat, spaced}
use Rattle.zr_form.specs.Numbers.{decimal, signed}
use Rattle.zr_form.specs.Reading.{Bytes, spell_from}
use Rattle.std.specs.Global.{Vec}
use Rattle.zr_game.specs.declared.named.Named.{Named}
use Rattle.zr_game.specs.Named.{NamedOf}
use Rattle.zr_tree.specs.declared.tree.Tree.{Tree}
use Rattle.zr_tree.specs.Nodes.{Multipliers, NodeOf}
use Rattle.zr_cert.specs.Certs.{named_list, nodes_of}
use Rattle.zr_text.specs.Spelling.{cover_lines}
use Rattle.zr_lines.specs.Spelling.{multiplier_fields}

-- the text of a list grows by a piece with each item, which goes by the number of items before it
pub record Grows {A : Type 0} (text : List A → Bytes) (piece : ℕ → A → Bytes) : Type 0 where
  pub none : text [] ≡ []
  pub more : (xs : List A) (x : A) → text (xs ++ x ∷ []) ≡ text xs ++ piece (length xs) x

module _ {A : Type 0} {text : List A → Bytes} {piece : ℕ → A → Bytes} (g : Grows text piece) (start : Bytes) (xs : List A) where
  pub none_written : start ≡ start ++ text (take 0 xs)
  none_written = sym (append-nil start) ∙ ap (λ (z : Bytes). start ++ z) (sym g.none)

  pub more_written : (i : ℕ) (x : A) (before after : Bytes) → i < length xs → x ≡ get_or xs i x → before ≡ start ++ text (take i xs) → after ≡ before ++ piece i x → after ≡ start ++ text (take (i + 1) xs)
  more_written i x before after here is written put =
      let cut : take (i + 1) xs ≡ take i xs ++ x ∷ [] = take_more xs i x here ∙ ap (λ (z : A). take i xs ++ z ∷ []) (sym is) in
      let count : length (take i xs) ≡ i = length-take-le i xs (omega arith) in
      let grown : text (take (i + 1) xs) ≡ text (take i xs) ++ piece i x = ap text cut ∙ (g.more (take i xs) x ∙ ap (λ (k : ℕ). text (take i xs) ++ piece k x) count) in
      put ∙ (ap (λ (z : Bytes). z ++ piece i x) written ∙ (append_assoc start (text (take i xs)) (piece i x) ∙ ap (λ (z : Bytes). start ++ z) (sym grown)))

  pub all_written : (i : ℕ) (after : Bytes) → length xs ≤ i → after ≡ start ++ text (take i xs) → after ≡ start ++ text xs
  all_written i after end written = written ∙ ap (λ (z : List A). start ++ text z) (take_all i xs end)

spaced_append : (fs gs : List Bytes) → spaced (fs ++ gs) ≡ spaced fs ++ spaced gs
spaced_append [] gs = refl
spaced_append (f ∷ fs) gs = ap (λ (z : Bytes). 32 ∷ (f ++ z)) (spaced_append fs gs) ∙ ap (λ (z : Bytes). 32 ∷ z) (sym (append_assoc f (spaced fs) (spaced gs)))

concat_append : (ps qs : List Bytes) → concat (ps ++ qs) ≡ concat ps ++ concat qs
concat_append [] qs = refl
concat_append (p ∷ ps) qs = ap (λ (z : Bytes). p ++ z) (concat_append ps qs) ∙ sym (append_assoc p (concat ps) (concat qs))

-- numbers, with a space before each
pub numbers_grow : Grows (λ (zs : List ℤ). spaced (map signed zs)) (λ i z. 32 ∷ signed z)
numbers_grow = record {
  none = refl;
  more = λ zs z. ap spaced (map_push signed zs z) ∙ (spaced_append (map signed zs) (signed z ∷ []) ∙ ap (λ (e : Bytes). spaced (map signed zs) ++ 32 ∷ e) (append-nil (signed z)));
}

multipliers_more : (ts : Multipliers) (t : ℕ × ℤ) → multiplier_fields (ts ++ t ∷ []) ≡ multiplier_fields ts ++ decimal t.0 ∷ signed t.1 ∷ []
multipliers_more [] t = refl
multipliers_more (s ∷ ts) t = ap (λ (z : List Bytes). decimal s.0 ∷ signed s.1 ∷ z) (multipliers_more ts t)

-- rows with their multipliers
pub multipliers_grow : Grows (λ (ts : Multipliers). spaced (multiplier_fields ts)) (λ i t. (32 ∷ decimal t.0) ++ 32 ∷ signed t.1)
multipliers_grow = record {
  none = refl;
  more = λ ts t. ap spaced (multipliers_more ts t) ∙ (spaced_append (multiplier_fields ts) (decimal t.0 ∷ signed t.1 ∷ []) ∙ ap (λ (e : Bytes). spaced (multiplier_fields ts) ++ 32 ∷ (decimal t.0 ++ 32 ∷ e)) (append-nil (signed t.1)));
}

-- a line for each item
pub lines_grow : {A B : Type 0} (line : B → Bytes) (g : A → B) → Grows (λ (xs : List A). concat (map line (map g xs))) (λ i x. line (g x))
lines_grow {A} {B} line g = record {
  none = refl;
  more = λ xs x. ap (λ (ys : List B). concat (map line ys)) (map_push g xs x) ∙ (ap concat (map_push line (map g xs) (g x)) ∙ (concat_append (map line (map g xs)) (line (g x) ∷ []) ∙ ap (λ (e : Bytes). concat (map line (map g xs)) ++ e) (append-nil (line (g x)))));
}

spell_more : {B : Type 0} (spell : ℕ → B → List Bytes) (i : ℕ) (ys : List B) (y : B) (n : ℕ) → n ≡ i + length ys → spell_from spell i (ys ++ y ∷ []) ≡ spell_from spell i ys ++ (spell n y ++ [])
spell_more spell i [] y n e = ap (λ (k : ℕ). spell k y ++ []) (omega (arith, e))
spell_more spell i (x ∷ ys) y n e = ap (λ (z : List Bytes). spell i x ++ z) (spell_more spell (suc i) ys y n (omega (arith, e))) ∙ sym (append_assoc (spell i x) (spell_from spell (suc i) ys) (spell n y ++ []))

-- lines for each item, by its number
pub blocks_grow : {A B : Type 0} (spell : ℕ → B → List Bytes) (g : A → B) → Grows (λ (xs : List A). concat (spell_from spell 0 (map g xs))) (λ i x. concat (spell i (g x)))
blocks_grow {A} {B} spell g = record {
  none = refl;
  more = λ xs x. ap (λ (ys : List B). concat (spell_from spell 0 ys)) (map_push g xs x) ∙ (ap concat (spell_more spell 0 (map g xs) (g x) (length xs) (omega (arith, length-map xs g))) ∙ (concat_append (spell_from spell 0 (map g xs)) (spell (length xs) (g x) ++ []) ∙ ap (λ (z : List Bytes). concat (spell_from spell 0 (map g xs)) ++ concat z) (append-nil (spell (length xs) (g x)))));
}

-- lines that follow others
module _ (start : Bytes) where
  pub first_line : {after : Bytes} (line : Bytes) → after ≡ start ++ line → after ≡ start ++ concat (line ∷ [])
  first_line line put = put ∙ ap (λ (z : Bytes). start ++ z) (sym (append-nil line))

  pub more_lines : {before after : Bytes} (ps qs : List Bytes) → before ≡ start ++ concat ps → after ≡ before ++ concat qs → after ≡ start ++ concat (ps ++ qs)
  more_lines ps qs written put =
      put ∙ (ap (λ (z : Bytes). z ++ concat qs) written ∙ (append_assoc start (concat ps) (concat qs) ∙ ap (λ (z : Bytes). start ++ z) (sym (concat_append ps qs))))

  pub one_line : {before after : Bytes} (ps : List Bytes) (line : Bytes) → before ≡ start ++ concat ps → after ≡ before ++ line → after ≡ start ++ concat (ps ++ line ∷ [])
  one_line {before} ps line written put = more_lines ps (line ∷ []) written (put ∙ ap (λ (z : Bytes). before ++ z) (sym (append-nil line)))

-- ---- two lists side by side

pub zip_push : {A B : Type 0} (xs : List A) (ys : List B) (x : A) (y : B) → length ys ≡ length xs → zip (xs ++ x ∷ []) (ys ++ y ∷ []) ≡ zip xs ys ++ (x, y) ∷ []
zip_push [] [] x y e = refl
zip_push [] (b ∷ ys) x y e = absurd (omega (arith, e))
zip_push (a ∷ xs) [] x y e = absurd (omega (arith, e))
zip_push {A} {B} (a ∷ xs) (b ∷ ys) x y e = ap (λ (z : List (A × B)). (a, b) ∷ z) (zip_push xs ys x y (omega (arith, e)))

zip_long : {A B : Type 0} (xs : List A) (ys : List B) → length ys ≡ length xs → length (zip xs ys) ≡ length xs
zip_long [] ys e = refl
zip_long (x ∷ xs) [] e = absurd (omega (arith, e))
zip_long (x ∷ xs) (y ∷ ys) e = ap suc (zip_long xs ys (omega (arith, e)))

pub covers_pushed : (covers : List Tree) (named : List (Vec Named)) (x : Tree) (y : Vec Named) → length named ≡ length covers → zip (map nodes_of (covers ++ x ∷ [])) (map named_list (named ++ y ∷ [])) ≡ zip (map nodes_of covers) (map named_list named) ++ (nodes_of x, named_list y) ∷ []
covers_pushed covers named x y same =
    ap₂ (λ (a : List (List NodeOf)) (b : List (List NamedOf)). zip a b) (map_push nodes_of covers x) (map_push named_list named y) ∙ zip_push (map nodes_of covers) (map named_list named) (nodes_of x) (named_list y) (length-map named named_list ∙ same ∙ sym (length-map covers nodes_of))

-- the lines of covers, each with those of its points and rays
abbrev pub covers_text : List Tree → List (Vec Named) → Bytes
covers_text covers named = concat (spell_from cover_lines 0 (zip (map nodes_of covers) (map named_list named)))

pub no_covers_written : (start : Bytes) (covers : List Tree) (named : List (Vec Named)) → start ≡ start ++ covers_text (take 0 covers) (take 0 named)
no_covers_written start covers named = sym (append-nil start)

pub covers_written : (start : Bytes) (covers : List Tree) (named : List (Vec Named)) (i : ℕ) (cover : Tree) (items : Vec Named) (before after : Bytes) → i < length covers → length named ≡ length covers → cover ≡ get_or covers i cover → items ≡ get_or named i items
    → before ≡ start ++ covers_text (take i covers) (take i named) → after ≡ before ++ concat (cover_lines i (nodes_of cover, named_list items)) → after ≡ start ++ covers_text (take (i + 1) covers) (take (i + 1) named)
covers_written start covers named i cover items before after here same p q written put =
    let xs = map nodes_of (take i covers) in
    let ys = map named_list (take i named) in
    let c : List NodeOf × List NamedOf = (nodes_of cover, named_list items) in
    let m : i < length named = omega (arith, here, same) in
    let le : i ≤ length covers = omega (arith, here) in
    let le2 : i ≤ length named = omega (arith, here, same) in
    let nx : length xs ≡ i = length-map (take i covers) nodes_of ∙ length-take-le i covers le in
    let ny : length ys ≡ i = length-map (take i named) named_list ∙ length-take-le i named le2 in
    let fit : length (take i named) ≡ length (take i covers) = length-take-le i named le2 ∙ sym (length-take-le i covers le) in
    let grown_x : take (i + 1) covers ≡ take i covers ++ cover ∷ [] = take_more covers i cover here ∙ ap (λ (z : Tree). take i covers ++ z ∷ []) (sym p) in
    let grown_y : take (i + 1) named ≡ take i named ++ items ∷ [] = take_more named i items m ∙ ap (λ (z : Vec Named). take i named ++ z ∷ []) (sym q) in
    let zipped : zip (map nodes_of (take (i + 1) covers)) (map named_list (take (i + 1) named)) ≡ zip xs ys ++ c ∷ [] = ap₂ (λ (a : List Tree) (b : List (Vec Named)). zip (map nodes_of a) (map named_list b)) grown_x grown_y ∙ covers_pushed (take i covers) (take i named) cover items fit in
    let size : i ≡ 0 + length (zip xs ys) = omega (arith, zip_long xs ys (ny ∙ sym nx), nx) in
    let spelled : spell_from cover_lines 0 (zip xs ys ++ c ∷ []) ≡ spell_from cover_lines 0 (zip xs ys) ++ (cover_lines i c ++ []) = spell_more cover_lines 0 (zip xs ys) c i size in
    let joined : concat (spell_from cover_lines 0 (zip xs ys ++ c ∷ [])) ≡ concat (spell_from cover_lines 0 (zip xs ys)) ++ concat (cover_lines i c) = ap concat (spelled ∙ ap (λ (z : List Bytes). spell_from cover_lines 0 (zip xs ys) ++ z) (append-nil (cover_lines i c))) ∙ concat_append (spell_from cover_lines 0 (zip xs ys)) (cover_lines i c) in
    put ∙ ap (λ (z : Bytes). z ++ concat (cover_lines i c)) written ∙ append_assoc start (concat (spell_from cover_lines 0 (zip xs ys))) (concat (cover_lines i c)) ∙ ap (λ (z : Bytes). start ++ z) (sym (ap (λ (z : List (List NodeOf × List NamedOf)). concat (spell_from cover_lines 0 z)) zipped ∙ joined))

pub all_covers_written : (start : Bytes) (covers : List Tree) (named : List (Vec Named)) (i : ℕ) (after : Bytes) → length covers ≤ i → length named ≡ length covers → after ≡ start ++ covers_text (take i covers) (take i named) → after ≡ start ++ covers_text covers named
all_covers_written start covers named i after end same written =
    written ∙ ap₂ (λ (a : List Tree) (b : List (Vec Named)). start ++ covers_text a b) (take_all i covers end) (take_all i named (omega (arith, end, same)))

-- ---- a line whose fields are two lists

pub two_lists_written : (start word : Bytes) (a b : List Bytes) (x y z end : Bytes) → x ≡ start ++ word → y ≡ x ++ spaced a → z ≡ y ++ spaced b → end ≡ z ++ 10 ∷ [] → end ≡ start ++ ((word ++ spaced (a ++ b)) ++ 10 ∷ [])
two_lists_written start word a b x y z end e f g h =
    let joined : (word ++ spaced a) ++ spaced b ≡ word ++ spaced (a ++ b) = append_assoc word (spaced a) (spaced b) ∙ ap (λ (s : Bytes). word ++ s) (sym (spaced_append a b)) in
    let first : y ≡ start ++ (word ++ spaced a) = f ∙ ap (λ (s : Bytes). s ++ spaced a) e ∙ append_assoc start word (spaced a) in
    let second : z ≡ start ++ (word ++ spaced (a ++ b)) = g ∙ ap (λ (s : Bytes). s ++ spaced b) first ∙ append_assoc start (word ++ spaced a) (spaced b) ∙ ap (λ (s : Bytes). start ++ s) joined in
    h ∙ ap (λ (s : Bytes). s ++ 10 ∷ []) second ∙ append_assoc start (word ++ spaced (a ++ b)) (10 ∷ [])
