-- What is read of a line field after field.
use Rattle.std.proofs.Common.{◌≡◌, List, Option, Some, None, Result, Ok, Err, sym, refl, ap, ◌∙◌, Bor}
use Rattle.std.specs.Prelude.{option_map, option_copied, is_some, is_none}
use Rattle.zr_form.specs.Reading.{Bytes, Read, ◌>>=◌, join_read}
use Rattle.zr_form.specs.Code.{left_of}
use Rattle.zr_form.specs.Fields.{word_read, alone, ended, join_whole, skip, pair}
use Rattle.zr_form.proofs.Parsing.{alone_more}

-- ---- one after the other

pub join_reads : {X Y Z : Type 0} (make : X → Y → Z) (first : Read X) (second : X → Read Y) (fs gs hs : List Bytes) (x : X) (y : Y) → first fs ≡ Ok (x, gs) → second x gs ≡ Ok (y, hs) → join_read make first second fs ≡ Ok (make x y, hs)
join_reads make first second fs gs hs x y e g = rw (e, g) refl

pub join_first_stops : {X Y Z : Type 0} (make : X → Y → Z) (first : Read X) (second : X → Read Y) (fs e : List Bytes) → first fs ≡ Err e → join_read make first second fs ≡ Err e
join_first_stops make first second fs e h = rw h refl

pub join_second_stops : {X Y Z : Type 0} (make : X → Y → Z) (first : Read X) (second : X → Read Y) (fs gs e : List Bytes) (x : X) → first fs ≡ Ok (x, gs) → second x gs ≡ Err e → join_read make first second fs ≡ Err e
join_second_stops make first second fs gs e x h g = rw (h, g) refl

pub pair_reads : {X Y : Type 0} (first : Read X) (second : Read Y) (fs gs hs : List Bytes) (x : X) (y : Y) → first fs ≡ Ok (x, gs) → second gs ≡ Ok (y, hs) → pair first second fs ≡ Ok ((x, y), hs)
pair_reads {X = X} {Y = Y} first second fs gs hs x y e g = join_reads {X = X} {Y = Y} {Z = X × Y} (λ a b. (a, b)) first (λ a. second) fs gs hs x y e g

pub pair_first_stops : {X Y : Type 0} (first : Read X) (second : Read Y) (fs e : List Bytes) → first fs ≡ Err e → pair first second fs ≡ Err e
pair_first_stops {X = X} {Y = Y} first second fs e h = join_first_stops {X = X} {Y = Y} {Z = X × Y} (λ a b. (a, b)) first (λ a. second) fs e h

pub pair_second_stops : {X Y : Type 0} (first : Read X) (second : Read Y) (fs gs e : List Bytes) (x : X) → first fs ≡ Ok (x, gs) → second gs ≡ Err e → pair first second fs ≡ Err e
pair_second_stops {X = X} {Y = Y} first second fs gs e x h g = join_second_stops {X = X} {Y = Y} {Z = X × Y} (λ a b. (a, b)) first (λ a. second) fs gs e x h g

-- ---- words

kept : {X : Type 0} (r : Result (X × List Bytes) (List Bytes)) → (r >>= λ x. Ok (x.0, x.1)) ≡ r
kept (Ok x) = refl
kept (Err e) = refl

-- what follows a word that is there; the code compares with a given text, which is that word
pub word_skipped : {X : Type 0} (word given w : Bytes) (read : Read X) (fs gs : List Bytes) → given ≡ word → word_read given fs ≡ Ok (w, gs) → skip word read fs ≡ read gs
word_skipped word given w read fs gs same e = let k = ap (λ (z : Bytes). word_read z fs) (sym same) ∙ e in rw k (kept (read gs))

pub word_missing : {X : Type 0} (word given : Bytes) (read : Read X) (fs e : List Bytes) → given ≡ word → word_read given fs ≡ Err e → skip word read fs ≡ Err e
word_missing word given read fs e same h = let k = ap (λ (z : Bytes). word_read z fs) (sym same) ∙ h in rw k refl

-- ---- to the end

pub ended_reads : {X : Type 0} (r : Result (X × List Bytes) (List Bytes)) (gs : List Bytes) (x : X) → r ≡ Ok (x, gs) → ended r ≡ alone x gs
ended_reads r gs x e = rw e refl

pub ended_stops : {X : Type 0} (r : Result (X × List Bytes) (List Bytes)) (e : List Bytes) → r ≡ Err e → ended r ≡ None
ended_stops r e h = rw h refl

-- whether nothing is left
pub none_left : {X : Type 0} (x : X) (left : Option (Bor Bytes)) → is_none left ≡ is_some (alone x (left_of (option_copied left)))
none_left x None = refl
none_left x (Some r) = ap is_some (sym (alone_more x (Some r) r refl))

-- the second to the end
pub whole_reads : {X Y Z : Type 0} (make : X → Y → Z) (first : Read X) (second : X → List Bytes → Option Y) (fs gs : List Bytes) (x : X) → first fs ≡ Ok (x, gs) → join_whole make first second fs ≡ option_map (make x) (second x gs)
whole_reads make first second fs gs x e = rw e refl

pub whole_stops : {X Y Z : Type 0} (make : X → Y → Z) (first : Read X) (second : X → List Bytes → Option Y) (fs e : List Bytes) → first fs ≡ Err e → join_whole make first second fs ≡ None
whole_stops make first second fs e h = rw h refl
