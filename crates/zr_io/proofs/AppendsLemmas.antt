-- Pieces written one after another.
use Rattle.std.proofs.Common.{◌≡◌, ℕ, ◌+◌, ◌-◌, ◌++◌, length, take, drop, arith, ap, subst, ◌∙◌, append_assoc}
use Rattle.std.proofs.Math.Seq.{take-add, take-append-add}
use Rattle.std.proofs.lemmas.List.{length-append, length-drop, take-append-drop, take_all}
use Rattle.std.specs.Prelude.{Option, Some}
use Rattle.zr_io.specs.Contents.{Bytes}
use Rattle.zr_io.specs.Written.{Appends, AppendsPrefix}

-- one piece and then another are the two pieces joined
pub appends_append : (a b c : Option Bytes) (p q : Bytes) → Appends a p b → Appends b q c → Appends a (p ++ q) c
appends_append a b c p q front next = λ xs told. next _ (front xs told) ∙ ap Some (append_assoc xs p q)

-- one piece and then a prefix of another are a prefix of the two joined
pub appends_prefix_append : (a b c : Option Bytes) (p q : Bytes) → Appends a p b → AppendsPrefix b q c → AppendsPrefix a (p ++ q) c
appends_prefix_append a b c p q front next = (
  length p + next.0,
  omega (arith, next.1, length-append p q),
  rw (take-append-add p q next.0) (appends_append a b c p (take next.0 q) front next.2),
)

-- the first `at` bytes of a piece and then the next n
pub appends_more : (a b c : Option Bytes) (bytes : Bytes) (at n : ℕ) → Appends a (take at bytes) b → Appends b (take n (drop at bytes)) c → Appends a (take (at + n) bytes) c
appends_more a b c bytes at n front next =
    rw (take-add at n bytes) (appends_append a b c (take at bytes) (take n (drop at bytes)) front next)

-- the first `at` bytes of a piece and then a prefix of the rest
pub appends_prefix_more : (a b c : Option Bytes) (bytes : Bytes) (at : ℕ) → Appends a (take at bytes) b → AppendsPrefix b (drop at bytes) c → AppendsPrefix a bytes c
appends_prefix_more a b c bytes at front next =
    let P : Bytes → Type 0 = λ piece. AppendsPrefix a piece c in
    subst P (take-append-drop at bytes) (appends_prefix_append a b c (take at bytes) (drop at bytes) front next)

-- the rest of a piece is as long as it is
pub whole_rest : (at : ℕ) (xs : Bytes) → take (length xs - at) (drop at xs) ≡ drop at xs
whole_rest at xs = take_all (length xs - at) (drop at xs) (omega (arith, length-drop at xs))
