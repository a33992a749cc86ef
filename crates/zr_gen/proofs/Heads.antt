-- The states of the generator, one after another.
use Rattle.std.proofs.Common.{◌≡◌, ℕ, suc, ◌+◌, ◌*◌, ◌<◌, ◌/◌, ◌%◌, ◌^◌, arith, refl, ap, sym, ◌∙◌, List, [], ◌∷◌, ◌++◌, map, length, get_or}
use Rattle.std.proofs.lemmas.List.FromFn.{get_or-map-range_with_len, length-map-range_with_len, map-range_with_len_more}
use Rattle.std.specs.List.{range_with_len}
use Rattle.zr_gen.specs.Draws.{head, state}

pub state_none : (number : ℕ) → number ≡ state number 0
unfolding state
state_none number = refl

state_next : (number k : ℕ) → state number (suc k)
    ≡ (state number k * 6364136223846793005 + 1442695040888963407) % (2 ^ 64)
unfolding state
state_next number k = refl

pub state_more : (number k : ℕ) → state number (k + 1)
    ≡ (state number k * 6364136223846793005 + 1442695040888963407) % (2 ^ 64)
state_more number k =
    let e : k + 1 ≡ suc k = omega arith in ap (state number) e ∙ state_next number k

pub heads_more : (number k : ℕ) → map (head number) (range_with_len 1 (k + 1))
    ≡ map (head number) (range_with_len 1 k) ++ head number (k + 1) ∷ []
heads_more number k = map-range_with_len_more (head number) 1 k (k + 1) (omega arith)

pub head_read : (number : ℕ) (heads : List ℕ) (place x : ℕ)
    → heads ≡ map (head number) (range_with_len 1 (length heads)) → place < length heads
    → x ≡ get_or heads place 0 → x ≡ head number (place + 1)
head_read number heads place x drawn within is =
    is ∙ ap (λ (l : List ℕ). get_or l place 0) drawn
    ∙ get_or-map-range_with_len (head number) 1 (length heads) place (place + 1) 0 within (omega arith)

pub heads_pushed : (number k x s : ℕ) (old new : List ℕ)
    → old ≡ map (head number) (range_with_len 1 k) → new ≡ old ++ x ∷ [] → x ≡ s / (2 ^ 33)
    → s ≡ state number (k + 1) → new ≡ map (head number) (range_with_len 1 (k + 1))
heads_pushed number k x s old new before e is at =
    e ∙ ap (λ (l : List ℕ). l ++ x ∷ []) before
    ∙ ap (λ (y : ℕ). map (head number) (range_with_len 1 k) ++ y ∷ [])
    (is ∙ ap (λ (t : ℕ). t / (2 ^ 33)) at)
    ∙ sym (heads_more number k)

pub heads_count : (number k : ℕ) (heads : List ℕ)
    → heads ≡ map (head number) (range_with_len 1 k) → length heads ≡ k
heads_count number k heads e = ap length e ∙ length-map-range_with_len (head number) 1 k

pub heads_whole : (number k : ℕ) (heads : List ℕ)
    → heads ≡ map (head number) (range_with_len 1 k)
    → heads ≡ map (head number) (range_with_len 1 (length heads))
heads_whole number k heads e =
    e ∙ ap (λ (n : ℕ). map (head number) (range_with_len 1 n)) (sym (heads_count number k heads e))
