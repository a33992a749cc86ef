-- The means of all players, player by player.
use Rattle.std.proofs.Common.{◌≡◌, ◌+◌, arith, refl, sym, ap, ap₂, ◌∙◌, append_assoc, Result, Ok, Err, List, [], ◌∷◌, ◌++◌, length, drop}
use Rattle.std.proofs.lemmas.List.{append-nil, length-append}
use Rattle.zr_base.specs.declared.step.Wide.{Wide}
use Rattle.zr_base.specs.Fractions.{Fraction}
use Rattle.zr_base.specs.Steps.{◌>>=◌}
use Rattle.zr_base.proofs.CrossLaws.{then_ok}
use Rattle.zr_base.proofs.Made.{made_items}
use Rattle.zr_game.specs.Players.{GameOf, PlayerOf}
use Rattle.zr_mix.specs.Steps.{mean_steps, var_total}
use Rattle.zr_cert.specs.Certs.{MixtureOf}
use Rattle.zr_check.specs.Bounds.{all_means}
use Rattle.zr_check.specs.Parts.{mean_list}

-- what the means of the players left give, after those so far
abbrev pub after : List Fraction → Result (List Fraction) Wide → Result (List Fraction) Wide
after made rest = rest >>= λ list. Ok (made ++ list)

after_none : (r : Result (List Fraction) Wide) → r ≡ after [] r
after_none (Ok list) = refl
after_none (Err w) = refl

pub start : (game : GameOf) (mixtures : List MixtureOf)
    → all_means game mixtures ≡ after [] (all_means (drop 0 game) (drop 0 mixtures))
start game mixtures = after_none (all_means game mixtures)

-- a player more
pub one_player : (game : GameOf) (mixtures : List MixtureOf) (made own : List Fraction)
    (p : PlayerOf) (m : MixtureOf) → mean_list p m ≡ Ok own
    → after made (all_means (p ∷ game) (m ∷ mixtures))
    ≡ after (made ++ own) (all_means game mixtures)
one_player game mixtures made own p m e =
    rw e (onward (all_means game mixtures))
  where
    onward : (r : Result (List Fraction) Wide)
        → after made (r >>= λ rest. Ok (own ++ rest)) ≡ after (made ++ own) r
    onward (Ok rest) = ap Ok (sym (append_assoc made own rest))
    onward (Err w) = refl

pub wide_player : (game : GameOf) (mixtures : List MixtureOf) (made : List Fraction) (p : PlayerOf)
    (m : MixtureOf) (w : Wide) → mean_list p m ≡ Err w
    → after made (all_means (p ∷ game) (m ∷ mixtures)) ≡ Err w
wide_player game mixtures made p m w e = rw e refl

pub all_players : (made : List Fraction) (mixtures : List MixtureOf)
    → after made (all_means [] mixtures) ≡ Ok made
all_players made mixtures = ap Ok (append-nil made)

-- as many as there are variables
pub means_len : (game : GameOf) (mixtures : List MixtureOf) → length mixtures ≡ length game
    → (list : List Fraction) → all_means game mixtures ≡ Ok list → length list ≡ var_total game
means_len [] mixtures len list e = let s : [] ≡ list = cc in sym (ap length s)
means_len (p ∷ ps) [] len list e = absurd (omega (arith, len))
means_len (p ∷ ps) (m ∷ ms) len list e =
    let s = then_ok (mean_list p m)
    (λ first. all_means ps ms >>= λ rest. Ok (first ++ rest)) list e in
    let t = then_ok (all_means ps ms) (λ rest. Ok (s.0 ++ rest)) list s.2 in
    let all : s.0 ++ t.0 ≡ list = (let q = t.2 in cc) in
    let own = (made_items (mean_steps m.total m.parts) 0 (length p.vars) s.0 s.1).0 in
    let rest = means_len ps ms (omega (arith, len)) t.0 t.1 in
    sym (ap length all) ∙ length-append s.0 t.0 ∙ ap₂ ◌+◌ own rest
