-- A walk through the players' lists of items, by their lengths.
use Rattle.std.proofs.Common.{◌≡◌, ◌↔◌, ℕ, ◌<◌, IsTrue, Bool, All, length, subst, sym}
use Rattle.std.specs.Global.{Vec}
use Rattle.zr_game.specs.declared.named.Named.{Named}
use Rattle.zr_game.specs.Forms.{IsPlayer}
use Rattle.zr_game.specs.Players.{GameOf, PlayerOf}
use Rattle.zr_game.proofs.Items.{at_number}
use Rattle.zr_cert.specs.Certs.{named_list}
use Rattle.zr_check.specs.Covers.{IsItemOfLength}

-- the items of list i are of the length of player i
abbrev pub FitList : GameOf → ℕ → Vec Named → Type 0
FitList game i list =
    (player : PlayerOf) → IsPlayer game i player
    → All (IsItemOfLength (length player.vars)) (named_list list)

-- what is told of their number of variables is told of the player
pub list_told : (game : GameOf) (i : ℕ) (list : Vec Named) (vars : ℕ) (b : Bool)
    → i < length game
    → ((player : PlayerOf) → IsPlayer game i player → vars ≡ length player.vars)
    → (IsTrue b ↔ All (IsItemOfLength vars) (named_list list)) → IsTrue b ↔ FitList game i list
list_told game i list vars b below count told = (
  λ t player is. subst (λ n. All (IsItemOfLength n) (named_list list)) (count player is)
      (told.0 t),
  λ fit. let who = at_number game i below in
      told.1 (subst (λ n. All (IsItemOfLength n) (named_list list)) (sym (count who.0 who.1))
      (fit who.0 who.1)),
)
