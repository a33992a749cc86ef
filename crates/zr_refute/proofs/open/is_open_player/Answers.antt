use Rattle.std.proofs.Common.{refl, Bool, true, false, IsTrue, not}
use Rattle.zr_refute.proofs.open.is_open_player.Goals as goal

turned : (b : Bool) → (IsTrue b → ⊥) → IsTrue (not b)
turned true h = absurd (h refl)
turned false h = refl

apart : (b : Bool) → IsTrue (not b) → IsTrue b → ⊥
apart true h t = absurd cc
apart false h t = absurd cc

pub returns-then-is_pure_player : goal.returns-then-is_pure_player
returns-then-is_pure_player c =
    let p = c.is_pure_player.ensures.0 c.if-is_pure_player.true in (
      λ t. (
        p.0,
        p.1,
        λ k d. apart c.is_player_decided.result t
            (c.is_player_decided.ensures.1 (k, d)),
      ),
      λ h. turned c.is_player_decided.result
          (λ t. let d = c.is_player_decided.ensures.0 t in h.2 d.0 d.1),
    )
