use Rattle.std.proofs.Common.{rules, ◌≡◌, Bool, true, false, refl}
use Rattle.std.specs.Prelude.{option_copied, nat_le, nat_lt, ◌&&◌}
use Rattle.std.proofs.lemmas.Bool.{le-leb, lt-leb}
use Rattle.zr_form.specs.Bounds.{below}
use Rattle.zr_form.specs.Code.{left_of}
use Rattle.zr_form.proofs.Words.{both_true}
use Rattle.zr_text.specs.Fits.{is_player_count}
use Rattle.zr_lines.proofs.Limits.{both}
use Rattle.zr_lines.proofs.OtherTests.{natural_fails, natural_lacks, natural_passed, natural_passes}
use Rattle.zr_text.proofs.heading.player_count.Goals as goal

fails_second : (a b : Bool) → b ≡ false → (a && b) ≡ false
fails_second true b e = e
fails_second false b e = refl

pub returns-in_err-n-clause-reads : goal.returns-in_err-n-clause-reads
returns-in_err-n-clause-reads c =
    let fs = left_of (option_copied c.args.left) in
    rw c.from_residual.ensures (natural_lacks (below true 17) (is_player_count true) fs fs (λ n e. (both_true (nat_lt n 17) (nat_le 1 n) e).0) c.in_err-n.ensures.reads)

pub returns-then-n-lt1-clause-reads : goal.returns-then-n-lt1-clause-reads
returns-then-n-lt1-clause-reads c =
    let fs = left_of (option_copied c.args.left) in
    let rest = left_of (option_copied c.in_ok-n.rest) in
    let none : nat_le 1 c.in_ok-n.n ≡ false = lt-leb 1 c.in_ok-n.n (search rules) in
    natural_fails (below true 17) (is_player_count true) fs rest c.in_ok-n.n c.in_ok-n.ensures.reads (fails_second (nat_lt c.in_ok-n.n 17) (nat_le 1 c.in_ok-n.n) none)

pub returns-clause-reads : goal.returns-clause-reads
returns-clause-reads c =
    let fs = left_of (option_copied c.args.left) in
    let rest = left_of (option_copied c.in_ok-n.rest) in
    let some : nat_le 1 c.in_ok-n.n ≡ true = le-leb 1 c.in_ok-n.n (search rules) in
    let p = natural_passed (below true 17) fs rest c.in_ok-n.n c.in_ok-n.ensures.reads in
    natural_passes (below true 17) (is_player_count true) fs rest c.in_ok-n.n c.in_ok-n.ensures.reads (both (nat_lt c.in_ok-n.n 17) (nat_le 1 c.in_ok-n.n) p some)
