-- The forms of named items, in a certificate and in the system.
use Rattle.std.proofs.Common.{◌≡◌, ◌<◌, ◌∙◌, ℕ, Some, All, List, [], ◌∷◌, arith, ap, length, map, get_or, option_map, slice_get}
use Rattle.std.specs.Global.{Vec}
use Rattle.std.proofs.lemmas.List.{length-map}
use Rattle.std.proofs.lemmas.List.Elements.{All-cons, All-nil}
use Rattle.std.proofs.lemmas.Option.{slice_get-map}
use Rattle.zr_base.proofs.Members.{all_found}
use Rattle.zr_game.specs.declared.named.Named.{Named}
use Rattle.zr_game.specs.Forms.{IsPlayer}
use Rattle.zr_game.specs.Named.{NamedOf, NamedPoint, NamedRay, named_of}
use Rattle.zr_game.specs.Players.{GameOf, PlayerOf}
use Rattle.zr_game.proofs.Items.{All-of_map}
use Rattle.zr_system.specs.Asked.{IsNamedForm as IsSystemForm}
use Rattle.zr_cert.specs.Certs.{named_list}
use Rattle.zr_cert.specs.Forms.{AreNamed, IsNamedForm}
use Rattle.zr_cert.specs.Lines.{named_lines, sum_lines}
use Rattle.zr_check.specs.CoverPlaces.{AreOfLengths}
use Rattle.zr_check.specs.Covers.{IsItemOfLength}

-- lists of few lines have few items each
pub lists_few : (lists : List (Vec Named)) (n : ℕ)
    → sum_lines named_lines (map named_list lists) < n
    → All (λ (list : Vec Named). length list.items < n) lists
lists_few [] n h = All-nil (λ (list : Vec Named). length list.items < n)
lists_few (list ∷ lists) n h =
    let l = length-map list.items named_of in
    All-cons (λ (other : Vec Named). length other.items < n) list lists (omega (arith, l, h))
    (lists_few lists n (omega (arith, h)))

system_form : (vars : ℕ) (item : NamedOf) → IsItemOfLength vars item → IsNamedForm item
    → IsSystemForm vars item
system_form vars (NamedPoint x) len form = len
system_form vars (NamedRay base dir) len form = (len.0, len.1, form.1.narrow)

-- items of the players' lengths have the form that the system asks for
pub system_forms : (game : GameOf) (lists : List (Vec Named))
    → AreOfLengths game (map named_list lists) → All AreNamed (map named_list lists)
    → (i : ℕ) (player : PlayerOf) → IsPlayer game i player
    → (list : Vec Named) → slice_get lists i ≡ Some list
    → All (λ (item : Named). IsSystemForm (length player.vars) (named_of item)) list.items
system_forms game lists lengths forms i player is list here k d h =
    let there = slice_get-map named_list lists i ∙ ap (option_map named_list) here in
    let len = All-of_map named_of (IsItemOfLength (length player.vars)) list.items
    (lengths i (named_list list) there player is) in
    let form = All-of_map named_of IsNamedForm list.items
    (all_found AreNamed (map named_list lists) i (named_list list) forms there) in
    system_form (length player.vars) (named_of (get_or list.items k d)) (len k d h) (form k d h)
