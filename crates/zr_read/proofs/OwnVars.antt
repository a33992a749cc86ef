-- The variables that are read keep the rules.
use Rattle.std.proofs.Common.{◌≡◌, ℕ, ◌+◌, ◌≤◌, ℤ, pos, List, [], ◌∷◌, ◌++◌, length, map, subst, refl, Ok, Option, Some, None, false, Bool, codes, arith}
use Rattle.std.specs.Prelude.{◌≤ℤ◌, neg_ℤ}
use Rattle.std.specs.List.{All}
use Rattle.std.specs.Option.{ForSome}
use Rattle.std.proofs.lemmas.Int.{ints}
use Rattle.std.proofs.lemmas.List.{map-append}
use Rattle.std.proofs.lemmas.List.Elements.{All-nil, All-push}
use Rattle.serde_json.specs.Data.{Data, null, boolean, number, string, array, object}
use Rattle.zr_game.specs.Players.{Name, VarOf}
use Rattle.zr_game.specs.Forms.{number_limit, IsNumber, IsVarForm}
use Rattle.zr_source.specs.Names.{AreNames, var_name}
use Rattle.zr_value.specs.Values.{object_in, needed, optional, truth_in, whole_in, listed, each}
use Rattle.zr_value.specs.Names.{new_name_in}
use Rattle.zr_value.proofs.Behind.{bind_ok, needed_ok, optional_keeps, each_keeps, each_counts, listed_ok}
use Rattle.zr_value.proofs.TermLaws.{whole_ok}
use Rattle.zr_value.specs.declared.format.GameFormat.{GameFormat}
use Rattle.zr_value.specs.declared.format.GameFormat.TheVariants.{First, Second}
use Rattle.zr_value.specs.Formats.{since_second}
use Rattle.zr_value.specs.Variables.{bound_in, low_in, least_up, variable_named, variable_in, add_variable, variables_in}
use Rattle.zr_value.specs.Faults.{Read}
use Rattle.zr_read.proofs.Naming.{IsNewName, new_name_ok, no_names, names_push, length-push}

pub since_keeps : {A : Type 0} (P : A → Type 0) (f : GameFormat) (name : List ℕ) (missing : A)
    (read : Data → Read A) (d : Data) (x : A) → P missing
    → ((e : Data) (y : A) → read e ≡ Ok y → P y) → since_second f name missing read d ≡ Ok x → P x
since_keeps P First name missing read d x m keeps h = let e : missing ≡ x = cc in subst P e m
since_keeps P Second name missing read d x m keeps h =
    optional_keeps P name missing read d x m keeps h

-- a bound is within its range
abbrev IsFrom : ℤ → Option ℤ → Type 0
IsFrom least o = ForSome o (λ z. (least ≤ℤ z) × (z ≤ℤ number_limit))

bound_ok : (least : ℤ) (e : Data) (o : Option ℤ) → bound_in least e ≡ Ok o → IsFrom least o
bound_ok least e o h z is =
    let b = bind_ok (whole_in least e) (λ z. Ok (Some z)) o h in
    let same : b.0 ≡ z = cc (b.2) in
    subst (λ z. (least ≤ℤ z) × (z ≤ℤ number_limit)) same (whole_ok least e b.0 b.1)

low_ok : (e : Data) (o : Option ℤ) → low_in e ≡ Ok o → ForSome o IsNumber
low_ok null o h = λ z is. absurd (cc)
low_ok (boolean b) o h = bound_ok (neg_ℤ number_limit) (boolean b) o h
low_ok (number n) o h = bound_ok (neg_ℤ number_limit) (number n) o h
low_ok (string s) o h = bound_ok (neg_ℤ number_limit) (string s) o h
low_ok (array ds) o h = bound_ok (neg_ℤ number_limit) (array ds) o h
low_ok (object ms) o h = bound_ok (neg_ℤ number_limit) (object ms) o h

zero_low : ForSome (Some (pos 0)) IsNumber
zero_low z e =
    let zero : pos 0 ≡ z = cc in subst IsNumber zero (omega (arith, ints), omega (arith, ints))

within_bounds : (s : Name) (b : Bool) (low up : Option ℤ) → ForSome low IsNumber
    → IsFrom (least_up low) up
    → IsVarForm (record { name = s; whole = b; low = low; up = up })
within_bounds s b None up l u = record {
  low = l;
  up = λ z e. u z e;
  ordered = λ y e. absurd (cc);
}
within_bounds s b (Some y) up l u = record {
  low = l;
  up = λ z e. let is = u z e in let own = l y refl in (omega (arith, ints, is.0, own.0), is.1);
  ordered = λ x e z k. let same : y ≡ x = cc in subst (λ x. x ≤ℤ z) same (u z k).0;
}

-- a variable that may stand after these names
variable_ok : (f : GameFormat) (before : List Name) (d : Data) (v : VarOf)
    → variable_in f before d ≡ Ok v → IsNewName before v.name × IsVarForm v
variable_ok f before d v h =
    let o = bind_ok (object_in d) _ v h in
    let n = bind_ok (needed (codes "name") (new_name_in before) d)
    (λ name. variable_named f name d) v o.2 in
    let at = needed_ok (codes "name") (new_name_in before) d n.0 n.1 in
    let b = bind_ok (optional (codes "int") false truth_in d) _ v n.2 in
    let l = bind_ok (since_second f (codes "low") (Some (pos 0)) low_in d) _ v b.2 in
    let u = bind_ok (optional (codes "up") None (bound_in (least_up l.0)) d) _ v l.2 in
    let e : record { name = n.0; whole = b.0; low = l.0; up = u.0 } ≡ v = cc (u.2) in
    let low = since_keeps (λ o. ForSome o IsNumber) f (codes "low") (Some (pos 0)) low_in d l.0
    zero_low low_ok l.1 in
    let up = optional_keeps (IsFrom (least_up l.0)) (codes "up") None (bound_in (least_up l.0)) d
    u.0 (λ z e. absurd (cc)) (bound_ok (least_up l.0)) u.1 in
    let form = within_bounds n.0 b.0 l.0 u.0 low up in
    subst (λ v. IsNewName before v.name × IsVarForm v) e (new_name_ok before at.0 n.0 at.1, form)

-- variables within their bounds and with names by the rule
pub record AreVariables (vs : List VarOf) : Type 0 where
  pub forms : All IsVarForm vs
  pub names : AreNames (map var_name vs)

pub variables_push : (s : List VarOf) (v : VarOf) → AreVariables s
    → IsNewName (map var_name s) v.name → IsVarForm v → AreVariables (s ++ v ∷ [])
variables_push s v are new form = record {
  forms = All-push IsVarForm s v are.forms form;
  names = rw (map-append var_name s (v ∷ [])) (names_push (map var_name s) v.name are.names new);
}

pub no_variables : AreVariables []
no_variables = record { forms = All-nil IsVarForm; names = no_names }

variables_keep : (f : GameFormat) (s : List VarOf) (d : Data) (t : List VarOf) → AreVariables s
    → add_variable f s d ≡ Ok t → AreVariables t
variables_keep f s d t are h =
    let b = bind_ok (variable_in f (map var_name s) d) (λ v. Ok (s ++ v ∷ [])) t h in
    let e : s ++ b.0 ∷ [] ≡ t = cc (b.2) in
    let ok = variable_ok f (map var_name s) d b.0 b.1 in
    subst AreVariables e (variables_push s b.0 are ok.0 ok.1)

variables_count : (f : GameFormat) (s : List VarOf) (d : Data) (t : List VarOf)
    → add_variable f s d ≡ Ok t → length t ≡ length s + 1
variables_count f s d t h =
    let b = bind_ok (variable_in f (map var_name s) d) (λ v. Ok (s ++ v ∷ [])) t h in
    let e : s ++ b.0 ∷ [] ≡ t = cc (b.2) in
    subst (λ t. length t ≡ length s + 1) e (length-push s b.0)

-- the variables that are read are 1 to 64, and right
pub variables_ok : (f : GameFormat) (d : Data) (vs : List VarOf) → variables_in f d ≡ Ok vs
    → (1 ≤ length vs) × (length vs ≤ 64) × AreVariables vs
variables_ok f d vs h =
    let ds = bind_ok (listed 1 64 d) (λ ds. each (add_variable f) 0 [] ds) vs h in
    let few = listed_ok 1 64 d ds.0 ds.1 in
    let n = each_counts (add_variable f) (variables_count f) 0 [] ds.0 vs ds.2 in (
      omega (arith, few.0, n),
      omega (arith, few.1, n),
      each_keeps AreVariables (add_variable f) (variables_keep f) 0 [] ds.0 vs no_variables ds.2,
    )
