-- Names that are given by the rule and differ.
use Rattle.std.proofs.Common.{◌≡◌, ◌≢◌, ◌+◌, List, [], ◌∷◌, ◌++◌, length, get_or, sym, subst, ◌∙◌, Ok, true, false, bytes_eq, arith, true≢false, length-append}
use Rattle.std.specs.Prelude.{IsTrue}
use Rattle.std.proofs.lemmas.List.Elements.{All-nil, All-push}
use Rattle.std.proofs.lemmas.List.Quantifiers.{all_pairs_push}
use Rattle.std.proofs.lemmas.List.Folds.{list_any_at}
use Rattle.std.proofs.lemmas.Slice.Eq.{bytes_eq-Decides}
use Rattle.serde_json.specs.Data.{Data}
use Rattle.zr_game.specs.Players.{Name}
use Rattle.zr_source.specs.Names.{AreNames, is_name}
use Rattle.zr_value.specs.declared.fault.GameFault.TheVariants.{BadName, Twice}
use Rattle.zr_value.specs.Values.{text_in, name_in}
use Rattle.zr_value.specs.Names.{is_among, new_name_in}
use Rattle.zr_value.proofs.Behind.{bind_ok, guard_ok, only_ok}

-- a name that may stand after these
abbrev pub IsNewName : List Name → Name → Type 0
IsNewName before s = (is_name s ≡ true) × (is_among before s ≡ false)

pub new_name_ok : (before : List Name) (d : Data) (s : Name) → new_name_in before d ≡ Ok s
    → IsNewName before s
new_name_ok before d s h =
    let n = bind_ok (name_in d) _ s h in
    let t = bind_ok (text_in d) _ n.0 n.1 in
    let rule = only_ok BadName (is_name t.0) t.0 n.0 t.2 in
    let new = guard_ok Twice (is_among before n.0) n.0 s n.2 in (
      subst (λ s. is_name s ≡ true) (rule.1 ∙ new.1) rule.0,
      subst (λ s. is_among before s ≡ false) new.1 new.0,
    )

pub no_names : AreNames []
no_names = record {
  rule = All-nil (λ s. IsTrue (is_name s));
  differ = λ i j d less below. absurd (omega arith);
}

-- a new name goes last
pub names_push : (names : List Name) (s : Name) → AreNames names → IsNewName names s
    → AreNames (names ++ s ∷ [])
names_push names s are new = record {
  rule = All-push (λ s. IsTrue (is_name s)) names s are.rule new.0;
  differ = all_pairs_push (λ s t. s ≢ t) names s are.differ (λ k d below same. true≢false
      (sym (list_any_at (bytes_eq s) names k d below
      ((bytes_eq-Decides s (get_or names k d)).1 (sym same))) ∙ new.1));
}

pub length-push : {A : Type 0} (xs : List A) (x : A) → length (xs ++ x ∷ []) ≡ length xs + 1
length-push xs x = simp length-append
