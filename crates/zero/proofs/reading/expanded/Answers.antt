use Rattle.std.proofs.Common.{rules, sym, subst, ⊎_elim, inr, refl}
use Rattle.zr_read.specs.Texts.{source_of}
use Rattle.zero.specs.Refusals.{IsCause}
use Rattle.zero.proofs.GameLemmas.{fits_or_first}
use Rattle.zero.proofs.reading.expanded.Goals as goal

pub returns-in-Ok-clause-fits : goal.returns-in-Ok-clause-fits
returns-in-Ok-clause-fits c =
    let source = source_of c.args.source.now in
    ⊎_elim (λ fits. fits) (λ past. let e = (c.expand.ensures.count past.0).1 past.1 in
    let is = c.in-Ok.is in absurd cc) (fits_or_first source)

pub returns-in-Err-Count-clause-err : goal.returns-in-Err-Count-clause-err
returns-in-Err-Count-clause-err c = λ words contents name bytes named read stands.
    let first = (c.expand.ensures.count c.in-Err-Count.i).0 (search rules) in
    ⊎_elim
    (λ e. subst (IsCause words contents) (sym e) tt)
    (λ h. subst (IsCause words contents) (sym h.1) (record {
      name = name;
      bytes = bytes;
      named = named;
      read = read;
      first = inr (record {
        source = source_of c.args.source.now;
        stands = stands;
        leader = c.in-Err-Count.i;
        first = first;
        named = refl;
        at_leader = h.2;
      });
    }))
    c.too_many.ensures
