use Rattle.std.proofs.Common.{rules, inl, inr, refl, subst}
use Rattle.zr_io.specs.Contents.{Bytes}
use Rattle.zr_io.specs.Written.{AppendsPrefix}
use Rattle.zr_words.specs.Words.{spelled}
use Rattle.zero.specs.Answers.{HasBegun}
use Rattle.zero.proofs.CauseLemmas.{names_of_answer}
use Rattle.zero.proofs.OutcomeLemmas.{outcome_begun, outcome_cause, outcome_lacks, outcome_unwritten}
use Rattle.zero.proofs.run.answer.Goals as goal

-- ---- an answer that was not written whole

pub returns-in-Err-Failed-clause-err : goal.returns-in-Err-Failed-clause-err
returns-in-Err-Failed-clause-err g c =
    names_of_answer (spelled c.args.words.now) (g.S.Shelf.contents c.args.shelf.now) c.in-Ok.text.items c.in-Ok.ensures.ok

pub returns-in-Err-Failed-clause-lacks : goal.returns-in-Err-Failed-clause-lacks
returns-in-Err-Failed-clause-lacks g c = λ name named lacks. absurd (c.in-Ok.ensures.lacks name named lacks)

pub returns-in-Err-Failed-clause-unwritten : goal.returns-in-Err-Failed-clause-unwritten
returns-in-Err-Failed-clause-unwritten g c = λ twelve.
    let words = spelled c.args.words.now in
    let contents = g.S.Shelf.contents c.args.shelf.now in
    let before = g.O.Sink.written c.args.out.now in
    let after = g.O.Sink.written c.put_all.new.sink in
    let begun : HasBegun words contents before after = record {
      text = c.in-Ok.text.items;
      true_text = inl c.in-Ok.ensures.ok;
      written = subst (λ (p : Bytes). AppendsPrefix before p after) c.as_slice.ensures.value c.in-Err-Failed.ensures.err;
    } in
    (c.put_all.ensures.failed (search rules), begun)

pub returns-in-Err-Failed-clause-begun : goal.returns-in-Err-Failed-clause-begun
returns-in-Err-Failed-clause-begun g c =
    let words = spelled c.args.words.now in
    let contents = g.S.Shelf.contents c.args.shelf.now in
    let before = g.O.Sink.written c.args.out.now in
    let after = g.O.Sink.written c.put_all.new.sink in
    let begun : HasBegun words contents before after = record {
      text = c.in-Ok.text.items;
      true_text = inl c.in-Ok.ensures.ok;
      written = subst (λ (p : Bytes). AppendsPrefix before p after) c.as_slice.ensures.value c.in-Err-Failed.ensures.err;
    } in
    inr (inr (inr refl, begun))

pub returns-in-Ok-clause-begun : goal.returns-in-Ok-clause-begun
returns-in-Ok-clause-begun g c =
    let words = spelled c.args.words.now in
    let contents = g.S.Shelf.contents c.args.shelf.now in
    let before = g.O.Sink.written c.args.out.now in
    let after = g.O.Sink.written c.put_all.new.sink in
    let begun : HasBegun words contents before after = record {
      text = c.in-Ok.text.items;
      true_text = inl c.in-Ok.ensures.ok;
      written = subst (λ (p : Bytes). AppendsPrefix before p after) c.as_slice.ensures.value c.in-Err-NoMemory.ensures.err;
    } in
    inr (inr (inl refl, begun))

-- ---- a refusal, of which a report may have been written

pub returns-clause-err : goal.returns-clause-err
returns-clause-err g c =
    let words = spelled c.args.words.now in
    let contents = g.S.Shelf.contents c.args.shelf.now in
    let before = g.O.Sink.written c.args.out.now in
    let after = g.O.Sink.written c.reported.new.out in
    let old = g.O.Sink.faults_of c.args.out.now in
    let new = g.O.Sink.faults_of c.reported.new.out in
    outcome_cause words contents before after old new c.in-Err.refusal c.reported.result c.reported.ensures.outcome c.in-Err.ensures.err

pub returns-clause-lacks : goal.returns-clause-lacks
returns-clause-lacks g c = λ name named lacks.
    let words = spelled c.args.words.now in
    let contents = g.S.Shelf.contents c.args.shelf.now in
    let before = g.O.Sink.written c.args.out.now in
    let after = g.O.Sink.written c.reported.new.out in
    let old = g.O.Sink.faults_of c.args.out.now in
    let new = g.O.Sink.faults_of c.reported.new.out in
    outcome_lacks words contents before after old new c.in-Err.refusal c.reported.result c.reported.ensures.outcome (c.in-Err.ensures.lacks name named lacks)

pub returns-clause-unwritten : goal.returns-clause-unwritten
returns-clause-unwritten g c = λ twelve.
    let words = spelled c.args.words.now in
    let contents = g.S.Shelf.contents c.args.shelf.now in
    let before = g.O.Sink.written c.args.out.now in
    let after = g.O.Sink.written c.reported.new.out in
    let old = g.O.Sink.faults_of c.args.out.now in
    let new = g.O.Sink.faults_of c.reported.new.out in
    outcome_unwritten words contents before after old new c.in-Err.refusal c.reported.result c.reported.ensures.outcome c.in-Err.ensures.err c.in-Err.ensures.unwritten twelve

pub returns-clause-begun : goal.returns-clause-begun
returns-clause-begun g c =
    let words = spelled c.args.words.now in
    let contents = g.S.Shelf.contents c.args.shelf.now in
    let before = g.O.Sink.written c.args.out.now in
    let after = g.O.Sink.written c.reported.new.out in
    let old = g.O.Sink.faults_of c.args.out.now in
    let new = g.O.Sink.faults_of c.reported.new.out in
    outcome_begun words contents before after old new c.in-Err.refusal c.reported.result c.reported.ensures.outcome c.in-Err.ensures.err
