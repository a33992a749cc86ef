use Rattle.std.proofs.Common.{rules, ◌≡◌, ◌^◌, ◌<◌, List, ℕ, ap, arith, length, map, subst, true, false}
use Rattle.std.proofs.lemmas.List.{length-map}
use Rattle.std.specs.List.{zip}
use Rattle.std.proofs.lemmas.Result.{err_from_is_err_and}
use Rattle.zr_cases.specs.Cases.{rnode_of}
use Rattle.zr_cert.specs.Certs.{CoverVerdict, VerdictOf, named_list, nodes_of}
use Rattle.zr_cert.specs.Forms.{leaf_count}
use Rattle.zr_form.specs.Lines.{lines_of}
use Rattle.zr_form.specs.Stops.{Stopped}
use Rattle.zr_form.proofs.Composing.{Both}
use Rattle.zr_form.specs.Reading.{spell_from}
use Rattle.zr_lines.specs.Reader.{cases_read}
use Rattle.zr_lines.proofs.TextSteps.{left_within}
use Rattle.zr_text.specs.Spelling.{cover_lines}
use Rattle.zr_text.specs.Reader.{OfCover, body_read, covers_in, named_in}
use Rattle.zr_text.proofs.Covers.{CoverOf, CoversFit, counted_leaves, covers_form, covers_length, covers_read, leaves_written, verdict_made}
use Rattle.zr_text.proofs.ReadingSteps.{cover_ended, cover_no_cases, cover_no_covers, cover_no_end, cover_proof_taken}
use Rattle.zr_text.proofs.reading.take_cover_proof.Goals as goal

pub returns-in_err-covers : goal.returns-in_err-covers
returns-in_err-covers c =
    let p = err_from_is_err_and c.from_residual.result c.from_residual.ensures.1 in
    rw (p.1, p.2) (cover_no_covers c.args.players (lines_of c.args.bytes.now) c.in_err-covers.field-0.0 c.in_err-covers.ensures.0)

pub take_refutation-requires-clause-bytes : goal.take_refutation-requires-clause-bytes
take_refutation-requires-clause-bytes c =
    let cs : List CoverOf = zip (map nodes_of c.in_ok-covers.covers.items) (map named_list c.in_ok-covers.named.items) in
    let less = left_within (CoversFit true c.args.players) (spell_from cover_lines 0) (covers_read true c.args.players) (covers_form true c.args.players) c.args.bytes.now c.in_ok-covers.rest.now cs c.in_ok-covers.ensures.0.0 in
    omega (arith, less, c.requires)

pub take_refutation-requires-clause-players : goal.take_refutation-requires-clause-players
take_refutation-requires-clause-players c =
    let cs : List CoverOf = zip (map nodes_of c.in_ok-covers.covers.items) (map named_list c.in_ok-covers.named.items) in
    let fits = ((covers_form true c.args.players).exact.sound (lines_of c.args.bytes.now) (lines_of c.in_ok-covers.rest.now) cs c.in_ok-covers.ensures.0.0).0 in
    let count : c.in_ok-leaves.leaves.len ≡ length c.deref.result.now = omega (arith, c.in_ok-leaves.ensures.len, c.len.ensures, c.in_ok-covers.covers.ok.0, c.in_ok-leaves.leaves.ok.0, ap length c.deref.ensures.value) in
    let leaves : c.deref-2.result.now ≡ map leaf_count (covers_in cs) = counted_leaves c.in_ok-covers.covers.items c.in_ok-covers.named.items c.deref-2.result.now c.in_ok-covers.ensures.1 (leaves_written c.deref.result.now c.in_ok-covers.covers.items c.count_leaves.new.leaves c.in_ok-leaves.leaves.items c.deref-2.result.now c.in_ok-leaves.leaves.len c.count_leaves.ensures c.deref.ensures.value c.deref-2.ensures.value count) in
    let few : c.args.players < 2 ^ 32 = search rules in
    omega (arith, fits.0, ap length leaves, length-map (covers_in cs) leaf_count, covers_length cs, few)

pub returns-in_err-proof : goal.returns-in_err-proof
returns-in_err-proof c =
    let p = err_from_is_err_and c.from_residual-in_err-proof.result c.from_residual-in_err-proof.ensures.1 in
    let cs : List CoverOf = zip (map nodes_of c.in_ok-covers.covers.items) (map named_list c.in_ok-covers.named.items) in
    let count : c.in_ok-leaves.leaves.len ≡ length c.deref.result.now = omega (arith, c.in_ok-leaves.ensures.len, c.len.ensures, c.in_ok-covers.covers.ok.0, c.in_ok-leaves.leaves.ok.0, ap length c.deref.ensures.value) in
    let leaves : c.deref-2.result.now ≡ map leaf_count (covers_in cs) = counted_leaves c.in_ok-covers.covers.items c.in_ok-covers.named.items c.deref-2.result.now c.in_ok-covers.ensures.1 (leaves_written c.deref.result.now c.in_ok-covers.covers.items c.count_leaves.new.leaves c.in_ok-leaves.leaves.items c.deref-2.result.now c.in_ok-leaves.leaves.len c.count_leaves.ensures c.deref.ensures.value c.deref-2.ensures.value count) in
    rw (p.1, p.2) (cover_no_cases c.args.players (lines_of c.args.bytes.now) (lines_of c.in_ok-covers.rest.now) cs c.in_err-proof.field-0.0 c.in_ok-covers.ensures.0
    (subst (λ (ls : List ℕ). Stopped c.in_err-proof.field-0.0 (cases_read true ls (lines_of c.in_ok-covers.rest.now)) (cases_read false ls (lines_of c.in_ok-covers.rest.now))) leaves c.in_err-proof.ensures))

pub returns-in_err-rest : goal.returns-in_err-rest
returns-in_err-rest c =
    let p = err_from_is_err_and c.from_residual-in_err-rest.result c.from_residual-in_err-rest.ensures.1 in
    let cs : List CoverOf = zip (map nodes_of c.in_ok-covers.covers.items) (map named_list c.in_ok-covers.named.items) in
    let count : c.in_ok-leaves.leaves.len ≡ length c.deref.result.now = omega (arith, c.in_ok-leaves.ensures.len, c.len.ensures, c.in_ok-covers.covers.ok.0, c.in_ok-leaves.leaves.ok.0, ap length c.deref.ensures.value) in
    let leaves : c.deref-2.result.now ≡ map leaf_count (covers_in cs) = counted_leaves c.in_ok-covers.covers.items c.in_ok-covers.named.items c.deref-2.result.now c.in_ok-covers.ensures.1 (leaves_written c.deref.result.now c.in_ok-covers.covers.items c.count_leaves.new.leaves c.in_ok-leaves.leaves.items c.deref-2.result.now c.in_ok-leaves.leaves.len c.count_leaves.ensures c.deref.ensures.value c.deref-2.ensures.value count) in
    let proof = map rnode_of c.in_ok-proof.proof.nodes.items in
    let read = cover_proof_taken c.args.players (lines_of c.args.bytes.now) (lines_of c.in_ok-covers.rest.now) (lines_of c.in_ok-proof.rest.now) cs proof c.in_ok-covers.ensures.0
    (subst (λ (ls : List ℕ). Both proof (lines_of c.in_ok-proof.rest.now) (cases_read true ls (lines_of c.in_ok-covers.rest.now)) (cases_read false ls (lines_of c.in_ok-covers.rest.now))) leaves c.in_ok-proof.ensures) in
    rw (p.1, p.2) (cover_no_end c.args.players (lines_of c.args.bytes.now) (lines_of c.in_ok-proof.rest.now) (CoverVerdict (covers_in cs) (named_in cs) proof) c.in_err-rest.field-0.0 read c.in_err-rest.ensures)

pub returns : goal.returns
returns c =
    let cs : List CoverOf = zip (map nodes_of c.in_ok-covers.covers.items) (map named_list c.in_ok-covers.named.items) in
    let count : c.in_ok-leaves.leaves.len ≡ length c.deref.result.now = omega (arith, c.in_ok-leaves.ensures.len, c.len.ensures, c.in_ok-covers.covers.ok.0, c.in_ok-leaves.leaves.ok.0, ap length c.deref.ensures.value) in
    let leaves : c.deref-2.result.now ≡ map leaf_count (covers_in cs) = counted_leaves c.in_ok-covers.covers.items c.in_ok-covers.named.items c.deref-2.result.now c.in_ok-covers.ensures.1 (leaves_written c.deref.result.now c.in_ok-covers.covers.items c.count_leaves.new.leaves c.in_ok-leaves.leaves.items c.deref-2.result.now c.in_ok-leaves.leaves.len c.count_leaves.ensures c.deref.ensures.value c.deref-2.ensures.value count) in
    let proof = map rnode_of c.in_ok-proof.proof.nodes.items in
    let read = cover_proof_taken c.args.players (lines_of c.args.bytes.now) (lines_of c.in_ok-covers.rest.now) (lines_of c.in_ok-proof.rest.now) cs proof c.in_ok-covers.ensures.0
    (subst (λ (ls : List ℕ). Both proof (lines_of c.in_ok-proof.rest.now) (cases_read true ls (lines_of c.in_ok-covers.rest.now)) (cases_read false ls (lines_of c.in_ok-covers.rest.now))) leaves c.in_ok-proof.ensures) in
    let whole = cover_ended c.args.players (lines_of c.args.bytes.now) (lines_of c.in_ok-proof.rest.now) (lines_of c.in_ok-rest.rest.now) (CoverVerdict (covers_in cs) (named_in cs) proof) read c.in_ok-rest.ensures in
    subst (λ (v : VerdictOf). Both v (lines_of c.in_ok-rest.rest.now) (body_read true c.args.players OfCover (lines_of c.args.bytes.now)) (body_read false c.args.players OfCover (lines_of c.args.bytes.now)))
    (verdict_made c.in_ok-covers.covers.items c.in_ok-covers.named.items proof c.in_ok-covers.ensures.1) whole
