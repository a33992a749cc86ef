use Rattle.std.proofs.Common.{rules, inl, inr, subst}
use Rattle.zr_read.specs.Texts.{source_of}
use Rattle.zr_io.specs.Contents.{Contents}
use Rattle.zero.specs.Reads.{IsDueCert, IsRead, cert_limit}
use Rattle.zero.proofs.reading.both_texts.Goals as goal

pub returns-in_err-game_text-clause-err : goal.returns-in_err-game_text-clause-err
returns-in_err-game_text-clause-err g c = λ words purpose asks.
    let h = c.in_err-game_text.ensures.err words (inr (inl (purpose, c.args.cert_name.now, asks))) in
    search (rules, h)

pub returns-in_err-reading-clause-err : goal.returns-in_err-reading-clause-err
returns-in_err-reading-clause-err g c = λ words purpose asks.
    let h = c.in_err-reading.ensures.err words (g.S.Shelf.contents c.args.shelf.now) c.args.game_name.now (inr (inl (purpose, c.args.cert_name.now, asks))) (search rules) in
    search (rules, h)

pub returns-in_err-cert-clause-err : goal.returns-in_err-cert-clause-err
returns-in_err-cert-clause-err g c = λ words purpose asks.
    let contents = g.S.Shelf.contents c.args.shelf.now in
    let name = c.args.cert_name.now in
    let source = source_of c.in_ok-reading.reading.source in
    let due : IsDueCert words contents purpose source name = record {
      game_name = c.args.game_name.now;
      asks = asks;
      bytes = c.as_slice.result.now;
      read = search rules;
      text = c.in_ok-reading.ensures.ok.text;
    } in
    let h = c.in_err-cert.ensures.err words (purpose, source, subst (λ (k : Contents). IsDueCert words k purpose source name) (search rules) due) in
    search (rules, h)

pub returns-in_err-reading-clause-taken : goal.returns-in_err-reading-clause-taken
returns-in_err-reading-clause-taken g c =
    let h = c.in_err-reading.ensures.comes.taken _ _ c.in_ok-game_text.ensures.counts in
    search (rules, h)

pub returns-clause-asked : goal.returns-clause-asked
returns-clause-asked g c = λ words purpose asks.
    let contents = g.S.Shelf.contents c.args.shelf.now in
    let name = c.args.cert_name.now in
    let source = source_of c.in_ok-reading.reading.source in
    let due : IsDueCert words contents purpose source name = record {
      game_name = c.args.game_name.now;
      asks = asks;
      bytes = c.as_slice.result.now;
      read = search rules;
      text = c.in_ok-reading.ensures.ok.text;
    } in
    let read : IsRead contents cert_limit name c.in_ok-cert.cert.items = search (rules, c.in_ok-game_text.ensures.keeps) in
    record { name = name; due = due; read = read }
