use Rattle.std.proofs.Common.{arith, ◌≡◌, ◌+◌, ◌*◌, ◌/◌, ◌%◌, ◌∷◌, [], sym}
use Rattle.zr_form.specs.Numbers.{decimal}
use Rattle.zr_form.proofs.Numbers.{decimal_more_is, decimal_small}
use Rattle.zero.proofs.WritingLemmas.{err_same, err_then, first_prefix, ok_same, ok_then, on_err}
use Rattle.zero.proofs.pieces.+put_number.Goals as goal

pub returns-then-number-lt10-clause-ok : goal.returns-then-number-lt10-clause-ok
returns-then-number-lt10-clause-ok g t c =
    ok_same (g.E.Sink.written c.args.err.now) (g.E.Sink.written c.put_digit.new.err) _ _ c.put_digit.result (sym (decimal_small c.args.number (omega arith))) c.put_digit.ensures.ok

pub returns-then-number-lt10-clause-err : goal.returns-then-number-lt10-clause-err
returns-then-number-lt10-clause-err g t c =
    err_same (g.E.Sink.written c.args.err.now) (g.E.Sink.written c.put_digit.new.err) _ _ c.put_digit.result (sym (decimal_small c.args.number (omega arith))) c.put_digit.ensures.err

pub returns-in_err-put_number-clause-err : goal.returns-in_err-put_number-clause-err
returns-in_err-put_number-clause-err g t c =
    let n = c.args.number in
    let e : n ≡ n / 10 * 10 + n % 10 = omega arith in
    on_err c.from_residual.result _
    (first_prefix (g.E.Sink.written c.args.err.now) (g.E.Sink.written c.put_number.new.err) (decimal (n / 10)) ((48 + n % 10) ∷ []) _ (sym (decimal_more_is (n / 10) (n % 10) n (omega arith) (omega arith) e)) c.in_err-put_number.ensures.err)

pub returns-clause-ok : goal.returns-clause-ok
returns-clause-ok g t c =
    let n = c.args.number in
    let e : n ≡ n / 10 * 10 + n % 10 = omega arith in
    ok_then (g.E.Sink.written c.args.err.now) (g.E.Sink.written c.put_number.new.err) (g.E.Sink.written c.put_digit-2.new.err) (decimal (n / 10)) ((48 + n % 10) ∷ []) _ (sym (decimal_more_is (n / 10) (n % 10) n (omega arith) (omega arith) e)) c.put_digit-2.result
    c.in_ok-put_number.ensures.ok c.put_digit-2.ensures.ok

pub returns-clause-err : goal.returns-clause-err
returns-clause-err g t c =
    let n = c.args.number in
    let e : n ≡ n / 10 * 10 + n % 10 = omega arith in
    err_then (g.E.Sink.written c.args.err.now) (g.E.Sink.written c.put_number.new.err) (g.E.Sink.written c.put_digit-2.new.err) (decimal (n / 10)) ((48 + n % 10) ∷ []) _ (sym (decimal_more_is (n / 10) (n % 10) n (omega arith) (omega arith) e)) c.put_digit-2.result
    c.in_ok-put_number.ensures.ok c.put_digit-2.ensures.err
