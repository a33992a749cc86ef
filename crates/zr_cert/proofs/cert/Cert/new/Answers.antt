use Rattle.zr_cert.proofs.cert.Cert.new.Goals as goal

pub invariant_of-result : goal.invariant_of-result
invariant_of-result c = record { sound = (c.is_cert.ensures c.args.kind).0 c.if-is_cert.true }
