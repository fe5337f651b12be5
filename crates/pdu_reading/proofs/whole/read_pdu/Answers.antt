use Rattle.std.proofs.Common.{◌≡◌, Ok, sym, rules}
use Rattle.pdu.specs.Bytes.{decode}
use Rattle.pdu.proofs.Rounds.{accepted}
use Rattle.pdu_reading.proofs.whole.read_pdu.Goals as goal

pub returns-in-None : goal.returns-in-None
returns-in-None c =
    let v : Ok c.in_ok-pdu.pdu ≡ decode c.args.bytes.now c.args.count = search rules in
    record { value = v; image = accepted c.args.bytes.now c.args.count c.in_ok-pdu.pdu (λ i. (c.type_inv.bytes i).fits) (sym v) }
