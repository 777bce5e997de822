-- `coded_by` meets its promise: each way out, by the test that leads to it. Assumes nothing.
use Rattle.bench.proofs.Laws.{hands-decode, hands-write}
use Rattle.bench.proofs.handed.coded_by.Goals as goal

pub returns-then-is_decode : goal.returns-then-is_decode
returns-then-is_decode c =
    let decode = c in
    let limit = decode in
    let a = limit.args in
    hands-decode a.asked.command a.asked _ limit.by_limit-limit.ensures decode.part-hex.ensures
    decode.is_decode.ensures c.if-is_decode.true c.decode.ensures

pub returns : goal.returns
returns c =
    let control = c in
    let address = control in
    let decode = address in
    let limit = decode in
    let a = limit.args in
    hands-write a.asked.command a.asked _ limit.by_limit-limit.ensures decode.part-hex.ensures
    decode.is_decode.ensures address.if-is_decode.false address.by_limit.ensures
    address.octet-address.ensures control.by_limit-2.ensures control.octet-control.ensures
    c.write.ensures
