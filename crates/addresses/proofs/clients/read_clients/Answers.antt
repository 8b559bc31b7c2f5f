use Rattle.std.specs.contracts.net.socket_addr.SocketAddrPartialEq.TheImpl.{eq-value}
use Rattle.std.proofs.lemmas.Result.{err_from_is_err_and}
use Rattle.addresses.proofs.ClientLemmas.{ends, goes_on, stops}
use Rattle.addresses.proofs.clients.read_clients.Goals as goal

pub returns-in_err-take_client : goal.returns-in_err-take_client
returns-in_err-take_client c =
    let p = err_from_is_err_and c.from_residual.result c.from_residual.ensures.1 in
    rw (p.1, p.2)
    (stops eq-value.it c.args.listen c.args.texts.now c.loop-text.text-index c.text-item.result c.loop-text.clients.items c.in_err-take_client.field-0.0 c.text-item.is
    c.loop-text-test.true c.in_err-take_client.ensures.err c.loop-text.invariant)

pub loop-text-preserved : goal.loop-text-preserved
loop-text-preserved c =
    goes_on eq-value.it c.args.listen c.args.texts.now c.loop-text.text-index c.text-item.result c.loop-text.clients.items c.take_client.new.clients.items c.text-item.is
    c.loop-text-test.true c.in_ok-take_client.ensures.ok c.loop-text.invariant

pub returns : goal.returns
returns c = ends eq-value.it c.args.listen c.args.texts.now c.loop-text.text-index c.loop-text.clients.items c.loop-text-test.false c.loop-text.invariant
