use Rattle.ap_scan.proofs.OwnOrders.{read-has-own-orders}
use Rattle.ap_scan.proofs.tests.read_config.Goals as goal

pub returns : goal.returns
returns c = read-has-own-orders c.as_bytes.result.now c.deref.result.now c.in_ok-config.config c.in_ok-config.ensures
