use Rattle.ap_scan.proofs.OwnOrders.{read-has-own-orders}
use Rattle.ap_cli.proofs.Configured.{read_is_offered}
use Rattle.ap_cli.proofs.project.config_of.Goals as goal

pub returns-in-Ok-clause-own : goal.returns-in-Ok-clause-own
returns-in-Ok-clause-own c = read-has-own-orders _ c.args.offers.now c.in-Ok.config c.in-Ok.ensures

pub returns-in-Ok-clause-offered : goal.returns-in-Ok-clause-offered
returns-in-Ok-clause-offered c = read_is_offered _ c.args.offers.now c.in-Ok.config c.in-Ok.ensures
