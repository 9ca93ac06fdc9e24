use Rattle.std.proofs.lemmas.Bool.{iff_false}
use Rattle.toml.specs.View.{table_view}
use Rattle.ap_config.proofs.Parsing.{parsed-table, parsed-refused}
use Rattle.ap_config.proofs.config.parse.Goals as goal

pub returns-in-Ok-clause-ok : goal.returns-in-Ok-clause-ok
returns-in-Ok-clause-ok c = parsed-table c.args.bytes.now (table_view c.in-Ok.table) c.in-Ok.ensures.ok.0 c.in-Ok.ensures.ok.1

pub returns-else-is_memory-clause-refused : goal.returns-else-is_memory-clause-refused
returns-else-is_memory-clause-refused c _ = parsed-refused c.args.bytes.now (c.in-Err.ensures.refused (iff_false c.is_memory.ensures c.if-is_memory.false))
