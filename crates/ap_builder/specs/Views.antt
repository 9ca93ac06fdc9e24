-- What a builder sees of an input, and its products as a thing has them.
use Rattle.std.specs.Prelude.{ℕ, List, [], map}
use Rattle.ap_content.specs.Things.{Thing, digest}
use Rattle.ap_rows.specs.Inputs.{PlainProduct, CreateFrom, HandedOver, ByOrder, ByFingerprint, MadeFrom}
use Rattle.ap_rows.specs.declared.job.DepKind.TheVariants.{Order, Fingerprint}
use Rattle.ap_builder.specs.declared.product.Product.{Product}
use Rattle.ap_builder.specs.declared.work.CreateInput.{CreateInput}
use Rattle.ap_builder.specs.declared.work.Handed.{Handed}
use Rattle.ap_builder.specs.declared.work.JobInput.{JobInput}

-- what a builder sees of a create input whose source has these bytes
abbrev pub create_view : CreateFrom → List ℕ → CreateInput
create_view x bytes = record { builders = x.builders; platforms = x.platforms; path = x.path; bytes = bytes; reached = x.reached }

-- a product as a thing has it, and as a builder sees it
abbrev pub plain_of : Product → PlainProduct
plain_of p = record { name = p.name; kind = p.kind; sub = p.sub; bytes = p.bytes; refs = p.refs; legacy = p.legacy }

abbrev pub product_of : PlainProduct → Product
product_of p = record { name = p.name; kind = p.kind; sub = p.sub; bytes = p.bytes; refs = p.refs; legacy = p.legacy }

-- what a builder sees of a dependency: its input's digest in the place of the input
abbrev pub handed_view : HandedOver → Handed
handed_view (ByOrder job products) = record { kind = Order; job = job; products = map product_of products; print = [] }
handed_view (ByFingerprint job input products) = record { kind = Fingerprint; job = job; products = map product_of products; print = digest input }

-- what a builder sees of a job input
abbrev pub job_view : MadeFrom → JobInput
job_view x = record {
  builder = x.builder;
  version = x.version;
  platform = x.platform;
  key = x.key;
  params = x.params;
  path = x.path;
  bytes = x.bytes;
  reached = x.reached;
  handed = map handed_view x.handed;
}
