-- What the builder `copy` answers, which reads no directives.
use Rattle.std.specs.Prelude.{ℕ, List, [], ◌∷◌, map, codes, pos}
use Rattle.std.specs.Str.{str_to_ascii_lowercase}
use Rattle.ap_text.specs.PathRules.{file_name_lem}
use Rattle.ap_rows.specs.declared.job.JobDesc.{JobDesc}
use Rattle.ap_builder.specs.declared.product.Product.{Product}
use Rattle.ap_builder.specs.declared.work.CreateInput.{CreateInput}
use Rattle.ap_builder.specs.declared.work.CreateAnswer.{CreateAnswer}
use Rattle.ap_builder.specs.declared.work.CreateAnswer.TheVariants.{Jobs}
use Rattle.ap_builder.specs.declared.work.JobInput.{JobInput}
use Rattle.ap_builder.specs.declared.work.Outcome.{Outcome}
use Rattle.ap_builder.specs.declared.work.Outcome.TheVariants.{Done}
use Rattle.ap_samples.specs.Creating.{listed_version}

abbrev pub copy_job : List ℕ → CreateInput → List ℕ → JobDesc
copy_job builder input platform = record {
  builder = builder;
  version = listed_version input.builders builder;
  platform = platform;
  key = codes "copy";
  priority = pos 0;
  params = [];
  deps = [];
}

-- one job for each platform
abbrev pub copy_created : List ℕ → CreateInput → CreateAnswer
copy_created builder input = Jobs (map (copy_job builder input) input.platforms)

-- the source's bytes under its folded name
abbrev pub copy_product : JobInput → Product
copy_product input = record {
  name = str_to_ascii_lowercase (file_name_lem input.path);
  kind = codes "copy";
  sub = 0;
  bytes = input.bytes;
  refs = [];
  legacy = record { old = []; formerly = [] };
}

abbrev pub copy_made : JobInput → Outcome
copy_made input = Done (copy_product input ∷ [])
