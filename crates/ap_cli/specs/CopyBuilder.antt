-- What the builder `copy` answers.
use Rattle.std.specs.Prelude.{ℕ, List, [], ◌∷◌, map, codes, pos, bytes_eq, if◌then◌else◌}
use Rattle.std.specs.Str.{str_to_ascii_lowercase}
use Rattle.ap_text.specs.PathRules.{file_name_lem}
use Rattle.ap_config.specs.declared.offer.Offer.{Offer}
use Rattle.ap_builder.specs.declared.offer.Target.{Target}
use Rattle.ap_rows.specs.declared.job.JobDesc.{JobDesc}
use Rattle.ap_builder.specs.declared.product.Product.{Product}
use Rattle.ap_builder.specs.declared.work.CreateInput.{CreateInput}
use Rattle.ap_builder.specs.declared.work.CreateAnswer.{CreateAnswer}
use Rattle.ap_builder.specs.declared.work.CreateAnswer.TheVariants.{Jobs}
use Rattle.ap_builder.specs.declared.work.JobInput.{JobInput}
use Rattle.ap_builder.specs.declared.work.Outcome.{Outcome}
use Rattle.ap_builder.specs.declared.work.Outcome.TheVariants.{Done}

abbrev pub copy_name : List ℕ
copy_name = codes "copy"

-- one builder, for texts, images and sounds
abbrev pub copy_offers : List Offer
copy_offers = record { name = copy_name; patterns = codes "*.txt" ∷ codes "*.png" ∷ codes "*.wav" ∷ []; version = 1 } ∷ []

abbrev pub copy_declares : List ℕ → List ℕ → List ℕ → List Target
copy_declares builder path bytes = []

-- the version that the input first lists for a builder, or 1
abbrev pub version_in_lem : List (List ℕ × ℕ) → List ℕ → ℕ
version_in_lem [] builder = 1
version_in_lem (listed ∷ builders) builder = if bytes_eq listed.0 builder then listed.1 else version_in_lem builders builder

abbrev pub copy_job : List ℕ → CreateInput → List ℕ → JobDesc
copy_job builder input platform = record {
  builder = builder;
  version = version_in_lem input.builders builder;
  platform = platform;
  key = copy_name;
  priority = pos 0;
  params = [];
  deps = [];
}

-- one job for each platform
abbrev pub copy_creates : List ℕ → CreateInput → CreateAnswer
copy_creates builder input = Jobs (map (copy_job builder input) input.platforms)

-- the source's bytes under its folded name
abbrev pub copy_product : JobInput → Product
copy_product input = record {
  name = str_to_ascii_lowercase (file_name_lem input.path);
  kind = copy_name;
  sub = 0;
  bytes = input.bytes;
  refs = [];
  legacy = record { old = []; formerly = [] };
}

abbrev pub copy_makes : JobInput → Outcome
copy_makes input = Done (copy_product input ∷ [])
