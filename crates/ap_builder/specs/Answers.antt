-- What every answer of a builder keeps to.
use Rattle.std.specs.Prelude.{◌≡◌, ℕ, List, Contains, IfSome, find, bytes_eq}
use Rattle.std.specs.List.{AllByRecursion}
use Rattle.ap_builder.specs.declared.offer.Target.{Target}
use Rattle.ap_builder.specs.declared.offer.Target.TheVariants.{File, Glob}
use Rattle.ap_rows.specs.declared.job.JobDesc.{JobDesc}
use Rattle.ap_builder.specs.declared.product.Product.{Product}
use Rattle.ap_builder.specs.declared.work.CreateInput.{CreateInput}
use Rattle.ap_builder.specs.declared.work.CreateAnswer.{CreateAnswer}
use Rattle.ap_builder.specs.declared.work.CreateAnswer.TheVariants.{Jobs, Failed as CreateFailed}
use Rattle.ap_builder.specs.declared.work.JobInput.{JobInput}
use Rattle.ap_builder.specs.declared.work.Outcome.{Outcome}
use Rattle.ap_builder.specs.declared.work.Outcome.TheVariants.{Done, Failed}
use Rattle.ap_builder.specs.Paths.{IsFolded, IsPattern, IsShort}

-- a folded path or a pattern
abbrev pub IsTarget : Target → Type 0
IsTarget (File path) = IsFolded path
IsTarget (Glob pattern) = IsPattern pattern

-- targets of a source of these bytes: folded paths and patterns, and few where the bytes are few
pub record DeclaresWell (bytes : List ℕ) (targets : List Target) : Type 0 where
  pub each : AllByRecursion IsTarget targets
  pub short : IsShort bytes → IsShort targets

-- a job that this builder may create: it names the builder, a platform of the input, and the version that the input first lists for the builder
pub record IsJobBy (builder : List ℕ) (input : CreateInput) (job : JobDesc) : Type 0 where
  pub named : job.builder ≡ builder
  pub platform : Contains input.platforms job.platform
  pub version : IfSome (find (λ listed. bytes_eq listed.0 builder) input.builders) (λ listed. job.version ≡ listed.1)
  pub folded : AllByRecursion (λ dep. IsFolded dep.job.source) job.deps
  pub short : IsShort input.bytes → IsShort job.params × IsShort job.deps

-- each job of the answer is one that this builder may create
abbrev pub CreatesFor : List ℕ → CreateInput → CreateAnswer → Type 0
CreatesFor builder input (Jobs jobs) = AllByRecursion (IsJobBy builder input) jobs
CreatesFor builder input (CreateFailed code) = Unit {0}

-- a product whose lists are short
pub record IsShortProduct (product : Product) : Type 0 where
  pub name : IsShort product.name
  pub bytes : IsShort product.bytes
  pub refs : IsShort product.refs
  pub old : IsShort product.legacy.old
  pub formerly : IsShort product.legacy.formerly

-- a product that may be made of this input: its paths are folded, and its lists are short where the source's are
pub record IsProductOf (input : JobInput) (product : Product) : Type 0 where
  pub refs : AllByRecursion (λ ref. IsFolded ref.path) product.refs
  pub formerly : AllByRecursion IsFolded product.legacy.formerly
  pub short : IsShort input.path → IsShort input.bytes → IsShortProduct product

-- each product of the outcome may be made of this input, and there are few where the source's bytes are few
abbrev pub MakesWell : JobInput → Outcome → Type 0
MakesWell input (Done products) = AllByRecursion (IsProductOf input) products × (IsShort input.bytes → IsShort products)
MakesWell input (Failed code) = Unit {0}
