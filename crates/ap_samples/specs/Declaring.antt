-- What the sources of the four builders with directives depend on.
use Rattle.std.specs.Prelude.{ℕ, List, Option, Some, None}
use Rattle.std.specs.List.{filter_map}
use Rattle.std.specs.Option.{option_and_then}
use Rattle.std.specs.Str.Lines.{lines}
use Rattle.ap_builder.specs.declared.offer.Target.{Target}
use Rattle.ap_builder.specs.declared.offer.Target.TheVariants as target
use Rattle.ap_samples.specs.declared.directive.Directive.{Directive}
use Rattle.ap_samples.specs.declared.directive.Directive.TheVariants.{Include, Glob}
use Rattle.ap_samples.specs.Directives.{directive_in}

abbrev pub target_in : Directive → Option Target
target_in (Include path) = Some (target.File path)
target_in (Glob pattern) = Some (target.Glob pattern)
target_in directive = None

-- what a line depends on
abbrev pub line_target : List ℕ → Option Target
line_target line = option_and_then target_in (directive_in line)

-- the included files and the patterns of a source, in the order of its lines
abbrev pub declared_by : List ℕ → List Target
declared_by bytes = filter_map line_target (lines bytes)
