-- The number and the values of a refusal.
use Rattle.std.specs.Prelude.{ℕ, List, []}
use Rattle.depot.specs.declared.refusals.SettingsRefusal.{SettingsRefusal}
use Rattle.depot.specs.declared.refusals.SettingsRefusal.TheVariants.{OutOfRange}

abbrev pub number : SettingsRefusal → ℕ
number OutOfRange = 6

-- beside its number the refusal has no values
abbrev pub values : SettingsRefusal → List ℕ
values OutOfRange = []
