-- The sets of 1 to m atoms, and their numbers: the definitions stand in `heuristics`, and have these names here too.
unfoldable pub use Rattle.heuristics.specs.Smalls.{sized, smalls, choose, many}
pub use Rattle.heuristics.specs.Smalls.{ClosedForms, Closed}
