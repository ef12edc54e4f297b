-- The compiled task, whose atoms stand for the sets of 1 to m atoms of a task: the definitions stand in `heuristics`, and have
-- these names here too.
pub use Rattle.heuristics.specs.Smalls.{set_at}
unfoldable pub use Rattle.heuristics.specs.Compiled.{kept, flat}
pub use Rattle.heuristics.specs.Compiled.{within, within_meeting, carrying, cargo, carriers, all_carriers, compiled, empty_task, compiled_task, compiled_sound}
