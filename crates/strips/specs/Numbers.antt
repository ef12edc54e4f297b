-- The numbers of the refusals.
use Rattle.std.specs.Prelude.{ℕ}
use Rattle.strips.specs.declared.denial.Denial.{Denial}
use Rattle.strips.specs.declared.denial.Denial.TheVariants.{FileEnds, VersionUnknown, SizeOutOfRange, MapBitUnknown, AtomOutOfRange, FieldAtDefault, AddedAndRemoved, BytesAfterEnd, NoSuchNumber, OrderUnknown, TaskOutOfRange, ActionClosed, NeedsMissing, StepsSpent, GoalMissing, PlacesSpent, DoesNotFit}

abbrev pub number_of : Denial → ℕ
number_of FileEnds = 1
number_of VersionUnknown = 2
number_of SizeOutOfRange = 3
number_of MapBitUnknown = 4
number_of AtomOutOfRange = 5
number_of FieldAtDefault = 6
number_of AddedAndRemoved = 7
number_of BytesAfterEnd = 8
number_of NoSuchNumber = 9
number_of OrderUnknown = 10
number_of TaskOutOfRange = 11
number_of ActionClosed = 12
number_of NeedsMissing = 13
number_of StepsSpent = 14
number_of GoalMissing = 15
number_of PlacesSpent = 16
number_of DoesNotFit = 17
