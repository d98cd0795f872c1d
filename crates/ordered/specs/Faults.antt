-- The number of each fault.
use Rattle.std.specs.Prelude.{ℕ}
use Rattle.ordered.specs.declared.fault.MapFault.{MapFault}
use Rattle.ordered.specs.declared.fault.MapFault.TheVariants.{Held, Full, Absent}

abbrev pub fault_number : MapFault → ℕ
fault_number Held = 1
fault_number Full = 2
fault_number Absent = 3
