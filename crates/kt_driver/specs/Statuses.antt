-- The numbers that the program ends with.
use Rattle.std.specs.Prelude.{ℕ}
use Rattle.kt_driver.specs.declared.status.Status.{Status}
use Rattle.kt_driver.specs.declared.status.Status.TheVariants.{Ok, Refused, Usage, ReadFault, WriteFault, NoMemory}

abbrev pub exit_number_of : Status → ℕ
exit_number_of Ok = 0
exit_number_of Refused = 1
exit_number_of Usage = 2
exit_number_of ReadFault = 3
exit_number_of WriteFault = 4
exit_number_of NoMemory = 5
