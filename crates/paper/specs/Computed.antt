-- One name that opens all that this crate says, for what is proved by computation.
use Rattle.std.specs.Prelude.{ℕ}
use Rattle.laws.specs.Bits.{bit}
use Rattle.paper.specs.Table.{table_rows, reset_of, mask_of, masked}
use Rattle.paper.specs.Refused.{is_reserved_write, is_detector_write, is_power_mode_write, is_test_or_trim_write, accepts}
use Rattle.paper.specs.Stored.{byte_by}
use Rattle.paper.specs.Samples.{stored_behind}
use Rattle.paper.specs.Readouts.{reads_out}

unfoldable pub the_paper : ℕ
unfolding bit table_rows reset_of mask_of masked is_reserved_write is_detector_write is_power_mode_write is_test_or_trim_write accepts byte_by stored_behind reads_out
the_paper = 0
