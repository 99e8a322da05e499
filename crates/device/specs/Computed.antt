-- One name that opens all that the device is computed from, for what is proved by computation: tables of edges, printed cases, single runs. A new
-- definition has its line here, and no such proof has one for it.
use Rattle.std.specs.Prelude.{ℕ}
use Rattle.laws.specs.Bits.{bit}
use Rattle.laws.specs.Bytes.{zeros, first_or_zeros, moved_forward}
use Rattle.codes.specs.Range.{range_of}
use Rattle.codes.specs.Latch.{latch_of}
use Rattle.codes.specs.Mode.{mode_of}
use Rattle.codes.specs.Axes.{axes_of}
use Rattle.codes.specs.Wait.{wait_of}
use Rattle.table.specs.Rows.{the_table}
use Rattle.registers.specs.Refused.{reserved_code, not_modelled, lack_at, answer_at, read_answer}
use Rattle.registers.specs.Deeds.{deeds_of, judgement, clears}
use Rattle.fifo.specs.Flat.{flat_pushed, flat_read, bytes_read}
use Rattle.fifo.specs.Store.{pushed_in, read_in, bytes_in, count_in, no_frames}
use Rattle.channels.specs.Codes.{code}
use Rattle.channels.specs.Channels.{byte_at, after_read}
use Rattle.alarm.specs.Alarm.{lapse_of}
use Rattle.slopes.specs.Previous.{slopes_to}
use Rattle.slopes.specs.Point.{first_over, point_of}
use Rattle.slopes.specs.Runs.{over_run, calm_run}
use Rattle.motion.specs.Detector.{after_over, after_calm, after_sample, restarted, clocked}
use Rattle.spell.specs.Stopwatch.{longer}
use Rattle.spell.specs.Spell as spell
use Rattle.gravity.specs.Low.{are_below, judged_low, low_shown}
use Rattle.gravity.specs.High.{judged_high, high_shown}
use Rattle.gravity.specs.Gravity.{both_restarted, both_clocked, low_sampled, high_sampled, both_sampled}
use Rattle.slow.specs.Slow as slow
use Rattle.offsets.specs.Offsets.{signed_byte, held_inside, stored_by}
use Rattle.detectors.specs.Detectors.{detectors_sampled, detectors_clocked, detectors_written}
use Rattle.interrupts.specs.Statuses.{statuses_of}
use Rattle.interrupts.specs.Maps.{status_byte, is_active}
use Rattle.interrupts.specs.Pins.{pin_level}
use Rattle.device.specs.Device.{power_up, first_bytes}
use Rattle.device.specs.Show.{shown_byte, pins_of}
use Rattle.device.specs.Read.{byte_from, after_singles, single_bytes, read_of, buffer_after}
use Rattle.device.specs.Write.{written, write_of}
use Rattle.device.specs.Sample.{sample_answer, after_accepted, sample_of, cycle_of}
use Rattle.device.specs.Clock.{clock_of}

unfoldable pub the_device : ℕ
unfolding bit zeros first_or_zeros moved_forward range_of latch_of mode_of axes_of wait_of the_table reserved_code not_modelled lack_at answer_at read_answer deeds_of judgement clears flat_pushed flat_read bytes_read pushed_in read_in bytes_in count_in no_frames code byte_at after_read lapse_of slopes_to first_over point_of over_run calm_run after_over after_calm after_sample restarted clocked longer spell.restarted spell.clocked spell.after_met spell.after_unmet spell.after_sample are_below judged_low low_shown judged_high high_shown both_restarted both_clocked low_sampled high_sampled both_sampled slow.restarted slow.clocked slow.no_motion_sampled slow.sampled signed_byte held_inside stored_by detectors_sampled detectors_clocked detectors_written statuses_of status_byte is_active pin_level power_up first_bytes shown_byte pins_of byte_from after_singles single_bytes read_of buffer_after written write_of sample_answer after_accepted sample_of cycle_of clock_of
the_device = 0
