-- All detectors together: what a sample, a clock and a write do to them, and what they show.
use Rattle.std.specs.Prelude.{ℕ, Bool, List, ℤ, get_or}
use Rattle.laws.specs.Choice.{pick}
use Rattle.codes.specs.Addresses.{axes_at, slow_at, latch_at, points_at, threshold_at, slow_threshold_at}
use Rattle.codes.specs.Latch.{latch_of, is_unlatched, hold_of}
use Rattle.codes.specs.Wait.{wait_code}
use Rattle.alarm.specs.Alarm.{marks_of}
use Rattle.slopes.specs.Previous.{no_previous, remembered, forgotten, slopes_to}
use Rattle.slopes.specs.declared.Previous.{Previous}
use Rattle.motion.specs.Detector.{quiet, after_sample, restarted, clocked}
use Rattle.motion.specs.declared.Motion.{Motion}
use Rattle.motion.specs.declared.Settings.{Settings}
use Rattle.gravity.specs.Gravity.{both_quiet, both_restarted, both_clocked, both_sampled}
use Rattle.gravity.specs.declared.Gravity.{Gravity}
use Rattle.slow.specs.Slow as slow
use Rattle.slow.specs.declared.Slow.{Slow}
use Rattle.registers.specs.declared.Deeds.{Deeds}
use Rattle.detectors.specs.declared.Alarms.{Alarms}
use Rattle.detectors.specs.declared.Detectors.{Detectors}

-- as at power-up
abbrev pub all_quiet : Detectors
all_quiet = record { previous = no_previous; motion = quiet; gravity = both_quiet; slow = slow.quiet }

-- what any-motion goes by: 0x16, 0x27, 0x28 and the latch mode in 0x21
abbrev pub motion_settings : List ℕ → Settings
motion_settings regs = record {
  axes = get_or regs axes_at 0;
  points = get_or regs points_at 0;
  threshold = get_or regs threshold_at 0;
  unlatched = is_unlatched (latch_of (get_or regs latch_at 0));
  hold = hold_of (latch_of (get_or regs latch_at 0));
}

-- any-motion after an accepted sample x, y, z: it sees the slopes from the sample before it
abbrev pub motion_sampled : List ℕ → Previous → ℤ → ℤ → ℤ → Motion → Motion
motion_sampled regs previous x y z m = after_sample (motion_settings regs) (slopes_to x y z previous) m

-- what slow motion and no-motion go by: 0x18, 0x29, the latch mode in 0x21, and 0x27 bits 7:2, whose lowest two are slow motion's: "N from 0x27
-- bits 3:2 plus 1"
abbrev pub slow_settings : List ℕ → Settings
slow_settings regs = record {
  axes = get_or regs slow_at 0;
  points = wait_code (get_or regs points_at 0);
  threshold = get_or regs slow_threshold_at 0;
  unlatched = is_unlatched (latch_of (get_or regs latch_at 0));
  hold = hold_of (latch_of (get_or regs latch_at 0));
}

abbrev pub slow_sampled : List ℕ → Previous → ℤ → ℤ → ℤ → Slow → Slow
slow_sampled regs previous x y z s = slow.sampled (slow_settings regs) (slopes_to x y z previous) s

-- an accepted sample x, y, z, which is then the previous one
unfoldable pub detectors_sampled : List ℕ → ℤ → ℤ → ℤ → Detectors → Detectors
detectors_sampled regs x y z d = record {
  previous = remembered x y z;
  motion = motion_sampled regs d.previous x y z d.motion;
  gravity = both_sampled regs x y z d.gravity;
  slow = slow_sampled regs d.previous x y z d.slow;
}

-- a clock of us microseconds: it does not touch the previous sample
unfoldable pub detectors_clocked : ℕ → Detectors → Detectors
detectors_clocked us d = record { previous = d.previous; motion = clocked us d.motion; gravity = both_clocked us d.gravity; slow = slow.clocked us d.slow }

-- what a write leaves of a part, where it may restart it
abbrev pub written : {A : Type 0} → (A → A) → Bool → A → A
written restarted restarts d = pick restarts (restarted d) d

-- of a write: "0x0F also forgets the previous sample"
abbrev pub previous_written : Bool → Previous → Previous
previous_written = written forgotten

-- "clears status, marks and runs"
abbrev pub motion_written : Bool → Motion → Motion
motion_written = written restarted

-- Q-5: "restarts them: status, marks and runs clear"
abbrev pub gravity_written : Bool → Gravity → Gravity
gravity_written = written both_restarted

-- Q-6: "restarts it"
abbrev pub slow_written : Bool → Slow → Slow
slow_written = written slow.restarted

-- a write; soft reset makes all as at power-up
unfoldable pub detectors_written : Deeds → Detectors → Detectors
detectors_written e d =
    pick e.resets all_quiet
    (record {
      previous = previous_written e.forgets d.previous;
      motion = motion_written e.restarts.motion d.motion;
      gravity = gravity_written e.restarts.gravity d.gravity;
      slow = slow_written e.restarts.slow d.slow;
    })

-- what shows of them
abbrev pub alarms_of : Detectors → Alarms
alarms_of d = record { low = d.gravity.low; high = d.gravity.high; motion = d.motion.alarm; slow = d.slow.motion.alarm }

-- the statuses of low-g and of high-g, and the byte of 0x0C
abbrev pub low_status : Detectors → Bool
low_status d = d.gravity.low.status

abbrev pub high_status : Detectors → Bool
high_status d = d.gravity.high.status

abbrev pub high_marks : Detectors → ℕ
high_marks d = marks_of d.gravity.high

-- the status of slow motion and no-motion
abbrev pub slow_status : Detectors → Bool
slow_status d = d.slow.motion.alarm.status

-- the status of any-motion, and the byte of 0x0B
abbrev pub motion_status : Detectors → Bool
motion_status d = d.motion.alarm.status

abbrev pub motion_marks : Detectors → ℕ
motion_marks d = marks_of d.motion.alarm
