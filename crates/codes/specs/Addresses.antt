-- 01, "Register table": the addresses that more than one rule names, by what stands there.
use Rattle.std.specs.Prelude.{ℕ}

-- the measuring range
abbrev pub range_at : ℕ
range_at = 0x0F

-- the power mode
abbrev pub power_at : ℕ
power_at = 0x11

-- bit 6 is 1 where no lock is wanted
abbrev pub shadow_at : ℕ
shadow_at = 0x13

-- where 0xB6 is a soft reset
abbrev pub reset_at : ℕ
reset_at = 0x14

-- the axes of any-motion, and the enables of data, full and watermark
abbrev pub axes_at : ℕ
axes_at = 0x16

abbrev pub enables_at : ℕ
enables_at = 0x17

-- slow motion and no-motion: the axes, and which of the two it is
abbrev pub slow_at : ℕ
slow_at = 0x18

-- the pins' active levels and drives
abbrev pub drive_at : ℕ
drive_at = 0x20

-- the latch mode
abbrev pub latch_at : ℕ
latch_at = 0x21

-- low-g's delay and threshold; the hystereses of low-g and of high-g, with low-g's mode; high-g's delay and threshold
abbrev pub low_delay_at : ℕ
low_delay_at = 0x22

abbrev pub low_threshold_at : ℕ
low_threshold_at = 0x23

abbrev pub hystereses_at : ℕ
hystereses_at = 0x24

abbrev pub high_delay_at : ℕ
high_delay_at = 0x25

abbrev pub high_threshold_at : ℕ
high_threshold_at = 0x26

-- any-motion's points in a row, with slow motion's and no-motion's code; and any-motion's threshold
abbrev pub points_at : ℕ
points_at = 0x27

abbrev pub threshold_at : ℕ
threshold_at = 0x28

-- the threshold of slow motion and no-motion
abbrev pub slow_threshold_at : ℕ
slow_threshold_at = 0x29

-- the watermark's level
abbrev pub level_at : ℕ
level_at = 0x30

-- the offsets of the three axes
abbrev pub x_offset_at : ℕ
x_offset_at = 0x38

abbrev pub y_offset_at : ℕ
y_offset_at = 0x39

abbrev pub z_offset_at : ℕ
z_offset_at = 0x3A

-- the two bytes that a soft reset leaves
abbrev pub first_spare_at : ℕ
first_spare_at = 0x3B

abbrev pub second_spare_at : ℕ
second_spare_at = 0x3C

-- the FIFO's mode and axes
abbrev pub control_at : ℕ
control_at = 0x3E

-- the last address, at which reads stay: the FIFO's frames
abbrev pub frames_at : ℕ
frames_at = 0x3F
