-- Q-5, low-g: what a sample is held against, and its status.
use Rattle.std.specs.Prelude.{ℕ, ◌+◌, ◌*◌, ◌/◌, ◌%◌, Bool, false, List, [], ◌∷◌, map, leb, ltb, nat_abs}
use Rattle.laws.specs.Choice.{pick, either}
use Rattle.laws.specs.Bits.{bit}
use Rattle.events.specs.Event.{Event}
use Rattle.paper.specs.Ranges.{g_by, is_known_range}
use Rattle.paper.specs.Stored.{byte_by}
use Rattle.paper.specs.Samples.{Values}
use Rattle.lookback.specs.Watch.{no_mark, Watch}
use Rattle.lookback.specs.InRow.{every}
use Rattle.lasting.specs.Lasting.{Lasting, watch}

-- what a sample is held against: its sizes, or their sum, in 2 g counts; the threshold; and the hysteresis
pub record Measured : Type 0 where
  pub counts : List ℕ
  pub threshold : ℕ
  pub hysteresis : ℕ

abbrev pub some : (ℕ → Bool) → List ℕ → Bool
some so [] = false
some so (n ∷ ns) = either (so n) (some so ns)

-- "every axis size, or in sum mode .. their sum, .. is below 8 times 0x23"
abbrev pub is_low : Measured → Bool
is_low m = every (λ n. ltb n m.threshold) m.counts

-- "some axis, or the sum, is at or above that plus 128 times 0x24 bits 1:0"
abbrev pub is_far : Measured → Bool
is_far m = some (λ n. leb (m.threshold + m.hysteresis) n) m.counts

-- "in 2 g counts (count times 1, 2, 4, 8 by range)", of the byte of 0x0F: half its g; none where it has no meaning
unfoldable pub factor_by : ℕ → List ℕ
factor_by code = pick (is_known_range code) (g_by code / 2 ∷ []) []

-- "every axis size, or in sum mode (0x24 bit 2) their sum, in 2 g counts", of the byte of 0x24; the size of -2048 is 2048
abbrev pub counts_of : ℕ → Values → ℕ → List ℕ
counts_of modes v factor =
    let x = nat_abs v.x in
    let y = nat_abs v.y in
    let z = nat_abs v.z in
    map (λ n. factor * n) (pick (bit 2 modes) ((x + y + z) ∷ []) (x ∷ y ∷ z ∷ []))

-- by the bytes of 0x23 and 0x24
abbrev pub measured : ℕ → ℕ → Values → ℕ → Measured
measured threshold modes v factor = record { counts = counts_of modes v factor; threshold = 8 * threshold; hysteresis = 128 * (modes % 4) }

-- by the bytes of 0x17, 0x0F, 0x23 and 0x24: "Low is enabled by 0x17 bit 3"
abbrev pub point_by : ℕ → ℕ → ℕ → ℕ → Values → List Measured
point_by enables code threshold modes v = pick (bit 3 enables) (map (measured threshold modes v) (factor_by code)) []

-- "is below .. at each sample for (0x22 + 1) times 2 ms"; low-g marks nothing
abbrev pub low_lasting : Lasting
low_lasting = record {
  Point = Measured;
  point_of = λ es v. point_by (byte_by es 0x17) (byte_by es 0x0F) (byte_by es 0x23) (byte_by es 0x24) v;
  is_met = is_low;
  is_far = is_far;
  mark = λ m. no_mark;
  delay_at = 0x22;
}

abbrev pub low_g : Watch
low_g = watch low_lasting
