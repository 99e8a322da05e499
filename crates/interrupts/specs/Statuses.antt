-- 01, "Interrupts and pins": when each status is 1.
use Rattle.std.specs.Prelude.{ℕ, Bool, List, eqb, leb, get_or}
use Rattle.laws.specs.Choice.{both}
use Rattle.laws.specs.Bits.{bit}
use Rattle.codes.specs.Addresses.{enables_at, level_at}
use Rattle.interrupts.specs.declared.Statuses.{Statuses}
use Rattle.interrupts.specs.declared.Sources.{Sources}

-- Q-2: "the count is at or above a level from 1 to 32. Level 0 and levels above the depth never fire", of the count, the depth and
-- the level
abbrev pub reached : ℕ → ℕ → ℕ → Bool
reached count depth level = both (both (leb 1 level) (leb level depth)) (leb level count)

-- the statuses, from the registers and what else they are made of
unfoldable pub statuses_of : List ℕ → Sources → Statuses
statuses_of regs s =
    let enables = get_or regs enables_at 0 in
    record {
      low = s.fell;
      high = s.hit;
      motion = s.moved;
      slow = s.slow;
      -- data: "0x17 bit 4 is 1 and an accepted sample came since the last cycle start or reset"
      ready = both (bit 4 enables) s.came;
      -- "0x17 bit 6 is 1", and the level is "the level in 0x30"
      watermark = both (bit 6 enables) (reached s.count s.depth (get_or regs level_at 0));
      -- "0x17 bit 5 is 1 and the count equals the depth"
      full = both (bit 5 enables) (eqb s.count s.depth);
    }
