-- 01, "Register table", 0F: "the codes 0011, 0101, 1000 and 1100 mean 2, 4, 8 and 16 g; every other low nibble is refused 2". No contract
-- cites these; what the answer prints as the range rests on them.
use Rattle.std.specs.Prelude.{ℕ, true, false, List, ◌∷◌, ◌↔◌, ◌≢◌, ◌≡◌}
use Rattle.counts.specs.Counts.{in_g}
use Rattle.device.specs.Show.{range_in}
use Rattle.events.specs.Event.{Event, write, gives}
use Rattle.events.specs.Run.{after}
use Rattle.paper.specs.Ranges.{g_by, is_known_range}
use Rattle.paper.specs.Stored.{byte_by}

-- after a history, whose latest event stands first
pub record RangeRule (es : List Event) : Type 0 where
  -- the range in force is what the byte means that the events leave at 0x0F
  pub in_force : in_g (range_in (after es)) ≡ g_by (byte_by es 0x0F)
  -- and there is always one
  pub some : in_g (range_in (after es)) ≢ 0
  -- a write of one of the four codes puts its range in force
  pub written : (byte : ℕ) → is_known_range byte ≡ true → in_g (range_in (after (write 0x0F byte ∷ es))) ≡ g_by byte
  -- "is refused 2", and no code that means a range is
  pub refused : (byte : ℕ) → ((gives (after es) (write 0x0F byte)).number ≡ 2) ↔ (is_known_range byte ≡ false)
