-- Each edge, by computation.
-- Assumes nothing.
use mathlib.Core.Path.{refl}
use Rattle.device.specs.Computed.{the_device}
use Rattle.paper.specs.Computed.{the_paper}
use Rattle.history.specs.History.{frame, says_here}
use Rattle.demand3.specs.Chip.{since}
use Rattle.demand3.specs.Counts.{begun, held_after}
use Rattle.demand3.specs.Whole.{totals}
use Rattle.sheets.specs.Sheets.{count_fits, sum_fits, sheet_joined}
use Rattle.months.specs.Histories.{counts_at, clock_in, tally_of}
use Rattle.months.specs.Edges.{LogEdges, JoinEdges}

pub log-edges : LogEdges
unfolding the_device the_paper begun held_after since says_here frame totals counts_at clock_in tally_of
log-edges = record {
  none = refl;
  least-at-16 = refl;
  refused = refl;
  above-0 = refl;
  below-0 = refl;
  one-range = refl;
  before-change = refl;
  behind-change = refl;
  behind-refused = refl;
  unselected = refl;
  stored = refl;
  held-32 = refl;
  lost-33 = refl;
  lost-extreme = refl;
  cleared = refl;
  reset = refl;
  nothing-cleared = refl;
  clocks = refl;
}

pub join-edges : JoinEdges
unfolding count_fits sum_fits sheet_joined
join-edges = record {
  most-clock = refl;
  clock-passes = refl;
  clock-stays = refl;
  most-sum = refl;
  sum-passes = refl;
  least-sum = refl;
  sum-passes-below = refl;
  sum-stays = refl;
  across = refl;
}
