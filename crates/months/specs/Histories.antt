-- Q-8: what the histories say of a log in numbers, from its events alone. Numbers have no bounds here. In a history the latest event stands first.
use Rattle.std.specs.Prelude.{ℕ, ◌+◌, List, [], ◌∷◌, ◌++◌, ◌⊎◌, ◌↔◌, ◌≡◌, None, eqb, ℤ, pos, ◌+ℤ◌, ◌≤ℤ◌}
use Rattle.laws.specs.Choice.{pick, both}
use Rattle.events.specs.Event.{Event}
use Rattle.paper.specs.Ranges.{g_by}
use Rattle.paper.specs.Samples.{Values, is_sample, values_at, microseconds_at}
use Rattle.paper.specs.Stored.{byte_by}
use Rattle.history.specs.History.{accelerometer}
use Rattle.demand3.specs.Whole.{held_now, totals}
use Rattle.sheets.specs.Sheets.{no_tally, from_to, tally_over}
use Rattle.sheets.specs.declared.ByAxis.{ByAxis}
use Rattle.sheets.specs.declared.Sheet.{Sheet}
use Rattle.sheets.specs.declared.Tally.{Tally}
use Rattle.tally.specs.Tally.{one_tally}
use Rattle.months.specs.Totals.{AllIn64}

-- ---- the stored counts of an axis in a range of so many g: "of every accepted sample, lost ones too, .. by the range in force at the sample"
abbrev pub count_here : ℕ → (Values → ℤ) → List Event → Event → List ℤ
count_here g axis es e = pick (both (is_sample e) (eqb (g_by (byte_by es 0x0F)) g)) (axis (values_at es e) ∷ []) []

unfoldable pub counts_at : ℕ → (Values → ℤ) → List Event → List ℤ
counts_at g axis [] = []
counts_at g axis (e ∷ es) = count_here g axis es e ++ counts_at g axis es

-- ---- "clock total", in microseconds
unfoldable pub clock_in : List Event → ℕ
clock_in [] = 0
clock_in (e ∷ es) = clock_in es + microseconds_at e

-- ---- what numbers come to, in the request's words. No contract cites these
abbrev pub sum_of : List ℤ → ℤ
sum_of [] = pos 0
sum_of (v ∷ l) = v +ℤ sum_of l

infix 50 ◌among◌
abbrev pub ◌among◌ : ℤ → List ℤ → Type 0
v among [] = ⊥
v among (w ∷ l) = (v ≡ w) ⊎ (v among l)

abbrev pub IsSmallest : List ℤ → ℤ → Type 0
IsSmallest l v = (v among l) × ((w : ℤ) → w among l → v ≤ℤ w)

abbrev pub IsLargest : List ℤ → ℤ → Type 0
IsLargest l v = (v among l) × ((w : ℤ) → w among l → w ≤ℤ v)

-- "smallest, largest (none where no sample came) and signed sum"
pub record Tallied (l : List ℤ) (t : Tally) : Type 0 where
  pub none : (t.extremes ≡ None) ↔ (l ≡ [])
  pub some : (smallest largest : ℤ) → t.extremes ≡ from_to smallest largest → IsSmallest l smallest × IsLargest l largest
  pub sum : t.sum ≡ sum_of l

-- ---- the sheet, by one sample at a time: what it says of the histories is said below
unfoldable pub tally_of : List ℤ → Tally
tally_of [] = no_tally
tally_of (v ∷ l) = tally_over (tally_of l) (one_tally v)

abbrev pub axes_of : (ℕ → (Values → ℤ) → List ℤ) → ℕ → ByAxis
axes_of counts g = record { x = tally_of (counts g (λ (v : Values). v.x)); y = tally_of (counts g (λ (v : Values). v.y)); z = tally_of (counts g (λ (v : Values). v.z)) }

-- by its counts, clock and stored counts
abbrev pub sheet_with : ℕ → ℕ → ℕ → ℕ → ℕ → ℕ → (ℕ → (Values → ℤ) → List ℤ) → Sheet
sheet_with accepted taken held lost cleared clock counts = record {
  accepted = accepted;
  taken = taken;
  held = held;
  lost = lost;
  cleared = cleared;
  clock = clock;
  ranges = record { g2 = axes_of counts 2; g4 = axes_of counts 4; g8 = axes_of counts 8; g16 = axes_of counts 16 };
}

-- of a log: "samples accepted, taken, held at the end, lost, and held when the FIFO was cleared" are demand 3's, over clears
abbrev pub sheet_of : List Event → Sheet
sheet_of es =
    let n = totals accelerometer es in
    sheet_with n.accepted n.taken (held_now accelerometer es) n.lost n.cleared_away (clock_in es) (λ g axis. counts_at g axis es)

-- ---- what a sheet says
pub record AxesTallied (counts : (Values → ℤ) → List ℤ) (a : ByAxis) : Type 0 where
  pub x : Tallied (counts (λ v. v.x)) a.x
  pub y : Tallied (counts (λ v. v.y)) a.y
  pub z : Tallied (counts (λ v. v.z)) a.z

pub record Says (accepted taken held lost cleared clock : ℕ) (counts : ℕ → (Values → ℤ) → List ℤ) (s : Sheet) : Type 0 where
  pub accepted-is : s.accepted ≡ accepted
  pub taken_is : s.taken ≡ taken
  pub held-is : s.held ≡ held
  pub lost-is : s.lost ≡ lost
  pub cleared-is : s.cleared ≡ cleared
  pub clock-is : s.clock ≡ clock
  pub at-2-g : AxesTallied (counts 2) s.ranges.g2
  pub at-4-g : AxesTallied (counts 4) s.ranges.g4
  pub at-8-g : AxesTallied (counts 8) s.ranges.g8
  pub at-16-g : AxesTallied (counts 16) s.ranges.g16

-- of a log
abbrev pub SaysOf : List Event → Sheet → Type 0
SaysOf es s =
    let n = totals accelerometer es in
    Says n.accepted n.taken (held_now accelerometer es) n.lost n.cleared_away (clock_in es) (λ g axis. counts_at g axis es) s

-- ---- "15 .. inside a log, at the event that would pass": signed sums may come back, so it is any event, and not the end of the log
abbrev pub Earlier : List Event → List Event → Type 0
Earlier earlier es = (later : List Event) × (es ≡ later ++ earlier)

abbrev pub Passes : List Event → Type 0
Passes es = (earlier : List Event) × (Earlier earlier es × (AllIn64 (sheet_of earlier) → ⊥))
