-- Q-8: both sides of each edge. A script's first event stands first.
use Rattle.std.specs.Prelude.{ℕ, ◌-◌, ◌^◌, List, [], ◌∷◌, ◌≡◌, ℤ, pos, negsuc}
use Rattle.laws.specs.Table.{up_from}
use Rattle.events.specs.Event.{Event, write, read, sample, clock}
use Rattle.events.specs.Run.{script_onto}
use Rattle.sheets.specs.Sheets.{no_tally, no_tallies, from_to, empty_sheet, sheet_joined, kept, join_number}
use Rattle.sheets.specs.declared.Sheet.{Sheet}
use Rattle.sheets.specs.declared.Tally.{Tally}
use Rattle.months.specs.Histories.{sheet_of}

-- the sheet of a script from power-up
abbrev of : List Event → Sheet
of script = sheet_of (script_onto script [])

abbrev x : ℤ → Event
x v = sample v (pos 0) (pos 0) 0

-- smallest, largest, sum
abbrev tally : ℤ → ℤ → ℤ → Tally
tally smallest largest sum = record { extremes = from_to smallest largest; sum = sum }

abbrev range : ℕ → Event
range code = write 0x0F code

-- the FIFO's numbers of a sheet: accepted, taken, held, lost, cleared
abbrev counts : Sheet → List ℕ
counts s = s.accepted ∷ s.taken ∷ s.held ∷ s.lost ∷ s.cleared ∷ []

abbrev fifo : Event
fifo = write 0x3E 0x40

-- ---- one log
pub record LogEdges : Type 0 where
  -- the version byte only
  pub none : of [] ≡ empty_sheet
  -- one sample of -2048 at 16 g
  pub least-at-16 : (of (range 0b1100 ∷ sample (negsuc 2047) (pos 2047) (pos 0) 0 ∷ [])).ranges.g16
      ≡ record { x = tally (negsuc 2047) (negsuc 2047) (negsuc 2047); y = tally (pos 2047) (pos 2047) (pos 2047); z = tally (pos 0) (pos 0) (pos 0) }
  -- one of -2049 is refused 4 and counts nowhere
  pub refused : of (x (negsuc 2048) ∷ []) ≡ empty_sheet
  -- extremes do not begin at 0
  pub above-0 : (of (x (pos 5) ∷ x (pos 3) ∷ [])).ranges.g2.x ≡ tally (pos 3) (pos 5) (pos 8)
  pub below-0 : (of (x (negsuc 4) ∷ x (negsuc 2) ∷ [])).ranges.g2.x ≡ tally (negsuc 4) (negsuc 2) (negsuc 7)
  -- samples in one range only
  pub one-range : (of (x (pos 5) ∷ [])).ranges.g4 ≡ no_tallies
  -- the range changed between, and a refused change
  pub before-change : (of (x (pos 5) ∷ range 0b0101 ∷ x (pos 7) ∷ [])).ranges.g2.x ≡ tally (pos 5) (pos 5) (pos 5)
  pub behind-change : (of (x (pos 5) ∷ range 0b0101 ∷ x (pos 7) ∷ [])).ranges.g4.x ≡ tally (pos 7) (pos 7) (pos 7)
  pub behind-refused : (of (x (pos 5) ∷ range 0b0100 ∷ x (pos 7) ∷ [])).ranges.g2.x ≡ tally (pos 5) (pos 7) (pos 12)
  -- all three axes, whatever 0x3E selects
  pub unselected : (of (write 0x3E 0x41 ∷ sample (pos 1) (pos 2) (pos 3) 0 ∷ [])).ranges.g2.z ≡ tally (pos 3) (pos 3) (pos 3)
  -- what is stored, and not what is given: 8 counts a step at 2 g
  pub stored : (of (write 0x38 0x7F ∷ x (pos 100) ∷ [])).ranges.g2.x ≡ tally (pos 1116) (pos 1116) (pos 1116)
  -- the 32nd sample in FIFO mode is held; the 33rd is lost, and is an extreme all the same
  pub held-32 : counts (of (fifo ∷ up_from (λ k. x (pos k)) 1 32)) ≡ 32 ∷ 0 ∷ 32 ∷ 0 ∷ 0 ∷ []
  pub lost-33 : counts (of (fifo ∷ up_from (λ k. x (pos k)) 1 33)) ≡ 33 ∷ 0 ∷ 32 ∷ 1 ∷ 0 ∷ []
  pub lost-extreme : (of (fifo ∷ up_from (λ k. x (pos k)) 1 33)).ranges.g2.x ≡ tally (pos 1) (pos 33) (pos 561)
  -- held when the FIFO was cleared: by a write to 0x3E, by a soft reset; a frame of which a byte was read is taken
  pub cleared : counts (of (fifo ∷ x (pos 1) ∷ x (pos 2) ∷ fifo ∷ [])) ≡ 2 ∷ 0 ∷ 0 ∷ 0 ∷ 2 ∷ []
  pub reset : counts (of (fifo ∷ x (pos 1) ∷ x (pos 2) ∷ read 0x3F 1 ∷ write 0x14 0xB6 ∷ [])) ≡ 2 ∷ 1 ∷ 0 ∷ 0 ∷ 1 ∷ []
  pub nothing-cleared : counts (of (fifo ∷ fifo ∷ [])) ≡ 0 ∷ 0 ∷ 0 ∷ 0 ∷ 0 ∷ []
  -- the clock
  pub clocks : (of (clock (2 ^ 32 - 1) ∷ clock (2 ^ 32 - 1) ∷ clock 2 ∷ [])).clock ≡ 2 ^ 33

-- ---- two sheets
-- with this clock, and with this sum of x at 8 g
abbrev clocked : ℕ → Sheet
clocked us = record { accepted = 0; taken = 0; held = 0; lost = 0; cleared = 0; clock = us; ranges = empty_sheet.ranges }

abbrev summed : ℤ → Sheet
summed sum = record {
  accepted = 0;
  taken = 0;
  held = 0;
  lost = 0;
  cleared = 0;
  clock = 0;
  ranges = record { g2 = no_tallies; g4 = no_tallies; g8 = record { x = record { extremes = from_to (pos 0) (pos 0); sum = sum }; y = no_tally; z = no_tally }; g16 = no_tallies };
}

abbrev joined_to : Sheet → Sheet → ℕ
joined_to a b = join_number (sheet_joined a b)

pub record JoinEdges : Type 0 where
  -- 2 ^ 64 - 1, and one more: the first is kept
  pub most-clock : joined_to (clocked (2 ^ 64 - 2)) (clocked 1) ≡ 0
  pub clock-passes : joined_to (clocked (2 ^ 64 - 2)) (clocked 2) ≡ 15
  pub clock-stays : kept (clocked (2 ^ 64 - 2)) (sheet_joined (clocked (2 ^ 64 - 2)) (clocked 2)) ≡ clocked (2 ^ 64 - 2)
  -- 2 ^ 63 - 1, and one more; -2 ^ 63, and one less
  pub most-sum : joined_to (summed (pos (2 ^ 63 - 2))) (summed (pos 1)) ≡ 0
  pub sum-passes : joined_to (summed (pos (2 ^ 63 - 2))) (summed (pos 2)) ≡ 15
  pub least-sum : joined_to (summed (negsuc (2 ^ 63 - 2))) (summed (negsuc 0)) ≡ 0
  pub sum-passes-below : joined_to (summed (negsuc (2 ^ 63 - 2))) (summed (negsuc 1)) ≡ 15
  pub sum-stays : kept (summed (negsuc (2 ^ 63 - 2))) (sheet_joined (summed (negsuc (2 ^ 63 - 2))) (summed (negsuc 1))) ≡ summed (negsuc (2 ^ 63 - 2))
  -- from one end to the other nothing passes
  pub across : joined_to (summed (negsuc (2 ^ 63 - 1))) (summed (pos (2 ^ 63 - 1))) ≡ 0
