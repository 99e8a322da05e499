-- What is known of a device's events, as numbers: the counts, and the account that they stand in; whether a stretch ends; and which sample
-- an arrival loses.
use Rattle.std.specs.Prelude.{ℕ, ◌+◌, ◌-◌, ◌%◌, ◌^◌, Bool, true, false, ◌==◌, Option, None, Some}
use Rattle.laws.specs.Choice.{pick, both}
use Rattle.codes.specs.declared.Mode.{Mode}
use Rattle.codes.specs.declared.Mode.TheVariants.{Bypass, Fifo, Stream}
use Rattle.codes.specs.declared.Mode.TheVariants as mode
use Rattle.codes.specs.declared.Range.{Range}
use Rattle.codes.specs.declared.Range.TheVariants.{G2, G4, G8, G16}
use Rattle.codes.specs.declared.Range.TheVariants as range
use Rattle.counts.specs.declared.Account.{Account}
use Rattle.counts.specs.declared.Counts.{Counts}
use Rattle.counts.specs.declared.Doubt.{Doubt}
use Rattle.counts.specs.declared.Doubts.{Doubts}
use Rattle.counts.specs.declared.Why.{Why}

-- ---- 64 bits, which wrap as the record number does
abbrev pub sum : ℕ → ℕ → ℕ
sum a b = (a + b) % 2 ^ 64

-- what b added to wraps back to a
abbrev pub less : ℕ → ℕ → ℕ
less a b = (a + (2 ^ 64 - b)) % 2 ^ 64

-- ---- counts
abbrev pub no_counts : Counts
no_counts = record { accepted = 0; taken = 0; lost = 0; cleared = 0; refused = 0; readouts = 0 }

-- what was counted from an earlier count to a later one
abbrev pub differences : Counts → Counts → Counts
differences from to = record {
  accepted = less to.accepted from.accepted;
  taken = less to.taken from.taken;
  lost = less to.lost from.lost;
  cleared = less to.cleared from.cleared;
  refused = less to.refused from.refused;
  readouts = less to.readouts from.readouts;
}

-- with so many more taken, cleared and refused
abbrev pub left : Counts → ℕ → ℕ → ℕ → Counts
left c taken cleared refused = record {
  accepted = c.accepted;
  taken = sum c.taken taken;
  lost = c.lost;
  cleared = sum c.cleared cleared;
  refused = sum c.refused refused;
  readouts = c.readouts;
}

-- with so many readouts more
abbrev pub with_readouts : Counts → ℕ → Counts
with_readouts c readouts = record {
  accepted = c.accepted;
  taken = c.taken;
  lost = c.lost;
  cleared = c.cleared;
  refused = c.refused;
  readouts = sum c.readouts readouts;
}

-- with one sample more, and so many lost by it
abbrev pub arrived : Counts → ℕ → Counts
arrived c lost = record {
  accepted = sum c.accepted 1;
  taken = c.taken;
  lost = sum c.lost lost;
  cleared = c.cleared;
  refused = c.refused;
  readouts = c.readouts;
}

-- ---- whether a stretch ends, by why it does
abbrev pub ends : Option Why → Bool
ends None = false
ends (Some w) = true

-- ---- the account
abbrev pub no_doubts : Doubts
no_doubts = record { range = None; mode = None }

abbrev pub first_account : Account
first_account = record { number = 0; counts = no_counts; doubts = no_doubts; range = G2; mode = Bypass; held = 0 }

-- one event further
abbrev pub account_moved : Account → Counts → Doubts → Range → Mode → ℕ → Account
account_moved a counts doubts range mode held =
    record { number = sum a.number 1; counts = counts; doubts = doubts; range = range; mode = mode; held = held }

-- ---- what is the same in two accounts
abbrev pub is_same_doubt : Option Doubt → Option Doubt → Bool
is_same_doubt None None = true
is_same_doubt None (Some d) = false
is_same_doubt (Some d) None = false
is_same_doubt (Some d) (Some d') = both (d.number == d'.number) (d.byte == d'.byte)

-- a range in g
abbrev pub in_g : Range → ℕ
in_g G2 = 2
in_g G4 = 4
in_g G8 = 8
in_g G16 = 16
in_g range.Reserved = 0

-- "bits 7:6 are 00 BYPASS, 01 FIFO, 10 STREAM"
abbrev pub mode_bits : Mode → ℕ
mode_bits Bypass = 0b00
mode_bits Fifo = 0b01
mode_bits Stream = 0b10
mode_bits mode.Reserved = 0b11

-- the range, and what is doubted of it
abbrev pub is_same_range : Account → Account → Bool
is_same_range a b = both (in_g a.range == in_g b.range) (is_same_doubt a.doubts.range b.doubts.range)

-- the mode, and what is doubted of it
abbrev pub is_same_mode : Account → Account → Bool
is_same_mode a b = both (mode_bits a.mode == mode_bits b.mode) (is_same_doubt a.doubts.mode b.doubts.mode)

-- ---- which sample an arrival loses
-- "When full, FIFO mode drops the newcomer; STREAM and BYPASS the oldest": how many accepted samples the one that is dropped came before
-- the newcomer, with so many held. No write of the reserved mode is accepted
abbrev pub dropped_back : Mode → ℕ → ℕ
dropped_back Bypass held = held
dropped_back Fifo held = 0
dropped_back Stream held = held
dropped_back mode.Reserved held = 0

-- 0, where none was lost
abbrev pub back_of : ℕ → Mode → ℕ → ℕ
back_of lost m held = pick (lost == 0) 0 (dropped_back m held)
