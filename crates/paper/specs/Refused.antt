-- 01, "Numbers given back" and "Register table", Q-1 and Q-4 to Q-7: which writes are refused, in their words. No contract cites this: proofs/Refused
-- holds the definitions that the contracts cite against it.
use Rattle.std.specs.Prelude.{ℕ, ◌/◌, ◌%◌, Bool, false, not, List, [], ◌∷◌, eqb, leb}
use Rattle.laws.specs.Choice.{pick, both, either}
use Rattle.laws.specs.Lists.{is_in}
use Rattle.laws.specs.Bits.{bit}
use Rattle.paper.specs.Ranges.{is_known_range}

-- Of a write a is the address and b the byte; held are the bytes that the addresses hold before it.

-- what stands at address k with the write: the byte as it comes, before the mask, where the write goes there
abbrev pub would_hold : (ℕ → ℕ) → ℕ → ℕ → ℕ → ℕ
would_hold held a b k = pick (eqb a k) b (held k)

-- Q-6, of the byte of 0x27: "by 0x27 bits 7:2 .. Codes 22 to 31 have no meaning there"
abbrev pub means_no_wait : ℕ → Bool
means_no_wait byte = let code = byte / 4 % 64 in both (leb 22 code) (leb code 31)

-- 2, "write of a code the sheet reserves". A row names the addresses whose writes it refuses, and asks what the addresses would hold
unfoldable pub is_reserved_write : (ℕ → ℕ) → ℕ → ℕ → Bool
is_reserved_write held a b =
    -- "0F: the codes 0011, 0101, 1000 and 1100 ..; every other low nibble is refused 2"
    pick (eqb a 0x0F) (not (is_known_range (would_hold held a b 0x0F)))
    -- "3E: bits 7:6 are 00 .., 01 .., 10 ..; 11 is refused 2"
    (pick (eqb a 0x3E) (not (is_in (0b00 ∷ 0b01 ∷ 0b10 ∷ []) (would_hold held a b 0x3E / 64)))
    -- Q-6: "2 for the write to 0x18 or 0x27 that would bring no-motion and such a code together", with "bit 3 choosing no-motion"
    (pick (is_in (0x18 ∷ 0x27 ∷ []) a) (both (bit 3 (would_hold held a b 0x18)) (means_no_wait (would_hold held a b 0x27)))
    false))

-- "a 1 in" bits of a byte
abbrev pub one_in : List ℕ → ℕ → Bool
one_in [] b = false
one_in (p ∷ ps) b = either (bit p b) (one_in ps b)

-- 11, "a detector bit in 0x16 to 0x18": "a 1 in .. 0x16 bits 7:4"; Q-5: "11 no longer for 0x17", and Q-6: "11 no longer for 0x18"
unfoldable pub is_detector_write : ℕ → ℕ → Bool
is_detector_write a b = pick (eqb a 0x16) (one_in (7 ∷ 6 ∷ 5 ∷ 4 ∷ []) b) false

-- 12, "a power mode in 0x11": "a 1 in 0x11 bits 7:5"
unfoldable pub is_power_mode_write : ℕ → ℕ → Bool
is_power_mode_write a b = pick (eqb a 0x11) (one_in (7 ∷ 6 ∷ 5 ∷ []) b) false

-- 13, "self-test, memory, calibration or offset in 0x32, 0x33, 0x36, 0x38 to 0x3A": "a 1 in .. 0x32 bits 1:0, 0x33 bits 3, 1, 0, 0x36
-- bits 7:5 or 2:0"; Q-7: "13 no longer for 0x38 to 0x3A"
unfoldable pub is_test_or_trim_write : ℕ → ℕ → Bool
is_test_or_trim_write a b =
    pick (eqb a 0x32) (one_in (1 ∷ 0 ∷ []) b)
    (pick (eqb a 0x33) (one_in (3 ∷ 1 ∷ 0 ∷ []) b)
    (pick (eqb a 0x36) (one_in (7 ∷ 6 ∷ 5 ∷ 2 ∷ 1 ∷ 0 ∷ []) b)
    false))

-- in 3's place, by Q-1: "Tell me which kind of thing the twin lacks .. Split it by register"; and Q-4: "14 is gone", so of 0x21 nothing is refused
abbrev pub is_lacking : ℕ → ℕ → Bool
is_lacking a b = either (is_detector_write a b) (either (is_power_mode_write a b) (is_test_or_trim_write a b))

-- 1: "address above 0x3F"; every other write is accepted
unfoldable pub accepts : (ℕ → ℕ) → ℕ → ℕ → Bool
accepts held a b = both (leb a 0x3F) (not (either (is_reserved_write held a b) (is_lacking a b)))
