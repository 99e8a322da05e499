-- 01, "Numbers given back", 7 to 10, and "Bench log and replay", with Q-4's record of a clock, once more from the text: on the bytes alone,
-- with the papers' own numbers, and with nothing of the definitions that reader and writer cite. proofs/LogRefusals holds those against
-- these.
use Rattle.std.specs.Prelude.{ℕ, ◌+◌, ◌*◌, ◌/◌, ◌%◌, ◌<◌, List, [], ◌∷◌, ◌++◌, ◌⊎◌, ◌≢◌, ◌≡◌, ℤ, length, get_or}
use Rattle.std.specs.Int.{w16}
use Rattle.std.proofs.Common.{of_z}
use Rattle.benchlog.specs.declared.Entry.{Entry}
use Rattle.benchlog.specs.declared.Entry.TheVariants.{Write, Read, Sample, CycleStart, Clock}

-- ---- what a log begins with
-- 9, "log cut, or empty"
abbrev pub EmptyLog : List ℕ → Type 0
EmptyLog log = log ≡ []

-- 7, "log version byte not 1"
abbrev pub NotVersionOne : List ℕ → Type 0
NotVersionOne [] = ⊥
NotVersionOne (version ∷ records) = version ≢ 1

-- ---- what stands at a place of a log: s are its bytes from there on
-- "1 write (address, byte; length 3), 2 read (address, count; length 3), 3 sample (x, y, z as 16-bit big-endian signed, temperature;
-- length 8), 4 cycle start (length 1)", and Q-4: "log kind 5 (length 5, big-endian)". A kind that is known, and its length
abbrev pub KindOfLength : ℕ → ℕ → Type 0
KindOfLength kind n =
    ((kind ≡ 1) × (n ≡ 3)) ⊎ (((kind ≡ 2) × (n ≡ 3)) ⊎ (((kind ≡ 3) × (n ≡ 8)) ⊎ (((kind ≡ 4) × (n ≡ 1)) ⊎ ((kind ≡ 5) × (n ≡ 5)))))

-- "length 0 or above 8"
abbrev pub WrongRecordLength : ℕ → Type 0
WrongRecordLength n = (n ≡ 0) ⊎ (8 < n)

-- "two-byte big-endian length, then that many bytes": of such a record whose body is not yet tested, the length n, and what follows
-- the length field. The body's first byte is its kind
abbrev pub BodyCut : ℕ → List ℕ → Type 0
BodyCut n behind = length behind < n

abbrev pub RightKind : ℕ → List ℕ → Type 0
RightKind n behind = KindOfLength (get_or behind 0 0) n

-- "Tests in order: length field cut, 9; length 0 or above 8, 8; body cut, 9; kind unknown or unfit for the length, 8. An end at a
-- record boundary is the end."
-- 9
abbrev pub CutAt : List ℕ → Type 0
CutAt [] = ⊥
CutAt (byte ∷ []) = Unit {0}
CutAt (high ∷ low ∷ behind) = let n = high * 256 + low in ¬ WrongRecordLength n × BodyCut n behind

-- 8
abbrev pub WrongAt : List ℕ → Type 0
WrongAt [] = ⊥
WrongAt (byte ∷ []) = ⊥
WrongAt (high ∷ low ∷ behind) = let n = high * 256 + low in WrongRecordLength n ⊎ (¬ BodyCut n behind × ¬ RightKind n behind)

-- 0: the end, or a record
abbrev pub RightAt : List ℕ → Type 0
RightAt [] = Unit {0}
RightAt (byte ∷ []) = ⊥
RightAt (high ∷ low ∷ behind) = let n = high * 256 + low in ¬ WrongRecordLength n × (¬ BodyCut n behind × RightKind n behind)

-- ---- a record, byte by byte
-- "16-bit big-endian signed"
abbrev pub high_byte : ℤ → ℕ
high_byte z = of_z w16 z / 256

abbrev pub low_byte : ℤ → ℕ
low_byte z = of_z w16 z % 256

-- "a 32-bit count of microseconds", "big-endian"
abbrev pub four_bytes : ℕ → List ℕ
four_bytes us = us / 16777216 ∷ us / 65536 % 256 ∷ us / 256 % 256 ∷ us % 256 ∷ []

abbrev pub spelled : Entry → List ℕ
spelled (Write w) = 0 ∷ 3 ∷ 1 ∷ w.address ∷ w.byte ∷ []
spelled (Read r) = 0 ∷ 3 ∷ 2 ∷ r.address ∷ r.count ∷ []
spelled (Sample s) =
    0 ∷ 8 ∷ 3 ∷ high_byte s.x ∷ low_byte s.x ∷ high_byte s.y ∷ low_byte s.y ∷ high_byte s.z ∷ low_byte s.z ∷ s.temperature ∷ []
spelled (CycleStart c) = 0 ∷ 1 ∷ 4 ∷ []
spelled (Clock k) = 0 ∷ 5 ∷ 5 ∷ four_bytes k.microseconds

-- the bytes s begin with those of a record
pub record BeginsWith (bytes s : List ℕ) : Type 0 where
  pub rest : List ℕ
  pub is : s ≡ bytes ++ rest

-- ---- 10, "too little room to write a version byte or record": from a place on, in bytes that are lent
abbrev pub NoRoomForVersion : List ℕ → ℕ → Type 0
NoRoomForVersion out place = length out < place + 1

abbrev pub NoRoomForRecord : List ℕ → ℕ → Entry → Type 0
NoRoomForRecord out place e = length out < place + length (spelled e)
