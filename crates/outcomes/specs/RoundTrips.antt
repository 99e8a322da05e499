-- Demand 2: "A record written and then read is the same record; read and then written, the same bytes", of one record and of whole logs, on
-- the bytes that 01 spells (LogNumbers: spelled).
use Rattle.std.specs.Prelude.{ℕ, ◌+◌, ◌≤◌, List, [], ◌∷◌, ◌++◌, ◌≡◌, length, take, drop, None, Result, Ok}
use Rattle.benchlog.specs.Format.{encode, version_bytes}
use Rattle.benchlog.specs.Reader.{whole, read_at, read_version}
use Rattle.benchlog.specs.Writer.{written, out_after}
use Rattle.benchlog.specs.Whole.{Bytes, FieldsFit, AllFieldsFit}
use Rattle.benchlog.specs.declared.Entry.{Entry}
use Rattle.benchlog.specs.declared.NoRoom.{NoRoom}
use Rattle.outcomes.specs.Demand1.{next_place}
use Rattle.outcomes.specs.LogNumbers.{spelled}

-- ---- what the writer answers, and the bytes that it leaves, where it is lent out and told a place and a record; the same of the version
-- byte. These are what the contracts of its functions say (proofs/TripContracts), as `read_at` and `read_version` are of the reader's
abbrev pub writer_answers : List ℕ → ℕ → Entry → Result ℕ NoRoom
writer_answers out place e = written out place (encode e)

abbrev pub writer_leaves : List ℕ → ℕ → Entry → List ℕ
writer_leaves out place e = out_after out place (encode e)

abbrev pub version_answers : List ℕ → ℕ → Result ℕ NoRoom
version_answers out place = written out place version_bytes

abbrev pub version_leaves : List ℕ → ℕ → List ℕ
version_leaves out place = out_after out place version_bytes

-- ---- one record
-- the writer is done: these bytes stand from the place on in what it left, its next place is behind them, and every other byte is as it was
pub record WritesJust (bytes out : List ℕ) (place : ℕ) (answer : Result ℕ NoRoom) (left : List ℕ) : Type 0 where
  pub done : answer ≡ Ok (place + length bytes)
  pub here : take (length bytes) (drop place left) ≡ bytes
  pub before : take place left ≡ take place out
  pub behind : drop (place + length bytes) left ≡ drop (place + length bytes) out

-- "A record written and then read is the same record", and the reader goes to the place that the writer went to
pub record WrittenThenRead (e : Entry) (out : List ℕ) (place : ℕ) : Type 0 where
  pub writes : WritesJust (spelled e) out place (writer_answers out place e) (writer_leaves out place e)
  pub reads : (next : ℕ) → writer_answers out place e ≡ Ok next → read_at (writer_leaves out place e) place ≡ whole e next

-- "read and then written, the same bytes": those from the place to the next one, at any place of any lent bytes that have room for them
pub record ReadThenWritten (log : List ℕ) (place : ℕ) (e : Entry) : Type 0 where
  pub fits : FieldsFit e
  pub next : read_at log place ≡ whole e (place + length (spelled e))
  pub here : take (length (spelled e)) (drop place log) ≡ spelled e
  pub writes : (out : List ℕ) (at : ℕ) → at + length (spelled e) ≤ length out
      → WritesJust (take (length (spelled e)) (drop place log)) out at (writer_answers out at e) (writer_leaves out at e)

-- ---- a whole log
-- "One version byte 1, then records"
abbrev pub all_spelled : List Entry → List ℕ
all_spelled [] = []
all_spelled (e ∷ es) = spelled e ++ all_spelled es

abbrev pub log_spelled : List Entry → List ℕ
log_spelled es = 1 ∷ all_spelled es

-- the reader is called at a place, and again at each next place: it finds these records, and then the end
abbrev pub FindsAll : List ℕ → ℕ → List Entry → Type 0
FindsAll log place [] = read_at log place ≡ Ok None
FindsAll log place (e ∷ es) = (next : ℕ) × ((read_at log place ≡ whole e next) × FindsAll log next es)

-- a log is read to its end without a refusal: its version, and behind that these records
abbrev pub LogReadsAs : List ℕ → List Entry → Type 0
LogReadsAs log es = (next : ℕ) × ((read_version log ≡ Ok next) × FindsAll log next es)

-- the writer is called at a place, and again at each next place, with these records: which bytes are left
abbrev pub left_by_all : List ℕ → ℕ → List Entry → List ℕ
left_by_all out place [] = out
left_by_all out place (e ∷ es) = left_by_all (writer_leaves out place e) (next_place place (writer_answers out place e)) es

-- and with the version byte first, at the start of what is lent
abbrev pub left_by_log : List ℕ → List Entry → List ℕ
left_by_log out es = left_by_all (version_leaves out 0) (next_place 0 (version_answers out 0)) es

-- ---- the round trips
pub record RoundTrips : Type 0 where
  -- of a record whose fields fit, in any lent bytes that have room for it from any place on; and of any record that is found in bytes
  pub written_read : (e : Entry) → FieldsFit e → (out : List ℕ) (place : ℕ) → place + length (spelled e) ≤ length out → WrittenThenRead e out place
  pub read-written : (log : List ℕ) → Bytes log → (place : ℕ) (e : Entry) (next : ℕ) → read_at log place ≡ whole e next → ReadThenWritten log place e
  -- of a log: one that is spelled reads as its records and then the end
  pub spelled-reads : (es : List Entry) → AllFieldsFit es → LogReadsAs (log_spelled es) es
  -- one that reads as records and then the end is spelled, of these records
  pub reads-spelled : (log : List ℕ) → Bytes log → (es : List Entry) → LogReadsAs log es → (log ≡ log_spelled es) × AllFieldsFit es
  -- and one that is written, record by record, where there is room for it, is spelled; the bytes behind it are as they were
  pub writes-spelled : (es : List Entry) (out : List ℕ) → length (log_spelled es) ≤ length out
      → left_by_log out es ≡ log_spelled es ++ drop (length (log_spelled es)) out
