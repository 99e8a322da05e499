-- Demand 1 of the log: 7 to 10 are given exactly when document 01 says of the bytes, with Q-4's kind 5, and a record is found exactly where
-- its bytes stand.
-- Assumes nothing.
use Prim.Native.Nat.{ℕ, zero, suc, ◌+◌, ◌*◌, ◌-◌, ◌/◌, ◌%◌, ◌≤◌}
use mathlib.Core.Bool.{Bool, true, false, not}
use mathlib.Core.List.{List, [], ◌∷◌, ◌++◌}
use mathlib.Core.Logic.{◌↔◌, inl}
use mathlib.Core.Path.{◌≡◌, refl, sym, ap, ◌∙◌}
use native.Mathlib.Omega.{arith}
use borrow.Author.Tests.{ltb-true, lt-ltb, le-ltb, ne_eqb}
use lib.Dec.{eqb, ltb}
use lib.ListN.{length, get_or, take, drop, take-append-drop}
use Rattle.laws.specs.Choice.{both, either}
use Rattle.laws.specs.Refusals.{due, due_among}
use Rattle.benchlog.specs.Answers.{found_number, begins_number, room_number}
use Rattle.benchlog.specs.Format.{length_of_kind, encode, version_bytes}
use Rattle.std.specs.Prelude.{None, Ok}
use Rattle.benchlog.specs.Reader.{whole, unfit, wrong_length, entry_rows, version_rows, read_at, read_version}
use Rattle.benchlog.specs.Writer.{written}
use Rattle.benchlog.specs.Whole.{Bytes, FieldsFit}
use Rattle.benchlog.specs.declared.Entry.{Entry}
use Rattle.benchlog.specs.declared.Entry.TheVariants as entry
use Rattle.benchlog.proofs.Heads.{found-end, head-end}
use Rattle.benchlog.proofs.Trips.{written_read, read-written-at, read-proper-at}
use Rattle.benchlog.proofs.Exactly.{read-exactly, version-exactly, write-exactly}
use Rattle.outcomes.specs.LogNumbers.{EmptyLog, NotVersionOne, WrongRecordLength, BodyCut, RightKind, CutAt, WrongAt, RightAt, spelled, BeginsWith, NoRoomForVersion, NoRoomForRecord}
use Rattle.outcomes.proofs.Words.{Means, when, isnt, last, less, equal, and, or, otherwise, no, never, always, likewise, passed, skipped, only, twice, alone}

-- ---- 7 and 9: what a log begins with
empty-means : (log : List ℕ) → Means (due begins_number (version_rows log) 9) (EmptyLog log)
empty-means [] = (λ e. refl, λ e. refl)
empty-means (v ∷ log) = likewise (ne_eqb (suc (length log)) 0 (λ e. omega arith)) (no, λ e. let z = ap length e in absurd (omega arith))

version-means : (log : List ℕ) → Means (due begins_number (version_rows log) 7) (NotVersionOne log)
version-means [] = never
version-means (v ∷ log) = passed (ne_eqb (suc (length log)) 0 (λ e. omega arith)) (isnt (equal v 1))

module _ (log : List ℕ) where
  pub log-7 : (begins_number (read_version log) ≡ 7) ↔ NotVersionOne log
  log-7 = when (version-exactly log 7) (version-means log)

  pub log-9 : (begins_number (read_version log) ≡ 9) ↔ EmptyLog log
  log-9 = when (version-exactly log 9) (empty-means log)

-- ---- 8 and 9: what stands at a place. Of a record n is the length
module _ (n : ℕ) where
  length-means : Means (wrong_length n) (WrongRecordLength n)
  length-means = or (equal n 0) (less 8 n)

  cut-means : (behind : List ℕ) → Means (ltb (suc (suc (length behind))) (2 + n)) (BodyCut n behind)
  cut-means behind =
      let m = suc (suc (length behind)) in
      (λ e. let h = ltb-true m (2 + n) e in omega arith, λ h. lt-ltb m (2 + n) (omega arith))

  module _ (right : ¬ WrongRecordLength n) where
    some : eqb n 0 ≡ false
    some = ne_eqb n 0 (λ e. right (inl e))

    -- the list of 01 and Q-4 as a test, and the length that the reader's definitions give a kind
    abbrev is_listed : ℕ → Bool
    is_listed kind =
        either (both (eqb kind 1) (eqb n 3))
        (either (both (eqb kind 2) (eqb n 3))
        (either (both (eqb kind 3) (eqb n 8))
        (either (both (eqb kind 4) (eqb n 1))
        (both (eqb kind 5) (eqb n 5)))))

    either-no : (t : Bool) → t ≡ either t false
    either-no true = refl
    either-no false = refl

    listed-is : (kind : ℕ) → eqb n (length_of_kind kind) ≡ is_listed kind
    unfolding length_of_kind
    listed-is zero = some
    listed-is (suc zero) = either-no (eqb n 3)
    listed-is (suc (suc zero)) = either-no (eqb n 3)
    listed-is (suc (suc (suc zero))) = either-no (eqb n 8)
    listed-is (suc (suc (suc (suc zero)))) = either-no (eqb n 1)
    listed-is (suc (suc (suc (suc (suc zero))))) = refl
    listed-is (suc (suc (suc (suc (suc (suc k)))))) =
        let kind = suc (suc (suc (suc (suc (suc k))))) in
        let other : (j : ℕ) → j ≤ 5 → eqb kind j ≡ false = λ j h. ne_eqb kind j (λ e. omega arith) in
        rw (other 1 (omega arith), other 2 (omega arith), other 3 (omega arith), other 4 (omega arith), other 5 (omega arith)) some

    row-means : (kind k m : ℕ) → Means (both (eqb kind k) (eqb n m)) ((kind ≡ k) × (n ≡ m))
    row-means kind k m = and (equal kind k) (λ _. equal n m)

    first-is : (m : ℕ) (behind : List ℕ) → eqb m 0 ≡ false → get_or (take m behind) 0 0 ≡ get_or behind 0 0
    first-is zero behind e = cc
    first-is (suc m) [] e = refl
    first-is (suc m) (b ∷ behind) e = refl

    kind-means : (behind : List ℕ) → Means (eqb n (length_of_kind (get_or (take n behind) 0 0))) (RightKind n behind)
    kind-means behind =
        let kind = get_or behind 0 0 in
        rw (first-is n behind some, listed-is kind)
        (or (row-means kind 1 3) (or (row-means kind 2 3) (or (row-means kind 3 8) (or (row-means kind 4 1) (row-means kind 5 5)))))

-- where a length field stands, there is neither the end nor is the field cut
not_end : (behind : List ℕ) → eqb (suc (suc (length behind))) 0 ≡ false
not_end behind = ne_eqb (suc (suc (length behind))) 0 (λ e. omega arith)

not_short : (behind : List ℕ) → ltb (suc (suc (length behind))) 2 ≡ false
not_short behind = le-ltb (suc (suc (length behind))) 2 (omega arith)

wrong-means : (s : List ℕ) → Means (due_among found_number (entry_rows s) 8) (WrongAt s)
wrong-means [] = never
wrong-means (b ∷ []) = never
wrong-means (high ∷ low ∷ behind) =
    let n = high * 256 + low in
    passed (not_end behind)
    (passed (not_short behind)
    (otherwise (length-means n) (λ right. and (isnt (cut-means n behind)) (λ _. only (isnt (kind-means n right behind))))))

cut-at-means : (s : List ℕ) → Means (due_among found_number (entry_rows s) 9) (CutAt s)
cut-at-means [] = never
cut-at-means (b ∷ []) = always
cut-at-means (high ∷ low ∷ behind) =
    let n = high * 256 + low in
    passed (not_end behind)
    (skipped (not_short behind)
    (and (isnt (length-means n)) (λ right. alone (cut-means n behind) (not (unfit (get_or (take n behind) 0 0) n)))))

right-means : (s : List ℕ) → Means (due_among found_number (entry_rows s) 0) (RightAt s)
right-means [] = always
right-means (b ∷ []) = never
right-means (high ∷ low ∷ behind) =
    let n = high * 256 + low in
    skipped (not_end behind)
    (passed (not_short behind)
    (and (isnt (length-means n)) (λ right. and (isnt (cut-means n behind)) (λ _. last (twice (kind-means n right behind))))))

module _ (log : List ℕ) (place : ℕ) where
  pub record-0 : (found_number (read_at log place) ≡ 0) ↔ RightAt (drop place log)
  record-0 = when (read-exactly log place 0) (right-means (drop place log))

  pub record-8 : (found_number (read_at log place) ≡ 8) ↔ WrongAt (drop place log)
  record-8 = when (read-exactly log place 8) (wrong-means (drop place log))

  pub record-9 : (found_number (read_at log place) ≡ 9) ↔ CutAt (drop place log)
  record-9 = when (read-exactly log place 9) (cut-at-means (drop place log))

-- ---- a record, byte by byte
pub encode-spelled : (e : Entry) → encode e ≡ spelled e
unfolding encode
encode-spelled (entry.Write w) = refl
encode-spelled (entry.Read r) = refl
encode-spelled (entry.Sample s) = refl
encode-spelled (entry.CycleStart c) = refl
encode-spelled (entry.Clock k) =
    let n = k.microseconds in
    let first : n / 65536 / 256 ≡ n / 16777216 = omega arith in
    let third : n % 65536 / 256 ≡ n / 256 % 256 = omega arith in
    let fourth : n % 65536 % 256 ≡ n % 256 = omega arith in
    rw (first, third, fourth)

module _ (log : List ℕ) (place : ℕ) where
  -- "An end at a record boundary is the end"
  pub end-when : (read_at log place ≡ Ok None) ↔ (drop place log ≡ [])
  end-when = (found-end place (drop place log), λ e. rw e (head-end place))

  -- a record is found exactly where its bytes stand
  pub record-when : Bytes log → (e : Entry) → ((next : ℕ) × (read_at log place ≡ whole e next)) ↔ (FieldsFit e × BeginsWith (spelled e) (drop place log))
  record-when h e = (there, found)
    where
      there : (next : ℕ) × (read_at log place ≡ whole e next) → FieldsFit e × BeginsWith (spelled e) (drop place log)
      there f =
          let n = f.0 - place in
          let s = drop place log in
          let front : spelled e ≡ take n s = sym (encode-spelled e) ∙ read-written-at log place h e f.0 f.1 in
          (read-proper-at log place h e f.0 f.1, record { rest = drop n s; is = sym (ap (λ (l : List ℕ). l ++ drop n s) front ∙ take-append-drop n s) })

      found : FieldsFit e × BeginsWith (spelled e) (drop place log) → (next : ℕ) × (read_at log place ≡ whole e next)
      found p = (place + length (encode e), rw (p.1.is, ← encode-spelled e) (written_read e place p.1.rest p.0))

-- ---- 10
module _ (out : List ℕ) (place : ℕ) where
  pub version-10 : (room_number (written out place version_bytes) ≡ 10) ↔ NoRoomForVersion out place
  version-10 = when (write-exactly out place version_bytes 10) (less (length out) (place + 1))

  pub record-10 : (e : Entry) → (room_number (written out place (encode e)) ≡ 10) ↔ NoRoomForRecord out place e
  record-10 e = rw (encode-spelled e) (when (write-exactly out place (spelled e) 10) (less (length out) (place + length (spelled e))))
