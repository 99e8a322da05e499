-- Q-13, its second claim: a read that is cut gives the same bytes and leaves the same device. At 0x3F by the laws of a store of any room and
-- depth; below it for every device record. Assumes nothing.
use Prim.Native.Nat.{ℕ, zero, suc, ◌+◌, ◌*◌, ◌/◌, ◌≤◌, ◌<◌}
use mathlib.Core.Bool.{Bool, true, false}
use mathlib.Core.List.{List, [], ◌∷◌, ◌++◌, append-nil, append_assoc}
use mathlib.Core.Path.{◌≡◌, refl, sym, ap, ◌∙◌}
use native.Mathlib.Omega.{arith}
use native.Mathlib.Nat.{add-zero, add-suc, add_assoc}
use lib.Dec.{eqb, ltb}
use borrow.Author.Tests.{ltb-false, le-ltb, lt-ltb, ne_eqb}
use Rattle.laws.specs.Choice.{pick, either}
use Rattle.codes.specs.Addresses.{control_at, frames_at}
use Rattle.codes.specs.Axes.{axes_of}
use Rattle.codes.specs.declared.Axes.{Axes}
use Rattle.codes.specs.declared.Axes.TheVariants.{All, X, Y, Z}
use Rattle.fifo.specs.Flat.{Flat}
use Rattle.fifo.specs.Setting.{size_of}
use Rattle.fifo.specs.Store.{room, read_in, bytes_in}
use Rattle.fifo.proofs.Store.{read-cut, bytes_cut}
use Rattle.std.specs.Prelude.{Err}
use Rattle.registers.specs.Answers.{done, number}
use Rattle.registers.specs.Refused.{read_answer}
use Rattle.registers.specs.declared.Refusal.TheVariants.{BadLength, PastEnd}
use Rattle.device.specs.Device.{depth, reg, flat_of, with_flat}
use Rattle.device.specs.Read.{after_singles, single_bytes, read_of}
use Rattle.device.specs.declared.Device.{Device}
use Rattle.events.specs.Event.{Event, read, gives}
use Rattle.events.specs.Run.{next, after}
use Rattle.paper.specs.Stored.{byte_by}
use Rattle.history.specs.History.{control, setting}
use Rattle.history.proofs.Holds as history
use Rattle.polling.specs.Cuts.{length_of_all, Nonempty, AreFrames, AtFrames, readout_pieces, burst_pieces, SameAs, Cuts}

-- ---- pieces
-- one with others behind it, where the others are as one event and both are as one
joined : {d : Device} {e whole : Event} (rest : Event) {pieces : List Event} → (gives d e).number ≡ 0 → SameAs (next d e) pieces rest
    → (gives d e).bytes ++ (gives (next d e) rest).bytes ≡ (gives d whole).bytes → next (next d e) rest ≡ next d whole → SameAs d (e ∷ pieces) whole
joined {d} {e} rest z s b n = record {
  accepted = (z, s.accepted);
  bytes = ap (λ (l : List ℕ). (gives d e).bytes ++ l) s.bytes ∙ b;
  device = s.device ∙ n;
}

alone : (d : Device) (e : Event) → (gives d e).number ≡ 0 → SameAs d (e ∷ []) e
alone d e z = record { accepted = (z, tt); bytes = append-nil (gives d e).bytes; device = refl }

some : (ns : List ℕ) → Nonempty ns → 1 ≤ length_of_all ns
some [] h = absurd h
some (n ∷ []) h = omega arith
some (n ∷ m ∷ ns) h = omega arith

-- ---- at 0x3F
-- which readouts are accepted
readout-done : (n : ℕ) → 1 ≤ n → n ≤ 192 → read_answer 0x3F n ≡ done
unfolding read_answer
readout-done n h l = rw (ne_eqb n 0 (omega arith), le-ltb 192 n l)

readout-bound : (n : ℕ) → number (read_answer 0x3F n) ≡ 0 → n ≤ 192
unfolding read_answer
readout-bound n z = go (ltb 192 n) refl
  where
    long : (t : Bool) → number (pick (either t true) (Err BadLength) done) ≡ 5
    long true = refl
    long false = refl

    go : (t : Bool) → ltb 192 n ≡ t → n ≤ 192
    go true e = let f : ◌≡◌ {A = ℕ} 5 0 = sym (long (eqb n 0)) ∙ (rw e at z) in absurd (omega arith)
    go false e = ltb-false 192 n e

-- whole frames, counted
frames-in : (a : Axes) (m : ℕ) → AreFrames (size_of a) m → m ≡ m / size_of a * size_of a
frames-in All m h = omega arith
frames-in X m h = omega arith
frames-in Y m h = omega arith
frames-in Z m h = omega arith

-- a readout of m bytes, whole frames, and one of n behind it
module _ (es : List Event) (m : ℕ) (one : 1 ≤ m) (whole : AreFrames (setting es).size m) (n : ℕ) (more : 1 ≤ n) (few : m + n ≤ 192) where
  two-devices : next (next (after es) (read 0x3F m)) (read 0x3F n) ≡ next (after es) (read 0x3F (m + n))
  unfolding read_of
  two-devices =
      let h = history.holds_after es in
      let d = after es in
      let a = axes_of (reg d control_at) in
      let c : read_in room depth a n (read_in room depth a m (flat_of d)) ≡ read_in room depth a (m + n) (flat_of d) =
      rw (h.control, h.same, frames-in (axes_of (control es)) m whole) (read-cut h.fits (m / size_of (axes_of (control es))) n) in
      rw (readout-done m one (omega arith), readout-done n more (omega arith), readout-done (m + n) (omega arith) few) (ap (λ (f : Flat). with_flat d f) c)

  two_bytes : (gives (after es) (read 0x3F m)).bytes ++ (gives (next (after es) (read 0x3F m)) (read 0x3F n)).bytes ≡ (gives (after es) (read 0x3F (m + n))).bytes
  unfolding read_of
  two_bytes =
      let h = history.holds_after es in
      let d = after es in
      let a = axes_of (reg d control_at) in
      let c : bytes_in room depth a m (flat_of d) ++ bytes_in room depth a n (read_in room depth a m (flat_of d)) ≡ bytes_in room depth a (m + n) (flat_of d) =
      rw (h.control, h.same, frames-in (axes_of (control es)) m whole) (bytes_cut h.fits (m / size_of (axes_of (control es))) n) in
      rw (readout-done m one (omega arith), readout-done n more (omega arith), readout-done (m + n) (omega arith) few) c

readout-0 : (d : Device) (n : ℕ) → 1 ≤ n → n ≤ 192 → (gives d (read 0x3F n)).number ≡ 0
unfolding read_of
readout-0 d n h l = rw (readout-done n h l)

frames-cut : (es : List Event) (ns : List ℕ) → Nonempty ns → AtFrames (setting es).size ns → length_of_all ns ≤ 192
    → SameAs (after es) (readout_pieces ns) (read 0x3F (length_of_all ns))
unfolding after byte_by
frames-cut es [] h w l = absurd h
frames-cut es (n ∷ []) h w l = rw add-zero (alone (after es) (read 0x3F n) (readout-0 (after es) n h (omega arith)))
frames-cut es (n ∷ m ∷ ns) h w l =
    let rest = length_of_all (m ∷ ns) in
    let more = some (m ∷ ns) h.1 in
    joined (read 0x3F rest) (readout-0 (after es) n h.0 (omega arith)) (frames-cut (read 0x3F n ∷ es) (m ∷ ns) h.1 w.1 (omega arith))
    (two_bytes es n h.0 w.0 rest more l) (two-devices es n h.0 w.0 rest more l)

-- ---- below 0x3F, of any device: a burst is single reads, and so are its pieces
module _ (d : Device) (a n : ℕ) where
  singles-after : (m : ℕ) → after_singles (after_singles d a n) (a + n) m ≡ after_singles d a (n + m)
  unfolding after_singles
  singles-after zero = rw add-zero
  singles-after (suc m) = rw (add-suc, ← add_assoc, singles-after m)

  singles-given : (m : ℕ) → single_bytes d a n ++ single_bytes (after_singles d a n) (a + n) m ≡ single_bytes d a (n + m)
  unfolding single_bytes
  singles-given zero = rw (add-zero, append-nil)
  singles-given (suc m) = rw (add-suc, ← add_assoc, ← singles-given m, ← append_assoc, singles-after m)

-- which reads are accepted
module _ (a n : ℕ) (h : a < 0x3F) where
  burst-done : 1 ≤ n → a + n ≤ 0x3F → read_answer a n ≡ done
  unfolding read_answer
  burst-done o l = rw (le-ltb frames_at a (omega arith), ne_eqb n 0 (omega arith), le-ltb 192 n (omega arith), lt-ltb a frames_at h, le-ltb frames_at (a + n) l)

  burst-end : number (read_answer a n) ≡ 0 → a + n ≤ 0x3F
  unfolding read_answer
  burst-end z = go (ltb frames_at (a + n)) refl
    where
      late : (t s : Bool) → number (pick (either t s) (Err BadLength) (Err PastEnd)) ≡ 0 → ⊥
      late true s q = absurd (omega arith)
      late false true q = absurd (omega arith)
      late false false q = absurd (omega arith)

      go : (t : Bool) → ltb frames_at (a + n) ≡ t → a + n ≤ 0x3F
      go true e = absurd (late (eqb n 0) (ltb 192 n) (rw (le-ltb frames_at a (omega arith), lt-ltb a frames_at h, e) at z))
      go false e = ltb-false frames_at (a + n) e

-- an accepted burst
module _ (d : Device) (a n : ℕ) (one : 1 ≤ n) (l : a + n ≤ 0x3F) where
  low : a < 0x3F
  low = omega arith

  burst-0 : (gives d (read a n)).number ≡ 0
  unfolding read_of
  burst-0 = rw (burst-done a n low one l)

  burst-after : next d (read a n) ≡ after_singles d a n
  unfolding read_of
  burst-after = rw (burst-done a n low one l, ne_eqb a frames_at (omega arith))

  burst-given : (gives d (read a n)).bytes ≡ single_bytes d a n
  burst-given = rw (burst-done a n low one l, ne_eqb a frames_at (omega arith))

pub below-cut : (d : Device) (a : ℕ) (ns : List ℕ) → Nonempty ns → a + length_of_all ns ≤ 0x3F → SameAs d (burst_pieces a ns) (read a (length_of_all ns))
below-cut d a [] h l = absurd h
below-cut d a (n ∷ []) h l = rw add-zero (alone d (read a n) (burst-0 d a n h (omega arith)))
below-cut d a (n ∷ m ∷ ns) h l =
    let rest = length_of_all (m ∷ ns) in
    let more = some (m ∷ ns) h.1 in
    let d' = next d (read a n) in
    let p : d' ≡ after_singles d a n = burst-after d a n h.0 (omega arith) in
    let whole : 1 ≤ n + rest = omega arith in
    let e : next d' (read (a + n) rest) ≡ next d (read a (n + rest)) =
    burst-after d' (a + n) rest more (omega arith) ∙ ap (λ (x : Device). after_singles x (a + n) rest) p ∙ singles-after d a n rest ∙ sym (burst-after d a (n + rest) whole l) in
    let b : (gives d (read a n)).bytes ++ (gives d' (read (a + n) rest)).bytes ≡ (gives d (read a (n + rest))).bytes =
    (λ i. burst-given d a n h.0 (omega arith) i ++ (burst-given d' (a + n) rest more (omega arith) ∙ ap (λ (x : Device). single_bytes x (a + n) rest) p) i)
    ∙ singles-given d a n rest ∙ sym (burst-given d a (n + rest) whole l) in
    joined (read (a + n) rest) (burst-0 d a n h.0 (omega arith)) (below-cut d' (a + n) (m ∷ ns) h.1 (omega arith)) b e

pub cuts : (es : List Event) → Cuts es
unfolding read_of
cuts es = record {
  frames = λ ns h w z. frames-cut es ns h w (readout-bound (length_of_all ns) z);
  below = λ a ns l h z. below-cut (after es) a ns h (burst-end a (length_of_all ns) l z);
}
