-- "A burst below 0x3F equals single reads in rising address order": of any device, as events of one byte each.
-- Assumes nothing.
use Prim.Native.Nat.{ℕ, zero, suc, ◌+◌, ◌<◌, ◌≤◌}
use mathlib.Core.Bool.{Bool, true, false, not}
use mathlib.Core.Path.{◌≡◌, refl, sym, ap, ◌∙◌}
use mathlib.Core.List.{List, [], ◌∷◌, ◌++◌, append-nil, append_assoc}
use native.Mathlib.Omega.{arith}
use native.Mathlib.Nat.{add-zero, add-suc, suc-add}
use lib.Dec.{eqb, ltb, leb}
use borrow.Author.Tests.{eqb-true, ltb-true, ltb-false, eqb-false, leb-true, le-ltb, lt-ltb, ne_eqb, eq-eqb, le-leb, lt-leb}
use Rattle.laws.specs.Choice.{pick, both, either}
use Rattle.laws.specs.Table.{up_from}
use Rattle.laws.proofs.Finite.{left, right}
use Rattle.codes.specs.Addresses.{frames_at}
use Rattle.std.specs.Prelude.{Err}
use Rattle.registers.specs.Answers.{Answer, done, number, accepted}
use Rattle.registers.specs.Refused.{read_answer, longest_read}
use Rattle.registers.specs.declared.Refusal.TheVariants.{BadLength, PastEnd}
use Rattle.registers.proofs.Answers.{zero-accepted}
use Rattle.device.specs.Read.{single_byte, after_single, after_singles, single_bytes, read_of}
use Rattle.device.specs.declared.Device.{Device}
use Rattle.events.specs.Event.{Event, power_up, write, read, sample, cycle, clock, bytes_at, gives, bytes}
use Rattle.events.specs.Run.{next, after, script_onto, onward, all_given, bytes_joined}
use Rattle.events.specs.Parts.{reads_below}
use Rattle.events.proofs.Runs.{onward-after}
use Rattle.rules.specs.Bursts.{is_burst, singles, opened}

-- ---- which reads are bursts below 0x3F
pub burst-is : (a n : ℕ) → reads_below a n ≡ is_burst a n
unfolding read_answer
burst-is a n = go (ltb a 0x3F) refl
  where
    none : (b : Bool) → both b false ≡ false
    none true = refl
    none false = refl

    refused : (b : Bool) (x y : Answer) → accepted x ≡ false → accepted y ≡ false → accepted (pick b x y) ≡ false
    refused true x y p q = p
    refused false x y p q = q

    low : a < 0x3F → (z : Bool) → eqb n 0 ≡ z → (p : Bool) → ltb 0x3F (a + n) ≡ p
        → both (accepted (pick (either z (ltb longest_read n)) (Err BadLength) (pick p (Err PastEnd) done))) true ≡ both (leb 1 n) (leb (a + n) 0x3F)
    low h true e p f = rw (eqb-true n 0 e)
    low h false e true f =
        let g = ltb-true 0x3F (a + n) f in
        let n0 : 1 ≤ n = omega (arith, eqb-false n 0 e) in
        rw (refused (ltb longest_read n) (Err BadLength) (Err PastEnd) refl refl, le-leb 1 n n0, lt-leb (a + n) 0x3F g)
    low h false e false f =
        let g = ltb-false 0x3F (a + n) f in
        let n0 : 1 ≤ n = omega (arith, eqb-false n 0 e) in
        rw (le-ltb longest_read n (omega arith), le-leb 1 n n0, le-leb (a + n) 0x3F g)

    high : 0x3F ≤ a → (t : Bool) → ltb frames_at a ≡ t → reads_below a n ≡ false
    high h true e = rw e
    high h false e = let s : eqb a frames_at ≡ true = eq-eqb a frames_at (omega (arith, ltb-false)) in rw s (none (accepted (read_answer a n)))

    go : (t : Bool) → ltb a 0x3F ≡ t → reads_below a n ≡ is_burst a n
    go true e =
        let h = ltb-true a 0x3F e in
        rw (e, le-ltb frames_at a (omega arith), ne_eqb a frames_at (omega arith)) (low h (eqb n 0) refl (ltb 0x3F (a + n)) refl)
    go false e = let f : is_burst a n ≡ false = rw e in high (ltb-false a 0x3F e) (ltb frames_at a) refl ∙ sym f

pub burst-bounds : (a n : ℕ) → is_burst a n ≡ true → (a < 0x3F) × (a + n ≤ 0x3F)
burst-bounds a n h =
    let some = leb 1 n in
    let ends = leb (a + n) 0x3F in
    (ltb-true a 0x3F (left (ltb a 0x3F) (both some ends) h), leb-true (a + n) 0x3F (right some ends (right (ltb a 0x3F) (both some ends) h)))

answered-0 : (x : Answer) → accepted x ≡ true → number x ≡ 0
answered-0 x h = eqb-true (number x) 0 (sym (zero-accepted x) ∙ h)

-- ---- a read of one byte
module _ (d : Device) (a : ℕ) (h : a < 0x3F) where
  pub one-read : reads_below a 1 ≡ true
  one-read = burst-is a 1 ∙ rw (lt-ltb a 0x3F h, le-leb (a + 1) 0x3F (omega arith))

  one-accepted : accepted (read_answer a 1) ≡ true
  one-accepted = left (accepted (read_answer a 1)) (not (eqb a frames_at)) one-read

  pub single-next : next d (read a 1) ≡ after_single d a
  unfolding read_of after_singles
  single-next = rw (one-accepted, ne_eqb a frames_at (omega arith), add-zero)

  pub single-bytes : bytes_at d (read a 1) ≡ single_byte d a ∷ []
  unfolding single_bytes after_singles
  single-bytes = rw (one-accepted, ne_eqb a frames_at (omega arith), add-zero)

  pub single : gives d (read a 1) ≡ bytes (single_byte d a ∷ [])
  unfolding read_of
  single = rw (single-bytes, answered-0 (read_answer a 1) one-accepted)

-- ---- one more event behind a script
module _ (f : ℕ → Event) where
  onward-more : (d : Device) (a n : ℕ) → onward d (up_from f a (suc n)) ≡ next (onward d (up_from f a n)) (f (a + n))
  onward-more d a zero = rw add-zero
  onward-more d a (suc n) = onward-more (next d (f a)) (suc a) n ∙ rw (suc-add, add-suc)

  joined-more : (d : Device) (a n : ℕ) → bytes_joined (all_given d (up_from f a (suc n))) ≡ bytes_joined (all_given d (up_from f a n)) ++ bytes_at (onward d (up_from f a n)) (f (a + n))
  joined-more d a zero = rw (add-zero, append-nil)
  joined-more d a (suc n) = rw (joined-more (next d (f a)) (suc a) n, append_assoc, suc-add, add-suc)

-- ---- a burst
module _ (d : Device) (a : ℕ) where
  module _ (n : ℕ) (h : a + n < 0x3F) (same : onward d (singles a n) ≡ after_singles d a n) where
    after_more : onward d (singles a (suc n)) ≡ after_singles d a (suc n)
    unfolding after_singles
    after_more = onward-more (λ k. read k 1) d a n ∙ rw same (single-next (after_singles d a n) (a + n) h)

    bytes-more : bytes_joined (all_given d (singles a n)) ≡ single_bytes d a n → bytes_joined (all_given d (singles a (suc n))) ≡ single_bytes d a (suc n)
    unfolding single_bytes
    bytes-more p = joined-more (λ k. read k 1) d a n ∙ rw (p, same, single-bytes (after_singles d a n) (a + n) h)

  singles-after : (n : ℕ) → a + n ≤ 0x3F → onward d (singles a n) ≡ after_singles d a n
  unfolding after_singles
  singles-after zero h = refl
  singles-after (suc n) h = after_more n (omega arith) (singles-after n (omega arith))

  singles-bytes : (n : ℕ) → a + n ≤ 0x3F → bytes_joined (all_given d (singles a n)) ≡ single_bytes d a n
  unfolding single_bytes
  singles-bytes zero h = refl
  singles-bytes (suc n) h = bytes-more n (omega arith) (singles-after n (omega arith)) (singles-bytes n (omega arith))

  module _ (n : ℕ) (h : is_burst a n ≡ true) where
    bounds : (a < 0x3F) × (a + n ≤ 0x3F)
    bounds = burst-bounds a n h

    ok : accepted (read_answer a n) ≡ true
    ok = left (accepted (read_answer a n)) (not (eqb a frames_at)) (burst-is a n ∙ h)

    pub burst-device : next d (read a n) ≡ onward d (singles a n)
    unfolding read_of
    burst-device = rw (ok, ne_eqb a frames_at (omega (arith, bounds.0)), singles-after n bounds.1)

    pub burst-gives : gives d (read a n) ≡ bytes (bytes_joined (all_given d (singles a n)))
    unfolding read_of
    burst-gives = rw (answered-0 (read_answer a n) ok, ok, ne_eqb a frames_at (omega (arith, bounds.0)), singles-bytes n bounds.1)

-- ---- histories
module _ (h es : List Event) (same : after h ≡ after es) where
  same_next : (e : Event) → after (e ∷ h) ≡ after (e ∷ es)
  unfolding after
  same_next e = ap (λ (d : Device). next d e) same

  as-singles : (a n : ℕ) → is_burst a n ≡ true → after (read a n ∷ h) ≡ after (script_onto (singles a n) h)
  unfolding after
  as-singles a n e = burst-device (after h) a n e ∙ onward-after h (singles a n)

  same_read : (a n : ℕ) → after (pick (is_burst a n) (script_onto (singles a n) h) (read a n ∷ h)) ≡ after (read a n ∷ es)
  same_read a n = go (is_burst a n) refl
    where
      go : (t : Bool) → is_burst a n ≡ t → after (pick t (script_onto (singles a n) h) (read a n ∷ h)) ≡ after (read a n ∷ es)
      go true e = sym (as-singles a n e) ∙ same_next (read a n)
      go false e = same_next (read a n)

pub opened-same : (es : List Event) → after (opened es) ≡ after es
unfolding opened
opened-same [] = refl
opened-same (power_up ∷ es) = same_next (opened es) es (opened-same es) power_up
opened-same (write a byte ∷ es) = same_next (opened es) es (opened-same es) (write a byte)
opened-same (read a n ∷ es) = same_read (opened es) es (opened-same es) a n
opened-same (sample x y z t ∷ es) = same_next (opened es) es (opened-same es) (sample x y z t)
opened-same (cycle ∷ es) = same_next (opened es) es (opened-same es) cycle
opened-same (clock us ∷ es) = same_next (opened es) es (opened-same es) (clock us)
