-- The ledger's "taken" is demand 3's, sample by sample: over any depth, drop rule and frame size.
-- Assumes nothing.
use Prim.Native.Nat.{ℕ, suc, ◌+◌, ◌-◌, ◌*◌, ◌≤◌, ◌<◌}
use mathlib.Core.Bool.{Bool, true, false}
use mathlib.Core.List.{List, [], ◌∷◌, ◌++◌}
use mathlib.Core.Logic.{◌↔◌, ◌⊎◌, inl, inr, ⊎_elim}
use mathlib.Core.Option.{Option, some}
use mathlib.Core.Path.{◌≡◌, refl, ap, sym, ◌∙◌}
use native.Mathlib.Omega.{arith}
use lib.Dec.{ltb}
use lib.ListN.{get_elem?, drop}
use borrow.Author.Tests.{ltb-true, lt-ltb}
use Rattle.laws.specs.Choice.{pick}
use Rattle.fifo.specs.Ledger.{Event, sample, readout, Fate, taken, held, lost, held_in, arrives, takes, fates_by}
use Rattle.fifo.specs.Queue.{frames_reached}
use Rattle.fifo.specs.declared.Drop.{Drop}
use Rattle.fifo.specs.declared.Drop.TheVariants.{Newcomer, Oldest}
use Rattle.fifo.specs.declared.Setting.{Setting}
use Rattle.fifo.proofs.Conserve.{in_order}
use Rattle.demand3.specs.Counts.{arrivals, enters, held_after, entered, gone}
use Rattle.demand3.specs.Lost.{up_to, frame_number, ReadoutReached}
use Rattle.demand3.proofs.Counts.{held-counted, first-reached}
use Rattle.demand3.proofs.Fates.{takes-lost, takes-taken, takes-held, entered_in, held-entered, entered-takes, drop-takes, held_place, away-place, arrives-new, arrives-taken, arrives-lost, arrives-held, arrives-entered, arrives-older}

-- the fate of a sample a, accepted after `earlier`, when `later` has come too
abbrev pub fate : {A : Type 0} → Setting → List (Event A) → A → List (Event A) → Option (Fate A)
fate s earlier a later = get_elem? (fates_by s (up_to s earlier a later)) (arrivals later)

-- one of three
abbrev pub HasFate : {A : Type 0} → A → Option (Fate A) → Type 0
HasFate a o = (o ≡ some (taken a)) ⊎ ((o ≡ some (held a)) ⊎ (o ≡ some (lost a)))

-- those of its frame's number: the samples that entered before it
module _ {A : Type 0} (s : Setting) (some-deep : s.drops ≡ Oldest → 1 ≤ s.depth) (one : 1 ≤ s.size) where
  entered-counted : (es : List (Event A)) → entered s es ≡ entered_in s.drops (fates_by s es)
  unfolding entered
  entered-counted [] = refl
  entered-counted (sample a ∷ es) = rw (held-counted s some-deep one es, entered-counted es) (sym (arrives-entered s.drops s.depth a (fates_by s es)))
  entered-counted (readout n ∷ es) = entered-counted es ∙ sym (entered-takes s.drops (frames_reached s.size n) (fates_by s es))

module _ {A : Type 0} (s : Setting) (earlier : List (Event A)) (a : A) where
  abbrev fates_at : List (Event A) → List (Fate A)
  fates_at later = fates_by s (up_to s earlier a later)

  abbrev gone_at : List (Event A) → ℕ
  gone_at later = gone s (up_to s earlier a later)

  -- the held that are older than it
  abbrev ahead : List (Event A) → ℕ
  ahead later = held_in (drop (suc (arrivals later)) (fates_at later))

module _ {A : Type 0} (s : Setting) (some-deep : s.drops ≡ Oldest → 1 ≤ s.depth) (one : 1 ≤ s.size) (earlier : List (Event A)) (a : A) where
  older-counted : (later : List (Event A)) → entered_in s.drops (drop (suc (arrivals later)) (fates_at s earlier a later)) ≡ frame_number s earlier a
  older-counted [] = arrives-older s.drops s.depth a 0 (fates_by s earlier) ∙ sym (entered-counted s some-deep one earlier)
  older-counted (sample b ∷ later) = arrives-older s.drops s.depth b (suc (arrivals later)) (fates_at s earlier a later) ∙ older-counted later
  older-counted (readout n ∷ later) =
      let k = frames_reached s.size n in
      let i = suc (arrivals later) in
      let ms = fates_at s earlier a later in
      ap (entered_in s.drops) (drop-takes k i ms) ∙ entered-takes s.drops k (drop i ms) ∙ older-counted later

  -- where it stands: its number, and that of the oldest held
  module _ (later : List (Event A)) where
    held_stays : fate s earlier a later ≡ some (held a) → (gone_at s earlier a later ≤ frame_number s earlier a) × (frame_number s earlier a - gone_at s earlier a later ≡ ahead s earlier a later)
    held_stays p =
        let ms = fates_at s earlier a later in
        let g = held_place s.drops a (arrivals later) ms (in_order s some-deep (up_to s earlier a later)) p in
        let e = entered-counted s some-deep one (up_to s earlier a later) in
        let h = held-counted s some-deep one (up_to s earlier a later) in
        let o = older-counted later in
        let l = held-entered s.drops ms in
        (omega (arith, g.0, e, h, o, l), omega (arith, g.0, e, h, o, l))

    lost-gone : s.drops ≡ Oldest → fate s earlier a later ≡ some (lost a) → frame_number s earlier a < gone_at s earlier a later
    lost-gone f p =
        let ms = fates_at s earlier a later in
        let g = away-place s.drops (lost a) (arrivals later) ms (in_order s some-deep (up_to s earlier a later)) p (rw f) in
        omega (arith, g, entered-counted s some-deep one (up_to s earlier a later), held-counted s some-deep one (up_to s earlier a later), older-counted later)

  pub has-fate : (later : List (Event A)) → HasFate a (fate s earlier a later)
  has-fate [] = inr (arrives-new s.drops s.depth a (fates_by s earlier))
  has-fate (sample b ∷ later) =
      let n = arrivals later in
      let ms = fates_at s earlier a later in
      ⊎_elim (λ p. inl ((arrives-taken s.drops s.depth a b n ms).1 p))
      (⊎_elim (λ p. inr (arrives-held s.drops s.depth a b n ms p)) (λ p. inr (inr (arrives-lost s.drops s.depth a b n ms p))))
      (has-fate later)
  has-fate (readout b ∷ later) =
      let n = arrivals later in
      let k = frames_reached s.size b in
      let ms = fates_at s earlier a later in
      ⊎_elim (λ p. inl (takes-taken a k n ms p))
      (⊎_elim (λ p. go k n ms (ltb (held_in (drop (suc n) ms)) k) (takes-held a k n ms p)) (λ p. inr (inr ((takes-lost a k n ms).1 p))))
      (has-fate later)
    where
      go : (k n : ℕ) (ms : List (Fate A)) (t : Bool) → get_elem? (takes k ms) n ≡ some (pick t (taken a) (held a)) → HasFate a (get_elem? (takes k ms) n)
      go k n ms true p = inl p
      go k n ms false p = inr (inl p)

  -- ---- a sample that does not enter is lost
  pub shut-lost : enters s.drops s.depth (held_after s earlier) ≡ false → (later : List (Event A)) → fate s earlier a later ≡ some (lost a)
  shut-lost e [] = go s.drops (rw (held-counted s some-deep one earlier) at e)
    where
      go : (r : Drop) → enters r s.depth (held_in (fates_by s earlier)) ≡ false → get_elem? (arrives r s.depth a (fates_by s earlier)) 0 ≡ some (lost a)
      go Newcomer f = rw f
      go Oldest f = cc
  shut-lost e (sample b ∷ later) = arrives-lost s.drops s.depth a b (arrivals later) (fates_at s earlier a later) (shut-lost e later)
  shut-lost e (readout n ∷ later) = (takes-lost a (frames_reached s.size n) (arrivals later) (fates_at s earlier a later)).1 (shut-lost e later)

  enters-or : (later : List (Event A)) → (enters s.drops s.depth (held_after s earlier) ≡ true) ⊎ (fate s earlier a later ≡ some (lost a))
  enters-or later = go (enters s.drops s.depth (held_after s earlier)) refl
    where
      go : (t : Bool) → enters s.drops s.depth (held_after s earlier) ≡ t → (enters s.drops s.depth (held_after s earlier) ≡ true) ⊎ (fate s earlier a later ≡ some (lost a))
      go true e = inl e
      go false e = inr (shut-lost e later)

  -- where the newcomer is dropped, one that enters is not lost
  pub kept : s.drops ≡ Newcomer → enters s.drops s.depth (held_after s earlier) ≡ true → (later : List (Event A)) → fate s earlier a later ≡ some (lost a) → ⊥
  kept f e [] p = go s.drops f (rw (held-counted s some-deep one earlier) at e) p
    where
      go : (r : Drop) → r ≡ Newcomer → enters r s.depth (held_in (fates_by s earlier)) ≡ true → get_elem? (arrives r s.depth a (fates_by s earlier)) 0 ≡ some (lost a) → ⊥
      go Newcomer g h q = let w : some (held a) ≡ some (lost a) = rw h at q in let z : ◌≡◌ {A = ℕ} 0 1 = cc in omega arith
      go Oldest g h q = let z : ◌≡◌ {A = ℕ} 0 1 = cc in omega arith
  kept f e (sample b ∷ later) p = kept f e later (rw f at p)
  kept f e (readout n ∷ later) p = kept f e later ((takes-lost a (frames_reached s.size n) (arrivals later) (fates_at s earlier a later)).0 p)

  -- ---- taken
  reached-more : (e : Event A) (later : List (Event A)) → ReadoutReached s earlier a later → ReadoutReached s earlier a (e ∷ later)
  reached-more e later w = record {
    rest = e ∷ w.rest;
    bytes = w.bytes;
    before = w.before;
    split = ap (λ (l : List (Event A)). e ∷ l) w.split;
    enter = w.enter;
    stays = w.stays;
    first = w.first;
  }

  -- a readout of n bytes takes it when it is held and its first byte is among them
  now-taken : (n : ℕ) (later : List (Event A)) → enters s.drops s.depth (held_after s earlier) ≡ true → gone_at s earlier a later ≤ frame_number s earlier a
      → (frame_number s earlier a - gone_at s earlier a later) * s.size < n → fate s earlier a (readout n ∷ later) ≡ some (taken a)
  now-taken n later e st fi =
      ⊎_elim (λ p. takes-taken a k i ms p)
      (⊎_elim (λ p.
      let g = held_stays later p in
      let w : ahead s earlier a later < k = (first-reached s.size one (ahead s earlier a later) n).1 (omega (arith, rw g.1 at fi)) in
      takes-held a k i ms p ∙ rw (lt-ltb (ahead s earlier a later) k w))
      (λ p. absurd (away s.drops refl p)))
      (has-fate later)
    where
      k : ℕ
      k = frames_reached s.size n

      i : ℕ
      i = arrivals later

      ms : List (Fate A)
      ms = fates_at s earlier a later

      away : (r : Drop) → s.drops ≡ r → fate s earlier a later ≡ some (lost a) → ⊥
      away Newcomer f p = kept f e later p
      away Oldest f p = omega (arith, lost-gone later f p)

  reached-now : (n : ℕ) (later : List (Event A)) → fate s earlier a later ≡ some (held a) → fate s earlier a (readout n ∷ later) ≡ some (taken a) → ReadoutReached s earlier a (readout n ∷ later)
  reached-now n later p q = go (ltb (ahead s earlier a later) k) refl (takes-held a k (arrivals later) (fates_at s earlier a later) p)
    where
      k : ℕ
      k = frames_reached s.size n

      go : (t : Bool) → ltb (ahead s earlier a later) k ≡ t → fate s earlier a (readout n ∷ later) ≡ some (pick t (taken a) (held a)) → ReadoutReached s earlier a (readout n ∷ later)
      go true e w =
          let g = held_stays later p in
          let f : ahead s earlier a later * s.size < n = (first-reached s.size one (ahead s earlier a later) n).0 (ltb-true (ahead s earlier a later) k e) in
          record {
            rest = [];
            bytes = n;
            before = later;
            split = refl;
            enter = ⊎_elim (λ h. h) (λ h. cc) (enters-or later);
            stays = g.0;
            first = rw g.1 (omega (arith, f));
          }
      go false e w = let z : ◌≡◌ {A = ℕ} 0 1 = cc in absurd (omega arith)

  was-reached : (later : List (Event A)) → fate s earlier a later ≡ some (taken a) → ReadoutReached s earlier a later
  was-reached [] p = ⊎_elim (λ h. let z : ◌≡◌ {A = ℕ} 0 1 = cc in absurd (omega arith)) (λ h. let z : ◌≡◌ {A = ℕ} 0 1 = cc in absurd (omega arith)) (arrives-new s.drops s.depth a (fates_by s earlier))
  was-reached (sample b ∷ later) p =
      reached-more (sample b) later (was-reached later ((arrives-taken s.drops s.depth a b (arrivals later) (fates_at s earlier a later)).0 p))
  was-reached (readout n ∷ later) p =
      ⊎_elim (λ h. reached-more (readout n) later (was-reached later h))
      (⊎_elim (λ h. reached-now n later h p)
      (λ h. let l = (takes-lost a (frames_reached s.size n) (arrivals later) (fates_at s earlier a later)).1 h in let z : ◌≡◌ {A = ℕ} 0 1 = cc in absurd (omega arith)))
      (has-fate later)

  is-taken : (later rest before : List (Event A)) (n : ℕ) → later ≡ rest ++ (readout n ∷ before) → enters s.drops s.depth (held_after s earlier) ≡ true
      → gone_at s earlier a before ≤ frame_number s earlier a → (frame_number s earlier a - gone_at s earlier a before) * s.size < n → fate s earlier a later ≡ some (taken a)
  is-taken [] [] before n p e st fi = let z : ◌≡◌ {A = ℕ} 0 1 = cc in absurd (omega arith)
  is-taken [] (x ∷ rest) before n p e st fi = let z : ◌≡◌ {A = ℕ} 0 1 = cc in absurd (omega arith)
  is-taken (x ∷ later) [] before n p e st fi = ap (fate s earlier a) p ∙ now-taken n before e st fi
  is-taken (sample b ∷ later) (x ∷ rest) before n p e st fi =
      (arrives-taken s.drops s.depth a b (arrivals later) (fates_at s earlier a later)).1 (is-taken later rest before n (cc) e st fi)
  is-taken (readout m ∷ later) (x ∷ rest) before n p e st fi = takes-taken a (frames_reached s.size m) (arrivals later) (fates_at s earlier a later) (is-taken later rest before n (cc) e st fi)

  pub taken_in : (later : List (Event A)) → (fate s earlier a later ≡ some (taken a)) ↔ ReadoutReached s earlier a later
  taken_in later = (was-reached later, λ w. is-taken later w.rest w.before w.bytes w.split w.enter w.stays w.first)
