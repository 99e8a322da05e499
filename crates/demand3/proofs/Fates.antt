-- One fate of many: what a sample and a readout make of it, and where it stands among those that entered.
-- Assumes nothing.
use Prim.Native.Nat.{ℕ, zero, suc, ◌+◌, ◌≤◌, ◌<◌}
use mathlib.Core.Bool.{Bool, true, false}
use mathlib.Core.List.{List, [], ◌∷◌}
use mathlib.Core.Logic.Iff
use mathlib.Core.Logic.{◌↔◌, ◌⊎◌, inl, inr, ⊎_map}
use mathlib.Core.Option.{some}
use mathlib.Core.Path.{◌≡◌, refl, ap, ◌∙◌}
use native.Mathlib.Omega.{arith}
use lib.Dec.{ltb}
use lib.ListN.{get_elem?, drop}
use Rattle.laws.specs.Bits.{worth}
use Rattle.laws.specs.Choice.{pick}
use Rattle.fifo.specs.Ledger.{Fate, taken, held, lost, held_in, passed, takes, arrives}
use Rattle.fifo.specs.declared.Drop.{Drop}
use Rattle.fifo.specs.declared.Drop.TheVariants.{Newcomer, Oldest}
use Rattle.fifo.proofs.Conserve.{InOrder, settled-none}
use Rattle.demand3.specs.Counts.{enters}

module _ {A : Type 0} (a : A) where
  -- ---- a sample passes the one that came d before it
  pub passed-lost : (d n : ℕ) (ms : List (Fate A)) → get_elem? (passed d ms) n ≡ some (lost a) → (get_elem? ms n ≡ some (lost a)) ⊎ ((n ≡ d) × (get_elem? ms n ≡ some (held a)))
  passed-lost d n [] p = inl p
  passed-lost zero zero (taken b ∷ ms) p = inl p
  passed-lost zero zero (held b ∷ ms) p = inr (refl, cc)
  passed-lost zero zero (lost b ∷ ms) p = inl p
  passed-lost zero (suc n) (m ∷ ms) p = inl p
  passed-lost (suc d) zero (m ∷ ms) p = inl p
  passed-lost (suc d) (suc n) (m ∷ ms) p = ⊎_map (λ q. q) (λ q. (ap suc q.0, q.1)) (passed-lost d n ms p)

  pub lost-passed : (d n : ℕ) (ms : List (Fate A)) → get_elem? ms n ≡ some (lost a) → get_elem? (passed d ms) n ≡ some (lost a)
  lost-passed d n [] p = p
  lost-passed zero zero (taken b ∷ ms) p = p
  lost-passed zero zero (held b ∷ ms) p = cc
  lost-passed zero zero (lost b ∷ ms) p = p
  lost-passed zero (suc n) (m ∷ ms) p = p
  lost-passed (suc d) zero (m ∷ ms) p = p
  lost-passed (suc d) (suc n) (m ∷ ms) p = lost-passed d n ms p

  -- a held one is lost where it is the one that is passed
  pub held-passed : (d n : ℕ) (ms : List (Fate A)) → get_elem? ms n ≡ some (held a) → (get_elem? (passed d ms) n ≡ some (held a)) ⊎ (get_elem? (passed d ms) n ≡ some (lost a))
  held-passed d n [] p = inl p
  held-passed zero zero (taken b ∷ ms) p = inl p
  held-passed zero zero (held b ∷ ms) p = inr cc
  held-passed zero zero (lost b ∷ ms) p = inl p
  held-passed zero (suc n) (m ∷ ms) p = inl p
  held-passed (suc d) zero (m ∷ ms) p = inl p
  held-passed (suc d) (suc n) (m ∷ ms) p = held-passed d n ms p

  pub held-lost : (n : ℕ) (ms : List (Fate A)) → get_elem? ms n ≡ some (held a) → get_elem? (passed n ms) n ≡ some (lost a)
  held-lost n [] p = cc
  held-lost zero (taken b ∷ ms) p = cc
  held-lost zero (held b ∷ ms) p = cc
  held-lost zero (lost b ∷ ms) p = cc
  held-lost (suc n) (m ∷ ms) p = held-lost n ms p

  -- a taken one stays, and there is no other
  pub taken-passed : (d n : ℕ) (ms : List (Fate A)) → (get_elem? (passed d ms) n ≡ some (taken a)) ↔ (get_elem? ms n ≡ some (taken a))
  taken-passed d n [] = Iff.rfl
  taken-passed zero zero (taken b ∷ ms) = Iff.rfl
  taken-passed zero zero (held b ∷ ms) = (λ p. cc, λ p. cc)
  taken-passed zero zero (lost b ∷ ms) = Iff.rfl
  taken-passed zero (suc n) (m ∷ ms) = Iff.rfl
  taken-passed (suc d) zero (m ∷ ms) = Iff.rfl
  taken-passed (suc d) (suc n) (m ∷ ms) = taken-passed d n ms

  -- ---- a readout that reaches k frames
  -- it leaves the lost as they are, and makes no other
  pub takes-lost : (k n : ℕ) (ms : List (Fate A)) → (get_elem? (takes k ms) n ≡ some (lost a)) ↔ (get_elem? ms n ≡ some (lost a))
  takes-lost k n [] = Iff.rfl
  takes-lost k zero (taken b ∷ ms) = Iff.rfl
  takes-lost k zero (held b ∷ ms) = go (ltb (held_in ms) k)
    where
      go : (t : Bool) → (some (pick t (taken b) (held b)) ≡ some (lost a)) ↔ (some (held b) ≡ some (lost a))
      go true = (λ p. cc, λ p. cc)
      go false = Iff.rfl
  takes-lost k zero (lost b ∷ ms) = Iff.rfl
  takes-lost k (suc n) (taken b ∷ ms) = takes-lost k n ms
  takes-lost k (suc n) (held b ∷ ms) = takes-lost k n ms
  takes-lost k (suc n) (lost b ∷ ms) = takes-lost k n ms

  pub takes-taken : (k n : ℕ) (ms : List (Fate A)) → get_elem? ms n ≡ some (taken a) → get_elem? (takes k ms) n ≡ some (taken a)
  takes-taken k n [] p = p
  takes-taken k zero (taken b ∷ ms) p = p
  takes-taken k zero (held b ∷ ms) p = cc
  takes-taken k zero (lost b ∷ ms) p = p
  takes-taken k (suc n) (taken b ∷ ms) p = takes-taken k n ms p
  takes-taken k (suc n) (held b ∷ ms) p = takes-taken k n ms p
  takes-taken k (suc n) (lost b ∷ ms) p = takes-taken k n ms p

  -- a held one is taken where fewer than k are held before it
  pub takes-held : (k n : ℕ) (ms : List (Fate A)) → get_elem? ms n ≡ some (held a) → get_elem? (takes k ms) n ≡ some (pick (ltb (held_in (drop (suc n) ms)) k) (taken a) (held a))
  takes-held k n [] p = cc
  takes-held k zero (taken b ∷ ms) p = cc
  takes-held k zero (held b ∷ ms) p = let e : b ≡ a = cc in rw e
  takes-held k zero (lost b ∷ ms) p = cc
  takes-held k (suc n) (taken b ∷ ms) p = takes-held k n ms p
  takes-held k (suc n) (held b ∷ ms) p = takes-held k n ms p
  takes-held k (suc n) (lost b ∷ ms) p = takes-held k n ms p

-- ---- those that entered
module _ {A : Type 0} where
  -- how many: where the newcomer is dropped the lost did not enter, and where the oldest is they did
  abbrev pub entered_in : Drop → List (Fate A) → ℕ
  entered_in r [] = 0
  entered_in r (taken a ∷ ms) = suc (entered_in r ms)
  entered_in r (held a ∷ ms) = suc (entered_in r ms)
  entered_in Newcomer (lost a ∷ ms) = entered_in Newcomer ms
  entered_in Oldest (lost a ∷ ms) = suc (entered_in Oldest ms)

  pub held-entered : (r : Drop) (ms : List (Fate A)) → held_in ms ≤ entered_in r ms
  held-entered r [] = omega arith
  held-entered r (taken a ∷ ms) = omega (arith, held-entered r ms)
  held-entered r (held a ∷ ms) = omega (arith, held-entered r ms)
  held-entered Newcomer (lost a ∷ ms) = held-entered Newcomer ms
  held-entered Oldest (lost a ∷ ms) = omega (arith, held-entered Oldest ms)

  pub entered-takes : (r : Drop) (k : ℕ) (ms : List (Fate A)) → entered_in r (takes k ms) ≡ entered_in r ms
  entered-takes r k [] = refl
  entered-takes r k (taken a ∷ ms) = ap suc (entered-takes r k ms)
  entered-takes r k (held a ∷ ms) = go (ltb (held_in ms) k) (entered-takes r k ms)
    where
      go : (t : Bool) → entered_in r (takes k ms) ≡ entered_in r ms → entered_in r (pick t (taken a) (held a) ∷ takes k ms) ≡ suc (entered_in r ms)
      go true e = ap suc e
      go false e = ap suc e
  entered-takes Newcomer k (lost a ∷ ms) = entered-takes Newcomer k ms
  entered-takes Oldest k (lost a ∷ ms) = ap suc (entered-takes Oldest k ms)

  pub drop-takes : (k n : ℕ) (ms : List (Fate A)) → drop n (takes k ms) ≡ takes k (drop n ms)
  drop-takes k zero ms = refl
  drop-takes k (suc n) [] = refl
  drop-takes k (suc n) (taken a ∷ ms) = drop-takes k n ms
  drop-takes k (suc n) (held a ∷ ms) = drop-takes k n ms
  drop-takes k (suc n) (lost a ∷ ms) = drop-takes k n ms

  pub entered-passed : (d n : ℕ) (ms : List (Fate A)) → entered_in Oldest (drop n (passed d ms)) ≡ entered_in Oldest (drop n ms)
  entered-passed d zero [] = refl
  entered-passed zero zero (taken a ∷ ms) = refl
  entered-passed zero zero (held a ∷ ms) = refl
  entered-passed zero zero (lost a ∷ ms) = refl
  entered-passed (suc d) zero (taken a ∷ ms) = ap suc (entered-passed d zero ms)
  entered-passed (suc d) zero (held a ∷ ms) = ap suc (entered-passed d zero ms)
  entered-passed (suc d) zero (lost a ∷ ms) = ap suc (entered-passed d zero ms)
  entered-passed d (suc n) [] = refl
  entered-passed zero (suc n) (m ∷ ms) = refl
  entered-passed (suc d) (suc n) (m ∷ ms) = entered-passed d n ms

  -- ---- of fates in order
  -- of a held sample: those that left are older than it, and so many of those that entered before it are held
  pub held_place : (r : Drop) (a : A) (n : ℕ) (ms : List (Fate A)) → InOrder r ms → get_elem? ms n ≡ some (held a)
      → (entered_in r (drop (suc n) ms) + held_in ms ≡ entered_in r ms + held_in (drop (suc n) ms)) × (1 ≤ held_in ms)
  held_place r a n [] o p = let z : ◌≡◌ {A = ℕ} 0 1 = cc in absurd (omega arith)
  held_place r a zero (taken b ∷ ms) o p = let z : ◌≡◌ {A = ℕ} 0 1 = cc in absurd (omega arith)
  held_place r a zero (held b ∷ ms) o p = (omega arith, omega arith)
  held_place r a zero (lost b ∷ ms) o p = let z : ◌≡◌ {A = ℕ} 0 1 = cc in absurd (omega arith)
  held_place r a (suc n) (taken b ∷ ms) o p = absurd (omega (arith, (held_place r a n ms (settled-none r ms o) p).1))
  held_place r a (suc n) (held b ∷ ms) o p = let g = held_place r a n ms o p in (omega (arith, g.0), omega arith)
  held_place Newcomer a (suc n) (lost b ∷ ms) o p = held_place Newcomer a n ms o.0 p
  held_place Oldest a (suc n) (lost b ∷ ms) o p = absurd (omega (arith, o.1 refl, (held_place Oldest a n ms o.0 p).1))

  -- a sample that entered and left
  abbrev pub is_away : Drop → Fate A → Bool
  is_away r (taken a) = true
  is_away r (held a) = false
  is_away Newcomer (lost a) = false
  is_away Oldest (lost a) = true

  -- each that entered before it left too
  pub away-place : (r : Drop) (m : Fate A) (n : ℕ) (ms : List (Fate A)) → InOrder r ms → get_elem? ms n ≡ some m → is_away r m ≡ true → entered_in r (drop (suc n) ms) + held_in ms < entered_in r ms
  away-place r m n [] o p w = let z : ◌≡◌ {A = ℕ} 0 1 = cc in absurd (omega arith)
  away-place r m zero (taken b ∷ ms) o p w = omega arith
  away-place r m zero (held b ∷ ms) o p w = let e : m ≡ held b = cc in let f : false ≡ true = rw e at w in let z : ◌≡◌ {A = ℕ} 0 1 = cc in absurd (omega arith)
  away-place Newcomer m zero (lost b ∷ ms) o p w = let e : m ≡ lost b = cc in let f : false ≡ true = rw e at w in let z : ◌≡◌ {A = ℕ} 0 1 = cc in absurd (omega arith)
  away-place Oldest m zero (lost b ∷ ms) o p w = omega (arith, o.1 refl)
  away-place r m (suc n) (taken b ∷ ms) o p w = omega (arith, away-place r m n ms (settled-none r ms o) p w)
  away-place r m (suc n) (held b ∷ ms) o p w = omega (arith, away-place r m n ms o p w)
  away-place Newcomer m (suc n) (lost b ∷ ms) o p w = away-place Newcomer m n ms o.0 p w
  away-place Oldest m (suc n) (lost b ∷ ms) o p w = omega (arith, away-place Oldest m n ms o.0 p w)

  -- ---- a sample arrives, on any setting
  -- its own fate, and another's
  pub arrives-new : (r : Drop) (d : ℕ) (a : A) (ms : List (Fate A)) → (get_elem? (arrives r d a ms) 0 ≡ some (held a)) ⊎ (get_elem? (arrives r d a ms) 0 ≡ some (lost a))
  arrives-new Newcomer d a ms = go (ltb (held_in ms) d)
    where
      go : (t : Bool) → (some (pick t (held a) (lost a)) ≡ some (held a)) ⊎ (some (pick t (held a) (lost a)) ≡ some (lost a))
      go true = inl refl
      go false = inr refl
  arrives-new Oldest zero a ms = inr refl
  arrives-new Oldest (suc d) a ms = inl refl

  pub arrives-taken : (r : Drop) (d : ℕ) (a b : A) (n : ℕ) (ms : List (Fate A)) → (get_elem? (arrives r d b ms) (suc n) ≡ some (taken a)) ↔ (get_elem? ms n ≡ some (taken a))
  arrives-taken Newcomer d a b n ms = Iff.rfl
  arrives-taken Oldest d a b n ms = taken-passed a d (suc n) (held b ∷ ms)

  pub arrives-lost : (r : Drop) (d : ℕ) (a b : A) (n : ℕ) (ms : List (Fate A)) → get_elem? ms n ≡ some (lost a) → get_elem? (arrives r d b ms) (suc n) ≡ some (lost a)
  arrives-lost Newcomer d a b n ms p = p
  arrives-lost Oldest d a b n ms p = lost-passed a d (suc n) (held b ∷ ms) p

  pub arrives-held : (r : Drop) (d : ℕ) (a b : A) (n : ℕ) (ms : List (Fate A)) → get_elem? ms n ≡ some (held a)
      → (get_elem? (arrives r d b ms) (suc n) ≡ some (held a)) ⊎ (get_elem? (arrives r d b ms) (suc n) ≡ some (lost a))
  arrives-held Newcomer d a b n ms p = inl p
  arrives-held Oldest d a b n ms p = held-passed a d (suc n) (held b ∷ ms) p

  -- how many entered: with it, and of those that came n before it or earlier
  pub arrives-entered : (r : Drop) (d : ℕ) (b : A) (ms : List (Fate A)) → entered_in r (arrives r d b ms) ≡ worth 1 (enters r d (held_in ms)) + entered_in r ms
  arrives-entered Newcomer d b ms = go (ltb (held_in ms) d)
    where
      go : (t : Bool) → entered_in Newcomer (pick t (held b) (lost b) ∷ ms) ≡ worth 1 t + entered_in Newcomer ms
      go true = omega arith
      go false = omega arith
  arrives-entered Oldest d b ms = entered-passed d zero (held b ∷ ms) ∙ omega arith

  pub arrives-older : (r : Drop) (d : ℕ) (b : A) (n : ℕ) (ms : List (Fate A)) → entered_in r (drop (suc n) (arrives r d b ms)) ≡ entered_in r (drop n ms)
  arrives-older Newcomer d b n ms = refl
  arrives-older Oldest d b n ms = entered-passed d (suc n) (held b ∷ ms)
