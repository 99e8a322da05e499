-- The stretches of a history lie one behind the other and cover it, and what is counted in them adds up to what is counted from the
-- first one's beginning to the last one's end.
-- Assumes nothing.
use Prim.Native.Nat.{ℕ, ◌+◌, ◌-◌, ◌^◌, ◌≤◌, ◌<◌}
use mathlib.Core.Bool.{Bool, true, false}
use mathlib.Core.List.{List, [], ◌∷◌, ◌++◌}
use mathlib.Core.Path.{◌≡◌, refl, ap, sym}
use native.Mathlib.Omega.{arith}
use lib.Dec.{eqb}
use lib.ListN.{length, length-append}
use Rattle.laws.specs.Choice.{pick, either}
use Rattle.codes.specs.Addresses.{range_at}
use Rattle.paper.specs.Stored.{is_soft_reset, is_accepted}
use Rattle.paper.specs.Readouts.{reads_out}
use Rattle.events.specs.Event.{Event, power_up, write, read, sample, cycle, clock}
use Rattle.recorded.specs.Recorded.{Recorded, events_of}
use Rattle.counts.specs.declared.Why.TheVariants as why
use Rattle.std.proofs.Common.{None, Some}
use Rattle.counts.specs.Counts.{differences, ends}
use Rattle.stretches.specs.Histories.{counts_of, account_of, why_at, is_end, last_end, Stretch, ending_with, stretches, Adjacent, Conserved, apart, Part, unended, Between, EndAt, Each, over, inside, together}
use Rattle.stretches.proofs.Histories.{grows, conserved, differences-are}

-- ---- what ends them
pub ends_is : (es : List Event) (e : Event) → ends (why_at es e) ≡ is_end e
unfolding why_at
ends_is es power_up = refl
ends_is es (write a byte) = go (is_soft_reset a byte) (eqb a range_at) (is_accepted es a byte)
  where
    go : (r s t : Bool) → ends (pick r (Some why.Reset) (pick s (Some (pick t why.Range why.Refused)) None)) ≡ either r s
    go true s t = refl
    go false true t = refl
    go false false t = refl
ends_is es (read a n) = go (reads_out a n)
  where
    go : (t : Bool) → ends (pick t (Some why.Readout) None) ≡ either t false
    go true = refl
    go false = refl
ends_is es (sample x y z temperature) = refl
ends_is es cycle = refl
ends_is es (clock us) = refl

-- ---- where they lie
-- what a stretch begins with is a part of what it ends with
pub last_end-part : (rs : List Recorded) → Part (last_end rs) rs
unfolding last_end
last_end-part [] = ([], refl)
last_end-part (r ∷ rs) = go (is_end r.own) (last_end-part rs)
  where
    go : (t : Bool) → Part (last_end rs) rs → Part (pick t (r ∷ rs) (last_end rs)) (r ∷ rs)
    go true p = ([], refl)
    go false p = (r ∷ p.0, ap (λ l. r ∷ l) p.1)

-- those of a history lead from power-up to its last end
pub stretches-lead : (rs : List Recorded) → Between [] (stretches rs) (last_end rs)
unfolding stretches last_end
stretches-lead [] = refl
stretches-lead (r ∷ rs) = go (is_end r.own) (last_end-part rs) (stretches-lead rs)
  where
    go : (t : Bool) → Part (last_end rs) rs → Between [] (stretches rs) (last_end rs)
        → Between [] (pick t (ending_with r rs ∷ stretches rs) (stretches rs)) (pick t (r ∷ rs) (last_end rs))
    go true p b = (refl, (r ∷ p.0, ap (λ l. r ∷ l) p.1), b)
    go false p b = b

-- and with the one that has not ended, to its end
pub all-lead : (rs : List Recorded) → Between [] (unended rs ∷ stretches rs) rs
all-lead rs = (refl, last_end-part rs, stretches-lead rs)

all-adjacent : (ss : List Stretch) (k : List Recorded) → Between [] ss k → Adjacent ss
all-adjacent [] k b = tt
all-adjacent (s ∷ []) k b = b.2
all-adjacent (s ∷ r ∷ ss) k b = (sym b.2.0, all-adjacent (r ∷ ss) s.from b.2)

pub adjacent : (rs : List Recorded) → Adjacent (stretches rs)
adjacent rs = all-adjacent (stretches rs) (last_end rs) (stretches-lead rs)

end-at : (ss : List Stretch) (k : List Recorded) → Between [] ss k → EndAt ss k
end-at [] k b = b
end-at (s ∷ ss) k b = b.0

-- the latest ends at the last end, and where there is none that is power-up
pub latest-ends : (rs : List Recorded) → EndAt (stretches rs) (last_end rs)
latest-ends rs = end-at (stretches rs) (last_end rs) (stretches-lead rs)

-- of stretches that lead from h to k the later ones, from some history on, and the earlier ones, up to it
pub split : (later earlier : List Stretch) (h k : List Recorded) → Between h (later ++ earlier) k → (m : List Recorded) × Between m later k × Between h earlier m
split [] earlier h k b = (k, refl, b)
split (s ∷ later) earlier h k b =
    let r = split later earlier h s.from b.2 in
    (r.0, (b.0, b.1, r.1), r.2)

-- ---- what adds up
-- of a number that never falls, the differences over the stretches from h to k
module _ (f : List Recorded → ℕ) (rises : (later earlier : List Recorded) → f earlier ≤ f (later ++ earlier)) where
  risen : {earlier rs : List Recorded} → Part earlier rs → f earlier ≤ f rs
  risen {earlier} p = rw p.1 (rises p.0 earlier)

  telescope : (ss : List Stretch) (h k : List Recorded) → Between h ss k → (f h ≤ f k) × (over (λ s. f s.to - f s.from) ss ≡ f k - f h)
  telescope [] h k b = (omega (arith, ap f b), omega (arith, ap f b))
  telescope (s ∷ ss) h k b =
      let r = telescope ss h s.from b.2 in
      let u = risen b.1 in
      (omega (arith, r.0, u, ap f b.0), omega (arith, r.0, r.1, u, ap f b.0))

longer : (later earlier : List Recorded) → length earlier ≤ length (later ++ earlier)
longer later earlier = omega (arith, length-append later earlier)

-- the stretches and what came behind the last of them cover all records
pub covers : (rs : List Recorded) → over (λ s. length s.to - length s.from) (stretches rs) + (length rs - length (last_end rs)) ≡ length rs
covers rs =
    omega (arith, (telescope length longer (stretches rs) [] (last_end rs) (stretches-lead rs)).1, risen length longer (last_end-part rs))

-- what is counted in stretches that lead from h to k is what is counted from h to k
pub sums : (ss : List Stretch) (h k : List Recorded) → Between h ss k → together ss ≡ apart (counts_of (events_of h)) (counts_of (events_of k))
sums ss h k b = λ i. record {
  accepted = (telescope (λ rs. (counts_of (events_of rs)).accepted) (λ later earlier. (grows later earlier).accepted) ss h k b).1 i;
  taken = (telescope (λ rs. (counts_of (events_of rs)).taken) (λ later earlier. (grows later earlier).taken) ss h k b).1 i;
  lost = (telescope (λ rs. (counts_of (events_of rs)).lost) (λ later earlier. (grows later earlier).lost) ss h k b).1 i;
  cleared = (telescope (λ rs. (counts_of (events_of rs)).cleared) (λ later earlier. (grows later earlier).cleared) ss h k b).1 i;
  refused = (telescope (λ rs. (counts_of (events_of rs)).refused) (λ later earlier. (grows later earlier).refused) ss h k b).1 i;
  readouts = (telescope (λ rs. (counts_of (events_of rs)).readouts) (λ later earlier. (grows later earlier).readouts) ss h k b).1 i;
}

-- ---- each of them
-- it conserves: held before + accepted = taken + lost + cleared + held after
pub each-conserves : (ss : List Stretch) (h k : List Recorded) → Between h ss k → Each (λ s. Conserved (account_of s.from) (account_of s.to)) ss
each-conserves [] h k b = tt
each-conserves (s ∷ ss) h k b =
    let p = b.1 in
    (rw p.1 (conserved p.0 s.from), each-conserves ss h s.from b.2)

-- below 2 ^ 64 records the account's differences are what was counted in it
pub each-differs : (ss : List Stretch) (h k : List Recorded) → Between h ss k → length k < 2 ^ 64
    → Each (λ s. differences (counts_of (events_of s.from)) (counts_of (events_of s.to)) ≡ inside s) ss
each-differs [] h k b room = tt
each-differs (s ∷ ss) h k b room =
    let p = b.1 in
    let to : length s.to < 2 ^ 64 = rw b.0 room in
    let from : length s.from < 2 ^ 64 = omega (arith, to, risen length longer p) in
    (rw p.1 (differences-are p.0 s.from (rw p.1 at to)), each-differs ss h s.from b.2 from)
