-- Demand 3 for a second chip, a toy with a FIFO of another depth and frames without a new-data bit: nothing of it is proved again.
-- Assumes nothing.
use Prim.Native.Nat.{ℕ, ◌+◌, ◌/◌, ◌%◌, ◌≤◌}
use mathlib.Core.Bool.{Bool, true, false}
use mathlib.Core.List.{List, [], ◌∷◌, ◌++◌}
use mathlib.Core.Logic.Iff
use mathlib.Core.Logic.{◌↔◌}
use mathlib.Core.Option.{some}
use mathlib.Core.Path.{◌≡◌, refl}
use native.Mathlib.Omega.{arith}
use lib.Dec.{eqb}
use lib.ListN.{length, get_elem?}
use Rattle.laws.specs.Bits.{worth}
use Rattle.laws.specs.Bytes.{first_or_zeros}
use Rattle.laws.specs.Choice.{pick}
use Rattle.laws.proofs.Finite.{picked}
use Rattle.fifo.specs.Flat.{flat}
use Rattle.fifo.specs.Ledger as fifo
use Rattle.fifo.specs.declared.Drop.{Drop}
use Rattle.fifo.specs.declared.Drop.TheVariants.{Newcomer, Oldest}
use Rattle.fifo.specs.declared.Setting.{Setting}
use Rattle.demand3.specs.Chip.{Said, cleared, sampled, read_out, Chip, Twin, since}
use Rattle.demand3.specs.Counts.{arrivals, held_after}
use Rattle.demand3.specs.Demand.{fates, Demand3}
use Rattle.demand3.specs.Lost.{Saw, LostBy}
use Rattle.demand3.specs.Whole.{OverClears}
use Rattle.demand3.proofs.Chip.{is_cleared, Lawful, Follows, queue_of, conserves}
use Rattle.demand3.proofs.Whole.{over-clears}

-- its events: which axes a frame has and what is dropped is chosen, a sample of three numbers of 16 bits comes, bytes are read out
pub data Toy : Type 0 where
  -- whether a frame has x alone, and whether the newcomer is dropped
  choose : Bool → Bool → Toy
  sample : ℕ → ℕ → ℕ → Toy
  read : ℕ → Toy

-- "LSB byte then MSB byte"
abbrev pub word : ℕ → List ℕ → List ℕ
word v rest = v % 256 ∷ v / 256 ∷ rest

abbrev pub toy_frame : Bool → ℕ → ℕ → ℕ → List ℕ
toy_frame true x y z = word x []
toy_frame false x y z = word x (word y (word z []))

-- the choice in force: the last
unfoldable pub alone : List Toy → Bool
alone [] = false
alone (choose x first ∷ es) = x
alone (sample x y z ∷ es) = alone es
alone (read n ∷ es) = alone es

unfoldable pub drops_first : List Toy → Bool
drops_first [] = false
drops_first (choose x first ∷ es) = first
drops_first (sample x y z ∷ es) = drops_first es
drops_first (read n ∷ es) = drops_first es

unfoldable pub toy_says : List Toy → Toy → Said
toy_says es (choose x first) = cleared
toy_says es (sample x y z) = sampled (toy_frame (alone es) x y z)
toy_says es (read n) = read_out n

abbrev pub toy : Chip
toy = record { Event = Toy; says = toy_says; setting = λ es. record { depth = 100; drops = pick (drops_first es) Newcomer Oldest; size = pick (alone es) 2 6 } }

-- its twin reads from a queue of frames
unfoldable pub toy_twin : Twin toy
toy_twin es a n =
    pick (eqb a 0x3F) (first_or_zeros n (flat (queue_of toy es).frames))
    ((worth 128 (queue_of toy es).overrun + length (queue_of toy es).frames) ∷ [])

-- ---- all that is to be proved of it
frame-size : (b : Bool) (x y z : ℕ) → length (toy_frame b x y z) ≡ pick b 2 6
frame-size true x y z = refl
frame-size false x y z = refl

toy-sized : (es : List Toy) (e : Toy) (f : List ℕ) → toy_says es e ≡ sampled f → length f ≡ (toy.setting es).size
unfolding toy_says
toy-sized es (choose x first) f q = cc
toy-sized es (sample x y z) f q = let e : f ≡ toy_frame (alone es) x y z = cc in rw e (frame-size (alone es) x y z)
toy-sized es (read n) f q = cc

toy-keeps : (es : List Toy) (e : Toy) → is_cleared (toy_says es e) ≡ false → toy.setting (e ∷ es) ≡ toy.setting es
unfolding toy_says alone drops_first
toy-keeps es (choose x first) h = cc
toy-keeps es (sample x y z) h = refl
toy-keeps es (read n) h = refl

toy-lawful : Lawful toy
toy-lawful = record {
  keeps = toy-keeps;
  some-deep = λ es h. omega arith;
  small = λ es. omega arith;
  one = λ es. picked (λ n. 1 ≤ n) (alone es) (omega arith) (omega arith);
  sized = toy-sized;
}

toy-follows : Follows toy toy_twin
unfolding toy_twin
toy-follows = record { reads = λ es e n q. refl; shows = λ es. refl }

-- ---- and what follows
pub toy-demand3 : (es : List Toy) → Demand3 toy toy_twin es
toy-demand3 = conserves toy toy_twin toy-lawful toy-follows

pub toy-over-clears : (es : List Toy) → OverClears toy es
toy-over-clears = over-clears toy toy-lawful

-- with its number: lost are those that arrived while 100 were held or, where the oldest is dropped, those that saw 100 later ones
-- arrive before a readout reached them
abbrev pub ToyLost : Setting → Bool → List (fifo.Event (List ℕ)) → List ℕ → List (fifo.Event (List ℕ)) → Type 0
ToyLost s true earlier f later = held_after s earlier ≡ 100
ToyLost s false earlier f later = Saw s earlier f 100 later

pub toy-lost : (es : List Toy) (later earlier : List (fifo.Event (List ℕ))) (f : List ℕ) → since toy es ≡ later ++ (fifo.sample f ∷ earlier)
    → (get_elem? (fates toy es) (arrivals later) ≡ some (fifo.lost f)) ↔ ToyLost (toy.setting es) (drops_first es) earlier f later
toy-lost es later earlier f e = Iff.trans ((toy-demand3 es).lost later earlier f e) (go (drops_first es) (toy.setting es).drops (toy.setting es).size)
  where
    go : (b : Bool) (d : Drop) (n : ℕ)
        → let s : Setting = record { depth = 100; drops = d; size = n } in LostBy s earlier f (pick b Newcomer Oldest) later ↔ ToyLost s b earlier f later
    go true d n = Iff.rfl
    go false d n = Iff.rfl
