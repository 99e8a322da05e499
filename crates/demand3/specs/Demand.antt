-- Demand 3, of any twin of any chip: "For any events from power-up, take the samples accepted since the FIFO was last cleared (by
-- power-up, soft reset or an accepted write to 0x3E). Each is exactly one of taken by a readout, still held, or lost."
use Rattle.std.specs.Prelude.{ℕ, ◌+◌, ◌%◌, ◌≤◌, ◌↔◌, ◌≡◌, List, [], ◌∷◌, ◌++◌, map, ltb, length, take}
use Rattle.std.proofs.Math.Option.{some}
use Rattle.std.proofs.Math.ListN.{get_elem?}
use Rattle.laws.specs.Bits.{bit, worth}
use Rattle.laws.specs.Bytes.{first_or_zeros}
use Rattle.fifo.specs.Flat.{flat}
use Rattle.fifo.specs.Ledger as fifo
use Rattle.fifo.specs.Ledger.{Fate, fates_by, all_of, taken_of, held_of, lost_of}
use Rattle.fifo.specs.declared.Setting.{Setting}
use Rattle.demand3.specs.Chip.{Said, cleared, sampled, read_out, nothing, Chip, Twin, since}
use Rattle.demand3.specs.Counts.{arrivals, begun, held_after}
use Rattle.demand3.specs.Lost.{ReadoutReached, LostBy}

-- the samples that are not lost, the oldest first
abbrev pub not_lost : {A : Type 0} → List (Fate A) → List A
not_lost [] = []
not_lost (fifo.taken a ∷ ms) = not_lost ms ++ (a ∷ [])
not_lost (fifo.held a ∷ ms) = not_lost ms ++ (a ∷ [])
not_lost (fifo.lost a ∷ ms) = not_lost ms

-- ---- readouts
-- a readout: its length, and the frames that it takes
pub record Readout : Type 0 where
  pub bytes : ℕ
  pub frames : List (List ℕ)

-- the readouts since the last clear, in order: each takes the oldest of the frames held, as many as it begins
unfoldable pub readouts : Setting → List (fifo.Event (List ℕ)) → List Readout
readouts s [] = []
readouts s (fifo.sample f ∷ es) = readouts s es
readouts s (fifo.readout n ∷ es) = readouts s es ++ (record { bytes = n; frames = take (begun s.size n) (held_of (fates_by s es)) } ∷ [])

-- the frames that they take, in order
abbrev pub frames_of : List Readout → List (List ℕ)
frames_of [] = []
frames_of (r ∷ rs) = r.frames ++ frames_of rs

-- "Past the last frame it gives zeros"
abbrev pub due_bytes : Readout → List ℕ
due_bytes r = first_or_zeros r.bytes (flat r.frames)

-- the bytes that readouts gave, with those of one more event, whose readout gives `bytes n`
abbrev pub gave_by : (ℕ → List ℕ) → Said → List (List ℕ) → List (List ℕ)
gave_by bytes cleared out = []
gave_by bytes (sampled f) out = out
gave_by bytes (read_out n) out = out ++ (bytes n ∷ [])
gave_by bytes nothing out = out

module _ (c : Chip) where
  -- what became of each sample accepted since the last clear, the latest first: a fate is one of taken, held and lost
  unfoldable pub fates : List c.Event → List (Fate (List ℕ))
  fates es = fates_by (c.setting es) (since c es)

  -- the bytes that the readouts since the last clear gave, readout by readout
  unfoldable pub gave : Twin c → List c.Event → List (List ℕ)
  gave t [] = []
  gave t (e ∷ es) = gave_by (t es 0x3F) (c.says es e) (gave t es)

  -- "0x0E is overrun in bit 7, frame count in 6:0"
  unfoldable pub due_status : List c.Event → ℕ
  due_status es = worth 128 (ltb 0 (length (lost_of (fates es)))) + length (held_of (fates es))

  -- ---- the demand
  pub record Demand3 (t : Twin c) (es : List c.Event) : Type 0 where
    -- "Each is exactly one of taken by a readout, still held, or lost": it has its fate, in its place
    pub each : all_of (fates es) ≡ fifo.accepted_samples (since c es)
    pub numbers : length (fifo.accepted_samples (since c es)) ≡ length (taken_of (fates es)) + length (held_of (fates es)) + length (lost_of (fates es))
    -- the taken, and behind them the held, are in order the samples that are not lost
    pub order : taken_of (fates es) ++ held_of (fates es) ≡ not_lost (fates es)
    -- taken: exactly when a readout reached the first byte of its frame while it was held. Of each sample, with what came before it
    -- and after it
    pub taken : (later earlier : List (fifo.Event (List ℕ))) (f : List ℕ) → since c es ≡ later ++ (fifo.sample f ∷ earlier)
        → (get_elem? (fates es) (arrivals later) ≡ some (fifo.taken f)) ↔ ReadoutReached (c.setting es) earlier f later
    -- "In FIFO mode the lost are those that arrived while 32 were held; in STREAM mode .. those that saw 32 later accepted samples
    -- arrive before a readout reached them", with the chip's depth for 32
    pub lost : (later earlier : List (fifo.Event (List ℕ))) (f : List ℕ) → since c es ≡ later ++ (fifo.sample f ∷ earlier)
        → (get_elem? (fates es) (arrivals later) ≡ some (fifo.lost f)) ↔ LostBy (c.setting es) earlier f (c.setting es).drops later
    -- "Frames come out oldest first, each once": the frames that the readouts take are those of the taken samples, in order, and the
    -- bytes that the twin gave are theirs; those of the held come next
    pub frames : frames_of (readouts (c.setting es) (since c es)) ≡ taken_of (fates es)
    pub out : gave t es ≡ map due_bytes (readouts (c.setting es) (since c es))
    pub next : (e : c.Event) (n : ℕ) → c.says es e ≡ read_out n → t es 0x3F n ≡ first_or_zeros n (flat (held_of (fates es)))
    -- "The overrun bit is 1 exactly when some sample is lost, and the frame count is the number still held"
    pub shown : t es 0x0E 1 ≡ due_status es ∷ []
    pub overrun : bit 7 (due_status es) ≡ ltb 0 (length (lost_of (fates es)))
    pub count : due_status es % 128 ≡ length (held_of (fates es))
    pub counted : length (held_of (fates es)) ≡ held_after (c.setting es) (since c es)
    -- "The held frames never exceed the depth"
    pub few : length (held_of (fates es)) ≤ (c.setting es).depth
