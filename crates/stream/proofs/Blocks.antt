-- Turns over the parts that reads give: what the runs see is, in order and whole, the sum of the parts, and the last of them is known to be
-- the last. So the blocks that are handed to the writes are, joined, the text of the whole log, or its beginning; and what stops the last
-- run is what stops the log, and it has come to where the log leads.
-- Assumes nothing.
use Prim.Native.Nat.{ℕ}
use mathlib.Core.Bool.{true}
use mathlib.Core.List.{List, [], ◌∷◌, ◌++◌, append-nil, append_assoc}
use mathlib.Core.Path.{◌≡◌, refl, sym, ap, ◌∙◌}
use native.Mathlib.Omega.{arith}
use borrow.Author.Tests.{ne_eqb}
use lib.Dec.{eqb}
use lib.ListN.{length, drop}
use Rattle.std.specs.Prelude.{Some}
use Rattle.follow.specs.Follow.{Wait, Stop}
use Rattle.follow.specs.Source.{records}
use Rattle.follow.specs.Teller.{Teller, Lawful}
use Rattle.follow.specs.Whole.{joined, printed_from, stop_from, led_to}
use Rattle.follow.proofs.Sources.{records-sound}
use Rattle.follow.proofs.Stream.{Hearing, heard_from, run-heard, the-text, the_number, the-state, waits, run-due}
use Rattle.follow.proofs.Whole.{joined-append}
use Rattle.window.specs.Window.{unused}
use Rattle.window.specs.declared.Window.{Window}
use Rattle.window.proofs.Places.{unused-past}
use Rattle.stream.specs.declared.State.{State}
use Rattle.stream.specs.Pump.{ran_over, Went, emptied, refilled, some_of, part_in, is_none, end_in, end_seen, TurnsDone, none, again, MayFollow}

joined-some : (part : List ℕ) → joined (some_of part) ≡ part
joined-some [] = refl
joined-some (b ∷ bs) = append-nil (b ∷ bs)

-- what may stand behind the parts that came, by the mark of the end in a state
abbrev OpenTo : {S : Type 0} → State S → List ℕ → Type 0
OpenTo s rest = s.window.last ≡ true → rest ≡ []

-- what blocks, one after the other, make of what follows them
module _ {A : Type 0} (onto : List ℕ → A → A) where
  abbrev all_onto : List (List ℕ) → A → A
  all_onto [] x = x
  all_onto (b ∷ bs) x = onto b (all_onto bs x)

  one_block : (bs : List (List ℕ)) (b : List ℕ) (x : A) → all_onto (bs ++ (b ∷ [])) x ≡ all_onto bs (onto b x)
  one_block [] b x = refl
  one_block (c ∷ bs) b x = ap (onto c) (one_block bs b x)

all-counted : (bs : List (List ℕ)) (x : List ℕ) → all_onto (λ b x. b ++ x) bs x ≡ joined bs ++ x
all-counted [] x = refl
all-counted (b ∷ bs) x = ap (λ (l : List ℕ). b ++ l) (all-counted bs x) ∙ sym (append_assoc b (joined bs) x)

none-counted : {A : Type 0} (bs : List (List ℕ)) (x : A) → all_onto (λ b x. x) bs x ≡ x
none-counted [] x = refl
none-counted (b ∷ bs) x = none-counted bs x

-- what is heard of a log, from a follower that has come to its bytes
module _ (who : Teller records) (law : Lawful who) {A : Type 0} (h : Hearing who A) where
  abbrev said : who.State → List ℕ → A
  said = heard_from who h

  abbrev onto : List ℕ → A → A
  onto = h.onto

  module _ (s : State who.State) (buffer : List ℕ) (room : ℕ) where
    -- of a run that stops
    stop-said : {refusal : ℕ} (rest : List ℕ) → OpenTo s rest → let u = ran_over who s buffer room in
        u.halt ≡ Some (Stop refusal) → said s.follower (unused s.window buffer ++ rest) ≡ h.at_stop u.state u.text refusal
    stop-said rest may e = run-heard records-sound who law h (unused s.window buffer) rest s.window.last may s.follower room e

    -- of one that does not, what its text makes of what the next run sees
    turn-said : {s' : State who.State} {buffer' : List ℕ} (went : Went who s buffer room s' buffer') (rest : List ℕ) → OpenTo s' rest
        → (OpenTo s (joined (part_in went) ++ rest))
        × (said s.follower (unused s.window buffer ++ (joined (part_in went) ++ rest)) ≡ onto (ran_over who s buffer room).text (said s'.follower (unused s'.window buffer' ++ rest)))
    turn-said (emptied e is same) rest may =
        let may' = rw is at may in
        (may', (run-heard records-sound who law h (unused s.window buffer) rest s.window.last may' s.follower room e).0 ∙ rw (is, same, unused-past s.window (ran_over who s buffer room).at buffer))
    turn-said {s'} {buffer'} (refilled e r) rest may =
        let part = r.1.part in
        let off = (waits records-sound who law s.follower (unused s.window buffer) s.window.last room e).0 in
        let not_last : OpenTo s (joined (some_of part) ++ rest) = λ q. let f = sym q ∙ off in let z : ◌≡◌ {A = ℕ} 0 1 = cc in absurd (omega arith) in
        let job_is : s'.follower ≡ (ran_over who s buffer room).state = ap (λ (t : State who.State). t.follower) r.0 in
        let bytes-are : unused s'.window buffer' ≡ drop (ran_over who s buffer room).at (unused s.window buffer) ++ part = r.1.bytes ∙ rw (unused-past s.window (ran_over who s buffer room).at buffer) in
        (not_last, (run-heard records-sound who law h (unused s.window buffer) (joined (some_of part) ++ rest) s.window.last not_last s.follower room e).0 ∙ rw (job_is, bytes-are, joined-some part, append_assoc))

  turns-said : {first : who.State} {n : ℕ} {parts blocks : List (List ℕ)} {s : State who.State} {buffer : List ℕ} → TurnsDone who first n parts blocks s buffer
      → (rest : List ℕ) → OpenTo s rest → said first (joined parts ++ rest) ≡ all_onto onto blocks (said s.follower (unused s.window buffer ++ rest))
  unfolding unused
  turns-said (none buffer) rest may = refl
  turns-said {first} (again {parts = parts} {blocks = blocks} {s = s} {s' = s'} {buffer = buffer} {buffer' = buffer'} room done went) rest may =
      let t = turn-said s buffer room went rest may in
      ap (said first) (ap (λ (l : List ℕ). l ++ rest) (joined-append parts (part_in went)) ∙ append_assoc (joined parts) (joined (part_in went)) rest)
      ∙ turns-said done (joined (part_in went) ++ rest) t.0
      ∙ ap (all_onto onto blocks) t.1
      ∙ sym (one_block onto blocks (ran_over who s buffer room).text (said s'.follower (unused s'.window buffer' ++ rest)))

-- the state knows whether the end was seen
none-long : (part : List ℕ) → is_none part ≡ eqb (length part) 0
none-long [] = refl
none-long (b ∷ bs) = sym (ne_eqb (length (b ∷ bs)) 0 (λ e. omega arith))

end_marked : {who : Teller records} {first : who.State} {n : ℕ} {parts blocks : List (List ℕ)} {s : State who.State} {buffer : List ℕ} (done : TurnsDone who first n parts blocks s buffer) → end_seen done ≡ s.window.last
end_marked (none buffer) = refl
end_marked {who} (again {s = s} {s' = s'} {buffer = buffer} {buffer' = buffer'} room done went) = go (end_marked done) went
  where
    go : end_seen done ≡ s.window.last → (w : Went who s buffer room s' buffer') → end_in (end_seen done) w ≡ s'.window.last
    go e (emptied full is same) = e ∙ sym (ap (λ (t : State who.State). t.window.last) is)
    go e (refilled waits r) = none-long r.1.part ∙ sym (ap (λ (t : Window). t.last) r.1.window)

-- ---- what is printed, and what stops it
module _ {who : Teller records} (law : Lawful who) {first : who.State} {n : ℕ} {parts blocks : List (List ℕ)} {s : State who.State} {buffer : List ℕ} (done : TurnsDone who first n parts blocks s buffer)
    (rest : List ℕ) (may' : MayFollow done rest) where
  may : OpenTo s rest
  may q = may' (end_marked done ∙ q)

  abbrev left : List ℕ
  left = unused s.window buffer

  -- what was written before is the beginning of the text
  pub written-before : printed_from who first (joined parts ++ rest) ≡ joined blocks ++ printed_from who s.follower (left ++ rest)
  written-before = turns-said who law (the-text who) done rest may ∙ all-counted blocks _

  module _ (room : ℕ) where
    abbrev text : List ℕ
    text = (ran_over who s buffer room).text

    with-last : joined (blocks ++ (text ∷ [])) ≡ joined blocks ++ text
    with-last = joined-append blocks (text ∷ []) ∙ ap (λ (l : List ℕ). joined blocks ++ l) (append-nil text)

    -- with the last block it is the whole of it, where the run stops
    pub written_all : {refusal : ℕ} → (ran_over who s buffer room).halt ≡ Some (Stop refusal) → joined (blocks ++ (text ∷ [])) ≡ printed_from who first (joined parts ++ rest)
    written_all e = with-last ∙ ap (λ (l : List ℕ). joined blocks ++ l) (sym (stop-said who law (the-text who) s buffer room rest may e)) ∙ sym written-before

    -- and where it waits, a longer beginning
    pub written-with : (ran_over who s buffer room).halt ≡ Some Wait
        → printed_from who first (joined parts ++ rest) ≡ joined (blocks ++ (text ∷ [])) ++ printed_from who (ran_over who s buffer room).state (drop (ran_over who s buffer room).at left ++ rest)
    written-with e =
        written-before
        ∙ ap (λ (l : List ℕ). joined blocks ++ l) (run-due records-sound who law left rest s.window.last may s.follower room e).0
        ∙ sym (append_assoc (joined blocks) text _)
        ∙ ap (λ (l : List ℕ). l ++ printed_from who (ran_over who s buffer room).state (drop (ran_over who s buffer room).at left ++ rest)) (sym with-last)

    -- what stops the last run stops the log
    pub stopped_by : {refusal : ℕ} → (ran_over who s buffer room).halt ≡ Some (Stop refusal) → stop_from who first (joined parts ++ rest) ≡ refusal
    stopped_by e = turns-said who law (the_number who) done rest may ∙ none-counted blocks _ ∙ stop-said who law (the_number who) s buffer room rest may e

    -- and it has come to where the log leads
    pub led-there : {refusal : ℕ} → (ran_over who s buffer room).halt ≡ Some (Stop refusal) → led_to who first (joined parts ++ rest) ≡ (ran_over who s buffer room).state
    led-there e = turns-said who law (the-state who) done rest may ∙ none-counted blocks _ ∙ stop-said who law (the-state who) s buffer room rest may e
