-- Each public function of fifo: its contract, as its source states it, asks nothing of a call and leaves one outcome.
-- Assumes nothing.
use mathlib.Core.Path.{refl}
use Rattle.laws.specs.Outcome.{Settled}
use Rattle.laws.proofs.Outcome.{settles, meet}
use Rattle.fifo.specs.Flat.{numbers_of}
use Rattle.fifo.specs.contracts.size_of as type_size
use Rattle.fifo.specs.contracts.depth_in as depth-in
use Rattle.fifo.specs.contracts.drops_in as drops-in
use Rattle.fifo.specs.contracts.setting_of as setting-of
use Rattle.fifo.specs.contracts.no_frames as no_frames
use Rattle.fifo.specs.contracts.Fifo.empty as empty
use Rattle.fifo.specs.contracts.Fifo.count as count
use Rattle.fifo.specs.contracts.Fifo.status as status
use Rattle.fifo.specs.contracts.Fifo.push as push
use Rattle.fifo.specs.contracts.Fifo.readout as readout
use Rattle.fifo.specs.contracts.Fifo.emptied_when as emptied-when
use Rattle.outcomes.proofs.Plain.{plain}

size-of-settled : Settled type_size.ended (λ M 𝓤. type_size.clauses) (λ M 𝓤. type_size.spec)
size-of-settled = plain (λ κs a s s'. refl)

depth-in-settled : Settled depth-in.ended (λ M 𝓤. depth-in.clauses) (λ M 𝓤. depth-in.spec)
depth-in-settled = plain (λ κs a s s'. refl)

drops-in-settled : Settled drops-in.ended (λ M 𝓤. drops-in.clauses) (λ M 𝓤. drops-in.spec)
drops-in-settled = plain (λ κs a s s'. refl)

setting-of-settled : Settled setting-of.ended (λ M 𝓤. setting-of.clauses) (λ M 𝓤. setting-of.spec)
setting-of-settled = plain (λ κs a s s'. refl)

no-frames-settled : Settled no_frames.ended (λ M 𝓤. no_frames.clauses) (λ M 𝓤. no_frames.spec)
no-frames-settled = plain (λ κs a s s'. refl)

empty-settled : Settled empty.ended (λ M 𝓤. empty.clauses) (λ M 𝓤. empty.spec)
empty-settled = plain (λ κs a s s'. refl)

count-settled : Settled count.ended (λ M 𝓤. count.clauses) (λ M 𝓤. count.spec)
count-settled = plain (λ κs a s s'. refl)

status-settled : Settled status.ended (λ M 𝓤. status.clauses) (λ M 𝓤. status.spec)
status-settled = plain (λ κs a s s'. refl)

push-settled : Settled push.ended (λ M 𝓤. push.clauses) (λ M 𝓤. push.spec)
push-settled = settles (λ κs a r r' s s' p q. let e = meet p q in ((λ i. numbers_of (e i)), λ i. (tt, ((e i).bytes, (tt, (tt, (tt, (tt, tt))))))))

readout-settled : Settled readout.ended (λ M 𝓤. readout.clauses) (λ M 𝓤. readout.spec)
readout-settled = settles (λ κs a r r' s s' p q. let e = meet p.0 q.0 in ((λ i. numbers_of (e i)), λ i. (tt, ((e i).bytes, (tt, (tt, (meet p.1 q.1 i, tt)))))))

emptied-when-settled : Settled emptied-when.ended (λ M 𝓤. emptied-when.clauses) (λ M 𝓤. emptied-when.spec)
emptied-when-settled = settles (λ κs a r r' s s' p q. let e = meet p q in ((λ i. numbers_of (e i)), λ i. (tt, ((e i).bytes, (tt, tt)))))
