-- Each public function of channels: its contract, as its source states it, asks nothing of a call and leaves one outcome.
-- Assumes nothing.
use mathlib.Core.Path.{refl}
use Rattle.laws.specs.Outcome.{Settled}
use Rattle.channels.specs.contracts.in_range as in-range
use Rattle.channels.specs.contracts.code_of as code_of_lem
use Rattle.channels.specs.contracts.codes_of as codes-of
use Rattle.channels.specs.contracts.lsb_of as lsb-of
use Rattle.channels.specs.contracts.msb_of as msb-of
use Rattle.channels.specs.contracts.Channel.empty as channel-empty
use Rattle.channels.specs.contracts.Channel.sample as channel-sample
use Rattle.channels.specs.contracts.Channel.lsb as lsb
use Rattle.channels.specs.contracts.Channel.msb as msb
use Rattle.channels.specs.contracts.Channel.after_lsb as after-lsb
use Rattle.channels.specs.contracts.Channel.unlock as unlock
use Rattle.channels.specs.contracts.Channels.empty as channels-empty
use Rattle.channels.specs.contracts.Channels.sample as channels-sample
use Rattle.channels.specs.contracts.Channels.release as release
use Rattle.channels.specs.contracts.Channels.byte as byte
use Rattle.channels.specs.contracts.Channels.after_read as after_read
use Rattle.outcomes.proofs.Plain.{plain}

in-range-settled : Settled in-range.ended (λ M 𝓤. in-range.clauses) (λ M 𝓤. in-range.spec)
in-range-settled = plain (λ κs a s s'. refl)

code-of-settled : Settled code_of_lem.ended (λ M 𝓤. code_of_lem.clauses) (λ M 𝓤. code_of_lem.spec)
code-of-settled = plain (λ κs a s s'. refl)

codes-of-settled : Settled codes-of.ended (λ M 𝓤. codes-of.clauses) (λ M 𝓤. codes-of.spec)
codes-of-settled = plain (λ κs a s s'. refl)

lsb-of-settled : Settled lsb-of.ended (λ M 𝓤. lsb-of.clauses) (λ M 𝓤. lsb-of.spec)
lsb-of-settled = plain (λ κs a s s'. refl)

msb-of-settled : Settled msb-of.ended (λ M 𝓤. msb-of.clauses) (λ M 𝓤. msb-of.spec)
msb-of-settled = plain (λ κs a s s'. refl)

channel-empty-settled : Settled channel-empty.ended (λ M 𝓤. channel-empty.clauses) (λ M 𝓤. channel-empty.spec)
channel-empty-settled = plain (λ κs a s s'. refl)

channel-sample-settled : Settled channel-sample.ended (λ M 𝓤. channel-sample.clauses) (λ M 𝓤. channel-sample.spec)
channel-sample-settled = plain (λ κs a s s'. refl)

lsb-settled : Settled lsb.ended (λ M 𝓤. lsb.clauses) (λ M 𝓤. lsb.spec)
lsb-settled = plain (λ κs a s s'. refl)

msb-settled : Settled msb.ended (λ M 𝓤. msb.clauses) (λ M 𝓤. msb.spec)
msb-settled = plain (λ κs a s s'. refl)

after-lsb-settled : Settled after-lsb.ended (λ M 𝓤. after-lsb.clauses) (λ M 𝓤. after-lsb.spec)
after-lsb-settled = plain (λ κs a s s'. refl)

unlock-settled : Settled unlock.ended (λ M 𝓤. unlock.clauses) (λ M 𝓤. unlock.spec)
unlock-settled = plain (λ κs a s s'. refl)

channels-empty-settled : Settled channels-empty.ended (λ M 𝓤. channels-empty.clauses) (λ M 𝓤. channels-empty.spec)
channels-empty-settled = plain (λ κs a s s'. refl)

channels-sample-settled : Settled channels-sample.ended (λ M 𝓤. channels-sample.clauses) (λ M 𝓤. channels-sample.spec)
channels-sample-settled = plain (λ κs a s s'. refl)

release-settled : Settled release.ended (λ M 𝓤. release.clauses) (λ M 𝓤. release.spec)
release-settled = plain (λ κs a s s'. refl)

byte-settled : Settled byte.ended (λ M 𝓤. byte.clauses) (λ M 𝓤. byte.spec)
byte-settled = plain (λ κs a s s'. refl)

after-read-settled : Settled after_read.ended (λ M 𝓤. after_read.clauses) (λ M 𝓤. after_read.spec)
after-read-settled = plain (λ κs a s s'. refl)
