-- What the round trips speak of are the contracts of reader and writer, as the toolchain reads them from the source.
-- Assumes nothing.
use mathlib.Core.Path.{◌≡◌, refl}
use Rattle.laws.specs.Outcome.{SourceClauses, promised}
use Rattle.benchlog.specs.Reader.{read_at, read_version}
use Rattle.logreader.specs.contracts.read_version as read-version
use Rattle.logreader.specs.contracts.read_entry as read-entry
use Rattle.logwriter.specs.contracts.write_version as write-version
use Rattle.logwriter.specs.contracts.write_entry as write-entry
use Rattle.outcomes.specs.RoundTrips.{writer_answers, writer_leaves, version_answers, version_leaves}

pub writes-entry : ◌≡◌ {A = SourceClauses write-entry.ended} (λ M 𝓤. write-entry.clauses)
    (promised write-entry.ended (λ κs a r e.
    let out = a.0.now in
    let place = a.1.0 in
    (r ≡ writer_answers out place a.1.1.0) × (e.0.now ≡ writer_leaves out place a.1.1.0)))
writes-entry = refl

pub writes-version : ◌≡◌ {A = SourceClauses write-version.ended} (λ M 𝓤. write-version.clauses)
    (promised write-version.ended (λ κs a r e.
    let out = a.0.now in
    (r ≡ version_answers out a.1.0) × (e.0.now ≡ version_leaves out a.1.0)))
writes-version = refl

pub reads-entry : ◌≡◌ {A = SourceClauses read-entry.ended} (λ M 𝓤. read-entry.clauses) (promised read-entry.ended (λ κs a r e. r ≡ read_at a.0.now a.1.0))
reads-entry = refl

pub reads-version : ◌≡◌ {A = SourceClauses read-version.ended} (λ M 𝓤. read-version.clauses) (promised read-version.ended (λ κs a r e. r ≡ read_version a.0.now))
reads-version = refl
