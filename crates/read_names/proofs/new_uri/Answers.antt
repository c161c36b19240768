use native.Mathlib.Omega.{arith}
use mathlib.Core.Path.{refl}
use Rattle.spec_fields.specs.Refusal.{number_of}
use Rattle.spec_exi.specs.Sizes.{max_uris}
use Rattle.read_field.proofs.View.{refusal-some}
use Rattle.read_partition.proofs.Fields.{passed-on}
use Rattle.read_partition.proofs.Literals.{laid-room}
use Rattle.read_names.proofs.Bounds.{uri-seek-asks}
use Rattle.read_names.proofs.Rows.{uri-refused-row, uri-new-row}
use Rattle.read_names.proofs.NewUris.{new-refused, new-loose, new-full, new-joins}
use Rattle.read_names.proofs.new_uri.Goals as goal

pub read_literal-requires : goal.read_literal-requires
read_literal-requires c = c.requires.literal

pub returns-in_err-read-clause-uri_post : goal.returns-in_err-read-clause-uri_post
returns-in_err-read-clause-uri_post c =
    rw (passed-on c.from_residual.ensures.1, c.in_err-read.ensures.kept)
    (λ a. new-refused c.requires c.in_err-read.ensures.read
    (λ z. absurd (omega (arith, z, refusal-some c.in_err-read.field-0.0.refusal))))

pub returns-in_err-read-clause-uri_rowed : goal.returns-in_err-read-clause-uri_rowed
returns-in_err-read-clause-uri_rowed c =
    rw (passed-on c.from_residual.ensures.1, c.in_err-read.ensures.kept) (uri-refused-row (refusal-some _))

pub seek_uri-requires : goal.seek_uri-requires
seek_uri-requires c = uri-seek-asks c.requires

pub dropped-requires : goal.dropped-requires
dropped-requires c = laid-room c.requires.literal c.in_ok-read.ensures.read refl

pub returns-in-Some-clause-uri_post : goal.returns-in-Some-clause-uri_post
unfolding number_of
returns-in-Some-clause-uri_post c =
    rw c.dropped.ensures.stopped
    (λ a. new-loose c.requires c.in_ok-read.ensures.read refl c.in-Some.ensures
    (λ z. absurd (omega (arith, z))) c.dropped.ensures.cleared.text-is)

pub returns-in-Some-clause-uri_rowed : goal.returns-in-Some-clause-uri_rowed
returns-in-Some-clause-uri_rowed c =
    rw c.dropped.ensures.stopped (uri-refused-row (omega arith))

pub dropped-requires-then-uris-ge-MAX_URIS : goal.dropped-requires-then-uris-ge-MAX_URIS
dropped-requires-then-uris-ge-MAX_URIS c =
    laid-room c.requires.literal c.in_ok-read.ensures.read refl

pub returns-then-uris-ge-MAX_URIS-clause-uri_post : goal.returns-then-uris-ge-MAX_URIS-clause-uri_post
unfolding number_of max_uris
returns-then-uris-ge-MAX_URIS-clause-uri_post c =
    rw c.dropped-then-uris-ge-MAX_URIS.ensures.stopped
    (λ a. new-full c.requires c.in_ok-read.ensures.read refl c.in_default.ensures refl
    c.if-uris-ge-MAX_URIS.true c.dropped-then-uris-ge-MAX_URIS.ensures.cleared.text-is)

pub returns-then-uris-ge-MAX_URIS-clause-uri_rowed : goal.returns-then-uris-ge-MAX_URIS-clause-uri_rowed
returns-then-uris-ge-MAX_URIS-clause-uri_rowed c =
    rw c.dropped-then-uris-ge-MAX_URIS.ensures.stopped (uri-refused-row (omega arith))

pub laid-requires : goal.laid-requires
laid-requires c = c.in_ok-read.ensures.read.ends refl

pub returns-clause-uri_post : goal.returns-clause-uri_post
unfolding max_uris
returns-clause-uri_post c =
    rw c.laid.ensures
    (λ a. new-joins c.requires c.in_ok-read.ensures.read refl c.in_default.ensures refl
    c.if-uris-ge-MAX_URIS.false)

pub returns-clause-uri_rowed : goal.returns-clause-uri_rowed
unfolding max_uris
returns-clause-uri_rowed c =
    rw c.laid.ensures (uri-new-row _ _ c.if-uris-ge-MAX_URIS.false)
