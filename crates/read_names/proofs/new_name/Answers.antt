use native.Mathlib.Omega.{arith}
use mathlib.Core.Path.{refl}
use Rattle.spec_fields.specs.Refusal.{number_of}
use Rattle.spec_exi.specs.Sizes.{max_names}
use Rattle.read_field.proofs.View.{refusal-some}
use Rattle.read_partition.proofs.Fields.{passed-on}
use Rattle.read_partition.proofs.Literals.{laid-room}
use Rattle.read_names.proofs.Bounds.{name-seek-asks}
use Rattle.read_names.proofs.Rows.{name-refused-row, name-new-row}
use Rattle.read_names.proofs.NewNames.{new-joins}
use Rattle.read_names.proofs.NewNames.{new-refused, new-loose, new-forbidden, new-full}
use Rattle.read_names.proofs.new_name.Goals as goal

pub read_literal-requires : goal.read_literal-requires
read_literal-requires c = c.requires.literal

pub returns-in_err-read-clause-name_post : goal.returns-in_err-read-clause-name_post
returns-in_err-read-clause-name_post c =
    rw (passed-on c.from_residual.ensures.1, c.in_err-read.ensures.kept)
    (λ a. new-refused c.requires c.in_err-read.ensures.read _
    (λ z. absurd (omega (arith, z, refusal-some c.in_err-read.field-0.0.refusal))))

pub returns-in_err-read-clause-name_rowed : goal.returns-in_err-read-clause-name_rowed
returns-in_err-read-clause-name_rowed c =
    rw (passed-on c.from_residual.ensures.1, c.in_err-read.ensures.kept) (name-refused-row (refusal-some _))

pub seek_name-requires : goal.seek_name-requires
seek_name-requires c = name-seek-asks c.requires c.in_ok-read.ensures.read refl

pub dropped-requires : goal.dropped-requires
dropped-requires c = laid-room c.requires.literal c.in_ok-read.ensures.read refl

pub returns-in-Some-clause-name_post : goal.returns-in-Some-clause-name_post
unfolding number_of
returns-in-Some-clause-name_post c =
    rw c.dropped.ensures.stopped
    (λ a. new-loose c.requires c.in_ok-read.ensures.read _ refl c.in-Some.ensures
    (λ z. absurd (omega (arith, z))) c.dropped.ensures.cleared.text-is)

pub returns-in-Some-clause-name_rowed : goal.returns-in-Some-clause-name_rowed
returns-in-Some-clause-name_rowed c =
    rw c.dropped.ensures.stopped (name-refused-row (omega arith))

pub allowed-requires : goal.allowed-requires
allowed-requires c = c.requires.literal.few

pub dropped-requires-then-not-allowed : goal.dropped-requires-then-not-allowed
dropped-requires-then-not-allowed c =
    laid-room c.requires.literal c.in_ok-read.ensures.read refl

pub returns-then-not-allowed-clause-name_post : goal.returns-then-not-allowed-clause-name_post
unfolding number_of
returns-then-not-allowed-clause-name_post c =
    rw c.dropped-then-not-allowed.ensures.stopped
    (λ a. new-forbidden c.requires c.in_ok-read.ensures.read _ refl c.in_default.ensures refl
    c.allowed.ensures c.if-not-allowed.true c.dropped-then-not-allowed.ensures.cleared.text-is)

pub returns-then-not-allowed-clause-name_rowed : goal.returns-then-not-allowed-clause-name_rowed
returns-then-not-allowed-clause-name_rowed c =
    rw c.dropped-then-not-allowed.ensures.stopped (name-refused-row (omega arith))

pub dropped-requires-then-names-ge-MAX_NAMES : goal.dropped-requires-then-names-ge-MAX_NAMES
dropped-requires-then-names-ge-MAX_NAMES c =
    laid-room c.requires.literal c.in_ok-read.ensures.read refl

pub returns-then-names-ge-MAX_NAMES-clause-name_post : goal.returns-then-names-ge-MAX_NAMES-clause-name_post
unfolding number_of max_names
returns-then-names-ge-MAX_NAMES-clause-name_post c =
    rw c.dropped-then-names-ge-MAX_NAMES.ensures.stopped
    (λ a. new-full c.requires c.in_ok-read.ensures.read _ refl c.in_default.ensures refl
    c.allowed.ensures c.if-not-allowed.false c.if-names-ge-MAX_NAMES.true
    c.dropped-then-names-ge-MAX_NAMES.ensures.cleared.text-is)

pub returns-then-names-ge-MAX_NAMES-clause-name_rowed : goal.returns-then-names-ge-MAX_NAMES-clause-name_rowed
returns-then-names-ge-MAX_NAMES-clause-name_rowed c =
    rw c.dropped-then-names-ge-MAX_NAMES.ensures.stopped (name-refused-row (omega arith))

pub laid-requires : goal.laid-requires
laid-requires c = c.in_ok-read.ensures.read.ends refl

pub returns-clause-name_post : goal.returns-clause-name_post
unfolding max_names
returns-clause-name_post c =
    rw c.laid.ensures
    (λ a. new-joins c.requires c.in_ok-read.ensures.read _ refl c.in_default.ensures refl
    c.allowed.ensures c.if-not-allowed.false c.if-names-ge-MAX_NAMES.false)

pub returns-clause-name_rowed : goal.returns-clause-name_rowed
unfolding max_names
returns-clause-name_rowed c =
    rw c.laid.ensures
    (name-new-row _ _ _ c.if-names-ge-MAX_NAMES.false (c.in_ok-read.ensures.read.hashed.is refl))
